-- `see_answers` meets its contract: the answers passed have 32 bits.
use Rattle.std.proofs.Common.{ℕ, ◌<◌, get_or, pos}
use Rattle.std.specs.Int.Signed.{mag}
use Rattle.machine.proofs.report.see_answers.Given as goal

abbrev pub invariant-loop-answer : goal.invariant-loop-answer
invariant-loop-answer l = (k : ℕ) → k < l.answer-index → mag (get_or l.answers k (pos 0)) < 2147483648
