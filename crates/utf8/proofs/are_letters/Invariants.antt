-- `are_letters` meets its contract: what is due and the bytes left are well-formed where the whole is.
use Rattle.std.proofs.Common.{◌≡◌, drop}
use Rattle.text.specs.Utf8.{letters_behind, well_formed}
use Rattle.utf8.specs.Due.{due_of}
use Rattle.utf8.proofs.are_letters.Given as goal

abbrev pub invariant-loop-b : goal.invariant-loop-b
invariant-loop-b l = letters_behind (due_of l.due) (drop l.b-index l.s) ≡ well_formed l.s
