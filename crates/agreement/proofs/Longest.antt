-- No transcript of an accepted guide has more than 918,016 bytes, since it is that of its plate's instructions.
use Prim.Native.Nat.{ℕ, ◌≤◌}
use mathlib.Core.Path.{◌≡◌, ap}
use mathlib.Core.List.{List}
use lib.ListN.{length}
use lib.IntN.{ℤ}
use Rattle.causes.specs.Answers.{made, Output}
use Rattle.causes.specs.Limits.{most_transcript_bytes}
use Rattle.causes.proofs.Results.{made-from}
use Rattle.phrases.specs.Book.{book_phrases}
use Rattle.transcript.specs.State.{start}
use Rattle.transcript.specs.Perform.{report}
use Rattle.machine.specs.Ranged.{Ranged}
use Rattle.guide.specs.Guide.{guide_of}
use Rattle.walking.specs.Walk.{walk}
use Rattle.walking.specs.Call.{walked}
use Rattle.run.proofs.Longest.{run-most}
use Rattle.translating.specs.Translation.{translate_block, translate_guide}
use Rattle.agreement.proofs.Agreement.{agree-report}
use Rattle.agreement.proofs.Valid.{guide-valid}

pub walked-most : (book guide : List ℕ) (answers : List ℤ) (o : Output) → Ranged answers → walked book guide answers ≡ made o
    → length o.bytes ≤ most_transcript_bytes
unfolding walked translate_guide
walked-most book guide answers o h e =
    let b = made-from (book_phrases book) _ o e in
    let g = made-from (guide_of b.0 guide) _ o b.2 in
    let ok = guide-valid b.0 guide g.0 g.1 in
    let same : report (walk g.0 (start answers)) ≡ o = cc g.2 in
    rw (agree-report g.0 answers, ap (λ (x : Output). x.bytes) same) at (run-most (translate_block g.0) answers ok.instructions ok.room h)
