-- The call: a refusal of the book or of the guide, and the walk over the guide's lines.
use Prim.Native.Nat.{ℕ}
use native.Mathlib.Omega.{arith}
use mathlib.Core.Path.{◌≡◌, sym, ap, ◌∙◌}
use mathlib.Core.List.{List}
use lib.ListN.{length}
use lib.IntN.{ℤ}
use Rattle.causes.specs.Answers.{made, refused, Answer, refusing, lent}
use Rattle.causes.specs.declared.Refusal.{Refusal}
use Rattle.std.specs.Prelude.{Ok, Err}
use Rattle.phrases.specs.Book.{book_phrases}
use Rattle.phrases.specs.Lookup.{book_texts, book_answer}
use Rattle.phrases.proofs.Answers.{book-is}
use Rattle.transcript.specs.declared.Machine.{Machine}
use Rattle.transcript.specs.State.{State, start}
use Rattle.transcript.specs.Perform.{Ending, report}
use Rattle.transcript.specs.Machine.{machine_state, laid, performed}
use Rattle.lines.specs.declared.Form.TheVariants.{Guide as a_guide}
use Rattle.lines.specs.declared.Counts.{Counts}
use Rattle.lines.specs.Check.{lines_of}
use Rattle.lines.specs.Answers.{seen_in, checked_answer}
use Rattle.check_lines.proofs.Answers.{accept-is}
use Rattle.guide.specs.Block.{block_of}
use Rattle.guide.specs.Guide.{guide_of}
use Rattle.guide.specs.Lines.{lines_at}
use Rattle.guide.proofs.Accepted.{accepted-guide}
use Rattle.walking.specs.Call.{walked, walk_call}
use Rattle.walk_blocks.specs.declared.Walked.{Walked}
use Rattle.walk_blocks.specs.Descend.{descend, walk_text}
use Rattle.walk_blocks.specs.Leaves.{LeavesFrom}
use Rattle.walk.proofs.WalkLines.{walk-lines}

-- ---- the walk over the lines, from the start

pub text-laid : (g : List ℕ) (answers rs : List ℤ) (m : Machine) (w : Walked) (us : List ℤ) (o out : List ℕ)
    → LeavesFrom g 0 answers w us o 0 (λ n. descend n (machine_state rs answers m) (lines_at g 0)) out → machine_state rs answers m ≡ start answers
    → performed us answers w.left o ≡ laid 0 (walk_text g answers) out
unfolding walk_text
text-laid g answers rs m w us o out f e =
    (f (length (lines_at g 0)) (omega arith)).left
    ∙ ap (λ (s : State). laid 0 (descend (length (lines_at g 0)) s (lines_at g 0)).ending out) e

-- ---- the book and the guide

module _ (g book : List ℕ) (answers : List ℤ) where
  book-refused : (r : Refusal) → book_answer (book_phrases book) ≡ Err r → walked book g answers ≡ refused r.cause r.place
  unfolding walked
  book-refused r e = rw (book-is book e)

  guide-refused : (n : ℕ) (r : Refusal) → book_answer (book_phrases book) ≡ Ok n
      → checked_answer (seen_in a_guide (book_texts book) g) ≡ Err r → walked book g answers ≡ refused r.cause r.place
  unfolding walked guide_of
  guide-refused n r e f = rw (book-is book e, accept-is a_guide g (book_texts book) f)

  -- an accepted guide is walked over its lines
  text-walked : (n : ℕ) (k : Counts) → book_answer (book_phrases book) ≡ Ok n
      → checked_answer (seen_in a_guide (book_texts book) g) ≡ Ok k → walked book g answers ≡ made (report (walk_text g answers))
  unfolding walked guide_of walk_text lines_at
  text-walked n k e f =
      let accepted = accept-is a_guide g (book_texts book) f in
      let printed = (accepted-guide (book_texts book) g _ accepted).printed in
      rw (book-is book e, accepted)
      (ap (λ (w : Ending). made (report w))
      (sym (walk-lines (lines_of a_guide g) (block_of (lines_of a_guide g)) (start answers) printed)))

  -- ---- what the call leaves

  module _ (out : List ℕ) where
    pub call-book : (r : Refusal) → book_answer (book_phrases book) ≡ Err r → (refusing r.cause r.place, out) ≡ walk_call g book answers out
    unfolding walk_call
    call-book r e = rw (book-refused r e)

    pub call-guide : (n : ℕ) (r : Refusal) → book_answer (book_phrases book) ≡ Ok n
        → checked_answer (seen_in a_guide (book_texts book) g) ≡ Err r → (refusing r.cause r.place, out) ≡ walk_call g book answers out
    unfolding walk_call
    call-guide n r e f = rw (guide-refused n r e f)

    pub call-walked : (n : ℕ) (k : Counts) (y : Answer × List ℕ) → book_answer (book_phrases book) ≡ Ok n
        → checked_answer (seen_in a_guide (book_texts book) g) ≡ Ok k → y ≡ lent (made (report (walk_text g answers))) out
        → y ≡ walk_call g book answers out
    unfolding walk_call
    call-walked n k y e f h = rw (text-walked n k e f) h
