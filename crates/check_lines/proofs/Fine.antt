-- What the check says of a text that it accepts: the text is accepted, and the instructions seen at its end are those it counts.
use Prim.Native.Nat.{ℕ}
use native.Mathlib.Omega.{arith}
use mathlib.Core.Path.{◌≡◌, ap}
use mathlib.Core.List.{List}
use lib.ListN.{length}
use Rattle.std.specs.Prelude.{Result, Ok}
use Rattle.causes.specs.declared.Refusal.{Refusal}
use borrow.Author.Tests.{le-leb}
use Rattle.text.specs.Text.{Text}
use Rattle.phrases.specs.Lookup.{own_texts}
use Rattle.lines.specs.declared.Form.{Form}
use Rattle.lines.specs.declared.Form.TheVariants.{Guide as a_guide}
use Rattle.lines.specs.declared.Counts.{Counts}
use Rattle.lines.specs.Check.{nothing_seen, most_bytes, lines_of}
use Rattle.lines.specs.Answers.{seen_in, checked_answer}
use Rattle.lines.proofs.Passes.{passes-check}
use Rattle.lines.proofs.Kept.{guide-own}
use Rattle.lines.proofs.Accepts.{Accepts, accepts}
use Rattle.check_lines.proofs.Answers.{accept-is}

module _ (form : Form) (book : List Text) (text : List ℕ) {k : Counts} (c : checked_answer (seen_in form book text) ≡ Ok k) where
  pub fine-accepts : Accepts form book text (record { own = own_texts k.own text; lines = lines_of form text })
  fine-accepts = accepts form book text _ (accept-is form text book c)

  fine-seen : ◌≡◌ {A = Result Counts Refusal} (Ok (record { own = length fine-accepts.seen.own; instructions = fine-accepts.seen.instructions })) (Ok k)
  unfolding seen_in
  fine-seen =
      let e = passes-check book 1 nothing_seen fine-accepts.seen (lines_of form text) fine-accepts.passes in
      rw (le-leb (length text) (most_bytes form) fine-accepts.size, e) at c

  pub fine-counted : fine-accepts.seen.instructions ≡ k.instructions
  fine-counted = let e = fine-seen in cc

  fine-own : length fine-accepts.seen.own ≡ k.own
  fine-own = let e = fine-seen in cc

-- a guide has no own phrases
pub guide-no-own : (book : List Text) (text : List ℕ) {k : Counts} → checked_answer (seen_in a_guide book text) ≡ Ok k → k.own ≡ 0
guide-no-own book text c =
    let a = fine-accepts a_guide book text c in
    let none = guide-own book 1 nothing_seen a.seen (lines_of a_guide text) a.valid a.passes in
    omega (arith, ap length none, fine-own a_guide book text c)
