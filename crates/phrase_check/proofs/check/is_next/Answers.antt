-- `is_next` meets its contract: a line is good where it passes each of the three tests.
use native.Mathlib.Omega.{arith}
use Prim.Native.Nat.{◌<◌}
use mathlib.Core.Path.{sym, ap, ◌∙◌}
use borrow.Author.Tests.{ltb-true}
use Rattle.std.specs.Prelude.{is_some}
use lib.ListN.{length}
use Rattle.phrases.specs.Lookup.{book_texts}
use Rattle.phrases.proofs.Entries.{indexed-count}
use Rattle.phrase_check.proofs.Checked.{next-full, next-no-text, next-found}
use Rattle.phrase_check.proofs.check.is_next.Goals as goal
use Rattle.phrase_check.proofs.check.is_next.Goals.{then-count_of-lt-PHRASES, else-count_of-lt-PHRASES}

pub returns-then-is_text : goal.returns-then-is_text
returns-then-is_text c =
    elim c.if-count_of-lt-PHRASES.branch [
      | then-count_of-lt-PHRASES w ↦
          let few : length (book_texts c.args.earlier.now) < 256 = omega (arith, indexed-count _ _ c.requires.0, c.count_of.ensures, w.if-count_of-lt-PHRASES.true) in
          let text = sym w.is_text.ensures ∙ sym w.value-is ∙ c.if-is_text.true in
          next-found _ _ few text _ (ap is_some (sym c.find_keyed.ensures) ∙ c.is_none.ensures)
      | else-count_of-lt-PHRASES w ↦ absurd (omega (arith, ltb-true _ _ (sym w.value-is ∙ c.if-is_text.true), w.if-count_of-lt-PHRASES.false))
    ]

pub returns-else-is_text : goal.returns-else-is_text
returns-else-is_text c =
    c.if-is_text.false
    ∙ sym (elim c.if-count_of-lt-PHRASES.branch [
      | then-count_of-lt-PHRASES w ↦ next-no-text _ _ (sym w.is_text.ensures ∙ sym w.value-is ∙ c.if-is_text.false)
      | else-count_of-lt-PHRASES w ↦ next-full _ _ (omega (arith, indexed-count _ _ c.requires.0, c.count_of.ensures, w.if-count_of-lt-PHRASES.false))
    ])
