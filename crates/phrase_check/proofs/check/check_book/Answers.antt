-- `check_book` meets its contract: the lines before a are n good lines, and the numbers begin with their index.
use mathlib.Core.List.{[]}
use Rattle.output.proofs.Pour.{pour-length}
use Rattle.phrases.specs.Index.{list_of, index_of}
use borrow.Author.Rules.{rules}
use borrow.Author.Rules.{rules}
use native.Mathlib.Omega.{arith}
use Prim.Native.Nat.{◌<◌}
use mathlib.Core.Path.{sym, ap, ◌∙◌}
use lib.ListN.{length}
use lib.Seq.{length-take-le}
use Rattle.phrase_check.proofs.Checked.{good_none, good-end, good-texts-end, good-texts-last, good-texts-bad, last-bad, line-bad, line-good, next_small, next-new}
use Rattle.phrases.proofs.BookLines.{front-texts}
use Rattle.phrases.proofs.Entered.{entered-none, cleared, entered-length, entered-indexed, before_small, entered-more, left_is, indexed-whole}
use Rattle.phrase_check.proofs.check.check_book.Goals as goal
use Rattle.phrase_check.proofs.check.check_book.Goals.{then-e-book-via-then-e-book, then-e-book-via-else-e-book+then-not-is_next}

pub loop-a-init : goal.loop-a-init
loop-a-init c =
    (good_none _, entered-none _ _ _ (cleared _ _ c.clear.ensures), search rules, search rules, search rules, omega (arith, ap length c.clear.ensures, pour-length 0 (index_of []) c.args.index.now, c.requires))

pub slice_bounds-is_next-end : goal.slice_bounds-is_next-end
slice_bounds-is_next-end c =
    sym (length-take-le c.loop-a.a c.args.book.now c.loop-a.invariant.4)

pub is_next-requires : goal.is_next-requires
is_next-requires c = ((entered-indexed _ _ _ _ _ c.loop-a.invariant.1 c.loop-a.invariant.0.count c.loop-a.invariant.2 c.loop-a.invariant.5 c.loop-a.invariant.4), c.key_of-weight.ensures)

pub enter-requires : goal.enter-requires
enter-requires c =
    let few = (next_small _ _ (sym c.is_next.ensures ∙ c.if-not-is_next.false)).1 in
    (omega (arith, c.loop-a.invariant.5, entered-length _ _ _ _ _ c.loop-a.invariant.1), omega (arith, few, c.loop-a.invariant.0.count), omega (arith, c.loop-a.invariant.1.short, c.loop-a.invariant.2), before_small _ _ _ _ _ c.loop-a.invariant.1 c.loop-a.invariant.0.count c.loop-a.invariant.2 c.loop-a.invariant.5 c.loop-a.invariant.4 (list_of c.key_of-weight.result) (omega arith))

pub loop-a-preserved : goal.loop-a-preserved
loop-a-preserved c =
    let within : c.find-e.result < length c.args.book.now = omega (arith, c.find-e.ensures.upper_bound, c.if-e-book.false) in
    let e = sym c.is_next.ensures ∙ c.if-not-is_next.false in
    let small = next_small _ _ e in
    let texts = front-texts _ _ _ c.find-e.ensures.value within c.loop-a.invariant.0.whole in
    let is = rw c.key_of-weight.ensures at c.enter.ensures in
    let entered = entered-more _ _ _ _ _ c.loop-a.invariant.1 c.loop-a.invariant.0.count c.loop-a.invariant.2 c.loop-a.invariant.5 c.loop-a.invariant.4 c.find-e.result _ small.0 (search rules) within (next-new _ _ e) is texts in
    (line-good _ _ _ c.loop-a.invariant.0 _ c.find-e.ensures.value within e, entered, omega (arith, small.1, c.loop-a.invariant.0.count), search rules, search rules, c.loop-a.invariant.5)

pub returns-then-e-book-clause-index_after : goal.returns-then-e-book-clause-index_after
returns-then-e-book-clause-index_after c =
    elim c.then-e-book.branch [
      | then-e-book-via-then-e-book w ↦
          let bad = last-bad _ _ _ c.loop-a.invariant.0 _ c.find-e.ensures.value c.loop-a-test.true w.if-e-book.true in
          let same = left_is _ _ _ _ _ _ c.loop-a.invariant.1 c.clear.ensures (good-texts-last _ _ _ c.loop-a.invariant.0 _ c.find-e.ensures.value w.if-e-book.true) in
          λ i. (sym bad i, same i)
      | then-e-book-via-else-e-book+then-not-is_next w ↦
          let within : c.find-e.result < length c.args.book.now = omega (arith, c.find-e.ensures.upper_bound, w.if-e-book.false) in
          let e = sym w.is_next.ensures ∙ w.if-not-is_next.true in
          let bad = line-bad _ _ _ c.loop-a.invariant.0 _ c.find-e.ensures.value within e in
          let same = left_is _ _ _ _ _ _ c.loop-a.invariant.1 c.clear.ensures (good-texts-bad _ _ _ c.loop-a.invariant.0 _ c.find-e.ensures.value within e) in
          λ i. (sym bad i, same i)
    ]

pub returns-clause-index_after : goal.returns-clause-index_after
returns-clause-index_after c =
    let good = good-end _ _ _ c.loop-a.invariant.0 c.loop-a-test.false in
    let same = left_is _ _ _ _ _ _ c.loop-a.invariant.1 c.clear.ensures (good-texts-end _ _ _ c.loop-a.invariant.0 c.loop-a-test.false) in
    λ i. (sym good i, same i)

pub returns-clause-by_index : goal.returns-clause-by_index
returns-clause-by_index c =
    λ n e. indexed-whole _ _ _ (entered-indexed _ _ _ _ _ c.loop-a.invariant.1 c.loop-a.invariant.0.count c.loop-a.invariant.2 c.loop-a.invariant.5 c.loop-a.invariant.4) c.loop-a-test.false
