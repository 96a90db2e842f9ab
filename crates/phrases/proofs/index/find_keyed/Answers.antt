-- `find_keyed` meets its contract: no text from the link on is the one looked for, and each link is smaller.
use native.Mathlib.Omega.{arith}
use Prim.Native.Nat.{ℕ, ◌+◌, ◌<◌, ◌%◌}
use mathlib.Core.Path.{◌≡◌, sym, ap, subst, ◌∙◌}
use Rattle.phrases.specs.Lookup.{book_texts}
use Rattle.phrases.specs.Index.{list_of, last_of}
use Rattle.phrases.proofs.Entries.{index-long, last-at, link-is, link-falls}
use Rattle.phrases.proofs.Keys.{Searched, search-starts, search-ends, search-found, search-goes}
use Rattle.phrases.proofs.index.find_keyed.Goals as goal

-- some text stands at the link
some-text : {n : ℕ} → (n ≡ 0 → ⊥) → 0 < n
some-text h = omega arith

pub bounds-index-weight : goal.bounds-index-weight
bounds-index-weight c = omega (arith, index-long _ _ c.requires.0)

pub overflow_cast-next : goal.overflow_cast-next
overflow_cast-next c = omega (arith, c.shared_slice_known-4-1.given (c.args.weight % 128 + 1))

pub loop-next-init : goal.loop-next-init
loop-next-init c =
    let e = last-at _ _ c.requires.0 (c.args.weight % 128) (omega arith) ∙ ap (λ k. last_of (list_of k) (book_texts c.args.book.now)) c.requires.1 in
    subst (Searched (book_texts c.args.book.now) c.args.text.now) (sym e) (search-starts _ _)

pub is_at-requires : goal.is_at-requires
is_at-requires c = (c.requires.0, omega (arith, c.loop-next.invariant.bound, c.loop-next-test.true), c.requires.1)

pub returns-then-is_at : goal.returns-then-is_at
returns-then-is_at c =
    sym (search-found _ _ _ c.loop-next.invariant (some-text c.loop-next-test.true) c.requires.0.different (sym c.is_at.ensures ∙ c.if-is_at.true))

pub bounds-index-next : goal.bounds-index-next
bounds-index-next c = omega (arith, index-long _ _ c.requires.0, c.loop-next.invariant.bound, c.loop-next-test.true)

pub overflow_cast-next-in-loop-next : goal.overflow_cast-next-in-loop-next
overflow_cast-next-in-loop-next c = omega (arith, c.shared_slice_known-in-loop-next-1.given (128 + c.loop-next.next))

pub loop-next-smaller : goal.loop-next-smaller
loop-next-smaller c = link-falls _ _ c.requires.0 c.loop-next.next (some-text c.loop-next-test.true) c.loop-next.invariant.bound

pub loop-next-preserved : goal.loop-next-preserved
loop-next-preserved c =
    let some = some-text c.loop-next-test.true in
    subst (Searched (book_texts c.args.book.now) c.args.text.now) (sym (link-is _ _ c.requires.0 c.loop-next.next some c.loop-next.invariant.bound))
    (search-goes _ _ _ c.loop-next.invariant some (sym c.is_at.ensures ∙ c.if-is_at.false))

pub returns : goal.returns
returns c =
    sym (search-ends _ _ (subst (Searched (book_texts c.args.book.now) c.args.text.now) c.loop-next-test.false c.loop-next.invariant))
