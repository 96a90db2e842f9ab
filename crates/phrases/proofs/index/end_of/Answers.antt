-- `end_of` meets its contract: the next text starts one behind the LF, and the book ends one behind the last LF.
use native.Mathlib.Omega.{arith}
use Prim.Native.Nat.{◌+◌, ◌<◌, ◌≤◌}
use lib.ListN.{length}
use Rattle.phrases.specs.Lookup.{book_texts}
use Rattle.phrases.proofs.Entries.{indexed-count, index-long, ends_last, ends_next}
use Rattle.phrases.proofs.index.end_of.Goals as goal

pub bounds-index-0 : goal.bounds-index-0
bounds-index-0 c = omega (arith, index-long _ _ c.requires.0)

pub overflow_cast-index : goal.overflow_cast-index
overflow_cast-index c = omega (arith, c.shared_slice_known-1.given 0)

pub bounds-index-k : goal.bounds-index-k
bounds-index-k c = omega (arith, index-long _ _ c.requires.0, indexed-count _ _ c.requires.0, c.if-k-index.true)

pub overflow_cast-result : goal.overflow_cast-result
overflow_cast-result c = omega (arith, c.shared_slice_known-then-k-index-1.given (130 + c.args.k))

pub overflow_sub-result : goal.overflow_sub-result
overflow_sub-result c =
    let more : c.args.k + 1 < length (book_texts c.args.book.now) = omega (arith, indexed-count _ _ c.requires.0, c.if-k-index.true) in
    omega (arith, ends_next _ _ c.requires.0 c.args.k more)

pub overflow_sub-result-else-k-index : goal.overflow_sub-result-else-k-index
overflow_sub-result-else-k-index c =
    let last : length (book_texts c.args.book.now) ≤ c.args.k + 1 = omega (arith, indexed-count _ _ c.requires.0, c.if-k-index.false) in
    omega (arith, ends_last _ _ c.requires.0 c.args.k c.requires.1 last)

pub returns-then-k-index : goal.returns-then-k-index
returns-then-k-index c =
    let more : c.args.k + 1 < length (book_texts c.args.book.now) = omega (arith, indexed-count _ _ c.requires.0, c.if-k-index.true) in
    omega (arith, ends_next _ _ c.requires.0 c.args.k more)

pub returns-else-k-index : goal.returns-else-k-index
returns-else-k-index c =
    let last : length (book_texts c.args.book.now) ≤ c.args.k + 1 = omega (arith, indexed-count _ _ c.requires.0, c.if-k-index.false) in
    omega (arith, ends_last _ _ c.requires.0 c.args.k c.requires.1 last)
