-- `text_of` meets its contract: the text stands at its entry's place.
use native.Mathlib.Omega.{arith}
use mathlib.Core.Path.{◌≡◌, ap, ◌∙◌}
use Prim.Native.Nat.{◌+◌, ◌-◌, ◌%◌}
use lib.ListN.{length, take, drop, get_or}
use mathlib.Core.List.{[]}
use Rattle.phrases.specs.Lookup.{book_texts}
use Rattle.phrases.proofs.Entries.{index-long, entry-is, text-placed}
use Rattle.phrases.proofs.index.text_of.Goals as goal

pub bounds-index-k : goal.bounds-index-k
bounds-index-k c = omega (arith, index-long _ _ c.requires.0, c.requires.1)

pub overflow_cast-a : goal.overflow_cast-a
overflow_cast-a c = omega (arith, c.shared_slice_known-3-1.given (129 + c.args.k))

pub slice_bounds-result-count : goal.slice_bounds-result-count
slice_bounds-result-count c =
    omega (arith, (entry-is _ _ c.requires.0 c.args.k c.requires.1).starts, c.end_of-e.ensures)

pub slice_bounds-result-start : goal.slice_bounds-result-start
slice_bounds-result-start c =
    omega (arith, (entry-is _ _ c.requires.0 c.args.k c.requires.1).starts, c.end_of-e.ensures)

pub slice_bounds-result-end : goal.slice_bounds-result-end
slice_bounds-result-end c =
    omega (arith, (text-placed _ c.args.k c.requires.1).inside, c.end_of-e.ensures)

pub returns : goal.returns
returns c =
    let at = (entry-is _ _ c.requires.0 c.args.k c.requires.1).starts in
    let long : c.end_of-e.result - get_or c.args.index.now (129 + c.args.k) 0 % 32768 ≡ length (get_or (book_texts c.args.book.now) c.args.k []) = omega (arith, at, c.end_of-e.ensures) in
    let book = c.args.book.now in
    ap (λ n. take n (drop (get_or c.args.index.now (129 + c.args.k) 0 % 32768) book)) long
    ∙ ap (λ a. take (length (get_or (book_texts book) c.args.k [])) (drop a book)) at
    ∙ (text-placed book c.args.k c.requires.1).stands
