-- `clear` meets its contract: the index of no texts is 129 zeros.
use native.Mathlib.Omega.{arith}
use mathlib.Core.Path.{◌≡◌}
use mathlib.Core.List.{[]}
use lib.ListN.{length, take, replicate}
use lib.Seq.{length-take-le}
use Rattle.output.proofs.Pour.{pour-fits}
use Rattle.phrases.specs.Index.{index_of}
use Rattle.phrases.proofs.Entries.{index-length}
use Rattle.phrases.proofs.CheckedBooks.{none-index}
use Rattle.phrase_check.proofs.numbers.clear.Goals as goal

pub slice_bounds-fill-end-2 : goal.slice_bounds-fill-end-2
slice_bounds-fill-end-2 c = omega (arith, length-take-le 129 c.args.index.now, c.requires)

pub returns : goal.returns
returns c =
    let old = c.args.index.now in
    let size : length (take 129 old) ≡ 129 = omega (arith, length-take-le 129 old, c.requires) in
    let filled : c.fill.new.self ≡ replicate 129 0 = rw size at (c.fill.ensures.after (λ y e. e)) in
    rw (filled, pour-fits (index_of []) old (omega (arith, index-length [], c.requires)), index-length [], ← none-index)
