-- `is_at` meets its contract: a text of another key is another text; else the two are compared.
use native.Mathlib.Omega.{arith}
use mathlib.Core.Path.{sym, ap, ◌∙◌}
use Prim.Native.Nat.{◌+◌}
use Rattle.text.specs.Parts.{same}
use Rattle.phrases.specs.Index.{part_of}
use Rattle.phrases.proofs.Entries.{index-long, entry-is}
use Rattle.phrases.proofs.Keys.{other_key}
use borrow.Author.Tests.{ne_eqb}
use Rattle.phrases.proofs.index.is_at.Goals as goal

pub bounds-index-k : goal.bounds-index-k
bounds-index-k c = omega (arith, index-long _ _ c.requires.0, c.requires.1)

pub overflow_cast-index : goal.overflow_cast-index
overflow_cast-index c = omega (arith, c.shared_slice_known-4-1.given (129 + c.args.k))

pub returns-then-index-k : goal.returns-then-index-k
returns-then-index-k c = c.same.ensures ∙ ap (same c.args.text.now) c.text_of.ensures

pub returns-else-index-k : goal.returns-else-index-k
returns-else-index-k c =
    let e = entry-is _ _ c.requires.0 c.args.k c.requires.1 in
    ne_eqb _ _ c.if-index-k.false
    ∙ sym (other_key _ _ (λ is. c.if-index-k.false (e.keyed ∙ ap (λ k. part_of k) (sym is) ∙ ap (λ k. part_of k) (sym c.requires.2))))
