-- `put_spelled` meets its contract: the characters of the groups that are left are left to write.
use native.Mathlib.Omega.{arith}
use mathlib.Core.Path.{sym, ap, ◌∙◌}
use borrow.Author.Rules.{rules}
use Rattle.plate.specs.Writing.{spelled_bits}
use Rattle.text_bits.proofs.Characters.{group_fits, some_fit, spelled-none}
use Rattle.text_bits.proofs.Writes.{begun, turned}
use Rattle.text_bits.proofs.texts.put_spelled.Goals as goal

pub loop-group-init : goal.loop-group-init
loop-group-init c =
    let is = c.into_iter-group-iterator.ensures.into_iter_gives in
    let text = ap (λ i. i.rest.now) is ∙ c.chunks-group-items.ensures.rest in
    let size = ap (λ i. i.size) is ∙ c.chunks-group-items.ensures.size in
    record {
      left = begun _ _ (ap (spelled_bits c.args.width) (sym text)) (search rules);
      size = size;
      goes = rw size (some_fit _ c.requires.1 c.requires.2);
    }

pub put_bits-end-requires : goal.put_bits-end-requires
put_bits-end-requires c = group_fits _ _ (omega (arith, c.in-Some.ensures.steps, c.loop-group.invariant.size))

pub joined-requires : goal.joined-requires
joined-requires c = (search rules, group_fits _ _ (omega (arith, c.in-Some.ensures.steps, c.loop-group.invariant.size)))

pub loop-group-preserved : goal.loop-group-preserved
loop-group-preserved c =
    let steps = c.in-Some.ensures.steps in
    let front = ap (spelled_bits c.args.width) steps.1.0 ∙ c.joined.ensures.value c.next.new.self.rest.now in
    record {
      left = turned c.loop-group.invariant.left _ _ front c.put_bits-end.ensures c.requires.0;
      size = steps.0 ∙ c.loop-group.invariant.size;
      goes = rw steps.0 c.loop-group.invariant.goes;
    }

pub returns : goal.returns
returns c = c.loop-group.invariant.left.makes _ (rw (spelled-none c.args.width _ c.in-None.ensures.steps.1.0) c.put_bits.ensures)
