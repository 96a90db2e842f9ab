-- `block_length` and `statement_length` meet their contracts: each return, and each turn of the loop, is a law of proofs/Counting.antt.
use borrow.Author.Rules.{rules}
use mathlib.Core.Path.{sym, ◌∙◌}
use native.Mathlib.Omega.{arith}
use Rattle.guide.proofs.Reading.{rest-no-more, begins-less, else-less}
use Rattle.translate.specs.Lengths.{block_length}
use Rattle.translate.proofs.Counting.{begun, same_size, table-size, block-ends, block_more, plain-length, if-closed, if-turned}
use Rattle.translate.proofs.lengths.+block_length_statement_length.Goals as goal

pub block_length-loop-at-init : goal.block_length-loop-at-init
block_length-loop-at-init t c = (begun _ _ _ _, search rules, search rules, search rules)

pub block_length-statement_length-s-requires : goal.block_length-statement_length-s-requires
block_length-statement_length-s-requires t c =
    let k = begins-less _ _ _ _ c.role_at-h.ensures (sym c.begins.ensures ∙ c.if-begins.true) in
    (omega arith, (omega arith, c.role_at-h.ensures.within, c.role_at-h.ensures.clean))

pub block_length-overflow_add-instructions : goal.block_length-overflow_add-instructions
block_length-overflow_add-instructions t c =
    let k = begins-less _ _ _ _ c.role_at-h.ensures (sym c.begins.ensures ∙ c.if-begins.true) in
    omega (arith, c.statement_length-s.ensures.instructions_nonzero.1.few)

pub block_length-loop-at-smaller : goal.block_length-loop-at-smaller
block_length-loop-at-smaller t c =
    let k = begins-less _ _ _ _ c.role_at-h.ensures (sym c.begins.ensures ∙ c.if-begins.true) in
    omega (arith, c.statement_length-s.ensures.instructions_nonzero.0, c.statement_length-s.ensures.instructions_nonzero.1.few)

pub block_length-loop-at-preserved : goal.block_length-loop-at-preserved
block_length-loop-at-preserved t c =
    let r = c.role_at-h.ensures in
    let v = sym c.begins.ensures ∙ c.if-begins.true in
    let k = begins-less _ _ _ _ r v in
    let s = c.statement_length-s.ensures in
    (block_more _ _ _ _ _ _ _ c.loop-at.invariant.0 _ _ _ _ r v s.counts_from (omega (arith, s.instructions_nonzero.0, s.instructions_nonzero.1.few)), omega (arith, s.instructions_nonzero.1.few), s.instructions_nonzero.1.within, s.instructions_nonzero.1.clean)

pub block_length-shape_of-skips-else-begins : goal.block_length-shape_of-skips-else-begins
block_length-shape_of-skips-else-begins t c = same_size _ _ _ _ _ _ _ c.loop-at.invariant.0

pub block_length-returns-else-begins : goal.block_length-returns-else-begins
block_length-returns-else-begins t c =
    let i = c.loop-at.invariant in
    record {
      counts_from = block-ends _ _ _ _ _ _ _ i.0 _ _ c.role_at-h.ensures (sym c.begins.ensures ∙ c.if-begins.false);
      passed = record { few = i.1; within = i.2; clean = i.3 };
    }

pub statement_length-overflow_add-goto-then-is_else : goal.statement_length-overflow_add-goto-then-is_else
statement_length-overflow_add-goto-then-is_else t c = omega (arith, c.block_length-t.ensures.passed.few)

pub statement_length-overflow_add-goto-then-is_else-2 : goal.statement_length-overflow_add-goto-then-is_else-2
statement_length-overflow_add-goto-then-is_else-2 t c = omega (arith, c.block_length-t.ensures.passed.few, else-less _ _ _ _ c.role_at-last.ensures (sym c.is_else.ensures ∙ c.if-is_else.true))

pub statement_length-block_length-e-requires : goal.statement_length-block_length-e-requires
statement_length-block_length-e-requires t c =
    let r = c.role_at-last.ensures in
    let k = else-less _ _ _ _ r (sym c.is_else.ensures ∙ c.if-is_else.true) in
    let n = c.block_length-t.ensures.passed.few in
    (omega arith, (omega arith, r.within, r.clean))

pub statement_length-store-requires : goal.statement_length-store-requires
statement_length-store-requires t c = omega (arith, c.block_length-e.ensures.passed.few, rest-no-more _ _ _ _ c.role_at-last.ensures, c.block_length-t.ensures.passed.few, c.requires.0)

pub statement_length-overflow_add-t : goal.statement_length-overflow_add-t
statement_length-overflow_add-t t c = omega (arith, c.block_length-t.ensures.passed.few, c.requires.0)

pub statement_length-store-requires-then-is_else : goal.statement_length-store-requires-then-is_else
statement_length-store-requires-then-is_else t c = omega (arith, c.block_length-t.ensures.passed.few, c.requires.0)

pub statement_length-overflow_add-result : goal.statement_length-overflow_add-result
statement_length-overflow_add-result t c = omega (arith, c.block_length-e.ensures.passed.few, rest-no-more _ _ _ _ c.role_at-last.ensures, c.block_length-t.ensures.passed.few, c.requires.0)

pub statement_length-overflow_add-result-then-is_else : goal.statement_length-overflow_add-result-then-is_else
statement_length-overflow_add-result-then-is_else t c = omega (arith, c.block_length-e.ensures.passed.few, rest-no-more _ _ _ _ c.role_at-last.ensures, c.block_length-t.ensures.passed.few, c.requires.0)

pub statement_length-returns-then-is_else : goal.statement_length-returns-then-is_else
statement_length-returns-then-is_else t c =
    let a = c.args in
    let x = c.block_length-t.ensures in
    let r = c.role_at-last.ensures in
    let w = sym c.is_else.ensures ∙ c.if-is_else.true in
    let y = c.block_length-e.ensures in
    let q = c.role_at-fi.ensures in
    let k = else-less _ _ _ _ r w in
    let v = sym c.is_if.ensures ∙ c.if-is_if.true in
    record {
      counts_from = λ n l. if-turned _ _ _ a.role (block_length n) a.next v _ _ (x.counts_from n l) _ _ r w _ _ (y.counts_from n (omega (arith, x.passed.few))) _ _ q _ _ c.store.ensures c.store-then-is_else.ensures;
      instructions_nonzero = (omega arith, record { few = omega (arith, x.passed.few, y.passed.few, rest-no-more _ _ _ _ q); within = q.within; clean = q.clean });
    }

pub statement_length-shape_of-skips-then-is_else : goal.statement_length-shape_of-skips-then-is_else
statement_length-shape_of-skips-then-is_else t c =
    let a = c.args in
    let x = c.block_length-t.ensures in
    let r = c.role_at-last.ensures in
    let w = sym c.is_else.ensures ∙ c.if-is_else.true in
    let y = c.block_length-e.ensures in
    let q = c.role_at-fi.ensures in
    let k = else-less _ _ _ _ r w in
    let v = sym c.is_if.ensures ∙ c.if-is_if.true in
    table-size _ _ _ _ _ _ _ (λ n l. if-turned _ _ _ a.role (block_length n) a.next v _ _ (x.counts_from n l) _ _ r w _ _ (y.counts_from n (omega (arith, x.passed.few))) _ _ q _ _ c.store.ensures c.store-then-is_else.ensures)

pub statement_length-store-requires-then-is_if : goal.statement_length-store-requires-then-is_if
statement_length-store-requires-then-is_if t c = omega (arith, c.block_length-t.ensures.passed.few, c.requires.0)

pub statement_length-overflow_add-result-then-is_if : goal.statement_length-overflow_add-result-then-is_if
statement_length-overflow_add-result-then-is_if t c = omega (arith, c.block_length-t.ensures.passed.few, c.requires.0)

pub statement_length-returns-then-is_if : goal.statement_length-returns-then-is_if
statement_length-returns-then-is_if t c =
    let a = c.args in
    let x = c.block_length-t.ensures in
    let r = c.role_at-last.ensures in
    let v = sym c.is_if.ensures ∙ c.if-is_if.true in
    let w = sym c.is_else.ensures ∙ c.if-is_else.false in
    record {
      counts_from = λ n l. if-closed _ _ _ a.role (block_length n) a.next v _ _ (x.counts_from n l) _ _ r w _ c.store-then-is_if.ensures;
      instructions_nonzero = (omega arith, record { few = omega (arith, x.passed.few, rest-no-more _ _ _ _ r); within = r.within; clean = r.clean });
    }

pub statement_length-shape_of-skips-then-is_if : goal.statement_length-shape_of-skips-then-is_if
statement_length-shape_of-skips-then-is_if t c =
    let a = c.args in
    let x = c.block_length-t.ensures in
    let r = c.role_at-last.ensures in
    let v = sym c.is_if.ensures ∙ c.if-is_if.true in
    let w = sym c.is_else.ensures ∙ c.if-is_else.false in
    table-size _ _ _ _ _ _ _ (λ n l. if-closed _ _ _ a.role (block_length n) a.next v _ _ (x.counts_from n l) _ _ r w _ c.store-then-is_if.ensures)

pub statement_length-returns : goal.statement_length-returns
statement_length-returns t c =
    let a = c.args in
    let v = sym c.is_if.ensures ∙ c.if-is_if.false in
    record {
      counts_from = λ n l. plain-length _ _ _ a.role (block_length n) _ _ v c.store-2.ensures;
      instructions_nonzero = (omega arith, record { few = omega arith; within = search rules; clean = search rules });
    }
