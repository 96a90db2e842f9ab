-- `copy_texts` meets its contract. The loop's invariant: what is left of the texts is known to be good, ends where all of them end, and
-- written from here on makes all of them.
use Rattle.std.proofs.Common.{refl, ◌≡◌, ◌+◌, ◌-◌, ◌<◌, arith, rules}
use Rattle.output.proofs.Poured.{ended}
use Rattle.plate_texts.proofs.Known.{known-one, known-others}
use Rattle.plate_texts.proofs.Ended.{ended_some}
use Rattle.plate_texts.proofs.TextsRead.{passing-start, passing-more, passing-end}
use Rattle.plate_texts.proofs.CopiedTexts.{left-all, left-more, left-none}
use Rattle.plate_texts.proofs.copying.copy_texts.Goals as goal

pub loop-init : goal.loop-init
loop-init c =
    let all : c.args.n - 0 ≡ c.args.n = omega arith in
    rw all (passing-start _ _ _ _ _ (λ ts. refl), c.requires.1, left-all _ _ _ _ _, refl, omega arith)

pub copy_text-copied-requires : goal.copy_text-copied-requires
copy_text-copied-requires c = (search rules, known-one _ _ _ c.loop.invariant.1 (omega arith))

pub loop-preserved : goal.loop-preserved
loop-preserved c =
    let more : 0 < c.args.n - c.loop.counter = omega arith in
    let less : c.args.n - c.loop.counter - 1 ≡ c.args.n - (c.loop.counter + 1) = omega arith in
    let t = ended_some 0 0 _ _ c.copy_text-copied.ensures.next_value in (
      rw less at (passing-more _ _ c.loop.invariant.0 _ _ _ more t.1 (λ ts. refl)),
      rw less at (known-others _ _ _ c.loop.invariant.1 more t.1),
      rw less at (left-more _ _ c.loop.invariant.2 more c.loop.invariant.1 (omega arith) c.put_byte-text_at.ensures c.copy_text-copied.ensures.out_after c.copy_text-copied.ensures.next_value),
      search rules,
      omega (arith, ended _ _ _ _ _ c.copy_text-copied.ensures.out_after),
    )

pub returns : goal.returns
returns c =
    let none = c.args.n - c.loop.counter in
    record {
      out_after = left-none _ none c.loop.invariant.2 (omega arith) c.loop.invariant.4;
      next_value = passing-end _ none c.loop.invariant.0 (omega arith) refl;
    }
