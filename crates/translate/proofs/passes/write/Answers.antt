-- `write` meets its contract: block length leaves the table of skips, and the plate is made with it.
use Prim.Native.Nat.{ℕ}
use native.Mathlib.Omega.{arith}
use mathlib.Core.Path.{ap, ◌∙◌}
use mathlib.Core.List.{List}
use borrow.Author.Rules.{rules}
use Rattle.phrases.specs.Lookup.{book_texts}
use Rattle.lines.specs.declared.Form.TheVariants.{Guide as a_guide}
use Rattle.assemble.specs.LineCode.{program_in}
use Rattle.assemble.specs.Assembled.{lent_program}
use Rattle.guide.proofs.Counting.{few-lines}
use Rattle.translate.proofs.Counting.{whole-table}
use Rattle.translate.proofs.passes.write.Goals as goal

pub block_length-requires : goal.block_length-requires
block_length-requires c =
    let n = few-lines c.args.guide.now in
    (omega (arith, c.requires.0), search rules, search rules)

pub write-requires : goal.write-requires
write-requires c =
    (c.requires.1, rw (whole-table _ _ _ c.block_length.ensures.counts_from) c.requires.2)

pub returns : goal.returns
returns c =
    let a = c.args in
    c.write.ensures
    ∙ ap (λ (ks : List ℕ). lent_program (book_texts a.book.now) (program_in a_guide ks a.guide.now 0) a.plate.now) (whole-table _ _ _ c.block_length.ensures.counts_from)
