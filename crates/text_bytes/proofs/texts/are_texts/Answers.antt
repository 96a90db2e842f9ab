-- `are_texts` meets its contract: the library's `split` and `all` are those of specs/.
use Rattle.std.proofs.Common.{rules, ◌∙◌, sym, drop}
use borrow.Author.Tests.{tests}
use Rattle.std.proofs.lemmas.Iterator.Adapters.{YieldsList-from_skip}
use Rattle.std.proofs.lemmas.Iterator.Consumers.{YieldsList-at}
use Rattle.std.proofs.lemmas.Iterator.Search.{all_from_yields_List}
use Rattle.std.proofs.lemmas.Iterator.Splits.{YieldsList-from_slice_split}
use Rattle.std.specs.List.{slice_split}
use lib.Dec.{eqb}
use Rattle.text.specs.Parts.{comma}
use Rattle.text.specs.Text.{is_text}
use Rattle.text.proofs.Words.{all_is, split_is}
use Rattle.text_bytes.proofs.texts.are_texts.Goals as goal

pub returns : goal.returns
returns c =
    let s = c.args.s.now in
    all_from_yields_List is_text _ _ _ c.all.ensures.ran (YieldsList-from_skip c.args.k (YieldsList-at c.skip.ensures.source (YieldsList-from_slice_split _ (λ b. eqb b comma) s c.split.ensures.rest c.split.ensures.done c.split.ensures.closure (λ x b q k. search (rules, tests)))) c.skip.ensures.count) (λ x b q k. search (rules, tests))
    ∙ sym (rw (split_is comma s) (all_is is_text (drop c.args.k (slice_split (λ b. eqb b comma) s))))
