-- `are_allowed` meets its contract: the library's `all` is that of specs/.
use Rattle.std.proofs.Common.{rules, ◌∙◌, sym}
use borrow.Author.Tests.{tests}
use Rattle.std.proofs.lemmas.Iterator.{YieldsList-from_slice}
use Rattle.std.proofs.lemmas.Iterator.Search.{all_from_yields_List}
use Rattle.text.specs.Text.{allowed}
use Rattle.text.proofs.Words.{all_is}
use Rattle.text_bytes.proofs.texts.are_allowed.Goals as goal

pub returns : goal.returns
returns c = all_from_yields_List allowed _ _ _ c.all.ensures.ran (YieldsList-from_slice c.args.s.now (cc)) (λ x b q k. search (rules, tests)) ∙ sym (all_is allowed c.args.s.now)
