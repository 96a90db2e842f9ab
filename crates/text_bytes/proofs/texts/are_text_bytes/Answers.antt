-- `are_text_bytes` meets its contract: the bytes are folded into whether each of them is one of a text.
use Rattle.std.proofs.Common.{rules, ◌≡◌, ◌∙◌, refl, sym, ap, ℕ, List, [], ◌∷◌, Bool, true, false, ◌&&◌}
use borrow.Author.Tests.{tests}
use Rattle.std.proofs.lemmas.Iterator.{YieldsList-from_slice}
use Rattle.std.proofs.lemmas.Iterator.Consumers.{fold_from_yields_List}
use Rattle.std.specs.List.{fold}
use Rattle.text.specs.Parts.{all}
use Rattle.text.specs.Text.{text_byte}
use Rattle.text_bytes.proofs.texts.are_text_bytes.Goals as goal

and-all : (g : Bool) (s : List ℕ) → fold (λ a b. a && text_byte b) g s ≡ (g && all text_byte s)
unfolding all
and-all true [] = refl
and-all false [] = refl
and-all true (b ∷ s) = and-all (text_byte b) s
and-all false (b ∷ s) = and-all false s

pub returns : goal.returns
returns c =
    fold_from_yields_List _ (λ a b. a && text_byte b) true c.fold.result c.fold.ensures.ran (YieldsList-from_slice c.args.s.now (cc)) (λ a x b q k. search (rules, tests))
    ∙ and-all true c.args.s.now
