-- `part` meets its contract: the library's `split` is that of specs/.
use Rattle.std.proofs.Common.{rules, ◌≡◌, ◌∙◌, ap, refl, ℕ, List, Option, Some, None, get_or, Bor}
use borrow.Author.Tests.{tests}
use Rattle.std.proofs.lemmas.Iterator.Consumers.{nth_from_yields_List}
use Rattle.std.proofs.lemmas.Iterator.Splits.{YieldsList-from_slice_split}
use Rattle.std.proofs.lemmas.Option.{unwrap_or-slice_get}
use Rattle.std.specs.List.{slice_get}
use Rattle.std.specs.Option.{option_map, unwrap_or}
use lib.Dec.{eqb}
use Rattle.text.proofs.Words.{split_is}
use Rattle.text_parts.proofs.parts.part.Goals as goal

-- the bytes of the part taken, or those of the other where there is none
module _ (other : Bor (List ℕ)) where
  bytes : (r : Option (Bor (List ℕ))) → (unwrap_or r other).now ≡ unwrap_or (option_map (λ p. p.now) r) other.now
  bytes (Some p) = refl
  bytes None = refl

  taken : (r : Option (Bor (List ℕ))) (parts : List (List ℕ)) (k : ℕ) → option_map (λ p. p.now) r ≡ slice_get parts k
      → (unwrap_or r other).now ≡ get_or parts k other.now
  taken r parts k e = bytes r ∙ ap (λ o. unwrap_or o other.now) e ∙ unwrap_or-slice_get parts k other.now

pub returns : goal.returns
returns c =
    let s = c.args.s.now in
    let x = c.args.x in
    rw (split_is x s, c.unwrap_or.ensures)
    (taken _ c.nth.result _ c.args.k (nth_from_yields_List _ _ c.args.k c.nth.ensures.ran (YieldsList-from_slice_split _ (λ b. eqb b x) s c.split.ensures.rest c.split.ensures.done c.split.ensures.closure (λ y b q k. search (rules, tests)))))
