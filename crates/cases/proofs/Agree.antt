-- The test of a row tells the truth: where it holds, what is computed and what was worked by hand are equal.
use Prim.Native.Nat.{ℕ}
use native.Mathlib.Omega.{arith}
use mathlib.Core.Path.{◌≡◌, refl, ap, ap₂}
use mathlib.Core.List.{List, [], ◌∷◌, ◌++◌}
use mathlib.Core.Bool.{true}
use lib.Dec.{eqb}
use borrow.Author.Tests.{eqb-true}
use Rattle.causes.specs.Answers.{Answer, wrote, ended, refusal}
use Rattle.text.specs.Parts.{same}
use Rattle.text.proofs.Tests.{and_parts, same-equal}
use Rattle.cases.specs.Row.{Row, ◌gives◌, ◌counts◌, ◌prints◌, Worth, returned, counted, text, computed, worked}
use Rattle.cases.specs.Agree.{numbers, same_returned, agrees, all_agree}

-- an answer's numbers tell it
answer-same : (a b : Answer) → numbers a ≡ numbers b → a ≡ b
answer-same (wrote n) (wrote m) e = cc
answer-same (wrote n) (ended m o t k w) e = let z : ◌≡◌ {A = ℕ} 0 1 = cc in absurd (omega arith)
answer-same (wrote n) (refusal m p) e = let z : ◌≡◌ {A = ℕ} 0 2 = cc in absurd (omega arith)
answer-same (ended n o t k w) (wrote m) e = let z : ◌≡◌ {A = ℕ} 1 0 = cc in absurd (omega arith)
answer-same (ended n o t k w) (ended m o' t' k' w') e = cc
answer-same (ended n o t k w) (refusal m p) e = let z : ◌≡◌ {A = ℕ} 1 2 = cc in absurd (omega arith)
answer-same (refusal n p) (wrote m) e = let z : ◌≡◌ {A = ℕ} 2 0 = cc in absurd (omega arith)
answer-same (refusal n p) (ended m o t k w) e = let z : ◌≡◌ {A = ℕ} 2 1 = cc in absurd (omega arith)
answer-same (refusal n p) (refusal m q) e = cc

returned-same : (a b : Answer × List ℕ) → same_returned a b ≡ true → returned a ≡ returned b
returned-same a b e =
    let h = and_parts (same (numbers a.0) (numbers b.0)) (same a.1 b.1) e in
    let p = answer-same a.0 b.0 (same-equal (numbers a.0) (numbers b.0) h.0) in
    let q = same-equal a.1 b.1 h.1 in
    λ i. returned (p i, q i)

pub all-agree : (rows : List Row) → all_agree rows ≡ true → computed rows ≡ worked rows
unfolding all_agree computed worked
all-agree [] e = refl
all-agree ((c gives w) ∷ rows) e =
    let h = and_parts (same_returned c w) (all_agree rows) e in
    ap₂ (λ (x : Worth) (l : List Worth). x ∷ l) (returned-same c w h.0) (all-agree rows h.1)
all-agree ((c counts w) ∷ rows) e =
    let h = and_parts (eqb c w) (all_agree rows) e in
    ap₂ (λ (x : Worth) (l : List Worth). x ∷ l) (ap counted (eqb-true c w h.0)) (all-agree rows h.1)
all-agree ((c prints w) ∷ rows) e =
    let h = and_parts (same c w) (all_agree rows) e in
    ap₂ (λ (x : Worth) (l : List Worth). x ∷ l) (ap text (same-equal c w h.0)) (all-agree rows h.1)

-- two tables, one behind the other
pub agree-append : (r s : List Row) → all_agree r ≡ true → all_agree s ≡ true → all_agree (r ++ s) ≡ true
unfolding all_agree
agree-append [] s e f = f
agree-append (x ∷ r) s e f =
    let h = and_parts (agrees x) (all_agree r) e in
    rw h.0 (agree-append r s h.1 f)
