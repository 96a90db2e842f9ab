-- A call of walk or run that has ended: its output was made, and stands at the buffer's front.
use Prim.Native.Nat.{ℕ}
use native.Mathlib.Omega.{arith}
use mathlib.Core.Path.{◌≡◌, refl, sym, ap}
use mathlib.Core.List.{List, ◌++◌}
use mathlib.Core.Bool.{Bool, true, false, cond}
use lib.ListN.{length, drop}
use lib.Dec.{leb}
use Rattle.causes.specs.declared.Cause.TheVariants.{TooShort}
use Rattle.causes.specs.Answers.{Result, made, refused, Answer, ended, refusal, Output, refusing, lent}

refusal-no-end : {number place n o k s w : ℕ} → refusal number place ≡ ended n o k s w → ⊥
refusal-no-end e = let z : ◌≡◌ {A = ℕ} 0 1 = cc in omega arith

pub record Ended (r : Result Output) (n o k s w : ℕ) (after : List ℕ) : Type 0 where
  pub out : Output
  pub makes : r ≡ made out
  pub answers : out.answer ≡ ended n o k s w
  pub rest : List ℕ
  pub laid : after ≡ out.bytes ++ rest

pub lent-ended : (r : Result Output) (buffer after : List ℕ) (n o k s w : ℕ) → lent r buffer ≡ (ended n o k s w, after) → Ended r n o k s w after
lent-ended (refused cause place) buffer after n o k s w e = absurd (refusal-no-end (ap (λ (p : Answer × List ℕ). p.0) e))
lent-ended (made x) buffer after n o k s w e = go (leb (length x.bytes) (length buffer)) e
  where
    go : (v : Bool)
        → ◌≡◌ {A = Answer × List ℕ} (cond v (x.answer, x.bytes ++ drop (length x.bytes) buffer) (refusing TooShort 0, buffer)) (ended n o k s w, after)
        → Ended (made x) n o k s w after
    go true e =
        record {
          out = x;
          makes = refl;
          answers = ap (λ (p : Answer × List ℕ). p.0) e;
          rest = drop (length x.bytes) buffer;
          laid = sym (ap (λ (p : Answer × List ℕ). p.1) e);
        }
    go false e = absurd (refusal-no-end (ap (λ (p : Answer × List ℕ). p.0) e))
