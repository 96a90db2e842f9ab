-- A refusal makes nothing, and what two steps make comes from what the first one made.
use Prim.Native.Nat.{ℕ}
use mathlib.Core.Path.{◌≡◌, refl}
use native.Mathlib.Omega.{arith}
use Rattle.causes.specs.Answers.{Result, made, refused, ◌>>=◌}
use Rattle.causes.specs.declared.Cause.{Cause}

pub never : {A : Type 0} {c : Cause} {n : ℕ} {a : A} → refused c n ≡ made a → ⊥
never e = let z : ◌≡◌ {A = ℕ} 0 1 = cc in omega arith

pub made-from : {A B : Type 0} (m : Result A) (f : A → Result B) (b : B) → (m >>= f) ≡ made b → (a : A) × (m ≡ made a) × (f a ≡ made b)
made-from (made a) f b e = (a, refl, e)
made-from (refused c n) f b e = absurd (never e)
