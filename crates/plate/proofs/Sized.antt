-- A plate that is not too long for its ceiling is made as it is.
use Prim.Native.Nat.{ℕ, ◌≤◌}
use mathlib.Core.Path.{◌≡◌, refl}
use mathlib.Core.List.{List}
use mathlib.Core.Bool.{Bool, true, false, cond}
use lib.ListN.{length}
use lib.Dec.{leb}
use borrow.Author.Tests.{leb-true}
use Rattle.causes.specs.Answers.{made, refused}
use Rattle.causes.specs.declared.Cause.TheVariants.{PlateTooLong}
use Rattle.causes.proofs.Results.{never}
use Rattle.plate.specs.Writing.{plate_sized}

pub sized-made : (bs plate : List ℕ) → plate_sized bs ≡ made plate → (length bs ≤ 2953) × (bs ≡ plate)
sized-made bs plate e = go (leb (length bs) 2953) refl e
  where
    go : (v : Bool) → leb (length bs) 2953 ≡ v → cond v (made bs) (refused PlateTooLong 0) ≡ made plate
        → (length bs ≤ 2953) × (bs ≡ plate)
    go true v e = (leb-true (length bs) 2953 v, cc)
    go false v e = absurd (never e)
