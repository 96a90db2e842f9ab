-- How long fields are when they are joined.
use Prim.Native.Nat.{ℕ, suc, ◌+◌, ◌*◌, ◌≤◌}
use mathlib.Core.List.{List, [], ◌∷◌}
use native.Mathlib.Omega.{arith}
use lib.ListN.{length, length-append}
use Rattle.text.specs.Parts.{join}
use Rattle.text.specs.Text.{Text, is_text}
use Rattle.text.proofs.Valid.{TextsOk}
use Rattle.text.proofs.Tests.{all_first, all_rest}
use Rattle.text.proofs.Bytes.{text-size}

-- the bytes of fields, with a comma behind each
abbrev pub size : List (List ℕ) → ℕ
size [] = 0
size (f ∷ fs) = suc (length f + size fs)

pub join-size : (x : ℕ) (fs : List (List ℕ)) → length (join x fs) ≤ size fs
unfolding join
join-size x [] = omega arith
join-size x (f ∷ []) = omega arith
join-size x (f ∷ g ∷ fs) = simp length-append (omega (arith, join-size x (g ∷ fs)))

pub texts-size : (ts : List Text) → TextsOk ts → size ts ≤ 65 * length ts
texts-size [] h = omega arith
texts-size (t ∷ ts) h = omega (arith, text-size t (all_first is_text t ts h), texts-size ts (all_rest is_text t ts h))
