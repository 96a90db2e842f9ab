-- A C line written in pieces: its question, its options one by one, and its end.
use Prim.Native.Nat.{ℕ, ◌≤◌, ◌<◌}
use mathlib.Core.Path.{◌≡◌, ap, ◌∙◌}
use mathlib.Core.List.{List, [], ◌∷◌, ◌++◌, append-nil}
use lib.ListN.{length}
use Rattle.text.specs.Parts.{join, comma, LF}
use Rattle.text.specs.Text.{Text}
use Rattle.output.specs.Pour.{poured}
use Rattle.output.proofs.Pour.{none, then}
use Rattle.transcript.specs.State.{offered, line_bytes}
use Rattle.transcript.specs.Offered.{offer_bytes, options_bytes}

-- ---- the bytes

pub join-commas : (t : Text) (options : List Text) → t ++ options_bytes options ≡ join comma (t ∷ options)
unfolding join options_bytes
join-commas t [] = append-nil t
join-commas t (o ∷ os) = ap (λ (b : List ℕ). t ++ (comma ∷ b)) (join-commas o os)

-- the whole line
pub offered-bytes : (t : Text) (options : List Text) → (offer_bytes t ++ options_bytes options) ++ (LF ∷ []) ≡ line_bytes (offered t options)
unfolding line_bytes join
offered-bytes t options = ap (λ (b : List ℕ). offer_bytes b ++ (LF ∷ [])) (join-commas t options)

-- ---- the writing

-- no option yet
pub write-none : (at : ℕ) (out : List ℕ) → at ≤ 18446744073709551615 → (at, out) ≡ poured at (options_bytes []) out
unfolding options_bytes
write-none at out h = none at out h

-- the question, the options and the end
pub write-offered : (t : Text) (options : List Text) (at x y : ℕ) (out mid last : List ℕ) (z : ℕ × List ℕ)
    → (x, mid) ≡ poured at (offer_bytes t) out → (y, last) ≡ poured x (options_bytes options) mid → z ≡ poured y (LF ∷ []) last
    → length out < 9223372036854775808 → z ≡ poured at (line_bytes (offered t options)) out
write-offered t options at x y out mid last z e f g h =
    then at (offer_bytes t ++ options_bytes options) (LF ∷ []) out y last z
    (then at (offer_bytes t) (options_bytes options) out x mid (y, last) e f h)
    g
    h
    ∙ ap (λ (b : List ℕ). poured at b out) (offered-bytes t options)
