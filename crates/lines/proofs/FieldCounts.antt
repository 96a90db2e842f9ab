-- A line by the number of its fields behind the kind's word.
use Prim.Native.Nat.{ℕ, ◌<◌}
use native.Mathlib.Omega.{arith}
use mathlib.Core.Path.{◌≡◌, refl}
use mathlib.Core.List.{List, [], ◌∷◌}
use mathlib.Core.Bool.{false, cond, ◌&&◌}
use Rattle.std.specs.Prelude.{Option, None, Some, option_and_then, option_map}
use lib.ListN.{length, drop, get_or}
use lib.IntN.{ℤ}
use lib.Dec.{eqb, leb, leb-suc-suc}
use borrow.Author.Tests.{ne_eqb}
use Rattle.causes.specs.declared.Cause.TheVariants.{Kind}
use Rattle.text.specs.Parts.{all}
use Rattle.text.specs.Text.{is_text}
use Rattle.decimals.specs.Number.{register, constant, skip}
use Rattle.transcript.specs.Statement.{inputs}
use Rattle.transcript.specs.declared.Op.{Op}
use Rattle.transcript.specs.declared.Test.{Test}
use Rattle.lines.specs.declared.Form.{Form}
use Rattle.lines.specs.declared.Form.TheVariants.{Guide, Listing}
use Rattle.lines.specs.Line.{Line, says, if_line, if_skip_line, faulty}
use Rattle.lines.specs.Line.{valued, given, operator, inputs_line, test_line, if_fields}
use Rattle.lines.specs.Fields.{test_of}

past : (n k : ℕ) → k < n → eqb n k ≡ false
past n k h = ne_eqb n k (λ e. omega arith)

-- three fields make a test, then a line
pub test-given : (r o c : List ℕ) (line : Test → Line) → test_line r o c line ≡ given (test_of r o c) line
unfolding test_of
test-given r o c line = go (register r) (operator o) (constant c)
  where
    go : (r : Option ℕ) (o : Option Op) (c : Option ℤ)
        → given r (λ r. given o (λ o. given c (λ c. line (record { register = r; op = o; constant = c }))))
        ≡ given (option_and_then (λ r. option_and_then (λ o. option_map (λ c. record { register = r; op = o; constant = c }) c) o) r) line
    go None o c = refl
    go (Some r) None c = refl
    go (Some r) (Some o) None = refl
    go (Some r) (Some o) (Some c) = refl

pub inputs-counted : (fs : List (List ℕ))
    → inputs_line fs
    ≡ cond (leb 4 (length fs) && leb (length fs) 10)
    (given (register (get_or fs 0 [])) (λ r. valued (all is_text (drop 1 fs)) (says (inputs r (get_or fs 1 []) (drop 2 fs)))))
    (faulty Kind)
unfolding all
inputs-counted [] = refl
inputs-counted (r ∷ []) = refl
inputs-counted (r ∷ t ∷ fs) = rw (leb-suc-suc, leb-suc-suc, leb-suc-suc, leb-suc-suc)

pub if_none : (form : Form) → if_fields form [] ≡ faulty Kind
if_none Guide = refl
if_none Listing = refl

pub guide-if-counted : (fs : List (List ℕ))
    → if_fields Guide fs
    ≡ cond (eqb (length fs) 3) (given (test_of (get_or fs 0 []) (get_or fs 1 []) (get_or fs 2 [])) if_line) (faulty Kind)
guide-if-counted [] = refl
guide-if-counted (r ∷ []) = refl
guide-if-counted (r ∷ o ∷ []) = refl
guide-if-counted (r ∷ o ∷ c ∷ []) = test-given r o c if_line
guide-if-counted (r ∷ o ∷ c ∷ k ∷ fs) = rw (past (length (r ∷ o ∷ c ∷ k ∷ fs)) 3 (omega arith))

pub listing-if-counted : (fs : List (List ℕ))
    → if_fields Listing fs
    ≡ cond (eqb (length fs) 4)
    (given (test_of (get_or fs 0 []) (get_or fs 1 []) (get_or fs 2 [])) (λ t. given (skip (get_or fs 3 [])) (λ k. if_skip_line t k)))
    (faulty Kind)
listing-if-counted [] = refl
listing-if-counted (r ∷ []) = refl
listing-if-counted (r ∷ o ∷ []) = refl
listing-if-counted (r ∷ o ∷ c ∷ []) = refl
listing-if-counted (r ∷ o ∷ c ∷ k ∷ []) = test-given r o c (λ t. given (skip k) (λ k. if_skip_line t k))
listing-if-counted (r ∷ o ∷ c ∷ k ∷ u ∷ fs) = rw (past (length (r ∷ o ∷ c ∷ k ∷ u ∷ fs)) 4 (omega arith))
