-- A block passed over line by line: where it stops, and where it goes on.
use Prim.Native.Nat.{ℕ, zero, suc, ◌≤◌, ◌<◌}
use native.Mathlib.Omega.{arith}
use mathlib.Core.Path.{◌≡◌, refl, sym, ap, ◌∙◌}
use mathlib.Core.List.{List, [], ◌∷◌}
use mathlib.Core.Bool.{Bool, true, false, true≢false}
use lib.ListN.{length, drop}
use Rattle.lines.specs.Line.{Line}
use Rattle.guide.specs.declared.Role.{Role}
use Rattle.guide.specs.declared.Role.TheVariants.{Statement, If, Else, Fi, Nothing}
use Rattle.guide.specs.Lines.{role_of, lines_at, first_role, stops, open_behind, pass, Reads}
use Rattle.guide.proofs.Reading.{some-line, rest-no-more}

pub open_more : (r : Role) (d : ℕ) → open_behind r d ≤ suc d
open_more Statement d = omega arith
open_more If d = omega arith
open_more Else d = omega arith
open_more Fi zero = omega arith
open_more Fi (suc d) = omega arith
open_more Nothing d = omega arith

-- ---- the lines

stop : (d : ℕ) (ls : List Line) → stops (first_role ls) d ≡ true → pass d ls ≡ ls
unfolding pass
stop d [] h = refl
stop d (l ∷ ls) h = rw (h, pass)

go : (d : ℕ) (ls : List Line) → stops (first_role ls) d ≡ false → pass d ls ≡ pass (open_behind (first_role ls) d) (drop 1 ls)
unfolding pass
go d [] h = absurd (true≢false h)
go d (l ∷ ls) h = rw (h, pass)

-- no more lines are left
pass-no-more : (d : ℕ) (ls : List Line) → length (pass d ls) ≤ length ls
unfolding pass
pass-no-more d [] = omega arith
pass-no-more d (l ∷ ls) = left (stops (role_of l) d) (pass-no-more (open_behind (role_of l) d) ls)
  where
    left : (v : Bool) → length (pass (open_behind (role_of l) d) ls) ≤ length ls
        → length {A = Line} (elim v [ true ↦ l ∷ ls | false ↦ pass (open_behind (role_of l) d) ls ]) ≤ suc (length ls)
    left true h = omega arith
    left false h = omega arith

module _ (g : List ℕ) (a d : ℕ) (role : Role) (n : ℕ) (r : Reads g a role n) where
  pub pass-stops : stops role d ≡ true → pass d (lines_at g a) ≡ lines_at g a
  pass-stops v = stop d (lines_at g a) (rw r.role at v)

  pub pass-goes : stops role d ≡ false → pass d (lines_at g a) ≡ pass (open_behind role d) (lines_at g n)
  pass-goes v = go d (lines_at g a) (rw r.role at v) ∙ ap (λ (x : Role). pass (open_behind x d) (drop 1 (lines_at g a))) (sym r.role) ∙ ap (pass (open_behind role d)) (sym r.rest)

  pub pass-further : stops role d ≡ false → a < n
  pass-further v = r.further (some-line g a role n r (λ x. stops x d) true≢false v)

-- behind a block that is passed over up to p, and the line where it ends
pub passed-no-more : (g : List ℕ) (a p : ℕ) (role : Role) (n : ℕ) → lines_at g p ≡ pass 0 (lines_at g a) → Reads g p role n
    → length (lines_at g n) ≤ length (lines_at g a)
passed-no-more g a p role n e r = omega (arith, rest-no-more g p role n r, ap length e, pass-no-more 0 (lines_at g a))
