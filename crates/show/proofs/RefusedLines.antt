-- The line of a refused guide is at most one more than its bytes.
use Prim.Native.Nat.{ℕ, suc, ◌+◌, ◌≤◌, ◌<◌}
use native.Mathlib.Omega.{arith}
use mathlib.Core.Path.{◌≡◌, refl}
use mathlib.Core.List.{List, [], ◌∷◌}
use mathlib.Core.Bool.{Bool, true, false, cond}
use Rattle.std.specs.Prelude.{Option, None, Some}
use lib.ListN.{length, drop}
use lib.Dec.{leb}
use borrow.Author.Tests.{leb-true}
use Rattle.causes.specs.Answers.{Result, made, refused, ◌>>=◌}
use Rattle.causes.specs.declared.Cause.{Cause}
use Rattle.causes.specs.declared.Cause.TheVariants.{TooLong}
use Rattle.text.specs.Text.{Text}
use Rattle.lines.specs.declared.Form.TheVariants.{Guide as a_guide}
use Rattle.lines.specs.Line.{
  Line,
  phrase,
  says,
  if_line,
  else_line,
  fi_line,
  goto_line,
  if_skip_line,
  faulty,
}
use Rattle.lines.specs.Check.{Open, Seen, nothing_seen, cause_of, next, turn, at_end, check_from, lines_of, check_lines, accept}
use Rattle.guide.specs.Guide.{guide_of}
use Rattle.guide.proofs.Counting.{all_lines}

-- the lines of the open ifs come before line n
abbrev Before : ℕ → List Open → Type 0
Before n [] = Unit {0}
Before n (o ∷ os) = (o.line < n) × Before n os

later : (n : ℕ) (os : List Open) → Before n os → Before (suc n) os
later n [] h = tt
later n (o ∷ os) h = (omega arith, later n os h.1)

turned : (n : ℕ) (os : List Open) → Before n os → Before n (turn os)
turned n [] h = tt
turned n (o ∷ os) h = h

left : (n : ℕ) (os : List Open) → Before n os → Before n (drop 1 os)
left n [] h = tt
left n (o ∷ os) h = h.1

next-before : (n : ℕ) (l : Line) (s : Seen) → Before n s.ifs → Before (suc n) (next n l s).ifs
next-before n (phrase t) s h = later n s.ifs h
next-before n (says x) s h = later n s.ifs h
next-before n (if_line t) s h = (omega arith, later n s.ifs h)
next-before n else_line s h = later n (turn s.ifs) (turned n s.ifs h)
next-before n fi_line s h = later n (drop 1 s.ifs) (left n s.ifs h)
next-before n (goto_line k) s h = later n s.ifs h
next-before n (if_skip_line t k) s h = later n s.ifs h
next-before n (faulty c) s h = later n s.ifs h

module _ (book : List Text) (cause : Cause) (place : ℕ) where
  made-never : {A : Type 0} {a : A} → made a ≡ refused cause place → ⊥
  made-never e = let z : ◌≡◌ {A = ℕ} 0 1 = cc in omega arith

  -- the check from line n on
  lines-refused : (n : ℕ) (s : Seen) (ls : List Line) → Before n s.ifs → check_from book n s ls ≡ refused cause place
      → place < n + length ls
  unfolding check_from
  lines-refused n s [] h e = go s.ifs h e
    where
      go : (os : List Open) → Before n os → at_end os s ≡ refused cause place → place < n + 0
      go [] h e = absurd (made-never e)
      go (o ∷ os) h e = let same : o.line ≡ place = cc in omega arith
  lines-refused n s (l ∷ ls) h e = go (cause_of book s l) (λ f. lines-refused (suc n) (next n l s) ls (next-before n l s h) f) e
    where
      go : (o : Option Cause) → (check_from book (suc n) (next n l s) ls ≡ refused cause place → place < suc n + length ls)
          → ◌≡◌ {A = Result Seen} (elim o [ None ↦ check_from book (suc n) (next n l s) ls | Some c ↦ refused c n ]) (refused cause place)
          → place < n + suc (length ls)
      go None f e = omega (arith, f e)
      go (Some c) f e = let same : n ≡ place = cc in omega arith

  -- nothing is refused behind what was made
  refused-first : {A B : Type 0} (m : Result A) (f : A → B) → (m >>= λ a. made (f a)) ≡ refused cause place → m ≡ refused cause place
  refused-first (made a) f e = absurd (made-never e)
  refused-first (refused c n) f e = cc

  -- a whole guide
  pub guide-refused : (guide : List ℕ) → guide_of book guide ≡ refused cause place → place ≤ 16385
  unfolding guide_of accept check_lines
  guide-refused guide e = sized (leb (length guide) 16384) refl (refused-first (accept a_guide book guide) _ e)
    where
      sized : (v : Bool) → leb (length guide) 16384 ≡ v
          → cond v (check_lines book (lines_of a_guide guide)) (refused TooLong 0) ≡ refused cause place → place ≤ 16385
      sized true v e =
          let f = refused-first (check_from book 1 nothing_seen (lines_of a_guide guide)) _ e in
          omega (arith, leb-true (length guide) 16384 v, lines-refused 1 nothing_seen (lines_of a_guide guide) tt f, all_lines guide)
      sized false v e = let z : place ≡ 0 = cc in omega arith
