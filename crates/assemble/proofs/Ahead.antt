-- The lines of a text from a place on.
use Prim.Native.Nat.{ℕ, suc, ◌+◌, ◌-◌, ◌≤◌, ◌<◌}
use native.Mathlib.Omega.{arith}
use mathlib.Core.Path.{◌≡◌, sym, ap, ◌∙◌}
use mathlib.Core.List.{List, [], ◌∷◌}
use mathlib.Core.Bool.{true, true≢false}
use lib.ListN.{length, take, drop, drop_of_length-le}
use lib.Seq.{drop-cons}
use Rattle.causes.specs.declared.Cause.TheVariants.{Byte}
use Rattle.text.specs.Parts.{split, until_byte, all, LF}
use Rattle.text.proofs.Places.{part-last}
use Rattle.lines.specs.declared.Form.{Form}
use Rattle.lines.specs.Line.{Line, faulty, line_of, lines_in}
use Rattle.lines.specs.Check.{lines_of}
use Rattle.lines.specs.Clean.{is_clean, Clean}
use Rattle.lines.proofs.CleanTexts.{lines_next, clean_line, clean-behind}

-- the lines from the place a on
abbrev pub lines_from : Form → List ℕ → ℕ → List Line
lines_from form s a = lines_of form (drop a s)

-- a is a place of the text from which on no line has a cause by itself
pub record Ahead (form : Form) (s : List ℕ) (a : ℕ) : Type 0 where
  pub within : a ≤ length s
  pub sound : Clean form (drop a s)

pub no_lines : (form : Form) (s : List ℕ) (a : ℕ) → length s ≤ a → lines_from form s a ≡ []
unfolding split lines_in
no_lines form s a h = rw (drop_of_length-le s h)

-- the line that starts at a ends at e
module _ {form : Form} {s : List ℕ} {a e : ℕ} (g : Ahead form s a) (h : a < length s) (k : e ≡ a + until_byte LF (drop a s)) (l : e ≤ length s) where
  unended : e ≡ length s → ⊥
  unfolding lines_in all
  unended z =
      let n : e - a ≡ suc (e - (a + 1)) = omega arith in
      let only : lines_from form s a ≡ faulty Byte ∷ [] = rw (part-last LF s a e k z, n, drop-cons s a 0 h) in
      true≢false (sym g.sound ∙ ap (all is_clean) only)

  ends : e < length s
  ends = let z = unended in omega arith

  pub first-line : lines_from form s a ≡ line_of form (take (e - a) (drop a s)) ∷ lines_from form s (e + 1)
  first-line = lines_next form s a e k ends

  pub first-clean : is_clean (line_of form (take (e - a) (drop a s))) ≡ true
  first-clean = clean_line form s a e k ends g.sound

  pub ahead-next : Ahead form s (e + 1)
  ahead-next = record { within = omega (arith, ends); sound = clean-behind form s a e k ends g.sound }
