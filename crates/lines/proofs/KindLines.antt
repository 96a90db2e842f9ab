-- A line goes by the kind of its first field.
use Prim.Native.Nat.{ℕ, ◌+◌, ◌-◌}
use mathlib.Core.Path.{◌≡◌, refl, ◌∙◌}
use mathlib.Core.List.{List, ◌∷◌}
use mathlib.Core.Bool.{Bool, true, false, cond}
use Rattle.std.specs.Prelude.{Option, None, Some}
use native.Mathlib.Omega.{arith}
use lib.ListN.{take, drop}
use Rattle.text.specs.Quoted.{bytes}
use Rattle.text.specs.Parts.{split, comma, parts_from, until_byte, same}
use Rattle.text.specs.Text.{allowed_line}
use Rattle.text.proofs.Places.{parts_whole, parts_next}
use Rattle.lines.specs.declared.Form.{Form}
use Rattle.lines.specs.declared.Kind.{Kind}
use Rattle.lines.specs.declared.Kind.TheVariants.{
  Phrase,
  Input,
  Inputs,
  Print,
  Printex,
  If,
  Else,
  Fi,
  Goto,
}
use Rattle.lines.specs.Line.{Line, kind_line, fields_line, line_of}
use Rattle.lines.specs.Words.{kind_of, line_of_kind, line_named}

kind-line : (form : Form) (w : List ℕ) (fs : List (List ℕ)) → kind_line form w fs ≡ line_named form (kind_of w) fs
unfolding kind_line kind_of
kind-line form w fs =
    test (same w (bytes "phrase")) Phrase _ _
    (test (same w (bytes "input")) Input _ _
    (test (same w (bytes "inputs")) Inputs _ _
    (test (same w (bytes "print")) Print _ _
    (test (same w (bytes "printex")) Printex _ _
    (test (same w (bytes "if")) If _ _
    (test (same w (bytes "else")) Else _ _
    (test (same w (bytes "fi")) Fi _ _
    (test (same w (bytes "goto")) Goto None _ refl))))))))
  where
    test : (b : Bool) (k : Kind) (j : Option Kind) (m : Line) → m ≡ line_named form j fs → cond b (line_of_kind form k fs) m ≡ line_named form (cond b (Some k) j) fs
    test true k j m h = refl
    test false k j m h = h

-- a line whose first field p ends at e and names the kind k
pub fields-of-kind : (form : Form) (s p : List ℕ) (k : Option Kind) (e : ℕ) → e ≡ 0 + until_byte comma (drop 0 s) → p ≡ take e s → k ≡ kind_of p
    → fields_line form (split comma s) ≡ line_named form k (parts_from comma (e + 1) s)
fields-of-kind form s p k e u f d =
    let size : e - 0 ≡ e = omega arith in
    let fields : split comma s ≡ take e s ∷ parts_from comma (e + 1) s =
    parts_whole comma s ∙ rw size at (parts_next comma s 0 e (omega arith) u) in
    rw (fields, d, f) (kind-line form (take e s) (parts_from comma (e + 1) s))

-- and whose bytes are allowed
pub line-of-kind : (form : Form) (s p : List ℕ) (k : Option Kind) (e : ℕ) → allowed_line s ≡ true → e ≡ 0 + until_byte comma (drop 0 s) → p ≡ take e s
    → k ≡ kind_of p → line_of form s ≡ line_named form k (parts_from comma (e + 1) s)
unfolding line_of
line-of-kind form s p k e h u f d = rw h (fields-of-kind form s p k e u f d)
