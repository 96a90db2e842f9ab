-- The C line of an inputs line: behind its letter stand the line's own bytes, from the question on.
use Prim.Native.Nat.{ℕ, ◌-◌, ◌<◌, ◌≤◌}
use native.Mathlib.Omega.{arith}
use mathlib.Core.Path.{◌≡◌, sym, ap, ◌∙◌}
use mathlib.Core.List.{List, [], ◌∷◌, ◌++◌}
use lib.ListN.{length, take, drop, get_or, length-drop}
use lib.Seq.{drop-cons, take_all}
use Rattle.text.specs.Parts.{split, join, parts_from, comma, LF}
use Rattle.text.proofs.Places.{parts_none, parts-some}
use Rattle.text.proofs.Splits.{join-split}
use Rattle.output.specs.Pour.{poured}
use Rattle.transcript.specs.State.{offered, line_bytes}
use Rattle.transcript.specs.Offered.{offer_bytes}

-- the question is the third field, which starts at a, and there are options behind it
module _ (line : List ℕ) (a : ℕ) (e : drop 2 (split comma line) ≡ parts_from comma a line) (n : 0 < length (drop 3 (split comma line))) where
  pub question-there : a ≤ length line
  question-there =
      let more = length-drop 3 (split comma line) in
      let some = length-drop 2 (split comma line) in
      omega (arith, past)
    where
      past : length line < a → ⊥
      past h = omega (arith, ap length (e ∙ parts_none comma line a h), length-drop 2 (split comma line), length-drop 3 (split comma line))

  bytes-are : drop a line ≡ join comma (get_or (split comma line) 2 [] ∷ drop 3 (split comma line))
  bytes-are =
      sym (join-split comma (drop a line))
      ∙ ap (join comma)
      (sym (parts-some comma line a question-there)
      ∙ sym e
      ∙ drop-cons (split comma line) 2 [] (omega (arith, length-drop 3 (split comma line))))

  -- the line written
  pub offered-line : (at : ℕ) (out : List ℕ) (z : ℕ × List ℕ) → z ≡ poured at (offer_bytes (take (length line - a) (drop a line)) ++ (LF ∷ [])) out
      → z ≡ poured at (line_bytes (offered (get_or (split comma line) 2 []) (drop 3 (split comma line)))) out
  unfolding line_bytes join
  offered-line at out z f =
      f ∙ ap (λ (b : List ℕ). poured at (offer_bytes b ++ (LF ∷ [])) out) (take_all (length line - a) (drop a line) (simp length-drop (omega arith)) ∙ bytes-are)
