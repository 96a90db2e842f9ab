-- The fields of a line from a place on, by what is found there: the end, a text, or a comma.
use Prim.Native.Nat.{ℕ, ◌+◌, ◌-◌, ◌≤◌, ◌<◌}
use mathlib.Core.Path.{◌≡◌, sym, ap, ◌∙◌}
use mathlib.Core.List.{List, [], ◌∷◌}
use mathlib.Core.Bool.{true}
use native.Mathlib.Omega.{arith}
use lib.ListN.{length, take, drop, get_or, length-drop}
use lib.Seq.{take_all}
use Rattle.causes.specs.declared.Cause.TheVariants.{Kind}
use Rattle.text.specs.Parts.{comma, parts_from, split, until_byte}
use Rattle.text.specs.Text.{Text, text_byte, is_text}
use Rattle.decimals.specs.Number.{skip}
use Rattle.text.proofs.Tests.{all_so}
use Rattle.text.proofs.Splits.{other, Some, split-some, split-last}
use Rattle.text.proofs.Bytes.{text-bytes, text-no-comma}
use Rattle.text.proofs.Places.{parts-some, parts_none, parts_next}
use Rattle.lines.specs.declared.Form.TheVariants.{Guide, Listing}
use Rattle.lines.specs.Line.{Line, goto_line, faulty, given, bare_line, goto_fields}

module _ (s : List ℕ) (a : ℕ) where
  -- ---- past the end

  pub first-none : length s < a → get_or (parts_from comma a s) 0 [] ≡ []
  first-none h = rw (parts_none comma s a h)

  -- a part from the place on to the end
  pub whole-rest : take (length s - a) (drop a s) ≡ drop a s
  whole-rest = take_all (length s - a) (drop a s) (omega (arith, length-drop a s))

  -- where there are fields the place is in the line or at its end
  pub fields-there : (length (parts_from comma a s) ≡ 0 → ⊥) → a ≤ length s
  fields-there h = omega (arith, past)
    where
      past : length s < a → ⊥
      past k = h (ap length (parts_none comma s a k))

  -- ---- one text

  pub one-text : (t : Text) → t ≡ drop a s → a ≤ length s → is_text t ≡ true → parts_from comma a s ≡ t ∷ []
  one-text t e h k =
      let plain = all_so text_byte (other comma) text-no-comma t (text-bytes t k) in
      parts-some comma s a h ∙ ap (split comma) (sym e) ∙ split-last comma t plain

  -- all fields, in the part from the place on
  pub rest-parts : a ≤ length s → split comma (take (length s - a) (drop a s)) ≡ parts_from comma a s
  rest-parts h = ap (split comma) whole-rest ∙ sym (parts-some comma s a h)

  -- ---- the first field ends at e

  module _ (e : ℕ) (h : a ≤ length s) (k : e ≡ a + until_byte comma (drop a s)) where
    pub first_field : take (e - a) (drop a s) ≡ get_or (parts_from comma a s) 0 []
    first_field = rw (parts_next comma s a e h k)

    -- at the line's end it is the only one
    pub only-field : length s ≤ e → parts_from comma a s ≡ take (e - a) (drop a s) ∷ []
    only-field l = parts_next comma s a e h k ∙ ap (λ fs. take (e - a) (drop a s) ∷ fs) (parts_none comma s (e + 1) (omega arith))

    -- before a comma there is one more
    pub one_more : e < length s → Some (parts_from comma (e + 1) s)
    one_more l = go (split-some comma (drop (e + 1) s))
      where
        go : Some (split comma (drop (e + 1) s)) → Some (parts_from comma (e + 1) s)
        go (q, qs, f) = (q, qs, parts-some comma s (e + 1) (omega arith) ∙ f)

    pub goto-more : e < length s → goto_fields Listing (parts_from comma a s) ≡ faulty Kind
    goto-more l = go (one_more l)
      where
        go : Some (parts_from comma (e + 1) s) → goto_fields Listing (parts_from comma a s) ≡ faulty Kind
        go (q, qs, f) = rw (parts_next comma s a e h k, f)

    pub goto-only : length s ≤ e → goto_fields Listing (parts_from comma a s) ≡ given (skip (take (e - a) (drop a s))) (λ k. goto_line k)
    goto-only l = ap (goto_fields Listing) (only-field l)

  pub bare-more : (line : Line) → a ≤ length s → bare_line Guide line (parts_from comma a s) ≡ faulty Kind
  bare-more line h = go (split-some comma (drop a s))
    where
      go : Some (split comma (drop a s)) → bare_line Guide line (parts_from comma a s) ≡ faulty Kind
      go (q, qs, f) = rw (parts-some comma s a h, f)
