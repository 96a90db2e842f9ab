-- A line of a listing that is read and written again is the same.
use Prim.Native.Nat.{ℕ}
use mathlib.Core.Path.{◌≡◌, refl, sym, ap, ◌∙◌}
use mathlib.Core.List.{List}
use mathlib.Core.Bool.{Bool, true, false, cond}
use Rattle.std.specs.Prelude.{Option, None, Some}
use Rattle.std.proofs.lemmas.Option.{none-some}
use Rattle.text.specs.Parts.{join, comma, same}
use Rattle.text.proofs.Tests.{same-equal}
use Rattle.text.proofs.Splits.{join-split}
use Rattle.decimals.proofs.Decimals.{natural-written}
use Rattle.decimals.proofs.Constants.{constant-written}
use Rattle.transcript.specs.declared.Op.{Op}
use Rattle.transcript.specs.declared.Op.TheVariants.{Eq, Ne, Lt, Le, Gt, Ge}
use Rattle.lines.specs.declared.Form.TheVariants.{Listing}
use Rattle.lines.specs.Line.{Line, operator, line_of}
use Rattle.lines.proofs.FieldsRead.{ReadAs, as-fault, as-phrase, as-input, as-inputs, as-print, as-printex}
use Rattle.lines.proofs.FieldsRead.{as-goto, as-if-skip, line-read-as}
use Rattle.lines.proofs.Passes.{NoFault}
use Rattle.listing.specs.Listing.{operator_word}
use Rattle.listing.proofs.ListingLines.{line_fields}

-- w is the word of the operator, if there is one
Names : List ℕ → Option Op → Type 0
Names w x = (o : Op) → x ≡ Some o → operator_word o ≡ w

operator-or : (w : List ℕ) (o : Op) (x : Option Op) → Names w x → Names w (cond (same w (operator_word o)) (Some o) x)
unfolding Names
operator-or w o x h = go (same w (operator_word o)) refl
  where
    go : (b : Bool) → same w (operator_word o) ≡ b → Names w (cond b (Some o) x)
    go true e p q = let k : o ≡ p = cc in rw (← k) (sym (same-equal w (operator_word o) e))
    go false e p q = h p q

operator-written : (w : List ℕ) (o : Op) → operator w ≡ Some o → operator_word o ≡ w
unfolding operator Names
operator-written w o h =
    operator-or w Eq _ (operator-or w Ne _ (operator-or w Lt _ (operator-or w Le _ (operator-or w Gt _ (operator-or w Ge None
    (λ p q. absurd (none-some p q))))))) o h

-- the fields of a line that is no fault are those that it was read from
fields-written : {fs : List (List ℕ)} {l : Line} → ReadAs Listing fs l → NoFault l → line_fields l ≡ fs
fields-written (as-fault c) f = absurd (f c refl)
fields-written (as-phrase h) f = refl
fields-written (as-input r h) f = rw (natural-written 31 _ _ r).0
fields-written (as-inputs n r h) f = rw (natural-written 31 _ _ r).0
fields-written (as-print h) f = refl
fields-written (as-printex h) f = refl
fields-written (as-goto k) f = rw (natural-written 511 _ _ k).0
fields-written (as-if-skip r o c k) f =
    rw ((natural-written 31 _ _ r).0, operator-written _ _ o, (constant-written _ _ c).0, (natural-written 511 _ _ k).0)

pub line-written : (s : List ℕ) → NoFault (line_of Listing s) → join comma (line_fields (line_of Listing s)) ≡ s
line-written s f = ap (join comma) (fields-written (line-read-as Listing s) f) ∙ join-split comma s
