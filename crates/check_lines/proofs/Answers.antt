-- What an answer of the check says: the accepted text, whose own phrases are the texts of its first lines, or the refusal.
use Prim.Native.Nat.{ℕ}
use mathlib.Core.Path.{◌≡◌, refl, ap, ◌∙◌}
use mathlib.Core.List.{List}
use mathlib.Core.Bool.{Bool, true, false, cond}
use lib.ListN.{length}
use Rattle.std.specs.Prelude.{Result as OkOrErr, Ok, Err}
use Rattle.causes.specs.declared.Refusal.{Refusal}
use lib.Dec.{leb}
use Rattle.causes.specs.Answers.{Result, made, refused, ◌>>=◌}
use Rattle.causes.specs.declared.Cause.TheVariants.{TooLong}
use Rattle.causes.proofs.Results.{never}
use Rattle.text.specs.Text.{Text}
use Rattle.phrases.specs.Lookup.{own_texts}
use Rattle.lines.specs.declared.Form.{Form}
use Rattle.lines.specs.declared.Counts.{Counts}
use Rattle.lines.specs.Check.{Seen, nothing_seen, check_from, most_bytes, lines_of, Accepted, check_lines, accept}
use Rattle.lines.specs.Answers.{seen_in, checked_answer}
use Rattle.check_lines.proofs.OwnFirst.{own_first}

module _ (form : Form) (text : List ℕ) where
  -- the text that an answer accepts
  abbrev pub accepted_by : OkOrErr Counts Refusal → Result Accepted
  accepted_by (Ok c) = made (record { own = own_texts c.own text; lines = lines_of form text })
  accepted_by (Err r) = refused r.cause r.place

  module _ (book : List Text) where
    abbrev accepting : Seen → Result Accepted
    accepting s = made (record { own = s.own; lines = lines_of form text })

    accept-seen : accept form book text ≡ (seen_in form book text >>= accepting)
    unfolding accept check_lines seen_in
    accept-seen = go (leb (length text) (most_bytes form))
      where
        go : (v : Bool) → cond v (check_lines book (lines_of form text)) (refused TooLong 0)
            ≡ (cond v (check_from book 1 nothing_seen (lines_of form text)) (refused TooLong 0) >>= accepting)
        go true = refl
        go false = refl

    seen_first : (s : Seen) → seen_in form book text ≡ made s → s.own ≡ own_texts (length s.own) text
    unfolding seen_in
    seen_first s = go (leb (length text) (most_bytes form))
      where
        go : (v : Bool) → cond v (check_from book 1 nothing_seen (lines_of form text)) (refused TooLong 0) ≡ made s → s.own ≡ own_texts (length s.own) text
        go true e = own_first form book text s e
        go false e = absurd (never e)

    pub accept-is : {c : OkOrErr Counts Refusal} → checked_answer (seen_in form book text) ≡ c → accept form book text ≡ accepted_by c
    accept-is h = accept-seen ∙ go (seen_in form book text) refl ∙ ap accepted_by h
      where
        go : (r : Result Seen) → seen_in form book text ≡ r → (r >>= accepting) ≡ accepted_by (checked_answer r)
        go (made s) e = ap (λ own. made (record { own = own; lines = lines_of form text })) (seen_first s e)
        go (refused cause place) e = refl
