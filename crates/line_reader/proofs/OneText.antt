-- Fields that should be one text: what they are by the place where they begin, and the line that they make.
use Prim.Native.Nat.{ℕ, ◌+◌, ◌-◌, ◌≤◌, ◌<◌}
use native.Mathlib.Omega.{arith}
use mathlib.Core.Path.{◌≡◌, refl, sym, ap, ◌∙◌}
use mathlib.Core.List.{List, [], ◌∷◌}
use mathlib.Core.Bool.{Bool, true, false, cond, ◌&&◌}
use lib.ListN.{length, take, drop}
use Rattle.std.specs.Prelude.{Option, None, Some, Result, Ok, Err}
use Rattle.causes.specs.declared.Cause.{Cause}
use Rattle.causes.specs.declared.Cause.TheVariants.{Kind, Value}
use Rattle.text.specs.Parts.{comma, parts_from, join, until_byte}
use Rattle.text.specs.Text.{Text, is_text, is_plain, is_own_text}
use Rattle.text.proofs.Splits.{Some as Parted, join-split}
use Rattle.text.proofs.Places.{parts-some, parts_none, parts_next}
use Rattle.decimals.specs.Number.{register}
use Rattle.transcript.specs.Statement.{input}
use Rattle.lines.specs.declared.Head.{Head}
use Rattle.lines.specs.declared.Head.TheVariants as head
use Rattle.lines.specs.Line.{Line, says, valued, given, text_line, input_line}
use Rattle.lines.specs.Answers.{head_of}
use Rattle.lines.proofs.CleanLines.{head_given}
use Rattle.lines.proofs.FieldPlaces.{whole-rest, fields-there, one-text, only-field, one_more}
use Rattle.line_reader.specs.Answers.{one_text}

-- ---- by the place a

module _ (s : List ℕ) (a : ℕ) where
  pub text-none : length s < a → one_text is_text (parts_from comma a s) ≡ Err Kind
  text-none h = rw (parts_none comma s a h)

  module _ (h : a ≤ length s) where
    -- a text from the place on to the end
    pub text-there : is_text (take (length s - a) (drop a s)) ≡ true → parts_from comma a s ≡ take (length s - a) (drop a s) ∷ []
    text-there k = one-text s a (take (length s - a) (drop a s)) (whole-rest s a) h k

    pub text-good : is_text (take (length s - a) (drop a s)) ≡ true → one_text is_text (parts_from comma a s) ≡ Ok (tt {0})
    text-good k = rw (text-there k, k)

    module _ (e : ℕ) (k : e ≡ a + until_byte comma (drop a s)) where
      -- before a comma there is one more field
      pub text-more : e < length s → one_text is_text (parts_from comma a s) ≡ Err Kind
      text-more l = go (one_more s a e h k l)
        where
          go : Parted (parts_from comma (e + 1) s) → one_text is_text (parts_from comma a s) ≡ Err Kind
          go (q, qs, f) = rw (parts_next comma s a e h k, f)

      pub text-bad : e ≤ length s → length s ≤ e → is_text (take (length s - a) (drop a s)) ≡ false
          → one_text is_text (parts_from comma a s) ≡ Err Value
      text-bad m l n =
          let end : e ≡ length s = omega arith in
          rw (only-field s a e h k l, end, n)

-- ---- an own phrase is a text of ASCII

pub own-none : (fs : List (List ℕ)) {c : Cause} → Err c ≡ one_text is_text fs → Err c ≡ one_text is_own_text fs
own-none [] e = e
own-none (t ∷ []) {c} e = go (is_text t) e
  where
    go : (b : Bool) → Err c ≡ cond b (Ok (tt {0})) (Err Value) → Err c ≡ cond (b && is_plain t) (Ok (tt {0})) (Err Value)
    go true e = cc
    go false e = e
own-none (t ∷ u ∷ fs) e = e

-- a text is the only field
one-field : {u : Unit {0}} (fs : List (List ℕ)) → Ok u ≡ one_text is_text fs
    → (t : Text) × (fs ≡ t ∷ []) × (one_text is_own_text fs ≡ cond (is_plain t) (Ok (tt {0})) (Err Value))
one-field [] e = cc
one-field {u = u} (t ∷ []) e = (t, refl, go (is_text t) e)
  where
    go : (b : Bool) → Ok u ≡ cond b (Ok (tt {0})) (Err Value)
        → cond (b && is_plain t) (Ok (tt {0})) (Err Value) ≡ cond (is_plain t) (Ok (tt {0})) (Err Value)
    go true e = refl
    go false e = cc
one-field (t ∷ v ∷ fs) e = cc

module _ {u : Unit {0}} (s : List ℕ) (a : ℕ) (e : Ok u ≡ one_text is_text (parts_from comma a s)) where
  -- which begins in the line or at its end
  pub text-begins : a ≤ length s
  text-begins = let o = one-field (parts_from comma a s) e in fields-there s a (λ l. omega (arith, ap length o.1))

  pub own-judged : one_text is_own_text (parts_from comma a s) ≡ cond (is_plain (take (length s - a) (drop a s))) (Ok (tt {0})) (Err Value)
  unfolding join
  own-judged =
      let o = one-field (parts_from comma a s) e in
      let t : drop a s ≡ o.0 = sym (join-split comma (drop a s)) ∙ ap (join comma) (sym (parts-some comma s a text-begins) ∙ o.1) in
      o.2 ∙ ap (λ t. cond (is_plain t) (Ok (tt {0})) (Err Value)) (sym (whole-rest s a ∙ t))

-- ---- the line that the fields make

-- this head where the fields are one text, and their cause where they are not
abbrev pub text_head : Result Head Cause → Result Unit Cause → Result Head Cause
text_head h (Ok u) = h
text_head h (Err c) = Err c

pub one-line : (rule : Text → Bool) (line : Text → Line) {h : Result Head Cause} → ((t : Text) → head_of (line t) ≡ h) → (fs : List (List ℕ))
    → head_of (text_line rule line fs) ≡ text_head h (one_text rule fs)
one-line rule line h [] = refl
one-line rule line {h = r} h (t ∷ []) = go (rule t)
  where
    go : (b : Bool) → head_of (valued b (line t)) ≡ text_head r (cond b (Ok (tt {0})) (Err Value))
    go true = h t
    go false = refl
one-line rule line h (t ∷ u ∷ fs) = refl

-- a question is judged by its text, and then by its register
pub input-line : (r : List ℕ) (fs : List (List ℕ))
    → head_of (input_line (r ∷ fs)) ≡ text_head (head_given (register r) (λ n. Ok (head.Input n))) (one_text is_text fs)
input-line r [] = refl
input-line r (t ∷ []) = go (register r) (is_text t)
  where
    go : (o : Option ℕ) (b : Bool)
        → head_of (given o (λ n. valued b (says (input n t)))) ≡ text_head (head_given o (λ n. Ok (head.Input n))) (cond b (Ok (tt {0})) (Err Value))
    go None true = refl
    go None false = refl
    go (Some n) true = refl
    go (Some n) false = refl
input-line r (t ∷ u ∷ fs) = refl
