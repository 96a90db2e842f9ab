-- Lines `phrase,TEXT`, one behind the other: they hold the texts whatever stands behind them.
use Prim.Native.Nat.{ℕ, ◌+◌, ◌*◌, ◌≤◌}
use mathlib.Core.Path.{◌≡◌, refl, sym, ap, ◌∙◌}
use mathlib.Core.List.{List, [], ◌∷◌, ◌++◌, append_assoc, append-nil}
use mathlib.Core.Bool.{true}
use native.Mathlib.Omega.{arith}
use lib.ListN.{length, length-append}
use Rattle.text.specs.Quoted.{bytes}
use Rattle.text.specs.Parts.{all, split, LF, comma}
use Rattle.text.specs.Text.{Text, text_byte, is_text}
use Rattle.text.proofs.Valid.{TextOk, TextsOk}
use Rattle.text.proofs.Tests.{all_first, all_rest, all_append, all_so}
use Rattle.text.proofs.Splits.{other, split-part, split-last}
use Rattle.text.proofs.Bytes.{text-bytes, text-size, text-no-comma, text-no-LF}
use Rattle.phrases.specs.Lookup.{phrase_text, own_texts}
use Rattle.reader.specs.Own.{phrase_line, own_lines}

-- ---- one line

module _ (t : Text) (ok : TextOk t) where
  line_first : (rest : List ℕ) → split LF (phrase_line t ++ rest) ≡ (bytes "phrase," ++ t) ∷ split LF rest
  unfolding phrase_line all
  line_first rest =
      let word : all (other LF) (bytes "phrase,") ≡ true = refl in
      let plain = all_so text_byte (other LF) text-no-LF t (text-bytes t ok) in
      rw append_assoc (split-part LF (bytes "phrase," ++ t) rest (all_append (other LF) (bytes "phrase,") t word plain))

  line-text : phrase_text (bytes "phrase," ++ t) ≡ t
  unfolding all
  line-text =
      let plain = all_so text_byte (other comma) text-no-comma t (text-bytes t ok) in
      rw (split-part comma (bytes "phrase") t refl, split-last comma t plain)

  pub line-length : length (phrase_line t) ≤ 72
  unfolding phrase_line
  line-length = simp length-append (omega (arith, (text-size t ok).1))

-- ---- lines

pub lines_more : (ts : List Text) (t : Text) → own_lines ts ++ phrase_line t ≡ own_lines (ts ++ (t ∷ []))
unfolding own_lines
lines_more [] t = sym (append-nil (phrase_line t))
lines_more (u ∷ ts) t = append_assoc (phrase_line u) (own_lines ts) (phrase_line t) ∙ ap (λ l. phrase_line u ++ l) (lines_more ts t)

-- one line more is 8 bytes more than its text
pub line-size : (ts : List Text) (t : Text) → length (own_lines (ts ++ (t ∷ []))) ≡ length (own_lines ts) + (8 + length t)
unfolding phrase_line
line-size ts t = sym (ap length (lines_more ts t)) ∙ simp length-append (omega arith)

pub lines-texts : (ts : List Text) (rest : List ℕ) → TextsOk ts → own_texts (length ts) (own_lines ts ++ rest) ≡ ts
unfolding own_lines own_texts
lines-texts [] rest ok = refl
lines-texts (t ∷ ts) rest ok =
    let first = all_first is_text t ts ok in
    rw (append_assoc, line_first t first (own_lines ts ++ rest), line-text t first)
    (ap (λ l. t ∷ l) (lines-texts ts rest (all_rest is_text t ts ok)))

pub lines-length : (ts : List Text) → TextsOk ts → length (own_lines ts) ≤ 72 * length ts
unfolding own_lines
lines-length [] ok = omega arith
lines-length (t ∷ ts) ok =
    simp length-append
    (omega (arith, line-length t (all_first is_text t ts ok), lines-length ts (all_rest is_text t ts ok)))
