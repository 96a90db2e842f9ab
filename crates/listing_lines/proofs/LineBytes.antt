-- The bytes of a line: its word, its other fields each behind a comma, and LF.
use Prim.Native.Nat.{ℕ}
use mathlib.Core.Path.{◌≡◌, refl, ap, ◌∙◌}
use mathlib.Core.List.{List, [], ◌∷◌, ◌++◌, append_assoc}
use Rattle.text.specs.Parts.{join, comma, LF}
use Rattle.text.specs.Text.{Text}
use Rattle.transcript.specs.Offered.{options_bytes}
use Rattle.transcript.proofs.Offers.{join-commas}
use Rattle.listing.specs.Listing.{lines_text}

line-bytes : (w : List ℕ) (fs : List Text) → (w ++ options_bytes fs) ++ (LF ∷ []) ≡ lines_text ((w ∷ fs) ∷ [])
unfolding lines_text
line-bytes w fs = ap (λ (b : List ℕ). b ++ (LF ∷ [])) (join-commas w fs)

module _ (w a : List ℕ) where
  pub one_field : (w ++ (comma ∷ a)) ++ (LF ∷ []) ≡ lines_text ((w ∷ a ∷ []) ∷ [])
  unfolding lines_text join
  one_field = refl

  module _ (b : List ℕ) where
    pub two_fields : ((w ++ (comma ∷ a)) ++ (comma ∷ b)) ++ (LF ∷ []) ≡ lines_text ((w ∷ a ∷ b ∷ []) ∷ [])
    unfolding lines_text join
    two_fields = ap (λ (s : List ℕ). s ++ (LF ∷ [])) (append_assoc w (comma ∷ a) (comma ∷ b))

    -- with options behind them
    pub more-fields : (os : List Text)
        → (((w ++ (comma ∷ a)) ++ (comma ∷ b)) ++ options_bytes os) ++ (LF ∷ []) ≡ lines_text ((w ∷ a ∷ b ∷ os) ∷ [])
    unfolding options_bytes
    more-fields os =
        ap (λ (s : List ℕ). s ++ (LF ∷ []))
        (append_assoc (w ++ (comma ∷ a)) (comma ∷ b) (options_bytes os) ∙ append_assoc w (comma ∷ a) ((comma ∷ b) ++ options_bytes os))
        ∙ line-bytes w (a ∷ b ∷ os)

    pub four-fields : (c d : List ℕ)
        → ((((w ++ (comma ∷ a)) ++ (comma ∷ b)) ++ (comma ∷ c)) ++ (comma ∷ d)) ++ (LF ∷ []) ≡ lines_text ((w ∷ a ∷ b ∷ c ∷ d ∷ []) ∷ [])
    unfolding lines_text join
    four-fields c d =
        ap (λ (s : List ℕ). s ++ (LF ∷ []))
        (append_assoc ((w ++ (comma ∷ a)) ++ (comma ∷ b)) (comma ∷ c) (comma ∷ d)
        ∙ append_assoc (w ++ (comma ∷ a)) (comma ∷ b) ((comma ∷ c) ++ (comma ∷ d))
        ∙ append_assoc w (comma ∷ a) ((comma ∷ b) ++ ((comma ∷ c) ++ (comma ∷ d))))
