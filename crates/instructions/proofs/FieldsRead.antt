-- The fields of an instruction as the code reads them: the options of inputs, and the fields that a code calls for.
use Prim.Native.Nat.{ℕ, zero, suc, ◌+◌}
use mathlib.Core.Path.{◌≡◌, refl, sym, ap, ◌∙◌}
use native.Mathlib.Omega.{arith}
use lib.ListN.{length}
use lib.Dec.{leb}
use Rattle.causes.specs.declared.Cause.{Cause}
use Rattle.causes.specs.declared.Cause.TheVariants.{Unused}
use Rattle.text.specs.Text.{Text}
use Rattle.output.specs.Pour.{up_to}
use Rattle.transcript.specs.Statement.{input, inputs, print, printex}
use Rattle.transcript.specs.Offered.{options_bytes}
use Rattle.phrases.specs.Phrases.{Phrases}
use Rattle.plate.specs.Program.{Instruction, statement}
use Rattle.plate.specs.Reading.{Place, stopped, number, judged, return, ◌>>=◌, many}
use Rattle.plate.specs.Plate.{text, options, fields_by}
use Rattle.listing.specs.LineSizes.{line_room}
use Rattle.fields.specs.Places.{measured}
use Rattle.fields.proofs.Onward.{then-stopped}
use Rattle.plate_texts.proofs.Ended.{measured-alike, measured-map}

pub options-refused : (c : Phrases) (p : Place) {cause : Cause} {bit : ℕ} → stopped cause bit ≡ judged (number 3) (λ k. leb k 6) Unused p
    → stopped cause bit ≡ options c p
unfolding options
options-refused c p e = then-stopped _ (λ k. many (λ j. text c) (suc (suc k))) p e

-- ---- the fields that a code calls for

pub fields-code : (c : Phrases) (behind : ℕ) (q : Place) (n : ℕ) {k : ℕ} → k ≡ n → fields_by c behind n q ≡ fields_by c behind k q
fields-code c behind q n e = ap (λ k. fields_by c behind k q) (sym e)

-- the last code stands for every number from 5 on

pub fields-last : (c : Phrases) (behind : ℕ) (q : Place) (k : ℕ) → (k ≡ 0 → ⊥) → (k ≡ 1 → ⊥) → (k ≡ 2 → ⊥) → (k ≡ 3 → ⊥) → (k ≡ 4 → ⊥)
    → fields_by c behind 5 q ≡ fields_by c behind k q
fields-last c behind q zero h0 h1 h2 h3 h4 = absurd (h0 refl)
fields-last c behind q (suc zero) h0 h1 h2 h3 h4 = absurd (h1 refl)
fields-last c behind q (suc (suc zero)) h0 h1 h2 h3 h4 = absurd (h2 refl)
fields-last c behind q (suc (suc (suc zero))) h0 h1 h2 h3 h4 = absurd (h3 refl)
fields-last c behind q (suc (suc (suc (suc zero)))) h0 h1 h2 h3 h4 = absurd (h4 refl)
fields-last c behind q (suc (suc (suc (suc (suc k))))) h0 h1 h2 h3 h4 = refl

-- ---- the room of a statement's line, by the size of its last text or of its options

-- the room of an instruction that was read
abbrev pub room_of : Instruction → ℕ
room_of i = up_to (line_room i)

module _ (c : Phrases) (q : Place) where
  pub input-sized : (r : ℕ) → measured (λ t. up_to (10 + length t)) (text c q) ≡ measured room_of ((text c >>= λ t. return (statement (input r t))) q)
  input-sized r = measured-map room_of (text c) (λ t. statement (input r t)) q

  pub inputs-sized : (r asked : ℕ) (t : Text) → asked ≡ up_to (11 + length t)
      → measured (λ os. up_to (asked + length (options_bytes os))) (options c q) ≡ measured room_of ((options c >>= λ os. return (statement (inputs r t os))) q)
  inputs-sized r asked t e =
      measured-alike _ (λ os. room_of (statement (inputs r t os))) (λ os. omega arith) (options c q)
      ∙ measured-map room_of (options c) (λ os. statement (inputs r t os)) q

  pub print-sized : (behind : ℕ) → measured (λ t. up_to (7 + length t)) (text c q) ≡ measured room_of (fields_by c behind 2 q)
  print-sized behind = measured-map room_of (text c) (λ t. statement (print t)) q

  pub printex-sized : (behind : ℕ) → measured (λ t. up_to (9 + length t)) (text c q) ≡ measured room_of (fields_by c behind 3 q)
  printex-sized behind = measured-map room_of (text c) (λ t. statement (printex t)) q
