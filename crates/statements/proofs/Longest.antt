-- How long a transcript gets: a statement adds at most 1,793 bytes. An inputs with a question and 8 options of 64 bytes does so with its C line of
-- 587 bytes three times, two wrong answers of 14 bytes, and an option's place.
use Prim.Native.Nat.{ℕ, suc, ◌+◌, ◌-◌, ◌*◌, ◌≤◌, ◌<◌}
use native.Mathlib.Omega.{arith}
use mathlib.Core.Path.{◌≡◌, refl}
use mathlib.Core.List.{List, [], ◌∷◌}
use mathlib.Core.Bool.{Bool, true, false, cond, false≢true}
use lib.ListN.{length, length-append}
use lib.Dec.{ltb}
use lib.IntN.{ℤ, pos, negsuc}
use lib.Signed.{mag}
use borrow.Author.Tests.{ltb-true}
use Rattle.text.specs.Text.{Text}
use Rattle.text.specs.Parts.{join, comma}
use Rattle.text.specs.Quoted.{bytes}
use Rattle.text.proofs.Valid.{TextOk, TextsOk}
use Rattle.text.proofs.Bytes.{text-size}
use Rattle.text.proofs.Sizes.{size, texts-size}
use Rattle.decimals.specs.Number.{decimal}
use Rattle.decimals.proofs.Decimals.{decimalℕ-short}
use Rattle.decimals.proofs.Constants.{decimal-short}
use Rattle.transcript.specs.Statement.{Statement, input, inputs, print, printex}
use Rattle.transcript.specs.State.{asked, offered, answered, shown, ruled, State, step, write_line, line_bytes, transcript_bytes}
use Rattle.transcript.specs.Perform.{goes_on, outside, take_answer, is_option, take_wrong, offer, choose, perform, state_of}
use Rattle.transcript.specs.Perform as perform
use Rattle.transcript.proofs.Valid.{StatementOk}
use Rattle.machine.specs.Ranged.{Ranged}
use Rattle.machine.proofs.Ranges.{ranged-rest}
use Rattle.statements.proofs.Rooms.{line-more, one_less}

-- ---- lines

joined : (x : ℕ) (f : List ℕ) (fs : List (List ℕ)) → suc (length (join x (f ∷ fs))) ≡ size (f ∷ fs)
unfolding join
joined x f [] = omega arith
joined x f (g ∷ fs) = simp length-append (omega (arith, joined x g fs))

-- the line of a letter and a text
asked-line : (t : Text) → TextOk t → length (line_bytes (asked t)) ≤ 67
unfolding line_bytes join
asked-line t h = simp length-append (omega (arith, text-size t h))

shown-line : (t : Text) → TextOk t → length (line_bytes (shown t)) ≤ 67
unfolding line_bytes join
shown-line t h = simp length-append (omega (arith, text-size t h))

ruled-line : (t : Text) → TextOk t → length (line_bytes (ruled t)) ≤ 67
unfolding line_bytes join
ruled-line t h = simp length-append (omega (arith, text-size t h))

offered-line : (t : Text) (options : List Text) → TextOk t → TextsOk options → length options ≤ 8 → length (line_bytes (offered t options)) ≤ 587
unfolding line_bytes
offered-line t options h k few =
    simp length-append (omega (arith, joined comma (bytes "C") (t ∷ options), text-size t h, texts-size options k))

answered-line : (a : ℤ) → mag a < 2147483648 → length (line_bytes (answered a)) ≤ 14
unfolding line_bytes join
answered-line a h = simp length-append (omega (arith, decimal-short a h))

option-line : (n : ℕ) (a : ℤ) → n ≤ 8 → is_option n a ≡ true → length (line_bytes (answered a)) ≤ 4
unfolding line_bytes join decimal
option-line n (pos a) h e = simp length-append (omega (arith, decimalℕ-short 0 a (omega (arith, ltb-true a n e))))
option-line n (negsuc a) h e = absurd (false≢true e)

-- ---- a statement

-- how many bytes are written
abbrev pub written : State → ℕ
written s = length (transcript_bytes s.transcript)

-- at most n bytes more, and answers of 32 bits left
abbrev pub Adds : ℕ → State → State → Type 0
Adds n s u = (written u ≤ written s + n) × Ranged u.left

answer-adds : (r : ℕ) (left : List ℤ) (s : State) → s.left ≡ left → Ranged left → Adds 14 s (state_of (perform.answer r left s))
answer-adds r [] s e h = (omega arith, rw e h)
answer-adds r (a ∷ rest) s e h = (omega (arith, line-more s.transcript (answered a), answered-line a (h.each 0)), ranged-rest a rest h)

module _ (r : ℕ) (t : Text) (options : List Text) (few : length options ≤ 8) where
  -- a wrong answer, and the C line again
  unfoldable again-adds : ℕ
  again-adds = 14 + length (line_bytes (offered t options))

  again-is : again-adds ≡ 14 + length (line_bytes (offered t options))
  unfolding again-adds
  again-is = refl

  choose-adds : (wrong : ℕ) (left : List ℤ) (s : State) → s.left ≡ left → Ranged left
      → Adds ((2 - wrong) * again-adds + 4) s (state_of (choose r t options wrong left s))
  unfolding choose
  choose-adds wrong [] s e h = (omega arith, rw e h)
  choose-adds wrong (a ∷ rest) s e h =
      go (is_option (length options) a) (ltb wrong 2) refl refl
      (choose-adds (suc wrong) rest (offer t options (take_wrong a rest s)) refl (ranged-rest a rest h))
    where
      go : (v w : Bool) → is_option (length options) a ≡ v → ltb wrong 2 ≡ w
          → Adds ((2 - suc wrong) * again-adds + 4) (offer t options (take_wrong a rest s))
          (state_of (choose r t options (suc wrong) rest (offer t options (take_wrong a rest s))))
          → Adds ((2 - wrong) * again-adds + 4) s
          (state_of (cond v (goes_on (take_answer r a rest s)) (cond w (choose r t options (suc wrong) rest (offer t options (take_wrong a rest s))) (outside s))))
      go true w p f g = (omega (arith, line-more s.transcript (answered a), option-line (length options) a few p), ranged-rest a rest h)
      go false true p f g = (
        omega (
          arith,
          g.0,
          one_less wrong again-adds f,
          again-is,
          answered-line a (h.each 0),
          line-more s.transcript (answered a),
          line-more (take_wrong a rest s).transcript (offered t options),
        ),
        g.1,
      )
      go false false p f g = (omega arith, rw e h)

pub perform-adds : (x : Statement) → StatementOk x → (s : State) → Ranged s.left → Adds 1793 s (state_of (perform x s))
unfolding perform
perform-adds (input r t) ok s h =
    let a = answer-adds r s.left (write_line (asked t) (step s)) refl h in
    (omega (arith, a.0, line-more s.transcript (asked t), asked-line t ok.1), a.1)
perform-adds (inputs r t options) ok s h =
    let a = choose-adds r t options ok.3 0 s.left (offer t options s) refl h in
    (omega (arith, a.0, again-is r t options ok.3, line-more s.transcript (offered t options), offered-line t options ok.1 ok.4 ok.3), a.1)
perform-adds (print t) ok s h = (omega (arith, line-more s.transcript (shown t), shown-line t ok), h)
perform-adds (printex t) ok s h = (omega (arith, line-more s.transcript (ruled t), ruled-line t ok), h)
