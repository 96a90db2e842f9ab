-- The lines of instructions that meet the rules have the room that is counted for them.
use Prim.Native.Nat.{ℕ, ◌+◌, ◌≤◌}
use mathlib.Core.Path.{◌≡◌, sym, ap, ◌∙◌}
use mathlib.Core.List.{List, [], ◌∷◌, map}
use native.Mathlib.Omega.{arith}
use lib.ListN.{length, length-append}
use Rattle.text.specs.Parts.{join, comma}
use Rattle.text.specs.Text.{Text}
use Rattle.decimals.specs.Number.{decimal, decimalℕ}
use Rattle.decimals.proofs.Decimals.{decimalℕ-short}
use Rattle.decimals.proofs.Constants.{decimal-short}
use Rattle.transcript.specs.declared.Test.{Test}
use Rattle.transcript.specs.Statement.{input, inputs, print, printex}
use Rattle.transcript.specs.Offered.{options_bytes}
use Rattle.transcript.proofs.Offers.{join-commas}
use Rattle.plate.specs.Program.{Instruction, statement, goto, if_skip}
use Rattle.plate.proofs.Valid.{InstructionOk, InstructionsOk}
use Rattle.listing.specs.LineSizes.{line_room, lines_room}
use Rattle.listing.specs.Listing.{instruction_fields, lines_text}
use Rattle.listing.proofs.Sizes.{operator-size}

-- ---- the bytes of a line, by those of its fields

abbrev bytes_of : Instruction → ℕ
bytes_of i = length (lines_text (instruction_fields i ∷ []))

input-bytes : (r : ℕ) (t : Text) → bytes_of (statement (input r t)) ≡ 8 + length (decimalℕ r) + length t
unfolding lines_text join
input-bytes r t = simp length-append (omega arith)

inputs-bytes : (r : ℕ) (t : Text) (os : List Text) → bytes_of (statement (inputs r t os)) ≡ 9 + length (decimalℕ r) + length t + length (options_bytes os)
unfolding lines_text join
inputs-bytes r t os =
    let behind : length (join comma (t ∷ os)) ≡ length t + length (options_bytes os) = sym (ap length (join-commas t os)) ∙ length-append t (options_bytes os) in
    simp length-append (omega (arith, behind))

print-bytes : (t : Text) → bytes_of (statement (print t)) ≡ 7 + length t
unfolding lines_text join
print-bytes t = simp length-append (omega arith)

printex-bytes : (t : Text) → bytes_of (statement (printex t)) ≡ 9 + length t
unfolding lines_text join
printex-bytes t = simp length-append (omega arith)

goto-bytes : (k : ℕ) → bytes_of (goto k) ≡ 6 + length (decimalℕ k)
unfolding lines_text join
goto-bytes k = simp length-append (omega arith)

if-bytes : (t : Test) (k : ℕ) → bytes_of (if_skip t k) ≡ 9 + length (decimalℕ t.register) + length (decimal t.constant) + length (decimalℕ k)
unfolding lines_text join
if-bytes t k = simp length-append (omega (arith, operator-size t.op))

-- ---- the room

line-room : (behind : ℕ) (i : Instruction) → behind ≤ 512 → InstructionOk behind i → bytes_of i ≤ line_room i
line-room behind (statement (input r t)) few h = omega (arith, input-bytes r t, decimalℕ-short 1 r (omega arith))
line-room behind (statement (inputs r t os)) few h = omega (arith, inputs-bytes r t os, decimalℕ-short 1 r (omega arith))
line-room behind (statement (print t)) few h = omega (arith, print-bytes t)
line-room behind (statement (printex t)) few h = omega (arith, printex-bytes t)
line-room behind (goto k) few h = omega (arith, goto-bytes k, decimalℕ-short 2 k (omega arith))
line-room behind (if_skip t k) few h =
    omega (arith, if-bytes t k, decimalℕ-short 1 t.register (omega arith), decimal-short t.constant h.0.1, decimalℕ-short 2 k (omega arith))

more_bytes : (i : Instruction) (is : List Instruction)
    → length (lines_text (map instruction_fields (i ∷ is))) ≡ bytes_of i + length (lines_text (map instruction_fields is))
unfolding lines_text
more_bytes i is = simp length-append (omega arith)

pub lines-room : (is : List Instruction) → length is ≤ 512 → InstructionsOk is → length (lines_text (map instruction_fields is)) ≤ lines_room is
unfolding lines_text
lines-room [] few h = omega arith
lines-room (i ∷ is) few h = omega (arith, more_bytes i is, line-room (length is) i (omega arith) h.0, lines-room is (omega arith) h.1)
