-- Statements and tests that meet the rules.
use Prim.Native.Nat.{◌<◌, ◌≤◌}
use lib.ListN.{length}
use lib.IntN.{ℤ}
use lib.Signed.{mag}
use Rattle.text.proofs.Valid.{TextOk, TextsOk}
use Rattle.transcript.specs.Statement.{Statement, input, inputs, print, printex}
use Rattle.transcript.specs.declared.Test.{Test}

abbrev pub StatementOk : Statement → Type 0
StatementOk (input r t) = (r < 32) × TextOk t
StatementOk (inputs r t options) = (r < 32) × TextOk t × (2 ≤ length options) × (length options ≤ 8) × TextsOk options
StatementOk (print t) = TextOk t
StatementOk (printex t) = TextOk t

-- −2147483648 to 2147483647
abbrev pub ConstantOk : ℤ → Type 0
ConstantOk c = mag c < 2147483648

abbrev pub TestOk : Test → Type 0
TestOk t = (t.register < 32) × ConstantOk t.constant
