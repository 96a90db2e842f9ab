-- `bits_ahead::number_ahead` meets its contract: the number is there, or too few bits are left. Assumes nothing.
use Prim.Native.Nat.{◌+◌, ◌-◌, ◌*◌, ◌≤◌}
use mathlib.Core.Path.{sym, ap, ◌∙◌}
use native.Mathlib.Omega.{arith}
use lib.ListN.{length, drop, length-drop}
use Rattle.std.specs.Prelude.{Some}
use Rattle.bits.specs.Bits.{bytes_bits}
use Rattle.bits.specs.Ahead.{part_ahead}
use Rattle.bits.proofs.Bytes.{length-bytes_bits}
use Rattle.bits.proofs.Reading.{number-in, number-none}
use Rattle.bits_ahead.proofs.Ahead.{part-value}
use borrow.Author.Rules.{rules}
use Rattle.bits_ahead.proofs.number_ahead.Goals as goal

pub returns-then-saturating_sub-width : goal.returns-then-saturating_sub-width
returns-then-saturating_sub-width c =
    let a = c.args in
    sym (number-none a.width (drop (a.at + a.k) (bytes_bits a.bytes.now)) (simp (length-drop, length-bytes_bits) (search rules)))

pub returns : goal.returns
returns c =
    let a = c.args in
    let bits = drop (a.at + a.k) (bytes_bits a.bytes.now) in
    let enough : a.width ≤ length bits = simp (length-drop, length-bytes_bits) (search rules) in
    let there : a.width ≤ length a.bytes.now * 8 - (a.at + a.k) = omega (arith, enough, length-drop (a.at + a.k) (bytes_bits a.bytes.now), length-bytes_bits a.bytes.now) in
    let value = ap (part_ahead a.k a.width) c.requires.0 ∙ part-value a.bytes.now a.at a.k a.width (search rules) there in
    ap Some (c.part_ahead.ensures.0 ∙ value) ∙ sym (number-in a.width bits enough)
