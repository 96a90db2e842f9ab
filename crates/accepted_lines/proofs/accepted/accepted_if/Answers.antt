-- `accepted_if` meets its contract: three fields are a test, and in a listing the fourth is a skip.
use native.Mathlib.Omega.{arith}
use mir.Syntax.{w32}
use mir.Facts.{to_z-of_z}
use Rattle.std.specs.Prelude.{Some}
use lib.ListN.{drop, length-drop}
use mathlib.Core.Path.{sym, ap, ◌∙◌}
use Rattle.text.specs.Parts.{comma, parts_from}
use Rattle.decimals.specs.Number.{skip}
use Rattle.lines.proofs.CleanLines.{guide-if, listing-if}
use Rattle.accepted_lines.proofs.KnownLines.{if-known, test-of, fourth, known-number}
use Rattle.accepted_lines.proofs.accepted.accepted_if.Goals as goal

pub known_register-r-requires : goal.known_register-r-requires
known_register-r-requires c =
    let g = c.args in
    let fs = parts_from comma g.a g.s.now in
    let k = if-known g.form fs c.requires in
    (k.r, omega (arith, k.count))

pub known_operator-op-requires : goal.known_operator-op-requires
known_operator-op-requires c =
    let g = c.args in
    let fs = parts_from comma g.a g.s.now in
    let k = if-known g.form fs c.requires in
    rw c.known_register-r.ensures.s_value_2 (k.o, omega (arith, k.count, length-drop 1 fs))

pub known_constant-c-requires : goal.known_constant-c-requires
known_constant-c-requires c =
    let g = c.args in
    let fs = parts_from comma g.a g.s.now in
    let k = if-known g.form fs c.requires in
    rw (c.known_operator-op.ensures.a_in_bounds.1, c.known_register-r.ensures.s_value_2) k.c

pub returns-in-Guide : goal.returns-in-Guide
returns-in-Guide c =
    let g = c.args in
    let fs = parts_from comma g.a g.s.now in
    let k = if-known g.form fs c.requires in
    let t = test-of fs c.known_register-r.ensures.s_value (rw c.known_register-r.ensures.s_value_2 at c.known_operator-op.ensures.s_value) (rw (c.known_operator-op.ensures.a_in_bounds.1, c.known_register-r.ensures.s_value_2) at c.known_constant-c.ensures.s_value) in
    let back = to_z-of_z {w = w32} {z = c.known_constant-c.result.value} (record { sfits = c.struct_told-1.given.0.1 }) in
    rw back (guide-if g.form fs c.requires t c.in-Guide.is)

pub known_number-requires : goal.known_number-requires
known_number-requires c =
    let g = c.args in
    let fs = parts_from comma g.a g.s.now in
    let k = if-known g.form fs c.requires in
    let t = test-of fs c.known_register-r.ensures.s_value (rw c.known_register-r.ensures.s_value_2 at c.known_operator-op.ensures.s_value) (rw (c.known_operator-op.ensures.a_in_bounds.1, c.known_register-r.ensures.s_value_2) at c.known_constant-c.ensures.s_value) in
    let p = c.known_constant-c.ensures.s_value_2 ∙ ap (drop 1) (c.known_operator-op.ensures.a_in_bounds.1 ∙ ap (drop 1) c.known_register-r.ensures.s_value_2) in
    let j = k.k c.in-Listing.is in
    let n = known-number 511 g.s.now _ j.0 (omega arith) (rw (sym p) at j.1) in
    (n.digits, n.there)

pub returns-in-Listing : goal.returns-in-Listing
returns-in-Listing c =
    let g = c.args in
    let fs = parts_from comma g.a g.s.now in
    let k = if-known g.form fs c.requires in
    let t = test-of fs c.known_register-r.ensures.s_value (rw c.known_register-r.ensures.s_value_2 at c.known_operator-op.ensures.s_value) (rw (c.known_operator-op.ensures.a_in_bounds.1, c.known_register-r.ensures.s_value_2) at c.known_constant-c.ensures.s_value) in
    let p = c.known_constant-c.ensures.s_value_2 ∙ ap (drop 1) (c.known_operator-op.ensures.a_in_bounds.1 ∙ ap (drop 1) c.known_register-r.ensures.s_value_2) in
    let j = k.k c.in-Listing.is in
    let n = known-number 511 g.s.now _ j.0 (omega arith) (rw (sym p) at j.1) in
    let back = to_z-of_z {w = w32} {z = c.known_constant-c.result.value} (record { sfits = c.struct_told-1.given.0.1 }) in
    rw back (listing-if g.form fs c.requires t c.in-Listing.is (ap skip (sym (fourth fs)) ∙ rw p at (n.reads ∙ ap Some (sym c.known_number.ensures.value_value))))
