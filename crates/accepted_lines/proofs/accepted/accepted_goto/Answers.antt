-- `accepted_goto` meets its contract: the field is a skip.
use native.Mathlib.Omega.{arith}
use Rattle.std.specs.Prelude.{Some, Ok}
use mathlib.Core.Path.{sym, ap, ◌∙◌}
use Rattle.text.specs.Parts.{comma, parts_from}
use Rattle.lines.specs.declared.Head.TheVariants.{Goto}
use Rattle.lines.proofs.CleanLines.{head_given, goto-clean}
use Rattle.accepted_lines.proofs.KnownLines.{goto-known, known-number}
use Rattle.accepted_lines.proofs.accepted.accepted_goto.Goals as goal

pub known_number-requires : goal.known_number-requires
known_number-requires c =
    let g = c.args in
    let fs = parts_from comma g.a g.s.now in
    let k = goto-known g.form fs c.requires in
    let n = known-number 511 g.s.now g.a k.0 (omega arith) k.1 in
    (n.digits, n.there)

pub returns : goal.returns
returns c =
    let g = c.args in
    let fs = parts_from comma g.a g.s.now in
    let k = goto-known g.form fs c.requires in
    let n = known-number 511 g.s.now g.a k.0 (omega arith) k.1 in
    ap (λ o. head_given o (λ k. Ok (Goto k))) (sym (n.reads ∙ ap Some (sym c.known_number.ensures.value_value))) ∙ goto-clean g.form fs c.requires
