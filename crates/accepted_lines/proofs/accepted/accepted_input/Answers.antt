-- `accepted_input` meets its contract: the first field is a register.
use mathlib.Core.Path.{sym, ap, ◌∙◌}
use Rattle.std.specs.Prelude.{Ok}
use Rattle.text.specs.Parts.{comma, parts_from}
use Rattle.lines.specs.declared.Head.TheVariants.{Input}
use Rattle.lines.proofs.CleanLines.{head_given, input-clean}
use Rattle.accepted_lines.proofs.KnownLines.{input-known}
use Rattle.accepted_lines.proofs.accepted.accepted_input.Goals as goal

pub known_register-requires : goal.known_register-requires
known_register-requires c =
    let g = c.args in input-known (parts_from comma g.a g.s.now) c.requires

pub returns : goal.returns
returns c =
    let g = c.args in
    let fs = parts_from comma g.a g.s.now in
    ap (λ o. head_given o (λ n. Ok (Input n))) (sym c.known_register.ensures.s_value) ∙ input-clean fs c.requires
