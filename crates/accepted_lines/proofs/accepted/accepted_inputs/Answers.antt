-- `accepted_inputs` meets its contract: the first field is a register, and all but two are options.
use Prim.Native.Nat.{ℕ, ◌-◌, ◌≤◌}
use native.Mathlib.Omega.{arith}
use mathlib.Core.Path.{◌≡◌, sym, ap, ◌∙◌}
use mathlib.Core.List.{List}
use mathlib.Core.Bool.{true}
use Rattle.std.specs.Prelude.{Ok}
use lib.ListN.{length}
use Rattle.text.specs.Parts.{comma, parts_from}
use Rattle.lines.specs.declared.Head.TheVariants.{Inputs}
use Rattle.lines.specs.Line.{inputs_line}
use Rattle.lines.specs.Clean.{is_clean}
use Rattle.lines.proofs.FieldPlaces.{rest-parts, fields-there}
use Rattle.lines.proofs.CleanLines.{head_given, inputs-clean}
use Rattle.accepted_lines.proofs.KnownLines.{inputs-known}
use Rattle.accepted_lines.proofs.accepted.accepted_inputs.Goals as goal

there : (s : List ℕ) (a : ℕ) → is_clean (inputs_line (parts_from comma a s)) ≡ true → a ≤ length s
there s a k = fields-there s a (λ e. omega (arith, (inputs-known (parts_from comma a s) k).1))

pub known_register-requires : goal.known_register-requires
known_register-requires c =
    let g = c.args in inputs-known (parts_from comma g.a g.s.now) c.requires

pub slice_bounds-count_parts-count : goal.slice_bounds-count_parts-count
slice_bounds-count_parts-count c = let g = c.args in there g.s.now g.a c.requires

pub slice_bounds-count_parts-start : goal.slice_bounds-count_parts-start
slice_bounds-count_parts-start c = let g = c.args in there g.s.now g.a c.requires

pub overflow_sub-result : goal.overflow_sub-result
overflow_sub-result c =
    let s = c.args.s.now in
    let a = c.args.a in
    omega (arith, c.count_parts.ensures ∙ ap length (rest-parts s a (there s a c.requires)), (inputs-known (parts_from comma a s) c.requires).1)

pub returns : goal.returns
returns c =
    let s = c.args.s.now in
    let a = c.args.a in
    let fs = parts_from comma a s in
    ap (λ n. Ok (Inputs c.known_register.result.value (n - 2))) (c.count_parts.ensures ∙ ap length (rest-parts s a (there s a c.requires))) ∙ ap (λ o. head_given o (λ n. Ok (Inputs n (length fs - 2)))) (sym c.known_register.ensures.s_value) ∙ inputs-clean fs c.requires
