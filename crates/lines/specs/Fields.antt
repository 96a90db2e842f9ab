-- The R, OP and C of an if.
use Rattle.std.specs.Prelude.{ℕ, List, Option, option_and_then, option_map}
use Rattle.decimals.specs.Number.{register, constant}
use Rattle.transcript.specs.declared.Test.{Test}
use Rattle.lines.specs.Line.{operator}

-- the test that three fields give
unfoldable pub test_of : List ℕ → List ℕ → List ℕ → Option Test
test_of r o c =
    option_and_then
    (λ r. option_and_then (λ o. option_map (λ c. record { register = r; op = o; constant = c }) (constant c)) (operator o))
    (register r)
