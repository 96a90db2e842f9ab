-- `signed` meets its contract: the number's bits with their sign.
use Rattle.std.proofs.lemmas.Int.{of_z-to_z}
use mir.Syntax.{w32}
use Rattle.vectors.proofs.Signs.{signed-bits}
use borrow.Author.Rules.{rules}
use Rattle.vectors.proofs.input.signed.Goals as goal

pub returns : goal.returns
returns c = rw (c.cast_signed.ensures, of_z-to_z w32 c.word.result (search rules), ← c.word.ensures) (signed-bits _ (search rules))
