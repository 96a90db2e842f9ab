-- Document 01, "Translation".
use Rattle.std.specs.Prelude.{suc, List, [], ◌∷◌, ◌++◌, length}
use Rattle.guide.specs.Block.{Block, empty, does, if_then, if_else}
use Rattle.plate.specs.Program.{Instruction, statement, goto, if_skip, Program}

-- "Each `input`, `inputs`, `print` and `printex` becomes the instruction of its name, in the guide's order"
-- "`if` becomes an if with a skip: the true block's instructions, plus one if there is an `else` line. That line becomes a goto whose skip
-- is the else block's instructions. `fi` gives nothing."
unfoldable pub translate_block : Block → List Instruction
translate_block empty = []
translate_block (does x rest) = statement x ∷ translate_block rest
translate_block (if_then test t rest) =
    if_skip test (length (translate_block t)) ∷ (translate_block t ++ translate_block rest)
translate_block (if_else test t e rest) =
    if_skip test (suc (length (translate_block t)))
    ∷ (translate_block t ++ (goto (length (translate_block e)) ∷ (translate_block e ++ translate_block rest)))

-- the program of a guide, which has no own phrases (document 02, h)
unfoldable pub translate_guide : Block → Program
translate_guide b = record { own = []; instructions = translate_block b }
