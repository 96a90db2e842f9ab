-- What a guide is: its block, or the refusal with its line. Document 02, h): "Own phrases leave the guides", so that it has nothing else.
use Rattle.std.specs.Prelude.{ℕ, List}
use Rattle.causes.specs.Answers.{Result, made, ◌>>=◌}
use Rattle.text.specs.Text.{Text}
use Rattle.lines.specs.declared.Form.TheVariants.{Guide as a_guide}
use Rattle.lines.specs.Check.{accept}
use Rattle.guide.specs.Block.{Block, block_of}

-- causes 2 to 7 and 9
unfoldable pub guide_of : List Text → List ℕ → Result Block
guide_of book text = do
  a ← accept a_guide book text
  made (block_of a.lines)
