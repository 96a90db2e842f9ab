-- A guide comes from an accepted text: it is the block of its lines.
use Prim.Native.Nat.{ℕ}
use mathlib.Core.Path.{◌≡◌, subst}
use mathlib.Core.List.{List}
use Rattle.causes.specs.Answers.{made}
use Rattle.causes.proofs.Results.{made-from}
use Rattle.text.specs.Text.{Text}
use Rattle.lines.specs.declared.Form.TheVariants.{Guide as a_guide}
use Rattle.lines.specs.Check.{Accepted, accept}
use Rattle.guide.specs.Block.{Block, block_of}
use Rattle.guide.specs.Guide.{guide_of}

-- what holds of the block of each accepted text holds of the guide
pub guide-holds : (P : Block → Type 0) (book : List Text) (text : List ℕ)
    → ((a : Accepted) → accept a_guide book text ≡ made a → P (block_of a.lines)) → (b : Block) → guide_of book text ≡ made b → P b
unfolding guide_of
guide-holds P book text h b e =
    let c = made-from (accept a_guide book text) _ b e in
    let whole : block_of c.0.lines ≡ b = cc c.2 in
    subst P whole (h c.0 c.1)
