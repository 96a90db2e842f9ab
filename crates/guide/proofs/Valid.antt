-- Blocks whose statements and tests meet the rules.
use Rattle.transcript.proofs.Valid.{StatementOk, TestOk}
use Rattle.guide.specs.Block.{Block, empty, does, if_then, if_else}

abbrev pub BlockOk : Block → Type 0
BlockOk empty = Unit
BlockOk (does x rest) = StatementOk x × BlockOk rest
BlockOk (if_then test t rest) = TestOk test × BlockOk t × BlockOk rest
BlockOk (if_else test t e rest) = TestOk test × BlockOk t × BlockOk e × BlockOk rest
