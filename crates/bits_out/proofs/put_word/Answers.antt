-- `bits_out::put_word` meets its contract: eight bytes with their new bits, or as many as there are. Assumes nothing.
use native.Mathlib.Omega.{arith}
use Rattle.bits_out.proofs.WordWriting.{word-written}
use borrow.Author.Rules.{rules}
use Rattle.bits_out.proofs.put_word.Goals as goal

pub returns-then-index-out : goal.returns-then-index-out
returns-then-index-out c = let a = c.args in word-written a.out.now a.at a.width a.value _ _ (search rules) (omega arith) c.word-old.ensures c.with_bits.ensures c.store_word.ensures
