-- `only_source` meets its contract: own phrases alone, or the book alone.
use Rattle.std.proofs.Common.{refl}
use Rattle.plate_texts.proofs.SourceRead.{only-own, only-book}
use Rattle.plate_texts.proofs.phrase_place.only_source.Goals as goal

pub returns-then-texts-eq0 : goal.returns-then-texts-eq0
returns-then-texts-eq0 c = (refl, λ p. only-own _ _ p c.if-texts-eq0.true)

pub returns-then-count-eq0 : goal.returns-then-count-eq0
returns-then-count-eq0 c = (refl, λ p. only-book _ _ p c.if-texts-eq0.false c.if-count-eq0.true)
