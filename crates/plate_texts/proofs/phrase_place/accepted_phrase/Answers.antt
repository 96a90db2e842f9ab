-- `accepted_phrase` meets its contract: the source, and the place there, which are known to be good.
use Rattle.std.proofs.Common.{◌∙◌, ap, ◌+◌, Ok, arith}
use Rattle.plate.specs.Reading.{got}
use Rattle.phrase_lookup.specs.Found.{phrase_at}
use Rattle.fields.specs.Places.{place_at}
use Rattle.plate_texts.proofs.Known.{known_same}
use Rattle.plate_texts.proofs.SourceRead.{source-near}
use Rattle.plate_texts.proofs.PhraseRead.{width_small, source-alike, source-known, source-good, phrase-read, place-part, place-good}
use Rattle.plate_texts.proofs.phrase_place.accepted_phrase.Goals as goal

pub accepted_source-source-requires : goal.accepted_source-source-requires
accepted_source-source-requires c =
    let a = c.args in
    (c.requires.2, known_same (source-alike a.known.now a.plate.now a.at c.book_count.ensures.value c.own_count.ensures.value) (source-known _ _ _ c.requires.4))

pub width_of-width-requires : goal.width_of-width-requires
width_of-width-requires c =
    let a = c.args in
    let e = c.accepted_source-source.ensures ∙ source-alike a.known.now a.plate.now a.at c.book_count.ensures.value c.own_count.ensures.value in
    let good = source-good _ _ _ _ _ _ e c.requires.1 (omega arith) (omega arith) in
    omega (arith, good.few)

pub part_ahead-place-requires : goal.part_ahead-place-requires
part_ahead-place-requires c =
    let a = c.args in
    let e = c.accepted_source-source.ensures ∙ source-alike a.known.now a.plate.now a.at c.book_count.ensures.value c.own_count.ensures.value in
    let good = source-good _ _ _ _ _ _ e c.requires.1 (omega arith) (omega arith) in
    let near = source-near _ _ _ _ _ _ e in
    omega (arith, near, c.width_of-width.ensures, width_small _ good.few)

pub overflow_add-result : goal.overflow_add-result
overflow_add-result c =
    let near = source-near _ _ _ _ _ _ c.accepted_source-source.ensures in
    omega (arith, near)

pub overflow_add-result-2 : goal.overflow_add-result-2
overflow_add-result-2 c =
    let a = c.args in
    let e = c.accepted_source-source.ensures ∙ source-alike a.known.now a.plate.now a.at c.book_count.ensures.value c.own_count.ensures.value in
    let good = source-good _ _ _ _ _ _ e c.requires.1 (omega arith) (omega arith) in
    let near = source-near _ _ _ _ _ _ e in
    omega (arith, near, c.width_of-width.ensures, width_small _ good.few)

pub returns : goal.returns
returns c =
    let a = c.args in
    let e = c.accepted_source-source.ensures ∙ source-alike a.known.now a.plate.now a.at c.book_count.ensures.value c.own_count.ensures.value in
    let good = source-good _ _ _ _ _ _ e c.requires.1 (omega arith) (omega arith) in
    let near = source-near _ _ _ _ _ _ e in
    let part = place-part a.known.now a.plate.now a.at _ _ _ e good _ c.requires.2 near c.requires.4 c.width_of-width.ensures c.part_ahead-place.ensures.0 in
    record {
      next_value =
          ap (λ found. got (phrase_at a.known.now found) (place_at a.plate.now (a.at + c.accepted_source-source.result.k + c.width_of-width.result))) c.found_in.ensures
          ∙ phrase-read _ _ _ _ _ _ e good (Ok (record { value = c.part_ahead-place.result; next = _ })) part;
      there = rw c.found_in.ensures (place-good _ _ _ _ _ _ e good _ _ part);
    }
