-- All definitions that a case computes with, opened by one name.
use Rattle.std.specs.Prelude.{ℕ}
use Rattle.bits.specs.Bits as Bits
use Rattle.decimals.specs.Number as TextNumber
use Rattle.text.specs.Parts as TextParts
use Rattle.text.specs.Text as Text
use Rattle.text.specs.Utf8 as Utf8
use Rattle.phrases.specs.Book as PhrasesBook
use Rattle.phrases.specs.Phrases as Phrases
use Rattle.transcript.specs.Perform as TranscriptPerform
use Rattle.transcript.specs.State as TranscriptState
use Rattle.transcript.specs.Waiting as TranscriptWaiting
use Rattle.lines.specs.Check as LinesCheck
use Rattle.lines.specs.Line as LinesLine
use Rattle.plate.specs.Plate as Plate
use Rattle.plate.specs.Reading as PlateReading
use Rattle.plate.specs.Writing as PlateWriting
use Rattle.listing.specs.Calls as ListingCalls
use Rattle.listing.specs.Listing as Listing
use Rattle.guide.specs.Block as GuideBlock
use Rattle.guide.specs.Guide as Guide
use Rattle.walking.specs.Call as WalkCall
use Rattle.walking.specs.Walk as Walk
use Rattle.running.specs.Call as RunCall
use Rattle.running.specs.Run as Run
use Rattle.translating.specs.Call as TranslateCall
use Rattle.translating.specs.Translation as TranslateTranslation
use Rattle.printed.specs.Lines as PrintedLines
use Rattle.printed.specs.Pairs as PrintedPairs
use Rattle.show.specs.Show as Show
use Rattle.cases.specs.Agree.{all_agree}
use Rattle.cases.specs.Listings.{phrase_lines}
use Rattle.cases.specs.Row.{hex, utf8, bits_in, times, numbered}

unfoldable pub opened : ℕ
unfolding all_agree phrase_lines hex utf8 bits_in times numbered Bits.bits_of Bits.value_of Bits.bytes_bits Bits.filled Bits.bytes_of Bits.pack TextNumber.value_from TextNumber.is_natural TextNumber.natural TextNumber.constant TextNumber.digits TextNumber.decimal TextParts.split TextParts.join TextParts.same TextParts.all Text.is_text Utf8.begins Utf8.letters_behind Utf8.well_formed PhrasesBook.phrases_from PhrasesBook.book_phrases Phrases.place Phrases.find Phrases.width_from Phrases.width TranscriptPerform.choose TranscriptPerform.perform TranscriptPerform.holds TranscriptPerform.report TranscriptState.line_bytes TranscriptState.transcript_bytes TranscriptState.start TranscriptWaiting.ends_asking LinesCheck.check_from LinesCheck.check_lines LinesCheck.accept LinesLine.operator LinesLine.kind_line LinesLine.line_of LinesLine.lines_in Plate.characters Plate.spelled Plate.own_from Plate.own_count Plate.phrase_at Plate.phrase Plate.text Plate.constant Plate.test Plate.skip Plate.options Plate.instruction Plate.program Plate.zeros Plate.filling Plate.whole_plate Plate.plate_program PlateReading.number PlateReading.judged PlateReading.return PlateReading.◌>>=◌ PlateReading.many PlateWriting.spelled_bits PlateWriting.text_bits PlateWriting.texts_bits PlateWriting.constant_bits PlateWriting.instructions_bits PlateWriting.phrases_bits PlateWriting.own_bits PlateWriting.program_bits PlateWriting.plate_bytes ListingCalls.written_plate ListingCalls.read_listing ListingCalls.write_plate_call ListingCalls.read_plate_call Listing.program_fields Listing.lines_text Listing.listing_text Listing.instructions_of Listing.first_past Listing.listing_program GuideBlock.parse GuideBlock.block_of Guide.guide_of WalkCall.walked WalkCall.walk_call Walk.walk RunCall.ran RunCall.run_call Run.run TranslateCall.translation TranslateCall.translate_call TranslateTranslation.translate_block TranslateTranslation.translate_guide PrintedLines.plate_line PrintedLines.refused_line PrintedPairs.pairs Show.accepted Show.shown
opened = 0
