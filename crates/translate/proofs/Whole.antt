-- The call: a refusal of the book or of the guide, and the plate of an accepted guide.
use Prim.Native.Nat.{ℕ, suc}
use native.Mathlib.Omega.{arith}
use mathlib.Core.Path.{◌≡◌, sym, ap, ◌∙◌}
use mathlib.Core.List.{List, []}
use mathlib.Core.Option.{none}
use Rattle.std.specs.Prelude.{Ok, Err}
use lib.ListN.{length, replicate, length-replicate}
use Rattle.causes.specs.Answers.{made, refused, Answer, refusing}
use Rattle.causes.specs.declared.Refusal.{Refusal}
use Rattle.std.specs.Prelude.{Ok, Err}
use Rattle.phrases.specs.Book.{book_phrases}
use Rattle.phrases.specs.Lookup.{book_texts, book_answer, own_texts}
use Rattle.phrases.proofs.Answers.{book-is}
use Rattle.lines.specs.declared.Form.TheVariants.{Guide as a_guide}
use Rattle.lines.specs.declared.Counts.{Counts}
use Rattle.lines.specs.Check.{lines_of, Accepted, accept}
use Rattle.lines.specs.Answers.{seen_in, checked_answer}
use Rattle.check_lines.proofs.Answers.{accept-is}
use Rattle.plate.specs.Program.{Program}
use Rattle.plate.specs.Writing.{plate_bytes, plate_sized}
use Rattle.listing.specs.Listing.{first_past}
use Rattle.listing.proofs.Skips.{fit-none-past}
use Rattle.assemble.specs.LineCode.{program_in}
use Rattle.assemble.specs.Assembled.{lent_program}
use Rattle.assemble.proofs.Lent.{lent-within}
use Rattle.guide.specs.Block.{block_of}
use Rattle.guide.specs.Guide.{guide_of}
use Rattle.guide.specs.Lines.{lines_at}
use Rattle.guide.proofs.Accepted.{accepted-guide}
use Rattle.translating.specs.Translation.{translate_block, translate_guide}
use Rattle.translating.specs.Call.{translation, translate_call}
use Rattle.translate.specs.Lengths.{skip_table}
use Rattle.translating.proofs.Counted.{guide-counted}
use Rattle.translate.proofs.Coded.{lines_code_lem}
use Rattle.translating.proofs.Skips.{block-fits}

-- ---- the book and the guide

module _ (g book : List ℕ) where
  book-refused : (r : Refusal) → book_answer (book_phrases book) ≡ Err r → translation book g ≡ refused r.cause r.place
  unfolding translation
  book-refused r e = rw (book-is book e)

  guide-refused : (r : Refusal) → book_phrases book ≡ made (book_texts book)
      → checked_answer (seen_in a_guide (book_texts book) g) ≡ Err r → translation book g ≡ refused r.cause r.place
  unfolding translation guide_of
  guide-refused r e f = rw (e, accept-is a_guide g (book_texts book) f)

  -- an accepted guide
  module _ (k : Counts) (f : checked_answer (seen_in a_guide (book_texts book) g) ≡ Ok k) where
    abbrev held : Accepted
    held = record { own = own_texts k.own g; lines = lines_of a_guide g }

    accepted : accept a_guide (book_texts book) g ≡ made held
    accepted = accept-is a_guide g (book_texts book) f

    abbrev program : Program
    program = program_in a_guide (skip_table g) g 0

    program-is : translate_guide (block_of (lines_of a_guide g)) ≡ program
    unfolding translate_guide skip_table lines_at own_texts
    program-is =
        let printed = (accepted-guide (book_texts book) g held accepted).printed in
        let room = (guide-counted (book_texts book) g held accepted).room in
        let zeros : List ℕ = replicate 512 0 in
        let size : length zeros ≡ 512 = length-replicate {A = ℕ} 512 0 in
        let code = lines_code_lem (lines_of a_guide g) (block_of (lines_of a_guide g)) zeros printed (omega arith) in
        λ i. record { own = []; instructions = sym code i }

    -- no skip goes past
    none-past : first_past (suc (length program.own)) program.instructions ≡ none
    unfolding translate_guide own_texts
    none-past =
        ap (λ (p : Program). first_past 1 p.instructions) (sym program-is)
        ∙ fit-none-past 1 (translate_block (block_of (lines_of a_guide g))) (block-fits (block_of (lines_of a_guide g)))

    translated : book_phrases book ≡ made (book_texts book) → translation book g ≡ plate_sized (plate_bytes (book_texts book) program)
    unfolding translation guide_of
    translated e = rw (e, accepted) (ap (λ (p : Program). plate_sized (plate_bytes (book_texts book) p)) program-is)

  -- ---- what the call leaves

  module _ (out : List ℕ) where
    pub call-book : (r : Refusal) → book_answer (book_phrases book) ≡ Err r → (refusing r.cause r.place, out) ≡ translate_call g book out
    unfolding translate_call
    call-book r e = rw (book-refused r e)

    pub call-guide : (r : Refusal) → book_phrases book ≡ made (book_texts book)
        → checked_answer (seen_in a_guide (book_texts book) g) ≡ Err r → (refusing r.cause r.place, out) ≡ translate_call g book out
    unfolding translate_call
    call-guide r e f = rw (guide-refused r e f)

    pub call-translated : (k : Counts) (y : Answer × List ℕ) → book_phrases book ≡ made (book_texts book)
        → checked_answer (seen_in a_guide (book_texts book) g) ≡ Ok k
        → y ≡ lent_program (book_texts book) (program_in a_guide (skip_table g) g 0) out → y ≡ translate_call g book out
    unfolding translate_call
    call-translated k y e f h =
        rw (translated k f e)
        (h ∙ lent-within (book_texts book) (program_in a_guide (skip_table g) g 0) out (none-past k f))
