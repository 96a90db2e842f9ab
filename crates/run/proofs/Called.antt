-- The call: a refusal of the book or of the plate, scratch that is too short, and the run of an accepted plate.
use Prim.Native.Nat.{ℕ, ◌≤◌, ◌<◌}
use mathlib.Core.Path.{◌≡◌, sym, ap, ◌∙◌}
use mathlib.Core.List.{List}
use lib.IntN.{ℤ}
use borrow.Author.Tests.{le-leb, lt-leb}
use Rattle.causes.specs.Answers.{made, Answer, refusing, lent}
use Rattle.causes.specs.declared.Cause.TheVariants.{TooShort}
use Rattle.causes.specs.declared.Refusal.{Refusal}
use Rattle.std.specs.Prelude.{Err}
use Rattle.phrases.specs.Book.{book_phrases}
use Rattle.phrases.specs.Lookup.{book_texts, book_answer, phrases_in}
use Rattle.phrases.proofs.Answers.{book-is}
use Rattle.transcript.specs.State.{start}
use Rattle.transcript.specs.Perform.{report}
use Rattle.plate.specs.Plate.{plate_program}
use Rattle.reader.specs.declared.Contents.{Contents}
use Rattle.std.specs.Prelude.{Ok, Err}
use Rattle.std.specs.Prelude as prelude
use Rattle.reader.specs.Holding.{program_at, program_read}
use Rattle.running.specs.Run.{run}
use Rattle.running.specs.Call.{scratch_numbers, ran, run_call}

-- the phrases of a book that is checked are at most 256
pub call-book : (plate book : List ℕ) (answers : List ℤ) (scratch : ℕ) (out : List ℕ) (r : Refusal) → book_answer (book_phrases book) ≡ Err r
    → (refusing r.cause r.place, out) ≡ run_call plate book answers scratch out
unfolding run_call ran
call-book plate book answers scratch out r e = rw (book-is book e)

-- the plate has been read with a book that is checked
module _ (plate book own : List ℕ) (e : book_phrases book ≡ made (book_texts book)) (f : prelude.Result Contents Refusal)
    (h : program_read plate book own f ≡ plate_program (book_texts book) plate) where
  is_read : (g : prelude.Result Contents Refusal) → f ≡ g → plate_program (book_texts book) plate ≡ program_read plate book own g
  is_read g k = sym h ∙ ap (program_read plate book own) k

  module _ (answers : List ℤ) (scratch : ℕ) (out : List ℕ) where
    pub call-plate : (r : Refusal) → f ≡ Err r → (refusing r.cause r.place, out) ≡ run_call plate book answers scratch out
    unfolding run_call ran
    call-plate r k = rw (e, is_read (Err r) k)

    -- "scratch too short": 11
    pub call-scratch : (c : Contents) → f ≡ Ok c → scratch < scratch_numbers → (refusing TooShort 0, out) ≡ run_call plate book answers scratch out
    unfolding run_call ran
    call-scratch c k l = rw (e, is_read (Ok c) k, lt-leb scratch_numbers scratch l)

    pub call-run : (c : Contents) (y : Answer × List ℕ) → f ≡ Ok c → scratch_numbers ≤ scratch
        → y ≡ lent (made (report (run (program_at plate (phrases_in book own c.own) c).instructions 0 (start answers)))) out → y ≡ run_call plate book answers scratch out
    unfolding run_call ran
    call-run c y k l w = rw (e, is_read (Ok c) k, le-leb scratch_numbers scratch l) w
