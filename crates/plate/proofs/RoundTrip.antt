-- A plate that was written is read as its program, and a plate that was read is its program written.
use Prim.Native.Nat.{ℕ, zero, suc, ◌+◌, ◌*◌, ◌-◌, ◌%◌, ◌≤◌, ◌<◌}
use mathlib.Core.Path.{◌≡◌, refl, sym, subst, ap, ◌∙◌}
use mathlib.Core.List.{List, [], ◌∷◌, ◌++◌}
use mathlib.Core.Bool.{Bool, true, false, cond, ◌&&◌, false≢true}
use native.Mathlib.Nat.{zero-add}
use native.Mathlib.Omega.{arith}
use lib.ListN.{length, get_or, replicate, length-append, length-replicate}
use lib.Dec.{leb, ltb}
use borrow.Author.Tests.{leb-true, le-leb, ltb-true, lt-ltb}
use Rattle.causes.specs.Answers.{Result, made, refused}
use Rattle.causes.specs.declared.Cause.TheVariants.{PlateTooLong, Filling}
use Rattle.bits.specs.Bits.{bytes_bits, filled}
use Rattle.bits.proofs.Bytes.{length-bytes_bits, bits-of-pack, pack-of-bits}
use Rattle.text.specs.Text.{Text}
use Rattle.phrases.proofs.Valid.{BookOk}
use Rattle.text.proofs.Tests.{and_parts}
use Rattle.plate.specs.Program.{Program}
use Rattle.plate.specs.Writing.{program_bits, plate_bytes}
use Rattle.plate.specs.Reading.{Place, Read, got, stopped, judge, onward, ◌>>=◌}
use Rattle.plate.specs.Plate.{program, zeros, filling, whole_plate, result_of, plate_program}
use Rattle.plate.proofs.Valid.{ProgramOk}
use Rattle.plate.proofs.Readers.{Step, here, Told}
use Rattle.plate.proofs.Programs.{takes-program, gives-program}

abbrev start : List ℕ → Place
start bs = record { left = bytes_bits bs; at = 0 }

-- ---- written, then read

zeros-replicate : (n : ℕ) → zeros (replicate n false) ≡ true
unfolding zeros
zeros-replicate zero = refl
zeros-replicate (suc n) = zeros-replicate n

filling-got : (p : Program) (n at : ℕ) → n < 8
    → filling p (record { left = replicate n false; at = at }) ≡ got p (record { left = replicate n false; at = at })
unfolding filling
filling-got p n at few = rw (length-replicate n false, lt-ltb n 8 few, zeros-replicate n)

-- a program that meets the rules, written and read
pub written_read : (book : List Text) (p : Program) → ProgramOk book p → length (plate_bytes book p) ≤ 2953
    → plate_program book (plate_bytes book p) ≡ made p
unfolding plate_program plate_bytes whole_plate ◌>>=◌ filled
written_read book p ok short =
    rw (le-leb (length (plate_bytes book p)) 2953 short)
    (ap result_of
    (ap (λ m. onward m filling) ((takes-program book p ok).run (start (plate_bytes book p)) end over)
    ∙ filling-got p spare (length bits) (omega arith)))
  where
    bits : List Bool
    bits = program_bits book p

    spare : ℕ
    spare = (8 - length bits % 8) % 8

    end : Place
    end = record { left = replicate spare false; at = length bits }

    over : Step (start (plate_bytes book p)) bits end
    over = record { bits = bits-of-pack bits; moved = sym (zero-add _) }

-- ---- read, then written

zeros-only : (bs : List Bool) → zeros bs ≡ true → bs ≡ replicate (length bs) false
unfolding zeros
zeros-only [] h = refl
zeros-only (true ∷ bs) h = absurd (false≢true h)
zeros-only (false ∷ bs) h = ap (λ l. false ∷ l) (zeros-only bs h)

-- bits and the fewer than 8 zero bits that end a byte are the filled bits
fills : (bits rest : List Bool) (n : ℕ) → length bits + length rest ≡ n * 8 → length rest < 8 → zeros rest ≡ true
    → bits ++ rest ≡ filled bits
unfolding filled
fills bits rest n whole few h =
    let count : length rest ≡ (8 - length bits % 8) % 8 = omega arith in
    ap (λ l. bits ++ l) (zeros-only rest h ∙ ap (λ k. replicate k false) count)

-- what an answer says of the plate
abbrev Reads : List Text → List ℕ → Result Program → Type 0
Reads book bs (made p) = ProgramOk book p × (plate_bytes book p ≡ bs) × (length bs ≤ 2953)
Reads book bs (refused cause place) = Unit

module _ (book : List Text) (bs : List ℕ) (bytes : (i : ℕ) → get_or bs i 0 < 256) (Good-book : BookOk book) where
  reads : Reads book bs (plate_program book bs)
  unfolding plate_program whole_plate ◌>>=◌ filling plate_bytes
  reads = sized (leb (length bs) 2953) refl
    where
      ended : length bs ≤ 2953 → (p : Program) (q : Place) → Told (start bs) (program_bits book) (ProgramOk book) (got p q)
          → (b : Bool) → (ltb (length q.left) 8 && zeros q.left) ≡ b
          → Reads book bs (result_of (judge b Filling q.at (got p q)))
      ended short p q t true e =
          let tests = and_parts (ltb (length q.left) 8) (zeros q.left) e in
          let bits : bytes_bits bs ≡ program_bits book p ++ q.left = t.1.bits in
          let whole : length (program_bits book p) + length q.left ≡ length bs * 8 =
          sym (ap length bits ∙ length-append (program_bits book p) q.left) ∙ length-bytes_bits bs in
          let full = fills (program_bits book p) q.left (length bs) whole (ltb-true (length q.left) 8 tests.0) tests.1 in
          (t.0, pack-of-bits (program_bits book p) bs bytes (sym full ∙ sym bits), short)
      ended short p q t false e = tt

      told : length bs ≤ 2953 → (m : Read Program) → Told (start bs) (program_bits book) (ProgramOk book) m
          → Reads book bs (result_of (onward m filling))
      told short (got p q) t = ended short p q t _ refl
      told short (stopped cause bit) t = tt

      sized : (b : Bool) → leb (length bs) 2953 ≡ b
          → Reads book bs (cond b (result_of (onward (program book (start bs)) filling)) (refused PlateTooLong 0))
      sized true e =
          told (leb-true _ _ e) (program book (start bs)) ((gives-program book Good-book).tells (start bs) (start bs) (here _))
      sized false e = tt

-- bytes that are read, whatever they are, hold a program that meets the rules, and writing it gives the same bytes
pub read-written : (book : List Text) (bs : List ℕ) (p : Program) → ((i : ℕ) → get_or bs i 0 < 256) → BookOk book
    → plate_program book bs ≡ made p → ProgramOk book p × (plate_bytes book p ≡ bs) × (length bs ≤ 2953)
read-written book bs p bytes Good-book e = subst (Reads book bs) e (reads book bs bytes Good-book)
