-- What is printed has at most 333,593 bytes: a listing of 327,680, and `plate,` with the 2,953 pairs of the longest plate and LF.
use Prim.Native.Nat.{ℕ, ◌+◌, ◌≤◌}
use native.Mathlib.Omega.{arith}
use mathlib.Core.Path.{◌≡◌, refl}
use mathlib.Core.List.{List, [], ◌∷◌}
use lib.ListN.{length, length-append, length-take}
use Rattle.output.specs.Pour.{poured}
use Rattle.output.proofs.Pour.{kept}
use Rattle.output.proofs.Poured.{ended}
use Rattle.causes.specs.Answers.{Result, made, refused}
use Rattle.causes.specs.Causes.{number}
use Rattle.causes.specs.declared.Cause.{Cause}
use Rattle.causes.specs.declared.Cause.TheVariants.{
  Book,
  TooLong,
  Byte,
  Kind,
  Value,
  Phrase,
  Nesting,
  Skip,
  Instructions,
  PlateTooLong,
  TooShort,
  PlateEnds,
  Unused,
  Spelling,
  Filling,
}
use Rattle.decimals.proofs.Decimals.{decimalℕ-short}
use Rattle.translating.specs.Call.{translation}
use Rattle.printed.specs.Pairs.{pairs}
use Rattle.printed.specs.Lines.{plate_line, refused_line}
use Rattle.show.specs.Show.{shown}
use Rattle.show.proofs.Shown.{Front, translation-refused, translation-made}

pairs-length : (bs : List ℕ) → length (pairs bs) ≡ length bs + length bs
unfolding pairs
pairs-length [] = refl
pairs-length (b ∷ bs) = omega (arith, pairs-length bs)

plate-line-length : (plate : List ℕ) → length (plate_line plate) ≡ 7 + (length plate + length plate)
unfolding plate_line
plate-line-length plate = simp length-append (omega (arith, pairs-length plate))

number-most : (cause : Cause) → number cause ≤ 15
number-most Book = omega arith
number-most TooLong = omega arith
number-most Byte = omega arith
number-most Kind = omega arith
number-most Value = omega arith
number-most Phrase = omega arith
number-most Nesting = omega arith
number-most Skip = omega arith
number-most Instructions = omega arith
number-most PlateTooLong = omega arith
number-most TooShort = omega arith
number-most PlateEnds = omega arith
number-most Unused = omega arith
number-most Spelling = omega arith
number-most Filling = omega arith

refused-line-most : (cause : Cause) (place : ℕ) → place ≤ 16385 → length (refused_line cause place) ≤ 17
unfolding refused_line
refused-line-most cause place h =
    simp length-append
    (omega (arith, decimalℕ-short 1 (number cause) (omega (arith, number-most cause)), decimalℕ-short 4 place (omega arith)))

pub shown-most : (guide : List ℕ) → length (shown guide) ≤ 333593
shown-most guide = go (translation [] guide) refl
  where
    go : (t : Result (List ℕ)) → translation [] guide ≡ t → length (shown guide) ≤ 333593
    go (made plate) e =
        let a = translation-made guide plate e in
        rw (a.text, length-append) (omega (arith, a.size, a.room, plate-line-length plate))
    go (refused cause place) e =
        let r = translation-refused guide cause place e in
        rw r.text (omega (arith, refused-line-most cause place r.small))

-- so that many bytes are printed at most
pub printed-most : (guide out after : List ℕ) (n : ℕ) → (n, after) ≡ poured 0 (shown guide) out → n ≤ 333593
printed-most guide out after n e = omega (arith, ended 0 (shown guide) out n after e, shown-most guide)

-- and in a buffer of as many bytes or more, all of it stands at the front
pub printed-fits : (guide out after : List ℕ) (n : ℕ) → (n, after) ≡ poured 0 (shown guide) out → 333593 ≤ length out → Front n after
printed-fits guide out after n e h =
    let size = ended 0 (shown guide) out n after e in
    let fits : n ≤ length after = omega (arith, kept 0 (shown guide) out n after e, shown-most guide) in
    (fits, simp length-take (omega arith))
