-- Bytes read from pairs of hexadecimal digits: a file of the tools (docs/DECISIONS.md, "Tools").
use Rattle.std.specs.Prelude.{ℕ, suc, ◌+◌, ◌*◌, ◌-◌, List, [], ◌∷◌, ◌++◌, Bool, true, false, cond, ◌&&◌, take, drop, ltb, leb, eqb}
use Rattle.text.specs.Quoted.{bytes}
use Rattle.text.specs.Parts.{split, same, LF}

-- the value of a digit in upper or lower case; 16 for any other byte
abbrev pub digit_value : ℕ → ℕ
digit_value b =
    cond (leb 48 b && leb b 57) (b - 48)
    (cond (leb 65 b && leb b 70) (b - 55)
    (cond (leb 97 b && leb b 102) (b - 87) 16))

-- a pair's byte in front of what follows, where both are digits; else a fault
abbrev pub on_pair : ℕ → ℕ → List ℕ × Bool → List ℕ × Bool
on_pair high low rest =
    cond (ltb high 16 && ltb low 16) ((high * 16 + low) ∷ rest.0, rest.1) ([], false)

-- the bytes of the pairs of a line, with spaces between, up to the first fault; and whether there is none
unfoldable pub pairs_in : List ℕ → List ℕ × Bool
pairs_in [] = ([], true)
pairs_in (b ∷ []) = ([], eqb b 32)
pairs_in (b ∷ c ∷ s) = cond (eqb b 32) (pairs_in (c ∷ s)) (on_pair (digit_value b) (digit_value c) (pairs_in s))

-- a line without the `plate,` that may stand in front of it
unfoldable pub unlabelled : List ℕ → List ℕ
unlabelled line = cond (same (take 6 line) (bytes "plate,")) (drop 6 line) line

-- what is read of a line, in front of what is read of the lines behind it, where it has no fault
abbrev pub on_line : ℕ → List ℕ × Bool → List ℕ × ℕ → List ℕ × ℕ
on_line n line rest = cond line.1 (line.0 ++ rest.0, rest.1) (line.0, n)

-- the bytes of the pairs of the lines from line n on, up to the first fault; and the fault's line, 0 where there is none
unfoldable pub pairs_from : ℕ → List (List ℕ) → List ℕ × ℕ
pairs_from n [] = ([], 0)
pairs_from n (line ∷ rest) = on_line n (pairs_in (unlabelled line)) (pairs_from (suc n) rest)

-- the same of a text
abbrev pub pairs_of : List ℕ → List ℕ × ℕ
pairs_of s = pairs_from 1 (split LF s)
