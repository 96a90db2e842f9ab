-- RFC 3629, section 4: which bytes are well-formed UTF-8.
use Rattle.std.specs.Prelude.{ℕ, List, [], ◌∷◌, Bool, true, false, cond, ◌&&◌, leb}
use Rattle.std.proofs.Math.Option.{Option, none, some}

-- from the least byte up to the greatest
pub record Range : Type 0 where
  pub least : ℕ
  pub most : ℕ

infix 50 ◌to◌
abbrev pub ◌to◌ : ℕ → ℕ → Range
a to z = record { least = a; most = z }

-- whether a byte lies in a range
abbrev pub within : Range → ℕ → Bool
within r b = leb r.least b && leb b r.most

-- "UTF8-tail = %x80-BF"
abbrev pub tail : Range
tail = 0x80 to 0xBF

-- a letter, the RFC's UTF8-char, digits and signs among them: the range of its first byte, and those of the bytes behind it
pub record Letter : Type 0 where
  pub first : Range
  pub behind : List Range

infix 40 ◌then◌
abbrev pub ◌then◌ : Range → List Range → Letter
r then rs = record { first = r; behind = rs }

-- "UTF8-char = UTF8-1 / UTF8-2 / UTF8-3 / UTF8-4", in the order of that table
abbrev pub letters : List Letter
letters =
    -- "UTF8-1 = %x00-7F"
    (0x00 to 0x7F then [])
    -- "UTF8-2 = %xC2-DF UTF8-tail"
    ∷ (0xC2 to 0xDF then (tail ∷ []))
    -- "UTF8-3 = %xE0 %xA0-BF UTF8-tail / %xE1-EC 2( UTF8-tail ) / %xED %x80-9F UTF8-tail / %xEE-EF 2( UTF8-tail )"
    ∷ (0xE0 to 0xE0 then ((0xA0 to 0xBF) ∷ tail ∷ []))
    ∷ (0xE1 to 0xEC then (tail ∷ tail ∷ []))
    ∷ (0xED to 0xED then ((0x80 to 0x9F) ∷ tail ∷ []))
    ∷ (0xEE to 0xEF then (tail ∷ tail ∷ []))
    -- "UTF8-4 = %xF0 %x90-BF 2( UTF8-tail ) / %xF1-F3 3( UTF8-tail ) / %xF4 %x80-8F 2( UTF8-tail )"
    ∷ (0xF0 to 0xF0 then ((0x90 to 0xBF) ∷ tail ∷ tail ∷ []))
    ∷ (0xF1 to 0xF3 then (tail ∷ tail ∷ tail ∷ []))
    ∷ (0xF4 to 0xF4 then ((0x80 to 0x8F) ∷ tail ∷ tail ∷ []))
    ∷ []

-- the ranges behind a first byte; none where no letter begins so
unfoldable pub begins : List Letter → ℕ → Option (List Range)
begins [] b = none
begins (l ∷ ls) b = cond (within l.first b) (some l.behind) (begins ls b)

-- bytes that lie in the ranges due, and whole letters behind them
unfoldable pub letters_behind : List Range → List ℕ → Bool
letters_behind [] [] = true
letters_behind (r ∷ due) [] = false
letters_behind [] (b ∷ s) = elim (begins letters b) [ none ↦ false | some due ↦ letters_behind due s ]
letters_behind (r ∷ due) (b ∷ s) = within r b && letters_behind due s

-- "UTF8-octets = *( UTF8-char )"
unfoldable pub well_formed : List ℕ → Bool
well_formed s = letters_behind [] s

-- a byte of ASCII
abbrev pub ascii : ℕ → Bool
ascii b = leb b 0x7F
