-- Document 01, "Guide lines": registers, constants and skips in decimal. "Numbers carry no plus sign, no leading zero and no `-0`."
use Rattle.std.specs.Prelude.{ℕ, zero, suc, ◌+◌, ◌*◌, ◌-◌, ◌/◌, ◌%◌, List, [], ◌∷◌, ◌++◌, Bool, true, false, cond, not, ◌&&◌, leb, ltb, eqb, ℤ, pos, negsuc, Option, None, Some}
use Rattle.text.specs.Parts.{all}

-- `0` is 48, `9` is 57, `-` is 45
abbrev pub is_digit : ℕ → Bool
is_digit b = leb 48 b && leb b 57

-- the minus sign
abbrev pub minus : ℕ
minus = 45

-- the value of digits that follow digits of the value n
unfoldable pub value_from : ℕ → List ℕ → ℕ
value_from n [] = n
value_from n (b ∷ s) = value_from (n * 10 + (b - 48)) s

-- one digit or more, with "no leading zero"
unfoldable pub is_natural : List ℕ → Bool
is_natural [] = false
is_natural (b ∷ []) = is_digit b
is_natural (b ∷ c ∷ s) = is_digit b && not (eqb b 48) && all is_digit (c ∷ s)

-- a number from 0 to the limit
unfoldable pub natural : ℕ → List ℕ → Option ℕ
natural limit s = cond (is_natural s && leb (value_from 0 s) limit) (Some (value_from 0 s)) None

-- "R is a reading's register, 0 to 31"
abbrev pub register : List ℕ → Option ℕ
register s = natural 31 s

-- "SKIP 0 to 511"
abbrev pub skip : List ℕ → Option ℕ
skip s = natural 511 s

-- a number without a sign
abbrev pub positive : Option ℕ → Option ℤ
positive None = None
positive (Some n) = Some (pos n)

-- "no `-0`"
abbrev pub negative : Option ℕ → Option ℤ
negative None = None
negative (Some zero) = None
negative (Some (suc n)) = Some (negsuc n)

-- "C is a constant, −2147483648 to 2147483647"
unfoldable pub constant : List ℕ → Option ℤ
constant [] = None
constant (b ∷ s) = cond (eqb b minus) (negative (natural 2147483648 s)) (positive (natural 2147483647 (b ∷ s)))

-- the digits of n, the highest first; a fuel of n is enough
unfoldable pub digits : ℕ → ℕ → List ℕ
digits zero n = (48 + n % 10) ∷ []
digits (suc f) n =
    elim (ltb n 10) [ true ↦ (48 + n % 10) ∷ [] | false ↦ digits f (n / 10) ++ ((48 + n % 10) ∷ []) ]

-- a number from 0 on, in decimal
abbrev pub decimalℕ : ℕ → List ℕ
decimalℕ n = digits n n

-- a number written by the same rules
unfoldable pub decimal : ℤ → List ℕ
decimal (pos n) = decimalℕ n
decimal (negsuc n) = minus ∷ decimalℕ (suc n)
