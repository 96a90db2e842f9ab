-- Parts of a text: lines parted by LF, fields parted by commas.
use Rattle.std.specs.Prelude.{ℕ, suc, List, [], ◌∷◌, ◌++◌, Bool, true, false, cond, ◌&&◌, eqb, leb, length, drop}

-- "LF (byte 10)"
abbrev pub LF : ℕ
LF = 10

-- a comma
abbrev pub comma : ℕ
comma = 44

-- a byte in front of the first part
abbrev pub on_first : ℕ → List (List ℕ) → List (List ℕ)
on_first b [] = (b ∷ []) ∷ []
on_first b (p ∷ ps) = (b ∷ p) ∷ ps

-- the parts between the bytes x; the last is what follows the last x
unfoldable pub split : ℕ → List ℕ → List (List ℕ)
split x [] = [] ∷ []
split x (b ∷ s) = cond (eqb b x) ([] ∷ split x s) (on_first b (split x s))

-- the parts from the place a on; none where a is past the end
unfoldable pub parts_from : ℕ → ℕ → List ℕ → List (List ℕ)
parts_from x a s = cond (leb a (length s)) (split x (drop a s)) []

-- parts with x between them
unfoldable pub join : ℕ → List (List ℕ) → List ℕ
join x [] = []
join x (p ∷ []) = p
join x (p ∷ q ∷ ps) = p ++ (x ∷ join x (q ∷ ps))

-- how many bytes stand before the first x; all of them where there is none
unfoldable pub until_byte : ℕ → List ℕ → ℕ
until_byte x [] = 0
until_byte x (b ∷ s) = cond (eqb b x) 0 (suc (until_byte x s))

-- the same bytes
unfoldable pub same : List ℕ → List ℕ → Bool
same [] [] = true
same [] (b ∷ t) = false
same (a ∷ s) [] = false
same (a ∷ s) (b ∷ t) = eqb a b && same s t

module _ {A : Type 0} where
  -- every one passes the test
  unfoldable pub all : (A → Bool) → List A → Bool
  all p [] = true
  all p (a ∷ s) = p a && all p s
