-- How many bytes a case lends, and what they hold before a call.
use Rattle.std.specs.Prelude.{ℕ, zero, suc, ◌+◌, ◌*◌, ◌%◌, min, List, [], ◌∷◌, ◌++◌, length}

-- how many elements of a space are lent: as many as a case says, at most all
abbrev pub lent_of : {A : Type 0} → List A → ℕ → ℕ
lent_of space count = min count (length space)

-- the content of a lent buffer of a length before a call
unfoldable pub content : ℕ → List ℕ
content zero = []
content (suc i) = content i ++ ((i * 7 + 13) % 256 ∷ [])
