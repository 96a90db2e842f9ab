-- The codes of the texts of a plate.
use Rattle.std.specs.Prelude.{ℕ, zero, suc, Bool, true, false, leb}

-- the code of a text, with n phrases
abbrev pub code_with : ℕ → ℕ → Bool
code_with n zero = true
code_with n (suc zero) = true
code_with n (suc (suc zero)) = leb 1 n
code_with n (suc (suc (suc k))) = false
