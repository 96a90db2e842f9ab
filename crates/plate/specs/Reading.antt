-- What a reader of bits is: the number, the judged field, and one reader after the other. Every other reader is made of these.
-- "The bit is the field's first": each of them refuses at the bit where it began.
use Rattle.std.specs.Prelude.{ℕ, zero, suc, ◌+◌, List, [], ◌∷◌, Bool, true, false, cond, length, take, drop, leb}
use Rattle.causes.specs.declared.Cause.{Cause}
use Rattle.causes.specs.declared.Cause.TheVariants.{PlateEnds}
use Rattle.bits.specs.Bits.{value_of}

-- the bits that are left, and how many came before them: "bits from 0"
pub record Place : Type 0 where
  pub left : List Bool
  pub at : ℕ

-- a value and the place behind it, or a cause with its bit
pub data Read (A : Type 0) : Type 0 where
  got : A → Place → Read A
  stopped : Cause → ℕ → Read A

-- what stands at a place
abbrev pub Reader : Type 0 → Type 0
Reader A = Place → Read A

-- a number of w bits; "plate ends inside a field": 12
unfoldable pub number : ℕ → Reader ℕ
number w p =
    cond (leb w (length p.left))
    (got (value_of (take w p.left)) (record { left = drop w p.left; at = p.at + w }))
    (stopped PlateEnds p.at)

module _ {A : Type 0} where
  -- what was read, or the cause at a bit where the test failed
  abbrev pub judge : Bool → Cause → ℕ → Read A → Read A
  judge true cause bit r = r
  judge false cause bit r = stopped cause bit

  -- a value that was read, judged; a refusal stays
  abbrev pub judge_read : (A → Bool) → Cause → ℕ → Read A → Read A
  judge_read test cause bit (got a q) = judge (test a) cause bit (got a q)
  judge_read test cause bit (stopped c b) = stopped c b

  -- what r reads, if it passes the test; otherwise the cause at the bit where r began
  unfoldable pub judged : Reader A → (A → Bool) → Cause → Reader A
  judged r test cause p = judge_read test cause p.at (r p)

  -- nothing read
  unfoldable pub return : A → Reader A
  return a p = got a p

module _ {A B : Type 0} where
  -- what the value calls for, at the place behind it; a refusal stays
  abbrev pub onward : Read A → (A → Reader B) → Read B
  onward (got a q) f = f a q
  onward (stopped cause bit) f = stopped cause bit

  -- r, and then what its value calls for
  unfoldable pub ◌>>=◌ : Reader A → (A → Reader B) → Reader B
  ◌>>=◌ r f p = onward (r p) f

infixl 20 ◌>>=◌
module _ {A : Type 0} where
  -- n times, each told how many come behind it
  unfoldable pub many : (ℕ → Reader A) → ℕ → Reader (List A)
  many r zero = return []
  many r (suc n) = do
    a ← r n
    as' ← many r n
    return (a ∷ as')
