-- Values that are read one behind the other, with those that were read before them.
use mathlib.Core.Path.{◌≡◌, refl, sym, ap}
use mathlib.Core.List.{List, [], ◌∷◌, ◌++◌, append_assoc}
use Rattle.plate.specs.Reading.{Place, Read, got, stopped, Reader, return, onward, ◌>>=◌}

module _ {A : Type 0} where
  -- what is read behind earlier values
  abbrev pub behind : List A → Read (List A) → Read (List A)
  behind front (got xs q) = got (front ++ xs) q
  behind front (stopped cause bit) = stopped cause bit

  pub behind-none : (m : Read (List A)) → behind [] m ≡ m
  behind-none (got xs q) = refl
  behind-none (stopped cause bit) = refl

  pub behind-behind : (front more : List A) (m : Read (List A)) → behind front (behind more m) ≡ behind (front ++ more) m
  behind-behind front more (got xs q) = ap (λ l. got l q) (sym (append_assoc front more xs))
  behind-behind front more (stopped cause bit) = refl

  -- one value, and what is read behind it
  pub behind-one : (front : List A) (a : A) (r : Reader (List A)) (q : Place)
      → behind front ((r >>= λ xs. return (a ∷ xs)) q) ≡ behind (front ++ (a ∷ [])) (r q)
  unfolding ◌>>=◌ return
  behind-one front a r q = go (r q)
    where
      go : (m : Read (List A)) → behind front (onward m (λ xs. return (a ∷ xs))) ≡ behind (front ++ (a ∷ [])) m
      go (got xs q) = ap (λ l. got l q) (sym (append_assoc front (a ∷ []) xs))
      go (stopped cause bit) = refl
