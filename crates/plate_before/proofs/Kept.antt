-- A reader that keeps what another one reads: the same value, and the same place behind it. Each way to make readers keeps that.
use Prim.Native.Nat.{ℕ, zero, suc}
use mathlib.Core.Path.{◌≡◌, refl, ap, subst, ◌∙◌}
use mathlib.Core.List.{[], ◌∷◌}
use mathlib.Core.Bool.{Bool, true, false}
use Rattle.causes.specs.declared.Cause.{Cause}
use Rattle.plate.specs.Reading.{Place, Read, got, stopped, Reader, judge, judge_read, judged, return, onward, ◌>>=◌, many}

-- whatever r reads, s reads
pub record Keeps {A : Type 0} (r s : Reader A) : Type 0 where
  pub kept : (p : Place) (a : A) (q : Place) → r p ≡ got a q → s p ≡ got a q

-- a refusal is no value
abbrev Refuses : {A : Type 0} → Read A → Type 0
Refuses (got a q) = ⊥
Refuses (stopped cause bit) = Unit

never : {A : Type 0} {cause : Cause} {bit : ℕ} {a : A} {q : Place} → ◌≡◌ {A = Read A} (stopped cause bit) (got a q) → ⊥
never e = subst Refuses e tt

module _ {A : Type 0} where
  pub keeps_self : (r : Reader A) → Keeps r r
  keeps_self r = record { kept = λ p a q e. e }

  -- a test that lets more pass
  pub keeps-judged : {r s : Reader A} {test more : A → Bool} (cause : Cause) → Keeps r s → ((a : A) → test a ≡ true → more a ≡ true)
      → Keeps (judged r test cause) (judged s more cause)
  unfolding judged
  keeps-judged {r} {s} {test} {more} cause k h = record { kept = kept }
    where
      kept : (p : Place) (a : A) (q : Place) → judge_read test cause p.at (r p) ≡ got a q → judge_read more cause p.at (s p) ≡ got a q
      kept p a q e = go (r p) refl e
        where
          by : (b : A) (u : Place) → r p ≡ got b u → (v : Bool) → test b ≡ v → judge v cause p.at (got b u) ≡ got a q
              → judge_read more cause p.at (s p) ≡ got a q
          by b u f true t g = ap (judge_read more cause p.at) (k.kept p b u f) ∙ rw (h b t) g
          by b u f false t g = absurd (never g)

          go : (m : Read A) → r p ≡ m → judge_read test cause p.at m ≡ got a q → judge_read more cause p.at (s p) ≡ got a q
          go (got b u) f g = by b u f (test b) refl g
          go (stopped c b) f g = absurd (never g)

module _ {A B : Type 0} where
  -- what is read, and then what its value calls for
  pub keeps_then : {r s : Reader A} {f g : A → Reader B} → Keeps r s → ((a : A) → Keeps (f a) (g a)) → Keeps (r >>= f) (s >>= g)
  unfolding ◌>>=◌
  keeps_then {r} {s} {f} {g} k h = record { kept = kept }
    where
      kept : (p : Place) (b : B) (q : Place) → onward (r p) f ≡ got b q → onward (s p) g ≡ got b q
      kept p b q e = go (r p) refl e
        where
          go : (m : Read A) → r p ≡ m → onward m f ≡ got b q → onward (s p) g ≡ got b q
          go (got a u) i j = ap (λ m. onward m g) (k.kept p a u i) ∙ (h a).kept u b q j
          go (stopped c n) i j = absurd (never j)

  -- the same reader before and after
  pub keeps-behind : (r : Reader A) {f g : A → Reader B} → ((a : A) → Keeps (f a) (g a)) → Keeps (r >>= f) (r >>= g)
  keeps-behind r h = keeps_then (keeps_self r) h

  -- a code that more pass, and what each code of before calls for
  pub keeps-coded : (r : Reader A) {test more : A → Bool} (cause : Cause) {f g : A → Reader B} → ((a : A) → test a ≡ true → more a ≡ true)
      → ((a : A) → test a ≡ true → Keeps (f a) (g a)) → Keeps (judged r test cause >>= f) (judged r more cause >>= g)
  unfolding ◌>>=◌ judged
  keeps-coded r {test} {more} cause {f} {g} h k = record { kept = kept }
    where
      kept : (p : Place) (b : B) (q : Place) → onward (judge_read test cause p.at (r p)) f ≡ got b q
          → onward (judge_read more cause p.at (r p)) g ≡ got b q
      kept p b q e = go (r p) e
        where
          by : (a : A) (u : Place) (v : Bool) → test a ≡ v → onward (judge v cause p.at (got a u)) f ≡ got b q
              → onward (judge_read more cause p.at (got a u)) g ≡ got b q
          by a u true t j = rw (h a t) ((k a t).kept u b q j)
          by a u false t j = absurd (never j)

          go : (m : Read A) → onward (judge_read test cause p.at m) f ≡ got b q → onward (judge_read more cause p.at m) g ≡ got b q
          go (got a u) j = by a u (test a) refl j
          go (stopped c n) j = absurd (never j)

module _ {A : Type 0} {r s : ℕ → Reader A} (k : (n : ℕ) → Keeps (r n) (s n)) where
  pub keeps-many : (n : ℕ) → Keeps (many r n) (many s n)
  unfolding many
  keeps-many zero = keeps_self (return [])
  keeps-many (suc n) = keeps_then (k n) (λ a. keeps_then (keeps-many n) (λ as'. keeps_self (return (a ∷ as'))))
