-- The laws of readers, two for each way to make one: `Takes`, that it reads what was written, and `Gives`, that what it read is what
-- writing would have put there.
use Prim.Native.Nat.{ℕ, zero, suc, ◌+◌, ◌^◌, ◌≤◌, ◌<◌}
use mathlib.Core.Path.{◌≡◌, refl, sym, ap, ◌∙◌}
use mathlib.Core.List.{List, [], ◌∷◌, ◌++◌, append_assoc, append-nil}
use mathlib.Core.Bool.{Bool, true, false, cond}
use native.Mathlib.Nat.{add-zero}
use native.Mathlib.Omega.{arith}
use lib.ListN.{length, take, drop, length-append, take-append-drop}
use lib.Seq.{take_at, drop_at}
use lib.Dec.{leb}
use borrow.Author.Tests.{le-leb, leb-true}
use Rattle.bits.specs.Bits.{bits_of, value_of}
use Rattle.bits.proofs.Numbers.{length-bits_of, value-of-bits, bits-of-first, first_below}
use Rattle.causes.specs.declared.Cause.{Cause}
use Rattle.causes.specs.declared.Cause.TheVariants.{PlateEnds}
use Rattle.plate.specs.Reading.{
  Place,
  Read,
  got,
  stopped,
  Reader,
  number,
  judge,
  judge_read,
  judged,
  return,
  onward,
  ◌>>=◌,
  many,
}

-- from the place p over the bits to the place q
pub record Step (p : Place) (bs : List Bool) (q : Place) : Type 0 where
  pub bits : p.left ≡ bs ++ q.left
  pub moved : q.at ≡ p.at + length bs

pub here : (p : Place) → Step p [] p
here p = record { bits = refl; moved = sym (add-zero _) }

pub joined : {p m q : Place} {xs ys : List Bool} → Step p xs m → Step m ys q → Step p (xs ++ ys) q
joined {xs = xs} {ys = ys} s t =
    record {
      bits = s.bits ∙ ap (λ l. xs ++ l) t.bits ∙ sym (append_assoc xs ys _);
      moved = simp length-append (omega (arith, s.moved, t.moved));
    }

same_place : {p q : Place} → Step p [] q → p ≡ q
same_place {p} {q} s =
    let e : p.at ≡ q.at = omega (arith, s.moved) in
    λ i. record { left = s.bits i; at = e i }

module _ {A : Type 0} where
  -- over these bits the reader reads a
  pub record Takes (r : Reader A) (bs : List Bool) (a : A) : Type 0 where
    pub run : (p q : Place) → Step p bs q → r p ≡ got a q

  -- a value that was read is good, and the place behind it is the one behind its bits
  abbrev pub Told : Place → (A → List Bool) → (A → Type 0) → Read A → Type 0
  Told p w ok (got a q) = ok a × Step p (w a) q
  Told p w ok (stopped cause bit) = Unit

  -- begun behind the bits `pre`, the reader gives a good value and ends behind the value's bits
  pub record Gives (r : Reader A) (pre : List Bool) (w : A → List Bool) (ok : A → Type 0) : Type 0 where
    pub tells : (p q : Place) → Step p pre q → Told p w ok (r q)

  pub takes-return : (a : A) → Takes (return a) [] a
  unfolding return
  takes-return a = record { run = λ p q s. ap (got a) (same_place s) }

  pub gives-return : {pre : List Bool} {w : A → List Bool} {ok : A → Type 0} (a : A) → ok a → pre ≡ w a → Gives (return a) pre w ok
  unfolding return
  gives-return a h e = record { tells = λ p q s. (h, rw e at s) }

  pub takes-judged : {r : Reader A} {bs : List Bool} {a : A} (test : A → Bool) (cause : Cause) → Takes r bs a → test a ≡ true
      → Takes (judged r test cause) bs a
  unfolding judged
  takes-judged test cause t h = record { run = λ p q s. ap (judge_read test cause p.at) (t.run p q s) ∙ rw h }

  pub gives-judged : {r : Reader A} {pre : List Bool} {w : A → List Bool} {ok : A → Type 0} (test : A → Bool) (cause : Cause)
      → Gives r pre w ok → Gives (judged r test cause) pre w (λ a. ok a × (test a ≡ true))
  unfolding judged
  gives-judged {r} {pre} {w} {ok} test cause g = record { tells = λ p q s. go p q.at (r q) (g.tells p q s) }
    where
      passed : (p : Place) (bit : ℕ) (a : A) (q : Place) (b : Bool) → test a ≡ b → Told p w ok (got a q)
          → Told p w (λ a. ok a × (test a ≡ true)) (judge b cause bit (got a q))
      passed p bit a q true e t = ((t.0, e), t.1)
      passed p bit a q false e t = tt

      go : (p : Place) (bit : ℕ) (m : Read A) → Told p w ok m → Told p w (λ a. ok a × (test a ≡ true)) (judge_read test cause bit m)
      go p bit (got a q) t = passed p bit a q (test a) refl t
      go p bit (stopped c b) t = tt

-- where there are bits enough, a number is read
pub number-got : (w : ℕ) (p : Place) → w ≤ length p.left
    → number w p ≡ got (value_of (take w p.left)) (record { left = drop w p.left; at = p.at + w })
unfolding number
number-got w p h = rw (le-leb w (length p.left) h)

pub takes-number : (w v : ℕ) → v < 2 ^ w → Takes (number w) (bits_of w v) v
takes-number w v h = record { run = run }
  where
    run : (p q : Place) → Step p (bits_of w v) q → number w p ≡ got v q
    run p q s =
        let enough : w ≤ length p.left = rw s.bits (simp (length-append, length-bits_of) (omega arith)) in
        let value : value_of (take w p.left) ≡ v =
        rw (s.bits, take_at (bits_of w v) q.left w (length-bits_of w v)) (value-of-bits w v h) in
        let rest : drop w p.left ≡ q.left = rw (s.bits, drop_at (bits_of w v) q.left w (length-bits_of w v)) in
        let moved : p.at + w ≡ q.at = omega (arith, s.moved, length-bits_of w v) in
        number-got w p enough ∙ λ i. got (value i) (record { left = rest i; at = moved i })

pub gives-number : (w : ℕ) → Gives (number w) [] (bits_of w) (λ v. v < 2 ^ w)
unfolding number
gives-number w = record { tells = λ p q s. go p q s (leb w (length q.left)) refl }
  where
    go : (p q : Place) → Step p [] q → (b : Bool) → leb w (length q.left) ≡ b
        → Told p (bits_of w) (λ v. v < 2 ^ w)
        (cond b (got (value_of (take w q.left)) (record { left = drop w q.left; at = q.at + w })) (stopped PlateEnds q.at))
    go p q s true e =
        let enough : w ≤ length q.left = leb-true _ _ e in (
          first_below w q.left enough,
          record {
            bits = s.bits ∙ rw bits-of-first (sym (take-append-drop w q.left));
            moved = rw length-bits_of (omega (arith, s.moved));
          },
        )
    go p q s false e = tt

module _ {A B : Type 0} where
  pub takes-then : {r : Reader A} {xs ys : List Bool} {a : A} {b : B} (f : A → Reader B) → Takes r xs a → Takes (f a) ys b
      → Takes (r >>= f) (xs ++ ys) b
  unfolding ◌>>=◌
  takes-then {r} {xs} {ys} {a} {b} f t u = record { run = run }
    where
      run : (p q : Place) → Step p (xs ++ ys) q → onward (r p) f ≡ got b q
      run p q s =
          let m : Place = record { left = ys ++ q.left; at = p.at + length xs } in
          let first : Step p xs m = record { bits = s.bits ∙ append_assoc xs ys q.left; moved = refl } in
          let second : Step m ys q =
          record { bits = refl; moved = omega (arith, simp length-append at s.moved) } in
          ap (λ x. onward x f) (t.run p m first) ∙ u.run m q second

  pub gives_then : {r : Reader A} {f : A → Reader B} {pre : List Bool} {w : A → List Bool} {ok : A → Type 0} {v : B → List Bool}
      {so : B → Type 0} → Gives r [] w ok → ((a : A) → ok a → Gives (f a) (pre ++ w a) v so) → Gives (r >>= f) pre v so
  unfolding ◌>>=◌
  gives_then {r} {f} {pre} {w} {ok} {v} {so} g k = record { tells = λ p q s. go p q s (r q) (g.tells q q (here q)) }
    where
      go : (p q : Place) → Step p pre q → (m : Read A) → Told q w ok m → Told p v so (onward m f)
      go p q s (got a m) t = (k a t.0).tells p m (joined s t.1)
      go p q s (stopped cause bit) t = tt

  -- the last field, behind which nothing is read
  pub takes-only : {r : Reader A} {xs : List Bool} {a : A} {b : B} (f : A → Reader B) → Takes r xs a → Takes (f a) [] b
      → Takes (r >>= f) xs b
  takes-only f t u = rw append-nil at (takes-then f t u)

  -- the last field, and what is made of it
  pub takes-last : {r : Reader A} {xs : List Bool} {a : A} (g : A → B) → Takes r xs a → Takes (r >>= λ x. return (g x)) xs (g a)
  takes-last g t = takes-only _ t (takes-return _)

module _ {A : Type 0} where
  -- the same reader, with another way to write what it read and another rule
  pub gives_so : {r : Reader A} {pre : List Bool} {w v : A → List Bool} {ok so : A → Type 0} → Gives r [] w ok
      → ((a : A) → ok a → so a × (pre ++ w a ≡ v a)) → Gives r pre v so
  gives_so {r} {pre} {w} {v} {ok} {so} g k = record { tells = λ p q s. go p q s (r q) (g.tells q q (here q)) }
    where
      go : (p q : Place) → Step p pre q → (m : Read A) → Told q w ok m → Told p v so m
      go p q s (got a m) t = ((k a t.0).0, rw (k a t.0).1 at (joined s t.1))
      go p q s (stopped cause bit) t = tt

  -- how a list is written, and which lists are good: one by one, each with the number of those behind it
  pub record OneByOne (w : A → List Bool) (ws : List A → List Bool) (ok : ℕ → A → Type 0) (oks : List A → Type 0) : Type 0 where
    pub no_bits : ws [] ≡ []
    pub bits : (a : A) (rest : List A) → ws (a ∷ rest) ≡ w a ++ ws rest
    pub none-good : oks []
    pub good : (a : A) (rest : List A) → ok (length rest) a → oks rest → oks (a ∷ rest)
    pub first_good : (a : A) (rest : List A) → oks (a ∷ rest) → ok (length rest) a
    pub rest-good : (a : A) (rest : List A) → oks (a ∷ rest) → oks rest

  module _ {w : A → List Bool} {ws : List A → List Bool} {ok : ℕ → A → Type 0} {oks : List A → Type 0} (l : OneByOne w ws ok oks)
      {r : ℕ → Reader A} where
    -- at most N of them, so that fewer than N stand behind each
    pub takes-many : (N : ℕ) → ((n : ℕ) (a : A) → n < N → ok n a → Takes (r n) (w a) a) → (xs : List A) → length xs ≤ N → oks xs
        → Takes (many r (length xs)) (ws xs) xs
    unfolding many
    takes-many N t [] few h = rw l.no_bits (takes-return [])
    takes-many N t (a ∷ rest) few h =
        rw l.bits
        (takes-then _ (t (length rest) a few (l.first_good a rest h))
        (takes-last _ (takes-many N t rest (omega arith) (l.rest-good a rest h))))

    pub gives-many : ((n : ℕ) → Gives (r n) [] w (ok n)) → (n : ℕ) → Gives (many r n) [] ws (λ xs. (length xs ≡ n) × oks xs)
    unfolding many
    gives-many g zero = gives-return [] (refl, l.none-good) (sym l.no_bits)
    gives-many g (suc n) =
        gives_then (g n) (λ a ha.
        gives_then (gives-many g n) (λ rest h.
        gives-return (a ∷ rest) (ap suc h.0, l.good a rest (rw h.0 ha) h.1) (sym (l.bits a rest))))
