-- A plate that is refused holds nothing; of one that is read, what stands is said of its contents.
use Rattle.std.specs.Prelude.{ℕ, ◌≡◌, List, Result, Ok, Err, length}
use Rattle.std.proofs.Common.{refl, sym, ap, subst, ◌∙◌, arith}
use Rattle.causes.specs.declared.Refusal.{Refusal}
use Rattle.phrases.specs.Phrases.{Phrases}
use Rattle.phrases.specs.Lookup.{phrases_in}
use Rattle.phrases.specs.Own.{Listed}
use Rattle.causes.specs.Answers.{made}
use Rattle.reader.specs.declared.Contents.{Contents}
use Rattle.reader.specs.Holding.{Stands, program_at, program_read, rest_read}

-- a fact of what is read
abbrev pub OfRead : (Contents → Type 0) → Result Contents Refusal → Type 0
OfRead fact r = (c : Contents) → r ≡ Ok c → fact c

pub none-read : (fact : Contents → Type 0) {s : Refusal} → OfRead fact (Err s)
none-read fact c e = let z : ◌≡◌ {A = ℕ} 0 1 = cc in absurd (omega arith)

pub of-read : (fact : Contents → Type 0) {a : Contents} → fact a → OfRead fact (Ok a)
of-read fact {a} s c e = let same : a ≡ c = cc in subst fact same s

-- ---- contents that were read with a lookup of so many own phrases

module _ {index book own : List ℕ} {count : ℕ} {p : Phrases} (is : p ≡ phrases_in book own count) (l : Listed index book own count)
    {r : Result Contents Refusal} (counted : OfRead (λ c. c.own ≡ length p.own) r) where
  -- they have as many
  own-read : OfRead (λ c. c.own ≡ count) r
  own-read c e = counted c e ∙ ap (λ (q : Phrases). length q.own) is ∙ l.numbers.whole

  phrases-read : OfRead (λ c. p ≡ phrases_in book own c.own) r
  phrases-read c e = is ∙ ap (phrases_in book own) (sym (own-read c e))

  pub listed-read : OfRead (λ c. Listed index book own c.own) r
  listed-read c e = subst (Listed index book own) (sym (own-read c e)) l

  pub stands-read : {plate : List ℕ} → OfRead (Stands plate p) r → OfRead (λ c. Stands plate (phrases_in book own c.own) c) r
  stands-read {plate} s c e = subst (λ q. Stands plate q c) (phrases-read c e) (s c e)

  pub program-is : (plate : List ℕ) → program_read plate book own r ≡ rest_read plate p r
  program-is plate = go r refl
    where
      go : (q : Result Contents Refusal) → r ≡ q → program_read plate book own q ≡ rest_read plate p q
      go (Ok c) e = ap (λ q. made (program_at plate q c)) (sym (phrases-read c e))
      go (Err s) e = refl
