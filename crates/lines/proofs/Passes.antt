-- A check passes exactly where no line has a cause behind those before it, and no if is open at the end.
use Prim.Native.Nat.{ℕ, suc}
use mathlib.Core.Path.{◌≡◌, refl, sym, ap, ◌∙◌}
use mathlib.Core.List.{List, [], ◌∷◌}
use Rattle.std.specs.Prelude.{Option, None, Some}
use Rattle.std.proofs.lemmas.Option.{none-some}
use Rattle.causes.specs.Answers.{made, refused}
use Rattle.causes.specs.declared.Cause.{Cause}
use Rattle.causes.proofs.Results.{never}
use Rattle.text.specs.Text.{Text}
use Rattle.lines.specs.Line.{Line, faulty}
use Rattle.lines.specs.Check.{Open, Seen, cause_of, next, at_end, check_from}

-- a line that has no cause by itself
abbrev pub NoFault : Line → Type 0
NoFault l = (c : Cause) → l ≡ faulty c → ⊥

pub no-fault : (book : List Text) (s : Seen) (l : Line) → cause_of book s l ≡ None → NoFault l
no-fault book s l h c e = none-some c (sym h ∙ ap (cause_of book s) e)

-- the lines from line n on, behind what is seen, lead to `last`
abbrev pub Passes : List Text → ℕ → Seen → Seen → List Line → Type 0
Passes book n s last [] = (s.ifs ≡ []) × (s ≡ last)
Passes book n s last (l ∷ ls) = (cause_of book s l ≡ None) × Passes book (suc n) (next n l s) last ls

module _ (book : List Text) where
  pub check-passes : (n : ℕ) (s last : Seen) (ls : List Line) → check_from book n s ls ≡ made last → Passes book n s last ls
  unfolding check_from
  check-passes n s last [] e = go s.ifs refl e
    where
      go : (os : List Open) → s.ifs ≡ os → at_end os s ≡ made last → (s.ifs ≡ []) × (s ≡ last)
      go [] h e = (h, cc)
      go (o ∷ os) h e = absurd (never e)
  check-passes n s last (l ∷ ls) e =
      let c = go (cause_of book s l) refl e in
      (c.0, check-passes (suc n) (next n l s) last ls c.1)
    where
      go : (o : Option Cause) → cause_of book s l ≡ o
          → elim o [ None ↦ check_from book (suc n) (next n l s) ls | Some cause ↦ refused cause n ] ≡ made last
          → (cause_of book s l ≡ None) × (check_from book (suc n) (next n l s) ls ≡ made last)
      go None c e = (c, e)
      go (Some cause) c e = absurd (never e)

  pub passes-check : (n : ℕ) (s last : Seen) (ls : List Line) → Passes book n s last ls → check_from book n s ls ≡ made last
  unfolding check_from
  passes-check n s last [] p = ap (λ os. at_end os s) p.0 ∙ ap made p.1
  passes-check n s last (l ∷ ls) p = rw (p.0, check_from) (passes-check (suc n) (next n l s) last ls p.1)
