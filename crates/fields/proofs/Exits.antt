-- What a `?` hands on: the refusal that it met, by what a result stands for.
use mathlib.Core.Path.{◌≡◌, sym, ap, subst}
use Rattle.std.specs.Prelude.{Result, Ok, Err, IsErrAnd}
use Rattle.causes.specs.declared.Refusal.{Refusal}

pub handed-on : {T X : Type 0} (read : Result T Refusal → X) (r : Result T Refusal) {s : Refusal} → IsErrAnd r (λ e. e ≡ s)
    → read r ≡ read (Err s)
handed-on read (Ok f) h = absurd h
handed-on read (Err e) h = ap (λ s. read (Err s)) h

-- and what holds of that refusal
pub handed-over : {T : Type 0} (P : Result T Refusal → Type 0) (r : Result T Refusal) {s : Refusal} → IsErrAnd r (λ e. e ≡ s)
    → P (Err s) → P r
handed-over P (Ok f) h p = absurd h
handed-over P (Err e) h p = subst (λ s. P (Err s)) (sym h) p
