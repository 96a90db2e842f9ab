-- What a call that answers a length has made, and what a call that has made bytes answers.
use Prim.Native.Nat.{ℕ, ◌≤◌}
use native.Mathlib.Omega.{arith}
use mathlib.Core.Path.{◌≡◌, refl, sym, ap, ◌∙◌}
use mathlib.Core.List.{List, ◌++◌}
use mathlib.Core.Bool.{Bool, true, false, cond}
use lib.ListN.{length, take, drop, length-append}
use lib.Seq.{take_at}
use lib.Dec.{leb}
use borrow.Author.Tests.{le-leb}
use Rattle.causes.specs.declared.Cause.TheVariants.{TooShort}
use Rattle.causes.specs.Answers.{Result, made, refused, ◌>>=◌, Answer, wrote, refusal, output, refusing, lent}

-- bytes made, and their answer, in a lent buffer
abbrev pub written : Result (List ℕ) → List ℕ → Answer × List ℕ
written r buffer = lent (r >>= λ bs. made (output bs)) buffer

-- n bytes were made, and stand at the buffer's front
pub record Wrote (r : Result (List ℕ)) (buffer : List ℕ) (n : ℕ) (after : List ℕ) : Type 0 where
  pub result : List ℕ
  pub makes : r ≡ made result
  pub size : n ≡ length result
  pub laid : after ≡ result ++ drop (length result) buffer

pub refusal-no-length : {number place n : ℕ} → refusal number place ≡ wrote n → ⊥
refusal-no-length e = let z : ◌≡◌ {A = ℕ} 0 1 = cc in omega arith

pub written-wrote : (r : Result (List ℕ)) (buffer after : List ℕ) (n : ℕ) → written r buffer ≡ (wrote n, after) → Wrote r buffer n after
written-wrote (refused cause place) buffer after n e =
    absurd (refusal-no-length (ap (λ (p : Answer × List ℕ). p.0) e))
written-wrote (made bs) buffer after n e = go (leb (length bs) (length buffer)) e
  where
    go : (v : Bool)
        → ◌≡◌ {A = Answer × List ℕ} (cond v (wrote (length bs), bs ++ drop (length bs) buffer) (refusing TooShort 0, buffer)) (wrote n, after)
        → Wrote (made bs) buffer n after
    go true e =
        let k : wrote (length bs) ≡ wrote n = ap (λ (p : Answer × List ℕ). p.0) e in
        let l : bs ++ drop (length bs) buffer ≡ after = ap (λ (p : Answer × List ℕ). p.1) e in
        record { result = bs; makes = refl; size = cc; laid = cc }
    go false e = absurd (refusal-no-length (ap (λ (p : Answer × List ℕ). p.0) e))

pub front : (result rest after : List ℕ) (n : ℕ) → n ≡ length result → after ≡ result ++ rest
    → (take n after ≡ result) × (n ≤ length after)
front result rest after n e f = (rw f (take_at result rest n (sym e)), rw f (omega (arith, length-append result rest)))

-- the bytes that were made are the n bytes at the front of what the buffer holds afterwards
pub written-front : (r : Result (List ℕ)) (buffer after : List ℕ) (n : ℕ) → written r buffer ≡ (wrote n, after)
    → (r ≡ made (take n after)) × (n ≤ length after)
written-front r buffer after n e =
    let w = written-wrote r buffer after n e in
    let f = front w.result _ after n w.size w.laid in
    (w.makes ∙ ap made (sym f.0), f.1)

-- where there is room, the bytes and their length
pub written-fits : (r : Result (List ℕ)) (bs buffer : List ℕ) → r ≡ made bs → length bs ≤ length buffer
    → written r buffer ≡ (wrote (length bs), bs ++ drop (length bs) buffer)
written-fits r bs buffer e h = rw (e, le-leb (length bs) (length buffer) h)
