-- Demand 3 on the calls: what translate has written, run, is the walk of the guide.
use Prim.Native.Nat.{ℕ, ◌≤◌, ◌<◌}
use native.Mathlib.Omega.{arith}
use mathlib.Core.Path.{◌≡◌, refl, sym, ap}
use mathlib.Core.List.{List}
use mathlib.Core.Bool.{Bool, true, false, cond}
use lib.ListN.{length, take}
use lib.Dec.{leb}
use lib.IntN.{ℤ}
use borrow.Author.Tests.{lt-leb, leb-true, leb-false}
use Rattle.causes.specs.Answers.{made, Answer, wrote, refusing, written_answer}
use Rattle.causes.specs.declared.Cause.TheVariants.{TooShort}
use Rattle.causes.specs.declared.Refusal.{Refusal}
use Rattle.std.specs.Prelude.{Result, Ok, Err}
use Rattle.causes.proofs.Lent.{written-front}
use Rattle.walking.specs.Call.{walk_call}
use Rattle.running.specs.Call.{scratch_numbers, ran, run_call}
use Rattle.translating.specs.Call.{translation, translate_call}
use Rattle.agreement.specs.Agreement.{Agreement}
use Rattle.agreement.specs.Composed.{translate_then_run}
use Rattle.agreement.proofs.Demand3.{demand-3}

-- ---- translate has written n bytes

module _ (guide book plate after : List ℕ) (n : ℕ) (wrote-n : translate_call guide book plate ≡ (wrote n, after)) where
  -- they are the guide's plate
  plate-made : translation book guide ≡ made (take n after)
  unfolding translate_call
  plate-made = (written-front (translation book guide) plate after n wrote-n).0

  plate-fits : n ≤ length after
  unfolding translate_call
  plate-fits = (written-front (translation book guide) plate after n wrote-n).1

  module _ (answers : List ℤ) (scratch : ℕ) (transcript : List ℕ) where
    agrees : scratch_numbers ≤ scratch → Agreement book guide (take n after) answers scratch transcript
    agrees = demand-3 book guide (take n after) plate-made answers scratch transcript

    -- the plate is accepted, and the scratch is too short
    short-scratch : scratch < scratch_numbers → run_call (take n after) book answers scratch transcript ≡ (refusing TooShort 0, transcript)
    unfolding run_call ran
    short-scratch h =
        let a = demand-3 book guide (take n after) plate-made answers scratch_numbers transcript (omega arith) in
        rw (a.book-holds, a.plate-holds, lt-leb scratch_numbers scratch h)

    run-walks : (enough : Bool) → leb scratch_numbers scratch ≡ enough
        → run_call (take n after) book answers scratch transcript
        ≡ cond enough (walk_call guide book answers transcript) (refusing TooShort 0, transcript)
    run-walks true e = (agrees (leb-true scratch_numbers scratch e)).same
    run-walks false e = short-scratch (leb-false scratch_numbers scratch e)

-- ---- translate has answered w and left these bytes

module _ (guide book plate after : List ℕ) (w : Result ℕ Refusal) (called : (written_answer w, after) ≡ translate_call guide book plate) where
  done : (n : ℕ) → w ≡ Ok n → translate_call guide book plate ≡ (wrote n, after)
  done n e = rw e at (sym called)

  pub plate-length : (n : ℕ) → w ≡ Ok n → n ≤ length after
  plate-length n e = plate-fits guide book plate after n (done n e)

  module _ (answers : List ℤ) (scratch : ℕ) (transcript : List ℕ) where
    pub run-after : (n : ℕ) → w ≡ Ok n
        → run_call (take n after) book answers scratch transcript ≡ translate_then_run guide book plate answers scratch transcript
    unfolding translate_then_run
    run-after n e = rw (done n e) (run-walks guide book plate after n (done n e) answers scratch transcript (leb scratch_numbers scratch) refl)

    pub not-translated : (r : Refusal) → w ≡ Err r
        → (refusing r.cause r.place, transcript) ≡ translate_then_run guide book plate answers scratch transcript
    unfolding translate_then_run
    not-translated r e = rw (sym called, e)

    pub agrees_after : (n : ℕ) → (translate_call guide book plate).0 ≡ wrote n → scratch_numbers ≤ scratch
        → Agreement book guide (take n after) answers scratch transcript
    agrees_after n e =
        let left = ap (λ (p : Answer × List ℕ). p.1) called in
        agrees guide book plate after n (λ i. (e i, sym left i)) answers scratch transcript
