-- Lines and endings in the transcript buffer, one behind the other, and what the code answers with them.
use Prim.Native.Nat.{ℕ, ◌≤◌, ◌<◌}
use mathlib.Core.Path.{◌≡◌, refl, sym, ap, ◌∙◌}
use mathlib.Core.List.{List, [], ◌∷◌, ◌++◌}
use lib.ListN.{length}
use lib.IntN.{ℤ}
use Rattle.causes.specs.declared.Outcome.{Outcome}
use Rattle.causes.specs.declared.Outcome.TheVariants.{Verdict, End, Waiting, Outside}
use Rattle.output.specs.Pour.{poured}
use Rattle.output.proofs.Pour.{none, then}
use Rattle.transcript.specs.declared.Machine.{Machine}
use Rattle.transcript.specs.State.{TranscriptLine, State, line_bytes, transcript_bytes}
use Rattle.transcript.specs.Perform.{Ending, goes_on, verdict, waits, outside, state_of}
use Rattle.transcript.specs.Machine.{machine_state, ending_by, cleared, cleared_ending, laid, performed}
use Rattle.transcript.proofs.Natural.{behind_ending, lines-behind}
use Rattle.transcript.proofs.Bytes.{bytes-append, bytes_one}

-- ---- an ending behind lines that have been written

cleared-behind : (t : List TranscriptLine) (e : Ending) → cleared_ending (behind_ending t e) ≡ cleared_ending e
cleared-behind t (goes_on s) = refl
cleared-behind t (verdict s) = refl
cleared-behind t (waits wrong s) = refl
cleared-behind t (outside s) = refl

-- an ending and what is written of it
same-laid : (e f : Ending) (at x : ℕ) (out mid : List ℕ) → cleared_ending e ≡ cleared_ending f
    → poured at (transcript_bytes (state_of e).transcript) out ≡ poured x (transcript_bytes (state_of f).transcript) mid
    → laid at e out ≡ laid x f mid
unfolding laid poured
same-laid e f at x out mid c p = λ i. record { ending = c i; end = (p i).0; buffer = (p i).1 }

-- lines, and then an ending, are the ending behind the lines
pub lay-behind : (t : List TranscriptLine) (e : Ending) (at x : ℕ) (out mid : List ℕ) → (x, mid) ≡ poured at (transcript_bytes t) out
    → length out < 9223372036854775808 → laid x e mid ≡ laid at (behind_ending t e) out
lay-behind t e at x out mid f h =
    let b = transcript_bytes (state_of e).transcript in
    let l : transcript_bytes t ++ b ≡ transcript_bytes (state_of (behind_ending t e)).transcript =
    sym (ap transcript_bytes (lines-behind t e) ∙ bytes-append t (state_of e).transcript)
    in
    same-laid e (behind_ending t e) x at mid out (sym (cleared-behind t e))
    (then at (transcript_bytes t) b out x mid (poured x b mid) f refl h ∙ ap (λ (n : List ℕ). poured at n out) l)

-- one line, and then an ending
pub lay-first : (l : TranscriptLine) (e : Ending) (at x : ℕ) (out mid : List ℕ) → (x, mid) ≡ poured at (line_bytes l) out
    → length out < 9223372036854775808 → laid x e mid ≡ laid at (behind_ending (l ∷ []) e) out
lay-first l e at x out mid f h = lay-behind (l ∷ []) e at x out mid (f ∙ ap (λ (b : List ℕ). poured at b out) (sym (bytes_one l))) h

-- ---- what the code answers

-- registers, a machine, an outcome and the place behind what has been written
pub lay-state : (rs answers : List ℤ) (n : Machine) (k : Outcome) (s : State) (at x : ℕ) (out o : List ℕ) → machine_state rs answers n ≡ cleared s
    → (x, o) ≡ poured at (transcript_bytes s.transcript) out
    → performed rs answers (record { machine = n; outcome = k; end = x }) o ≡ laid at (ending_by k s) out
unfolding performed laid poured
lay-state rs answers n Verdict s at x out o c p = λ i. record { ending = verdict (c i); end = (p i).0; buffer = (p i).1 }
lay-state rs answers n End s at x out o c p = λ i. record { ending = goes_on (c i); end = (p i).0; buffer = (p i).1 }
lay-state rs answers n (Waiting wrong) s at x out o c p = λ i. record { ending = waits wrong (c i); end = (p i).0; buffer = (p i).1 }
lay-state rs answers n Outside s at x out o c p = λ i. record { ending = outside (c i); end = (p i).0; buffer = (p i).1 }

-- registers and a machine, with nothing written
pub lay-here : (rs answers : List ℤ) (m : Machine) (k : Outcome) (at : ℕ) (out : List ℕ) → at ≤ 18446744073709551615
    → performed rs answers (record { machine = m; outcome = k; end = at }) out ≡ laid at (ending_by k (machine_state rs answers m)) out
unfolding machine_state transcript_bytes
lay-here rs answers m k at out h = lay-state rs answers m k (machine_state rs answers m) at at out out refl (none at out h)
