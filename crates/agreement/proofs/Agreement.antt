-- Demand 3 on the definitions: running a block's translation gives what walking the block gives.
use Prim.Native.Nat.{suc}
use mathlib.Core.Path.{◌≡◌, refl, ◌∙◌, ap}
use mathlib.Core.List.{List, [], ◌∷◌, ◌++◌, append_assoc, append-nil}
use mathlib.Core.Bool.{Bool, true, false, cond}
use lib.ListN.{length}
use lib.IntN.{ℤ}
use Rattle.transcript.specs.State.{State, step, start}
use Rattle.transcript.specs.Perform.{goes_on, and_then, perform, holds, report}
use Rattle.transcript.proofs.Endings.{join, then-nothing}
use Rattle.guide.specs.Block.{Block, empty, does, if_then, if_else}
use Rattle.walking.specs.Walk.{walk, leave}
use Rattle.plate.specs.Program.{Instruction, goto}
use Rattle.running.specs.Run.{run}
use Rattle.running.proofs.Passing.{pass_all, pass-suc}
use Rattle.translating.specs.Translation.{translate_block}

-- a block's instructions, with any others behind them
abbrev Runs : Block → Type 0
Runs b = (behind : List Instruction) (s : State) → run (translate_block b ++ behind) 0 s ≡ and_then (walk b s) (run behind 0)

-- from behind the if on, where v says whether its test holds
at-then : (v : Bool) (t b : Block) (behind : List Instruction) (s : State) → Runs t → Runs b
    → run (translate_block t ++ (translate_block b ++ behind)) (cond v 0 (length (translate_block t))) s
    ≡ and_then (and_then (elim v [ true ↦ walk t s | false ↦ goes_on s ]) (walk b)) (run behind 0)
at-then true t b behind s ht hb =
    ht (translate_block b ++ behind) s
    ∙ join (walk t s) (run (translate_block b ++ behind) 0) (walk b) (run behind 0) (hb behind)
at-then false t b behind s ht hb = pass_all (translate_block t) (translate_block b ++ behind) s ∙ hb behind s

at-else : (v : Bool) (t e b : Block) (behind : List Instruction) (s : State) → Runs t → Runs e → Runs b
    → run
    (translate_block t ++ (goto (length (translate_block e)) ∷ (translate_block e ++ (translate_block b ++ behind))))
    (cond v 0 (suc (length (translate_block t))))
    s
    ≡ and_then (and_then (elim v [ true ↦ and_then (walk t s) leave | false ↦ walk e s ]) (walk b)) (run behind 0)
unfolding run
at-else true t e b behind s ht he hb =
    ht over s
    ∙ join (walk t s) (run over 0) leave (λ u. and_then (walk b u) (run behind 0))
    (λ u. pass_all (translate_block e) (translate_block b ++ behind) (step u) ∙ hb behind (step u))
    ∙ join (and_then (walk t s) leave) (λ u. and_then (walk b u) (run behind 0)) (walk b) (run behind 0) (λ u. refl)
  where
    over : List Instruction
    over = goto (length (translate_block e)) ∷ (translate_block e ++ (translate_block b ++ behind))
at-else false t e b behind s ht he hb =
    pass-suc (translate_block t) (translate_block e ++ (translate_block b ++ behind)) (goto (length (translate_block e))) s
    ∙ he (translate_block b ++ behind) s
    ∙ join (walk e s) (run (translate_block b ++ behind) 0) (walk b) (run behind 0) (hb behind)

-- with any instructions behind: the run goes on in them where the walk of the block comes to its end
pub agree_at : (b : Block) (behind : List Instruction) (s : State)
    → run (translate_block b ++ behind) 0 s ≡ and_then (walk b s) (run behind 0)
unfolding run translate_block walk
agree_at empty behind s = refl
agree_at (does x b) behind s = join (perform x s) (run (translate_block b ++ behind) 0) (walk b) (run behind 0) (agree_at b behind)
agree_at (if_then test t b) behind s = rw append_assoc (at-then (holds test s) t b behind (step s) (agree_at t) (agree_at b))
agree_at (if_else test t e b) behind s =
    simp append_assoc (at-else (holds test s) t e b behind (step s) (agree_at t) (agree_at e) (agree_at b))

-- the whole state, so registers and answers left too
pub agree : (b : Block) (s : State) → run (translate_block b) 0 s ≡ walk b s
unfolding run
agree b s = rw append-nil at (agree_at b [] s) ∙ then-nothing (walk b s)

-- transcript, outcome, answers taken, steps and wrong answers
pub agree-report : (b : Block) (answers : List ℤ) → report (run (translate_block b) 0 (start answers)) ≡ report (walk b (start answers))
agree-report b answers = ap report (agree b (start answers))
