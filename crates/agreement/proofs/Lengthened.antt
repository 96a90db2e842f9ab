-- More answers only lengthen the record of a walk, since it is that of a run.
use Prim.Native.Nat.{ℕ}
use mathlib.Core.Path.{◌≡◌, sym, ap, ◌∙◌}
use mathlib.Core.List.{List, ◌++◌}
use lib.ListN.{take, drop, take-append-drop}
use lib.IntN.{ℤ}
use Rattle.causes.specs.Answers.{made, Answer, ended, Output}
use Rattle.causes.proofs.Results.{made-from}
use Rattle.phrases.specs.Book.{book_phrases}
use Rattle.transcript.specs.State.{start}
use Rattle.transcript.specs.Perform.{report}
use Rattle.guide.specs.Block.{Block}
use Rattle.guide.specs.Guide.{guide_of}
use Rattle.walking.specs.Walk.{walk}
use Rattle.walking.specs.Call.{walked, walk_call}
use Rattle.running.specs.Call.{run_call}
use Rattle.running.specs.More.{Lengthens, CallsLengthen}
use Rattle.running.proofs.Ended.{lent-ended}
use Rattle.running.proofs.More.{run_more}
use Rattle.running.proofs.MoreCalled.{both, call-more}
use Rattle.translating.specs.Translation.{translate_block}
use Rattle.agreement.proofs.Agreement.{agree}

pub walk_more : (b : Block) (answers more : List ℤ) → Lengthens (walk b (start answers)) (walk b (start (answers ++ more)))
walk_more b answers more =
    rw (agree b (start answers), agree b (start (answers ++ more))) at (run_more (translate_block b) answers more)

module _ (guide book : List ℕ) (answers : List ℤ) (buffer after : List ℕ) (n o k s w : ℕ)
    (e : walk_call guide book answers buffer ≡ (ended n o k s w, after)) where
  -- the guide was accepted, and its walk is reported
  pub record Walks : Type 0 where
    pub phrases : List (List ℕ)
    pub block : Block
    pub book-holds : book_phrases book ≡ made phrases
    pub guide-holds : guide_of phrases guide ≡ made block
    pub reports : (report (walk block (start answers))).answer ≡ ended n o k s w
    pub rest : List ℕ
    pub laid : after ≡ (report (walk block (start answers))).bytes ++ rest

  walk-ended : Walks
  unfolding walk_call walked
  walk-ended =
      let l = lent-ended (walked book guide answers) buffer after n o k s w e in
      let b = made-from (book_phrases book) _ l.out l.makes in
      let g = made-from (guide_of b.0 guide) _ l.out b.2 in
      let same : report (walk g.0 (start answers)) ≡ l.out = cc g.2 in
      record {
        phrases = b.0;
        block = g.0;
        book-holds = b.1;
        guide-holds = g.1;
        reports = ap (λ (x : Output). x.answer) same ∙ l.answers;
        rest = l.rest;
        laid = l.laid ∙ ap (λ (x : Output). x.bytes ++ l.rest) (sym same);
      }

-- of the call `walk`, with room for both
pub walk-call-more : (guide book : List ℕ) (answers more : List ℤ) (buffer buffer' : List ℕ)
    → CallsLengthen (walk_call guide book answers buffer) (walk_call guide book (answers ++ more) buffer')
walk-call-more guide book answers more buffer buffer' n o k s w n' o' k' s' w' e f =
    let after = (walk_call guide book answers buffer).1 in
    let after' = (walk_call guide book (answers ++ more) buffer').1 in
    let a = walk-ended guide book answers buffer after n o k s w (λ i. (e i, after)) in
    let b = walk-ended guide book (answers ++ more) buffer' after' n' o' k' s' w' (λ i. (f i, after')) in
    let phrases : b.phrases ≡ a.phrases = cc in
    let block : b.block ≡ a.block = cc in
    let h = walk_more a.block answers more in
    let g = rw block at b.reports in
    let l = rw block at b.laid in
    let r = both _ _ h n o k s w n' o' k' s' w' after after' a.rest b.rest a.reports g a.laid l in
    (r.0, λ other. (f ∙ (r.1 other).0 ∙ sym e, (r.1 other).1))

-- ---- two runs, on the first n answers and on all

pub runs-lengthen : (plate book : List ℕ) (answers : List ℤ) (n scratch : ℕ) (buffer buffer' : List ℕ) (x y : Answer × List ℕ)
    → x ≡ run_call plate book (take n answers) scratch buffer → y ≡ run_call plate book answers scratch buffer' → CallsLengthen x y
runs-lengthen plate book answers n scratch buffer buffer' x y e f =
    rw (e, f) (rw (take-append-drop n answers) at (call-more plate book (take n answers) (drop n answers) scratch buffer buffer'))
