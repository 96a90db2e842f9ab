-- `read_phrases` meets its contract. The loop's invariant: the phrases passed are written and entered, and with those behind them they are
-- all.
use mathlib.Core.Path.{◌≡◌, sym, ap, ◌∙◌}
use Rattle.output.proofs.Pour.{kept}
use Rattle.output.specs.Pour.{poured}
use Rattle.fields.specs.Places.{values_of}
use Rattle.fields.proofs.Exits.{handed-on, handed-over}
use Rattle.plate_characters.proofs.TextCopy.{got-known}
use Rattle.phrases.proofs.Entries.{indexed-count}
use Rattle.reader.specs.Own.{own_read, OwnThere, phrase_line}
use Rattle.reader.proofs.OwnSoFar.{read-among, phrase-characters, own-ended, own-stopped, own-left-stopped, own-left-ended}
use Rattle.reader.proofs.OwnEntered.{entered-start, entered-end, entered-listed, Line, line-few, line-more, entered-more}
use borrow.Author.Rules.{rules}
use native.Mathlib.Omega.{arith}
use Rattle.reader.proofs.own.read_phrases.Goals as goal

pub loop-k-init : goal.loop-k-init
loop-k-init c = (entered-start _ _ _ _ _ _ c.requires.1, search rules)

pub new-requires : goal.new-requires
new-requires c = entered-listed c.loop-k.invariant.0 (omega arith) (omega arith) c.requires.2

pub shape_of-index-in_err-text : goal.shape_of-index-in_err-text
shape_of-index-in_err-text c = c.loop-k.invariant.0.size

pub shape_of-own-in_err-text : goal.shape_of-own-in_err-text
shape_of-own-in_err-text c = kept _ _ _ _ _ c.loop-k.invariant.0.read.written

pub returns-in_err-text : goal.returns-in_err-text
returns-in_err-text c =
    let e = read-among _ c.new.ensures c.in_err-text.ensures in
    let exit = c.from_residual.ensures.1 in
    record {
      result_after =
          handed-on (own_read _ _) c.from_residual.result exit ∙ own-stopped c.loop-k.invariant.0.read (omega arith) c.loop-k-test.true e;
      own_there = handed-over (OwnThere _ _ _) c.from_residual.result exit tt;
      own_after = own-left-stopped c.loop-k.invariant.0.read (omega arith) c.loop-k-test.true e;
      own_kept = c.loop-k.invariant.0.kept;
    }

pub overflow_add-start : goal.overflow_add-start
overflow_add-start c = omega (arith, entered-end c.loop-k.invariant.0 (omega arith) (omega arith) c.requires.2)

pub put_phrase-end-requires : goal.put_phrase-end-requires
put_phrase-end-requires c = let e = read-among _ c.new.ensures c.in_ok-text.ensures in
    (search rules, got-known (phrase-characters _ _ _ _ e))

pub overflow_sub-end : goal.overflow_sub-end
overflow_sub-end c =
    let e = read-among _ c.new.ensures c.in_ok-text.ensures in
    let w = c.put_phrase-end.ensures ∙ sym (ap (λ m. poured c.loop-k.end (phrase_line (values_of m)) c.loop-k.own) (phrase-characters _ _ _ _ e)) in
    let m : Line c.put_phrase-end.new.own c.loop-k.end c.put_phrase-end.result = line-more c.loop-k.invariant.0 c.loop-k-test.true c.requires.3 c.requires.4 _ _ _ _ (omega arith) e w in
    omega arith

pub slice_bounds-enter_own-count : goal.slice_bounds-enter_own-count
slice_bounds-enter_own-count c =
    let e = read-among _ c.new.ensures c.in_ok-text.ensures in
    let w = c.put_phrase-end.ensures ∙ sym (ap (λ m. poured c.loop-k.end (phrase_line (values_of m)) c.loop-k.own) (phrase-characters _ _ _ _ e)) in
    let m : Line c.put_phrase-end.new.own c.loop-k.end c.put_phrase-end.result = line-more c.loop-k.invariant.0 c.loop-k-test.true c.requires.3 c.requires.4 _ _ _ _ (omega arith) e w in
    omega arith

pub slice_bounds-enter_own-start : goal.slice_bounds-enter_own-start
slice_bounds-enter_own-start c =
    let e = read-among _ c.new.ensures c.in_ok-text.ensures in
    let w = c.put_phrase-end.ensures ∙ sym (ap (λ m. poured c.loop-k.end (phrase_line (values_of m)) c.loop-k.own) (phrase-characters _ _ _ _ e)) in
    let m : Line c.put_phrase-end.new.own c.loop-k.end c.put_phrase-end.result = line-more c.loop-k.invariant.0 c.loop-k-test.true c.requires.3 c.requires.4 _ _ _ _ (omega arith) e w in
    omega arith

pub slice_bounds-enter_own-end : goal.slice_bounds-enter_own-end
slice_bounds-enter_own-end c =
    let e = read-among _ c.new.ensures c.in_ok-text.ensures in
    let w = c.put_phrase-end.ensures ∙ sym (ap (λ m. poured c.loop-k.end (phrase_line (values_of m)) c.loop-k.own) (phrase-characters _ _ _ _ e)) in
    let m : Line c.put_phrase-end.new.own c.loop-k.end c.put_phrase-end.result = line-more c.loop-k.invariant.0 c.loop-k-test.true c.requires.3 c.requires.4 _ _ _ _ (omega arith) e w in
    omega arith

pub enter_own-requires : goal.enter_own-requires
enter_own-requires c =
    let e = read-among _ c.new.ensures c.in_ok-text.ensures in
    let w = c.put_phrase-end.ensures ∙ sym (ap (λ m. poured c.loop-k.end (phrase_line (values_of m)) c.loop-k.own) (phrase-characters _ _ _ _ e)) in
    let m : Line c.put_phrase-end.new.own c.loop-k.end c.put_phrase-end.result = line-more c.loop-k.invariant.0 c.loop-k-test.true c.requires.3 c.requires.4 _ _ _ _ (omega arith) e w in
    (omega (arith, indexed-count _ _ c.loop-k.invariant.0.indexed, c.requires.2, c.loop-k.invariant.0.size), omega arith, omega (arith, line-few m))

pub loop-k-preserved : goal.loop-k-preserved
loop-k-preserved c =
    let e = read-among _ c.new.ensures c.in_ok-text.ensures in
    let w = c.put_phrase-end.ensures ∙ sym (ap (λ m. poured c.loop-k.end (phrase_line (values_of m)) c.loop-k.own) (phrase-characters _ _ _ _ e)) in (
      entered-more c.loop-k.invariant.0 c.loop-k-test.true c.requires.3 c.requires.4 _ _ _ _ (omega (arith, c.ranges, c.well_formed)) e w c.requires.2 _ c.enter_own.ensures,
      search rules,
    )

pub shape_of-index : goal.shape_of-index
shape_of-index c = c.loop-k.invariant.0.size

pub shape_of-own : goal.shape_of-own
shape_of-own c = kept _ _ _ _ _ c.loop-k.invariant.0.read.written

pub returns : goal.returns
returns c = let e : c.loop-k.k ≡ c.args.count = omega arith in record { result_after = own-ended c.loop-k.invariant.0.read (omega arith) e; own_there = rw e at (entered-listed c.loop-k.invariant.0 (omega arith) (omega arith) c.requires.2); own_after = own-left-ended c.loop-k.invariant.0.read (omega arith) e; own_kept = c.loop-k.invariant.0.kept }
