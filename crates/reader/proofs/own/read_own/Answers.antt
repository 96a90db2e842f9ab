-- `read_own` meets its contract: the number, then so many phrases.
use Rattle.std.proofs.Common.{◌∙◌}
use Rattle.phrases.proofs.OwnEntries.{kept-none}
use Rattle.plate.proofs.OwnPhrases.{gives-count}
use Rattle.fields.proofs.Exits.{handed-on, handed-over}
use Rattle.fields.proofs.Onward.{then-got, then-stopped, got-good}
use Rattle.reader.specs.Own.{own_phrases, own_read, OwnThere}
use Rattle.reader.proofs.OwnFirst.{counted-room}
use Rattle.reader.proofs.OwnSoFar.{own-uncounted, own-counted}
use Rattle.reader.proofs.own.read_own.Goals as goal

pub returns-in_err-count : goal.returns-in_err-count
unfolding own_phrases
returns-in_err-count c =
    let e = c.in_err-count.ensures in
    let exit = c.from_residual.ensures.1 in
    record {
      result_after = handed-on (own_read _ _) c.from_residual.result exit ∙ then-stopped _ _ _ e;
      own_there = handed-over (OwnThere _ _ _) c.from_residual.result exit tt;
      own_after = own-uncounted _ _ _ e;
      own_kept = kept-none _ _;
    }

pub read_phrases-requires : goal.read_phrases-requires
read_phrases-requires c =
    let counted = c.in_ok-count.ensures in
    let few = got-good _ gives-count counted in
    (c.requires.0, c.requires.1, c.requires.2, few, counted-room _ c.args.own.now c.requires.3 counted few)

pub returns : goal.returns
unfolding own_phrases
returns c =
    let e = c.in_ok-count.ensures in
    record {
      result_after = c.read_phrases.ensures.result_after ∙ then-got _ _ _ e;
      own_there = c.read_phrases.ensures.own_there;
      own_after = own-counted _ _ _ _ c.read_phrases.ensures.own_after e;
      own_kept = c.read_phrases.ensures.own_kept;
    }
