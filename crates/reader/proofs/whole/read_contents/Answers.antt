-- `read_contents` meets its contract: the size, the own phrases, and what follows them.
use Rattle.std.proofs.Common.{ap, ◌∙◌, rules}
use Rattle.phrases.specs.Phrases.{Phrases}
use Rattle.phrases.proofs.OwnEntries.{kept-none}
use Rattle.fields.proofs.Exits.{handed-on, handed-over}
use Rattle.plate.specs.Plate.{result_of}
use Rattle.fields.specs.Places.{place_at}
use Rattle.reader.specs.Holding.{program_read}
use Rattle.reader.specs.Whole.{rest_of}
use Rattle.reader.proofs.Standing.{OfRead, none-read, listed-read, stands-read, program-is}
use Rattle.reader.proofs.OwnSoFar.{own-unread, own-of-plate}
use Rattle.reader.proofs.WholePlate.{plate-long, own-refused, own-got}
use Rattle.reader.proofs.whole.read_contents.Goals as goal

pub returns-then-plate-gt-PLATE_BYTES : goal.returns-then-plate-gt-PLATE_BYTES
returns-then-plate-gt-PLATE_BYTES c =
    record {
      result_after = plate-long _ _ c.if-plate-gt-PLATE_BYTES.true;
      listed = none-read _;
      stands = none-read _;
      own_after = own-unread _ _ _ c.if-plate-gt-PLATE_BYTES.true;
      own_kept = kept-none _ _;
    }

pub returns-in_err-count : goal.returns-in_err-count
returns-in_err-count c =
    let exit = c.from_residual.ensures.1 in
    record {
      result_after =
          handed-on (program_read _ _ _) c.from_residual.result exit ∙ own-refused _ _ (search rules) c.in_err-count.ensures.result_after;
      listed = handed-over (OfRead _) c.from_residual.result exit (none-read _);
      stands = handed-over (OfRead _) c.from_residual.result exit (none-read _);
      own_after = own-of-plate _ _ _ _ c.in_err-count.ensures.own_after (search rules);
      own_kept = c.in_err-count.ensures.own_kept;
    }

pub new-requires : goal.new-requires
new-requires c = c.in_ok-count.ensures.own_there

pub read_rest-requires : goal.read_rest-requires
read_rest-requires c = search rules

pub returns : goal.returns
returns c =
    let read = c.in_ok-count.ensures in
    let rest = c.read_rest.ensures in
    record {
      result_after =
          program-is c.new.ensures read.own_there rest.own_value _ ∙ rest.result_value
          ∙ ap (λ (p : Phrases). result_of (rest_of p (place_at c.args.plate.now c.in_ok-count.field-0.next))) c.new.ensures
          ∙ own-got _ _ (search rules) _ _ read.result_after;
      listed = listed-read c.new.ensures read.own_there rest.own_value;
      stands = stands-read c.new.ensures read.own_there rest.own_value rest.stands;
      own_after = own-of-plate _ _ _ _ read.own_after (search rules);
      own_kept = read.own_kept;
    }
