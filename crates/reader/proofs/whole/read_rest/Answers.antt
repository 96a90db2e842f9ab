-- `read_rest` meets its contract: the count, the instructions and the filling, one after the other.
use Rattle.std.proofs.Common.{sym, ◌∙◌}
use Rattle.fields.proofs.Exits.{handed-on, handed-over}
use Rattle.reader.specs.Holding.{program_at, rest_read}
use Rattle.reader.proofs.Standing.{OfRead, none-read, of-read}
use Rattle.reader.proofs.WholePlate.{count-stopped, few-instructions, instructions-stopped, instructions-counted, instructions-there, rest-filled, rest-not-filled}
use Rattle.reader.proofs.whole.read_rest.Goals as goal

pub returns-in_err-instructions : goal.returns-in_err-instructions
returns-in_err-instructions c =
    let exit = c.from_residual.ensures.1 in
    record {
      result_value = handed-on (rest_read _ _) c.from_residual.result exit ∙ count-stopped _ _ _ c.in_err-instructions.ensures;
      own_value = handed-over (OfRead _) c.from_residual.result exit (none-read _);
      stands = handed-over (OfRead _) c.from_residual.result exit (none-read _);
    }

pub returns-in_err-room : goal.returns-in_err-room
returns-in_err-room c =
    let exit = c.from_residual-in_err-room.ensures.1 in
    record {
      result_value =
          handed-on (rest_read _ _) c.from_residual-in_err-room.result exit
          ∙ instructions-stopped _ _ _ _ _ c.in_ok-instructions.ensures c.in_err-room.ensures;
      own_value = handed-over (OfRead _) c.from_residual-in_err-room.result exit (none-read _);
      stands = handed-over (OfRead _) c.from_residual-in_err-room.result exit (none-read _);
    }

pub returns-then-is_filled : goal.returns-then-is_filled
unfolding program_at
returns-then-is_filled c =
    let n = c.in_ok-instructions.ensures in
    let is = c.in_ok-room.ensures in
    record {
      result_value = rest-filled _ _ _ _ _ n _ _ is (sym c.is_filled.ensures ∙ c.if-is_filled.true);
      own_value = of-read _ c.own_count.ensures.value;
      stands = of-read _
          (record {
            short = c.requires;
            few = few-instructions _ _ _ n;
            counted = instructions-counted _ _ _ _ _ n _ _ is;
            whole = instructions-there _ _ _ _ _ n _ _ is;
          });
    }

pub returns-else-is_filled : goal.returns-else-is_filled
returns-else-is_filled c =
    let n = c.in_ok-instructions.ensures in
    let is = c.in_ok-room.ensures in
    record {
      result_value = rest-not-filled _ _ _ _ _ n _ _ is (sym c.is_filled.ensures ∙ c.if-is_filled.false);
      own_value = none-read _;
      stands = none-read _;
    }
