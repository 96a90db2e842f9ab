-- `put_input` meets its contract: the code and the register are one number.
use Rattle.writer.proofs.Codes.{register-alone}
use Rattle.writer.proofs.instructions.put_input.Goals as goal

pub returns : goal.returns
returns c =
    rw (← register-alone c.args.register) c.put_text.ensures
