-- The cause of a value that is missing, as `ok_or` makes it.
use mathlib.Core.Path.{◌≡◌}
use Rattle.std.specs.Prelude.{Option, None, Some, Err, ok_or}
use Rattle.causes.specs.declared.Cause.{Cause}

pub missing : {A : Type 0} (o : Option A) {c d : Cause} → o ≡ None → Err c ≡ ok_or o d → c ≡ d
missing None n e = cc
missing (Some x) n e = cc
