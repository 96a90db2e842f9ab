-- `read_line` meets its contract: where the fields make no line the bytes are judged first.
use borrow.Author.Rules.{rules}
use Rattle.line_reader.proofs.FieldBytes.{by-fields}
use Rattle.line_reader.proofs.line.read_line.Goals as goal

pub returns : goal.returns
returns c = by-fields c.args.form c.args.s.now _ c.read_fields.ensures c.map_err.ensures.cases (λ e d k. search rules)
