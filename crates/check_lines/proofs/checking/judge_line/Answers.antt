-- `judge_line` meets its contract: a line is judged by itself, and then behind the lines seen.
use mathlib.Core.Path.{◌∙◌}
use Rattle.std.proofs.lemmas.Result.{err_from_is_err_and}
use Rattle.lines.specs.Line.{line_of}
use Rattle.check_lines.specs.Held.{seen_of}
use Rattle.check_lines.proofs.Heads.{line-alike}
use Rattle.check_lines.proofs.Judged.{judged-head, fault-err, fault-ok}
use Rattle.check_lines.proofs.checking.judge_line.Goals as goal

pub returns-in_err-cause_of : goal.returns-in_err-cause_of
returns-in_err-cause_of c =
    let book = c.args.known.now.book in
    let seen = seen_of c.args.known.now.own c.args.s c.args.opens.now in
    let alike = (line-alike c.args.form c.args.line.now c.in_ok-head.ensures).cause book seen in
    let p = err_from_is_err_and c.from_residual-in_err-cause_of.result c.from_residual-in_err-cause_of.ensures.1 in
    rw (p.1, p.2)
    (judged-head book seen (line_of c.args.form c.args.line.now) c.in_ok-head.ensures (alike ∙ fault-err _ c.in_err-cause_of.ensures))

pub returns : goal.returns
returns c =
    let book = c.args.known.now.book in
    let seen = seen_of c.args.known.now.own c.args.s c.args.opens.now in
    let alike = (line-alike c.args.form c.args.line.now c.in_ok-head.ensures).cause book seen in
    judged-head book seen (line_of c.args.form c.args.line.now) c.in_ok-head.ensures (alike ∙ fault-ok _ c.in_ok-cause_of.ensures)
