-- `accepted_line` meets its contract: the fields begin behind the kind's word.
use mathlib.Core.Path.{sym, ap, ◌∙◌}
use Rattle.lines.specs.Answers.{head_of}
use Rattle.lines.specs.Clean.{is_clean}
use Rattle.accepted_lines.proofs.Begins.{line-by-word}
use Rattle.accepted_lines.proofs.accepted.accepted_line.Goals as goal

pub accepted_kind-kind-requires : goal.accepted_kind-kind-requires
accepted_kind-kind-requires c = (c.args.form, c.requires)

pub accepted_fields-requires : goal.accepted_fields-requires
accepted_fields-requires c =
    ap is_clean (sym (line-by-word _ _ _ _ c.requires c.accepted_kind-kind.ensures c.fields_at.ensures)) ∙ c.requires

pub returns : goal.returns
returns c =
    c.accepted_fields.ensures ∙ ap head_of (sym (line-by-word _ _ _ _ c.requires c.accepted_kind-kind.ensures c.fields_at.ensures))
