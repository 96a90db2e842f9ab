-- `role_in` meets its contract: the first field is the kind.
use Rattle.lines.specs.declared.Form.TheVariants.{Guide as a_guide}
use Rattle.guide.proofs.Reading.{role-by-kind}
use Rattle.guide.proofs.places.role_in.Goals as goal

pub accepted_kind-requires : goal.accepted_kind-requires
accepted_kind-requires c = (a_guide, c.requires)

pub returns : goal.returns
returns c = role-by-kind _ _ _ c.requires c.accepted_kind.ensures c.role_of_kind.ensures
