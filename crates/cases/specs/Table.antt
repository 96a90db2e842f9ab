-- The table of cases, whole.
use Rattle.std.specs.Prelude.{List, ◌++◌}
use Rattle.cases.specs.Row.{Row}
use Rattle.cases.specs.Paper.{paper}
use Rattle.cases.specs.Machine.{machine}
use Rattle.cases.specs.Guides.{guides}
use Rattle.cases.specs.Listings.{listings}
use Rattle.cases.specs.Plates.{plates}
use Rattle.cases.specs.Runs.{runs}
use Rattle.cases.specs.Letters.{letters}

unfoldable pub table : List Row
table = paper ++ machine ++ guides ++ listings ++ plates ++ runs ++ letters
