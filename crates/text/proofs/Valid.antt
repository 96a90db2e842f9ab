-- A text, and a list of texts, that meet the rule.
use mathlib.Core.Path.{◌≡◌}
use mathlib.Core.List.{List}
use mathlib.Core.Bool.{true}
use Rattle.text.specs.Parts.{all}
use Rattle.text.specs.Text.{Text, is_text}

abbrev pub TextOk : Text → Type 0
TextOk t = is_text t ≡ true

abbrev pub TextsOk : List Text → Type 0
TextsOk ts = all is_text ts ≡ true
