-- What the readers of one text, and of the R, OP and C of an if, answer.
use Rattle.std.specs.Prelude.{ℕ, ◌+◌, ◌≤◌, ◌≡◌, List, [], ◌∷◌, Bool, cond, length, get_or, Option, None, Some, Result, Ok, Err}
use Rattle.text.specs.Parts.{comma, parts_from}
use Rattle.text.specs.Text.{Text}
use Rattle.causes.specs.declared.Cause.{Cause}
use Rattle.causes.specs.declared.Cause.TheVariants.{Kind, Value}
use Rattle.lines.specs.Fields.{test_of}
use Rattle.line_reader.specs.declared.fields.TestAt.{TestAt}

-- whether the fields are one text by this rule, or the cause of those that are not
abbrev pub one_text : (Text → Bool) → List (List ℕ) → Result Unit Cause
one_text rule [] = Err Kind
one_text rule (t ∷ []) = cond (rule t) (Ok tt) (Err Value)
one_text rule (t ∷ u ∷ fs) = Err Kind

-- what the test's reader finds in the fields fs, of which those behind the third begin behind its end: a test, or that they make none
abbrev pub Tests : List ℕ → List (List ℕ) → Option TestAt → Type 0
Tests s fs None = test_of (get_or fs 0 []) (get_or fs 1 []) (get_or fs 2 []) ≡ None
Tests s fs (Some t) =
    (r : List ℕ) × (o : List ℕ) × (c : List ℕ) × (fs ≡ r ∷ o ∷ c ∷ parts_from comma (t.end + 1) s)
    × (test_of r o c ≡ Some t.test)
    × (t.end ≤ length s)
