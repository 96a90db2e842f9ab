-- The lines from a place on: none, or the line at the place and those behind it.
use Prim.Native.Nat.{ℕ, ◌+◌, ◌-◌, ◌≤◌, ◌<◌}
use native.Mathlib.Omega.{arith}
use mathlib.Core.Path.{◌≡◌, refl, sym, ap, ◌∙◌}
use mathlib.Core.List.{List, [], ◌∷◌}
use mathlib.Core.Bool.{Bool, true, false≢true}
use lib.ListN.{length, take, drop, get_or, length-drop, drop_of_length-le}
use Rattle.std.specs.Prelude.{Some, Result, Ok, option_map}
use Rattle.std.proofs.lemmas.Option.{same_Some}
use Rattle.causes.specs.declared.Cause.{Cause}
use Rattle.text.specs.Parts.{split, until_byte, same, all, comma, LF}
use Rattle.text.proofs.Places.{part-last}
use Rattle.transcript.specs.Statement.{input, inputs, print, printex}
use Rattle.lines.specs.declared.Form.TheVariants.{Guide as a_guide}
use Rattle.lines.specs.declared.Head.{Head}
use Rattle.lines.specs.Line.{Line, phrase, says, if_line, else_line, fi_line, goto_line, if_skip_line, faulty, line_of, unended, lines_in}
use Rattle.lines.specs.Answers.{head_of}
use Rattle.lines.specs.declared.Kind.{Kind}
use Rattle.lines.specs.Words.{kind_of}
use Rattle.lines.specs.Clean.{is_clean, Clean}
use Rattle.lines.proofs.FieldsRead.{ReadAs, as-fault, as-input, as-inputs, as-print, as-printex, as-if, as-else, as-fi, line-read-as}
use Rattle.lines.proofs.CleanTexts.{lines_next, clean-behind}
use Rattle.guide.specs.declared.Role.{Role}
use Rattle.guide.specs.declared.Role.TheVariants.{Nothing}
use Rattle.guide.specs.Lines.{role_of, role_by, role_by_kind, begins_by, else_by, lines_at, first_role, Reads, ReadsLine}

head-is : {h k : Head} → ◌≡◌ {A = Result Head Cause} (Ok h) (Ok k) → h ≡ k
head-is e = cc

-- a line's head has the line's role
role-head : (l : Line) {h : Head} → Ok h ≡ head_of l → role_by h ≡ role_of l
role-head (phrase t) e = ap role_by (head-is e)
role-head (says (input r t)) e = ap role_by (head-is e)
role-head (says (inputs r t options)) e = ap role_by (head-is e)
role-head (says (print t)) e = ap role_by (head-is e)
role-head (says (printex t)) e = ap role_by (head-is e)
role-head (if_line test) e = ap role_by (head-is e)
role-head else_line e = ap role_by (head-is e)
role-head fi_line e = ap role_by (head-is e)
role-head (goto_line k) e = ap role_by (head-is e)
role-head (if_skip_line test k) e = ap role_by (head-is e)
role-head (faulty c) e = cc

at-end : (g : List ℕ) (a : ℕ) → length g ≤ a → lines_at g a ≡ []
unfolding lines_at lines_in split
at-end g a h = rw (drop_of_length-le g h)

end_clean : (g : List ℕ) (e : ℕ) → length g ≤ e → Clean a_guide (drop e g)
unfolding all lines_in split
end_clean g e h = rw (drop_of_length-le g h) refl

-- nothing stands behind the last LF where no line is a fault
unended-none : (p : List ℕ) → all is_clean (unended p) ≡ true → unended p ≡ []
unfolding all
unended-none [] c = refl
unended-none (b ∷ p) c = absurd (false≢true c)

-- the line at a ends at e, and no line from a on is a fault
module _ (g : List ℕ) (a e : ℕ) (k : e ≡ a + until_byte LF (drop a g)) (c : Clean a_guide (drop a g)) where
  pub no_line : e ≡ length g → lines_at g a ≡ []
  unfolding lines_at lines_in
  no_line l =
      let p = part-last LF g a e k l in
      ap (lines_in a_guide) p ∙ unended-none (take (e - a) (drop a g)) (ap (λ (ps : List (List ℕ)). all is_clean (lines_in a_guide ps)) (sym p) ∙ c)

  pub reads_none : e ≡ length g → Reads g a Nothing e
  reads_none l =
      let none = no_line l in
      record {
        role = sym (ap first_role none);
        rest = at-end g e (omega arith) ∙ sym (ap (drop 1) none);
        onward = omega arith;
        within = omega arith;
        further = λ v. absurd (omega (arith, ap length none));
        clean = end_clean g e (omega arith);
      }

  module _ (l : e < length g) where
    line_first : lines_at g a ≡ line_of a_guide (take (e - a) (drop a g)) ∷ lines_at g (e + 1)
    unfolding lines_at
    line_first = lines_next a_guide g a e k l

    pub reads-role : (r : Role) → r ≡ role_of (line_of a_guide (take (e - a) (drop a g))) → Reads g a r (e + 1)
    reads-role r w =
        record {
          role = w ∙ sym (ap first_role line_first);
          rest = sym (ap (drop 1) line_first);
          onward = omega arith;
          within = omega arith;
          further = λ v. omega arith;
          clean = clean-behind a_guide g a e k l c;
        }

    pub reads-line : (h : Head) (r : Role) → Ok h ≡ head_of (line_of a_guide (take (e - a) (drop a g))) → r ≡ role_by h
        → ReadsLine g a (record { role = r; head = h; start = a; end = e; next = e + 1 })
    reads-line h r u w =
        let role = w ∙ role-head (line_of a_guide (take (e - a) (drop a g))) u in
        record {
          reads = reads-role r role;
          first = record {
            lines = line_first;
            stands = record { head = u; role = role; from = omega arith; to = omega arith; within = omega arith };
          };
        }

-- ---- the role by the kind

read-kind : {fs : List (List ℕ)} {l : Line} → ReadAs a_guide fs l → is_clean l ≡ true → option_map role_by_kind (kind_of (get_or fs 0 [])) ≡ Some (role_of l)
unfolding kind_of same
read-kind (as-fault c) v = absurd (false≢true v)
read-kind (as-input r h) v = refl
read-kind (as-inputs n r h) v = refl
read-kind (as-print h) v = refl
read-kind (as-printex h) v = refl
read-kind (as-if r o c) v = refl
read-kind as-else v = refl
read-kind as-fi v = refl

pub role-by-kind : (s : List ℕ) (k : Kind) (r : Role) → is_clean (line_of a_guide s) ≡ true → Some k ≡ kind_of (get_or (split comma s) 0 [])
    → r ≡ role_by_kind k → r ≡ role_of (line_of a_guide s)
role-by-kind s k r c d w = w ∙ same_Some _ _ (ap (option_map role_by_kind) d ∙ read-kind (line-read-as a_guide s) c)

-- ---- the lines behind the one that is read

module _ (g : List ℕ) (a : ℕ) (role : Role) (n : ℕ) (r : Reads g a role n) where
  pub rest-no-more : length (lines_at g n) ≤ length (lines_at g a)
  rest-no-more = omega (arith, ap length r.rest, length-drop 1 (lines_at g a))

  -- there is a line where the role is not that of the text's end
  pub some-line : (p : Role → Bool) {v : Bool} → (p Nothing ≡ v → ⊥) → p role ≡ v → 0 < length (lines_at g a)
  some-line p {v} n h = go (lines_at g a) (ap p (sym r.role) ∙ h)
    where
      go : (ls : List Line) → p (first_role ls) ≡ v → 0 < length ls
      go [] h = absurd (n h)
      go (l ∷ ls) h = omega arith

  one_less : 0 < length (lines_at g a) → length (lines_at g n) < length (lines_at g a)
  one_less h = omega (arith, ap length r.rest, length-drop 1 (lines_at g a))

  pub begins-less : begins_by role ≡ true → length (lines_at g n) < length (lines_at g a)
  begins-less v = one_less (some-line begins_by false≢true v)

  pub else-less : else_by role ≡ true → length (lines_at g n) < length (lines_at g a)
  else-less v = one_less (some-line else_by false≢true v)
