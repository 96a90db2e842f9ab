-- The search for the first skip that goes past the instructions behind it, one line on.
use Prim.Native.Nat.{ℕ, suc, ◌+◌, ◌-◌, ◌≤◌, ◌<◌}
use native.Mathlib.Omega.{arith}
use mathlib.Core.Path.{◌≡◌, sym, ap, ◌∙◌}
use mathlib.Core.List.{List, ◌++◌}
use mathlib.Core.Option.{none, some}
use Rattle.std.specs.Prelude.{Ok}
use lib.ListN.{length, take, drop, get_or, length-append}
use borrow.Author.Tests.{le-leb, lt-leb}
use Rattle.text.specs.Parts.{until_byte, LF}
use Rattle.lines.specs.declared.Form.{Form}
use Rattle.lines.specs.declared.Head.{Head}
use Rattle.lines.specs.Line.{Line, line_of}
use Rattle.lines.specs.Check.{lines_of}
use Rattle.lines.specs.Answers.{head_of}
use Rattle.plate.specs.Program.{Instruction, skip_of}
use Rattle.listing.specs.Listing.{first_past}
use Rattle.assemble.specs.LineCode.{line_code, lines_code, count_by, skip_by}
use Rattle.assemble.specs.Assembled.{Counted}
use Rattle.assemble.proofs.Ahead.{Ahead, ahead-next}
use Rattle.assemble.proofs.HeadCode.{counted, skipped, Coded, silent, one, coded, line-count}
use Rattle.assemble.proofs.LinesFrom.{code_from, no_code, next-code}

-- ---- one line and the instructions behind it

module _ (n : ℕ) (is : List Instruction) (k : ℕ) (l : Line) where
  -- a skip that stays within
  line-within : skipped k (head_of l) ≤ length is → first_past n (line_code k l ++ is) ≡ first_past (n + counted (head_of l)) is
  unfolding first_past
  line-within h = go (coded k l)
    where
      go : Coded k l → first_past n (line_code k l ++ is) ≡ first_past (n + counted (head_of l)) is
      go (silent e c s) = let m : n + 0 ≡ n = omega arith in rw (e, c, m)
      go (one i e c s) =
          let m : n + 1 ≡ suc n = omega arith in
          let b : skip_of i ≤ length is = omega arith in
          rw (e, c, m, le-leb (skip_of i) (length is) b, first_past)

  -- a skip that goes past
  line-beyond : length is < skipped k (head_of l) → (first_past n (line_code k l ++ is) ≡ some n) × (counted (head_of l) ≡ 1)
  unfolding first_past
  line-beyond h = go (coded k l)
    where
      go : Coded k l → (first_past n (line_code k l ++ is) ≡ some n) × (counted (head_of l) ≡ 1)
      go (silent e c s) = absurd (omega arith)
      go (one i e c s) = let b : length is < skip_of i = omega arith in (rw (e, lt-leb (skip_of i) (length is) b, first_past), c)

-- ---- the search

-- before the place a no skip goes past, and `left` of the n instructions stand from there on
pub record Searched (form : Form) (ks s : List ℕ) (own n left a : ℕ) : Type 0 where
  pub ahead : Ahead form s a
  pub count : length (code_from form ks s (n - left) a) ≡ left
  pub few : left ≤ n
  pub rest : first_past (suc own) (lines_code ks (lines_of form s)) ≡ first_past (suc (own + (n - left))) (code_from form ks s (n - left) a)

pub searched-none : (form : Form) (ks s : List ℕ) (own n : ℕ) → Counted form ks s n → Searched form ks s own n n 0
searched-none form ks s own n g =
    let z : n - n ≡ 0 = omega arith in
    let e : own + (n - n) ≡ own = omega arith in
    record {
      ahead = record { within = omega arith; sound = g.clean };
      count = rw z (sym g.count);
      few = omega arith;
      rest = rw (e, z);
    }

module _ {form : Form} {ks s : List ℕ} {own n left a : ℕ} (g : Searched form ks s own n left a) where
  pub searched-end : length s ≤ a → first_past (suc own) (lines_code ks (lines_of form s)) ≡ none
  unfolding first_past
  searched-end h = g.rest ∙ rw (no_code form ks s (n - left) a h)

  -- the line that starts at a ends at e, and has the head d and so many instructions
  module _ {e : ℕ} (h : a < length s) (k : e ≡ a + until_byte LF (drop a s)) (l : e ≤ length s)
      {d : Head} (z : Ok d ≡ head_of (line_of form (take (e - a) (drop a s)))) {c : ℕ} (p : c ≡ count_by d) where
    abbrev line : Line
    line = line_of form (take (e - a) (drop a s))

    abbrev skip : ℕ
    skip = get_or ks (n - left) 0

    pub counts-one : c ≤ left
    counts-one =
        let all = ap length (next-code g.ahead h k l ks (n - left)) in
        omega (arith, all, length-append (line_code skip line) (code_from form ks s (n - left + counted (head_of line)) (e + 1)), line-count skip line, ap counted z, g.count)

    -- the number of the next instruction
    pub next-number : n - (left - c) ≡ n - left + count_by d
    next-number = omega (arith, counts-one, g.few)

    abbrev behind : List Instruction
    behind = code_from form ks s (n - (left - c)) (e + 1)

    next : code_from form ks s (n - left) a ≡ line_code skip line ++ behind
    next = next-code g.ahead h k l ks (n - left) ∙ rw (next-number, ← z)

    next-count : left ≡ c + length behind
    next-count = omega (arith, ap length next, length-append (line_code skip line) behind, line-count skip line, ap counted z, g.count)

    module _ {w j : ℕ} (v : w ≡ skip) (q : j ≡ skip_by w d) where
      own-skip : j ≡ skipped skip (head_of line)
      own-skip = rw (← z, ← v) q

      pub goes-past : left - c < j → first_past (suc own) (lines_code ks (lines_of form s)) ≡ some (own + n - (left - c))
      goes-past f =
          let m = suc (own + (n - left)) in
          let b = line-beyond m behind skip line (omega (arith, next-count, own-skip)) in
          let here : m ≡ own + n - (left - c) = omega (arith, b.1, ap counted z, g.few, next-count) in
          g.rest ∙ ap (first_past m) next ∙ b.0 ∙ ap some here

      pub goes_on : j ≤ left - c → Searched form ks s own n (left - c) (e + 1)
      goes_on f =
          let m = suc (own + (n - left)) in
          let b = line-within m behind skip line (omega (arith, next-count, own-skip)) in
          let here : m + counted (head_of line) ≡ suc (own + (n - (left - c))) = omega (arith, ap counted z, g.few, next-count) in
          record {
            ahead = ahead-next g.ahead h k l;
            count = omega (arith, next-count);
            few = omega (arith, g.few);
            rest = g.rest ∙ ap (first_past m) next ∙ b ∙ ap (λ i. first_past i behind) here;
          }
