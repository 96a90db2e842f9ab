-- Instructions: written and read.
use Prim.Native.Nat.{ℕ, zero, suc, ◌-◌, ◌^◌, ◌≤◌, ◌<◌}
use mathlib.Core.Path.{◌≡◌, refl, subst}
use mathlib.Core.List.{List, [], ◌++◌, append_assoc}
use mathlib.Core.Bool.{Bool, true}
use native.Mathlib.Nat.{le_refl}
use native.Mathlib.Omega.{arith}
use lib.ListN.{length}
use lib.Dec.{leb}
use borrow.Author.Tests.{leb-true, le-leb}
use Rattle.bits.specs.Bits.{bits_of}
use Rattle.text.specs.Text.{Text}
use Rattle.text.proofs.Valid.{TextOk, TextsOk}
use Rattle.phrases.specs.Phrases.{Phrases}
use Rattle.transcript.specs.Statement.{input, inputs, print, printex}
use Rattle.transcript.specs.declared.Test.{Test}
use Rattle.transcript.specs.declared.Op.{Op}
use Rattle.transcript.specs.declared.Op.TheVariants.{Eq, Ne, Lt, Le, Gt, Ge}
use Rattle.transcript.proofs.Valid.{TestOk}
use Rattle.plate.specs.Program.{Instruction, statement, goto, if_skip}
use Rattle.plate.specs.Writing.{op_code, constant_bits, text_bits, texts_bits, instruction_bits, instructions_bits}
use Rattle.plate.specs.Reading.{many}
use Rattle.plate.specs.Plate.{text, op_of, test, skip, options, fields_by, instruction}
use Rattle.plate.proofs.Valid.{InstructionOk, InstructionsOk}
use Rattle.plate.proofs.Readers.{
  Takes,
  Gives,
  takes-number,
  takes-judged,
  takes-then,
  takes-last,
  takes-many,
  gives-number,
  gives-judged,
  gives-return,
  gives_then,
  gives_so,
  gives-many,
  OneByOne,
}
use Rattle.plate.proofs.Texts.{takes-text, texts-in-row}
use Rattle.plate.proofs.Constants.{takes-constant, gives-constant}

-- ---- tests and skips

op-of-code : (o : Op) → op_of (op_code o) ≡ o
op-of-code Eq = refl
op-of-code Ne = refl
op-of-code Lt = refl
op-of-code Le = refl
op-of-code Gt = refl
op-of-code Ge = refl

code-at-most : (o : Op) → op_code o ≤ 5
code-at-most Eq = omega arith
code-at-most Ne = omega arith
code-at-most Lt = omega arith
code-at-most Le = omega arith
code-at-most Gt = omega arith
code-at-most Ge = omega arith

code-of-op : (k : ℕ) → k ≤ 5 → op_code (op_of k) ≡ k
code-of-op zero h = refl
code-of-op (suc zero) h = refl
code-of-op (suc (suc zero)) h = refl
code-of-op (suc (suc (suc zero))) h = refl
code-of-op (suc (suc (suc (suc zero)))) h = refl
code-of-op (suc (suc (suc (suc (suc n))))) h = omega arith

abbrev pub test_bits : Test → List Bool
test_bits t = bits_of 5 t.register ++ bits_of 3 (op_code t.op) ++ constant_bits t.constant

pub takes-test : (t : Test) → TestOk t → Takes test (test_bits t) t
unfolding test
takes-test t h =
    subst (Takes test (test_bits t))
    (λ i. record { register = t.register; op = op-of-code t.op i; constant = t.constant })
    (rw append_assoc
    (takes-then _ (takes-number 5 t.register h.0)
    (takes-then _ (takes-judged _ _ (takes-number 3 (op_code t.op) (omega (arith, small))) (le-leb _ 5 small))
    (takes-last _ (takes-constant t.constant h.1)))))
  where
    small : op_code t.op ≤ 5
    small = code-at-most t.op

pub gives-test : Gives test [] test_bits TestOk
unfolding test
gives-test =
    gives_then (gives-number 5) (λ r hr.
    gives_then (gives-judged _ _ (gives-number 3)) (λ o ho.
    gives_then gives-constant (λ c hc.
    gives-return _ (hr, hc) (rw (code-of-op o (leb-true o 5 ho.1))))))

pub takes_skip : (behind k : ℕ) → behind < 512 → k ≤ behind → Takes (skip behind) (bits_of 9 k) k
unfolding skip
takes_skip behind k few h = takes-judged _ _ (takes-number 9 k (omega arith)) (le-leb k behind h)

pub gives-skip : (behind : ℕ) → Gives (skip behind) [] (bits_of 9) (λ k. k ≤ behind)
unfolding skip
gives-skip behind = gives_so (gives-judged _ _ (gives-number 9)) (λ k h. (leb-true k behind h.1, refl))

-- ---- options

abbrev pub options_bits : Phrases → List Text → List Bool
options_bits c os = bits_of 3 (length os - 2) ++ texts_bits c os

abbrev pub OptionsOk : List Text → Type 0
OptionsOk os = (2 ≤ length os) × (length os ≤ 8) × TextsOk os

pub takes-options : (c : Phrases) (os : List Text) → OptionsOk os → Takes (options c) (options_bits c os) os
unfolding options
takes-options c os h =
    takes-then _ (takes-judged _ _ (takes-number 3 (length os - 2) (omega arith)) (le-leb (length os - 2) 6 (omega arith)))
    (rw count (takes-many (texts-in-row c) (length os) (λ n t few. takes-text c t) os (le_refl _) h.2))
  where
    count : suc (suc (length os - 2)) ≡ length os
    count = omega arith

pub gives-options : (c : Phrases) → Gives (text c) [] (text_bits c) TextOk → Gives (options c) [] (options_bits c) OptionsOk
unfolding options
gives-options c g =
    gives_then (gives-judged _ _ (gives-number 3)) (λ k h.
    gives_so (gives-many (texts-in-row c) (λ n. g) (suc (suc k))) (λ os hs.
    let e : length os - 2 ≡ k = omega (arith, hs.0) in
    ((omega (arith, hs.0), omega (arith, hs.0, leb-true k 6 h.1), hs.1), rw e)))

-- ---- instructions

module _ (c : Phrases) where
  takes-code : {bs : List Bool} {i : Instruction} (behind code : ℕ) → code ≤ 5 → Takes (fields_by c behind code) bs i
      → Takes (instruction c behind) (bits_of 3 code ++ bs) i
  unfolding instruction
  takes-code behind code h t = takes-then _ (takes-judged _ _ (takes-number 3 code (omega arith)) (le-leb code 5 h)) t

  pub takes-instruction : (n : ℕ) (i : Instruction) → n < 512 → InstructionOk n i → Takes (instruction c n) (instruction_bits c i) i
  takes-instruction n (statement (input r t)) few h =
      rw append_assoc (takes-code n 0 (omega arith) (takes-then _ (takes-number 5 r h.0) (takes-last _ (takes-text c t h.1))))
  takes-instruction n (statement (inputs r t os)) few h =
      simp append_assoc
      (takes-code n 1 (omega arith)
      (takes-then _ (takes-number 5 r h.0)
      (takes-then _ (takes-text c t h.1) (takes-last _ (takes-options c os (h.2, h.3, h.4))))))
  takes-instruction n (statement (print t)) few h = takes-code n 2 (omega arith) (takes-last _ (takes-text c t h))
  takes-instruction n (statement (printex t)) few h = takes-code n 3 (omega arith) (takes-last _ (takes-text c t h))
  takes-instruction n (goto k) few h = takes-code n 4 (omega arith) (takes-last _ (takes_skip n k few h))
  takes-instruction n (if_skip t k) few h =
      let fields : instruction_bits c (if_skip t k) ≡ bits_of 3 5 ++ (test_bits t ++ bits_of 9 k) = simp append_assoc in
      rw fields (takes-code n 5 (omega arith) (takes-then _ (takes-test t h.0) (takes-last _ (takes_skip n k few h.1))))

  pub gives-instruction : Gives (text c) [] (text_bits c) TextOk → (n : ℕ)
      → Gives (instruction c n) [] (instruction_bits c) (InstructionOk n)
  unfolding instruction
  gives-instruction g n = gives_then (gives-judged _ _ (gives-number 3)) by
    where
      by : (code : ℕ) → (code < 2 ^ 3) × (leb code 5 ≡ true)
          → Gives (fields_by c n code) (bits_of 3 code) (instruction_bits c) (InstructionOk n)
      by zero h = gives_then (gives-number 5) (λ r hr. gives_then g (λ t ht. gives-return (statement (input r t)) (hr, ht) refl))
      by (suc zero) h =
          gives_then (gives-number 5) (λ r hr.
          gives_then g (λ t ht.
          gives_then (gives-options c g) (λ os hs.
          gives-return (statement (inputs r t os)) (hr, ht, hs.0, hs.1, hs.2) (simp append_assoc))))
      by (suc (suc zero)) h = gives_then g (λ t ht. gives-return (statement (print t)) ht refl)
      by (suc (suc (suc zero))) h = gives_then g (λ t ht. gives-return (statement (printex t)) ht refl)
      by (suc (suc (suc (suc zero)))) h = gives_then (gives-skip n) (λ k hk. gives-return (goto k) hk refl)
      by (suc (suc (suc (suc (suc k))))) h =
          let last : k ≡ 0 = omega (arith, leb-true (suc (suc (suc (suc (suc k))))) 5 h.1) in
          gives_then gives-test (λ t ht.
          gives_then (gives-skip n) (λ j hj.
          gives-return (if_skip t j) (ht, hj) (rw last (simp append_assoc))))

  instructions-in-row : OneByOne (instruction_bits c) (instructions_bits c) InstructionOk InstructionsOk
  unfolding instructions_bits
  instructions-in-row =
      record {
        no_bits = refl;
        bits = λ i is. refl;
        none-good = tt;
        good = λ i is h k. (h, k);
        first_good = λ i is h. h.0;
        rest-good = λ i is h. h.1;
      }

  pub takes-instructions : (is : List Instruction) → length is ≤ 512 → InstructionsOk is
      → Takes (many (instruction c) (length is)) (instructions_bits c is) is
  takes-instructions = takes-many instructions-in-row 512 takes-instruction

  pub gives-instructions : Gives (text c) [] (text_bits c) TextOk → (n : ℕ)
      → Gives (many (instruction c) n) [] (instructions_bits c) (λ is. (length is ≡ n) × InstructionsOk is)
  gives-instructions g = gives-many instructions-in-row (gives-instruction g)
