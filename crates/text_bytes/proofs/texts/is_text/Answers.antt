-- `is_text` meets its contract: one test after the other.
use Rattle.std.proofs.Common.{◌∙◌, sym, ◌≡◌, ◌≤◌, ◌<◌, ◌⊎◌, inl, inr, length, arith}
use Rattle.text.proofs.Bytes.{text-sized, text-none, text-long}
use Rattle.text_bytes.proofs.texts.is_text.Goals as goal
use Rattle.text_bytes.proofs.texts.is_text.Goals.{then-contains, else-contains}

pub returns-then-are_text_bytes : goal.returns-then-are_text_bytes
returns-then-are_text_bytes c =
    let s = c.args.s.now in
    elim c.if-contains.branch [
      | then-contains w ↦
          let size : (1 ≤ length s) × (length s ≤ 64) = grind arith in
          let bytes = sym w.are_text_bytes.ensures ∙ sym w.value-is ∙ c.if-are_text_bytes.true in
          c.well_formed-then-are_text_bytes.ensures ∙ sym (text-sized s (λ e. omega arith) size.1 ∙ rw bytes)
      | else-contains w ↦ cc
    ]

pub returns-else-are_text_bytes : goal.returns-else-are_text_bytes
returns-else-are_text_bytes c =
    let s = c.args.s.now in
    elim c.if-contains.branch [
      | then-contains w ↦
          let size : (1 ≤ length s) × (length s ≤ 64) = grind arith in
          let bytes = sym w.are_text_bytes.ensures ∙ sym w.value-is ∙ c.if-are_text_bytes.false in
          c.if-are_text_bytes.false ∙ sym (text-sized s (λ e. omega arith) size.1 ∙ rw bytes)
      | else-contains w ↦
          let size : (length s ≡ 0) ⊎ (64 < length s) = grind arith in
          c.if-are_text_bytes.false ∙ sym (elim size [ inl e ↦ text-none s e | inr e ↦ text-long s e ])
    ]
