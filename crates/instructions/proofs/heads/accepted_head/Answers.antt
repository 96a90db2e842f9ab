-- `accepted_head` meets its contract: the code, which is good where the instruction is, then the fields that it calls for.
use Prim.Native.Nat.{◌+◌}
use mathlib.Core.Path.{◌≡◌, refl, ◌∙◌}
use native.Mathlib.Omega.{arith}
use Rattle.plate.specs.Reading.{got, number, return}
use Rattle.plate.specs.Plate.{skip}
use Rattle.fields.specs.Places.{place_at}
use Rattle.fields.proofs.Onward.{then-got}
use Rattle.plate_texts.proofs.Known.{known_same, known-first}
use Rattle.instructions.specs.Heads.{headed}
use Rattle.instructions.proofs.FieldsRead.{fields-code, fields-last}
use Rattle.instructions.proofs.HeadRead.{skip_read, if-same, code-known, by_code}
use Rattle.fields.proofs.Ahead.{part-below, part-read}
use borrow.Author.Rules.{rules}
use Rattle.instructions.proofs.heads.accepted_head.Goals as goal

pub returns-in-0 : goal.returns-in-0
unfolding headed
returns-in-0 c = record { result_value = λ ph behind w. let there : got c.part_ahead.result (place_at c.args.plate.now (c.args.at + 3)) ≡ number 3 (place_at c.args.plate.now c.args.at) = part-read _ _ c.read_ahead-ahead.ensures 0 3 (omega arith) c.part_ahead.ensures.0 _ _ (omega arith) (omega arith) (code-known _ _ _ _ w) in by_code _ _ _ _ w 0 there (fields-code _ _ _ 0 c.in-0.is) (λ k. then-got _ _ _ (part-read _ _ c.read_ahead-ahead.ensures 3 5 (omega arith) c.part_ahead-in-0.ensures.0 _ _ refl (omega arith) (known-first _ _ _ k))); head_fits = part-below 3 5 _ c.part_ahead-in-0.ensures.0 }

pub returns-in-1 : goal.returns-in-1
unfolding headed
returns-in-1 c = record { result_value = λ ph behind w. let there : got c.part_ahead.result (place_at c.args.plate.now (c.args.at + 3)) ≡ number 3 (place_at c.args.plate.now c.args.at) = part-read _ _ c.read_ahead-ahead.ensures 0 3 (omega arith) c.part_ahead.ensures.0 _ _ (omega arith) (omega arith) (code-known _ _ _ _ w) in by_code _ _ _ _ w 1 there (fields-code _ _ _ 1 c.in-1.is) (λ k. then-got _ _ _ (part-read _ _ c.read_ahead-ahead.ensures 3 5 (omega arith) c.part_ahead-in-1.ensures.0 _ _ refl (omega arith) (known-first _ _ _ k))); head_fits = part-below 3 5 _ c.part_ahead-in-1.ensures.0 }

pub returns-in-2 : goal.returns-in-2
unfolding headed
returns-in-2 c = record { result_value = λ ph behind w. let there : got c.part_ahead.result (place_at c.args.plate.now (c.args.at + 3)) ≡ number 3 (place_at c.args.plate.now c.args.at) = part-read _ _ c.read_ahead-ahead.ensures 0 3 (omega arith) c.part_ahead.ensures.0 _ _ (omega arith) (omega arith) (code-known _ _ _ _ w) in by_code _ _ _ _ w 2 there (fields-code _ _ _ 2 c.in-2.is) (λ k. refl); head_fits = search rules }

pub returns-in-3 : goal.returns-in-3
unfolding headed
returns-in-3 c = record { result_value = λ ph behind w. let there : got c.part_ahead.result (place_at c.args.plate.now (c.args.at + 3)) ≡ number 3 (place_at c.args.plate.now c.args.at) = part-read _ _ c.read_ahead-ahead.ensures 0 3 (omega arith) c.part_ahead.ensures.0 _ _ (omega arith) (omega arith) (code-known _ _ _ _ w) in by_code _ _ _ _ w 3 there (fields-code _ _ _ 3 c.in-3.is) (λ k. refl); head_fits = search rules }

pub returns-in-4 : goal.returns-in-4
unfolding headed return
returns-in-4 c = record { result_value = λ ph behind w. let there : got c.part_ahead.result (place_at c.args.plate.now (c.args.at + 3)) ≡ number 3 (place_at c.args.plate.now c.args.at) = part-read _ _ c.read_ahead-ahead.ensures 0 3 (omega arith) c.part_ahead.ensures.0 _ _ (omega arith) (omega arith) (code-known _ _ _ _ w) in by_code _ _ _ _ w 4 there (fields-code _ _ _ 4 c.in-4.is) (λ k. let s : number 9 (place_at c.args.plate.now (c.args.at + 3)) ≡ skip behind (place_at c.args.plate.now (c.args.at + 3)) = skip_read behind c.args.plate.now (c.args.at + 3) (known-first _ _ _ k) in then-got _ _ _ (part-read _ _ c.read_ahead-ahead.ensures 3 9 (omega arith) c.part_ahead-in-4.ensures.0 (c.args.at + 3) (c.args.at + 12) refl (omega arith) (known_same s (known-first _ _ _ k)) ∙ s)); head_fits = part-below 3 9 _ c.part_ahead-in-4.ensures.0 }

pub returns-in_default : goal.returns-in_default
unfolding headed
returns-in_default c = record { result_value = λ ph behind w. let there : got c.part_ahead.result (place_at c.args.plate.now (c.args.at + 3)) ≡ number 3 (place_at c.args.plate.now c.args.at) = part-read _ _ c.read_ahead-ahead.ensures 0 3 (omega arith) c.part_ahead.ensures.0 _ _ (omega arith) (omega arith) (code-known _ _ _ _ w) in by_code _ _ _ _ w 5 there (fields-last _ _ _ c.part_ahead.result (omega arith) (omega arith) (omega arith) (omega arith) (omega arith)) (if-same ph behind _); head_fits = search rules }
