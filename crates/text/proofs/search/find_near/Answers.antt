-- `find_near` meets its contract: the place of the first x among the bytes from a on.
use Rattle.std.proofs.Common.{rules, ◌≡◌, ◌-◌, ◌∙◌, List, take, drop, length, ℕ, Option, Some, None, arith}
use borrow.Author.Tests.{tests}
use Rattle.std.proofs.lemmas.Iterator.{YieldsList-from_slice}
use Rattle.std.proofs.lemmas.Iterator.Search.{position_from_yields_List}
use Rattle.std.specs.List.{position}
use lib.Dec.{eqb}
use lib.ListN.{length-drop}
use lib.Seq.{take_all}
use Rattle.text.proofs.Words.{until_is}
use Rattle.text.proofs.search.find_near.Goals as goal

-- the end of a slice, as its iterator has it
tail : (a : ℕ) (s : List ℕ) → take (length s - a) (drop a s) ≡ drop a s
tail a s = take_all (length s - a) (drop a s) (omega (arith, length-drop a s))

pub returns-in-Some-clause-value : goal.returns-in-Some-clause-value
returns-in-Some-clause-value c =
    let s = drop c.args.a c.args.s.now in
    let e : Some c.in-Some.k ≡ position (λ b. eqb b c.args.x) s =
    position_from_yields_List (λ b. eqb b c.args.x) _ _ (Some c.in-Some.k) c.in-Some.ensures.ran (YieldsList-from_slice s (c.iter.ensures.rest ∙ tail c.args.a c.args.s.now)) (λ x b q k. search (rules, tests)) in
    omega (arith, until_is c.args.x s (Some c.in-Some.k) e)

pub returns-in-None-clause-value : goal.returns-in-None-clause-value
returns-in-None-clause-value c =
    let s = drop c.args.a c.args.s.now in
    let r : Option ℕ = None in
    let e : r ≡ position (λ b. eqb b c.args.x) s =
    position_from_yields_List (λ b. eqb b c.args.x) _ _ r c.in-None.ensures.ran (YieldsList-from_slice s (c.iter.ensures.rest ∙ tail c.args.a c.args.s.now)) (λ x b q k. search (rules, tests)) in
    omega (arith, until_is c.args.x s r e, length-drop c.args.a c.args.s.now)
