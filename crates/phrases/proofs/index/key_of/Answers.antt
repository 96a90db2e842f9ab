-- `key_of` meets its contract: the sum so far and the weight of what is left are the weight of the first 64 bytes.
use Rattle.std.proofs.Common.{rules, ◌≡◌, ap, ◌<◌, suc, length, take, get_or, min, arith, length-take}
use mir.Val.{Fits}
use mir.Syntax.{w8}
use lib.Seq.{get_or-take}
use Rattle.std.proofs.lemmas.List.{take_min}
use Rattle.phrases.specs.Index.{weigh, key}
use Rattle.phrases.proofs.Weights.{weigh-on, weigh-none, product_small}
use Rattle.phrases.proofs.index.key_of.Goals as goal

pub loop-i-preserved : goal.loop-i-preserved
loop-i-preserved c =
    let t = c.args.text.now in
    let i = c.loop-i.i in
    let within : i < length (take c.min.result t) = search rules in
    let below : i < c.min.result = omega (arith, within, length-take c.min.result t) in
    let byte : Fits w8 (get_or (take c.min.result t) i 0) = rw get_or-take (c.type_inv.text i) in
    let small = product_small _ i byte (omega (arith, c.min.ensures)) in
    (omega (arith, weigh-on (take c.min.result t) i within, c.loop-i.invariant.0), omega (arith, small, c.loop-i.invariant.1))

pub returns : goal.returns
unfolding key
returns c =
    let t = c.args.text.now in
    let short : c.min.result ≡ min 64 (length t) = omega (arith, c.min.ensures) in
    let front : take c.min.result t ≡ take 64 t = rw short (take_min 64 t) in
    omega (arith, c.loop-i.invariant.0, ap (weigh 1) front, weigh-none (take c.min.result t) c.loop-i.i (suc c.loop-i.i) c.loop-i-test.false)
