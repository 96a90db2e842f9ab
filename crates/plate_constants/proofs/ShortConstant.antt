-- 32768 more, the remainder by 65536, 32768 less: that is the two's complement of 16 bits.
use Prim.Native.Nat.{ℕ, suc, ◌+◌, ◌-◌, ◌%◌, ◌<◌}
use mathlib.Core.Path.{◌≡◌, refl}
use mathlib.Core.Bool.{Bool, true, false, cond}
use native.Mathlib.Omega.{arith}
use lib.Dec.{ltb}
use lib.IntN.{pos, negsuc, ◌-ℤ◌}
use borrow.Author.Tests.{ltb-true, ltb-false, lt-ltb, le-ltb}
use Rattle.plate.specs.Plate.{signed}

pub short-arithmetic : (v : ℕ) → v < 65536 → pos ((v + 32768) % 65536) -ℤ pos 32768 ≡ signed 16 v
short-arithmetic v h = go (ltb v 32768) refl
  where
    go : (low : Bool) → ltb v 32768 ≡ low → pos ((v + 32768) % 65536) -ℤ pos 32768 ≡ cond low (pos v) (negsuc (65535 - v))
    go true e =
        let small = ltb-true v 32768 e in
        let r : (v + 32768) % 65536 ≡ v + 32768 = omega arith in
        let less : v + 32768 - 32768 ≡ v = omega arith in
        rw (r, le-ltb (v + 32768) 32768 (omega arith), less)
    go false e =
        let large = ltb-false v 32768 e in
        let r : (v + 32768) % 65536 ≡ v - 32768 = omega arith in
        let less : 32768 - suc (v - 32768) ≡ 65535 - v = omega arith in
        rw (r, lt-ltb (v - 32768) 32768 (omega arith), less)
