-- What is held has room for a line that has no cause.
use Prim.Native.Nat.{ℕ, zero, suc, ◌<◌}
use native.Mathlib.Omega.{arith}
use mathlib.Core.Path.{◌≡◌, sym, ◌∙◌}
use mathlib.Core.List.{List}
use Rattle.std.specs.Prelude.{Option, None}
use Rattle.std.proofs.lemmas.Option.{none-some}
use lib.ListN.{length}
use lib.Dec.{ltb}
use borrow.Author.Tests.{ltb-true}
use Rattle.causes.specs.declared.Cause.{Cause}
use Rattle.causes.specs.declared.Cause.TheVariants.{Nesting}
use Rattle.transcript.specs.declared.Test.{Test}
use Rattle.lines.specs.declared.Head.{Head}
use Rattle.lines.specs.declared.Head.TheVariants.{Phrase, If, Else, Fi}
use Rattle.lines.specs.Check.{room_cause, else_cause, fi_cause}
use Rattle.lines.proofs.Kept.{test-passed, room-left, phrase-allowed, else-room}
use Rattle.check_lines.specs.declared.seen.Seen.{Seen as Held}
use Rattle.check_lines.specs.Held.{open_ifs, seen_of, Passing}
use Rattle.check_lines.proofs.OpenIfs.{depth_is}
use Rattle.check_lines.proofs.Heads.{Counts}

else-open : (d : ℕ) (os : List ℕ) (room : Option Cause) → else_cause (open_ifs d os) room ≡ None → 0 < d
unfolding open_ifs
else-open zero os room h = absurd (none-some Nesting (sym h))
else-open (suc d) os room h = omega arith

fi-open : (d : ℕ) (os : List ℕ) → fi_cause (open_ifs d os) ≡ None → 0 < d
unfolding open_ifs
fi-open zero os h = absurd (none-some Nesting (sym h))
fi-open (suc d) os h = omega arith

module _ (s : Held) (os : List ℕ) where
  pub phrase-room : Passing Phrase s os → s.own < 32
  phrase-room p = omega (arith, (phrase-allowed p.book (seen_of p.own s os) p.text p.passes).1, p.count)

  pub if-room : (t : Test) → Passing (If t) s os → (s.instructions < 512) × (s.depth < 16)
  if-room t p =
      let depth = length (open_ifs s.depth os) in
      let k = test-passed (ltb depth 16) (room_cause (seen_of p.own s os)) Nesting p.passes in
      (room-left (seen_of p.own s os) k.1, omega (arith, ltb-true depth 16 k.0, depth_is os s.depth))

  pub else-has-if : Passing Else s os → (s.instructions < 512) × (0 < s.depth)
  else-has-if p =
      let room = room_cause (seen_of p.own s os) in
      let k = else-room (open_ifs s.depth os) room p.passes in
      (room-left (seen_of p.own s os) k, else-open s.depth os room p.passes)

  pub fi-has-if : Passing Fi s os → 0 < s.depth
  fi-has-if p = fi-open s.depth os p.passes

  pub counts-room : (h : Head) → Counts h → Passing h s os → s.instructions < 512
  counts-room h c p = room-left (seen_of p.own s os) (sym (c.cause p.book (seen_of p.own s os) p.text) ∙ p.passes)
