-- `accepted_kind` meets its contract: the line begins with its kind's word.
use borrow.Author.Tests.{eq-eqb, ne_eqb}
use Rattle.accepted_lines.proofs.Begins.{begins, kind-two, kind-six, kind-goto}
use native.Mathlib.Omega.{arith}
use Rattle.accepted_lines.proofs.accepted.accepted_kind.Goals as goal

pub bounds-s-1 : goal.bounds-s-1
bounds-s-1 c = (begins _ c.requires).two

pub bounds-s-5 : goal.bounds-s-5
bounds-s-5 c = (begins _ c.requires).six-r c.in-114.is

pub bounds-s-5-in-110 : goal.bounds-s-5-in-110
bounds-s-5-in-110 c = (begins _ c.requires).six-n c.in-110.is

pub returns-in-104 : goal.returns-in-104
returns-in-104 c = kind-two _ _ 104 (begins _ c.requires) c.in-104.is

pub returns-then-s-eq44 : goal.returns-then-s-eq44
returns-then-s-eq44 c = kind-six _ _ 114 (begins _ c.requires) c.in-114.is (eq-eqb _ _ c.if-s-eq44.true)

pub returns-else-s-eq44 : goal.returns-else-s-eq44
returns-else-s-eq44 c = kind-six _ _ 114 (begins _ c.requires) c.in-114.is (ne_eqb _ _ c.if-s-eq44.false)

pub returns-then-s-eq44-2 : goal.returns-then-s-eq44-2
returns-then-s-eq44-2 c = kind-six _ _ 110 (begins _ c.requires) c.in-110.is (eq-eqb _ _ c.if-s-eq44-2.true)

pub returns-else-s-eq44-2 : goal.returns-else-s-eq44-2
returns-else-s-eq44-2 c = kind-six _ _ 110 (begins _ c.requires) c.in-110.is (ne_eqb _ _ c.if-s-eq44-2.false)

pub returns-in-102 : goal.returns-in-102
returns-in-102 c = kind-two _ _ 102 (begins _ c.requires) c.in-102.is

pub returns-in-108 : goal.returns-in-108
returns-in-108 c = kind-two _ _ 108 (begins _ c.requires) c.in-108.is

pub returns-in-105 : goal.returns-in-105
returns-in-105 c = kind-two _ _ 105 (begins _ c.requires) c.in-105.is

pub returns-in_default : goal.returns-in_default
returns-in_default c = kind-goto _ _ (begins _ c.requires) (λ e. omega arith) (λ e. omega arith) (λ e. omega arith) (λ e. omega arith) (λ e. omega arith) (λ e. omega arith)
