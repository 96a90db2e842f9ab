-- Programs: their bits written and read.
use mathlib.Core.List.{List, [], append_assoc}
use native.Mathlib.Omega.{arith}
use lib.ListN.{length}
use borrow.Author.Tests.{leb-true, le-leb}
use Rattle.text.specs.Text.{Text}
use Rattle.phrases.proofs.Valid.{BookOk}
use Rattle.plate.proofs.Valid.{ProgramOk}
use Rattle.plate.specs.Program.{Program}
use Rattle.plate.specs.Writing.{program_bits}
use Rattle.plate.specs.Plate.{program}
use Rattle.plate.proofs.Readers.{
  Takes,
  Gives,
  takes-number,
  takes-judged,
  takes-then,
  takes-last,
  gives-number,
  gives-judged,
  gives-return,
  gives_then,
}
use Rattle.plate.proofs.Texts.{gives-text}
use Rattle.plate.proofs.Instructions.{takes-instructions, gives-instructions}
use Rattle.plate.proofs.OwnPhrases.{own_bits_lem, takes-own, gives-own, takes_count, gives-count}

pub takes-program : (book : List Text) (p : Program) → ProgramOk book p → Takes (program book) (program_bits book p) p
unfolding program program_bits
takes-program book p ok =
    rw own_bits_lem
    (simp append_assoc
    (takes-then _ (takes_count (length p.own) ok.few)
    (takes-then _ (takes-own book [] p.own ok.phrases ok.plain)
    (takes-then _
    (takes-judged _ _ (takes-number 10 (length p.instructions) (omega (arith, ok.room))) (le-leb _ 512 ok.room))
    (takes-last _ (takes-instructions _ p.instructions ok.room ok.instructions))))))

pub gives-program : (book : List Text) → BookOk book → Gives (program book) [] (program_bits book) (ProgramOk book)
unfolding program program_bits
gives-program book Good-book =
    gives_then gives-count (λ k hk.
    gives_then (gives-own book [] k) (λ own ho.
    gives_then (gives-judged _ _ (gives-number 10)) (λ n hn.
    gives_then (gives-instructions _ (gives-text book own Good-book ho.1) n) (λ is hs.
    gives-return (record { own = own; instructions = is })
    (record {
      phrases = ho.1;
      plain = ho.2;
      few = omega (arith, ho.0);
      room = omega (arith, hs.0, leb-true n 512 hn.1);
      instructions = hs.1;
    })
    (rw (own_bits_lem, ho.0, hs.0))))))
