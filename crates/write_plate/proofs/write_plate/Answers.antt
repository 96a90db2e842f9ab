-- `write_plate` meets its contract: the book's refusal, or the plate with a checked book; an empty book needs no check.
use mathlib.Core.Path.{sym, ◌∙◌}
use Rattle.std.proofs.lemmas.Result.{err_from_is_err_and}
use Rattle.phrases.proofs.Answers.{answer-is}
use Rattle.phrases.proofs.CheckedBooks.{checked-book, checked-none}
use Rattle.write_plate.proofs.Call.{call-book}
use borrow.Author.Rules.{rules}
use borrow.Author.Tests.{eqb-true}
use Rattle.write_plate.proofs.write_plate.Goals as goal

pub write_with-requires : goal.write_with-requires
write_with-requires c = checked-none 32 _ (search rules)

pub write_with-requires-2 : goal.write_with-requires-2
write_with-requires-2 c =
    checked-book 32 _ _ _ c.check_book.ensures.index_after c.check_book.ensures.by_index (search rules) c.in_ok-check_book.was

pub returns-in_err-check_book : goal.returns-in_err-check_book
returns-in_err-check_book c =
    let p = err_from_is_err_and c.from_residual.result c.from_residual.ensures.1 in
    rw (p.1, p.2) (call-book _ _ _ _ (sym (answer-is _ _ c.check_book.ensures.index_after) ∙ c.in_err-check_book.was))
