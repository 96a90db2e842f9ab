-- `run` meets its contract: the book's refusal, or the run with a checked book; an empty book needs no check.
use mathlib.Core.Path.{sym, ◌∙◌}
use Rattle.std.proofs.lemmas.Result.{err_from_is_err_and}
use Rattle.phrases.proofs.Answers.{answer-is}
use Rattle.phrases.proofs.CheckedBooks.{checked-book, checked-none}
use Rattle.run.proofs.Called.{call-book}
use borrow.Author.Tests.{eqb-true}
use borrow.Author.Rules.{rules}
use Rattle.run.proofs.run.Goals as goal

pub run_with-requires : goal.run_with-requires
run_with-requires c = checked-none 32 _ (eqb-true _ _ (sym c.is_empty.ensures ∙ c.if-is_empty.true))

pub run_with-requires-2 : goal.run_with-requires-2
run_with-requires-2 c =
    checked-book 32 _ _ _ c.check_book.ensures.index_after c.check_book.ensures.by_index (search rules) c.in_ok-check_book.was

pub returns-in_err-check_book-clause-transcript_after : goal.returns-in_err-check_book-clause-transcript_after
returns-in_err-check_book-clause-transcript_after c =
    let p = err_from_is_err_and c.from_residual.result c.from_residual.ensures.1 in
    rw (p.1, p.2) (call-book _ _ _ _ _ _ (sym (answer-is _ _ c.check_book.ensures.index_after) ∙ c.in_err-check_book.was))
