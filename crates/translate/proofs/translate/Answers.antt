-- `translate` meets its contract: the book's refusal, or the plate with a checked book; an empty book needs no check.
use mathlib.Core.Path.{sym, ◌∙◌}
use Rattle.std.proofs.lemmas.Result.{err_from_is_err_and}
use Rattle.phrases.proofs.Answers.{answer-is}
use Rattle.phrases.proofs.CheckedBooks.{checked-book, checked-none}
use Rattle.translate.proofs.Whole.{call-book}
use borrow.Author.Rules.{rules}
use borrow.Author.Tests.{eqb-true}
use Rattle.translate.proofs.translate.Goals as goal

pub translate_with-requires : goal.translate_with-requires
translate_with-requires c = checked-none 0 _ (search rules)

pub translate_with-requires-2 : goal.translate_with-requires-2
translate_with-requires-2 c =
    checked-book 0 _ _ _ c.check_book.ensures.index_after c.check_book.ensures.by_index (search rules) c.in_ok-check_book.was

pub returns-in_err-check_book : goal.returns-in_err-check_book
returns-in_err-check_book c =
    let p = err_from_is_err_and c.from_residual.result c.from_residual.ensures.1 in
    rw (p.1, p.2) (call-book _ _ _ _ (sym (answer-is _ _ c.check_book.ensures.index_after) ∙ c.in_err-check_book.was))
