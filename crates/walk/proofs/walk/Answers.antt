-- `walk` meets its contract: the book's refusal, the guide's, or what the two passes leave.
use mathlib.Core.Path.{sym, ◌∙◌}
use Rattle.std.proofs.lemmas.Result.{err_from_is_err_and}
use Rattle.phrases.proofs.Answers.{answer-is}
use Rattle.phrases.proofs.CheckedBooks.{checked-book}
use Rattle.walk.proofs.Whole.{call-book, call-guide, call-walked}
use borrow.Author.Rules.{rules}
use Rattle.walk.proofs.walk.Goals as goal

pub check-requires : goal.check-requires
check-requires c =
    let book = checked-book 0 _ _ _ c.check_book.ensures.index_after c.check_book.ensures.by_index (search rules) c.in_ok-check_book.was in
    (book.indexed, book.room)

pub write-requires : goal.write-requires
write-requires c = (_, _, sym c.check.ensures.value ∙ c.in_ok-counts.was)

pub returns-in_err-check_book : goal.returns-in_err-check_book
returns-in_err-check_book c =
    let p = err_from_is_err_and c.from_residual.result c.from_residual.ensures.1 in
    rw (p.1, p.2) (call-book _ _ _ _ _ (sym (answer-is _ _ c.check_book.ensures.index_after) ∙ c.in_err-check_book.was))

pub returns-in_err-counts : goal.returns-in_err-counts
returns-in_err-counts c =
    let book = sym (answer-is _ _ c.check_book.ensures.index_after) ∙ c.in_ok-check_book.was in
    let p = err_from_is_err_and c.from_residual-in_err-counts.result c.from_residual-in_err-counts.ensures.1 in
    rw (p.1, p.2) (call-guide _ _ _ _ _ _ book (sym c.check.ensures.value ∙ c.in_err-counts.was))

pub returns : goal.returns
returns c =
    let book = sym (answer-is _ _ c.check_book.ensures.index_after) ∙ c.in_ok-check_book.was in
    let guide = sym c.check.ensures.value ∙ c.in_ok-counts.was in
    call-walked _ _ _ _ _ _ _ book guide c.write.ensures
