-- `read_plate` meets its contract: the book's refusal, or the listing with a checked book; an empty book needs no check.
use Rattle.std.proofs.Common.{sym, ap, ◌∙◌, rules}
use Rattle.causes.specs.Answers.{written_answer}
use Rattle.phrases.proofs.Answers.{answer-is}
use Rattle.phrases.proofs.CheckedBooks.{checked-book, checked-none}
use Rattle.fields.proofs.Exits.{handed-on}
use Rattle.read_plate.proofs.Whole.{call-book}
use Rattle.read_plate.proofs.read_plate.Goals as goal

pub read_with-requires : goal.read_with-requires
read_with-requires c = checked-none 32 _ (search rules)

pub read_with-requires-2 : goal.read_with-requires-2
read_with-requires-2 c =
    checked-book 32 _ _ _ c.check_book.ensures.index_after c.check_book.ensures.by_index (search rules) c.in_ok-check_book.was

pub returns-in_err-check_book : goal.returns-in_err-check_book
returns-in_err-check_book c =
    ap (λ a. (a, c.args.listing.now)) (handed-on written_answer c.from_residual.result c.from_residual.ensures.1)
    ∙ call-book _ _ _ _ (sym (answer-is _ _ c.check_book.ensures.index_after) ∙ c.in_err-check_book.was)
