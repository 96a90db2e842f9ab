use Rattle.lines.specs.Answers.{seen_in}
use Rattle.phrases.specs.Lookup.{book_texts}
use borrow.Author.Rules.{rules}
use Rattle.check_lines.proofs.checking.check.Goals as goal

pub returns-then-most_bytes-text-clause-value : goal.returns-then-most_bytes-text-clause-value
unfolding book_texts seen_in
returns-then-most_bytes-text-clause-value c = search rules

pub returns-clause-value : goal.returns-clause-value
unfolding book_texts seen_in
returns-clause-value c = search rules
