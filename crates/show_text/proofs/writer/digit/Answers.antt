-- `digit` takes it from the table, which holds the digit of each number below 16.
-- Assumes nothing.
use borrow.Author.Rules.{rules}
use Rattle.show_text.proofs.Digits.{digits_right}
use Rattle.show_text.proofs.writer.digit.Goals as goal

pub returns : goal.returns
returns c = digits_right c.args.n (search rules)
