-- `frame::parser::read_payload` meets its contract: one law for each answer of `has_port`.
-- Assumes nothing.
use mathlib.Core.Path.{sym, ◌∙◌}
use borrow.Author.Tests.{leb-true, leb-false}
use Rattle.frame.proofs.ReadingSteps.{payload-none, payload-held}
use Rattle.frame.proofs.parser.read_payload.Goals as goal

pub returns-then-has_port : goal.returns-then-has_port
returns-then-has_port c =
    rw (c.held_by.ensures, c.requires.h_value)
    (sym (payload-held _ (leb-true _ _ (sym c.has_port.ensures ∙ c.if-has_port.true))))

pub returns : goal.returns
returns c = sym (payload-none _ (leb-false _ _ (sym c.has_port.ensures ∙ c.if-has_port.false)))
