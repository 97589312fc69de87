-- `frame::parser::read_port` meets its contract: one law for each answer of `has_port`.
-- Assumes nothing.
use mathlib.Core.Path.{sym, ◌∙◌}
use borrow.Author.Tests.{leb-true, leb-false}
use Rattle.frame.proofs.ReadingSteps.{port_there, port_absent}
use Rattle.frame.proofs.parser.read_port.Goals as goal

pub returns-then-has_port : goal.returns-then-has_port
returns-then-has_port c =
    rw c.requires.h_value
    (sym (port_there _ (leb-true _ _ (sym c.has_port.ensures ∙ c.if-has_port.true))))

pub returns : goal.returns
returns c = sym (port_absent _ (leb-false _ _ (sym c.has_port.ensures ∙ c.if-has_port.false)))
