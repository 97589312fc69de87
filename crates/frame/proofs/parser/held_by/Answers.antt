-- `frame::parser::held_by` meets its contract: its test is the definition's.
-- Assumes nothing.
use borrow.Author.Tests.{eq-eqb, ne_eqb}
use Rattle.frame.proofs.parser.held_by.Goals as goal

pub returns-then-port-eq0 : goal.returns-then-port-eq0
returns-then-port-eq0 c = simp (eq-eqb _ _ c.if-port-eq0.true)

pub returns : goal.returns
returns c = simp (ne_eqb _ _ c.if-port-eq0.false)
