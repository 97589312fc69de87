-- `frame::parser::read_join_accept` meets its contract. The two lengths are what the definition tests.
-- Assumes nothing.
use Rattle.std.proofs.Common.{Err, ap}
use mathlib.Core.Path.{sym, ◌∙◌}
use Rattle.frame.proofs.ReadingSteps.{accept_short, accept_long, accept_wrong}
use Rattle.frame.proofs.parser.read_join_accept.Goals as goal

pub returns-then-n-eq-JOIN_ACCEPT_LEN : goal.returns-then-n-eq-JOIN_ACCEPT_LEN
returns-then-n-eq-JOIN_ACCEPT_LEN c = sym (accept_short _ c.if-n-eq-JOIN_ACCEPT_LEN.true)

pub returns-then-n-eq-JOIN_ACCEPT_WITH_CFLIST_LEN : goal.returns-then-n-eq-JOIN_ACCEPT_WITH_CFLIST_LEN
returns-then-n-eq-JOIN_ACCEPT_WITH_CFLIST_LEN c = sym (accept_long _ c.if-n-eq-JOIN_ACCEPT_WITH_CFLIST_LEN.true)

pub returns : goal.returns
returns c = ap Err c.at.ensures ∙ sym (accept_wrong _ c.if-n-eq-JOIN_ACCEPT_LEN.false c.if-n-eq-JOIN_ACCEPT_WITH_CFLIST_LEN.false)
