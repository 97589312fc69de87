-- `frame::parser::read_join_request` meets its contract. The length is what the definition tests.
-- Assumes nothing.
use Rattle.std.proofs.Common.{Err, ap}
use mathlib.Core.Path.{sym, ◌∙◌}
use Rattle.frame.proofs.ReadingSteps.{request_right, request_wrong}
use Rattle.frame.proofs.parser.read_join_request.Goals as goal

pub returns-then-frame-eq-JOIN_REQUEST_LEN : goal.returns-then-frame-eq-JOIN_REQUEST_LEN
returns-then-frame-eq-JOIN_REQUEST_LEN c = sym (request_right _ c.if-frame-eq-JOIN_REQUEST_LEN.true)

pub returns : goal.returns
returns c = ap Err c.at.ensures ∙ sym (request_wrong _ c.if-frame-eq-JOIN_REQUEST_LEN.false)
