-- `frame::parser::read_type` meets its contract. The message type is what the definition picks by.
-- Assumes nothing.
use Rattle.std.proofs.Common.{Err, ap}
use mathlib.Core.Path.{sym, ◌∙◌}
use native.Mathlib.Omega.{arith}
use Rattle.frame.proofs.ReadingSteps.{type_request, type_accept, type_data, type_other}
use Rattle.frame.proofs.parser.read_type.Goals as goal

pub returns-then-mtype-eq0 : goal.returns-then-mtype-eq0
returns-then-mtype-eq0 c = c.read_join_request.ensures ∙ sym (type_request _ (sym c.message_type-mtype.ensures ∙ c.if-mtype-eq0.true))

pub returns-then-mtype-eq1 : goal.returns-then-mtype-eq1
returns-then-mtype-eq1 c =
    c.read_join_accept.ensures ∙ sym (type_accept _ (sym c.message_type-mtype.ensures ∙ c.if-mtype-eq1.true))

pub returns-then-mtype-lt6 : goal.returns-then-mtype-lt6
returns-then-mtype-lt6 c = c.read_data.ensures ∙ sym (type_data _ (omega arith) (omega arith))

pub returns : goal.returns
returns c = ap Err c.at.ensures ∙ sym (type_other _ (omega arith))
