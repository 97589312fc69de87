-- `data_refusal` meets its contract: the two first tests are its own, and with the port known the others are those of the
-- function that it calls.
-- Assumes nothing.
use mathlib.Core.Path.{sym, ap, ◌∙◌}
use Rattle.std.specs.Prelude.{Err}
use Rattle.frame.specs.Refusals.{allowed}
use Rattle.frame_build.proofs.DataRefusals.{too_little_room, fopts-set, absent_case, port_case}
use borrow.Author.Rules.{rules}
use Rattle.frame_build.proofs.creator.data_frame.data_refusal.Goals as goal

pub returns-then-room-lt-PHY_PAYLOAD_MAX_LEN : goal.returns-then-room-lt-PHY_PAYLOAD_MAX_LEN
returns-then-room-lt-PHY_PAYLOAD_MAX_LEN c = ap Err c.of.ensures ∙ ap allowed (sym (too_little_room _ (search rules) _ _ _ c.if-room-lt-PHY_PAYLOAD_MAX_LEN.true))

pub returns-then-d-ne0 : goal.returns-then-d-ne0
returns-then-d-ne0 c = ap Err c.of-then-d-ne0.ensures ∙ ap allowed (sym (fopts-set _ (search rules) _ _ _ c.if-room-lt-PHY_PAYLOAD_MAX_LEN.false c.if-d-ne0.true))

pub returns-in-None : goal.returns-in-None
returns-in-None c = c.without_port.ensures ∙ ap allowed (sym (absent_case _ (search rules) _ _ _ c.if-room-lt-PHY_PAYLOAD_MAX_LEN.false c.if-d-ne0.false c.in-None.is))

pub returns-in-Some : goal.returns-in-Some
returns-in-Some c = c.with_port.ensures ∙ ap allowed (sym (port_case _ (search rules) _ _ _ c.if-room-lt-PHY_PAYLOAD_MAX_LEN.false c.if-d-ne0.false _ c.in-Some.is))
