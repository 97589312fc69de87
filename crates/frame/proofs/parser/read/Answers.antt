-- `frame::parser::read` meets its contract. Its three tests are the definition's, in the same order.
-- Assumes nothing.
use Rattle.std.proofs.Common.{Err, ap}
use mathlib.Core.Path.{sym, ◌∙◌}
use Rattle.frame.proofs.ReadingSteps.{too_long, too_short, other_version, by_type}
use Rattle.frame.proofs.parser.read.Goals as goal

pub returns-then-frame-gt-PHY_PAYLOAD_MAX_LEN : goal.returns-then-frame-gt-PHY_PAYLOAD_MAX_LEN
returns-then-frame-gt-PHY_PAYLOAD_MAX_LEN c = ap Err c.at.ensures ∙ sym (too_long _ c.if-frame-gt-PHY_PAYLOAD_MAX_LEN.true)

pub returns-then-frame-lt-PHY_PAYLOAD_MIN_LEN : goal.returns-then-frame-lt-PHY_PAYLOAD_MIN_LEN
returns-then-frame-lt-PHY_PAYLOAD_MIN_LEN c = ap Err c.at-then-frame-lt-PHY_PAYLOAD_MIN_LEN.ensures ∙ sym (too_short _ c.if-frame-lt-PHY_PAYLOAD_MIN_LEN.true)

pub returns-then-frame-eq0 : goal.returns-then-frame-eq0
returns-then-frame-eq0 c = c.read_type.ensures ∙ sym (by_type _ c.if-frame-lt-PHY_PAYLOAD_MIN_LEN.false c.if-frame-gt-PHY_PAYLOAD_MAX_LEN.false c.if-frame-eq0.true)

pub returns : goal.returns
returns c = ap Err c.at-2.ensures ∙ sym (other_version _ c.if-frame-lt-PHY_PAYLOAD_MIN_LEN.false c.if-frame-gt-PHY_PAYLOAD_MAX_LEN.false c.if-frame-eq0.false)
