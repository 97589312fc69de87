-- `payload_length` meets each way of its definition. Assumes nothing.
use native.Mathlib.Omega.{arith}
use borrow.Author.Tests.{le-leb, lt-leb}
use Rattle.amend.proofs.amending.payload_length.Goals as goal

pub returns-then-total-gt-PHY_PAYLOAD_MAX_LEN : goal.returns-then-total-gt-PHY_PAYLOAD_MAX_LEN
returns-then-total-gt-PHY_PAYLOAD_MAX_LEN c = simp (lt-leb _ _ c.if-total-gt-PHY_PAYLOAD_MAX_LEN.true)

pub returns-then-total-start : goal.returns-then-total-start
returns-then-total-start c = simp (le-leb _ _ c.if-total-gt-PHY_PAYLOAD_MAX_LEN.false) (omega arith)

pub returns : goal.returns
returns c = simp (le-leb _ _ c.if-total-gt-PHY_PAYLOAD_MAX_LEN.false) (omega arith)
