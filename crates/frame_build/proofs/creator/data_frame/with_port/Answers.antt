-- `with_port` meets its contract: each way out is that of its tests.
-- Assumes nothing.
use borrow.Author.Tests.{lt-ltb, le-ltb, eq-eqb, ne_eqb}
use Rattle.frame_build.proofs.creator.data_frame.with_port.Goals as goal

pub returns-then-payload-gt0 : goal.returns-then-payload-gt0
returns-then-payload-gt0 c = simp (c.of.ensures, eq-eqb _ _ c.if-port-eq0.true, lt-ltb _ _ c.if-payload-gt0.true)

pub returns-then-commands-gt242 : goal.returns-then-commands-gt242
returns-then-commands-gt242 c = simp (c.of-then-commands-gt242.ensures, eq-eqb _ _ c.if-port-eq0.true, le-ltb _ _ c.if-payload-gt0.false, lt-ltb _ _ c.if-commands-gt242.true)

pub returns-then-port-eq0 : goal.returns-then-port-eq0
returns-then-port-eq0 c = simp (eq-eqb _ _ c.if-port-eq0.true, le-ltb _ _ c.if-payload-gt0.false, le-ltb _ _ c.if-commands-gt242.false)

pub returns-then-commands-gt-FOPTS_MAX_LEN : goal.returns-then-commands-gt-FOPTS_MAX_LEN
returns-then-commands-gt-FOPTS_MAX_LEN c = simp (c.of-then-commands-gt-FOPTS_MAX_LEN.ensures, ne_eqb _ _ c.if-port-eq0.false, lt-ltb _ _ c.if-commands-gt-FOPTS_MAX_LEN.true)

pub returns-then-payload-gt-PHY_PAYLOAD_MAX_LEN : goal.returns-then-payload-gt-PHY_PAYLOAD_MAX_LEN
returns-then-payload-gt-PHY_PAYLOAD_MAX_LEN c = simp (c.of-then-payload-gt-PHY_PAYLOAD_MAX_LEN.ensures, ne_eqb _ _ c.if-port-eq0.false, le-ltb _ _ c.if-commands-gt-FOPTS_MAX_LEN.false, lt-ltb _ _ c.if-payload-gt-PHY_PAYLOAD_MAX_LEN.true)

pub returns-then-commands-payload-gt-PHY_PAYLOAD_MAX_LEN : goal.returns-then-commands-payload-gt-PHY_PAYLOAD_MAX_LEN
returns-then-commands-payload-gt-PHY_PAYLOAD_MAX_LEN c = simp (c.of-then-commands-payload-gt-PHY_PAYLOAD_MAX_LEN.ensures, ne_eqb _ _ c.if-port-eq0.false, le-ltb _ _ c.if-commands-gt-FOPTS_MAX_LEN.false, le-ltb _ _ c.if-payload-gt-PHY_PAYLOAD_MAX_LEN.false, lt-ltb _ _ c.if-commands-payload-gt-PHY_PAYLOAD_MAX_LEN.true)

pub returns : goal.returns
returns c = simp (ne_eqb _ _ c.if-port-eq0.false, le-ltb _ _ c.if-commands-gt-FOPTS_MAX_LEN.false, le-ltb _ _ c.if-payload-gt-PHY_PAYLOAD_MAX_LEN.false, le-ltb _ _ c.if-commands-payload-gt-PHY_PAYLOAD_MAX_LEN.false)
