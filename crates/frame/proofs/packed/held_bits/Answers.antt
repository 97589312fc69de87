-- `frame::packed::held_bits` meets its contract: its test is the definition's.
-- Assumes nothing.
use native.Mathlib.Omega.{arith}
use borrow.Author.Tests.{eq-eqb, ne_eqb}
use Rattle.frame.proofs.packed.held_bits.Goals as goal

pub returns-then-port-eq0 : goal.returns-then-port-eq0
returns-then-port-eq0 c = record {
  value = simp (eq-eqb _ _ c.if-port-eq0.true);
  upper_bound = omega arith;
}

pub returns : goal.returns
returns c = record {
  value = rw c.wide.ensures.value (simp (ne_eqb _ _ c.if-port-eq0.false));
  upper_bound = omega arith;
}
