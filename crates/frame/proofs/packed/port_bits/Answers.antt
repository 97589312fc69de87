-- `frame::packed::port_bits` meets its contract: one law for each answer of `has_port`.
-- Assumes nothing.
use mathlib.Core.Path.{sym, ◌∙◌}
use native.Mathlib.Omega.{arith}
use borrow.Author.Tests.{leb-true, leb-false}
use Rattle.frame.proofs.PackedLaws.{bits-held, bits_none}
use Rattle.frame.proofs.packed.port_bits.Goals as goal

pub returns-then-has_port : goal.returns-then-has_port
returns-then-has_port c =
    record {
      value = rw (c.held_bits.ensures.value, c.requires.h_value)
          (sym (bits-held _ (leb-true _ _ (sym c.has_port.ensures ∙ c.if-has_port.true))));
      upper_bound = c.held_bits.ensures.upper_bound;
    }

pub returns : goal.returns
returns c =
    record {
      value = sym (bits_none _ (omega arith) (leb-false _ _ (sym c.has_port.ensures ∙ c.if-has_port.false)));
      upper_bound = omega arith;
    }
