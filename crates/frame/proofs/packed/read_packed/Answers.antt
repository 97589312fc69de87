-- `frame::packed::read_packed` meets its contract: a frame that fails a test is not one of data, and one that passes them all
-- is the sum of its bits.
-- Assumes nothing.
use mathlib.Core.Path.{refl}
use native.Mathlib.Omega.{arith}
use Rattle.frame.proofs.PackedLaws.{data_is}
use Rattle.frame.proofs.packed.read_packed.Goals as goal

pub returns : goal.returns
returns c =
    data_is _
    (record {
      least = omega arith;
      most = omega arith;
      version = c.if-first-ne0.false;
      from = omega arith;
      below = omega arith;
      fits = omega arith;
    })
    refl c.fhdr_length-h.ensures c.read_fcnt-fcnt.ensures c.counter_bits-counter.ensures
    c.port_bits-port.ensures.value c.data_bits.ensures
