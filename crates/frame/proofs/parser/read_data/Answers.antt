-- `frame::parser::read_data` meets its contract. Each part is what its own reader ensures.
-- Assumes nothing.
use Rattle.std.proofs.Common.{Err, ap}
use mathlib.Core.Path.{sym, ◌∙◌}
use native.Mathlib.Omega.{arith}
use Rattle.frame.specs.Reading.{data_of}
use Rattle.frame.proofs.ReadingSteps.{data_right, data_wrong}
use Rattle.frame.proofs.parser.read_data.Goals as goal

pub returns-then-frame-h : goal.returns-then-frame-h
returns-then-frame-h c = ap Err c.at.ensures ∙ sym (data_wrong _ (omega arith))

pub returns : goal.returns
unfolding data_of
returns c =
    rw (
      c.message_type.ensures,
      c.read_fcnt-fcnt.ensures,
      c.fhdr_length-h.ensures,
      c.read_port-port.ensures,
      c.read_payload-payload.ensures,
    )
    (sym (data_right _ (omega arith)))
