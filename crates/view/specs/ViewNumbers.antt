-- The numbers of an accepted data frame as the layout names them, from LoRaWAN 1.0 section 4.3 (docs/RULES.md, Reading).
-- Assumes nothing.
use Rattle.std.specs.Prelude.{List, ℕ, ◌+◌, ◌-◌, eqb, length}
use Rattle.base.specs.Bytes.{pick}
use Rattle.frame.specs.Layout.{mtype, fctrl, fcnt, fhdr_length_of, has_port_of, fport, payload_start_of, payload_end_of}
use Rattle.frame.specs.declared.numbers.Values.{Values}

abbrev pub layout_values : List ℕ → Values
layout_values f =
    record {
      kind = 3;
      number = 0;
      place = 0;
      accept_len = 0;
      mtype = mtype f;
      fctrl = fctrl f;
      fcnt = fcnt f;
      fopts_end = 1 + fhdr_length_of f;
      port_given = has_port_of f;
      port = pick (has_port_of f) (fport f) 0;
      payload_kind = pick (has_port_of f) (pick (eqb (fport f) 0) 2 1) 0;
      payload_from = pick (has_port_of f) (payload_start_of f) 0;
      payload_to = pick (has_port_of f) (payload_end_of f) 0;
      mic = length f - 4;
    }
