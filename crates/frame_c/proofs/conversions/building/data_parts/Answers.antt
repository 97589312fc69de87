-- `data_parts` makes the record of the definition.
-- Assumes nothing.
use Rattle.frame_c.proofs.conversions.building.data_parts.Goals as goal

pub returns : goal.returns
returns c =
    let a = c.args in
    λ i.
    record {
      confirmed = c.is_confirmed-confirmed.ensures i;
      uplink = c.is_uplink-uplink.ensures i;
      dev_addr = a.dev_addr;
      fctrl = a.fctrl;
      fcnt = a.counter;
      port = c.port_of-place.ensures i;
    }
