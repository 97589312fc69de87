-- `put_row` meets its contract: both tests together ask for the room of the whole command.
-- Assumes nothing.
use native.Mathlib.Omega.{arith}
use Rattle.mac_commands.proofs.WriteLaws.{room}
use Rattle.mac_commands.proofs.maccommandcreator.put_row.Goals as goal

pub returns : goal.returns
returns c =
    let a = c.args in
    let n =
    room a.r a.v _ a.at (omega (arith, c.row_at-n.ensures.size, c.if-out-at-2.false))
    (rw c.row_at-n.ensures.size at c.put_number.ensures) in
    record {
      value = n.0;
      out_after = n.1;
    }
