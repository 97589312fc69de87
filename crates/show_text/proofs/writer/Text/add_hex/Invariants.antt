use lib.ListN.{take}
use Rattle.show_text.specs.Text.{hex_of}
use Rattle.show_text.specs.Writing.{Adds}
use Rattle.show_text.proofs.writer.Text.add_hex.Given as goal

abbrev pub invariant-loop-b : goal.invariant-loop-b
invariant-loop-b l = Adds l.fn.self (hex_of (take l.b-index l.bytes)) l.self
