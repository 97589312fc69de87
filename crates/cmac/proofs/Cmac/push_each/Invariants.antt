use mathlib.Core.Path.{◌≡◌}
use lib.ListN.{drop}
use Rattle.cmac.specs.Running.{absorbed}
use Rattle.cmac.proofs.Cmac.push_each.Given as goal

abbrev pub invariant-loop-byte : goal.invariant-loop-byte
invariant-loop-byte l = absorbed l.self (drop l.byte-index l.bytes) ≡ absorbed l.initial.self l.bytes
