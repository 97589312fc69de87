use Prim.Native.Nat.{◌≤◌}
use Rattle.base.specs.Storing.{Put}
use Rattle.frame_c.specs.CStored.{four_each}
use Rattle.frame_c.proofs.conversions.reading.put_frequencies.Given as goal

abbrev pub invariant-loop-i : goal.invariant-loop-i
invariant-loop-i l = (l.i ≤ 5) × Put l.initial.out l.at (four_each l.i l.frequencies) l.end l.out
