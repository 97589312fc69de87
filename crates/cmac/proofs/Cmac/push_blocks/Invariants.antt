use mathlib.Core.Path.{◌≡◌}
use Prim.Native.Nat.{◌*◌, ◌<◌, ◌≤◌}
use lib.ListN.{length, drop}
use Rattle.cmac.specs.Running.{absorbed}
use Rattle.cmac.proofs.Cmac.push_blocks.Given as goal

abbrev pub invariant-loop-block : goal.invariant-loop-block
invariant-loop-block l = record {
  full : 0 < length l.fn.bytes → 16 ≤ l.self.filled;
  so_far : absorbed l.self (drop (16 * l.block-index) l.fn.bytes) ≡ absorbed l.initial.self l.fn.bytes;
}
