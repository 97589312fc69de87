use Prim.Native.Nat.{◌-◌}
use mathlib.Core.Path.{◌≡◌}
use mathlib.Core.Bool.{true}
use lib.ListN.{length, drop}
use Rattle.amend.specs.SignedOnce.{all_inside_of, stored_all}
use Rattle.amend.proofs.ListTurns.{InHand}
use Rattle.amend.proofs.list.store_under.Given as goal

abbrev pub invariant-loop-a : goal.invariant-loop-a
invariant-loop-a l = record {
  long : length l.frame ≡ length l.initial.frame;
  in_hand : InHand l.schedule l.first l.counter l.held l.stream;
  inside : all_inside_of (length l.initial.frame - l.start) (drop l.a-index l.amendments) ≡ true;
  same : stored_all l.schedule l.first l.counter l.start l.frame (drop l.a-index l.amendments)
      ≡ stored_all l.schedule l.first l.counter l.start l.initial.frame l.amendments;
}
