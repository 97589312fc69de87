use Prim.Native.Nat.{◌+◌, ◌*◌}
use Rattle.base.proofs.Filling.{Filling}
use Rattle.frame.specs.JoinFields.{frequency_at_of}
use Rattle.frame.proofs.join_fields.five_frequencies.Given as goal

abbrev pub invariant-loop-i : goal.invariant-loop-i
invariant-loop-i l = Filling 5 (λ k. frequency_at_of l.frame (13 + 3 * k)) l.out l.i
