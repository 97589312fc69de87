use mathlib.Core.List.{List}
use Prim.Native.Nat.{ℕ}
use Rattle.frame_security.specs.JoinAcceptCipher.{Computes}
use Rattle.frame_security.proofs.AcceptBlocks.{Blocking}
use Rattle.frame_security.proofs.ecb.each_block.Given as goal

abbrev pub invariant-loop-k : goal.invariant-loop-k
invariant-loop-k g l =
    (f : List ℕ → List ℕ → List ℕ) → Computes (goal.F-post g l.step) f → Blocking (f l.schedule) l.initial.bytes l.bytes l.k
