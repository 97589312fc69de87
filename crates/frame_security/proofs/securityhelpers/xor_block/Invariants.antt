use Rattle.base.specs.Bytes.{at}
use Rattle.base.proofs.Mask.{Masking}
use Rattle.frame_security.proofs.securityhelpers.xor_block.Given as goal

abbrev pub invariant-loop-i : goal.invariant-loop-i
invariant-loop-i l = Masking l.initial.bytes (at l.block) l.bytes l.i
