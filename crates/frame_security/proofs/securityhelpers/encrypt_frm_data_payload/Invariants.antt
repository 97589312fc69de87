use Prim.Native.Nat.{◌*◌, min}
use lib.ListN.{length}
use Rattle.base.proofs.Mask.{Masking}
use Rattle.frame_security.specs.Security.{stream_at}
use Rattle.frame_security.proofs.securityhelpers.encrypt_frm_data_payload.Given as goal

abbrev pub invariant-loop-k : goal.invariant-loop-k
invariant-loop-k l = Masking l.initial.payload (stream_at l.schedule l.start l.counter) l.payload (min (l.k * 16) (length l.initial.payload))
