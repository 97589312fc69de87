-- `clear_copy` lends the first bytes of the copy, which are the frame's, to `decrypt_accept`.
-- Assumes nothing.
use native.Mathlib.Omega.{arith}
use Rattle.frame_opening.proofs.CheckedLaws.{accept_long, copy_clear, copied}
use Rattle.frame_opening.proofs.default_crypto.clear_copy.Goals as goal

pub slice_bounds-copy-end : goal.slice_bounds-copy-end
slice_bounds-copy-end c =
    omega (arith, (accept_long c.args.app_key c.args.frame.now c.requires).1)

pub returns : goal.returns
returns c =
    let f = c.args.frame.now in
    copy_clear c.args.app_key f c.requires _ c.decrypt_accept.new.frame
    (copied _ f c.put.ensures (accept_long c.args.app_key f c.requires).1) c.decrypt_accept.ensures
