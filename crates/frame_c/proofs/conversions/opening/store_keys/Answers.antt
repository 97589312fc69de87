-- `store_keys` stores both keys where they are derived and there is room, and else nothing.
-- Assumes nothing.
use Rattle.std.proofs.Common.{◌≡◌, ◌++◌, length, sym, ◌∙◌, arith}
use borrow.Author.Rules.{rules}
use lib.ListN.{length-append}
use Rattle.base.proofs.Put.{put_length, then}
use Rattle.base.proofs.StoringLaws.{fitted}
use Rattle.frame_c.proofs.StoredLaws.{room_left, stored, not_stored}
use Rattle.frame_c.proofs.conversions.opening.store_keys.Goals as goal

pub returns-in-Ok : goal.returns-in-Ok
returns-in-Ok c =
    let k = c.in-Ok.found in
    let sizes : (length k.nwk_skey ≡ 16) × (length k.app_skey ≡ 16) = (search rules, search rules) in
    let long : length (k.nwk_skey ++ k.app_skey) ≡ 32 = omega (arith, length-append k.nwk_skey k.app_skey, sizes) in
    let here = sym c.fitted.ensures ∙ c.in-Ok.is in
    let room = room_left c.args.session 32 (length c.args.keys.now) here in
    let one = fitted c.put-end.ensures (omega (arith, room, sizes)) in
    let two = fitted c.put.ensures (omega (arith, room, sizes, one.next, put_length one)) in
    stored here (omega (arith, long, room)) c.done_answer.ensures (then one two)

pub returns-in-Err : goal.returns-in-Err
returns-in-Err c = not_stored (sym c.fitted.ensures ∙ c.in-Err.is) c.refusal_answer.ensures
