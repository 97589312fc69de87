-- `store_accept` stores the fields and then the frequencies where nothing is refused and there is room, and else nothing.
-- Assumes nothing.
use Rattle.std.proofs.Common.{◌≡◌, length, sym, ap, ◌∙◌, arith}
use lib.ListN.{length-append}
use Rattle.base.proofs.Put.{put_length, then, renamed}
use Rattle.frame.specs.JoinFields.{frequencies_of}
use Rattle.frame_c.specs.CStored.{accept_fixed, four_each, accept_bytes}
use Rattle.frame_c.proofs.FieldBytes.{four_each_long}
use Rattle.frame_c.proofs.StoredLaws.{room_left, stored, not_stored}
use Rattle.frame_c.proofs.conversions.reading.store_accept.Goals as goal

pub put_fixed-end-requires : goal.put_fixed-end-requires
put_fixed-end-requires c = omega (arith, room_left c.args.fields 42 (length c.args.out.now) (sym c.fitted.ensures ∙ c.in-Ok.is))

pub put_frequencies-requires : goal.put_frequencies-requires
put_frequencies-requires c =
    let room = room_left c.args.fields 42 (length c.args.out.now) (sym c.fitted.ensures ∙ c.in-Ok.is) in
    omega (arith, room, c.put_fixed-end.ensures.past, put_length c.put_fixed-end.ensures.stored)

pub returns-in-Ok : goal.returns-in-Ok
returns-in-Ok c =
    let j = c.in-Ok.found in
    let fixed : length (accept_fixed j) ≡ 22 = omega (arith, c.put_fixed-end.ensures.stored.next, c.put_fixed-end.ensures.past) in
    let long : length (accept_bytes j) ≡ 42 = length-append (accept_fixed j) (four_each 5 (frequencies_of j.cf_list))
    ∙ omega (arith, fixed, four_each_long 5 (frequencies_of j.cf_list)) in
    let here = sym c.fitted.ensures ∙ c.in-Ok.is in
    let room = room_left c.args.fields 42 (length c.args.out.now) here in
    let frequencies = renamed c.put_frequencies.ensures (ap (four_each 5) c.frequencies.ensures) in
    stored here (omega (arith, long, room)) c.done_answer.ensures (then c.put_fixed-end.ensures.stored frequencies)

pub returns-in-Err : goal.returns-in-Err
returns-in-Err c = not_stored (sym c.fitted.ensures ∙ c.in-Err.is) c.refusal_answer.ensures
