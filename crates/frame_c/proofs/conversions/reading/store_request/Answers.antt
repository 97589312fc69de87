-- `store_request` stores the fields where nothing is refused and there is room, and else nothing.
-- Assumes nothing.
use Rattle.std.proofs.Common.{◌≡◌, length, sym, ◌∙◌, arith}
use borrow.Author.Rules.{rules}
use Rattle.frame_c.specs.CStored.{request_bytes}
use Rattle.frame_c.proofs.FieldBytes.{request_long}
use Rattle.frame_c.proofs.StoredLaws.{room_left, stored, not_stored}
use Rattle.frame_c.proofs.conversions.reading.store_request.Goals as goal

pub put_request-requires : goal.put_request-requires
put_request-requires c = room_left c.args.fields 22 (length c.args.out.now) (sym c.fitted.ensures ∙ c.in-Ok.is)

pub returns-in-Ok : goal.returns-in-Ok
returns-in-Ok c =
    let j = c.in-Ok.found in
    let long : length (request_bytes j) ≡ 22 = request_long j (search rules) (search rules) (search rules) (search rules) in
    let here = sym c.fitted.ensures ∙ c.in-Ok.is in
    stored here (omega (arith, long, room_left c.args.fields 22 (length c.args.out.now) here)) c.done_answer.ensures c.put_request.ensures

pub returns-in-Err : goal.returns-in-Err
returns-in-Err c = not_stored (sym c.fitted.ensures ∙ c.in-Err.is) c.refusal_answer.ensures
