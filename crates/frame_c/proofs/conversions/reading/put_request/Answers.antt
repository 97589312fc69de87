-- `put_request` stores the four fields one after another.
-- Assumes nothing.
use mathlib.Core.Path.{◌≡◌}
use native.Mathlib.Omega.{arith}
use lib.ListN.{length}
use borrow.Author.Rules.{rules}
use Rattle.base.proofs.Put.{then, put_length}
use Rattle.base.proofs.StoringLaws.{fitted}
use Rattle.frame_c.specs.CStored.{request_bytes}
use Rattle.frame_c.proofs.conversions.reading.put_request.Goals as goal

pub returns : goal.returns
unfolding request_bytes
returns c =
    let sizes : (length c.args.fields.app_eui ≡ 8) × (length c.args.fields.dev_eui ≡ 8)
    × (length c.args.fields.dev_nonce ≡ 2) × (length c.args.fields.mic ≡ 4) = (search rules, search rules, search rules, search rules) in
    let size = sizes in
    let room = c.requires in
    let one = fitted c.put-a.ensures (omega (arith, size, room)) in
    let two = fitted c.put-b.ensures (omega (arith, size, room, one.next, put_length one)) in
    let three = fitted c.put-c.ensures (omega (arith, size, room, one.next, put_length one, two.next, put_length two)) in
    let four = fitted c.put.ensures (omega (arith, size, room, one.next, put_length one, two.next, put_length two, three.next, put_length three)) in
    then (then (then one two) three) four
