-- `put_fixed` stores the fields one after another, among them the number of the list.
-- Assumes nothing.
use Rattle.std.proofs.Common.{ap₂, List}
use mathlib.Core.Path.{◌≡◌, sym}
use mathlib.Core.List.{[], ◌∷◌, ◌++◌}
use Prim.Native.Nat.{ℕ}
use native.Mathlib.Omega.{arith}
use lib.ListN.{length}
use borrow.Author.Rules.{rules}
use Rattle.base.proofs.Put.{then, renamed, put_length}
use Rattle.base.proofs.StoringLaws.{fitted}
use Rattle.frame_c.specs.CStored.{accept_fixed}
use Rattle.frame_c.proofs.conversions.reading.put_fixed.Goals as goal

-- the array of masks, four stores after it was copied
pub slice_bounds-put-end-5 : goal.slice_bounds-put-end-5
slice_bounds-put-end-5 c =
    let sizes : (length c.args.fields.app_nonce ≡ 3) × (length c.args.fields.net_id ≡ 3)
    × (length c.args.fields.dev_addr ≡ 4) × (length c.masks-bits.result ≡ 9) = (search rules, search rules, search rules, search rules) in
    sym sizes.3

pub returns : goal.returns
unfolding accept_fixed
returns c =
    let sizes : (length c.args.fields.app_nonce ≡ 3) × (length c.args.fields.net_id ≡ 3)
    × (length c.args.fields.dev_addr ≡ 4) × (length c.masks-bits.result ≡ 9) = (search rules, search rules, search rules, search rules) in
    let j = c.args.fields in
    let size = sizes in
    let room = c.requires in
    let one = fitted c.put-a.ensures (omega (arith, size, room)) in
    let two = fitted c.put-b.ensures (omega (arith, size, room, one.next, put_length one)) in
    let three = fitted c.put-c.ensures (omega (arith, size, room, one.next, put_length one, two.next, put_length two)) in
    let four = fitted c.put-d.ensures (omega (arith, size, room, one.next, put_length one, two.next, put_length two, three.next, put_length three)) in
    let five = fitted c.put.ensures (omega (arith, size, room, one.next, put_length one, two.next, put_length two, three.next, put_length three, four.next, put_length four)) in
    let all = then (then (then (then one two) three) four) five in
    record {
      stored =
          renamed all
          (ap₂ (λ (k : ℕ) (m : List ℕ). j.app_nonce ++ j.net_id ++ j.dev_addr ++ (j.dl_settings ∷ j.rx_delay ∷ k ∷ []) ++ m)
          c.list_number-list.ensures c.masks-bits.ensures);
      past = omega (arith, size, five.next, four.next, three.next, two.next, one.next);
    }
