-- `put_frequencies` meets its contract. The loop's invariant: the frequencies passed stand from the place on, four bytes each.
-- Assumes nothing.
use native.Mathlib.Omega.{arith}
use borrow.Author.Rules.{rules}
use Rattle.base.proofs.Put.{none, put_length}
use Rattle.frame_c.specs.CStored.{four_each}
use Rattle.frame_c.proofs.FieldBytes.{four_more, four_all}
use Rattle.frame_c.proofs.conversions.reading.put_frequencies.Goals as goal

pub loop-i-init : goal.loop-i-init
unfolding four_each
loop-i-init c = (search rules, none _ _)

pub loop-i-preserved : goal.loop-i-preserved
loop-i-preserved c =
    (search rules, four_more c.loop-i.i _ c.loop-i.invariant.1 c.put-end.ensures c.to_le_bytes-bytes.ensures (omega (arith, c.requires)))

pub returns : goal.returns
returns c = four_all c.loop-i.i 5 _ c.loop-i.invariant.1 (omega arith)

pub shape_of-out : goal.shape_of-out
shape_of-out c = put_length c.loop-i.invariant.1
