-- `aes::columns::doubled` meets its contract: shift and sum are compared with the product at each byte.
-- Assumes nothing.
use Prim.Native.Nat.{◌*◌, ◌/◌, ◌%◌}
use Rattle.base.specs.Bytes.{◌⊕◌}
use Rattle.base.proofs.Tested.{agree}
use Rattle.aes.specs.Field.{xtime, mul_bits, mul}
use Rattle.aes.proofs.columns.doubled.Goals as goal

pub returns : goal.returns
unfolding xtime mul_bits mul
returns c = agree 256 (λ b. b * 2 % 256 ⊕ b / 128 * 0x1b) (mul 2) tt c.args.b c.ranges.b.fits
