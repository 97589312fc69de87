-- Setting a bit of FCtrl sets that bit and no other, and the message type of a data frame says what its direction bit
-- does. Each is tested at every byte, or at every type.
-- Assumes nothing.
use mathlib.Core.Path.{◌≡◌, refl}
use Prim.Native.Nat.{ℕ, zero, suc, ◌+◌, ◌/◌, ◌%◌, ◌<◌, ◌≤◌}
use native.Mathlib.Omega.{arith}
use lib.Dec.{eqb}
use lib.Bits.{bit_or}
use Rattle.base.specs.Bytes.{pick}
use Rattle.base.proofs.Tested.{agree}
use Rattle.frame_bits.specs.Fctrl.{uplink_of}

-- a byte with the bit of value b set: the byte itself where it had it, b more where not
abbrev with_bit : ℕ → ℕ → ℕ
with_bit b v = pick (eqb (v / b % 2) 1) v (v + b)

pub set_adr : (v : ℕ) → v < 256 → bit_or v 128 ≡ with_bit 128 v
set_adr = agree 256 (λ v. bit_or v 128) (with_bit 128) tt

pub set_adr_ack_req : (v : ℕ) → v < 256 → bit_or v 64 ≡ with_bit 64 v
set_adr_ack_req = agree 256 (λ v. bit_or v 64) (with_bit 64) tt

pub set_ack : (v : ℕ) → v < 256 → bit_or v 32 ≡ with_bit 32 v
set_ack = agree 256 (λ v. bit_or v 32) (with_bit 32) tt

pub set_f_pending : (v : ℕ) → v < 256 → bit_or v 16 ≡ with_bit 16 v
set_f_pending = agree 256 (λ v. bit_or v 16) (with_bit 16) tt

-- of the data types, those that go up have direction bit 0
pub uplink_direction : (m : ℕ) → 2 ≤ m → m < 6 → uplink_of m ≡ eqb (m % 2) 0
uplink_direction zero h k = absurd (omega arith)
uplink_direction (suc zero) h k = absurd (omega arith)
uplink_direction (suc (suc zero)) h k = refl
uplink_direction (suc (suc (suc zero))) h k = refl
uplink_direction (suc (suc (suc (suc zero)))) h k = refl
uplink_direction (suc (suc (suc (suc (suc zero))))) h k = refl
uplink_direction (suc (suc (suc (suc (suc (suc m)))))) h k = absurd (omega arith)
