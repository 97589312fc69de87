-- The field's product is linear in its second factor, for each bit of it counts by itself; and what product, inverse and
-- affine map give of bytes is a byte.
-- Assumes nothing.
use mathlib.Core.Path.{◌≡◌, refl, sym, ap, ap₂, ◌∙◌}
use mathlib.Core.Bool.{Bool, true, false}
use Prim.Native.Nat.{ℕ, zero, suc, ◌/◌, ◌%◌, ◌<◌}
use native.Mathlib.Nat.{mod-lt}
use native.Mathlib.Omega.{arith}
use lib.Dec.{eqb}
use lib.Bits.{xor_self, xor_zero_l, xor_zero_r, xor_mod, xor_shr}
use Rattle.base.specs.Bytes.{pick, ◌⊕◌}
use Rattle.base.proofs.Xor.{xor_byte, xor_middle}
use Rattle.base.proofs.Tested.{bounded}
use Rattle.aes.specs.Field.{xtime, mul_bits, mul, squares, inverse, from_bits, affine_bit, affine, inv_affine_bit, inv_affine, sub, inv_sub}

-- ---- the product is linear

-- a binary digit of a sum takes a as often as the two digits do
picks_add : (a x y : ℕ) → x < 2 → y < 2 → pick (eqb (x ⊕ y) 1) a 0 ≡ pick (eqb x 1) a 0 ⊕ pick (eqb y 1) a 0
picks_add a zero zero hx hy = refl
picks_add a zero (suc zero) hx hy = sym (xor_zero_l a)
picks_add a (suc zero) zero hx hy = sym (xor_zero_r a)
picks_add a (suc zero) (suc zero) hx hy = sym (xor_self a)
picks_add a zero (suc (suc y)) hx hy = omega arith
picks_add a (suc zero) (suc (suc y)) hx hy = omega arith
picks_add a (suc (suc x)) y hx hy = omega arith

odd : (n : ℕ) → n % 2 < 2
odd n = mod-lt n (omega arith)

mul_bits_add : (n a b c : ℕ) → mul_bits n a (b ⊕ c) ≡ mul_bits n a b ⊕ mul_bits n a c
unfolding mul_bits
mul_bits_add zero a b c = refl
mul_bits_add (suc n) a b c =
    ap₂ (λ (p q : ℕ). p ⊕ q)
    (ap (λ (d : ℕ). pick (eqb d 1) a 0) (xor_mod b c 1) ∙ picks_add a (b % 2) (c % 2) (odd b) (odd c))
    (ap (λ (h : ℕ). mul_bits n (xtime a) h) (xor_shr b c 1) ∙ mul_bits_add n (xtime a) (b / 2) (c / 2))
    ∙ xor_middle (pick (eqb (b % 2) 1) a 0) (pick (eqb (c % 2) 1) a 0) (mul_bits n (xtime a) (b / 2)) (mul_bits n (xtime a) (c / 2))

pub mul_add : (a b c : ℕ) → mul a (b ⊕ c) ≡ mul a b ⊕ mul a c
unfolding mul
mul_add a b c = mul_bits_add 8 a b c

-- ---- bytes

pub xtime_byte : (b : ℕ) → b < 256 → xtime b < 256
unfolding xtime
xtime_byte = bounded 256 256 xtime tt

picked_byte : (t : Bool) (a : ℕ) → a < 256 → pick t a 0 < 256
picked_byte true a h = h
picked_byte false a h = omega arith

mul_bits_byte : (n a b : ℕ) → a < 256 → mul_bits n a b < 256
unfolding mul_bits
mul_bits_byte zero a b h = omega arith
mul_bits_byte (suc n) a b h =
    xor_byte (pick (eqb (b % 2) 1) a 0) (mul_bits n (xtime a) (b / 2)) (picked_byte (eqb (b % 2) 1) a h)
    (mul_bits_byte n (xtime a) (b / 2) (xtime_byte a h))

pub mul_byte : (a b : ℕ) → a < 256 → mul a b < 256
unfolding mul
mul_byte a b h = mul_bits_byte 8 a b h

pub inverse_byte : (b : ℕ) → b < 256 → inverse b < 256
unfolding inverse squares
inverse_byte b h = mul_byte (mul b b) (squares 6 (mul b b)) (mul_byte b b h)

from_bits_byte : (f : ℕ → ℕ) → ((i : ℕ) → f i < 2) → from_bits 8 f 0 < 256
unfolding from_bits
from_bits_byte f h = omega (arith, h 0, h 1, h 2, h 3, h 4, h 5, h 6, h 7)

pub affine_byte : (b : ℕ) → affine b < 256
unfolding affine
affine_byte b = from_bits_byte (affine_bit b) (λ i. odd _)

pub inv_affine_byte : (b : ℕ) → inv_affine b < 256
unfolding inv_affine
inv_affine_byte b = from_bits_byte (inv_affine_bit b) (λ i. odd _)

pub sub_byte : (b : ℕ) → sub b < 256
unfolding sub
sub_byte b = affine_byte (inverse b)

pub inv_sub_byte : (b : ℕ) → inv_sub b < 256
unfolding inv_sub
inv_sub_byte b = inverse_byte (inv_affine b) (inv_affine_byte b)
