-- Each step gives 16 bytes, and each is undone by its inverse on a block of 16 bytes: substitution and the round key
-- byte by byte, the shift because it only moves bytes, the columns by the laws on a column.
-- Assumes nothing.
use mathlib.Core.Path.{◌≡◌, refl, sym, ap, ◌∙◌}
use mathlib.Core.List.{List}
use Prim.Native.Nat.{ℕ, ◌+◌, ◌*◌, ◌<◌}
use native.Mathlib.Omega.{arith}
use lib.ListN.{length}
use Rattle.base.specs.Bytes.{tab, at, ◌⊕◌, AreBytes}
use Rattle.base.proofs.Tab.{at-tab, tab_ext, tab-at}
use Rattle.base.proofs.AllBytes.{tab_bytes}
use Rattle.base.proofs.Xor.{xor_byte, xor_twice}
use Rattle.aes.specs.Field.{sub, inv_sub}
use Rattle.aes.specs.Fips197.{sub_bytes_of, shifted_from, shift_rows_of, row, below, mixed_at, mix_row, mix_columns_of, add_round_key_of}
use Rattle.aes.specs.Fips197.{inv_sub_bytes_of, shifted_back_from, inv_shift_rows_of, inv_mix_row, inv_mix_columns_of}
use Rattle.aes.proofs.FieldLaws.{mul_byte, sub_byte, inv_sub_byte}
use Rattle.aes.proofs.Inverses.{inv_sub-sub, sub-inv_sub}
use Rattle.aes.proofs.Linear.{mix_unmix, unmix_mix}

-- 16 bytes
pub record Block (s : List ℕ) : Type 0 where
  pub long : length s ≡ 16
  pub byte : AreBytes s

-- 16 bytes by their rule
block_of : (f : ℕ → ℕ) → ((i : ℕ) → f i < 256) → Block (tab 16 f)
block_of f h = record { long = refl; byte = tab_bytes 16 f (λ i k. h i) }

-- a rule that gives each byte of a block gives the block
back : {s : List ℕ} (f : ℕ → ℕ) → Block s → ((i : ℕ) → i < 16 → f i ≡ at s i) → tab 16 f ≡ s
back {s} f h e = tab_ext 16 f (at s) e ∙ sym (tab-at s 16 h.long)

-- ---- 5.1.1 and 5.3.2

pub sub_bytes_of_block : (s : List ℕ) → Block (sub_bytes_of s)
unfolding sub_bytes_of
sub_bytes_of_block s = block_of (λ i. sub (at s i)) (λ i. sub_byte (at s i))

pub inv_sub_bytes_of_block : (s : List ℕ) → Block (inv_sub_bytes_of s)
unfolding inv_sub_bytes_of
inv_sub_bytes_of_block s = block_of (λ i. inv_sub (at s i)) (λ i. inv_sub_byte (at s i))

pub inv_sub_bytes_of-sub_bytes_of : (s : List ℕ) → Block s → inv_sub_bytes_of (sub_bytes_of s) ≡ s
unfolding sub_bytes_of inv_sub_bytes_of
inv_sub_bytes_of-sub_bytes_of s h =
    back (λ i. inv_sub (at (sub_bytes_of s) i)) h
    (λ i k. ap inv_sub (at-tab 16 (λ j. sub (at s j)) i k) ∙ inv_sub-sub (at s i) (h.byte i))

pub sub_bytes_of-inv_sub_bytes_of : (s : List ℕ) → Block s → sub_bytes_of (inv_sub_bytes_of s) ≡ s
unfolding sub_bytes_of inv_sub_bytes_of
sub_bytes_of-inv_sub_bytes_of s h =
    back (λ i. sub (at (inv_sub_bytes_of s) i)) h
    (λ i k. ap sub (at-tab 16 (λ j. inv_sub (at s j)) i k) ∙ sub-inv_sub (at s i) (h.byte i))

-- ---- 5.1.2 and 5.3.1

pub shift_rows_of_block : (s : List ℕ) → AreBytes s → Block (shift_rows_of s)
unfolding shift_rows_of
shift_rows_of_block s h = block_of (λ i. at s (shifted_from i)) (λ i. h (shifted_from i))

pub inv_shift_rows_of_block : (s : List ℕ) → AreBytes s → Block (inv_shift_rows_of s)
unfolding inv_shift_rows_of
inv_shift_rows_of_block s h = block_of (λ i. at s (shifted_back_from i)) (λ i. h (shifted_back_from i))

pub inv_shift_rows_of-shift_rows_of : (s : List ℕ) → Block s → inv_shift_rows_of (shift_rows_of s) ≡ s
unfolding shift_rows_of inv_shift_rows_of
inv_shift_rows_of-shift_rows_of s h = sym (tab-at s 16 h.long)

pub shift_rows_of-inv_shift_rows_of : (s : List ℕ) → Block s → shift_rows_of (inv_shift_rows_of s) ≡ s
unfolding shift_rows_of inv_shift_rows_of
shift_rows_of-inv_shift_rows_of s h = sym (tab-at s 16 h.long)

-- ---- 5.1.3 and 5.3.3

row_byte : (k l m n a b c d : ℕ) → k < 256 → l < 256 → m < 256 → n < 256 → row k l m n a b c d < 256
unfolding row
row_byte k l m n a b c d hk hl hm hn =
    xor_byte _ _
    (xor_byte _ _ (xor_byte _ _ (mul_byte k a hk) (mul_byte n b hn)) (mul_byte m c hm))
    (mul_byte l d hl)

mixed_block : (k l m n : ℕ) (s : List ℕ) → k < 256 → l < 256 → m < 256 → n < 256 → Block (tab 16 (mixed_at (row k l m n) s))
mixed_block k l m n s hk hl hm hn =
    block_of (mixed_at (row k l m n) s)
    (λ i. row_byte k l m n (at s i) (at s (below i 1)) (at s (below i 2)) (at s (below i 3)) hk hl hm hn)

pub mix_columns_of_block : (s : List ℕ) → Block (mix_columns_of s)
unfolding mix_columns_of
mix_columns_of_block s = mixed_block 0x02 0x01 0x01 0x03 s (omega arith) (omega arith) (omega arith) (omega arith)

pub inv_mix_columns_of_block : (s : List ℕ) → Block (inv_mix_columns_of s)
unfolding inv_mix_columns_of
inv_mix_columns_of_block s = mixed_block 0x0e 0x09 0x0d 0x0b s (omega arith) (omega arith) (omega arith) (omega arith)

-- two matrices that undo each other on a column do so on a block
module _ (f g : ℕ → ℕ → ℕ → ℕ → ℕ)
    (undoes : (a b c d : ℕ) → a < 256 → b < 256 → c < 256 → d < 256 → f (g a b c d) (g b c d a) (g c d a b) (g d a b c) ≡ a)
    (s : List ℕ) (h : Block s) where
  columns_undone : tab 16
      (λ i.
      f (g (at s i) (at s (below i 1)) (at s (below i 2)) (at s (below i 3)))
      (g (at s (below i 1)) (at s (below i 2)) (at s (below i 3)) (at s i))
      (g (at s (below i 2)) (at s (below i 3)) (at s i) (at s (below i 1)))
      (g (at s (below i 3)) (at s i) (at s (below i 1)) (at s (below i 2)))) ≡ s
  columns_undone =
      back _ h
      (λ i k.
      undoes (at s i) (at s (below i 1)) (at s (below i 2)) (at s (below i 3)) (h.byte i) (h.byte (below i 1))
      (h.byte (below i 2))
      (h.byte (below i 3)))

pub inv_mix_columns_of-mix_columns_of : (s : List ℕ) → Block s → inv_mix_columns_of (mix_columns_of s) ≡ s
unfolding mix_columns_of inv_mix_columns_of
inv_mix_columns_of-mix_columns_of s h = columns_undone inv_mix_row mix_row unmix_mix s h

pub mix_columns_of-inv_mix_columns_of : (s : List ℕ) → Block s → mix_columns_of (inv_mix_columns_of s) ≡ s
unfolding mix_columns_of inv_mix_columns_of
mix_columns_of-inv_mix_columns_of s h = columns_undone mix_row inv_mix_row mix_unmix s h

-- ---- 5.1.4 and 5.3.4

pub add_round_key_of_block : (w : List ℕ) (r : ℕ) (s : List ℕ) → AreBytes w → AreBytes s → Block (add_round_key_of w r s)
unfolding add_round_key_of
add_round_key_of_block w r s hw hs =
    block_of (λ i. at s i ⊕ at w (16 * r + i)) (λ i. xor_byte (at s i) (at w (16 * r + i)) (hs i) (hw (16 * r + i)))

pub add_round_key_of_twice : (w : List ℕ) (r : ℕ) (s : List ℕ) → Block s → add_round_key_of w r (add_round_key_of w r s) ≡ s
unfolding add_round_key_of
add_round_key_of_twice w r s h =
    back (λ i. at (add_round_key_of w r s) i ⊕ at w (16 * r + i)) h
    (λ i k.
    ap (λ (n : ℕ). n ⊕ at w (16 * r + i)) (at-tab 16 (λ j. at s j ⊕ at w (16 * r + j)) i k)
    ∙ xor_twice (at s i) (at w (16 * r + i)))
