-- The worked examples of FIPS 197, as statements about the definitions themselves: each side is computed. A schedule is
-- computed once; the blocks under its key go on from it, with the inverses in the field listed (ByList).
-- Assumes nothing.
use mathlib.Core.Path.{◌≡◌, refl, sym, ap, ◌∙◌}
use mathlib.Core.List.{List}
use Prim.Native.Nat.{ℕ}
use native.Mathlib.Omega.{arith}
use Rattle.base.specs.Bytes.{at, AreBytes}
use Rattle.base.proofs.Each.{each}
use Rattle.aes.specs.Field.{xtime, mul_bits, mul, squares, inverse, from_bits, affine, sub}
use Rattle.aes.specs.KeyExpansion.{power_of_x, next_word_of, words, key_expansion_of}
use Rattle.aes.specs.Fips197.{shift_rows_of, row, mix_columns_of, add_round_key_of, cipher, inv_cipher}
use Rattle.aes.proofs.ExpansionLaws.{schedule_byte}
use Rattle.aes.proofs.CipherLaws.{inv_cipher-cipher}
use Rattle.theorems.specs.PrintedFips197.{key_B, schedule-A1, input_B, output_B, key_C1, schedule-C1, plain_C1, output_C1}
use Rattle.theorems.proofs.examples.ByList.{sub_listed, rounds_listed, cipher_listed, by_list}

-- ---- 4.2

pub product : mul 0x57 0x13 ≡ 0xfe
unfolding xtime mul_bits mul
product = refl

-- ---- 5.1.1

pub substituted : sub 0x53 ≡ 0xed
unfolding xtime mul_bits mul squares inverse from_bits affine sub
substituted = refl

-- ---- Appendix A.1 and Appendix B, under one key

pub expansion_A1 : key_expansion_of key_B ≡ schedule-A1
unfolding xtime mul_bits mul squares inverse from_bits affine sub power_of_x next_word_of words key_expansion_of
expansion_A1 = refl

pub bytes_A1 : AreBytes schedule-A1
bytes_A1 i = omega (arith, ap (λ (w : List ℕ). at w i) expansion_A1, schedule_byte key_B (each key_B (omega arith)) i)

enciphered_B : cipher schedule-A1 input_B ≡ output_B
unfolding xtime mul_bits mul from_bits affine row sub_listed shift_rows_of mix_columns_of add_round_key_of rounds_listed cipher_listed
enciphered_B = by_list schedule-A1 input_B bytes_A1 (omega arith) refl

pub cipher_B : cipher (key_expansion_of key_B) input_B ≡ output_B
cipher_B = ap (λ (w : List ℕ). cipher w input_B) expansion_A1 ∙ enciphered_B

-- ---- Appendix C.1

pub expansion_C1 : key_expansion_of key_C1 ≡ schedule-C1
unfolding xtime mul_bits mul squares inverse from_bits affine sub power_of_x next_word_of words key_expansion_of
expansion_C1 = refl

bytes_C1 : AreBytes schedule-C1
bytes_C1 i = omega (arith, ap (λ (w : List ℕ). at w i) expansion_C1, schedule_byte key_C1 (each key_C1 (omega arith)) i)

enciphered-C1 : cipher schedule-C1 plain_C1 ≡ output_C1
unfolding xtime mul_bits mul from_bits affine row sub_listed shift_rows_of mix_columns_of add_round_key_of rounds_listed cipher_listed
enciphered-C1 = by_list schedule-C1 plain_C1 bytes_C1 (omega arith) refl

pub cipher-C1 : cipher (key_expansion_of key_C1) plain_C1 ≡ output_C1
cipher-C1 = ap (λ (w : List ℕ). cipher w plain_C1) expansion_C1 ∙ enciphered-C1

-- the law that one undoes the other, at what was computed
deciphered_C1 : inv_cipher schedule-C1 output_C1 ≡ plain_C1
deciphered_C1 =
    ap (inv_cipher schedule-C1) (sym enciphered-C1)
    ∙ inv_cipher-cipher schedule-C1 plain_C1 bytes_C1 refl (each plain_C1 (omega arith))

pub inv_cipher-C1 : inv_cipher (key_expansion_of key_C1) output_C1 ≡ plain_C1
inv_cipher-C1 = ap (λ (w : List ℕ). inv_cipher w output_C1) expansion_C1 ∙ deciphered_C1
