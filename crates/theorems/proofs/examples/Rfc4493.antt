-- RFC 4493, section 4: the subkeys and two of the tags, computed from the definitions alone. The key of every example is
-- that of FIPS 197, A.1.
-- Assumes nothing.
use mathlib.Core.Path.{◌≡◌, refl, ap, ◌∙◌}
use mathlib.Core.List.{List, []}
use Prim.Native.Nat.{ℕ}
use native.Mathlib.Omega.{arith}
use Rattle.base.specs.Bytes.{xor_lists}
use Rattle.aes.specs.Field.{xtime, mul_bits, mul, from_bits, affine}
use Rattle.aes.specs.KeyExpansion.{key_expansion_of}
use Rattle.aes.specs.Fips197.{row, shift_rows_of, mix_columns_of, add_round_key_of, cipher}
use Rattle.cmac.specs.Doubling.{const_zero, shifted, doubled}
use Rattle.cmac.specs.Rfc4493.{subkey1, subkey2, chain, ahead, padded, m_last, closed, tag, mac}
use Rattle.theorems.specs.PrintedFips197.{key_B, schedule-A1}
use Rattle.theorems.specs.PrintedRfc4493.{l, k1, k2, tag_1, message_2, tag_2}
use Rattle.theorems.proofs.examples.ByList.{sub_listed, rounds_listed, cipher_listed, by_list}
use Rattle.theorems.proofs.examples.Fips197.{expansion_A1, bytes_A1}

-- ---- subkey generation

enciphered_zero : cipher schedule-A1 const_zero ≡ l
unfolding xtime mul_bits mul from_bits affine row sub_listed shift_rows_of mix_columns_of add_round_key_of rounds_listed cipher_listed
enciphered_zero = by_list schedule-A1 const_zero bytes_A1 (omega arith) refl

first : subkey1 schedule-A1 ≡ k1
unfolding xor_lists shifted doubled subkey1
first = ap doubled enciphered_zero

pub second : subkey2 schedule-A1 ≡ k2
unfolding xor_lists shifted doubled subkey2
second = ap doubled first

pub first_subkey : subkey1 (key_expansion_of key_B) ≡ k1
first_subkey = ap subkey1 expansion_A1 ∙ first

pub second_subkey : subkey2 (key_expansion_of key_B) ≡ k2
second_subkey = ap subkey2 expansion_A1 ∙ second

-- ---- example 1: the empty message, one short block

closed_1 : cipher schedule-A1 (xor_lists const_zero (xor_lists (padded []) k2)) ≡ tag_1
unfolding xtime mul_bits mul from_bits affine row sub_listed shift_rows_of mix_columns_of add_round_key_of rounds_listed cipher_listed xor_lists padded
closed_1 = by_list schedule-A1 (xor_lists const_zero (xor_lists (padded []) k2)) bytes_A1 (omega arith) refl

pub example_1 : mac key_B [] ≡ tag_1
unfolding chain ahead m_last closed tag mac
example_1 =
    ap (λ (w : List ℕ). tag w []) expansion_A1
    ∙ ap (λ (k : List ℕ). cipher schedule-A1 (xor_lists const_zero (xor_lists (padded []) k))) second
    ∙ closed_1

-- ---- example 2: sixteen bytes, one full block

closed_2 : cipher schedule-A1 (xor_lists const_zero (xor_lists message_2 k1)) ≡ tag_2
unfolding xtime mul_bits mul from_bits affine row sub_listed shift_rows_of mix_columns_of add_round_key_of rounds_listed cipher_listed xor_lists
closed_2 = by_list schedule-A1 (xor_lists const_zero (xor_lists message_2 k1)) bytes_A1 (omega arith) refl

pub example_2 : mac key_B message_2 ≡ tag_2
unfolding chain ahead m_last closed tag mac
example_2 =
    ap (λ (w : List ℕ). tag w message_2) expansion_A1
    ∙ ap (λ (k : List ℕ). cipher schedule-A1 (xor_lists const_zero (xor_lists message_2 k))) first
    ∙ closed_2
