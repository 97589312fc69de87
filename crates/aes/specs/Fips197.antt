-- AES-128 from FIPS 197, over lists of bytes. A state is its 16 bytes in the order of input and output, so that the
-- byte in row r and column c stands at r + 4 c (3.4); a schedule is the bytes of its 44 words. Key expansion (5.2) is in
-- KeyExpansion.antt.
-- Assumes nothing.
use Rattle.std.specs.Prelude.{List, ℕ, zero, suc, ◌+◌, ◌-◌, ◌*◌, ◌/◌, ◌%◌}
use Rattle.base.specs.Bytes.{tab, at, ◌⊕◌}
use Rattle.aes.specs.Field.{mul, sub, inv_sub}

-- ---- 5.1: the four steps of a round

unfoldable pub sub_bytes_of : List ℕ → List ℕ
sub_bytes_of s = tab 16 (λ i. sub (at s i))

-- 5.1.2: where the byte at i comes from: row r is moved by r columns
abbrev pub shifted_from : ℕ → ℕ
shifted_from i = i % 4 + 4 * ((i / 4 + i % 4) % 4)

unfoldable pub shift_rows_of : List ℕ → List ℕ
shift_rows_of s = tab 16 (λ i. at s (shifted_from i))

-- 4.3: a row of the product of a column with the matrix that a0, a1, a2, a3 fix; the rows differ in where the column
-- begins
unfoldable pub row : ℕ → ℕ → ℕ → ℕ → ℕ → ℕ → ℕ → ℕ → ℕ
row a0 a1 a2 a3 b0 b1 b2 b3 = mul a0 b0 ⊕ mul a3 b1 ⊕ mul a2 b2 ⊕ mul a1 b3

-- where the byte k rows below that at i stands in its column, the first row following the last
abbrev pub below : ℕ → ℕ → ℕ
below i k = i / 4 * 4 + (i + k) % 4

-- 4.3: the byte at i with every column multiplied by the matrix of which f gives the first row
abbrev pub mixed_at : (ℕ → ℕ → ℕ → ℕ → ℕ) → List ℕ → ℕ → ℕ
mixed_at f s i = f (at s i) (at s (below i 1)) (at s (below i 2)) (at s (below i 3))

-- 5.1.3
abbrev pub mix_row : ℕ → ℕ → ℕ → ℕ → ℕ
mix_row = row 0x02 0x01 0x01 0x03

unfoldable pub mix_columns_of : List ℕ → List ℕ
mix_columns_of s = tab 16 (mixed_at mix_row s)

-- 5.1.4: the words 4 r to 4 r + 3 of the schedule w are added
unfoldable pub add_round_key_of : List ℕ → ℕ → List ℕ → List ℕ
add_round_key_of w r s = tab 16 (λ i. at s i ⊕ at w (16 * r + i))

-- ---- 5.1: the cipher

unfoldable pub round : List ℕ → ℕ → List ℕ → List ℕ
round w r s = add_round_key_of w r (mix_columns_of (shift_rows_of (sub_bytes_of s)))

-- the rounds 1 to n
unfoldable pub rounds : List ℕ → ℕ → List ℕ → List ℕ
rounds w zero s = s
rounds w (suc n) s = round w (suc n) (rounds w n s)

-- Algorithm 1: the last round leaves MixColumns out
unfoldable pub cipher : List ℕ → List ℕ → List ℕ
cipher w s = add_round_key_of w 10 (shift_rows_of (sub_bytes_of (rounds w 9 (add_round_key_of w 0 s))))

-- ---- 5.3: the inverse cipher

-- 5.3.1: row r is moved by r columns the other way
abbrev pub shifted_back_from : ℕ → ℕ
shifted_back_from i = i % 4 + 4 * ((i / 4 + (4 - i % 4)) % 4)

unfoldable pub inv_shift_rows_of : List ℕ → List ℕ
inv_shift_rows_of s = tab 16 (λ i. at s (shifted_back_from i))

unfoldable pub inv_sub_bytes_of : List ℕ → List ℕ
inv_sub_bytes_of s = tab 16 (λ i. inv_sub (at s i))

-- 5.3.3
abbrev pub inv_mix_row : ℕ → ℕ → ℕ → ℕ → ℕ
inv_mix_row = row 0x0e 0x09 0x0d 0x0b

unfoldable pub inv_mix_columns_of : List ℕ → List ℕ
inv_mix_columns_of s = tab 16 (mixed_at inv_mix_row s)

-- 5.3.4: AddRoundKey is its own inverse
unfoldable pub inv_round : List ℕ → ℕ → List ℕ → List ℕ
inv_round w r s = inv_mix_columns_of (add_round_key_of w r (inv_sub_bytes_of (inv_shift_rows_of s)))

-- the rounds n down to 1
unfoldable pub inv_rounds : List ℕ → ℕ → List ℕ → List ℕ
inv_rounds w zero s = s
inv_rounds w (suc n) s = inv_rounds w n (inv_round w (suc n) s)

-- Algorithm 3
unfoldable pub inv_cipher : List ℕ → List ℕ → List ℕ
inv_cipher w s = add_round_key_of w 0 (inv_sub_bytes_of (inv_shift_rows_of (inv_rounds w 9 (add_round_key_of w 10 s))))
