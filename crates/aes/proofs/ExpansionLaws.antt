-- What a caller may know of key expansion: that it gives bytes.
-- Assumes nothing.
use mathlib.Core.List.{List}
use Prim.Native.Nat.{ℕ, zero, suc, ◌+◌, ◌-◌, ◌*◌, ◌/◌, ◌%◌, ◌<◌}
use native.Mathlib.Omega.{arith}
use lib.Dec.{eqb}
use Rattle.base.specs.Bytes.{at, ◌⊕◌, AreBytes}
use Rattle.base.proofs.AllBytes.{pick_bytes, tab_bytes}
use Rattle.base.proofs.Parts.{bytes_append}
use Rattle.base.proofs.Xor.{xor_byte}
use Rattle.aes.specs.Field.{sub}
use Rattle.aes.proofs.FieldLaws.{xtime_byte, sub_byte}
use Rattle.aes.specs.KeyExpansion.{word, xor_word, rot_word, sub_word, power_of_x, rcon, temp, next_word_of, words, key_expansion_of}

power_of_x_byte : (n : ℕ) → power_of_x n < 256
unfolding power_of_x
power_of_x_byte zero = omega arith
power_of_x_byte (suc n) = xtime_byte (power_of_x n) (power_of_x_byte n)

xor_word_byte : (a b : List ℕ) → AreBytes a → AreBytes b → AreBytes (xor_word a b)
xor_word_byte a b ha hb = tab_bytes 4 (λ j. at a j ⊕ at b j) (λ j k. xor_byte (at a j) (at b j) (ha j) (hb j))

word_byte : (w : List ℕ) (i : ℕ) → AreBytes w → AreBytes (word w i)
word_byte w i h = tab_bytes 4 (λ j. at w (4 * i + j)) (λ j k. h (4 * i + j))

rcon_byte : (j : ℕ) → AreBytes (rcon j)
rcon_byte j zero = power_of_x_byte (j - 1)
rcon_byte j (suc i) = tab_bytes 3 (λ k. 0) (λ k l. omega arith) i

temp_byte : (q : List ℕ) (i : ℕ) → AreBytes q → AreBytes (temp q i)
temp_byte q i h =
    let turned : List ℕ = rot_word q in
    pick_bytes (eqb (i % 4) 0) (xor_word (sub_word turned) (rcon (i / 4))) q
    (xor_word_byte (sub_word turned) (rcon (i / 4)) (tab_bytes 4 (λ j. sub (at turned j)) (λ j k. sub_byte (at turned j)))
    (rcon_byte (i / 4)))
    h

words_byte : (n : ℕ) (key : List ℕ) → AreBytes key → AreBytes (words n key)
unfolding words next_word_of
words_byte zero key h = tab_bytes 16 (at key) (λ i k. h i)
words_byte (suc n) key h =
    let w : List ℕ = words n key in
    let hw : AreBytes w = words_byte n key h in
    let old : List ℕ = word w (n + 4 - 4) in
    let added : List ℕ = temp (word w (n + 4 - 1)) (n + 4) in
    bytes_append w (xor_word old added) hw
    (xor_word_byte old added (word_byte w (n + 4 - 4) hw) (temp_byte (word w (n + 4 - 1)) (n + 4) (word_byte w (n + 4 - 1) hw)))

pub schedule_byte : (key : List ℕ) → AreBytes key → AreBytes (key_expansion_of key)
unfolding key_expansion_of
schedule_byte key h = words_byte 40 key h
