-- Digits: one test of the table of digits, and one byte more in hex.
-- Assumes nothing.
use mathlib.Core.Path.{◌≡◌, refl, sym, ap, ◌∙◌}
use mathlib.Core.List.{List, [], ◌∷◌, ◌++◌}
use Prim.Native.Nat.{ℕ, ◌+◌, ◌/◌, ◌%◌, ◌<◌}
use native.Mathlib.Numerals.{add-one}
use lib.ListN.{length, take}
use lib.Seq.{take-suc}
use Rattle.base.specs.Bytes.{at}
use Rattle.base.proofs.Tested.{agree}
use Rattle.show_text.specs.Text.{digit_of, hex_of}

-- the table of the code
abbrev pub digits : List ℕ
digits =
    48 ∷ 49 ∷ 50 ∷ 51 ∷ 52 ∷ 53 ∷ 54 ∷ 55 ∷ 56 ∷ 57 ∷ 97 ∷ 98 ∷ 99 ∷ 100 ∷ 101 ∷ 102 ∷ []

-- it holds the digit of each number below 16: computed at each of them
pub digits_right : (n : ℕ) → n < 16 → at digits n ≡ digit_of n
unfolding digit_of
digits_right = agree 16 (at digits) digit_of tt

pub hex_of-append : (s t : List ℕ) → hex_of (s ++ t) ≡ hex_of s ++ hex_of t
unfolding hex_of
hex_of-append [] t = refl
hex_of-append (b ∷ s) t = ap (λ (l : List ℕ). digit_of (b / 16) ∷ digit_of (b % 16) ∷ l) (hex_of-append s t)

-- one byte more
pub hex_of_more : (s : List ℕ) (i : ℕ) → i < length s → hex_of (take i s) ++ hex_of (at s i ∷ []) ≡ hex_of (take (i + 1) s)
hex_of_more s i h =
    sym (hex_of-append (take i s) (at s i ∷ []))
    ∙ ap hex_of (sym (take-suc s i 0 h))
    ∙ ap (λ (n : ℕ). hex_of (take n s)) (sym (add-one i))
