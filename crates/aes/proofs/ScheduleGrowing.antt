-- A loop that writes the schedule a word a turn: the bytes written so far are the words so far, and the next word is
-- made of two of them, by the code's two cases.
-- Assumes nothing.
use mathlib.Core.Path.{◌≡◌, sym, ap, ap₂, ◌∙◌}
use mathlib.Core.Bool.{Bool, true, false}
use mathlib.Core.List.{List, [], ◌∷◌, ◌++◌}
use Prim.Native.Nat.{ℕ, suc, ◌+◌, ◌-◌, ◌*◌, ◌/◌, ◌%◌, ◌<◌, ◌≤◌}
use native.Mathlib.Numerals.{add-one}
use native.Mathlib.Omega.{arith}
use borrow.Author.Tests.{eq-eqb, ne_eqb}
use lib.Bits.{xor_zero_r}
use lib.Dec.{eqb}
use lib.ListN.{length, take, drop, set, length-append}
use lib.Seq.{sets, sets-eq, length-sets, take_at, get_or-take, length-take-le, take_all}
use Rattle.base.specs.Bytes.{pick, at, ◌⊕◌}
use Rattle.base.proofs.Tab.{tab-at, tab_ext}
use Rattle.base.proofs.Tested.{agree}
use Rattle.aes.specs.Field.{xtime, sub}
use Rattle.aes.specs.KeyExpansion.{word, xor_word, rot_word, sub_word, power_of_x, rcon, temp, next_word_of, words, key_expansion_of}

-- ---- the next word

-- the round constants written out
abbrev rcons : List ℕ
rcons = 0x01 ∷ 0x02 ∷ 0x04 ∷ 0x08 ∷ 0x10 ∷ 0x20 ∷ 0x40 ∷ 0x80 ∷ 0x1b ∷ 0x36 ∷ []

rcons_right : (k : ℕ) → k < 10 → at rcons k ≡ power_of_x k
unfolding xtime power_of_x
rcons_right = agree 10 (at rcons) power_of_x tt

same_four : (a b c d p q r s : ℕ) → a ≡ p → b ≡ q → c ≡ r → d ≡ s → ◌≡◌ {A = List ℕ} (a ∷ b ∷ c ∷ d ∷ []) (p ∷ q ∷ r ∷ s ∷ [])
same_four a b c d p q r s ha hb hc hd = cc

-- every fourth word
pub temp_turned : (q : List ℕ) (n : ℕ) {a b c d : ℕ} → n < 40 → n % 4 ≡ 0
    → a ≡ sub (at q 1) → b ≡ sub (at q 2) → c ≡ sub (at q 3) → d ≡ sub (at q 0)
    → (a ⊕ at rcons (n / 4)) ∷ b ∷ c ∷ d ∷ [] ≡ temp q (n + 4)
temp_turned q n k e ea eb ec ed =
    let i : ℕ = n + 4 in
    let turn : eqb (i % 4) 0 ≡ true = eq-eqb (i % 4) 0 (omega arith) in
    let which : n / 4 ≡ i / 4 - 1 = omega arith in
    same_four _ _ _ _ _ _ _ _
    (ap₂ (λ (x y : ℕ). x ⊕ y) ea (rcons_right (n / 4) (omega arith) ∙ ap power_of_x which))
    (eb ∙ sym (xor_zero_r (sub (at q 2))))
    (ec ∙ sym (xor_zero_r (sub (at q 3))))
    (ed ∙ sym (xor_zero_r (sub (at q 0))))
    ∙ ap (λ (t : Bool). pick t (xor_word (sub_word (rot_word q)) (rcon (i / 4))) q) (sym turn)

-- the others
pub temp_kept : (q : List ℕ) (n : ℕ) → (n % 4 ≡ 0 → ⊥) → q ≡ temp q (n + 4)
temp_kept q n h =
    let i : ℕ = n + 4 in
    let same : i % 4 ≡ n % 4 = omega arith in
    let stay : eqb (i % 4) 0 ≡ false = ne_eqb (i % 4) 0 (λ z. h (sym same ∙ z)) in
    ap (λ (t : Bool). pick t (xor_word (sub_word (rot_word q)) (rcon (i / 4))) q) (sym stay)

-- ---- the words so far

-- w has room for the schedule, and its first n + 4 words are right
pub record Growing (key w : List ℕ) (n : ℕ) : Type 0 where
  pub upto : n ≤ 40
  pub long : length w ≡ 176
  pub so_far : take (16 + 4 * n) w ≡ words n key

-- four stores, one after the other
stores : (w : List ℕ) (m x y z v : ℕ) → set (set (set (set w m x) (m + 1) y) (m + 2) z) (m + 3) v ≡ sets w m (x ∷ y ∷ z ∷ v ∷ [])
stores w m x y z v =
    let one : m + 1 ≡ suc m = omega arith in
    let two : m + 2 ≡ suc (suc m) = omega arith in
    let three : m + 3 ≡ suc (suc (suc m)) = omega arith in
    ap (λ (k : ℕ). set (set (set (set w m x) k y) (m + 2) z) (m + 3) v) one
    ∙ ap (λ (k : ℕ). set (set (set (set w m x) (suc m) y) k z) (m + 3) v) two
    ∙ ap (λ (k : ℕ). set (set (set (set w m x) (suc m) y) (suc (suc m)) z) k v) three

-- the first bytes with four more of them stored
take_stores : (w t : List ℕ) (m : ℕ) → m + length t ≤ length w → take (m + length t) (sets w m t) ≡ take m w ++ t
take_stores w t m h =
    let head : length (take m w) ≡ m = length-take-le m w (omega arith) in
    ap (take (m + length t)) (sets-eq t w m h)
    ∙ take_at (take m w ++ t) (drop (m + length t) w) (m + length t) (length-append (take m w) t ∙ (omega (arith, head)))

-- a word among the first m bytes
word-take : (w : List ℕ) (m i : ℕ) → 4 * i + 4 ≤ m → word (take m w) i ≡ word w i
word-take w m i h = tab_ext 4 (λ j. at (take m w) (4 * i + j)) (λ j. at w (4 * i + j)) (λ j k. get_or-take m w (4 * i + j) 0 (omega arith))

pub more : {key w : List ℕ} {n : ℕ} (t : List ℕ) → Growing key w n → n < 40 → t ≡ next_word_of (word w n) (word w (n + 3)) (n + 4)
    → Growing key
    (set
    (set (set (set w (16 + 4 * n) (at t 0)) (16 + 4 * n + 1) (at t 1)) (16 + 4 * n + 2) (at t 2))
    (16 + 4 * n + 3)
    (at t 3))
    (n + 1)
unfolding words next_word_of
more {key} {w} {n} t g k e =
    let l : length t ≡ 4 = ap length e in
    let m : ℕ = 16 + 4 * n in
    let stored : List ℕ = sets w m (at t 0 ∷ at t 1 ∷ at t 2 ∷ at t 3 ∷ []) in
    let same : set (set (set (set w m (at t 0)) (m + 1) (at t 1)) (m + 2) (at t 2)) (m + 3) (at t 3) ≡ stored =
    stores w m (at t 0) (at t 1) (at t 2) (at t 3) in
    let low : n + 4 - 4 ≡ n = omega arith in
    let high : n + 4 - 1 ≡ n + 3 = omega arith in
    let end : 16 + 4 * (n + 1) ≡ m + 4 = omega arith in
    let next : t ≡ next_word_of (word (words n key) (n + 4 - 4)) (word (words n key) (n + 4 - 1)) (n + 4) =
    e
    ∙ ap₂ (λ (p q : List ℕ). next_word_of p q (n + 4))
    (sym (word-take w m n (omega arith)) ∙ ap₂ word g.so_far (sym low))
    (sym (word-take w m (n + 3) (omega arith)) ∙ ap₂ word g.so_far (sym high)) in
    record {
      upto = omega arith;
      long = ap length same ∙ length-sets w m (at t 0 ∷ at t 1 ∷ at t 2 ∷ at t 3 ∷ []) ∙ g.long;
      so_far =
          ap₂ take end same
          ∙ take_stores w (at t 0 ∷ at t 1 ∷ at t 2 ∷ at t 3 ∷ []) m (omega (arith, g.long))
          ∙ ap₂ (λ (p q : List ℕ). p ++ q) g.so_far (sym (tab-at t 4 l) ∙ next)
          ∙ ap (λ (i : ℕ). words i key) (sym (add-one n));
    }

pub grown : {key w : List ℕ} {n : ℕ} → Growing key w n → 40 ≤ n → w ≡ key_expansion_of key
unfolding key_expansion_of
grown {key} {w} {n} g k =
    let all : n ≡ 40 = omega (arith, g.upto) in
    sym (take_all (16 + 4 * n) w (omega (arith, g.long))) ∙ g.so_far ∙ ap (λ (i : ℕ). words i key) all

-- ---- the first words

-- the key, with room behind it for the words to come
pub started : (key t r : List ℕ) → length key ≡ 16 → t ≡ key → length r ≡ 160 → Growing key (t ++ r) 0
unfolding words
started key t r l e m =
    let long : length t ≡ 16 = ap length e ∙ l in
    record {
      upto = omega arith;
      long = omega (arith, length-append t r);
      so_far = take_at t r 16 long ∙ e ∙ tab-at key 16 l;
    }
