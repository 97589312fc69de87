-- What a caller may know of the two ciphers: their lengths, that they give bytes, and that each undoes the other under
-- any schedule, by induction over the rounds.
-- Assumes nothing.
use mathlib.Core.Path.{◌≡◌, refl, ap, ◌∙◌}
use mathlib.Core.List.{List}
use Prim.Native.Nat.{ℕ, zero, suc}
use lib.ListN.{length}
use Rattle.base.specs.Bytes.{AreBytes}
use Rattle.aes.specs.Fips197.{sub_bytes_of, shift_rows_of, mix_columns_of, add_round_key_of, round, rounds, cipher}
use Rattle.aes.specs.Fips197.{inv_sub_bytes_of, inv_shift_rows_of, inv_mix_columns_of, inv_round, inv_rounds, inv_cipher}
use Rattle.aes.proofs.Undone.{Block}
use Rattle.aes.proofs.Undone as steps

-- ---- lengths of the ciphers

pub cipher_long : (w s : List ℕ) → length (cipher w s) ≡ 16
unfolding cipher add_round_key_of
cipher_long w s = refl

pub inv_cipher_long : (w s : List ℕ) → length (inv_cipher w s) ≡ 16
unfolding inv_cipher add_round_key_of
inv_cipher_long w s = refl

-- ---- bytes of the ciphers

round_block : (w : List ℕ) (r : ℕ) (s : List ℕ) → AreBytes w → Block (round w r s)
unfolding round
round_block w r s hw = steps.add_round_key_of_block w r _ hw (steps.mix_columns_of_block _).byte

inv_round_block : (w : List ℕ) (r : ℕ) (s : List ℕ) → Block (inv_round w r s)
unfolding inv_round
inv_round_block w r s = steps.inv_mix_columns_of_block _

-- substitution and shift, which each round of the cipher begins with
abbrev shifted : List ℕ → List ℕ
shifted s = shift_rows_of (sub_bytes_of s)

shifted_block : (s : List ℕ) → Block (shifted s)
shifted_block s = steps.shift_rows_of_block (sub_bytes_of s) (steps.sub_bytes_of_block s).byte

-- and both undone, which each round of the inverse begins with
abbrev unshifted : List ℕ → List ℕ
unshifted s = inv_sub_bytes_of (inv_shift_rows_of s)

pub cipher_byte : (w s : List ℕ) → AreBytes w → AreBytes s → AreBytes (cipher w s)
unfolding cipher
cipher_byte w s hw hs = (steps.add_round_key_of_block w 10 _ hw (shifted_block _).byte).byte

-- ---- each undoes the other

unshifted_shifted : (s : List ℕ) → Block s → unshifted (shifted s) ≡ s
unshifted_shifted s h =
    ap inv_sub_bytes_of (steps.inv_shift_rows_of-shift_rows_of (sub_bytes_of s) (steps.sub_bytes_of_block s))
    ∙ steps.inv_sub_bytes_of-sub_bytes_of s h

shifted_unshifted : (s : List ℕ) → Block s → shifted (unshifted s) ≡ s
shifted_unshifted s h =
    ap shift_rows_of (steps.sub_bytes_of-inv_sub_bytes_of (inv_shift_rows_of s) (steps.inv_shift_rows_of_block s h.byte))
    ∙ steps.shift_rows_of-inv_shift_rows_of s h

-- a round of the inverse takes the state inside a round to the state inside the one before
inv_round-round : (w : List ℕ) (r : ℕ) (s : List ℕ) → AreBytes w → inv_round w r (shifted (round w r s)) ≡ shifted s
unfolding round inv_round
inv_round-round w r s hw =
    ap (λ (t : List ℕ). inv_mix_columns_of (add_round_key_of w r t)) (unshifted_shifted (round w r s) (round_block w r s hw))
    ∙ ap inv_mix_columns_of (steps.add_round_key_of_twice w r (mix_columns_of (shifted s)) (steps.mix_columns_of_block (shifted s)))
    ∙ steps.inv_mix_columns_of-mix_columns_of (shifted s) (shifted_block s)

inv_rounds-rounds : (w : List ℕ) (n : ℕ) (s : List ℕ) → AreBytes w → inv_rounds w n (shifted (rounds w n s)) ≡ shifted s
unfolding rounds inv_rounds
inv_rounds-rounds w zero s hw = refl
inv_rounds-rounds w (suc n) s hw =
    ap (inv_rounds w n) (inv_round-round w (suc n) (rounds w n s) hw) ∙ inv_rounds-rounds w n s hw

pub inv_cipher-cipher : (w s : List ℕ) → AreBytes w → length s ≡ 16 → AreBytes s → inv_cipher w (cipher w s) ≡ s
unfolding cipher inv_cipher
inv_cipher-cipher w s hw hl hs =
    let first : List ℕ = add_round_key_of w 0 s in
    ap (λ (t : List ℕ). add_round_key_of w 0 (unshifted (inv_rounds w 9 t)))
    (steps.add_round_key_of_twice w 10 (shifted (rounds w 9 first)) (shifted_block (rounds w 9 first)))
    ∙ ap (λ (t : List ℕ). add_round_key_of w 0 (unshifted t)) (inv_rounds-rounds w 9 first hw)
    ∙ ap (add_round_key_of w 0) (unshifted_shifted first (steps.add_round_key_of_block w 0 s hw hs))
    ∙ steps.add_round_key_of_twice w 0 s (record { long = hl; byte = hs })

-- a round takes the state inside a round of the inverse back
round-inv_round : (w : List ℕ) (r : ℕ) (s : List ℕ) → AreBytes w → Block s
    → shifted (add_round_key_of w r (mix_columns_of (inv_round w r s))) ≡ s
unfolding inv_round
round-inv_round w r s hw h =
    let inner : List ℕ = unshifted s in
    let keyed : Block (add_round_key_of w r inner) = steps.add_round_key_of_block w r inner hw (steps.inv_sub_bytes_of_block _).byte in
    ap (λ (t : List ℕ). shifted (add_round_key_of w r t)) (steps.mix_columns_of-inv_mix_columns_of (add_round_key_of w r inner) keyed)
    ∙ ap shifted (steps.add_round_key_of_twice w r inner (steps.inv_sub_bytes_of_block _))
    ∙ shifted_unshifted s h

rounds-inv_rounds : (w : List ℕ) (n : ℕ) (s : List ℕ) → AreBytes w → Block s
    → shifted (rounds w n (unshifted (inv_rounds w n s))) ≡ s
unfolding round rounds inv_rounds
rounds-inv_rounds w zero s hw h = shifted_unshifted s h
rounds-inv_rounds w (suc n) s hw h =
    ap (λ (t : List ℕ). shifted (add_round_key_of w (suc n) (mix_columns_of t)))
    (rounds-inv_rounds w n (inv_round w (suc n) s) hw (inv_round_block w (suc n) s))
    ∙ round-inv_round w (suc n) s hw h

pub cipher-inv_cipher : (w s : List ℕ) → AreBytes w → length s ≡ 16 → AreBytes s → cipher w (inv_cipher w s) ≡ s
unfolding cipher inv_cipher
cipher-inv_cipher w s hw hl hs =
    let last : List ℕ = add_round_key_of w 10 s in
    let inside : List ℕ = unshifted (inv_rounds w 9 last) in
    ap (λ (t : List ℕ). add_round_key_of w 10 (shifted (rounds w 9 t)))
    (steps.add_round_key_of_twice w 0 inside (steps.inv_sub_bytes_of_block _))
    ∙ ap (add_round_key_of w 10) (rounds-inv_rounds w 9 last hw (steps.add_round_key_of_block w 10 s hw hs))
    ∙ steps.add_round_key_of_twice w 10 s (record { long = hl; byte = hs })
