-- One byte of an open frame changed: the chain values that are carried on from its block, and the MIC that is made of
-- them, are those of the changed frame's own message.
-- Assumes nothing.
use mathlib.Core.Path.{◌≡◌, sym, ap, ap₂, ◌∙◌}
use mathlib.Core.List.{List, ◌++◌}
use Prim.Native.Nat.{ℕ, ◌+◌, ◌*◌, ◌/◌, ◌%◌, ◌≤◌, ◌<◌}
use native.Mathlib.Omega.{arith}
use lib.ListN.{length, take, drop, set, length-set}
use lib.Seq.{sets, sets-eq, take-take, take-append-add, take-set-le, drop-set-lt, length-take-le}
use Rattle.aes.specs.KeyExpansion.{key_expansion_of}
use Rattle.cmac.proofs.CmacLaws.{chain_same}
use Rattle.frame_security.specs.Security.{helper_block_of, message, data_mic_of, mic_block_of}
use Rattle.frame_security.proofs.SecurityLaws.{helper_block_of_long, helper_block_of_same, data_mic_of_long}
use Rattle.amend.specs.Amending.{last_place, signed_from, carried, resigned}
use Rattle.amend.specs.OpenFrame.{chains_of}
use Rattle.amend.proofs.Chains.{table_right, table_rest, carried_table, chains_of_long, block_behind}
use Rattle.amend.proofs.OpeningLaws.{signed-mic}

module _ (f : List ℕ) (counter n p e : ℕ) (start : 5 ≤ p) (inside : p < n) (top : n ≤ 251) (long : n ≤ length f) where
  covered_long : length (take n f) ≡ n
  covered_long = length-take-le n f long

  changed_long : length (take n (set f p e)) ≡ n
  changed_long = length-take-le n (set f p e) (omega (arith, length-set f p e))

  -- B_0 stays
  first_same : helper_block_of 0x49 (take n f) counter (length (take n f) % 256)
      ≡ helper_block_of 0x49 (take n (set f p e)) counter (length (take n (set f p e)) % 256)
  first_same =
      let front : take 5 (take n f) ≡ take 5 (take n (set f p e)) =
      take-take 5 n f (omega arith)
      ∙ sym (take-set-le 5 f p e start)
      ∙ sym (take-take 5 n (set f p e) (omega arith)) in
      helper_block_of_same (take n f) (take n (set f p e)) front 0x49 counter (length (take n f) % 256)
      ∙ ap (λ (k : ℕ). helper_block_of 0x49 (take n (set f p e)) counter (k % 256)) (covered_long ∙ sym changed_long)

  -- so do the blocks ahead of the changed byte's, and with them the chain values
  blocks_same : take (16 * (p / 16 + 1)) (message (take n f) counter)
      ≡ take (16 * (p / 16 + 1)) (message (take n (set f p e)) counter)
  unfolding message mic_block_of
  blocks_same =
      let b = helper_block_of 0x49 (take n f) counter (length (take n f) % 256) in
      let b' = helper_block_of 0x49 (take n (set f p e)) counter (length (take n (set f p e)) % 256) in
      let place : length b + 16 * (p / 16) ≡ 16 * (p / 16 + 1) =
      omega (arith, helper_block_of_long 0x49 (take n f) counter (length (take n f) % 256)) in
      let place' : length b' + 16 * (p / 16) ≡ 16 * (p / 16 + 1) =
      omega (arith, helper_block_of_long 0x49 (take n (set f p e)) counter (length (take n (set f p e)) % 256)) in
      let ahead : take (16 * (p / 16)) (take n f) ≡ take (16 * (p / 16)) (take n (set f p e)) =
      take-take (16 * (p / 16)) n f (omega arith)
      ∙ sym (take-set-le (16 * (p / 16)) f p e (omega arith))
      ∙ sym (take-take (16 * (p / 16)) n (set f p e) (omega arith)) in
      ap (λ (k : ℕ). take k (b ++ take n f)) (sym place)
      ∙ take-append-add b (take n f) (16 * (p / 16))
      ∙ ap₂ (λ (s t : List ℕ). s ++ t) first_same ahead
      ∙ sym (take-append-add b' (take n (set f p e)) (16 * (p / 16)))
      ∙ ap (λ (k : ℕ). take k (b' ++ take n (set f p e))) place'

  pub carried-message : (ks : List ℕ)
      → carried ks (set f p e) n p (chains_of ks (message (take n f) counter) (last_place n))
      ≡ chains_of ks (message (take n (set f p e)) counter) (last_place n)
  unfolding message mic_block_of
  carried-message ks =
      let m = message (take n f) counter in
      let m' = message (take n (set f p e)) counter in
      let last = last_place n in
      let b' = helper_block_of 0x49 (take n (set f p e)) counter (length (take n (set f p e)) % 256) in
      carried_table ks m' last (set f p e) (chains_of ks m last) (p / 16) (chains_of_long ks m last) (omega arith) (omega arith)
      (λ j l. table_right ks m last j (omega arith) (omega arith) ∙ chain_same ks m m' (p / 16 + 1) blocks_same (j + 1) (omega arith))
      (λ j l g. table_rest ks m last j l g)
      (λ j l g.
      block_behind b' (set f p e) n j
      (helper_block_of_long 0x49 (take n (set f p e)) counter (length (take n (set f p e)) % 256))
      (omega arith))

  -- the frame after signing anew: what is covered, its MIC, and what stood behind
  pub resigned-message : (nwk : List ℕ) → n + 4 ≤ length f
      → resigned (key_expansion_of nwk) (set f p e) n p (chains_of (key_expansion_of nwk) (message (take n f) counter) (last_place n))
      ≡ take n (set f p e) ++ data_mic_of nwk (take n (set f p e)) counter ++ drop (n + 4) f
  resigned-message nwk room =
      let ks = key_expansion_of nwk in
      let mic = data_mic_of nwk (take n (set f p e)) counter in
      let four : length mic ≡ 4 = data_mic_of_long nwk (take n (set f p e)) counter in
      let whole : length (set f p e) ≡ length f = length-set f p e in
      ap (λ (c : List ℕ). sets (set f p e) n (signed_from ks (set f p e) n c)) (carried-message ks)
      ∙ ap (sets (set f p e) n) (signed-mic nwk (set f p e) counter n (omega arith) top (omega arith))
      ∙ sets-eq mic (set f p e) n (omega arith)
      ∙ ap (λ (k : ℕ). take n (set f p e) ++ mic ++ drop (n + k) (set f p e)) four
      ∙ ap (λ (l : List ℕ). take n (set f p e) ++ mic ++ l) (drop-set-lt (n + 4) f p e (omega arith))
