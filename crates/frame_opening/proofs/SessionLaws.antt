-- Laws on the session keys: the block that is enciphered, as it is stored, and a key from what the calls on the way gave.
-- Assumes nothing.
use mathlib.Core.Path.{◌≡◌, sym, ap, ap₂, ◌∙◌}
use mathlib.Core.List.{List}
use Prim.Native.Nat.{ℕ}
use lib.ListN.{length, set}
use lib.Seq.{sets}
use Rattle.base.specs.Bytes.{tab, at, zeros}
use Rattle.base.proofs.Tab.{tab-at}
use Rattle.aes.specs.KeyExpansion.{key_expansion_of}
use Rattle.aes.specs.Fips197.{cipher}
use Rattle.frame.specs.Layout.{app_nonce_of, net_id_of}
use Rattle.frame_opening.specs.SessionKeys.{key_block_of, session_key}
use Rattle.frame_opening.specs.declared.join_accept.SessionKeys.{SessionKeys}

-- AppNonce, NetID and DevNonce are the lists of their bytes, wherever they stand
by_bytes : (F : List ℕ → List ℕ → List ℕ → List ℕ) (a i d : List ℕ) → length a ≡ 3 → length i ≡ 3 → length d ≡ 2
    → F a i d ≡ F (tab 3 (at a)) (tab 3 (at i)) (tab 2 (at d))
by_bytes F a i d ha hi hd = λ k. F (tab-at a 3 ha k) (tab-at i 3 hi k) (tab-at d 2 hd k)

-- so the block is zeros with each of them stored in its place
pub block_stored : (first : ℕ) (a i d : List ℕ) {x y z : List ℕ} → length a ≡ 3 → length i ≡ 3 → length d ≡ 2
    → x ≡ sets (set (zeros 16) 0 first) 1 a → y ≡ sets x 4 i → z ≡ sets y 7 d → z ≡ key_block_of first a i d
unfolding key_block_of
block_stored first a i d ha hi hd hx hy hz =
    hz ∙ ap (λ (l : List ℕ). sets l 7 d) (hy ∙ ap (λ (l : List ℕ). sets l 4 i) hx)
    ∙ by_bytes (λ (p q r : List ℕ). sets (sets (sets (set (zeros 16) 0 first) 1 p) 4 q) 7 r) a i d ha hi hd
    ∙ sym (by_bytes (key_block_of first) a i d ha hi hd)

-- one of them, from what the calls on the way gave
pub session_key_lem : (first : ℕ) (key nonce f : List ℕ) {a i w block k : List ℕ} → a ≡ app_nonce_of f → i ≡ net_id_of f
    → w ≡ key_expansion_of key → block ≡ key_block_of first a i nonce → k ≡ cipher w block → k ≡ session_key first key nonce f
unfolding session_key
session_key_lem first key nonce f ha hi hw hb hk =
    hk ∙ ap₂ (λ (v b : List ℕ). cipher v b) hw (hb ∙ ap₂ (λ (x y : List ℕ). key_block_of first x y nonce) ha hi)

abbrev pub keys_of : List ℕ → List ℕ → SessionKeys
keys_of nwk app = record { nwk_skey = nwk; app_skey = app }
