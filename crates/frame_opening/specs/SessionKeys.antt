-- The session keys that a join-accept gives, from LoRaWAN 1.0 section 6.2.5: AES under AppKey of 1 (NwkSKey) or 2 (AppSKey),
-- AppNonce, NetID, DevNonce, and zeros. A frame of another type is refused.
-- Assumes nothing.
use Rattle.std.specs.Prelude.{List, Result, Ok, Err, ◌∷◌, ◌++◌, ℕ}
use Rattle.base.specs.Bytes.{zeros}
use Rattle.frame.specs.Layout.{app_nonce_of, net_id_of}
use Rattle.frame.specs.declared.refusals.Refusal.{Refusal}
use Rattle.aes.specs.KeyExpansion.{key_expansion_of}
use Rattle.aes.specs.Fips197.{cipher}
use Rattle.frame.specs.ReadingNumbers.{on_accept}
use Rattle.frame.specs.Reading.{read_of}
use Rattle.frame_opening.specs.declared.join_accept.SessionKeys.{SessionKeys}

unfoldable pub key_block_of : ℕ → List ℕ → List ℕ → List ℕ → List ℕ
key_block_of first app_nonce_of net_id_of dev_nonce_of = first ∷ (app_nonce_of ++ (net_id_of ++ (dev_nonce_of ++ zeros 7)))

unfoldable pub session_key : ℕ → List ℕ → List ℕ → List ℕ → List ℕ
session_key first key dev_nonce_of f = cipher (key_expansion_of key) (key_block_of first (app_nonce_of f) (net_id_of f) dev_nonce_of)

unfoldable pub derived_keys : List ℕ → List ℕ → List ℕ → SessionKeys
derived_keys key dev_nonce_of f =
    record {
      nwk_skey = session_key 1 key dev_nonce_of f;
      app_skey = session_key 2 key dev_nonce_of f;
    }

unfoldable pub session_keys_of : List ℕ → List ℕ → List ℕ → Result SessionKeys Refusal
session_keys_of key dev_nonce_of f = on_accept (λ n. Ok (derived_keys key dev_nonce_of f)) Err (read_of f)
