-- Answers of several bytes, as `zinovoky.h` lists them: two session keys in 32, the fields of a join-request in 22 and those
-- of a clear join-accept in 42.
-- Assumes nothing.
use Rattle.std.specs.Prelude.{◌≡◌, List, [], ◌∷◌, ◌++◌, ℕ, zero, suc, ltb, length, drop, Result, Ok, Err}
use Rattle.base.specs.Bytes.{pick, at, four_bytes_of}
use Rattle.frame.specs.Refusals.{refused, refusal_in, by_result}
use Rattle.frame.specs.declared.refusals.Refusal.{Refusal}
use Rattle.frame.specs.JoinFields.{list_number_of, frequencies_of, masks_of}
use Rattle.frame.specs.declared.join_fields.JoinRequestFields.{JoinRequestFields}
use Rattle.frame.specs.declared.join_fields.JoinAcceptFields.{JoinAcceptFields}
use Rattle.frame_opening.specs.declared.join_accept.SessionKeys.{SessionKeys}
use Rattle.frame_c.specs.CAnswers.{refusal_answer_of}

-- what was found, 7 where there is no room for so many bytes of it
abbrev pub stored_in : {A : Type 0} → Result A Refusal → ℕ → ℕ → Result A Refusal
stored_in (Ok x) count room = pick (ltb room count) (Err (refused 7)) (Ok x)
stored_in (Err r) count room = Err r

-- what a call promises that stores the bytes of what was found, or is refused: its answer r, and the output e, of the output l
-- as it was
pub record Fills {A : Type 0} (found : Result A Refusal) (bytes : A → List ℕ) (l : List ℕ) (r : ℕ) (e : List ℕ) : Type 0 where
  pub answer : r ≡ refusal_answer_of (refusal_in found)
  pub output : e ≡ by_result (λ x. bytes x ++ drop (length (bytes x)) l) (λ q. l) found

abbrev pub StoredInto : {A : Type 0} → Result A Refusal → ℕ → (A → List ℕ) → List ℕ → ℕ → List ℕ → Type 0
StoredInto found count bytes l r e = Fills (stored_in found count (length l)) bytes l r e

-- session keys: the network key, then the application key
abbrev pub keys_bytes : SessionKeys → List ℕ
keys_bytes k = k.nwk_skey ++ k.app_skey

abbrev pub KeysInto : Result SessionKeys Refusal → List ℕ → ℕ → List ℕ → Type 0
KeysInto k l r e = StoredInto k 32 keys_bytes l r e

-- a join-request: AppEUI, DevEUI, DevNonce, MIC
unfoldable pub request_bytes : JoinRequestFields → List ℕ
request_bytes j = j.app_eui ++ j.dev_eui ++ j.dev_nonce ++ j.mic

abbrev pub RequestInto : Result JoinRequestFields Refusal → List ℕ → ℕ → List ℕ → Type 0
RequestInto j l r e = StoredInto j 22 request_bytes l r e

-- the first n of some numbers, each in four bytes
unfoldable pub four_each : ℕ → List ℕ → List ℕ
four_each zero q = []
four_each (suc n) q = four_each n q ++ four_bytes_of (at q n)

-- a clear join-accept: AppNonce, NetID, DevAddr, DLSettings, RxDelay, which list it holds, nine masks; then five frequencies
unfoldable pub accept_fixed : JoinAcceptFields → List ℕ
accept_fixed j =
    j.app_nonce ++ j.net_id ++ j.dev_addr ++ (j.dl_settings ∷ j.rx_delay ∷ list_number_of j.cf_list ∷ [])
    ++ masks_of j.cf_list

abbrev pub accept_bytes : JoinAcceptFields → List ℕ
accept_bytes j = accept_fixed j ++ four_each 5 (frequencies_of j.cf_list)

abbrev pub AcceptInto : Result JoinAcceptFields Refusal → List ℕ → ℕ → List ℕ → Type 0
AcceptInto j l r e = StoredInto j 42 accept_bytes l r e
