-- What building a join message gives, from LoRaWAN 1.0 sections 6.2.4 and 6.2.5 (docs/RULES.md, Building): the clear bytes of
-- both kinds, and the refusals in their orders.
-- Assumes nothing.
use Rattle.std.specs.Prelude.{Bool, true, false, List, [], ◌∷◌, ◌++◌, ℕ, ◌/◌, ◌%◌, ltb, length}
use Rattle.base.specs.Bytes.{pick, at}
use Rattle.frame_build.specs.DataBuilding.{both, either, first_of}
use Rattle.frame_build.specs.declared.creator.join.JoinRequestParts.{JoinRequestParts}
use Rattle.frame_build.specs.declared.creator.join.JoinAcceptParts.{JoinAcceptParts}

-- all of a join-request but its MIC
unfoldable pub join_request_body : JoinRequestParts → List ℕ
join_request_body j = 0 ∷ j.app_eui ++ j.dev_eui ++ j.dev_nonce

-- a 24-bit frequency, low byte first
abbrev pub frequency_bytes : ℕ → List ℕ
frequency_bytes c = (c % 256) ∷ (c / 256 % 256) ∷ (c / 65536 % 256) ∷ []

-- five frequencies, absent ones 0, and the list's type 0
unfoldable pub cf_list_bytes_of : List ℕ → List ℕ
cf_list_bytes_of channels =
    frequency_bytes (at channels 0) ++ frequency_bytes (at channels 1) ++ frequency_bytes (at channels 2)
    ++ frequency_bytes (at channels 3) ++ frequency_bytes (at channels 4) ++ 0 ∷ []

-- MHDR, AppNonce, NetID, DevAddr, DLSettings and RxDelay
unfoldable pub accept_head_of : JoinAcceptParts → List ℕ
accept_head_of j = 32 ∷ (j.app_nonce ++ j.net_id ++ j.dev_addr ++ j.dl_settings ∷ j.rx_delay ∷ [])

-- all of a clear join-accept but its MIC: these, then the list if there is one
abbrev pub join_accept_body : JoinAcceptParts → List ℕ → List ℕ
join_accept_body j channels = accept_head_of j ++ pick j.with_c_f_list (cf_list_bytes_of channels) []

-- one of the channels does not fit 24 bits
abbrev pub too_high_of : List ℕ → Bool
too_high_of [] = false
too_high_of (c ∷ cs) = pick (ltb 16777215 c) true (too_high_of cs)

-- 17 bytes, or 33 with a list
abbrev pub join_accept_length : JoinAcceptParts → ℕ
join_accept_length j = pick j.with_c_f_list 33 17

-- the refusals of join-accept building, each with its test, in the order 8 (over five channels, one too high), 7
abbrev pub join_accept_tests : JoinAcceptParts → List ℕ → ℕ → List (Bool × ℕ)
join_accept_tests j channels room =
    (both j.with_c_f_list (either (ltb 5 (length channels)) (too_high_of channels)), 8)
    ∷ (ltb room (join_accept_length j), 7)
    ∷ []

unfoldable pub join_accept_refusal_of : JoinAcceptParts → List ℕ → ℕ → ℕ
join_accept_refusal_of j channels room = first_of (join_accept_tests j channels room)

-- the one refusal of join-request building
abbrev pub join_request_refusal : ℕ → ℕ
join_request_refusal room = first_of ((ltb room 23, 7) ∷ [])
