-- The promise of each public call fixes its answer and every byte that it was lent: two outcomes that satisfy it at the same
-- arguments are equal. It is said of the contract itself, at every state, and holds since each promise is an equation, or
-- one for the answer and one for what was lent. tools/promises sees that no call is missing.
-- Assumes nothing.
use Rattle.amend.specs.declared.amending.Open.{Open}
use mathlib.Core.Path.{◌≡◌, refl, sym, ap, ◌∙◌}
use mathlib.Core.List.{List, [], ◌∷◌}
use Prim.Native.Nat.{ℕ}
use lib.IntN.{ℤ}
use mir.Syntax.{w64}
use mir.Val.{Fits}
use Rattle.base.proofs.Fixed.{Determined, DeterminedLent}
use Rattle.frame_opening.specs.FrameOpening.{Outcome}
use Rattle.base.proofs.storing.put.Reads as base-put
use Rattle.base.proofs.storing.byte_at.Reads as base-byte-at
use Rattle.base.proofs.storing.run_at.Reads as base-run-at
use Rattle.aes.proofs.key_expansion.expand.Reads as aes-expand
use Rattle.aes.proofs.encrypt_under.Reads as aes-encrypt-under
use Rattle.aes.proofs.decrypt_under.Reads as aes-decrypt-under
use Rattle.aes.proofs.encrypt.Reads as aes-encrypt
use Rattle.aes.proofs.decrypt.Reads as aes-decrypt
use Rattle.cmac.proofs.next_chain.Reads as cmac-next-chain
use Rattle.cmac.proofs.Cmac.new.Reads as cmac-cmac-new
use Rattle.cmac.proofs.Cmac.with_schedule.Reads as cmac-cmac-with-schedule
use Rattle.cmac.proofs.Cmac.resume.Reads as cmac-cmac-resume
use Rattle.cmac.proofs.Cmac.update.Reads as cmac-cmac-update
use Rattle.cmac.proofs.Cmac.finish.Reads as cmac-cmac-finish
use Rattle.cmac.proofs.tag.Reads as cmac-tag
use Rattle.frame_bits.proofs.fctrl.message_type.Reads as frame-message-type
use Rattle.frame_bits.proofs.fctrl.is_uplink.Reads as frame-is-uplink
use Rattle.frame_bits.proofs.fctrl.is_confirmed.Reads as frame-is-confirmed
use Rattle.frame_bits.proofs.fctrl.nwk_id.Reads as frame-nwk-id
use Rattle.frame_bits.proofs.fctrl.FCtrl.new.Reads as frame-fctrl-new
use Rattle.frame_bits.proofs.fctrl.FCtrl.adr.Reads as frame-fctrl-adr
use Rattle.frame_bits.proofs.fctrl.FCtrl.adr_ack_req.Reads as frame-fctrl-adr-ack-req
use Rattle.frame_bits.proofs.fctrl.FCtrl.ack.Reads as frame-fctrl-ack
use Rattle.frame_bits.proofs.fctrl.FCtrl.f_pending.Reads as frame-fctrl-f-pending
use Rattle.frame_bits.proofs.fctrl.FCtrl.f_opts_len.Reads as frame-fctrl-f-opts-len
use Rattle.frame_bits.proofs.fctrl.FCtrl.raw_value.Reads as frame-fctrl-raw-value
use Rattle.frame_bits.proofs.fctrl.FCtrl.with_adr.Reads as frame-fctrl-with-adr
use Rattle.frame_bits.proofs.fctrl.FCtrl.with_adr_ack_req.Reads as frame-fctrl-with-adr-ack-req
use Rattle.frame_bits.proofs.fctrl.FCtrl.with_ack.Reads as frame-fctrl-with-ack
use Rattle.frame_bits.proofs.fctrl.FCtrl.with_f_pending.Reads as frame-fctrl-with-f-pending
use Rattle.frame.proofs.parser.fhdr_length.Reads as frame-fhdr-length
use Rattle.frame.proofs.parser.read.Reads as frame-read
use Rattle.frame.proofs.parser.read_as_join_request.Reads as frame-read-as-join-request
use Rattle.frame.proofs.parser.read_as_join_accept.Reads as frame-read-as-join-accept
use Rattle.frame.proofs.parser.read_as_data.Reads as frame-read-as-data
use Rattle.frame.proofs.refusals.Refusal.at.Reads as frame-refusal-at
use Rattle.frame.proofs.refusals.Refusal.of.Reads as frame-refusal-of
use Rattle.frame.proofs.numbers.values_of.Reads as frame-values-of
use Rattle.frame.proofs.packed.numbered_bits.Reads as frame-numbered-bits
use Rattle.frame.proofs.packed.read_packed.Reads as frame-read-packed
use Rattle.frame.proofs.join_fields.join_request_fields.Reads as frame-join-request-fields
use Rattle.frame.proofs.join_fields.join_accept_fields.Reads as frame-join-accept-fields
use Rattle.frame_security.proofs.mic.mic_of.Reads as frame-security-mic-of
use Rattle.frame_security.proofs.mic.same_mic.Reads as frame-security-same-mic
use Rattle.frame_security.proofs.securityhelpers.start_of.Reads as frame-security-start-of
use Rattle.frame_security.proofs.securityhelpers.stream_block.Reads as frame-security-stream-block
use Rattle.frame_security.proofs.securityhelpers.by_network_key.Reads as frame-security-by-network-key
use Rattle.frame_security.proofs.securityhelpers.full_counter.Reads as frame-security-full-counter
use Rattle.frame_security.proofs.securityhelpers.mic_block.Reads as frame-security-mic-block
use Rattle.frame_security.proofs.securityhelpers.calculate_data_mic.Reads as frame-security-calculate-data-mic
use Rattle.frame_security.proofs.securityhelpers.calculate_mic.Reads as frame-security-calculate-mic
use Rattle.frame_security.proofs.securityhelpers.encrypt_frm_data_payload.Reads as frame-security-encrypt-frm-data-payload
use Rattle.frame_security.proofs.securityhelpers.encrypt_part.Reads as frame-security-encrypt-part
use Rattle.frame_security.proofs.ecb.decrypt_blocks.Reads as frame-security-decrypt-blocks
use Rattle.frame_security.proofs.ecb.encrypt_blocks.Reads as frame-security-encrypt-blocks
use Rattle.frame_security.proofs.sealing.seal.Reads as frame-security-seal
use Rattle.frame_opening.proofs.mic_tests.join_request_mic.Reads as frame-opening-join-request-mic
use Rattle.frame_opening.proofs.mic_tests.join_accept_mic.Reads as frame-opening-join-accept-mic
use Rattle.frame_opening.proofs.mic_tests.data_mic.Reads as frame-opening-data-mic
use Rattle.frame_opening.proofs.payload.decrypt_data.Reads as frame-opening-decrypt-data
use Rattle.frame_opening.proofs.join_accept.decrypt_join_accept.Reads as frame-opening-decrypt-join-accept
use Rattle.frame_opening.proofs.join_accept.session_keys.Reads as frame-opening-session-keys
use Rattle.frame_opening.proofs.default_crypto.decrypt_data_checked.Reads as frame-opening-decrypt-data-checked
use Rattle.frame_opening.proofs.default_crypto.decrypt_join_accept_checked.Reads as frame-opening-decrypt-join-accept-checked
use Rattle.frame_build.proofs.creator.data_frame.can_piggyback.Reads as frame-build-can-piggyback
use Rattle.frame_build.proofs.creator.data_frame.build_data.Reads as frame-build-build-data
use Rattle.frame_build.proofs.creator.join.build_join_request.Reads as frame-build-build-join-request
use Rattle.frame_build.proofs.creator.join.build_join_accept.Reads as frame-build-build-join-accept
use Rattle.amend.proofs.opening.open_frame.Reads as amend-open-frame
use Rattle.amend.proofs.amending.Open.amend.Reads as amend-open-amend
use Rattle.amend.proofs.list.amend_list.Reads as amend-amend-list
use Rattle.amend.proofs.list.amend_frame.Reads as amend-amend-frame
use Rattle.amend_held.proofs.calls.open_into.Reads as amend-held-open-into
use Rattle.amend_held.proofs.calls.amend_held.Reads as amend-held-amend-held
use Rattle.amend_held.proofs.calls.amend_list_held.Reads as amend-held-amend-list-held
use Rattle.amend_held.proofs.calls.frame_of.Reads as amend-held-frame-of
use Rattle.mac_commands.proofs.maccommands.margin_of.Reads as mac-commands-margin-of
use Rattle.mac_commands.proofs.maccommands.read_raw.Reads as mac-commands-read-raw
use Rattle.mac_commands.proofs.maccommands.read_step.Reads as mac-commands-read-step
use Rattle.mac_commands.proofs.maccommands.values_of.Reads as mac-commands-values-of
use Rattle.mac_commands.proofs.maccommandcreator.raw_of.Reads as mac-commands-raw-of
use Rattle.mac_commands.proofs.maccommandcreator.fields_of.Reads as mac-commands-fields-of
use Rattle.mac_commands.proofs.maccommandcreator.write_command.Reads as mac-commands-write-command
use Rattle.mac_commands.proofs.maccommandcreator.write_fields.Reads as mac-commands-write-fields
use Rattle.mac_commands.proofs.in_frame.command_lists.Reads as mac-commands-command-lists
use Rattle.command_numbers.proofs.numbers_of.Reads as command-numbers-numbers-of
use Rattle.command_numbers.proofs.write_numbers.Reads as command-numbers-write-numbers
use Rattle.show_text.proofs.describe_input.Reads as show-text-describe-input
use Rattle.show_text.proofs.describe.Reads as show-text-describe
use Rattle.frame_c.proofs.opening.zinovoky_join_request_mic.Reads as c-join-request-mic
use Rattle.frame_c.proofs.opening.zinovoky_join_accept_mic.Reads as c-join-accept-mic
use Rattle.frame_c.proofs.opening.zinovoky_data_mic.Reads as c-data-mic
use Rattle.frame_c.proofs.opening.zinovoky_decrypt_data.Reads as c-decrypt-data
use Rattle.frame_c.proofs.opening.zinovoky_decrypt_data_checked.Reads as c-decrypt-data-checked
use Rattle.frame_c.proofs.opening.zinovoky_decrypt_join_accept.Reads as c-decrypt-join-accept
use Rattle.frame_c.proofs.opening.zinovoky_decrypt_join_accept_checked.Reads as c-decrypt-join-accept-checked
use Rattle.frame_c.proofs.opening.zinovoky_session_keys.Reads as c-session-keys
use Rattle.frame_c.proofs.reading.zinovoky_read.Reads as c_read
use Rattle.frame_c.proofs.reading.zinovoky_join_request_fields.Reads as c-join-request-fields
use Rattle.frame_c.proofs.reading.zinovoky_join_accept_fields.Reads as c-join-accept-fields
use Rattle.frame_c.proofs.reading.zinovoky_nwk_id.Reads as c-nwk-id
use Rattle.frame_c.proofs.building.zinovoky_build_join_request.Reads as c-build-join-request
use Rattle.frame_c.proofs.building.zinovoky_build_join_accept.Reads as c-build-join-accept
use Rattle.frame_c.proofs.building.zinovoky_build_data.Reads as c-build-data
use Rattle.frame_c.proofs.amending.zinovoky_amend.Reads as c-amend
use Rattle.frame_c.proofs.holding.zinovoky_hold.Reads as c-hold
use Rattle.frame_c.proofs.holding.zinovoky_held_amend.Reads as c-held-amend
use Rattle.frame_c.proofs.holding.zinovoky_held_amend_list.Reads as c-held-amend-list
use Rattle.frame_c.proofs.holding.zinovoky_held_frame.Reads as c-held-frame
use Rattle.frame_c.proofs.commands.zinovoky_read_command.Reads as c-read-command
use Rattle.frame_c.proofs.commands.zinovoky_write_command.Reads as c-write-command

-- an answer and a frame that were promised as one
both : (x y : Outcome) → x ≡ y → (x.answer ≡ y.answer) × (x.bytes ≡ y.bytes)
both x y e = (ap (λ (r : Outcome). r.answer) e, ap (λ (r : Outcome). r.bytes) e)

-- one lent byte, as a list of it
abbrev one : ℕ → List ℕ
one b = b ∷ []

-- the same as `DeterminedLent`, where what was lent is an open frame
abbrev pub DeterminedState : {K : Type 0} {D R S : K → Type 0} → ((κs : K) → S κs → Open)
    → ((κs : K) → D κs → R κs → S κs → Type 0)
    → Type 0
DeterminedState {K} {D} {R} {S} lent post =
    (κs : K) (a : D κs) (x y : R κs) (s t : S κs) → post κs a x s → post κs a y t → (x ≡ y) × (lent κs s ≡ lent κs t)

-- the same as `DeterminedLent`, where what was lent is numbers with a sign
abbrev pub DeterminedNumbers : {K : Type 0} {D R S : K → Type 0} → ((κs : K) → S κs → List ℤ)
    → ((κs : K) → D κs → R κs → S κs → Type 0)
    → Type 0
DeterminedNumbers {K} {D} {R} {S} lent post =
    (κs : K) (a : D κs) (x y : R κs) (s t : S κs) → post κs a x s → post κs a y t → (x ≡ y) × (lent κs s ≡ lent κs t)

-- ---- base

pub base_put_determined : DeterminedLent (λ κs s. s.0.now) base-put.Learnt
base_put_determined κs a x y s t p q = (p.next ∙ sym q.next, p.list ∙ sym q.list)

pub base_byte_at_determined : Determined base-byte-at.Learnt
base_byte_at_determined κs a x y s t p q = p ∙ sym q

-- at each width
module _ (n : ℕ) (fits : Fits w64 n) where
  pub base_run_at_determined : Determined (base-run-at.Learnt n fits)
  base_run_at_determined κs a x y s t p q = p ∙ sym q

-- ---- aes

pub aes_expand_determined : Determined aes-expand.Learnt
aes_expand_determined κs a x y s t p q = p ∙ sym q

pub aes_encrypt_under_determined : Determined aes-encrypt-under.Learnt
aes_encrypt_under_determined κs a x y s t p q = p ∙ sym q

pub aes_decrypt_under_determined : Determined aes-decrypt-under.Learnt
aes_decrypt_under_determined κs a x y s t p q = p ∙ sym q

pub aes_encrypt_determined : Determined aes-encrypt.Learnt
aes_encrypt_determined κs a x y s t p q = p ∙ sym q

pub aes_decrypt_determined : Determined aes-decrypt.Learnt
aes_decrypt_determined κs a x y s t p q = p ∙ sym q

-- ---- cmac

pub cmac_next_chain_determined : Determined cmac-next-chain.Learnt
cmac_next_chain_determined κs a x y s t p q = p ∙ sym q

pub cmac_cmac_new_determined : Determined cmac-cmac-new.Learnt
cmac_cmac_new_determined κs a x y s t p q = p ∙ sym q

pub cmac_cmac_with_schedule_determined : Determined cmac-cmac-with-schedule.Learnt
cmac_cmac_with_schedule_determined κs a x y s t p q = p ∙ sym q

pub cmac_cmac_resume_determined : Determined cmac-cmac-resume.Learnt
cmac_cmac_resume_determined κs a x y s t p q = p ∙ sym q

pub cmac_cmac_update_determined : Determined cmac-cmac-update.Learnt
cmac_cmac_update_determined κs a x y s t p q = p ∙ sym q

pub cmac_cmac_finish_determined : Determined cmac-cmac-finish.Learnt
cmac_cmac_finish_determined κs a x y s t p q = p ∙ sym q

pub cmac_tag_determined : Determined cmac-tag.Learnt
cmac_tag_determined κs a x y s t p q = p ∙ sym q

-- ---- frame

pub frame_message_type_determined : Determined frame-message-type.Learnt
frame_message_type_determined κs a x y s t p q = p ∙ sym q

pub frame_is_uplink_determined : Determined frame-is-uplink.Learnt
frame_is_uplink_determined κs a x y s t p q = p ∙ sym q

pub frame_is_confirmed_determined : Determined frame-is-confirmed.Learnt
frame_is_confirmed_determined κs a x y s t p q = p ∙ sym q

pub frame_nwk_id_determined : Determined frame-nwk-id.Learnt
frame_nwk_id_determined κs a x y s t p q = p ∙ sym q

pub frame_fctrl_new_determined : Determined frame-fctrl-new.Learnt
frame_fctrl_new_determined κs a x y s t p q = p ∙ sym q

pub frame_fctrl_adr_determined : Determined frame-fctrl-adr.Learnt
frame_fctrl_adr_determined κs a x y s t p q = p ∙ sym q

pub frame_fctrl_adr_ack_req_determined : Determined frame-fctrl-adr-ack-req.Learnt
frame_fctrl_adr_ack_req_determined κs a x y s t p q = p ∙ sym q

pub frame_fctrl_ack_determined : Determined frame-fctrl-ack.Learnt
frame_fctrl_ack_determined κs a x y s t p q = p ∙ sym q

pub frame_fctrl_f_pending_determined : Determined frame-fctrl-f-pending.Learnt
frame_fctrl_f_pending_determined κs a x y s t p q = p ∙ sym q

pub frame_fctrl_f_opts_len_determined : Determined frame-fctrl-f-opts-len.Learnt
frame_fctrl_f_opts_len_determined κs a x y s t p q = p ∙ sym q

pub frame_fctrl_raw_value_determined : Determined frame-fctrl-raw-value.Learnt
frame_fctrl_raw_value_determined κs a x y s t p q = p ∙ sym q

pub frame_fctrl_with_adr_determined : Determined frame-fctrl-with-adr.Learnt
frame_fctrl_with_adr_determined κs a x y s t p q = p ∙ sym q

pub frame_fctrl_with_adr_ack_req_determined : Determined frame-fctrl-with-adr-ack-req.Learnt
frame_fctrl_with_adr_ack_req_determined κs a x y s t p q = p ∙ sym q

pub frame_fctrl_with_ack_determined : Determined frame-fctrl-with-ack.Learnt
frame_fctrl_with_ack_determined κs a x y s t p q = p ∙ sym q

pub frame_fctrl_with_f_pending_determined : Determined frame-fctrl-with-f-pending.Learnt
frame_fctrl_with_f_pending_determined κs a x y s t p q = p ∙ sym q

pub frame_fhdr_length_determined : Determined frame-fhdr-length.Learnt
frame_fhdr_length_determined κs a x y s t p q = p ∙ sym q

pub frame_read_determined : Determined frame-read.Learnt
frame_read_determined κs a x y s t p q = p ∙ sym q

pub frame_read_as_join_request_determined : Determined frame-read-as-join-request.Learnt
frame_read_as_join_request_determined κs a x y s t p q = p ∙ sym q

pub frame_read_as_join_accept_determined : Determined frame-read-as-join-accept.Learnt
frame_read_as_join_accept_determined κs a x y s t p q = p ∙ sym q

pub frame_read_as_data_determined : Determined frame-read-as-data.Learnt
frame_read_as_data_determined κs a x y s t p q = p ∙ sym q

pub frame_refusal_at_determined : Determined frame-refusal-at.Learnt
frame_refusal_at_determined κs a x y s t p q = p ∙ sym q

pub frame_refusal_of_determined : Determined frame-refusal-of.Learnt
frame_refusal_of_determined κs a x y s t p q = p ∙ sym q

pub frame_values_of_determined : Determined frame-values-of.Learnt
frame_values_of_determined κs a x y s t p q = p ∙ sym q

pub frame_numbered_bits_determined : Determined frame-numbered-bits.Learnt
frame_numbered_bits_determined κs a x y s t p q = p ∙ sym q

pub frame_read_packed_determined : Determined frame-read-packed.Learnt
frame_read_packed_determined κs a x y s t p q = p ∙ sym q

pub frame_join_request_fields_determined : Determined frame-join-request-fields.Learnt
frame_join_request_fields_determined κs a x y s t p q = p ∙ sym q

pub frame_join_accept_fields_determined : Determined frame-join-accept-fields.Learnt
frame_join_accept_fields_determined κs a x y s t p q = p ∙ sym q

-- ---- frame_security

pub frame_security_mic_of_determined : Determined frame-security-mic-of.Learnt
frame_security_mic_of_determined κs a x y s t p q = p ∙ sym q

pub frame_security_same_mic_determined : Determined frame-security-same-mic.Learnt
frame_security_same_mic_determined κs a x y s t p q = p ∙ sym q

pub frame_security_start_of_determined : Determined frame-security-start-of.Learnt
frame_security_start_of_determined κs a x y s t p q = p ∙ sym q

pub frame_security_stream_block_determined : Determined frame-security-stream-block.Learnt
frame_security_stream_block_determined κs a x y s t p q = p ∙ sym q

pub frame_security_by_network_key_determined : Determined frame-security-by-network-key.Learnt
frame_security_by_network_key_determined κs a x y s t p q = p ∙ sym q

pub frame_security_full_counter_determined : Determined frame-security-full-counter.Learnt
frame_security_full_counter_determined κs a x y s t p q = p ∙ sym q

pub frame_security_mic_block_determined : Determined frame-security-mic-block.Learnt
frame_security_mic_block_determined κs a x y s t p q = p ∙ sym q

pub frame_security_calculate_data_mic_determined : Determined frame-security-calculate-data-mic.Learnt
frame_security_calculate_data_mic_determined κs a x y s t p q = p ∙ sym q

pub frame_security_calculate_mic_determined : Determined frame-security-calculate-mic.Learnt
frame_security_calculate_mic_determined κs a x y s t p q = p ∙ sym q

pub frame_security_encrypt_frm_data_payload_determined : DeterminedLent (λ κs s. s.1.1.1.0.now) frame-security-encrypt-frm-data-payload.Learnt
frame_security_encrypt_frm_data_payload_determined κs a x y s t p q = (refl, p ∙ sym q)

pub frame_security_encrypt_part_determined : DeterminedLent (λ κs s. s.1.0.now) frame-security-encrypt-part.Learnt
frame_security_encrypt_part_determined κs a x y s t p q = (refl, p ∙ sym q)

pub frame_security_decrypt_blocks_determined : DeterminedLent (λ κs s. s.1.0.now) frame-security-decrypt-blocks.Learnt
frame_security_decrypt_blocks_determined κs a x y s t p q = (refl, p ∙ sym q)

pub frame_security_encrypt_blocks_determined : DeterminedLent (λ κs s. s.1.0.now) frame-security-encrypt-blocks.Learnt
frame_security_encrypt_blocks_determined κs a x y s t p q = (refl, p ∙ sym q)

pub frame_security_seal_determined : DeterminedLent (λ κs s. s.0.now) frame-security-seal.Learnt
frame_security_seal_determined κs a x y s t p q = (refl, p ∙ sym q)

-- ---- frame_opening

pub frame_opening_join_request_mic_determined : Determined frame-opening-join-request-mic.Learnt
frame_opening_join_request_mic_determined κs a x y s t p q = p ∙ sym q

pub frame_opening_join_accept_mic_determined : Determined frame-opening-join-accept-mic.Learnt
frame_opening_join_accept_mic_determined κs a x y s t p q = p ∙ sym q

pub frame_opening_data_mic_determined : Determined frame-opening-data-mic.Learnt
frame_opening_data_mic_determined κs a x y s t p q = p ∙ sym q

pub frame_opening_decrypt_data_determined : DeterminedLent (λ κs s. s.0.now) frame-opening-decrypt-data.Learnt
frame_opening_decrypt_data_determined κs a x y s t p q = both _ _ (p ∙ sym q)

pub frame_opening_decrypt_join_accept_determined : DeterminedLent (λ κs s. s.0.now) frame-opening-decrypt-join-accept.Learnt
frame_opening_decrypt_join_accept_determined κs a x y s t p q = both _ _ (p ∙ sym q)

pub frame_opening_session_keys_determined : Determined frame-opening-session-keys.Learnt
frame_opening_session_keys_determined κs a x y s t p q = p ∙ sym q

pub frame_opening_decrypt_data_checked_determined : DeterminedLent (λ κs s. s.0.now) frame-opening-decrypt-data-checked.Learnt
frame_opening_decrypt_data_checked_determined κs a x y s t p q = both _ _ (p ∙ sym q)

pub frame_opening_decrypt_join_accept_checked_determined : DeterminedLent (λ κs s. s.0.now) frame-opening-decrypt-join-accept-checked.Learnt
frame_opening_decrypt_join_accept_checked_determined κs a x y s t p q = both _ _ (p ∙ sym q)

-- ---- frame_build

pub frame_build_can_piggyback_determined : Determined frame-build-can-piggyback.Learnt
frame_build_can_piggyback_determined κs a x y s t p q = p ∙ sym q

pub frame_build_build_data_determined : DeterminedLent (λ κs s. s.1.1.1.1.1.0.now) frame-build-build-data.Learnt
frame_build_build_data_determined κs a x y s t p q = (p.0.answer ∙ sym q.0.answer, p.0.output ∙ sym q.0.output)

pub frame_build_build_join_request_determined : DeterminedLent (λ κs s. s.1.1.0.now) frame-build-build-join-request.Learnt
frame_build_build_join_request_determined κs a x y s t p q = (p.0.answer ∙ sym q.0.answer, p.0.output ∙ sym q.0.output)

pub frame_build_build_join_accept_determined : DeterminedLent (λ κs s. s.1.1.1.0.now) frame-build-build-join-accept.Learnt
frame_build_build_join_accept_determined κs a x y s t p q = (p.0.answer ∙ sym q.0.answer, p.0.output ∙ sym q.0.output)

-- ---- amend

pub amend_open_frame_determined : Determined amend-open-frame.Learnt
amend_open_frame_determined κs a x y s t p q = p ∙ sym q

pub amend_open_amend_determined : DeterminedState (λ κs s. s.0.now) amend-open-amend.Learnt
amend_open_amend_determined κs a x y s t p q = (p.0 ∙ sym q.0, p.1 ∙ sym q.1)

pub amend_amend_list_determined : DeterminedState (λ κs s. s.0.now) amend-amend-list.Learnt
amend_amend_list_determined κs a x y s t p q = (p.0 ∙ sym q.0, p.1 ∙ sym q.1)

pub amend_amend_frame_determined : DeterminedLent (λ κs s. s.0.now) amend-amend-frame.Learnt
amend_amend_frame_determined κs a x y s t p q = (p.0 ∙ sym q.0, p.1 ∙ sym q.1)

-- ---- amend_held

pub amend_held_open_into_determined : DeterminedLent (λ κs s. s.1.1.1.1.0.now) amend-held-open-into.Learnt
amend_held_open_into_determined κs a x y s t p q = (p.0 ∙ sym q.0, p.1 ∙ sym q.1)

pub amend_held_amend_held_determined : DeterminedLent (λ κs s. s.0.now) amend-held-amend-held.Learnt
amend_held_amend_held_determined κs a x y s t p q = (p.0 ∙ sym q.0, p.1 ∙ sym q.1)

pub amend_held_amend_list_held_determined : DeterminedLent (λ κs s. s.0.now) amend-held-amend-list-held.Learnt
amend_held_amend_list_held_determined κs a x y s t p q = (p.0 ∙ sym q.0, p.1 ∙ sym q.1)

pub amend_held_frame_of_determined : DeterminedLent (λ κs s. s.1.0.now) amend-held-frame-of.Learnt
amend_held_frame_of_determined κs a x y s t p q = (p.0 ∙ sym q.0, p.1 ∙ sym q.1)

-- ---- mac_commands

pub mac_commands_margin_of_determined : Determined mac-commands-margin-of.Learnt
mac_commands_margin_of_determined κs a x y s t p q = p ∙ sym q

pub mac_commands_read_raw_determined : Determined mac-commands-read-raw.Learnt
mac_commands_read_raw_determined κs a x y s t p q = p ∙ sym q

pub mac_commands_values_of_determined : Determined mac-commands-values-of.Learnt
mac_commands_values_of_determined κs a x y s t p q = p ∙ sym q

pub mac_commands_read_step_determined : Determined mac-commands-read-step.Learnt
mac_commands_read_step_determined κs a x y s t p q = p ∙ sym q

pub mac_commands_raw_of_determined : Determined mac-commands-raw-of.Learnt
mac_commands_raw_of_determined κs a x y s t p q = p ∙ sym q

pub mac_commands_fields_of_determined : Determined mac-commands-fields-of.Learnt
mac_commands_fields_of_determined κs a x y s t p q = p ∙ sym q

pub mac_commands_write_command_determined : DeterminedLent (λ κs s. s.1.0.now) mac-commands-write-command.Learnt
mac_commands_write_command_determined κs a x y s t p q = (p.0 ∙ sym q.0, p.1 ∙ sym q.1)

pub mac_commands_write_fields_determined : DeterminedLent (λ κs s. s.1.1.1.0.now) mac-commands-write-fields.Learnt
mac_commands_write_fields_determined κs a x y s t p q = (p.0 ∙ sym q.0, p.1 ∙ sym q.1)

pub mac_commands_command_lists_determined : Determined mac-commands-command-lists.Learnt
mac_commands_command_lists_determined κs a x y s t p q = p ∙ sym q

-- ---- command_numbers

pub command_numbers_numbers_of_determined : Determined command-numbers-numbers-of.Learnt
command_numbers_numbers_of_determined κs a x y s t p q = p ∙ sym q

pub command_numbers_write_numbers_determined : DeterminedLent (λ κs s. s.1.1.0.now) command-numbers-write-numbers.Learnt
command_numbers_write_numbers_determined κs a x y s t p q = (p.0 ∙ sym q.0, p.1 ∙ sym q.1)

-- ---- show_text

pub show_text_describe_input_determined : DeterminedLent (λ κs s. s.1.1.0.now) show-text-describe-input.Learnt
show_text_describe_input_determined κs a x y s t p q = (p.0 ∙ sym q.0, p.1 ∙ sym q.1)

pub show_text_describe_determined : DeterminedLent (λ κs s. s.1.0.now) show-text-describe.Learnt
show_text_describe_determined κs a x y s t p q = (p.0 ∙ sym q.0, p.1 ∙ sym q.1)

-- ---- frame_c

pub c_join_request_mic_determined : DeterminedLent (λ κs s. one s.1.1.0.now) c-join-request-mic.Learnt
c_join_request_mic_determined κs a x y s t p q = (p.0 ∙ sym q.0, ap one (p.1 ∙ sym q.1))

pub c_join_accept_mic_determined : DeterminedLent (λ κs s. one s.1.1.0.now) c-join-accept-mic.Learnt
c_join_accept_mic_determined κs a x y s t p q = (p.0 ∙ sym q.0, ap one (p.1 ∙ sym q.1))

pub c_data_mic_determined : DeterminedLent (λ κs s. one s.1.1.1.0.now) c-data-mic.Learnt
c_data_mic_determined κs a x y s t p q = (p.0 ∙ sym q.0, ap one (p.1 ∙ sym q.1))

pub c_decrypt_data_determined : DeterminedLent (λ κs s. s.0.now) c-decrypt-data.Learnt
c_decrypt_data_determined κs a x y s t p q = (p.0 ∙ sym q.0, p.1 ∙ sym q.1)

pub c_decrypt_data_checked_determined : DeterminedLent (λ κs s. s.0.now) c-decrypt-data-checked.Learnt
c_decrypt_data_checked_determined κs a x y s t p q = (p.0 ∙ sym q.0, p.1 ∙ sym q.1)

pub c_decrypt_join_accept_determined : DeterminedLent (λ κs s. s.0.now) c-decrypt-join-accept.Learnt
c_decrypt_join_accept_determined κs a x y s t p q = (p.0 ∙ sym q.0, p.1 ∙ sym q.1)

pub c_decrypt_join_accept_checked_determined : DeterminedLent (λ κs s. s.0.now) c-decrypt-join-accept-checked.Learnt
c_decrypt_join_accept_checked_determined κs a x y s t p q = (p.0 ∙ sym q.0, p.1 ∙ sym q.1)

pub c_session_keys_determined : DeterminedLent (λ κs s. s.1.1.1.0.now) c-session-keys.Learnt
c_session_keys_determined κs a x y s t p q = (p.answer ∙ sym q.answer, p.output ∙ sym q.output)

pub c_read_determined : Determined c_read.Learnt
c_read_determined κs a x y s t p q = p ∙ sym q

pub c_join_request_fields_determined : DeterminedLent (λ κs s. s.1.0.now) c-join-request-fields.Learnt
c_join_request_fields_determined κs a x y s t p q = (p.answer ∙ sym q.answer, p.output ∙ sym q.output)

pub c_join_accept_fields_determined : DeterminedLent (λ κs s. s.1.0.now) c-join-accept-fields.Learnt
c_join_accept_fields_determined κs a x y s t p q = (p.answer ∙ sym q.answer, p.output ∙ sym q.output)

pub c_nwk_id_determined : Determined c-nwk-id.Learnt
c_nwk_id_determined κs a x y s t p q = p ∙ sym q

pub c_build_join_request_determined : DeterminedLent (λ κs s. s.1.1.1.1.0.now) c-build-join-request.Learnt
c_build_join_request_determined κs a x y s t p q = (p.answer ∙ sym q.answer, p.output ∙ sym q.output)

pub c_build_join_accept_determined : DeterminedLent (λ κs s. s.1.1.1.1.0.now) c-build-join-accept.Learnt
c_build_join_accept_determined κs a x y s t p q = (p.answer ∙ sym q.answer, p.output ∙ sym q.output)

pub c_build_data_determined : DeterminedLent (λ κs s. s.1.1.1.1.1.1.1.1.1.0.now) c-build-data.Learnt
c_build_data_determined κs a x y s t p q = (p.answer ∙ sym q.answer, p.output ∙ sym q.output)

pub c_amend_determined : DeterminedLent (λ κs s. s.0.now) c-amend.Learnt
c_amend_determined κs a x y s t p q = (p.0 ∙ sym q.0, p.1 ∙ sym q.1)

pub c_hold_determined : DeterminedLent (λ κs s. s.1.1.1.1.0.now) c-hold.Learnt
c_hold_determined κs a x y s t p q = (p.0 ∙ sym q.0, p.1 ∙ sym q.1)

pub c_held_amend_determined : DeterminedLent (λ κs s. s.0.now) c-held-amend.Learnt
c_held_amend_determined κs a x y s t p q = (p.0 ∙ sym q.0, p.1 ∙ sym q.1)

pub c_held_amend_list_determined : DeterminedLent (λ κs s. s.0.now) c-held-amend-list.Learnt
c_held_amend_list_determined κs a x y s t p q = (p.0 ∙ sym q.0, p.1 ∙ sym q.1)

pub c_held_frame_determined : DeterminedLent (λ κs s. s.1.0.now) c-held-frame.Learnt
c_held_frame_determined κs a x y s t p q = (p.0 ∙ sym q.0, p.1 ∙ sym q.1)

pub c_read_command_determined : DeterminedNumbers (λ κs s. s.1.1.1.0.now) c-read-command.Learnt
c_read_command_determined κs a x y s t p q = (p.0 ∙ sym q.0, p.1 ∙ sym q.1)

pub c_write_command_determined : DeterminedLent (λ κs s. s.1.1.0.now) c-write-command.Learnt
c_write_command_determined κs a x y s t p q = (p.0 ∙ sym q.0, p.1 ∙ sym q.1)
