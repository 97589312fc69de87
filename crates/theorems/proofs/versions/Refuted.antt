-- No version that docs/RULES.md names meets what its call is held to: a reader is held to both sides of each limit, a
-- builder to the length of its frame, and an amendment to every list, of which the two frames of `TwoFrames` tell.
-- Assumes nothing.
use Rattle.frame.specs.declared.refusals.Refusal.{Refusal}
use Rattle.frame.specs.Refusals.{refusal_in}
use Rattle.amend.specs.OpenFrame.{state_in}
use Rattle.std.specs.Prelude.{Err, None, Ok, Result}
use mathlib.Core.Path.{◌≡◌, refl, sym, ap, ap₂, ◌∙◌}
use mathlib.Core.Bool.{true, false}
use mathlib.Core.List.{List, [], ◌∷◌}
use Prim.Native.Nat.{ℕ, ◌+◌}
use native.Mathlib.Omega.{arith}
use lib.ListN.{take, drop}
use Rattle.base.specs.Bytes.{tab, at}
use Rattle.frame.specs.Conditions.{IsData}
use Rattle.frame.specs.Layout.{header, mic_of}
use Rattle.frame.specs.ReadingNumbers.{number_of, data_values_of, values_of}
use Rattle.frame.specs.Reading.{port_of, payload_of, data_of, read_data_of, read_type_of, read_of}
use Rattle.frame.specs.Reading.{Reading}
use Rattle.frame.specs.declared.numbers.Values.{Values}
use Rattle.frame_security.specs.Sealing.{sealed}
use Rattle.frame_build.specs.DataBuilding.{data_refusal_of, data_header, fixed_header_of}
use Rattle.frame_build.specs.declared.creator.data_frame.DataParts.{DataParts}
use Rattle.frame_build.proofs.DataBuiltLaws.{frame_long}
use Rattle.amend.specs.Amending.{amend_of}
use Rattle.amend.specs.AmendmentLists.{Amendment, amended_by, payload_by, Stands}
use Rattle.amend.specs.OpenFrame.{held, opened_of, open_of}
use Rattle.amend.specs.declared.amending.Open.{Open}
use Rattle.amend.proofs.Accepted.{accepted_opens}
use Rattle.amend.proofs.Demand3.{state_after}
use Rattle.amend.proofs.Sealed.{sealed-header, sealed_clear, sealed-accepted}
use Rattle.theorems.specs.PrintedFips197.{key_B}
use Rattle.theorems.specs.WrongVersions.{Reads, RefusesEach, SameForAll, Builder, BuildsData, Reports, Amends, untouched, stored, stores_only, signs_first, ConstantMic}
use Rattle.theorems.proofs.versions.TwoFrames.{template, frame_of, frame_of_1, frame_of_2}

-- ---- readers

-- twelve bytes with the given FCnt, neither port nor payload: accepted, as docs/RULES.md's P3
abbrev counted : ℕ → List ℕ
counted n = 0x40 ∷ 0 ∷ 0 ∷ 0 ∷ 0 ∷ 0 ∷ n ∷ 0 ∷ 0 ∷ 0 ∷ 0 ∷ 0 ∷ []

accepted : (n : ℕ) → number_of (read_of (counted n)) ≡ 0
unfolding read_of read_type_of read_data_of data_of port_of payload_of
accepted n = refl

shows : (n : ℕ) → (values_of (read_of (counted n))).fcnt ≡ n + 0
unfolding read_of read_type_of read_data_of data_of port_of payload_of data_values_of
shows n = refl

pub refuses_each : (read : List ℕ → Reading) → Reads read → RefusesEach read → ⊥
refuses_each read meets refuses = refuses (counted 0) (ap number_of (meets (counted 0)) ∙ accepted 0)

pub same_for_all : (read : List ℕ → Reading) → Reads read → SameForAll read → ⊥
same_for_all read meets same =
    let shown : (n : ℕ) → (values_of (read (counted n))).fcnt ≡ n + 0 = λ n. ap (λ (r : Reading). (values_of r).fcnt) (meets (counted n)) ∙ shows n in
    let one : ◌≡◌ {A = ℕ} 0 1 = sym (shown 0) ∙ ap (λ (v : Values). v.fcnt) (same (counted 0) (counted 1) (accepted 0) (accepted 1)) ∙ shown 1 in
    omega (arith, one)

-- ---- builders

-- an unconfirmed uplink without a port
abbrev fields : DataParts
fields = record { confirmed = false; uplink = true; dev_addr = tab 4 (λ i. 0); fctrl = 0; fcnt = 0; port = None }

abbrev length_of : (Result ℕ Refusal) → ℕ
length_of (Ok n) = n
length_of (Err r) = 0

-- without commands a frame has 12 bytes, with one of one byte 13
pub made_up_length : (n : ℕ) (build : Builder) → BuildsData build → Reports n build → ⊥
unfolding data_refusal_of data_header fixed_header_of
made_up_length n build meets reports =
    let twelve : n ≡ 12 =
    ap length_of (sym (reports key_B key_B fields [] [] 255 refl) ∙ meets key_B key_B fields [] [] 255)
    ∙ frame_long key_B key_B fields [] [] in
    let thirteen : n ≡ 13 =
    ap length_of (sym (reports key_B key_B fields (2 ∷ []) [] 255 refl) ∙ meets key_B key_B fields (2 ∷ []) [] 255)
    ∙ frame_long key_B key_B fields (2 ∷ []) [] in
    omega (arith, twelve, thirteen)

-- ---- amendments

is_data : IsData template
is_data = record { least = omega arith; most = omega arith; version = refl; from = omega arith; below = omega arith; fits = omega arith }

-- the frame that is opened, with a clear byte 0
abbrev opened : Result Open Refusal
opened = open_of (frame_of 0) key_B key_B 0

opens : (refusal_in opened).number ≡ 0
opens =
    ap (λ (o : Result Open Refusal). (refusal_in o).number)
    (accepted_opens (frame_of 0) key_B key_B 0 (sealed-accepted template key_B key_B 0 is_data (0 ∷ []) refl refl))

-- that byte set to v
abbrev set_to : ℕ → Amendment
set_to v = record { offset = 0; value = v }

-- what demand 3 says of the frame after a list
stands : (list : List Amendment) (s : Open) → Stands (frame_of 0) key_B key_B 0 list s
    → take s.length s.frame ≡ sealed key_B key_B 0 (header template) (payload_by (0 ∷ []) list)
stands list s h =
    h.frame
    ∙ ap₂ (λ (hdr p : List ℕ). sealed key_B key_B 0 hdr (payload_by p list))
    (sealed-header template key_B key_B 0 is_data (0 ∷ []) refl)
    (sealed_clear template key_B key_B 0 is_data (0 ∷ []) refl)

-- the byte that a MIC begins with
abbrev mic_byte : List ℕ → ℕ
mic_byte f = at (drop 10 f) 0

pub untouched_refuted : Amends untouched → ⊥
unfolding payload_by
untouched_refuted meets =
    let one = stands (set_to 1 ∷ []) (state_in opened) (meets (frame_of 0) key_B key_B 0 opens (set_to 1 ∷ [])) in
    let two = stands (set_to 2 ∷ []) (state_in opened) (meets (frame_of 0) key_B key_B 0 opens (set_to 2 ∷ [])) in
    let same : ◌≡◌ {A = ℕ} 0xaa 0x6c = ap mic_byte (sym (one ∙ frame_of_1) ∙ two ∙ frame_of_2) in
    omega (arith, same)

-- the right state after the first amendment
first : (amend_of (state_in opened) 0 1).state ≡ opened_of (frame_of 1) key_B key_B 0
unfolding amended_by payload_by
first =
    state_after (frame_of 0) key_B key_B 0 opens (set_to 1 ∷ [])
    ∙ ap₂ (λ (hdr p : List ℕ). opened_of (sealed key_B key_B 0 hdr (payload_by p (set_to 1 ∷ []))) key_B key_B 0)
    (sealed-header template key_B key_B 0 is_data (0 ∷ []) refl)
    (sealed_clear template key_B key_B 0 is_data (0 ∷ []) refl)

-- then the second byte stored, and the MIC left as it was
abbrev both : List Amendment
both = set_to 1 ∷ set_to 2 ∷ []

abbrev standing : Open → List ℕ
standing s = take s.length s.frame

left_over : mic_byte (standing (signs_first (state_in opened) both)) ≡ 0xaa
unfolding signs_first stores_only opened_of held
left_over =
    ap (λ (s : Open). mic_byte (standing (stored s 0 2)))
    (first ∙ ap (λ (f : List ℕ). opened_of f key_B key_B 0) frame_of_1)

pub signs_first_refuted : Amends signs_first → ⊥
unfolding payload_by
signs_first_refuted meets =
    let s = signs_first (state_in opened) both in
    let same : ◌≡◌ {A = ℕ} 0xaa 0x6c = sym left_over ∙ ap mic_byte (stands both s (meets (frame_of 0) key_B key_B 0 opens both) ∙ frame_of_2) in
    omega (arith, same)

-- two lists after which the MICs differ
pub constant_mic_refuted : (amend : Open → List Amendment → Open) → Amends amend → ConstantMic amend → ⊥
unfolding payload_by
constant_mic_refuted amend meets constant =
    let s = (state_in opened) in
    let one = stands (set_to 1 ∷ []) (amend s (set_to 1 ∷ [])) (meets (frame_of 0) key_B key_B 0 opens (set_to 1 ∷ [])) in
    let two = stands (set_to 2 ∷ []) (amend s (set_to 2 ∷ [])) (meets (frame_of 0) key_B key_B 0 opens (set_to 2 ∷ [])) in
    let same : ◌≡◌ {A = ℕ} 0xaa 0x6c =
    sym (ap (λ (f : List ℕ). at (mic_of f) 0) (one ∙ frame_of_1))
    ∙ ap (λ (m : List ℕ). at m 0) (constant s s (set_to 1 ∷ []) (set_to 2 ∷ []))
    ∙ ap (λ (f : List ℕ). at (mic_of f) 0) (two ∙ frame_of_2) in
    omega (arith, same)
