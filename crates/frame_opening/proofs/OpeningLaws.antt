-- What the proofs of the MIC tests and the openings cite: the case of a reading that a call needs, a choice by a test, a
-- payload done where it lies, and the choice of its key.
-- Assumes nothing.
use Rattle.std.specs.Prelude.{Ok}
use mathlib.Core.Path.{◌≡◌, sym, ap, ap₂, ◌∙◌}
use mathlib.Core.Bool.{Bool, true, false}
use mathlib.Core.List.{List}
use mathlib.Core.Logic.{⊎_elim}
use Prim.Native.Nat.{ℕ, ◌+◌, ◌-◌, ◌≤◌, min}
use native.Mathlib.Omega.{arith}
use lib.ListN.{length, take}
use Rattle.base.specs.Bytes.{pick, part}
use Rattle.base.specs.Storing.{run_at}
use Rattle.frame_security.specs.Mic.{same_bytes}
use Rattle.frame.specs.Layout.{fcnt, fhdr_length_of, header_end_of, header, payload, payload_end_of, mic_of}
use Rattle.frame_opening.specs.FrameOpening.{decrypted}
use Rattle.frame.specs.Reading.{read_of, data_of}
use Rattle.frame.specs.declared.parser.DataFrame.{DataFrame}
use Rattle.frame.specs.declared.parser.Frame.TheVariants.{JoinRequest, JoinAccept, Data}
use Rattle.frame.specs.Conditions.{IsData}
use Rattle.frame.proofs.LayoutLaws.{placed, length-payload, mic_run}
use Rattle.frame_security.specs.Security.{crypted_part, crypted_in, by_network_key_of, full_counter_of, covered}
use Rattle.frame_security.proofs.SecurityLaws.{crypted_inside}
use Rattle.frame.proofs.ReadingLaws.{request_read, accept_read, data_read}

-- ---- a choice whose test is known

module _ {A : Type 0} (b : Bool) (x y : A) where
  pub pick_true : b ≡ true → pick b x y ≡ x
  pick_true t = ap (λ (c : Bool). pick c x y) t

  pub pick_false : b ≡ false → pick b x y ≡ y
  pick_false t = ap (λ (c : Bool). pick c x y) t

-- ---- what a reading of the type that a call needs says of the frame

module _ (f : List ℕ) where
  pub request_length : read_of f ≡ (Ok JoinRequest) → length f ≡ 23
  request_length q = (request_read f q).long

  pub accept_length : {n : ℕ} → read_of f ≡ Ok (JoinAccept n) → 17 ≤ length f
  accept_length q =
      let h = accept_read f q in
      ⊎_elim (λ k. omega (arith, h.long)) (λ k. omega (arith, h.long)) h.either

  pub data_length : {d : DataFrame} → read_of f ≡ Ok (Data d) → 12 ≤ length f
  data_length q = (data_read f q).least

-- ---- the MIC

-- the four bytes that are compared are the frame's MIC
pub found_right : (f right : List ℕ) → 4 ≤ length f → (found : List ℕ) → found ≡ run_at 4 f (length f - 4)
    → same_bytes (mic_of f) right ≡ same_bytes found right
found_right f right h found e = ap (λ (l : List ℕ). same_bytes l right) (sym (e ∙ mic_run f h))

-- the part that is lent for the MIC is what it covers
pub lent_covered : (f : List ℕ) → part 0 (length f - 4 - 0) f ≡ covered f
lent_covered f =
    let z : length f - 4 - 0 ≡ length f - 4 = omega arith in
    ap (λ (n : ℕ). take n f) z

-- ---- the payload, by the places and the counter of a reading

module _ (f : List ℕ) (d : DataFrame) (q : d ≡ data_of f) where
  pub fopts_place : d.fopts_end ≡ 1 + fhdr_length_of f
  unfolding data_of
  fopts_place = ap (λ (r : DataFrame). r.fopts_end) q

  pub mic_place : d.mic ≡ payload_end_of f
  unfolding data_of
  mic_place = ap (λ (r : DataFrame). r.mic) q

  count : d.fcnt ≡ fcnt f
  unfolding data_of
  count = ap (λ (r : DataFrame). r.fcnt) q

  -- the places of the payload
  pub start_place : (start : ℕ) → start ≡ min (d.fopts_end + 1) d.mic → start ≡ header_end_of f
  start_place start e = omega (arith, fopts_place, mic_place)

-- a payload decrypted in place
pub decrypted_in_place : (key f : List ℕ) (counter : ℕ) (d : DataFrame) → IsData f → d ≡ data_of f
    → (start : ℕ) → start ≡ min (d.fopts_end + 1) d.mic → (whole : ℕ) → whole ≡ full_counter_of counter d.fcnt
    → crypted_in key f whole start d.mic ≡ decrypted key counter f
unfolding decrypted
decrypted_in_place key f counter d h q start hs whole hw =
    let p = placed f h in
    ap₂ (λ (a b : ℕ). crypted_in key f whole a b) (start_place f d q start hs) (mic_place f d q)
    ∙ crypted_inside key f whole (header_end_of f) (payload_end_of f) p.payload (omega (arith, p.mic))
    ∙ ap (λ (n : ℕ). crypted_part key f n (header_end_of f) (payload_end_of f)) (hw ∙ ap (full_counter_of counter) (count f d q))

-- the choice of key, by what is lent of the header and how long the payload is
pub chosen : (f : List ℕ) (d : DataFrame) → d ≡ data_of f → (start : ℕ) → start ≡ min (d.fopts_end + 1) d.mic
    → by_network_key_of (take start f) (d.mic - start) ≡ by_network_key_of (header f) (length (payload f))
chosen f d q start hs =
    ap₂ (λ (a b : ℕ). by_network_key_of (take a f) (b - a)) (start_place f d q start hs) (mic_place f d q)
    ∙ ap (by_network_key_of (header f)) (sym (length-payload f))
