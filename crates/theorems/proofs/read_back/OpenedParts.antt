-- Opening a data frame with both keys given leaves its header, its payload decrypted under the frame's key, and its MIC: the
-- same three parts that sealing puts together.
-- Assumes nothing.
use Rattle.std.specs.Prelude.{Some}
use Rattle.std.specs.Prelude.{Ok, Option}
use mathlib.Core.Path.{◌≡◌, refl, sym, ap, ◌∙◌}
use mathlib.Core.Bool.{Bool, true, false}
use mathlib.Core.List.{List, ◌++◌, append_assoc}
use Prim.Native.Nat.{ℕ}
use native.Mathlib.Omega.{arith}
use lib.ListN.{length}
use lib.Seq.{take-take}
use Rattle.base.specs.Bytes.{pick}
use Rattle.frame.specs.Conditions.{IsData}
use Rattle.frame.specs.Layout.{fcnt, header, header_end_of, payload, mic_of}
use Rattle.frame.specs.ReadingNumbers.{on_data}
use Rattle.frame.proofs.LayoutLaws.{placed}
use Rattle.frame.proofs.ReadingLaws.{reads_data}
use Rattle.frame_security.specs.Security.{crypted, crypted_part, by_network_key_of, frame_key, full_counter_of}
use Rattle.frame_security.proofs.SecurityLaws.{crypted_same}
use Rattle.frame_opening.specs.FrameOpening.{outcome, unopened, decrypted, opened_under, data_opened}

-- of two keys that are given, the one that a test picks is given, and is the key that the test picks
picked_given : (t : Bool) (a b : List ℕ) → pick t (Some a) (Some b) ≡ Some (pick t a b)
picked_given true a b = refl
picked_given false a b = refl

module _ (nwk app f : List ℕ) (counter : ℕ) (h : IsData f) where
  abbrev key : List ℕ
  key = frame_key f nwk app

  -- the payload decrypted under the frame's key; the counter's low half is the frame's
  abbrev pub clear_payload : List ℕ
  clear_payload = crypted key (header f) (full_counter_of counter (fcnt f)) (payload f)

  -- the header holds the bytes that the key stream takes of the frame
  clear_is : crypted key f (full_counter_of counter (fcnt f)) (payload f) ≡ clear_payload
  clear_is =
      crypted_same f (header f) (sym (take-take 5 (header_end_of f) f (omega (arith, (placed f h).fopts)))) key
      (full_counter_of counter (fcnt f)) (payload f)

  -- both keys given: the frame with its payload decrypted
  pub opened_decrypted : data_opened (Some nwk) (Some app) counter f ≡ outcome (Ok tt) (decrypted key counter f)
  unfolding data_opened opened_under
  opened_decrypted =
      ap (on_data (λ d. opened_under (frame_key f (Some nwk) (Some app)) counter f) (unopened f)) (reads_data f h)
      ∙ ap (λ (k : (Option (List ℕ))). opened_under k counter f) (picked_given (by_network_key_of (header f) (length (payload f))) nwk app)

  -- which is header, clear payload, MIC
  pub opened_both : data_opened (Some nwk) (Some app) counter f
      ≡ outcome (Ok tt) (header f ++ (clear_payload ++ mic_of f))
  unfolding decrypted crypted_part
  opened_both =
      opened_decrypted
      ∙ ap (outcome (Ok tt))
      (append_assoc (header f) (crypted key f (full_counter_of counter (fcnt f)) (payload f)) (mic_of f)
      ∙ ap (λ (s : List ℕ). header f ++ (s ++ mic_of f)) clear_is)
