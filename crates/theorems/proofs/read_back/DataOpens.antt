-- A data frame that was built passes its MIC test, opens to the clear payload or commands, plain and checked, and opens for
-- amendments. What `DataParts` shows of the parts, said of what the calls answer.
-- Assumes nothing.
use Rattle.std.specs.Prelude.{Some}
use Rattle.std.specs.Prelude.{Ok}
use mathlib.Core.Path.{◌≡◌, sym, ap, ap₂, ◌∙◌}
use mathlib.Core.Bool.{Bool}
use mathlib.Core.List.{List, ◌++◌}
use Prim.Native.Nat.{ℕ}
use native.Mathlib.Omega.{arith}
use Rattle.base.specs.Bytes.{pick}
use Rattle.frame.specs.Layout.{fcnt, header, payload, mic_of}
use Rattle.frame.specs.Conditions.{IsData}
use Rattle.frame.proofs.ReadingLaws.{data_read}
use Rattle.frame.specs.ReadingNumbers.{on_data}
use Rattle.frame.specs.Refusals.{refused}
use Rattle.frame_opening.specs.FrameOpening.{outcome, unopened, data_passes, opened_under, data_opened}
use Rattle.frame_opening.specs.CheckedOpening.{opened_tested, data_opened_checked}
use Rattle.frame_security.specs.Security.{crypted, frame_key, full_counter_of, covered, data_mic_of}
use Rattle.frame_security.proofs.MicCompared.{test_of_same}
use Rattle.amend.proofs.Accepted.{accepted_opens}
use Rattle.theorems.proofs.refusals.OpeningRefusals.{data_test}
use Rattle.theorems.proofs.read_back.OpenedParts.{opened_both}
use Rattle.frame_build.specs.DataBuilding.{body_of, data_header}
use Rattle.frame_build.specs.declared.creator.data_frame.DataParts.{DataParts}
use Rattle.theorems.specs.ReadBack.{DataBack, DataOpens}

module _ (nwk app : List ℕ) (d : DataParts) (commands body f : List ℕ) (b : DataBack nwk app d commands body f) where
  is_data : IsData f
  is_data = data_read f b.reads

  whole_counter : full_counter_of d.fcnt (fcnt f) ≡ d.fcnt
  unfolding full_counter_of
  whole_counter = omega (arith, b.count)

  opened_back : data_opened (Some nwk) (Some app) d.fcnt f
      ≡ outcome (Ok tt) (data_header d commands ++ (body_of d.port commands body ++ mic_of f))
  opened_back =
      opened_both nwk app f d.fcnt is_data
      ∙ ap (λ (c : ℕ). outcome (Ok tt) (header f ++ (crypted (frame_key f nwk app) (header f) c (payload f) ++ mic_of f)))
      whole_counter
      ∙ ap₂ (λ (s t : List ℕ). outcome (Ok tt) (s ++ (t ++ mic_of f))) b.header_back b.payload_back

  -- where the MIC is right, the checked opening is the plain one
  checked_back : data_opened_checked nwk (Some app) d.fcnt f ≡ data_opened (Some nwk) (Some app) d.fcnt f
  unfolding data_opened_checked opened_tested data_passes data_opened
  checked_back =
      let under = opened_under (frame_key f (Some nwk) (Some app)) d.fcnt f in
      ap (on_data (λ x. opened_tested nwk (Some app) d.fcnt f) (unopened f)) b.reads
      ∙ ap (λ (t : Bool). pick t under (unopened f (refused 5)))
      (test_of_same (mic_of f) (data_mic_of nwk (covered f) d.fcnt) b.mic_back)
      ∙ sym (ap (on_data (λ x. under) (unopened f)) b.reads)

  -- of what `data_back` gives
  pub data_opens : DataOpens nwk app d commands body f
  data_opens =
      record {
        passes = (data_test nwk d.fcnt f).passes.back (is_data, b.mic_back);
        opens = opened_back;
        opens_checked = checked_back ∙ opened_back;
        opens_to_amend =
            accepted_opens f nwk app d.fcnt
            (record { data_frame = is_data; low_half = sym b.count; signed = sym b.mic_back });
      }
