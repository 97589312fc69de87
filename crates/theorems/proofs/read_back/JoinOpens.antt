-- What was built passes its MIC test and opens: a join-request passes and gives its fields; a join-accept opens, checked, to bytes
-- that are read as a join-accept, pass and give its fields. What `JoinParts` shows of the parts, said of what the calls answer.
-- Assumes nothing.
use Rattle.std.specs.Prelude.{Err}
use Rattle.std.specs.Prelude.{Ok, true}
use mathlib.Core.Path.{◌≡◌, sym, ap, subst, ◌∙◌}
use mathlib.Core.Bool.{Bool}
use mathlib.Core.List.{List}
use Prim.Native.Nat.{ℕ}
use Rattle.base.specs.Bytes.{pick}
use Rattle.frame.specs.Conditions.{IsJoinAccept}
use Rattle.frame.specs.JoinFields.{request_fields_of, accept_fields_of, join_accept_fields_of}
use Rattle.frame.specs.Layout.{mic_of}
use Rattle.frame.specs.Reading.{read_of}
use Rattle.frame.specs.ReadingNumbers.{on_request, on_accept}
use Rattle.frame.specs.Refusals.{refused}
use Rattle.frame.specs.declared.parser.Frame.TheVariants.{JoinAccept}
use Rattle.frame.proofs.ReadingLaws.{request_read, accept_read}
use Rattle.frame_opening.specs.FrameOpening.{Outcome, outcome, unopened, join_passes, join_accept_test}
use Rattle.frame_opening.specs.CheckedOpening.{accept_tested, accept_opened_checked}
use Rattle.frame_security.specs.JoinAcceptCipher.{accept_decrypted}
use Rattle.frame_security.specs.Security.{covered, join_mic}
use Rattle.theorems.proofs.refusals.OpeningRefusals.{request_test, accept_test}
use Rattle.frame_security.proofs.MicCompared.{test_of_same}
use Rattle.frame_build.specs.JoinBuilding.{join_accept_length}
use Rattle.frame_build.specs.declared.creator.join.JoinAcceptParts.{JoinAcceptParts}
use Rattle.frame_build.specs.declared.creator.join.JoinRequestParts.{JoinRequestParts}
use Rattle.theorems.specs.ReadBack.{RequestReadsBack, built_fields, AcceptReadsBack}
use Rattle.theorems.proofs.read_back.JoinParts.{RequestBack, AcceptBack}

-- of what `join_request_back` gives
pub request_opens : (key : List ℕ) (j : JoinRequestParts) (f : List ℕ) → RequestBack key j f → RequestReadsBack key j f
request_opens key j f b =
    record {
      reads = b.reads;
      passes = (request_test key f).passes.back (request_read f b.reads, b.mic);
      fields = ap (on_request (Ok (request_fields_of f)) Err) b.reads ∙ ap Ok b.fields;
    }

module _ (key : List ℕ) (j : JoinAcceptParts) (channels f : List ℕ) (b : AcceptBack key j channels f (accept_decrypted key f)) where
  abbrev g : List ℕ
  g = accept_decrypted key f

  -- the checked opening accepts it, and leaves what decryption makes
  opened : accept_opened_checked key f ≡ outcome (Ok tt) g
  unfolding accept_opened_checked accept_tested join_passes
  opened =
      ap (on_accept (λ n. accept_tested key f) (unopened f)) b.reads
      ∙ ap (λ (t : Bool). pick t (outcome (Ok tt) g) (unopened f (refused 5)))
      (test_of_same (mic_of g) (join_mic key (covered g)) b.mic)

  left : g ≡ (accept_opened_checked key f).bytes
  left = sym (ap (λ (r : Outcome). r.bytes) opened)

  clear_fields : join_accept_fields_of g ≡ Ok (built_fields j channels)
  clear_fields = ap (on_accept (λ n. Ok (accept_fields_of g)) Err) b.clear_reads ∙ ap Ok b.fields

  clear_passes : join_accept_test key g ≡ (Ok true)
  clear_passes =
      let read : IsJoinAccept g (join_accept_length j) = accept_read g b.clear_reads in
      (accept_test key g).passes.back (subst (λ (n : ℕ). IsJoinAccept g n) (sym read.long) read, b.mic)

  -- of what `join_accept_back` gives
  pub accept_opens : AcceptReadsBack key j channels f
  accept_opens =
      record {
        reads = b.reads;
        opens = opened ∙ ap (outcome (Ok tt)) b.clear;
        clear_reads = subst (λ (l : List ℕ). read_of l ≡ Ok (JoinAccept (join_accept_length j))) left b.clear_reads;
        passes = subst (λ (l : List ℕ). join_accept_test key l ≡ (Ok true)) left clear_passes;
        fields = subst (λ (l : List ℕ). join_accept_fields_of l ≡ Ok (built_fields j channels)) left clear_fields;
      }
