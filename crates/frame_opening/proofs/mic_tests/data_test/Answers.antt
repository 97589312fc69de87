-- `data_test` tests the last four bytes against the MIC of those ahead of them.
-- Assumes nothing.
use mathlib.Core.Path.{ap, ◌∙◌}
use mathlib.Core.List.{List}
use Prim.Native.Nat.{ℕ}
use Rattle.frame_security.specs.Mic.{same_bytes}
use Rattle.frame.specs.Layout.{mic_of}
use Rattle.frame_security.specs.Security.{data_mic_of}
use Rattle.frame_opening.specs.FrameOpening.{data_passes}
use Rattle.frame_opening.proofs.OpeningLaws.{lent_covered}
use Rattle.frame_opening.proofs.mic_tests.data_test.Goals as goal

pub returns : goal.returns
unfolding data_passes
returns c =
    let f = c.args.frame.now in
    c.is_mic.ensures
    ∙ ap (λ (m : List ℕ). same_bytes (mic_of f) m)
    (c.calculate_data_mic-right.ensures ∙ ap (λ (l : List ℕ). data_mic_of c.args.key l c.args.counter) (lent_covered f))
