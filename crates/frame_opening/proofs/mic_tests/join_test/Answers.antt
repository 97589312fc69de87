-- `join_test` tests the last four bytes against the MIC of those ahead of them.
-- Assumes nothing.
use mathlib.Core.Path.{ap, ◌∙◌}
use mathlib.Core.List.{List}
use Prim.Native.Nat.{ℕ}
use Rattle.frame_security.specs.Mic.{same_bytes}
use Rattle.frame.specs.Layout.{mic_of}
use Rattle.frame_security.specs.Security.{join_mic}
use Rattle.frame_opening.specs.FrameOpening.{join_passes}
use Rattle.frame_opening.proofs.OpeningLaws.{lent_covered}
use Rattle.frame_opening.proofs.mic_tests.join_test.Goals as goal

pub returns : goal.returns
unfolding join_passes
returns c =
    let f = c.args.frame.now in
    c.is_mic.ensures
    ∙ ap (λ (m : List ℕ). same_bytes (mic_of f) m)
    (c.calculate_mic-right.ensures ∙ ap (join_mic c.args.key) (lent_covered f))
