-- `resign` carries the chain values on, signs from the last of them and stores the MIC. Assumes nothing.
use mathlib.Core.Path.{ap, ◌∙◌}
use lib.Seq.{sets}
use Rattle.amend.specs.Amending.{signed_from}
use Rattle.amend.proofs.amending.resign.Goals as goal

pub returns : goal.returns
returns c =
    let args = c.args in
    let f = args.frame.now in
    let carried = c.carry_on.ensures in record {
      chains_after = carried;
      frame_after = c.put.ensures.list
          ∙ ap (sets f args.n) (c.sign_from-mic.ensures ∙ ap (signed_from args.schedule.now f args.n) carried);
    }
