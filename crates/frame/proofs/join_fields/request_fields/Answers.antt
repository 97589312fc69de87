-- `frame::join_fields::request_fields` meets its contract. Each field is what its own reader ensures.
-- Assumes nothing.
use Rattle.frame.specs.JoinFields.{request_fields_of}
use native.Mathlib.Omega.{arith}
use mathlib.Core.Path.{◌∙◌}
use Rattle.base.proofs.StoringLaws.{run_inside}
use Rattle.frame.proofs.join_fields.request_fields.Goals as goal

pub returns : goal.returns
unfolding request_fields_of
returns c =
    let f = c.args.frame.now in
    rw (
      c.run_at-app_eui.ensures ∙ run_inside 8 f 1 (omega (arith, c.requires)),
      c.run_at-dev_eui.ensures ∙ run_inside 8 f 9 (omega (arith, c.requires)),
      c.run_at-dev_nonce.ensures ∙ run_inside 2 f 17 (omega (arith, c.requires)),
      c.run_at-mic.ensures ∙ run_inside 4 f 19 (omega (arith, c.requires)),
    )
