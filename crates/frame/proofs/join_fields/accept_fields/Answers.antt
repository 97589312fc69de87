-- `frame::join_fields::accept_fields` meets its contract. Each field is what its own reader ensures.
-- Assumes nothing.
use Rattle.frame.specs.JoinFields.{accept_fields_of}
use native.Mathlib.Omega.{arith}
use mathlib.Core.Path.{◌∙◌}
use Rattle.base.proofs.StoringLaws.{run_inside}
use Rattle.frame.proofs.join_fields.accept_fields.Goals as goal

pub returns : goal.returns
unfolding accept_fields_of
returns c =
    let pre = c.requires in
    let f = c.args.frame.now in
    rw (
      c.run_at-app_nonce.ensures ∙ run_inside 3 f 1 (omega (arith, pre)),
      c.run_at-net_id.ensures ∙ run_inside 3 f 4 (omega (arith, pre)),
      c.run_at-dev_addr.ensures ∙ run_inside 4 f 7 (omega (arith, pre)),
      c.cf_list-list.ensures,
    )
