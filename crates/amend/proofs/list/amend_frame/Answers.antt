-- `amend_frame` opens, applies the list and stores the frame where nothing was refused. Assumes nothing.
use Rattle.std.specs.Prelude.{Err}
use mathlib.Core.Path.{◌≡◌, ap, ◌∙◌}
use borrow.Author.Rules.{rules}
use lib.ListN.{length, take}
use Rattle.amend.specs.declared.amending.Open.{Open}
use Rattle.amend.proofs.ListLaws.{refused_opening, whole_list, refused_list}
use Rattle.amend.proofs.list.amend_frame.Goals as goal

pub returns-in_err-state : goal.returns-in_err-state
returns-in_err-state c =
    let args = c.args in
    let both = refused_opening args.frame.now args.nwk_skey args.app_skey args.counter args.amendments.now c.in_err-state.ensures in
    let same : c.from_residual.result ≡ Err c.in_err-state.field-0.0 = search rules in
    record { value = same ∙ both.0; frame_after = both.1 }

pub returns-in_err-amend_list : goal.returns-in_err-amend_list
returns-in_err-amend_list c =
    let args = c.args in
    let both = refused_list args.frame.now args.nwk_skey args.app_skey args.counter args.amendments.now c.in_ok-state.ensures
    c.in_err-amend_list.ensures.value in
    let same : c.from_residual-in_err-amend_list.result ≡ Err c.in_err-amend_list.field-0.0 = search rules in
    record { value = same ∙ both.0; frame_after = both.1 }

pub returns : goal.returns
returns c =
    let args = c.args in
    let f = args.frame.now in
    let both = whole_list f args.nwk_skey args.app_skey args.counter args.amendments.now c.in_ok-state.ensures
    c.in_ok-amend_list.ensures.value in record {
      value = both.0;
      frame_after = c.copy_from_slice.ensures.after
          ∙ ap (λ (s : Open). take (length f) s.frame) c.in_ok-amend_list.ensures.state_after
          ∙ both.1;
    }
