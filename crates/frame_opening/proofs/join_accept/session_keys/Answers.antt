-- `session_keys` derives the keys of a join-accept, and hands on the refusal of any other frame.
-- Assumes nothing.
use Rattle.std.proofs.Common.{Ok, Err, ap, ◌∙◌, arith}
use Rattle.std.proofs.lemmas.Result.{err_from_is_err_and}
use Rattle.frame.specs.Refusals.{by_result}
use Rattle.frame.proofs.Others.{accept_there}
use Rattle.frame_opening.specs.SessionKeys.{derived_keys, session_keys_of}
use Rattle.frame_opening.proofs.OpeningLaws.{accept_length}
use Rattle.frame_opening.proofs.join_accept.session_keys.Goals as goal

pub returns-in_err-_length : goal.returns-in_err-_length
unfolding session_keys_of
returns-in_err-_length c =
    let a = c.args in
    let p = err_from_is_err_and c.from_residual.result c.from_residual.ensures.1 in
    rw (p.1, p.2) (ap (by_result (λ n. Ok (derived_keys a.app_key a.dev_nonce a.frame.now)) Err) c.in_err-_length.ensures)

pub derive_keys-requires : goal.derive_keys-requires
derive_keys-requires c = omega (arith, accept_length c.args.frame.now (accept_there _ c.in_ok-_length.ensures))

pub returns : goal.returns
unfolding session_keys_of
returns c =
    let a = c.args in
    ap Ok c.derive_keys.ensures
    ∙ ap (by_result (λ n. Ok (derived_keys a.app_key a.dev_nonce a.frame.now)) Err) c.in_ok-_length.ensures
