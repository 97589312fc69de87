-- `build_join_request` meets its contract: the fields are stored one after another, and the MIC behind them.
-- Assumes nothing.
use mathlib.Core.Path.{ap, ◌∙◌}
use Rattle.std.specs.Prelude.{Err}
use Rattle.frame.specs.Refusals.{allowed}
use native.Mathlib.Omega.{arith}
use borrow.Author.Rules.{rules}
use Rattle.base.proofs.Put.{put_length}
use Rattle.frame_build.proofs.DataBuiltLaws.{not_built, built}
use Rattle.frame_build.proofs.JoinBuiltLaws.{signed_put}
use Rattle.frame_build.proofs.JoinBodies.{request_refused, request_accepted, length_request}
use Rattle.frame_build.proofs.creator.join.build_join_request.Goals as goal

pub returns-then-out-lt-JOIN_REQUEST_LEN-clause-builds : goal.returns-then-out-lt-JOIN_REQUEST_LEN-clause-builds
returns-then-out-lt-JOIN_REQUEST_LEN-clause-builds c =
    not_built (ap Err c.of.ensures ∙ ap allowed (request_refused _ c.if-out-lt-JOIN_REQUEST_LEN.true))

pub sign-past-requires : goal.sign-past-requires
sign-past-requires c =
    omega
    (arith, c.fill_request-n.ensures.next, put_length c.fill_request-n.ensures, length_request c.args.j (search rules) (search rules) (search rules))

pub returns-clause-builds : goal.returns-clause-builds
returns-clause-builds c =
    built (ap allowed (request_accepted _ c.if-out-lt-JOIN_REQUEST_LEN.false))
    (signed_put _ c.fill_request-n.ensures c.sign-past.ensures
    (omega (arith, length_request c.args.j (search rules) (search rules) (search rules))))
