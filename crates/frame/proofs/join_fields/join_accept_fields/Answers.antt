-- `frame::join_fields::join_accept_fields` meets its contract: a join-accept that was read is long enough for its fields.
-- Assumes nothing.
use Rattle.std.proofs.Common.{arith, ⊎_elim}
use Rattle.frame.proofs.Others.{accept_there}
use Rattle.frame.proofs.ReadingLaws.{accept_read}
use Rattle.frame.proofs.join_fields.join_accept_fields.Goals as goal

pub accept_fields-requires : goal.accept_fields-requires
accept_fields-requires c =
    let long = accept_read _ (accept_there _ c.in_ok-read_as_join_accept.ensures) in
    ⊎_elim (λ e. omega (arith, long.long)) (λ e. omega (arith, long.long)) long.either
