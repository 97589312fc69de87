-- `load` takes each field out. Assumes nothing.
use borrow.Author.Rules.{rules}
use Rattle.amend_held.proofs.HeldLaws.{loaded_is}
use Rattle.amend_held.proofs.buffer.load.Goals as goal

pub returns : goal.returns
returns c =
    loaded_is c.args.bytes (search rules)
    c.from-length.ensures
    c.run_at-frame.ensures
    c.run_at-nwk_schedule.ensures
    c.run_at-app_schedule.ensures
    c.run_at-chains.ensures
    c.run_at.ensures
    c.from_le_bytes-counter.ensures
