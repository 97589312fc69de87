-- `store` stores each field behind the one before it. Assumes nothing.
use mathlib.Core.Path.{sym}
use borrow.Author.Rules.{rules}
use Rattle.amend_held.proofs.HeldLaws.{Sized, stored_runs}
use Rattle.amend_held.proofs.buffer.store.Goals as goal

-- the array of chain values, four stores after it was copied
pub slice_bounds-put-end-10 : goal.slice_bounds-put-end-10
slice_bounds-put-end-10 c =
    let sized : Sized c.args.state = record { frame = search rules; nwk = search rules; app = search rules; chains = search rules } in
    sym sized.chains

pub returns : goal.returns
returns c =
    let sized : Sized c.args.state = record { frame = search rules; nwk = search rules; app = search rules; chains = search rules } in
    stored_runs c.args.state sized _ (search rules)
    c.put.ensures.list
    c.put-2.ensures.list
    c.put-3.ensures.list
    c.put-4.ensures.list
    c.put-5.ensures.list
    c.put-6.ensures.list
    c.to_le_bytes-counter.ensures
