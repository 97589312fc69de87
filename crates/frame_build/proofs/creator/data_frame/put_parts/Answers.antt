-- `put_parts` meets its contract: four runs stored one after another are one run.
-- Assumes nothing.
use borrow.Author.Rules.{rules}
use Rattle.base.proofs.Put.{then}
use Rattle.base.proofs.StoringLaws.{fitted}
use Rattle.frame_build.proofs.creator.data_frame.put_parts.Goals as goal

pub returns : goal.returns
returns c =
    let one = fitted c.put-a.ensures (search rules) in
    let two = fitted c.put-b.ensures (search rules) in
    let three = fitted c.put-c.ensures (search rules) in
    then (then (then one two) three) (fitted c.put.ensures (search rules))
