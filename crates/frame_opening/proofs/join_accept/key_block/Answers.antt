-- `key_block` stores each part in its place.
-- Assumes nothing.
use borrow.Author.Rules.{rules}
use Rattle.frame_opening.proofs.SessionLaws.{block_stored}
use Rattle.frame_opening.proofs.join_accept.key_block.Goals as goal

pub returns : goal.returns
returns c =
    let a = c.args in
    block_stored a.first a.app_nonce a.net_id a.dev_nonce (search rules) (search rules) (search rules)
    c.put.ensures.list c.put-2.ensures.list c.put-3.ensures.list
