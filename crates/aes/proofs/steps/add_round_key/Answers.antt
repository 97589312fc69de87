-- `aes::steps::add_round_key` meets its contract: each call gives the sum at its place.
-- Assumes nothing.
use Prim.Native.Nat.{◌+◌, ◌*◌}
use borrow.Author.Rules.{rules}
use Rattle.base.specs.Bytes.{at, ◌⊕◌}
use Rattle.aes.specs.Fips197.{add_round_key_of}
use Rattle.aes.proofs.Made.{made}
use Rattle.aes.proofs.steps.add_round_key.Goals as goal

pub returns : goal.returns
unfolding add_round_key_of
returns c =
    let a = c.args in
    made (λ i. at a.s i ⊕ at a.schedule.now (16 * a.round + i)) 16 c.from_fn.result c.from_fn.ensures.items
    (λ i y q l r. (search rules, search rules))
