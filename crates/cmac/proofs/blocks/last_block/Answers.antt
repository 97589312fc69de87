-- `cmac::last_block` meets its contract: the test chooses the block and its subkey. Assumes nothing.
use mathlib.Core.Path.{ap, ◌∙◌}
use Rattle.base.specs.Bytes.{xor_lists}
use Rattle.cmac.specs.Doubling.{doubled}
use Rattle.cmac.specs.LastBlock.{mixed}
use Rattle.cmac.proofs.LastBlockLaws.{ended_open, ended_full}
use Rattle.cmac.proofs.blocks.last_block.Goals as goal

pub returns-then-count-lt16 : goal.returns-then-count-lt16
returns-then-count-lt16 c =
    let a = c.args in
    let k2 = c.double-k2.ensures ∙ ap doubled c.double-k1.ensures in
    c.xored.ensures
    ∙ ap (xor_lists (mixed a.chain a.count 0x80)) k2
    ∙ ended_open a.l a.chain a.count c.if-count-lt16.true

pub returns : goal.returns
returns c =
    let a = c.args in
    c.xored-2.ensures
    ∙ ap (xor_lists a.chain) c.double-k1.ensures
    ∙ ended_full a.l a.chain a.count c.if-count-lt16.false
