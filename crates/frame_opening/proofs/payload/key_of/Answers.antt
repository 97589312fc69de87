-- `key_of` chooses by the header, which ends where the payload begins.
-- Assumes nothing.
use mathlib.Core.Path.{sym, ◌∙◌}
use native.Mathlib.Omega.{arith}
use lib.ListN.{length-take}
use Rattle.frame_security.proofs.SecurityLaws.{key_network, key_application}
use Rattle.frame_opening.proofs.OpeningLaws.{fopts_place, mic_place, chosen}
use Rattle.frame_opening.proofs.payload.key_of.Goals as goal

pub header_end-start-requires : goal.header_end-start-requires
header_end-start-requires c =
    omega (arith, fopts_place c.args.frame.now c.args.fields c.requires.1, c.requires.0.most, c.requires.0.fits)

pub slice_bounds-by_network_key-end : goal.slice_bounds-by_network_key-end
slice_bounds-by_network_key-end c =
    simp length-take
    (omega (arith, mic_place c.args.frame.now c.args.fields c.requires.1, c.header_end-start.ensures, c.requires.0.least))

pub overflow_sub-fields : goal.overflow_sub-fields
overflow_sub-fields c = omega (arith, c.header_end-start.ensures)

pub returns-then-by_network_key : goal.returns-then-by_network_key
returns-then-by_network_key c =
    key_network _ _ _ _
    (sym
    (c.by_network_key.ensures
    ∙ chosen c.args.frame.now c.args.fields c.requires.1 _ c.header_end-start.ensures)
    ∙ c.if-by_network_key.true)

pub returns : goal.returns
returns c =
    key_application _ _ _ _
    (sym
    (c.by_network_key.ensures
    ∙ chosen c.args.frame.now c.args.fields c.requires.1 _ c.header_end-start.ensures)
    ∙ c.if-by_network_key.false)
