-- `fill` meets its contract: with the port known, the parts that are stored are those of the clear frame.
-- Assumes nothing.
use Rattle.std.specs.Prelude.{Some}
use mathlib.Core.Path.{refl, ap, ◌∙◌}
use native.Mathlib.Omega.{arith}
use Rattle.base.proofs.Put.{renamed}
use Rattle.frame_build.proofs.DataHeader.{clear_absent, clear_commands, clear_port}
use Rattle.frame_build.proofs.DataRefusals.{accepted, fill_absent, fill_commands, fill_port}
use borrow.Author.Rules.{rules}
use Rattle.frame_build.proofs.creator.data_frame.fill.Goals as goal

pub put_frame-requires : goal.put_frame-requires
put_frame-requires c =
    let ok = accepted _ _ _ _ c.requires in
    let room = fill_absent _ (search rules) _ _ _ ok c.in-None.is in
    (ok.clean, omega (arith, room), omega (arith, room))

pub put_frame-requires-then-p-eq0 : goal.put_frame-requires-then-p-eq0
put_frame-requires-then-p-eq0 c =
    let ok = accepted _ _ _ _ c.requires in
    let room = fill_commands _ (search rules) _ _ _ ok (c.in-Some.is ∙ ap Some c.if-p-eq0.true) in
    (ok.clean, omega arith, omega (arith, room))

pub returns-then-p-eq0 : goal.returns-then-p-eq0
returns-then-p-eq0 c = renamed c.put_frame-then-p-eq0.ensures (clear_commands _ _ _ _ _ c.if-p-eq0.true c.in-Some.is refl)

pub put_frame-requires-in-Some : goal.put_frame-requires-in-Some
put_frame-requires-in-Some c =
    let ok = accepted _ _ _ _ c.requires in
    let room = fill_port _ (search rules) _ _ _ ok _ c.if-p-eq0.false c.in-Some.is in
    (ok.clean, omega (arith, room), omega (arith, room))

pub returns-in-None : goal.returns-in-None
returns-in-None c = renamed c.put_frame.ensures (clear_absent _ _ _ _ c.in-None.is refl)

pub returns-else-p-eq0 : goal.returns-else-p-eq0
returns-else-p-eq0 c = renamed c.put_frame-in-Some.ensures (clear_port _ _ _ _ _ c.if-p-eq0.false c.in-Some.is refl)
