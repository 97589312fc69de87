-- `view::part_of` meets its contract: a part of a view that `View::of` made is that field of the frame (`ShownFields`).
-- Assumes nothing.
use Rattle.std.proofs.Common.{ap, ◌∙◌}
use Rattle.view.specs.Parts.{within}
use Rattle.view.specs.Viewed.{part_of}
use Rattle.view.specs.declared.View.{View}
use Rattle.view.proofs.ShownFields.{shows}
use Rattle.view.proofs.part_of.Goals as goal

pub returns : goal.returns
returns c =
    c.part.ensures ∙ ap (λ (v : View). part_of v c.args.field) c.of.ensures ∙ ap (within c.args.frame) (shows c.args.frame.now c.args.field)
