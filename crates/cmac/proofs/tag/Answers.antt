-- `cmac::tag` meets its contract: a start, one part and the end give the tag. Assumes nothing.
use mathlib.Core.Path.{ap, ◌∙◌}
use Rattle.aes.specs.KeyExpansion.{key_expansion_of}
use Rattle.cmac.specs.declared.Cmac.{Cmac}
use Rattle.cmac.specs.Rfc4493.{mac}
use Rattle.cmac.specs.Running.{absorbed, finished}
use Rattle.cmac.proofs.CmacLaws.{one_part}
use Rattle.cmac.proofs.tag.Goals as goal

pub returns : goal.returns
unfolding mac
returns c =
    let a = c.args in
    let m = a.message.now in
    let taken = c.update.ensures ∙ ap (λ (s : Cmac). absorbed s m) c.new.ensures in
    c.finish.ensures ∙ ap finished taken ∙ one_part (key_expansion_of a.key) m
