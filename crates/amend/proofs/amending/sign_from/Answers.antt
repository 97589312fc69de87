-- `sign_from` resumes the MAC at the last block. Assumes nothing.
use Prim.Native.Nat.{◌-◌, ◌*◌}
use mathlib.Core.Path.{ap, ◌∙◌}
use borrow.Author.Rules.{rules}
use lib.ListN.{take}
use Rattle.base.specs.Bytes.{part}
use Rattle.base.proofs.StoringLaws.{run_inside}
use Rattle.cmac.specs.declared.Cmac.{Cmac}
use Rattle.cmac.specs.Running.{resumed, absorbed, finished}
use Rattle.amend.specs.Amending.{last_place, signed_from}
use Rattle.amend.proofs.amending.sign_from.Goals as goal

pub returns : goal.returns
unfolding signed_from
returns c =
    let args = c.args in
    let rest = part (16 * last_place args.n) (args.n - 16 * last_place args.n) args.frame.now in
    c.mic_of.ensures
    ∙ ap (take 4)
    (c.finish-tag.ensures
    ∙ ap finished
    (c.update.ensures
    ∙ ap (λ (s : Cmac). absorbed s rest)
    (c.resume.ensures ∙ ap (resumed args.schedule.now) (c.run_at-chain.ensures ∙ run_inside 16 args.chains.now (16 * last_place args.n) (search rules)))))
