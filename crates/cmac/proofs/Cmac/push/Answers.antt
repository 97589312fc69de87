-- `cmac::Cmac::push` meets its contract, by the law for each of its two cases. Assumes nothing.
use mathlib.Core.Path.{sym, ap, ◌∙◌}
use mathlib.Core.List.{List}
use Prim.Native.Nat.{ℕ}
use Rattle.cmac.specs.LastBlock.{mixed}
use Rattle.cmac.specs.Running.{running}
use Rattle.cmac.proofs.Turns.{push_open, push_full}
use Rattle.cmac.proofs.Cmac.push.Goals as goal

pub returns-then-self-lt16 : goal.returns-then-self-lt16
returns-then-self-lt16 c =
    let s = c.args.self.now in
    sym (push_open s.schedule s.chain s.filled c.args.byte c.if-self-lt16.true)

pub returns-else-self-lt16 : goal.returns-else-self-lt16
returns-else-self-lt16 c =
    let s = c.args.self.now in
    ap (λ (x : List ℕ). running s.schedule (mixed x 0 c.args.byte) 1) c.encrypt_under-next.ensures
    ∙ sym (push_full s.schedule s.chain s.filled c.args.byte c.if-self-lt16.false)
