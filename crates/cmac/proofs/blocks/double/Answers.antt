-- `cmac::double` meets its contract, a law for each answer of the test on the top bit. Assumes nothing.
use mathlib.Core.Path.{sym, ap, ◌∙◌}
use mathlib.Core.List.{List}
use Prim.Native.Nat.{ℕ}
use lib.ListN.{set}
use Rattle.base.specs.Bytes.{at, ◌⊕◌}
use Rattle.cmac.proofs.DoublingLaws.{doubled_low, doubled_high}
use Rattle.cmac.proofs.blocks.double.Goals as goal

pub returns-then-x-lt128 : goal.returns-then-x-lt128
returns-then-x-lt128 c = c.shift-r.ensures ∙ sym (doubled_low c.args.x c.if-x-lt128.true)

pub returns : goal.returns
returns c =
    ap (λ (l : List ℕ). set l 15 (at l 15 ⊕ 0x87)) c.shift-r.ensures
    ∙ sym (doubled_high c.args.x c.if-x-lt128.false)
