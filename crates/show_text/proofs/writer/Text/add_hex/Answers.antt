-- After each turn the digits of the bytes so far are added. Assumes nothing.
use mathlib.Core.Path.{ap}
use mathlib.Core.List.{[], ◌∷◌}
use Prim.Native.Nat.{ℕ}
use Rattle.show_text.specs.Text.{hex_of}
use Rattle.show_text.proofs.Digits.{hex_of_more}
use Rattle.show_text.proofs.Writing.{nothing, then, same}
use Rattle.show_text.proofs.writer.Text.add_hex.Goals as goal

pub loop-b-init : goal.loop-b-init
unfolding hex_of
loop-b-init c = nothing _

pub loop-b-preserved : goal.loop-b-preserved
unfolding hex_of
loop-b-preserved c =
    let two = then (same (ap (λ (x : ℕ). x ∷ []) c.digit.ensures) c.push.ensures)
    (same (ap (λ (x : ℕ). x ∷ []) c.digit-in-loop-b.ensures) c.push-in-loop-b.ensures) in
    same (hex_of_more _ _ c.loop-b-test.true) (then c.loop-b.invariant two)
