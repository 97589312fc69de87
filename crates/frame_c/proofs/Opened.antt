-- An opening promises its answer and the bytes together; the functions for C promise the two apart.
-- Assumes nothing.
use Rattle.std.specs.Prelude.{Result}
use Rattle.frame.specs.declared.refusals.Refusal.{Refusal}
use mathlib.Core.Path.{◌≡◌, ap, ◌∙◌}
use mathlib.Core.List.{List}
use Prim.Native.Nat.{ℕ}
use Rattle.frame_opening.specs.FrameOpening.{Outcome, outcome}
use Rattle.frame_c.specs.CAnswers.{done_answer_of}

pub opened : {o : (Result (Unit {0}) Refusal)} {e : List ℕ} {x y : Outcome} {r : ℕ} → outcome o e ≡ x → x ≡ y → r ≡ done_answer_of o
    → (r ≡ done_answer_of y.answer) × (e ≡ y.bytes)
opened p q a =
    (a ∙ ap (λ (z : Outcome). done_answer_of z.answer) (p ∙ q), ap (λ (z : Outcome). z.bytes) (p ∙ q))
