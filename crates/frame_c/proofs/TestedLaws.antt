-- A MIC test promises one answer, of which the functions for C give the number and the byte.
-- Assumes nothing.
use Rattle.frame.specs.declared.refusals.Refusal.{Refusal}
use Rattle.std.specs.Prelude.{Bool, Result}
use mathlib.Core.Path.{◌≡◌, ap, ◌∙◌}
use Prim.Native.Nat.{ℕ}
use Rattle.frame_c.specs.CAnswers.{test_answer_of, passes_of}

pub tested : {t u : Result Bool Refusal} (was : ℕ) {r x : ℕ} → t ≡ u → r ≡ test_answer_of t → x ≡ passes_of t was
    → (r ≡ test_answer_of u) × (x ≡ passes_of u was)
tested was p a b = (a ∙ ap test_answer_of p, b ∙ ap (λ (t : Result Bool Refusal). passes_of t was) p)
