-- `read_numbers` answers what the step is, and leaves the six numbers so.
-- Assumes nothing.
use Rattle.std.proofs.Common.{◌≡◌, Bool, List, ℕ, ℤ, Result, Ok, refl, sym, ap, ◌∙◌}
use Rattle.std.proofs.lemmas.Result.{err_from_is_err_and}
use Rattle.frame.specs.declared.refusals.Refusal.{Refusal}
use Rattle.mac_commands.specs.Commands.{RawStep, raw_step_at, step_of, step_at}
use Rattle.mac_commands.proofs.StepLaws.{raw_row}
use Rattle.command_numbers.proofs.NumberLaws.{numbers_read}
use Rattle.frame_c.specs.CCommands.{step_next, step_into}
use Rattle.frame_c.proofs.commands.read_numbers.Goals as goal

-- what is right of the raw step is right of the step
stepped : (up : Bool) (s : List ℕ) (i : ℕ) (was : List ℤ) {x : RawStep} {r : Result ℕ Refusal} {e : List ℤ} → x ≡ raw_step_at up s i
    → r ≡ step_next (step_of x) → e ≡ step_into (step_of x) was
    → (r ≡ step_next (step_at up s i)) × (e ≡ step_into (step_at up s i) was)
unfolding step_at
stepped up s i was p a b =
    (a ∙ ap (λ (x : RawStep). step_next (step_of x)) p, b ∙ ap (λ (x : RawStep). step_into (step_of x) was) p)

pub returns-in_err-step : goal.returns-in_err-step
returns-in_err-step c =
    let p = err_from_is_err_and c.from_residual.result c.from_residual.ensures.1 in
    let both = stepped _ _ _ c.args.command.now c.in_err-step.ensures refl refl in
    record { value = rw (p.1, p.2) both.0; command_after = both.1 }

pub returns-in-Some : goal.returns-in-Some
returns-in-Some c =
    let found = ap Ok (sym c.in-Some.is) ∙ c.in_ok-step.ensures in
    let both = stepped _ _ _ c.args.command.now found refl
    (c.numbers_of.ensures ∙ numbers_read _ _ (raw_row _ _ _ (sym found))) in
    record { value = both.0; command_after = both.1 }

pub returns-in-None : goal.returns-in-None
returns-in-None c =
    let both = stepped _ _ _ c.args.command.now (ap Ok (sym c.in-None.is) ∙ c.in_ok-step.ensures) refl refl in
    record { value = both.0; command_after = both.1 }
