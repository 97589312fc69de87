-- `aes::encrypt` meets its contract: it expands the key, then works under the schedule.
-- Assumes nothing.
use mathlib.Core.Path.{ap, ◌∙◌}
use mathlib.Core.List.{List}
use Prim.Native.Nat.{ℕ}
use Rattle.aes.specs.Fips197.{cipher}
use Rattle.aes.proofs.encrypt.Goals as goal

pub returns : goal.returns
returns c =
    c.encrypt_under.ensures ∙ ap (λ (w : List ℕ). cipher w c.args.block) c.expand-schedule.ensures
