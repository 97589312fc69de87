-- `aes::decrypt` meets its contract: it expands the key, then works under the schedule.
-- Assumes nothing.
use mathlib.Core.Path.{ap, ◌∙◌}
use mathlib.Core.List.{List}
use Prim.Native.Nat.{ℕ}
use Rattle.aes.specs.Fips197.{inv_cipher}
use Rattle.aes.proofs.decrypt.Goals as goal

pub returns : goal.returns
returns c =
    c.decrypt_under.ensures ∙ ap (λ (w : List ℕ). inv_cipher w c.args.block) c.expand-schedule.ensures
