-- `cmac::Cmac::finish` meets its contract, by what `encrypt_under` and `last_block` ensure. Assumes nothing.
use mathlib.Core.Path.{ap, ◌∙◌}
use mathlib.Core.List.{List}
use Prim.Native.Nat.{ℕ}
use Rattle.aes.specs.Fips197.{cipher}
use Rattle.cmac.specs.Rfc4493.{subkey1, subkey2}
use Rattle.cmac.specs.LastBlock.{ended}
use Rattle.cmac.specs.Running.{finished}
use Rattle.cmac.proofs.Cmac.finish.Goals as goal

pub returns : goal.returns
unfolding subkey1 subkey2 finished
returns c =
    let self = c.args.self in
    let last =
    c.last_block-last.ensures
    ∙ ap (λ (l : List ℕ). ended l self.chain self.filled) c.encrypt_under-l.ensures in
    c.encrypt_under.ensures ∙ ap (cipher self.schedule) last
