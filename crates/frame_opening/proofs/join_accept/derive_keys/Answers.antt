-- `derive_keys` ciphers the two blocks under one schedule.
-- Assumes nothing.
use mathlib.Core.Path.{ap₂, ◌∙◌}
use mathlib.Core.List.{List}
use Prim.Native.Nat.{ℕ}
use Rattle.frame_opening.specs.SessionKeys.{derived_keys}
use Rattle.frame_opening.proofs.SessionLaws.{keys_of, session_key_lem}
use native.Mathlib.Omega.{arith}
use Rattle.base.proofs.StoringLaws.{run_inside}
use Rattle.frame_opening.proofs.join_accept.derive_keys.Goals as goal

pub returns : goal.returns
unfolding derived_keys
returns c =
    let a = c.args in
    let f = a.frame.now in
    let nonce = c.run_at-app_nonce.ensures ∙ run_inside 3 f 1 (omega (arith, c.requires)) in
    let id = c.run_at-net_id.ensures ∙ run_inside 3 f 4 (omega (arith, c.requires)) in
    ap₂ (λ (x y : List ℕ). keys_of x y)
    (session_key_lem 1 a.app_key a.dev_nonce f nonce id c.expand-schedule.ensures
    c.key_block-nwk_block.ensures c.encrypt_under-nwk_skey.ensures)
    (session_key_lem 2 a.app_key a.dev_nonce f nonce id c.expand-schedule.ensures
    c.key_block-app_block.ensures c.encrypt_under-app_skey.ensures)
