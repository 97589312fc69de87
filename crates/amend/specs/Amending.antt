-- An open frame and what an amendment makes of it, for every state, also one that no call made (docs/RULES.md, Amendments).
-- `chained`, `signed_from`, `carried` and `resigned` model the code; `demand_3` in proofs/Demand3.antt ties them to sealing
-- afresh. The message of the MIC is B_0, one block, and then the frame up to its MIC, so that the frame's block
-- i is the message's block i + 1; place i of the chain values is what stands ahead of the frame's block i.
-- Assumes nothing.
use Rattle.std.specs.Prelude.{List, ℕ, zero, suc, ◌+◌, ◌-◌, ◌*◌, ◌/◌, leb, ltb, take, set, Result, Ok, Err}
use Rattle.std.proofs.lemmas.List.Edits.{sets}
use Rattle.base.specs.Bytes.{pick, part, ◌⊕◌, xor_lists}
use Rattle.aes.specs.Fips197.{cipher}
use Rattle.cmac.specs.Running.{resumed, absorbed, finished}
use Rattle.frame.specs.Layout.{payload_start_of}
use Rattle.frame.specs.Refusals.{refused}
use Rattle.frame.specs.declared.refusals.Refusal.{Refusal}
use Rattle.frame_security.specs.Security.{stream_at, payload_key_of}
use Rattle.amend.specs.declared.amending.Open.{Open}

-- a state by its fields
abbrev pub open_state : List ℕ → ℕ → List ℕ → List ℕ → ℕ → List ℕ → Open
open_state f n nwk app counter chains =
    record { frame = f; length = n; nwk_schedule = nwk; app_schedule = app; counter = counter; chains = chains }

-- where the payload ends and the MIC begins
abbrev pub stop : Open → ℕ
stop s = s.length - 4

-- how many bytes the payload has; in a state whose length is past 255 there is none
abbrev pub payload_length_of : Open → ℕ
payload_length_of s = pick (leb s.length 255) (stop s - payload_start_of s.frame) 0

-- 4.3.3 the schedule of the payload's key
abbrev pub schedule : Open → List ℕ
schedule s = payload_key_of s.frame (payload_length_of s) s.nwk_schedule s.app_schedule

-- the clear value v for payload byte k, encrypted
abbrev pub encrypted_byte : Open → ℕ → ℕ → ℕ
encrypted_byte s k v = v ⊕ stream_at (schedule s) s.frame s.counter k

-- the place of the last chain value, ahead of the last block of the n bytes that the MIC covers
abbrev pub last_place : ℕ → ℕ
last_place n = (n - 1) / 16

-- chain values from the one at place i on: k more of them, each from the one before it and the frame's block there
unfoldable pub chained : List ℕ → List ℕ → ℕ → ℕ → List ℕ → List ℕ
chained ks f zero i chains = chains
chained ks f (suc k) i chains =
    chained ks f k (i + 1)
    (sets chains (16 * (i + 1)) (cipher ks (xor_lists (part (16 * i) 16 chains) (part (16 * i) 16 f))))

-- the MIC from the last chain value on, of a frame whose first n bytes it covers
unfoldable pub signed_from : List ℕ → List ℕ → ℕ → List ℕ → List ℕ
signed_from ks f n chains =
    take 4
    (finished
    (absorbed (resumed ks (part (16 * last_place n) 16 chains)) (part (16 * last_place n) (n - 16 * last_place n) f)))

-- the frame f of which byte p was changed, and its chain values, signed anew from the block of that byte on
abbrev pub carried : List ℕ → List ℕ → ℕ → ℕ → List ℕ → List ℕ
carried ks f n p chains = chained ks f (last_place n - p / 16) (p / 16) chains

abbrev pub resigned : List ℕ → List ℕ → ℕ → ℕ → List ℕ → List ℕ
resigned ks f n p chains = sets f n (signed_from ks f n (carried ks f n p chains))

-- payload byte k set to the clear value v: the byte encrypted, the chain values from its block on, and the MIC
unfoldable pub amended_to : Open → ℕ → ℕ → Open
amended_to s k v =
    let p = payload_start_of s.frame + k in
    let f = set s.frame p (encrypted_byte s k v) in
    open_state (resigned s.nwk_schedule f (stop s) p s.chains) s.length s.nwk_schedule s.app_schedule
    s.counter (carried s.nwk_schedule f (stop s) p s.chains)

-- what an amendment gives: nothing or a refusal, and the state as it then stands
pub record Amended : Type 0 where
  pub answer : Result (Unit {0}) Refusal
  pub state : Open

-- a payload byte may be set where there is one; elsewhere 15, with the state as it was
unfoldable pub amend_of : Open → ℕ → ℕ → Amended
amend_of s k v =
    pick (ltb k (payload_length_of s)) (record { answer = Ok tt; state = amended_to s k v })
    (record { answer = Err (refused 15); state = s })
