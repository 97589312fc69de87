-- The numbers that the functions for C add are given exactly where they are to (docs/RULES.md, Refusals, From C), and the low byte
-- of every answer to C is the number that the proved call gives, with its place above it.
-- Assumes nothing.
use Rattle.std.specs.Prelude.{Ok, Err, Result}
use Rattle.frame_opening.specs.SessionKeys.{derived_keys}
use Rattle.frame.specs.JoinFields.{request_fields_of, accept_fields_of}
use Rattle.frame.specs.Refusals.{refusal_in}
use mathlib.Core.Path.{◌≡◌, refl, ap, ◌∙◌}
use mathlib.Core.Bool.{Bool}
use mathlib.Core.List.{List}
use Prim.Native.Nat.{ℕ, ◌%◌, ◌^◌, ◌<◌}
use native.Mathlib.Omega.{arith}
use lib.Dec.{ltb}
use lib.ListN.{length}
use Rattle.frame.specs.JoinFields.{join_request_fields_of, join_accept_fields_of}
use Rattle.frame.specs.PackedReading.{numbered}
use Rattle.frame.specs.Reading.{read_of}
use Rattle.frame.specs.Refusals.{refused}
use Rattle.frame.specs.declared.refusals.Refusal.{Refusal}
use Rattle.base.specs.Bytes.{pick}
use Rattle.base.proofs.Cases.{by_bool}
use Rattle.frame_build.specs.DataFrames.{data_frame_of, built_of}
use Rattle.frame_build.specs.declared.creator.data_frame.DataParts.{DataParts}
use Rattle.frame_opening.specs.SessionKeys.{session_keys_of}
use Rattle.frame_c.specs.CGiven.{data_refused}
use Rattle.frame_c.specs.CStored.{stored_in}
use Rattle.theorems.specs.Exactly.{Exactly, Due, Clear}
use Rattle.theorems.specs.ByReading.{Needs, join_request, join_accept, AfterReading}
use Rattle.theorems.specs.BuildingConditions.{Answers}
use Rattle.theorems.specs.BridgeConditions.{kind_conditions, room_conditions, stored_refusal, number_in_c, place_in_c}
use Rattle.theorems.proofs.refusals.BuildingRefusals.{data_gives, answers}
use Rattle.theorems.proofs.refusals.FirstDue.{if_when, if_below, Gives, plain, or_else, tested, through, nothing_left}
use Rattle.theorems.proofs.refusals.ReadFirst.{on, on_through, clear_on, refusal_after}

-- ---- building a data frame

module _ (kind : ℕ) (d : DataParts) (commands body : List ℕ) (room : ℕ) where
  kind_gives : Gives plain (kind_conditions kind d commands body room) (data_refused kind d commands body room)
  unfolding data_refused
  kind_gives =
      or_else tt (if_when (ltb kind 2) (if_below kind 2))
      (or_else tt (if_when (ltb 5 kind) (if_below 5 kind)) (data_gives d commands body room))

  -- 4, 3, and then as building
  pub kind_refusals : (n : ℕ) → Exactly (data_refused kind d commands body room ≡ n) (Due (kind_conditions kind d commands body room) n)
  kind_refusals = kind_gives.exactly

  pub kind_answers : (nwk app : List ℕ)
      → Answers (kind_conditions kind d commands body room) (length (data_frame_of nwk app d commands body))
      (built_of (data_refused kind d commands body room) (length (data_frame_of nwk app d commands body)))
  kind_answers nwk app = answers (length (data_frame_of nwk app d commands body)) kind_gives

-- ---- answers of several bytes

module _ (count room : ℕ) where
  -- where nothing is refused, the room decides
  room_gives : {A : Type 0} (x : A) → Gives refused (room_conditions count room) (stored_refusal (Ok x) count room)
  room_gives x =
      rw (through refusal_in (ltb room count) (Err (refused 7)) (Ok x))
      (tested refused (λ r. r) (λ n. refl) tt (ltb room count) (if_when (ltb room count) (if_below room count)) nothing_left)

  -- where neither refuses, it is what was found
  clear_stored : {A : Type 0} (found : Result A Refusal) (x : A) → Clear found x → Clear (stored_in found count room) x
  clear_stored {A} (Ok y) x c e =
      let by : Bool → Result A Refusal = λ (b : Bool). pick b (Err (refused 7)) (Ok y) in
      by_bool (ltb room count)
      (λ t.
      let none : ⊥ = omega (arith, ap (λ (b : Bool). (refusal_in (by b)).number) t, ap (λ (r : Refusal). r.number) e) in
      absurd none)
      (λ t. ap by t ∙ c refl)
  clear_stored (Err r) x c e = c e

  -- what is stored by a call that reads a frame and does no more
  stored_after : {A : Type 0} (k : Needs) (f : List ℕ) (x : A)
      → AfterReading (λ r. r) refused k f (room_conditions count room) (stored_refusal (on k (Ok x) Err (read_of f)) count room)
      × Clear (stored_in (on k (Ok x) Err (read_of f)) count room) x
  stored_after k f x = (
    rw (on_through (λ s. stored_refusal s count room) k f (Ok x) Err (λ r. r) (λ r n. refl))
        (refusal_after k f (λ i. room_gives x)),
    clear_stored (on k (Ok x) Err (read_of f)) x (clear_on k f x),
  )

-- session keys, 32 bytes: reading, 7
pub keys_stored : (key dev_nonce_of f : List ℕ) (room : ℕ)
    → AfterReading (λ r. r) refused join_accept f (room_conditions 32 room) (stored_refusal (session_keys_of key dev_nonce_of f) 32 room)
    × Clear (stored_in (session_keys_of key dev_nonce_of f) 32 room) (derived_keys key dev_nonce_of f)
unfolding session_keys_of
keys_stored key dev_nonce_of f room = stored_after 32 room join_accept f (derived_keys key dev_nonce_of f)

-- the fields of a join-request, 22 bytes: reading, 7
pub request_stored : (f : List ℕ) (room : ℕ)
    → AfterReading (λ r. r) refused join_request f (room_conditions 22 room) (stored_refusal (join_request_fields_of f) 22 room)
    × Clear (stored_in (join_request_fields_of f) 22 room) (request_fields_of f)
request_stored f room = stored_after 22 room join_request f (request_fields_of f)

-- the fields of a join-accept, 42 bytes: reading, 7
pub accept_stored : (f : List ℕ) (room : ℕ)
    → AfterReading (λ r. r) refused join_accept f (room_conditions 42 room) (stored_refusal (join_accept_fields_of f) 42 room)
    × Clear (stored_in (join_accept_fields_of f) 42 room) (accept_fields_of f)
accept_stored f room = stored_after 42 room join_accept f (accept_fields_of f)

-- ---- the number in an answer, and the place above it

-- the low byte is the number
pub in_low_byte : (n value : ℕ) → n < 256 → number_in_c (numbered n value) ≡ n
unfolding numbered
in_low_byte n value h = omega arith

-- and what lies above it the place, modulo 2 ^ 56
pub in_high_bits : (n value : ℕ) → n < 256 → place_in_c (numbered n value) ≡ value % 2 ^ 56
unfolding numbered
in_high_bits n value h = omega arith
