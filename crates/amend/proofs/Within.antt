-- Where an offset lies inside the payload: the frame has at most 255 bytes and the byte stands ahead of the MIC. Then
-- what an amendment gives, inside and outside.
-- Assumes nothing.
use Rattle.std.specs.Prelude.{Ok, Err}
use mathlib.Core.Path.{◌≡◌, subst, ap, ap₂, ◌∙◌}
use mathlib.Core.Bool.{Bool}
use mathlib.Core.List.{List}
use Prim.Native.Nat.{ℕ, ◌+◌, ◌-◌, ◌≤◌, ◌<◌}
use native.Mathlib.Omega.{arith}
use lib.ListN.{set}
use borrow.Author.Tests.{le-leb, lt-leb, lt-ltb, le-ltb}
use Rattle.base.specs.Bytes.{pick}
use Rattle.base.proofs.Cases.{by_order}
use Rattle.frame.specs.Layout.{payload_start_of}
use Rattle.frame.specs.Refusals.{refused}
use Rattle.amend.specs.declared.amending.Open.{Open}
use Rattle.amend.specs.Amending.{Amended, open_state, stop, payload_length_of, encrypted_byte, carried, resigned, amended_to, amend_of}

pub length-within : (s : Open) → s.length ≤ 255 → payload_length_of s ≡ stop s - payload_start_of s.frame
length-within s h = ap (λ (t : Bool). pick t (stop s - payload_start_of s.frame) 0) (le-leb s.length 255 h)

pub length_past : (s : Open) → 255 < s.length → payload_length_of s ≡ 0
length_past s h = ap (λ (t : Bool). pick t (stop s - payload_start_of s.frame) 0) (lt-leb s.length 255 h)

pub inside : (s : Open) (k : ℕ) → k < payload_length_of s
    → (payload_start_of s.frame + k < s.length - 4) × (s.length ≤ 255)
inside s k h =
    by_order s.length 255
    (λ l.
    let e = length-within s l in
    let g : k < stop s - payload_start_of s.frame = subst (λ (n : ℕ). k < n) e h in
    (omega arith, l))
    (λ g.
    let e = length_past s g in
    let none : k < 0 = subst (λ (n : ℕ). k < n) e h in
    (omega arith, omega arith))

-- ---- what an amendment gives

-- by the place and the byte that the code computes
pub amended_is : (s : Open) (k v p e : ℕ) {f chains : List ℕ} → p ≡ payload_start_of s.frame + k → e ≡ encrypted_byte s k v
    → f ≡ resigned s.nwk_schedule (set s.frame p e) (stop s) p s.chains
    → chains ≡ carried s.nwk_schedule (set s.frame p e) (stop s) p s.chains
    → open_state f s.length s.nwk_schedule s.app_schedule s.counter chains ≡ amended_to s k v
unfolding amended_to
amended_is s k v p e hp he hf hc =
    ap₂ (λ (g h : List ℕ). open_state g s.length s.nwk_schedule s.app_schedule s.counter h) hf hc
    ∙ ap₂
    (λ (q d : ℕ).
    open_state (resigned s.nwk_schedule (set s.frame q d) (stop s) q s.chains) s.length s.nwk_schedule
    s.app_schedule s.counter (carried s.nwk_schedule (set s.frame q d) (stop s) q s.chains))
    hp
    he

-- a refused amendment gives the state that it was given
pub amend_outside : (s : Open) (k v : ℕ) → payload_length_of s ≤ k
    → amend_of s k v ≡ record { answer = Err (refused 15); state = s }
unfolding amend_of
amend_outside s k v h = simp (le-ltb k (payload_length_of s) h)

pub amend_inside : (s : Open) (k v : ℕ) → k < payload_length_of s
    → amend_of s k v ≡ record { answer = Ok tt; state = amended_to s k v }
unfolding amend_of
amend_inside s k v h = simp (lt-ltb k (payload_length_of s) h)

-- so whatever is not Ok is refused by 15 and gives the state that it was given
pub refused_keeps : (s : Open) (k v : ℕ) → ((amend_of s k v).answer ≡ Ok tt → ⊥)
    → amend_of s k v ≡ record { answer = Err (refused 15); state = s }
refused_keeps s k v n =
    by_order (payload_length_of s) k (amend_outside s k v)
    (λ l. absurd (n (ap (λ (r : Amended). r.answer) (amend_inside s k v l))))
