-- A list of amendments: each in turn gives what storing every byte and signing once from the lowest place gives; and testing
-- every offset first refuses the lists that amending in turn refuses.
-- Assumes nothing.
use Rattle.std.specs.Prelude.{Ok, Err}
use mathlib.Core.Path.{◌≡◌, refl, sym, ap, ap₂, ◌∙◌, subst}
use mathlib.Core.Bool.{Bool, true, false}
use mathlib.Core.List.{List, [], ◌∷◌}
use Prim.Native.Nat.{ℕ, ◌+◌, ◌-◌, ◌/◌, ◌%◌, ◌≤◌, ◌<◌, min}
use native.Mathlib.Omega.{arith}
use lib.ListN.{length, set}
use borrow.Author.Tests.{lt-ltb}
use Rattle.base.specs.Bytes.{pick}
use Rattle.base.proofs.Cases.{by_bool, by_order}
use Rattle.frame.specs.Layout.{payload_start_of}
use Rattle.frame.specs.Refusals.{refused, refusal_in, by_result}
use Rattle.frame_security.specs.Security.{payload_key_of}
use Rattle.amend.specs.declared.amending.Open.{Open}
use Rattle.amend.specs.Amending.{Amended, open_state, stop, payload_length_of, schedule, encrypted_byte, carried, resigned, amended_to, amend_of}
use Rattle.amend.specs.AmendmentLists.{amended_by, decoded_all, amend_all_of}
use Rattle.amend.specs.SignedOnce.{all_inside_of, amend_list_of, stored_all, lowest}
use Rattle.amend.proofs.Within.{inside, length-within, amend_inside, amend_outside}
use Rattle.amend.proofs.SignedAgain.{signed_state, Headed, Room, count_is, amended_again, headed_set, headed_one, count_kept}
use Rattle.amend.proofs.ListTurns.{inside_head, inside_more, some_inside}

-- ---- signing once

-- from a state that was signed already
on_signed : (s : Open) → Room s → (es : List ℕ) (f : List ℕ) (p : ℕ) → Headed s f → p < stop s → payload_start_of s.frame ≤ p
    → all_inside_of (payload_length_of s) es ≡ true
    → amended_by (signed_state s f p) (decoded_all es)
    ≡ signed_state s (stored_all (schedule s) s.frame s.counter (payload_start_of s.frame) f es)
    (lowest (payload_start_of s.frame) p es)
unfolding amended_by decoded_all stored_all lowest
on_signed s r [] f p h hp start all = refl
on_signed s r (e ∷ es) f p h hp start all =
    let k = e / 256 in
    let v = e % 256 in
    let q = payload_start_of s.frame + k in
    let b = encrypted_byte s k v in
    let both = inside_head (payload_length_of s) e es all in
    let t = signed_state s f p in
    let within = (inside s k both.0).0 in
    let there : k < payload_length_of t = subst (λ (n : ℕ). k < n) (sym (count_is s f h p hp start)) both.0 in
    ap (λ (x : Open). amended_by x (decoded_all es))
    (ap (λ (x : Amended). x.state) (amend_inside t k v there) ∙ amended_again s f h p hp start r k v within)
    ∙ on_signed s r es (set f q b) (min p q) (headed_set s f k b h) (omega arith) (omega arith) both.1

-- from any state, by a list that has an amendment in it
pub signed_once : (s : Open) (es : List ℕ) → Room s → all_inside_of (payload_length_of s) es ≡ true → 0 < length es
    → signed_state s (stored_all (schedule s) s.frame s.counter (payload_start_of s.frame) s.frame es)
    (lowest (payload_start_of s.frame) (stop s - 1) es)
    ≡ amended_by s (decoded_all es)
unfolding amended_by decoded_all stored_all lowest amended_to
signed_once s [] r all some = let none : ⊥ = omega arith in absurd none
signed_once s (e ∷ es) r all some =
    let k = e / 256 in
    let v = e % 256 in
    let start = payload_start_of s.frame in
    let q = start + k in
    let both = inside_head (payload_length_of s) e es all in
    let within = inside s k both.0 in
    let f = set s.frame q (encrypted_byte s k v) in
    let low : min (stop s - 1) q ≡ q = omega (arith, within.0) in
    ap (λ (p : ℕ). signed_state s (stored_all (schedule s) s.frame s.counter start f es) (lowest start p es)) low
    ∙ sym (on_signed s r es f q (headed_one s k (encrypted_byte s k v)) within.0 (omega arith) both.1)
    ∙ ap (λ (x : Amended). amended_by x.state (decoded_all es)) (sym (amend_inside s k v both.0))

-- by the places, the frame and the chain values that the code computes
pub list_is : (s : Open) (es : List ℕ) → Room s → all_inside_of (payload_length_of s) es ≡ true → 0 < length es
    → (count start low : ℕ) {g f chains : List ℕ}
    → count ≡ payload_length_of s → start ≡ payload_start_of s.frame → low ≡ lowest start (stop s - 1) es
    → g ≡ stored_all (payload_key_of s.frame count s.nwk_schedule s.app_schedule) s.frame s.counter start s.frame es
    → f ≡ resigned s.nwk_schedule g (stop s) low s.chains
    → chains ≡ carried s.nwk_schedule g (stop s) low s.chains
    → open_state f s.length s.nwk_schedule s.app_schedule s.counter chains ≡ amended_by s (decoded_all es)
list_is s es r all some count start low {g} hn hs hl hg hf hc =
    let place = payload_start_of s.frame in
    let low-is : low ≡ lowest place (stop s - 1) es = hl ∙ ap (λ (n : ℕ). lowest n (stop s - 1) es) hs in
    let g-is : g ≡ stored_all (schedule s) s.frame s.counter place s.frame es =
    hg
    ∙ ap₂
    (λ (n m : ℕ).
    stored_all (payload_key_of s.frame n s.nwk_schedule s.app_schedule) s.frame s.counter m s.frame es)
    hn hs in
    ap₂ (λ (x y : List ℕ). open_state x s.length s.nwk_schedule s.app_schedule s.counter y) hf hc
    ∙ ap₂ (λ (x : List ℕ) (p : ℕ). signed_state s x p) g-is low-is
    ∙ signed_once s es r all some

module _ (s : Open) (es : List ℕ) (all : all_inside_of (payload_length_of s) es ≡ true) (some : 0 < length es) where
  -- the payload has a byte
  pub start_inside : (payload_start_of s.frame + 0 < stop s) × (s.length ≤ 255)
  start_inside = inside s 0 (some_inside (payload_length_of s) es all some)

  -- and every offset lies in the array
  pub inside_frame : length s.frame ≡ 255 → all_inside_of (length s.frame - payload_start_of s.frame) es ≡ true
  inside_frame long =
      let within = start_inside in
      let fewer : payload_length_of s ≤ length s.frame - payload_start_of s.frame =
      omega (arith, length-within s within.1) in
      inside_more (payload_length_of s) (length s.frame - payload_start_of s.frame) fewer es all

-- ---- what the list gives

module _ (s : Open) (es : List ℕ) where
  pub list_inside : all_inside_of (payload_length_of s) es ≡ true
      → amend_list_of s es ≡ record { answer = Ok tt; state = amended_by s (decoded_all es) }
  unfolding amend_list_of
  list_inside h = simp h

  pub list_outside : all_inside_of (payload_length_of s) es ≡ false → amend_list_of s es ≡ record { answer = Err (refused 15); state = s }
  unfolding amend_list_of
  list_outside h = simp h

pub list_none : (s : Open) (es : List ℕ) → length es ≡ 0 → amend_list_of s es ≡ record { answer = Ok tt; state = s }
unfolding amend_list_of all_inside_of amended_by decoded_all
list_none s [] e = refl
list_none s (x ∷ es) e = let none : ⊥ = omega arith in absurd none

-- ---- against one amendment after the other, up to the first refusal

-- none is refused
turn_inside : (s : Open) (es : List ℕ) → all_inside_of (payload_length_of s) es ≡ true
    → amend_all_of s es ≡ record { answer = Ok tt; state = amended_by s (decoded_all es) }
unfolding amend_all_of amended_by decoded_all
turn_inside s [] h = refl
turn_inside s (e ∷ es) h =
    let a = amend_of s (e / 256) (e % 256) in
    let both = inside_head (payload_length_of s) e es h in
    let count = count_kept s (e / 256) (e % 256) both.0 in
    ap (λ (x : Amended). by_result (λ u. amend_all_of a.state es) (λ r. a) x.answer) (amend_inside s (e / 256) (e % 256) both.0)
    ∙ turn_inside a.state es (ap (λ (n : ℕ). all_inside_of n es) count ∙ both.1)

apart : true ≡ false → ⊥
apart e = let z : ◌≡◌ {A = ℕ} 1 0 = ap (λ (b : Bool). pick b 1 0) e in omega arith

-- one of them is
turn_outside : (s : Open) (es : List ℕ) → all_inside_of (payload_length_of s) es ≡ false → (amend_all_of s es).answer ≡ Err (refused 15)
unfolding amend_all_of all_inside_of
turn_outside s [] h = absurd (apart h)
turn_outside s (e ∷ es) h =
    let a = amend_of s (e / 256) (e % 256) in
    by_order (payload_length_of s) (e / 256)
    (λ l.
    ap (λ (x : Amended). (by_result (λ u. amend_all_of x.state es) (λ r. x) x.answer).answer) (amend_outside s (e / 256) (e % 256) l))
    (λ l.
    let count = count_kept s (e / 256) (e % 256) l in
    let rest : all_inside_of (payload_length_of s) es ≡ false =
    sym (ap (λ (b : Bool). pick b (all_inside_of (payload_length_of s) es) false) (lt-ltb (e / 256) (payload_length_of s) l)) ∙ h in
    ap (λ (x : Amended). (by_result (λ u. amend_all_of a.state es) (λ r. a) x.answer).answer) (amend_inside s (e / 256) (e % 256) l)
    ∙ turn_outside a.state es (ap (λ (n : ℕ). all_inside_of n es) count ∙ rest))

-- what both have in common: on a refusal the one gives the state as it was, the other what was amended by then
pub record Alike (a b : Amended) : Type 0 where
  pub answer : a.answer ≡ b.answer
  pub state : (refusal_in a.answer).number ≡ 0 → a.state ≡ b.state

pub list_alike : (s : Open) (es : List ℕ) → Alike (amend_list_of s es) (amend_all_of s es)
list_alike s es =
    by_bool (all_inside_of (payload_length_of s) es)
    (λ t.
    let e = list_inside s es t ∙ sym (turn_inside s es t) in
    record { answer = ap (λ (x : Amended). x.answer) e; state = λ z. ap (λ (x : Amended). x.state) e })
    (λ t.
    let e = list_outside s es t in
    record {
      answer = ap (λ (x : Amended). x.answer) e ∙ sym (turn_outside s es t);
      state = λ z. let none : ⊥ = omega (arith, ap (λ (x : Amended). (refusal_in x.answer).number) e, z) in absurd none;
    })
