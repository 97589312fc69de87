-- Amending an opened frame gives the opened state of the frame that is sealed anew: the byte that is stored is the one
-- that encrypting the changed payload has there, and so what is covered is that frame's, and with it chain values and MIC.
-- Assumes nothing.
use mathlib.Core.Path.{◌≡◌, refl, sym, ap, ap₂, ◌∙◌}
use mathlib.Core.Bool.{Bool, true, false}
use mathlib.Core.List.{List, [], ◌∷◌, ◌++◌}
use Prim.Native.Nat.{ℕ, ◌+◌, ◌-◌, ◌%◌, ◌≤◌, ◌<◌}
use native.Mathlib.Nat.{suc-add, zero-add}
use native.Mathlib.Omega.{arith}
use lib.ListN.{length, take, drop, set, replicate, length-append, length-replicate, length-set, take-append-drop, get_or-append}
use lib.Seq.{drop_at, take-take, take-append-le, take-set-lt, get_or-take}
use Rattle.base.specs.Bytes.{pick, at, ◌⊕◌}
use Rattle.aes.specs.KeyExpansion.{key_expansion_of}
use Rattle.frame.specs.Conditions.{IsData}
use Rattle.frame.specs.Layout.{fport, fhdr_length_of, payload_start_of, header_end_of, header, payload}
use Rattle.frame_security.specs.Sealing.{sealed}
use Rattle.frame_security.specs.Security.{stream_at, covered, message, data_mic_of, frame_key, by_network_key_of}
use Rattle.frame.proofs.LayoutLaws.{placed, length-header, length-payload}
use Rattle.frame_security.proofs.SecurityLaws.{by_same, stream_at_same, crypted_twice, crypted-set}
use Rattle.amend.specs.Amending.{open_state, encrypted_byte, payload_length_of, last_place, carried, resigned, amended_to, schedule}
use Rattle.amend.specs.OpenFrame.{held, chains_of, opened_of}
use Rattle.amend.specs.AmendmentLists.{clear_of}
use Rattle.amend.proofs.Accepted.{Accepted}
use Rattle.amend.proofs.Carrying.{carried-message, resigned-message}
use Rattle.amend.proofs.Sealed.{covered_parts, clear_long, sealed_long, sealed-covered, sealed-accepted}
use Rattle.amend.proofs.Within.{length-within, amended_is}

-- a byte changed behind a front
set_behind : (s t : List ℕ) (k v : ℕ) → set (s ++ t) (length s + k) v ≡ s ++ set t k v
set_behind [] t k v = ap (λ (n : ℕ). set t n v) (zero-add k)
set_behind (a ∷ s) t k v =
    ap (λ (n : ℕ). set (a ∷ (s ++ t)) n v) (suc-add (length s) k)
    ∙ ap (λ (l : List ℕ). a ∷ l) (set_behind s t k v)

-- the schedule of the key that a test selects
pick_key : (t : Bool) (a b : List ℕ) → pick t (key_expansion_of a) (key_expansion_of b) ≡ key_expansion_of (pick t a b)
pick_key true a b = refl
pick_key false a b = refl

-- ---- the frame as a state holds it

module _ (f : List ℕ) (most : length f ≤ 255) where
  pub held_long : length (held f) ≡ 255
  unfolding held
  held_long =
      length-append f (replicate {A = ℕ} (255 - length f) 0)
      ∙ (omega (arith, length-replicate {A = ℕ} (255 - length f) 0))

  pub held_at : (i : ℕ) → i < length f → at (held f) i ≡ at f i
  unfolding held
  held_at i h = get_or-append f (replicate {A = ℕ} (255 - length f) 0) 0 i h

  pub held-take : (n : ℕ) → n ≤ length f → take n (held f) ≡ take n f
  unfolding held
  held-take n h = take-append-le n f (replicate {A = ℕ} (255 - length f) 0) h

  held_rest : (n : ℕ) → length f ≡ n → drop n (held f) ≡ replicate {A = ℕ} (255 - length f) 0
  unfolding held
  held_rest n e = drop_at f (replicate {A = ℕ} (255 - length f) 0) n e

module _ (f nwk app : List ℕ) (counter : ℕ) (h : IsData f) where
  held_start : payload_start_of (held f) ≡ payload_start_of f
  held_start = ap (λ (b : ℕ). 7 + b % 16 + 2) (held_at f h.most 5 (omega (arith, h.least)))

  -- as many bytes may be amended as the payload has
  pub payload_count : payload_length_of (opened_of f nwk app counter) ≡ length (payload f)
  unfolding opened_of
  payload_count =
      length-within (opened_of f nwk app counter) h.most
      ∙ ap (λ (n : ℕ). length f - 4 - n) held_start
      ∙ omega (arith, length-payload f)

module _ (f nwk app : List ℕ) (counter k v : ℕ) (a : Accepted f nwk counter) (inside : k < length (payload f)) where
  h : IsData f
  h = a.data_frame

  abbrev key : List ℕ
  key = frame_key f nwk app

  abbrev place : ℕ
  place = header_end_of f + k

  abbrev byte : ℕ
  byte = v ⊕ stream_at (key_expansion_of key) (header f) counter k

  abbrev g : List ℕ
  g = sealed nwk app counter (header f) (set (clear_of f nwk app counter) k v)

  same_length : length (set (clear_of f nwk app counter) k v) ≡ length (payload f)
  same_length = length-set (clear_of f nwk app counter) k v ∙ clear_long f nwk app counter

  start_is : header_end_of f ≡ payload_start_of f
  start_is = omega (arith, length-payload f)

  place_is : place ≡ payload_start_of (held f) + k
  place_is = ap (λ (n : ℕ). n + k) (start_is ∙ sym (held_start f nwk app counter h))

  header_at : (i : ℕ) → i < header_end_of f → at (held f) i ≡ at (header f) i
  header_at i l =
      held_at f h.most i (omega (arith, (placed f h).payload, (placed f h).mic))
      ∙ sym (get_or-take (header_end_of f) f i 0 l)

  port_is : fport (held f) ≡ fport (header f)
  port_is =
      let five = header_at 5 (omega (arith, (placed f h).fixed, (placed f h).fopts)) in
      let five' = held_at f h.most 5 (omega (arith, h.least)) in
      header_at (1 + fhdr_length_of (held f)) (omega (arith, start_is, five'))
      ∙ ap (λ (b : ℕ). at (header f) (1 + (7 + b % 16))) five

  front_is : take 5 (held f) ≡ take 5 (header f)
  front_is =
      held-take f h.most 5 (omega (arith, h.least))
      ∙ sym (take-take 5 (header_end_of f) f (omega (arith, (placed f h).fixed, (placed f h).fopts)))

  byte_is : byte ≡ encrypted_byte (opened_of f nwk app counter) k v
  unfolding opened_of
  byte_is =
      let chosen : by_network_key_of (held f) (payload_length_of (opened_of f nwk app counter)) ≡ by_network_key_of (header f) (length (payload f)) =
      ap (by_network_key_of (held f)) (payload_count f nwk app counter h)
      ∙ by_same (held f) (header f) (length (payload f)) port_is in
      let ks : schedule (opened_of f nwk app counter) ≡ key_expansion_of key =
      ap (λ (b : Bool). pick b (key_expansion_of nwk) (key_expansion_of app)) chosen
      ∙ pick_key (by_network_key_of (header f) (length (payload f))) nwk app in
      sym
      (ap (λ (w : List ℕ). v ⊕ stream_at w (held f) counter k) ks
      ∙ ap (λ (n : ℕ). v ⊕ n) (stream_at_same (held f) (header f) front_is (key_expansion_of key) counter k))

  covered-held : take (length f - 4) (held f) ≡ covered f
  covered-held = held-take f h.most (length f - 4) (omega arith)

  -- what is covered after the change
  covered_is : take (length f - 4) (set (held f) place byte) ≡ covered g
  covered_is =
      let clear = clear_of f nwk app counter in
      let there : header_end_of f + k ≡ length (header f) + k = ap (λ (n : ℕ). n + k) (sym (length-header f)) in
      take-set-lt (length f - 4) (held f) place byte (omega (arith, length-payload f, (placed f h).payload))
      ∙ ap (λ (l : List ℕ). set l place byte) (covered-held ∙ sym (covered_parts f h))
      ∙ ap (λ (n : ℕ). set (header f ++ payload f) n byte) there
      ∙ set_behind (header f) (payload f) k byte
      ∙ ap (λ (l : List ℕ). header f ++ set l k byte) (sym (crypted_twice key (header f) counter (payload f)))
      ∙ ap (λ (l : List ℕ). header f ++ l)
      (sym (crypted-set key (header f) counter clear k v (omega (arith, clear_long f nwk app counter))))
      ∙ sym (sealed-covered f nwk app counter h (set clear k v) same_length)

  pub again : Accepted g nwk counter
  again = sealed-accepted f nwk app counter h (set (clear_of f nwk app counter) k v) same_length a.low_half

  long_is : length g ≡ length f
  long_is = sealed_long f nwk app counter h (set (clear_of f nwk app counter) k v) same_length

  in_front : 5 ≤ place
  in_front = omega (arith, (placed f h).fixed, (placed f h).fopts)

  below : place < length f - 4
  below = omega (arith, length-payload f, (placed f h).payload)

  chains_are : carried (key_expansion_of nwk) (set (held f) place byte) (length f - 4) place
      (chains_of (key_expansion_of nwk) (message (covered f) counter) (last_place (length f - 4)))
      ≡ chains_of (key_expansion_of nwk) (message (covered g) counter) (last_place (length f - 4))
  chains_are =
      let n = length f - 4 in
      let ks = key_expansion_of nwk in
      ap (λ (m : List ℕ). carried ks (set (held f) place byte) n place (chains_of ks (message m counter) (last_place n))) (sym covered-held)
      ∙ carried-message (held f) counter n place byte in_front below (omega (arith, h.most)) (omega (arith, held_long f h.most, h.most)) ks
      ∙ ap (λ (m : List ℕ). chains_of ks (message m counter) (last_place n)) covered_is

  frame_is : resigned (key_expansion_of nwk) (set (held f) place byte) (length f - 4) place
      (chains_of (key_expansion_of nwk) (message (covered f) counter) (last_place (length f - 4)))
      ≡ held g
  unfolding held
  frame_is =
      let n = length f - 4 in
      let ks = key_expansion_of nwk in
      let room : length f - 4 + 4 ≡ length f = omega (arith, h.least) in
      let whole : covered g ++ data_mic_of nwk (covered g) counter ≡ g =
      ap (λ (m : List ℕ). covered g ++ m) again.signed ∙ take-append-drop (length g - 4) g in
      let rest : drop (n + 4) (held f) ≡ replicate {A = ℕ} (255 - length g) 0 =
      held_rest f h.most (n + 4) (sym room) ∙ ap (λ (l : ℕ). replicate {A = ℕ} (255 - l) 0) (sym long_is) in
      ap (λ (m : List ℕ). resigned ks (set (held f) place byte) n place (chains_of ks (message m counter) (last_place n))) (sym covered-held)
      ∙ resigned-message (held f) counter n place byte in_front below (omega (arith, h.most)) (omega (arith, held_long f h.most, h.most)) nwk
      (omega (arith, held_long f h.most, h.most, room))
      ∙ ap₂ (λ (m r : List ℕ). m ++ data_mic_of nwk m counter ++ r) covered_is rest
      ∙ ap (λ (l : List ℕ). l ++ replicate {A = ℕ} (255 - length g) 0) whole

  pub amended_opened : amended_to (opened_of f nwk app counter) k v ≡ opened_of g nwk app counter
  unfolding opened_of
  amended_opened =
      sym (amended_is (opened_of f nwk app counter) k v place byte place_is byte_is refl refl)
      ∙ ap₂
      (λ (x y : List ℕ). open_state x (length f) (key_expansion_of nwk) (key_expansion_of app) counter y)
      frame_is
      chains_are
      ∙ ap
      (λ (n : ℕ).
      open_state (held g) n (key_expansion_of nwk) (key_expansion_of app) counter
      (chains_of (key_expansion_of nwk) (message (covered g) counter) (last_place (n - 4))))
      (sym long_is)
