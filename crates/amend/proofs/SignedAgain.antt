-- A frame that was signed, of which a byte is changed and which is signed again: the same as the byte changed first and one
-- signing, from the lower of both places on. So of an open frame: amending what was signed is signing once.
-- Assumes nothing.
use mathlib.Core.Path.{◌≡◌, refl, sym, ap, ap₂, ◌∙◌}
use mathlib.Core.Bool.{Bool}
use mathlib.Core.List.{List, ◌++◌}
use Prim.Native.Nat.{ℕ, ◌+◌, ◌-◌, ◌*◌, ◌/◌, ◌%◌, ◌≤◌, ◌<◌, min}
use native.Mathlib.Omega.{arith}
use lib.Dec.{leb}
use lib.ListN.{length, take, drop, set, length-set}
use lib.Seq.{sets, sets-eq, length-sets, length-take-le, take-take, take-set-le, take-set-lt, drop-set-lt, get_or-take}
use Rattle.base.specs.Bytes.{pick, at, part, ◌⊕◌}
use Rattle.base.proofs.Cases.{by_order}
use Rattle.base.proofs.Parts.{part-take}
use Rattle.aes.proofs.CipherLaws.{cipher_long}
use Rattle.cmac.specs.declared.Cmac.{Cmac}
use Rattle.cmac.specs.Running.{resumed, absorbed, finished}
use Rattle.frame.specs.Layout.{fport, payload_start_of}
use Rattle.frame_security.specs.Security.{stream_at, by_network_key_of}
use Rattle.frame_security.proofs.SecurityLaws.{stream_at_same, by_same}
use Rattle.amend.specs.declared.amending.Open.{Open}
use Rattle.amend.specs.Amending.{Amended, open_state, stop, payload_length_of, schedule, encrypted_byte, last_place, signed_from, carried, resigned, amended_to, amend_of}
use Rattle.amend.proofs.Stores.{take-sets, drop-sets}
use Rattle.amend.proofs.Within.{inside, amend_inside}
use Rattle.amend.proofs.Merging.{chained_blocks, merged_down, merged_up, signed_same}

-- ---- the frame and its chain values

finished_long : (s : Cmac) → length (finished s) ≡ 16
unfolding finished
finished_long s = cipher_long s.schedule _

signed_long : (ks f : List ℕ) (n : ℕ) (c : List ℕ) → length (signed_from ks f n c) ≡ 4
unfolding signed_from
signed_long ks f n c =
    let i = 16 * last_place n in
    let s = absorbed (resumed ks (part i 16 c)) (part i (n - i) f) in
    length-take-le 4 (finished s) (omega (arith, finished_long s))

-- blocks of two frames that have the same first n bytes
block_same : (f g : List ℕ) (n j : ℕ) → take n f ≡ take n g → 16 * j + 16 ≤ n → part (16 * j) 16 f ≡ part (16 * j) 16 g
block_same f g n j e h =
    sym (part-take (16 * j) 16 n f h) ∙ ap (part (16 * j) 16) e ∙ part-take (16 * j) 16 n g h

-- the frame f signed from place p on; then byte q of it set to b, and signed from there
module _ (ks c f : List ℕ) (n p q b : ℕ) (long : length c ≡ 256) (top : n ≤ 251) (room : n + 4 ≤ length f) (hp : p < n) (hq : q < n) where
  abbrev first_mic : List ℕ
  first_mic = signed_from ks f n (carried ks f n p c)

  abbrev signed : List ℕ
  signed = resigned ks f n p c

  abbrev again : List ℕ
  again = set (resigned ks f n p c) q b

  abbrev once : List ℕ
  once = set f q b

  take_same : take n again ≡ take n once
  take_same =
      take-set-lt n signed q b hq
      ∙ ap (λ (l : List ℕ). set l q b) (take-sets n f n first_mic (omega arith))
      ∙ sym (take-set-lt n f q b hq)

  drop_same : drop (n + 4) again ≡ drop (n + 4) once
  drop_same =
      drop-set-lt (n + 4) signed q b (omega arith)
      ∙ drop-sets (n + 4) f n first_mic (omega (arith, signed_long ks f n (carried ks f n p c)))
      ∙ sym (drop-set-lt (n + 4) f q b (omega arith))

  ahead_same : (j : ℕ) → j < q / 16 → part (16 * j) 16 f ≡ part (16 * j) 16 once
  ahead_same j l = block_same f once q j (sym (take-set-le q f q b (omega arith))) (omega arith)

  second : carried ks again n q (carried ks f n p c) ≡ carried ks once n q (carried ks f n p c)
  second =
      chained_blocks ks again once (last_place n - q / 16) (q / 16) (carried ks f n p c)
      (λ j l. block_same again once n j take_same (omega arith))

  chains_merged : carried ks again n q (carried ks f n p c) ≡ carried ks once n (min p q) c
  chains_merged =
      second
      ∙ by_order p q
      (λ l.
      let m : p ≡ min p q = omega arith in
      merged_up ks f once c (last_place n) (p / 16) (q / 16) long (omega arith) (omega arith) (omega arith) (omega arith) ahead_same
      ∙ ap (λ (r : ℕ). carried ks once n r c) m)
      (λ g.
      let m : q ≡ min p q = omega arith in
      merged_down ks f once c (last_place n) (p / 16) (q / 16) long (omega arith) (omega arith) (omega arith) (omega arith)
      ∙ ap (λ (r : ℕ). carried ks once n r c) m)

  frame_merged : resigned ks again n q (carried ks f n p c) ≡ resigned ks once n (min p q) c
  frame_merged =
      let x = signed_from ks again n (carried ks again n q (carried ks f n p c)) in
      let y = signed_from ks once n (carried ks once n (min p q) c) in
      let same : x ≡ y =
      signed_same ks again once n (carried ks again n q (carried ks f n p c)) (omega arith) take_same
      ∙ ap (signed_from ks once n) chains_merged in
      let ly : length y ≡ 4 = signed_long ks once n (carried ks once n (min p q) c) in
      let la : length again ≡ length f = length-set signed q b ∙ length-sets f n first_mic in
      let lo : length once ≡ length f = length-set f q b in
      ap (sets again n) same
      ∙ sets-eq y again n (omega arith)
      ∙ ap (λ (k : ℕ). take n again ++ y ++ drop (n + k) again) ly
      ∙ ap₂ (λ (s t : List ℕ). s ++ y ++ t) take_same drop_same
      ∙ sym (ap (λ (k : ℕ). take n once ++ y ++ drop (n + k) once) ly)
      ∙ sym (sets-eq y once n (omega arith))

-- ---- the state

-- the state s with the frame f in it, signed anew from place p on
abbrev pub signed_state : Open → List ℕ → ℕ → Open
signed_state s f p =
    open_state (resigned s.nwk_schedule f (stop s) p s.chains) s.length s.nwk_schedule s.app_schedule
    s.counter (carried s.nwk_schedule f (stop s) p s.chains)

-- f has the header of the state s
pub record Headed (s : Open) (f : List ℕ) : Type 0 where
  pub long : length f ≡ length s.frame
  pub front : take (payload_start_of s.frame) f ≡ take (payload_start_of s.frame) s.frame

-- the arrays of a state have the lengths of their types, and its frame is no longer than its array
pub record Room (s : Open) : Type 0 where
  pub chains : length s.chains ≡ 256
  pub frame : length s.frame ≡ 255
  pub most : s.length ≤ 255

module _ (s : Open) (f : List ℕ) (h : Headed s f) (p : ℕ) (hp : p < stop s) (start : payload_start_of s.frame ≤ p) where
  abbrev t : Open
  t = signed_state s f p

  front_is : take (payload_start_of s.frame) t.frame ≡ take (payload_start_of s.frame) s.frame
  front_is =
      let m = signed_from s.nwk_schedule f (stop s) (carried s.nwk_schedule f (stop s) p s.chains) in
      take-sets (payload_start_of s.frame) f (stop s) m (omega arith) ∙ h.front

  byte_is : (i : ℕ) → i < payload_start_of s.frame → at t.frame i ≡ at s.frame i
  byte_is i l =
      sym (get_or-take (payload_start_of s.frame) t.frame i 0 l)
      ∙ ap (λ (x : List ℕ). at x i) front_is
      ∙ get_or-take (payload_start_of s.frame) s.frame i 0 l

  start_is : payload_start_of t.frame ≡ payload_start_of s.frame
  start_is = ap (λ (b : ℕ). 7 + b % 16 + 2) (byte_is 5 (omega arith))

  pub count_is : payload_length_of t ≡ payload_length_of s
  count_is = ap (λ (n : ℕ). pick (leb s.length 255) (stop s - n) 0) start_is

  port_is : fport t.frame ≡ fport s.frame
  port_is =
      ap (λ (b : ℕ). at t.frame (1 + (7 + b % 16))) (byte_is 5 (omega arith))
      ∙ byte_is (1 + (7 + at s.frame 5 % 16)) (omega arith)

  key_is : schedule t ≡ schedule s
  key_is =
      ap (λ (b : Bool). pick b s.nwk_schedule s.app_schedule)
      (by_same t.frame s.frame (payload_length_of t) port_is ∙ ap (by_network_key_of s.frame) count_is)

  five_is : take 5 t.frame ≡ take 5 s.frame
  five_is =
      sym (take-take 5 (payload_start_of s.frame) t.frame (omega arith))
      ∙ ap (take 5) front_is
      ∙ take-take 5 (payload_start_of s.frame) s.frame (omega arith)

  encrypted_is : (k v : ℕ) → encrypted_byte t k v ≡ encrypted_byte s k v
  encrypted_is k v =
      ap (λ (ks : List ℕ). v ⊕ stream_at ks t.frame s.counter k) key_is
      ∙ ap (λ (n : ℕ). v ⊕ n) (stream_at_same t.frame s.frame five_is (schedule s) s.counter k)

  -- amending it once more
  pub amended_again : Room s → (k v : ℕ) → payload_start_of s.frame + k < stop s
      → amended_to t k v
      ≡ signed_state s (set f (payload_start_of s.frame + k) (encrypted_byte s k v)) (min p (payload_start_of s.frame + k))
  unfolding amended_to
  amended_again r k v hk =
      let q = payload_start_of s.frame + k in
      let b = encrypted_byte s k v in
      let room : stop s + 4 ≤ length f = omega (arith, h.long, r.frame, r.most) in
      let top : stop s ≤ 251 = omega (arith, r.most) in
      let ks = s.nwk_schedule in
      let place : payload_start_of t.frame + k ≡ q = ap (λ (n : ℕ). n + k) start_is in
      ap₂
      (λ (x y : ℕ).
      open_state (resigned ks (set t.frame x y) (stop s) x t.chains) s.length ks s.app_schedule s.counter
      (carried ks (set t.frame x y) (stop s) x t.chains))
      place (encrypted_is k v)
      ∙ ap₂ (λ (x y : List ℕ). open_state x s.length ks s.app_schedule s.counter y)
      (frame_merged ks s.chains f (stop s) p q b r.chains top room hp hk)
      (chains_merged ks s.chains f (stop s) p q b r.chains top room hp hk)

-- one byte more stored keeps the header
pub headed_set : (s : Open) (f : List ℕ) (k e : ℕ) → Headed s f → Headed s (set f (payload_start_of s.frame + k) e)
headed_set s f k e h =
    record {
      long = length-set f (payload_start_of s.frame + k) e ∙ h.long;
      front = take-set-le (payload_start_of s.frame) f (payload_start_of s.frame + k) e (omega arith) ∙ h.front;
    }

-- the first byte stored
pub headed_one : (s : Open) (k e : ℕ) → Headed s (set s.frame (payload_start_of s.frame + k) e)
headed_one s k e = headed_set s s.frame k e (record { long = refl; front = refl })

-- an amendment leaves the payload as long as it was
pub count_kept : (s : Open) (k v : ℕ) → k < payload_length_of s → payload_length_of (amend_of s k v).state ≡ payload_length_of s
unfolding amended_to
count_kept s k v l =
    let q = payload_start_of s.frame + k in
    ap (λ (x : Amended). payload_length_of x.state) (amend_inside s k v l)
    ∙ count_is s (set s.frame q (encrypted_byte s k v)) (headed_one s k (encrypted_byte s k v)) q (inside s k l).0
    (omega arith)
