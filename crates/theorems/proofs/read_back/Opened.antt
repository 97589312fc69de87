-- Laws on openings: decrypting a data frame leaves every byte outside the payload, and so the reading, as it was, and done twice
-- gives the frame back.
-- Assumes nothing.
use Rattle.std.specs.Prelude.{Some, None}
use Rattle.std.specs.Prelude.{Err, Ok, Option}
use mathlib.Core.Path.{◌≡◌, refl, sym, ap, ap₂, ◌∙◌}
use mathlib.Core.List.{List}
use Prim.Native.Nat.{ℕ, ◌+◌, ◌-◌, ◌*◌, ◌%◌, ◌≤◌, ◌<◌, min}
use native.Mathlib.Omega.{arith}
use lib.ListN.{length, take, drop}
use lib.Seq.{get_or-take, get_or-drop}
use Rattle.base.specs.Bytes.{at, part}
use Rattle.base.proofs.Cases.{by_order}
use Rattle.base.proofs.Lent.{part_long, put_before, put_after}
use Rattle.frame.specs.Conditions.{IsData}
use Rattle.frame.specs.Layout.{fcnt, header, header_end_of, payload, payload_end_of, mic_of}
use Rattle.frame.specs.Refusals.{refused}
use Rattle.frame.specs.declared.refusals.Refusal.{Refusal}
use Rattle.frame.specs.ReadingNumbers.{on_data}
use Rattle.frame_opening.specs.FrameOpening.{Outcome, unopened, decrypted, opened_under, data_opened}
use Rattle.frame.specs.Reading.{read_of}
use Rattle.frame_security.specs.Security.{crypted, crypted_part, payload_key_of, frame_key, full_counter_of}
use Rattle.frame.specs.declared.parser.DataFrame.{DataFrame}
use Rattle.frame.specs.Reading.{Reading}
use Rattle.frame.specs.declared.parser.Frame.TheVariants.{JoinRequest, JoinAccept, Data}
use Rattle.frame.proofs.LayoutLaws.{placed, length-payload, read_same}
use Rattle.frame.proofs.ReadingLaws.{data_read}
use Rattle.frame_security.proofs.SecurityLaws.{crypted_long, crypted_part_long, crypted_part_twice}

module _ (key f : List ℕ) (counter : ℕ) (h : IsData f) where
  order : header_end_of f ≤ payload_end_of f
  order = (placed f h).payload

  inside : payload_end_of f ≤ length f
  inside = omega arith

  abbrev clear : List ℕ
  clear = crypted key f (full_counter_of counter (fcnt f)) (part (header_end_of f) (payload_end_of f - header_end_of f) f)

  clear_fits : length clear ≡ payload_end_of f - header_end_of f
  clear_fits =
      crypted_long key f (full_counter_of counter (fcnt f)) (part (header_end_of f) (payload_end_of f - header_end_of f) f)
      ∙ part_long (header_end_of f) (payload_end_of f - header_end_of f) f (omega (arith, order, inside))

  pub decrypted_long : length (decrypted key counter f) ≡ length f
  unfolding decrypted
  decrypted_long = crypted_part_long key f (full_counter_of counter (fcnt f)) (header_end_of f) (payload_end_of f) order inside

  -- the header is as it was
  pub decrypted-header : take (header_end_of f) (decrypted key counter f) ≡ header f
  unfolding decrypted crypted_part
  decrypted-header = put_before (header_end_of f) (payload_end_of f) f clear order inside clear_fits (header_end_of f) (omega arith)

  -- and so is the MIC
  pub decrypted-mic : drop (payload_end_of f) (decrypted key counter f) ≡ mic_of f
  unfolding decrypted crypted_part
  decrypted-mic = put_after (header_end_of f) (payload_end_of f) f clear order inside clear_fits

  before_payload : (i : ℕ) → i < header_end_of f → at (decrypted key counter f) i ≡ at f i
  before_payload i k =
      sym (get_or-take (header_end_of f) (decrypted key counter f) i 0 k)
      ∙ ap (λ (l : List ℕ). at l i) decrypted-header
      ∙ get_or-take (header_end_of f) f i 0 k

  after_payload : (i : ℕ) → payload_end_of f ≤ i → at (decrypted key counter f) i ≡ at f i
  after_payload i k =
      let e : payload_end_of f + (i - payload_end_of f) ≡ i = omega arith in
      ap (at (decrypted key counter f)) (sym e)
      ∙ sym (get_or-drop (payload_end_of f) (decrypted key counter f) (i - payload_end_of f) 0)
      ∙ ap (λ (l : List ℕ). at l (i - payload_end_of f)) decrypted-mic
      ∙ get_or-drop (payload_end_of f) f (i - payload_end_of f) 0
      ∙ ap (at f) e

  -- every byte outside the payload is as it was
  pub decrypted_outside : (i : ℕ) → (header_end_of f ≤ i → i < payload_end_of f → ⊥) → at (decrypted key counter f) i ≡ at f i
  decrypted_outside i out =
      by_order (header_end_of f) i
      (λ l. by_order (payload_end_of f) i (after_payload i) (λ g. absurd (out l g)))
      (before_payload i)

  -- so the frame reads as it did
  pub decrypted_read : read_of (decrypted key counter f) ≡ read_of f
  decrypted_read =
      sym
      (read_same f (decrypted key counter f) (sym decrypted_long)
      (λ i k. sym (decrypted_outside i (λ a b. omega arith))))

  -- decrypting twice gives the frame back
  pub decrypted_twice : decrypted key counter (decrypted key counter f) ≡ f
  unfolding decrypted
  decrypted_twice =
      let g = decrypted key counter f in
      let p = placed f h in
      let e5 : at g 5 ≡ at f 5 = before_payload 5 (omega arith) in
      let e6 : at g 6 ≡ at f 6 = before_payload 6 (omega arith) in
      let e7 : at g 7 ≡ at f 7 = before_payload 7 (omega arith) in
      let count : fcnt g ≡ fcnt f = ap₂ (λ (x y : ℕ). x + y * 256) e6 e7 in
      let start : header_end_of g ≡ header_end_of f = ap₂ (λ (x n : ℕ). min (7 + x % 16 + 2) (n - 4)) e5 decrypted_long in
      let end : payload_end_of g ≡ payload_end_of f = ap (λ (n : ℕ). n - 4) decrypted_long in
      ap (λ (c : ℕ). crypted_part key g (full_counter_of counter c) (header_end_of g) (payload_end_of g)) count
      ∙ ap₂ (λ (a b : ℕ). crypted_part key g (full_counter_of counter (fcnt f)) a b) start end
      ∙ crypted_part_twice key f (full_counter_of counter (fcnt f)) (header_end_of f) (payload_end_of f) (omega arith) order inside

-- a key that may not be given, by cases
by_key : {A : Type 0} (k : Option (List ℕ)) → (k ≡ None → A) → ((key : List ℕ) → k ≡ Some key → A) → A
by_key None n s = n refl
by_key (Some key) n s = s key refl

-- opening twice gives the frame back, whatever the first answer
module _ (nwk app : Option (List ℕ)) (counter : ℕ) (f : List ℕ) where
  open_once : List ℕ → Outcome
  open_once = data_opened nwk app counter

  refused_twice : (r : Refusal) → open_once f ≡ unopened f r → (open_once (open_once f).bytes).bytes ≡ f
  refused_twice r e =
      let same : (open_once f).bytes ≡ f = ap (λ (r : Outcome). r.bytes) e in
      ap (λ (g : List ℕ). (open_once g).bytes) same ∙ same

  opens : (g : List ℕ) (d : DataFrame) → read_of g ≡ Ok (Data d) → open_once g ≡ opened_under (frame_key g nwk app) counter g
  unfolding open_once data_opened
  opens g d q = ap (on_data (λ b. opened_under (frame_key g nwk app) counter g) (unopened g)) q

  opened_bytes : (k : Option (List ℕ)) (key g : List ℕ) → k ≡ Some key → (opened_under k counter g).bytes ≡ decrypted key counter g
  unfolding opened_under
  opened_bytes k key g t = ap (λ (m : Option (List ℕ)). (opened_under m counter g).bytes) t

  not_opened : (k : Option (List ℕ)) (g : List ℕ) → k ≡ None → opened_under k counter g ≡ unopened g (refused 6)
  unfolding opened_under
  not_opened k g t = ap (λ (m : Option (List ℕ)). opened_under m counter g) t

  -- a decrypted frame has the same key
  same_key : (key : List ℕ) → IsData f → frame_key (decrypted key counter f) nwk app ≡ frame_key f nwk app
  same_key key h =
      let g = decrypted key counter f in
      let five : at g 5 ≡ at f 5 = decrypted_outside key f counter h 5 (λ a b. omega (arith, (placed f h).fopts)) in
      let start : header_end_of g ≡ header_end_of f =
      ap₂ (λ (x n : ℕ). min (7 + x % 16 + 2) (n - 4)) five (decrypted_long key f counter h) in
      let hdr : header g ≡ header f = ap (λ (n : ℕ). take n g) start ∙ decrypted-header key f counter h in
      let long : length (payload g) ≡ length (payload f) =
      length-payload g
      ∙ ap₂ (λ (n m : ℕ). n - 4 - m) (decrypted_long key f counter h) start
      ∙ sym (length-payload f) in
      ap₂ (λ (l : List ℕ) (n : ℕ). payload_key_of l n nwk app) hdr long

  data_twice : (d : DataFrame) → read_of f ≡ Ok (Data d) → (open_once (open_once f).bytes).bytes ≡ f
  data_twice d q =
      let k = frame_key f nwk app in
      by_key k
      (λ t. refused_twice (refused 6) (opens f d q ∙ not_opened k f t))
      (λ key t.
      let h : IsData f = data_read f q in
      let g = decrypted key counter f in
      let once : (open_once f).bytes ≡ g = ap (λ (r : Outcome). r.bytes) (opens f d q) ∙ opened_bytes k key f t in
      ap (λ (l : List ℕ). (open_once l).bytes) once
      ∙ ap (λ (r : Outcome). r.bytes) (opens g d (decrypted_read key f counter h ∙ q))
      ∙ ap (λ (m : Option (List ℕ)). (opened_under m counter g).bytes) (same_key key h)
      ∙ opened_bytes k key g t
      ∙ decrypted_twice key f counter h)

  other_twice : (r : Reading) → read_of f ≡ r → (open_once (open_once f).bytes).bytes ≡ f
  unfolding open_once data_opened
  other_twice (Ok JoinRequest) q =
      refused_twice (refused 4) (ap (on_data (λ b. opened_under (frame_key f nwk app) counter f) (unopened f)) q)
  other_twice (Ok (JoinAccept n)) q =
      refused_twice (refused 4) (ap (on_data (λ b. opened_under (frame_key f nwk app) counter f) (unopened f)) q)
  other_twice (Ok (Data d)) q = data_twice d q
  other_twice (Err r) q =
      refused_twice r (ap (on_data (λ b. opened_under (frame_key f nwk app) counter f) (unopened f)) q)

  pub opened_twice : (data_opened nwk app counter (data_opened nwk app counter f).bytes).bytes ≡ f
  unfolding open_once
  opened_twice = other_twice (read_of f) refl
