-- Demand 3: after any list of amendments, refused ones among them, an open frame stands as its header and its payload so
-- amended, encrypted and signed afresh, and the state is the one that opening the frame as it then stands gives. By
-- induction on the list: one amendment gives the opened state of the frame sealed anew, which opening accepts again.
-- Assumes nothing.
use Rattle.std.specs.Prelude.{Ok, Err}
use mathlib.Core.Path.{◌≡◌, refl, sym, ap, ap₂, ◌∙◌, subst}
use mathlib.Core.Bool.{Bool, true, false}
use mathlib.Core.List.{List, [], ◌∷◌}
use Prim.Native.Nat.{ℕ, ◌≤◌, ◌<◌}
use native.Mathlib.Omega.{arith}
use lib.Dec.{ltb}
use lib.ListN.{length, take, set, length-set}
use lib.Seq.{take_all, set-set, set-get_or}
use borrow.Author.Tests.{lt-ltb, le-ltb}
use Rattle.base.specs.Bytes.{pick, at}
use Rattle.base.proofs.Cases.{by_order}
use Rattle.frame.specs.Layout.{header, payload}
use Rattle.frame_security.specs.Sealing.{sealed}
use Rattle.frame.specs.Refusals.{refused, refusal_in}
use Rattle.amend.specs.declared.amending.Open.{Open}
use Rattle.amend.specs.Amending.{Amended, payload_length_of, amend_of}
use Rattle.amend.specs.OpenFrame.{opened_of, open_of, state_in}
use Rattle.amend.specs.AmendmentLists.{Amendment, amended_by, payload_by, clear_of, Stands}
use Rattle.amend.proofs.Accepted.{Accepted, accepted_opens, opens_accepted}
use Rattle.amend.proofs.OneByte.{held-take, payload_count, again, amended_opened}
use Rattle.amend.proofs.Sealed.{clear_long, accepted-sealed, sealed_long, sealed-header, sealed_clear, sealed-accepted}
use Rattle.amend.proofs.Within.{amend_inside, amend_outside}

-- ---- the payload after a list

-- one amendment of a payload, by whether it names a byte of it
pub one_long : (t : Bool) (p : List ℕ) (k v : ℕ) → length (pick t (set p k v) p) ≡ length p
one_long true p k v = length-set p k v
one_long false p k v = refl

pub payload_long : (p : List ℕ) (list : List Amendment) → length (payload_by p list) ≡ length p
unfolding payload_by
payload_long p [] = refl
payload_long p (a ∷ list) =
    let t = ltb a.offset (length p) in
    payload_long (pick t (set p a.offset a.value) p) list ∙ one_long t p a.offset a.value

pub one_inside : (p : List ℕ) (k v : ℕ) → k < length p → pick (ltb k (length p)) (set p k v) p ≡ set p k v
one_inside p k v h = ap (λ (t : Bool). pick t (set p k v) p) (lt-ltb k (length p) h)

pub one_outside : (p : List ℕ) (k v : ℕ) → length p ≤ k → pick (ltb k (length p)) (set p k v) p ≡ p
one_outside p k v h = ap (λ (t : Bool). pick t (set p k v) p) (le-ltb k (length p) h)

-- a byte named twice, and one set to what it is
twice : (p : List ℕ) (k v w : ℕ)
    → payload_by p (record { offset = k; value = v } ∷ record { offset = k; value = w } ∷ [])
    ≡ payload_by p (record { offset = k; value = w } ∷ [])
unfolding payload_by
twice p k v w =
    by_order (length p) k
    (λ l.
    ap (λ (q : List ℕ). pick (ltb k (length q)) (set q k w) q) (one_outside p k v l))
    (λ l.
    ap (λ (q : List ℕ). pick (ltb k (length q)) (set q k w) q) (one_inside p k v l)
    ∙ one_inside (set p k v) k w (omega (arith, length-set p k v))
    ∙ set-set p k v w
    ∙ sym (one_inside p k w l))

rewritten : (p : List ℕ) (k : ℕ) → payload_by p (record { offset = k; value = at p k } ∷ []) ≡ p
unfolding payload_by
rewritten p k =
    by_order (length p) k (λ l. one_outside p k (at p k) l) (λ l. one_inside p k (at p k) l ∙ set-get_or p k 0)

-- ---- the state after a list

module _ (nwk app : List ℕ) (counter : ℕ) where
  -- the frame after a list of amendments: its header and its payload so amended, sealed
  abbrev pub after : List ℕ → List Amendment → List ℕ
  after f list = sealed nwk app counter (header f) (payload_by (clear_of f nwk app counter) list)

  abbrev opened : List ℕ → Open
  opened f = opened_of f nwk app counter

  step_inside : (f : List ℕ) (k v : ℕ) (a : Accepted f nwk counter) → k < length (payload f)
      → (amend_of (opened f) k v).state ≡ opened (sealed nwk app counter (header f) (set (clear_of f nwk app counter) k v))
  step_inside f k v a h =
      ap (λ (r : Amended). r.state)
      (amend_inside (opened f) k v (omega (arith, payload_count f nwk app counter a.data_frame)))
      ∙ amended_opened f nwk app counter k v a h

  step_outside : (f : List ℕ) (k v : ℕ) → Accepted f nwk counter → length (payload f) ≤ k → (amend_of (opened f) k v).state ≡ opened f
  step_outside f k v a h =
      ap (λ (r : Amended). r.state)
      (amend_outside (opened f) k v (omega (arith, payload_count f nwk app counter a.data_frame)))

  pub amended_by_lem : (list : List Amendment) (f : List ℕ) → Accepted f nwk counter → amended_by (opened f) list ≡ opened (after f list)
  unfolding amended_by payload_by
  amended_by_lem [] f a = ap (λ (g : List ℕ). opened_of g nwk app counter) (sym (accepted-sealed f nwk app counter a))
  amended_by_lem (x ∷ list) f a =
      let k = x.offset in
      let v = x.value in
      let clear = clear_of f nwk app counter in
      let g = sealed nwk app counter (header f) (set clear k v) in
      let h = a.data_frame in
      by_order (length (payload f)) k
      (λ l.
      ap (λ (s : Open). amended_by s list) (step_outside f k v a l)
      ∙ amended_by_lem list f a
      ∙ ap (λ (p : List ℕ). opened (sealed nwk app counter (header f) (payload_by p list)))
      (sym (one_outside clear k v (omega (arith, clear_long f nwk app counter)))))
      (λ l.
      let long : length (set clear k v) ≡ length (payload f) = length-set clear k v ∙ clear_long f nwk app counter in
      ap (λ (s : Open). amended_by s list) (step_inside f k v a l)
      ∙ amended_by_lem list g (again f nwk app counter k v a l)
      ∙ ap₂ (λ (s p : List ℕ). opened (sealed nwk app counter s (payload_by p list)))
      (sealed-header f nwk app counter h (set clear k v) long)
      (sealed_clear f nwk app counter h (set clear k v) long
      ∙ sym (one_inside clear k v (omega (arith, clear_long f nwk app counter)))))

-- ---- the theorem

module _ (f nwk app : List ℕ) (counter : ℕ) where
  opened_stands : (g : List ℕ) → Accepted g nwk counter → take (opened_of g nwk app counter).length (opened_of g nwk app counter).frame ≡ g
  unfolding opened_of
  opened_stands g a = held-take g a.data_frame.most (length g) (omega arith) ∙ take_all (length g) g (omega arith)

  opened_long : (g : List ℕ) → (opened_of g nwk app counter).length ≡ length g
  unfolding opened_of
  opened_long g = refl

  pub payload_same : (list : List Amendment) → length (payload_by (clear_of f nwk app counter) list) ≡ length (payload f)
  payload_same list = payload_long (clear_of f nwk app counter) list ∙ clear_long f nwk app counter

  pub after_accepted : Accepted f nwk counter → (list : List Amendment) → Accepted (after nwk app counter f list) nwk counter
  after_accepted a list =
      sealed-accepted f nwk app counter a.data_frame (payload_by (clear_of f nwk app counter) list) (payload_same list) a.low_half

  opened_is : (refusal_in (open_of f nwk app counter)).number ≡ 0 → state_in (open_of f nwk app counter) ≡ opened_of f nwk app counter
  opened_is e = ap state_in (accepted_opens f nwk app counter (opens_accepted f nwk app counter e))

  pub state_after : (refusal_in (open_of f nwk app counter)).number ≡ 0 → (list : List Amendment)
      → amended_by (state_in (open_of f nwk app counter)) list ≡ opened_of (after nwk app counter f list) nwk app counter
  state_after e list =
      ap (λ (s : Open). amended_by s list) (opened_is e)
      ∙ amended_by_lem nwk app counter list f (opens_accepted f nwk app counter e)

  after_stands : (refusal_in (open_of f nwk app counter)).number ≡ 0 → (list : List Amendment)
      → Stands f nwk app counter list (opened_of (after nwk app counter f list) nwk app counter)
  after_stands e list =
      let a = opens_accepted f nwk app counter e in
      let g = after nwk app counter f list in
      let ag = after_accepted a list in
      record {
        frame = opened_stands g ag;
        long =
            opened_long g
            ∙ sealed_long f nwk app counter a.data_frame (payload_by (clear_of f nwk app counter) list) (payload_same list);
        opens =
            ap (λ (l : List ℕ). open_of l nwk app counter) (opened_stands g ag) ∙ accepted_opens g nwk app counter ag;
      }

  -- Demand 3, for every accepted opening and every list of amendments
  pub demand_3 : (refusal_in (open_of f nwk app counter)).number ≡ 0 → (list : List Amendment)
      → Stands f nwk app counter list (amended_by (state_in (open_of f nwk app counter)) list)
  demand_3 e list = subst (λ (s : Open). Stands f nwk app counter list s) (sym (state_after e list)) (after_stands e list)

  -- ---- which amendments are accepted, and two that change nothing more

  count_is : (refusal_in (open_of f nwk app counter)).number ≡ 0 → payload_length_of (state_in (open_of f nwk app counter)) ≡ length (payload f)
  count_is e =
      ap payload_length_of (opened_is e)
      ∙ payload_count f nwk app counter (opens_accepted f nwk app counter e).data_frame

  -- 15 at or past the payload's length; so with no payload each amendment gets it
  pub outside_refused : (refusal_in (open_of f nwk app counter)).number ≡ 0 → (k v : ℕ) → length (payload f) ≤ k
      → amend_of (state_in (open_of f nwk app counter)) k v
      ≡ record { answer = Err (refused 15); state = state_in (open_of f nwk app counter) }
  outside_refused e k v h = amend_outside (state_in (open_of f nwk app counter)) k v (omega (arith, count_is e))

  pub inside_accepted : (refusal_in (open_of f nwk app counter)).number ≡ 0 → (k v : ℕ) → k < length (payload f)
      → (amend_of (state_in (open_of f nwk app counter)) k v).answer ≡ Ok tt
  inside_accepted e k v h =
      ap (λ (r : Amended). r.answer) (amend_inside (state_in (open_of f nwk app counter)) k v (omega (arith, count_is e)))

  -- naming a byte again: the later value decides
  pub later_decides : (refusal_in (open_of f nwk app counter)).number ≡ 0 → (k v w : ℕ)
      → amended_by (state_in (open_of f nwk app counter)) (record { offset = k; value = v } ∷ record { offset = k; value = w } ∷ [])
      ≡ amended_by (state_in (open_of f nwk app counter)) (record { offset = k; value = w } ∷ [])
  unfolding payload_by
  later_decides e k v w =
      let clear = clear_of f nwk app counter in
      state_after e (record { offset = k; value = v } ∷ record { offset = k; value = w } ∷ [])
      ∙ ap (λ (p : List ℕ). opened_of (sealed nwk app counter (header f) p) nwk app counter) (twice clear k v w)
      ∙ sym (state_after e (record { offset = k; value = w } ∷ []))

  -- writing the value that is there changes nothing
  pub same_value : (refusal_in (open_of f nwk app counter)).number ≡ 0 → (k : ℕ)
      → amended_by (state_in (open_of f nwk app counter))
      (record { offset = k; value = at (clear_of f nwk app counter) k } ∷ [])
      ≡ state_in (open_of f nwk app counter)
  unfolding payload_by
  same_value e k =
      let clear = clear_of f nwk app counter in
      let a = opens_accepted f nwk app counter e in
      state_after e (record { offset = k; value = at clear k } ∷ [])
      ∙ ap (λ (p : List ℕ). opened_of (sealed nwk app counter (header f) p) nwk app counter) (rewritten clear k)
      ∙ ap (λ (g : List ℕ). opened_of g nwk app counter) (accepted-sealed f nwk app counter a)
      ∙ sym (opened_is e)
