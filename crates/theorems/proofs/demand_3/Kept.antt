-- No byte of a frame differs after a list of amendments but those that accepted ones name and the MIC: the header stays,
-- and a payload byte that is not named has the same clear value, and so the same encrypted one.
-- Assumes nothing.
use Rattle.amend.specs.OpenFrame.{state_in}
use Rattle.frame.specs.Refusals.{refusal_in}
use mathlib.Core.Path.{◌≡◌, refl, sym, ap, ◌∙◌, subst}
use mathlib.Core.List.{List, [], ◌∷◌}
use Prim.Native.Nat.{ℕ, ◌+◌, ◌-◌, ◌<◌}
use native.Mathlib.Omega.{arith}
use lib.Dec.{ltb}
use lib.ListN.{length, set}
use lib.Seq.{get_or-set_other}
use Rattle.base.specs.Bytes.{pick, at, ◌⊕◌}
use Rattle.base.proofs.Cases.{by_order}
use Rattle.base.proofs.Parts.{at_part}
use Rattle.frame.specs.Layout.{payload_end_of, header_end_of, header, payload}
use Rattle.aes.specs.KeyExpansion.{key_expansion_of}
use Rattle.frame_security.specs.Security.{stream_at, frame_key}
use Rattle.frame.proofs.LayoutLaws.{placed, length-payload}
use Rattle.frame_security.proofs.SecurityLaws.{crypted-at, crypted_long, crypted_twice}
use Rattle.amend.specs.declared.amending.Open.{Open}
use Rattle.amend.specs.OpenFrame.{opened_of, open_of}
use Rattle.amend.specs.AmendmentLists.{Amendment, amended_by, payload_by, clear_of}
use Rattle.amend.proofs.Accepted.{Accepted, opens_accepted}
use Rattle.amend.proofs.OneByte.{held_at}
use Rattle.amend.proofs.Sealed.{clear_long, sealed_long, sealed-at, sealed-payload, sealed_end}
use Rattle.amend.proofs.Demand3.{one_long, one_inside, one_outside, after, after_accepted, payload_same, state_after}

-- no amendment of the list that is accepted, with n bytes of payload, names byte j of it
abbrev pub Unnamed : ℕ → ℕ → List Amendment → Type 0
Unnamed n j [] = Unit
Unnamed n j (a ∷ list) = (a.offset < n → j ≡ a.offset → ⊥) × Unnamed n j list

one_at : (p : List ℕ) (k v j : ℕ) → (k < length p → j ≡ k → ⊥) → at (pick (ltb k (length p)) (set p k v) p) j ≡ at p j
one_at p k v j h =
    by_order (length p) k (λ l. ap (λ (q : List ℕ). at q j) (one_outside p k v l))
    (λ l. ap (λ (q : List ℕ). at q j) (one_inside p k v l) ∙ get_or-set_other p k j v 0 (h l))

payload-at : (p : List ℕ) (list : List Amendment) (j : ℕ) → Unnamed (length p) j list → at (payload_by p list) j ≡ at p j
unfolding payload_by
payload-at p [] j u = refl
payload-at p (a ∷ list) j u =
    let q = pick (ltb a.offset (length p)) (set p a.offset a.value) p in
    let long : length q ≡ length p = one_long (ltb a.offset (length p)) p a.offset a.value in
    payload-at q list j (subst (λ (n : ℕ). Unnamed n j list) (sym long) u.1) ∙ one_at p a.offset a.value j u.0

-- a payload byte in the frame
in_frame : (f : List ℕ) (j : ℕ) → j < length (payload f) → at f (header_end_of f + j) ≡ at (payload f) j
in_frame f j h =
    sym (at_part (header_end_of f) (payload_end_of f - header_end_of f) f j (omega (arith, length-payload f)))

-- what stays of the frame f in the bytes g after a list
pub record Keeps (f : List ℕ) (list : List Amendment) (g : List ℕ) : Type 0 where
  pub ahead : (i : ℕ) → i < header_end_of f → at g i ≡ at f i
  pub others : (j : ℕ) → j < length (payload f) → Unnamed (length (payload f)) j list
      → at g (header_end_of f + j) ≡ at f (header_end_of f + j)

module _ (f nwk app : List ℕ) (counter : ℕ) (a : Accepted f nwk counter) (list : List Amendment) where
  abbrev p : List ℕ
  p = payload_by (clear_of f nwk app counter) list

  abbrev g : List ℕ
  g = after nwk app counter f list

  same : length p ≡ length (payload f)
  same = payload_same f nwk app counter list

  held_byte : (i : ℕ) → i < length f → at (opened_of g nwk app counter).frame i ≡ at g i
  unfolding opened_of
  held_byte i h =
      held_at g (after_accepted f nwk app counter a list).data_frame.most i
      (omega (arith, sealed_long f nwk app counter a.data_frame p same))

  stays : (j : ℕ) → j < length (payload f) → Unnamed (length (payload f)) j list → at g (header_end_of f + j) ≡ at f (header_end_of f + j)
  stays j h u =
      let key = frame_key f nwk app in
      let clear = clear_of f nwk app counter in
      let d = a.data_frame in
      let end = sealed_end f nwk app counter d p same in
      let made = sealed-payload f nwk app counter d p same in
      let named : Unnamed (length clear) j list = subst (λ (n : ℕ). Unnamed n j list) (sym (clear_long f nwk app counter)) u in
      ap (λ (n : ℕ). at g (n + j)) (sym end)
      ∙ in_frame g j (omega (arith, ap length made, crypted_long key (header f) counter p, same))
      ∙ ap (λ (l : List ℕ). at l j) made
      ∙ crypted-at key (header f) counter p j (omega (arith, same))
      ∙ ap (λ (n : ℕ). n ⊕ stream_at (key_expansion_of key) (header f) counter j) (payload-at clear list j named)
      ∙ sym (crypted-at key (header f) counter clear j (omega (arith, clear_long f nwk app counter)))
      ∙ ap (λ (l : List ℕ). at l j) (crypted_twice key (header f) counter (payload f))
      ∙ sym (in_frame f j h)

  -- in the frame sealed anew
  pub sealed_keeps : Keeps f list g
  sealed_keeps = record { ahead = sealed-at f nwk app counter a.data_frame p same; others = stays }

  -- and in the state that holds it
  kept : Keeps f list (opened_of g nwk app counter).frame
  kept =
      let d = a.data_frame in
      record {
        ahead = λ i h. held_byte i (omega (arith, (placed f d).payload, (placed f d).mic)) ∙ sealed_keeps.ahead i h;
        others = λ j h u.
            held_byte (header_end_of f + j) (omega (arith, length-payload f, (placed f d).payload, (placed f d).mic)) ∙ stays j h u;
      }

-- for every accepted opening and every list
pub keeps : (f nwk app : List ℕ) (counter : ℕ) → (refusal_in (open_of f nwk app counter)).number ≡ 0 → (list : List Amendment)
    → Keeps f list (amended_by (state_in (open_of f nwk app counter)) list).frame
keeps f nwk app counter e list =
    subst (λ (s : Open). Keeps f list s.frame) (sym (state_after f nwk app counter e list))
    (kept f nwk app counter (opens_accepted f nwk app counter e) list)
