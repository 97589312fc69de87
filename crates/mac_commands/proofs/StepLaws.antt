-- One step of reading, by the facts on which it turns.
-- Assumes nothing.
use Rattle.std.specs.Prelude.{Err, None, Ok, Some}
use mathlib.Core.Path.{◌≡◌, sym, ap, ◌∙◌, subst}
use mathlib.Core.Bool.{Bool, true, false}
use mathlib.Core.List.{List}
use Prim.Native.Nat.{ℕ, ◌+◌, ◌≤◌, ◌<◌}
use native.Mathlib.Omega.{arith}
use lib.Dec.{leb}
use lib.ListN.{length}
use borrow.Author.Tests.{lt-ltb, le-ltb, le-leb, lt-leb, leb-true}
use Rattle.base.specs.Bytes.{at, part}
use Rattle.base.proofs.Cases.{by_bool, by_order}
use Rattle.frame.specs.declared.refusals.Refusal.{Refusal}
use Rattle.frame.specs.Refusals.{refusal}
use Rattle.mac_commands.specs.Layout.{row_of, known, size_of, low_first}
use Rattle.mac_commands.specs.Commands.{RawStep, raw_found, raw_at, raw_step_at, step_of, step_at}
use Rattle.mac_commands.specs.declared.maccommands.RawCommand.{RawCommand}
use Rattle.mac_commands.proofs.LayoutLaws.{both_1, both_2}
use Rattle.mac_commands.proofs.TableLaws.{row_below}

-- ---- an identifier of the family

pub known_from : (id : ℕ) → known id ≡ true → 2 ≤ id
known_from id h = leb-true 2 id (both_1 (leb 2 id) (leb id 10) h)

pub known_upto : (id : ℕ) → known id ≡ true → id ≤ 10
known_upto id h = leb-true id 10 (both_2 (leb 2 id) (leb id 10) h)

pub is_known : (id : ℕ) → 2 ≤ id → id ≤ 10 → known id ≡ true
is_known id g l = simp (le-leb 2 id g, le-leb id 10 l)

-- ---- a step

abbrev row_in : RawStep → ℕ
row_in (Ok (Some raw)) = raw.row
row_in (Ok None) = 0
row_in (Err e) = 0

unfound : {A : Type 0} {x : RawStep} {e : Refusal} {raw : RawCommand} → x ≡ Err e → x ≡ Ok (Some raw) → A
unfound p q = let z : ◌≡◌ {A = ℕ} 0 1 = cc in let no : ⊥ = omega arith in absurd no

unended : {A : Type 0} {x : RawStep} {raw : RawCommand} → x ≡ Ok None → x ≡ Ok (Some raw) → A
unended p q = let z : ◌≡◌ {A = ℕ} 0 1 = cc in let no : ⊥ = omega arith in absurd no

pub raw_cut : (r : ℕ) (s : List ℕ) (i : ℕ) → length s < i + 1 + size_of r → raw_at r s i ≡ Err (refusal 17 i)
unfolding raw_at
raw_cut r s i h = simp (lt-leb (i + 1 + size_of r) (length s) h)

pub raw_whole : (r : ℕ) (s : List ℕ) (i : ℕ) → i + 1 + size_of r ≤ length s
    → raw_at r s i ≡ raw_found r (low_first (part (i + 1) (size_of r) s)) (i + 1 + size_of r)
unfolding raw_at
raw_whole r s i h = simp (le-leb (i + 1 + size_of r) (length s) h)

pub raw_ended : (up : Bool) (s : List ℕ) (i : ℕ) → length s ≤ i → raw_step_at up s i ≡ Ok None
unfolding raw_step_at
raw_ended up s i h = simp (le-ltb i (length s) h)

pub raw_unknown : (up : Bool) (s : List ℕ) (i : ℕ) → i < length s → known (at s i) ≡ false
    → raw_step_at up s i ≡ Err (refusal 16 i)
unfolding raw_step_at
raw_unknown up s i h k = simp (lt-ltb i (length s) h, k)

pub raw_known : (up : Bool) (s : List ℕ) (i : ℕ) → i < length s → known (at s i) ≡ true
    → raw_step_at up s i ≡ raw_at (row_of up (at s i)) s i
unfolding raw_step_at
raw_known up s i h k = simp (lt-ltb i (length s) h, k)

-- a row that was found is one of the eighteen
raw_row_in : (up : Bool) (s : List ℕ) (i : ℕ) {raw : RawCommand} → i < length s → known (at s i) ≡ true
    → raw_at (row_of up (at s i)) s i ≡ Ok (Some raw) → raw.row < 18
raw_row_in up s i {raw} h k e =
    by_order (i + 1 + size_of (row_of up (at s i))) (length s)
    (λ l.
    let its : row_of up (at s i) ≡ raw.row = ap row_in (sym (raw_whole (row_of up (at s i)) s i l) ∙ e) in
    subst (λ (m : ℕ). m < 18) its (row_below up (at s i) (known_upto (at s i) k)))
    (λ l. unfound (raw_cut (row_of up (at s i)) s i l) e)

pub raw_row : (up : Bool) (s : List ℕ) (i : ℕ) {raw : RawCommand} → raw_step_at up s i ≡ Ok (Some raw) → raw.row < 18
raw_row up s i e =
    by_order (length s) i (λ h. unended (raw_ended up s i h) e)
    (λ h.
    by_bool (known (at s i)) (λ k. raw_row_in up s i h k (sym (raw_known up s i h k) ∙ e))
    (λ k. unfound (raw_unknown up s i h k) e))

-- ---- the same of the command

pub ended : (up : Bool) (s : List ℕ) (i : ℕ) → length s ≤ i → step_at up s i ≡ Ok None
unfolding step_at
ended up s i h = ap step_of (raw_ended up s i h)

pub unknown : (up : Bool) (s : List ℕ) (i : ℕ) → i < length s → known (at s i) ≡ false → step_at up s i ≡ Err (refusal 16 i)
unfolding step_at
unknown up s i h k = ap step_of (raw_unknown up s i h k)

pub cut : (up : Bool) (s : List ℕ) (i : ℕ) → i < length s → known (at s i) ≡ true
    → length s < i + 1 + size_of (row_of up (at s i)) → step_at up s i ≡ Err (refusal 17 i)
unfolding step_at
cut up s i h k l = ap step_of (raw_known up s i h k ∙ raw_cut (row_of up (at s i)) s i l)

pub whole : (up : Bool) (s : List ℕ) (i : ℕ) → i < length s → known (at s i) ≡ true
    → i + 1 + size_of (row_of up (at s i)) ≤ length s
    → step_at up s i
    ≡ step_of (raw_found (row_of up (at s i)) (low_first (part (i + 1) (size_of (row_of up (at s i))) s)) (i + 1 + size_of (row_of up (at s i))))
unfolding step_at
whole up s i h k l = ap step_of (raw_known up s i h k ∙ raw_whole (row_of up (at s i)) s i l)
