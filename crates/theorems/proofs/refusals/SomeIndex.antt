-- A test that goes through a list and holds where it holds of one element tells that there is an index with such an element.
-- Assumes nothing.
use mathlib.Core.Path.{◌≡◌, sym, ap, ◌∙◌}
use mathlib.Core.Bool.{Bool, true, false}
use mathlib.Core.List.{List, [], ◌∷◌}
use Prim.Native.Nat.{ℕ, zero, suc, ◌<◌, suc-le-suc}
use native.Mathlib.Nat.{not-suc-le-zero, le_of_suc-le-suc}
use native.Mathlib.Omega.{arith}
use lib.ListN.{length}
use Rattle.base.specs.Bytes.{pick, at}
use Rattle.base.proofs.Cases.{by_bool}
use Rattle.theorems.specs.Exactly.{Exactly}
use Rattle.theorems.proofs.refusals.FirstDue.{apart}

-- an index of the list whose element is so
abbrev pub SomeAt : (ℕ → Type 0) → List ℕ → Type 0
SomeAt P list = (i : ℕ) × (i < length list) × P (at list i)

-- where it is not the first, it is a later one
later : (P : ℕ → Type 0) (c : ℕ) (cs : List ℕ) (i : ℕ) → i < length (c ∷ cs) → P (at (c ∷ cs) i) → (P c → ⊥) → SomeAt P cs
later P c cs zero l h n = absurd (n h)
later P c cs (suc i) l h n = (i, le_of_suc-le-suc l, h)

module _ (P : ℕ → Type 0) (p : ℕ → Bool) (told : (c : ℕ) → Exactly (p c ≡ true) (P c))
    (any : List ℕ → Bool) (none : any [] ≡ false) (more : (c : ℕ) (cs : List ℕ) → any (c ∷ cs) ≡ pick (p c) true (any cs)) where
  by_first : (c : ℕ) (cs : List ℕ) {b : Bool} → p c ≡ b → any (c ∷ cs) ≡ pick b true (any cs)
  by_first c cs e = more c cs ∙ ap (λ (b : Bool). pick b true (any cs)) e

  some-there : (cs : List ℕ) → any cs ≡ true → SomeAt P cs
  some-there [] e = apart (sym e ∙ none)
  some-there (c ∷ cs) e =
      by_bool (p c) (λ t. (0, omega arith, (told c).there t))
      (λ t.
      let h = some-there cs (sym (by_first c cs t) ∙ e) in
      (suc h.0, suc-le-suc h.1, h.2))

  some_back : (cs : List ℕ) (i : ℕ) → i < length cs → P (at cs i) → any cs ≡ true
  some_back [] i l h = absurd (not-suc-le-zero l)
  some_back (c ∷ cs) i l h =
      by_bool (p c) (by_first c cs)
      (λ t.
      let k = later P c cs i l h (λ g. apart (sym ((told c).back g) ∙ t)) in
      by_first c cs t ∙ some_back cs k.0 k.1 k.2)

  pub if_some : (cs : List ℕ) → Exactly (any cs ≡ true) (SomeAt P cs)
  if_some cs = record { there = some-there cs; back = λ h. some_back cs h.0 h.1 h.2 }
