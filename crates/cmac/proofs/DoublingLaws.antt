-- A doubled block is sixteen bytes: a shifted byte is an even number below 256 and at most one more. The exclusive or with
-- the constant changes the last byte alone.
-- Assumes nothing.
use mathlib.Core.Path.{◌≡◌, ap, ◌∙◌}
use mathlib.Core.Bool.{Bool, true, false}
use mathlib.Core.List.{List, [], ◌∷◌}
use Prim.Native.Nat.{ℕ, ◌+◌, ◌<◌, ◌≤◌}
use native.Mathlib.Omega.{arith}
use lib.ListN.{length, replicate, set}
use lib.Dec.{ltb}
use borrow.Author.Tests.{lt-ltb, le-ltb}
use Rattle.base.specs.Bytes.{pick, at, ◌⊕◌, xor_lists, AreBytes}
use Rattle.base.proofs.Tab.{length-tab, tab_all}
use Rattle.base.proofs.Parts.{bytes_xor_lists, bytes_replicate, bytes_append, bytes_cons, bytes_nil, xor_lists-zeros}
use Rattle.base.proofs.Xor.{xor_lists_nil, xor_lists_snoc}
use Rattle.cmac.specs.Doubling.{const_rb, shifted_at, shifted, doubled}

-- what both of two have, the one picked has
pub picked : (P : List ℕ → Type 0) (b : Bool) (s t : List ℕ) → P s → P t → P (pick b s t)
picked P true s t hs ht = hs
picked P false s t hs ht = ht

shifted_long : (x : List ℕ) → length (shifted x) ≡ 16
unfolding shifted
shifted_long x = length-tab 16 (shifted_at x)

shifted_byte : (x : List ℕ) → AreBytes x → AreBytes (shifted x)
unfolding shifted
shifted_byte x h = tab_all (λ (n : ℕ). n < 256) 16 (shifted_at x) (omega arith) (λ i l. omega (arith, h (i + 1)))

rb_byte : AreBytes const_rb
rb_byte =
    bytes_append (replicate 15 0) (0x87 ∷ []) (bytes_replicate 15 0 (omega arith)) (bytes_cons 0x87 [] (omega arith) bytes_nil)

pub doubled_byte : (x : List ℕ) → AreBytes x → AreBytes (doubled x)
unfolding doubled
doubled_byte x h =
    picked AreBytes (ltb (at x 0) 128) (shifted x) (xor_lists (shifted x) const_rb) (shifted_byte x h)
    (bytes_xor_lists (shifted x) const_rb (shifted_byte x h) rb_byte)

-- ---- the code's own way

pub doubled_low : (x : List ℕ) → at x 0 < 128 → doubled x ≡ shifted x
unfolding doubled
doubled_low x h = simp (lt-ltb (at x 0) 128 h)

pub doubled_high : (x : List ℕ) → 128 ≤ at x 0 → doubled x ≡ set (shifted x) 15 (at (shifted x) 15 ⊕ 0x87)
unfolding doubled
doubled_high x h =
    let zeros-out : xor_lists (shifted x) (replicate 15 0) ≡ shifted x =
    xor_lists-zeros (shifted x) [] 15 (omega (arith, shifted_long x)) ∙ xor_lists_nil (shifted x) in
    simp (le-ltb (at x 0) 128 h)
    (xor_lists_snoc (shifted x) (replicate 15 0) 0x87 (omega (arith, shifted_long x))
    ∙ ap (λ (l : List ℕ). set l 15 (at l 15 ⊕ 0x87)) zeros-out)
