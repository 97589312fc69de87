-- The loops over a list of amendments: what the test of every offset says, and for each loop the amendment in turn and the
-- end of the list.
-- Assumes nothing.
use mathlib.Core.Path.{◌≡◌, refl, sym, ap, ap₂, subst, ◌∙◌}
use mathlib.Core.Bool.{Bool, true, false, not}
use mathlib.Core.List.{List, [], ◌∷◌}
use Prim.Native.Nat.{ℕ, zero, suc, ◌+◌, ◌/◌, ◌%◌, ◌≤◌, ◌<◌, min}
use native.Mathlib.Numerals.{add-one}
use native.Mathlib.Omega.{arith}
use lib.Dec.{ltb, eqb}
use lib.ListN.{length, drop, set, drop_of_length-le}
use lib.Seq.{drop-cons}
use borrow.Author.Tests.{lt-ltb, ltb-true, eqb-true}
use Rattle.std.specs.List.{All, fold}
use Rattle.std.specs.Option.{option_eq}
use Rattle.std.specs.Prelude.{IsTrue, ◌↔◌, Option, None, Some}
use Rattle.base.specs.Bytes.{pick, at, ◌⊕◌}
use Rattle.base.proofs.Cases.{by_bool}
use Rattle.aes.specs.Fips197.{cipher}
use Rattle.frame_security.specs.Security.{start_of, helper_block_of, stream_block_of, stream_at}
use Rattle.frame_security.proofs.SecurityLaws.{stream_at_start}
use Rattle.amend.specs.SignedOnce.{all_inside_of, stored_all, lowest}

-- ---- every offset inside

pick_left : (a b : Bool) → pick a b false ≡ true → a ≡ true
pick_left true b e = refl
pick_left false b e = e

pick_right : (a b : Bool) → pick a b false ≡ true → b ≡ true
pick_right true b e = e
pick_right false true e = refl
pick_right false false e = e

pub inside_head : (n e : ℕ) (es : List ℕ) → all_inside_of n (e ∷ es) ≡ true → (e / 256 < n) × (all_inside_of n es ≡ true)
unfolding all_inside_of
inside_head n e es h = (
  ltb-true (e / 256) n (pick_left (ltb (e / 256) n) (all_inside_of n es) h),
  pick_right (ltb (e / 256) n) (all_inside_of n es) h,
)

-- of a longer payload
pub inside_more : (m n : ℕ) → m ≤ n → (es : List ℕ) → all_inside_of m es ≡ true → all_inside_of n es ≡ true
unfolding all_inside_of
inside_more m n l [] h = refl
inside_more m n l (e ∷ es) h =
    let both = inside_head m e es h in
    ap (λ (b : Bool). pick b (all_inside_of n es) false) (lt-ltb (e / 256) n (omega (arith, both.0)))
    ∙ inside_more m n l es both.1

-- each offset, one by one
inside_each : (n : ℕ) (es : List ℕ) → all_inside_of n es ≡ true → All (λ (e : ℕ). e / 256 < n) es
inside_each n [] h k d l = absurd (omega arith)
inside_each n (e ∷ es) h zero d l = (inside_head n e es h).0
inside_each n (e ∷ es) h (suc k) d l = inside_each n es (inside_head n e es h).1 k d (omega arith)

each_inside : (n : ℕ) (es : List ℕ) → All (λ (e : ℕ). e / 256 < n) es → all_inside_of n es ≡ true
unfolding all_inside_of
each_inside n [] h = refl
each_inside n (e ∷ es) h =
    ap (λ (b : Bool). pick b (all_inside_of n es) false) (lt-ltb (e / 256) n (h 0 0 (omega arith)))
    ∙ each_inside n es (λ k d l. h (suc k) d (omega arith))

-- a test of them all
pub inside_all : (b : Bool) (n : ℕ) (es : List ℕ) → IsTrue b ↔ All (λ (e : ℕ). e / 256 < n) es → b ≡ all_inside_of n es
inside_all true n es h = sym (each_inside n es (h.0 refl))
inside_all false n es h =
    by_bool (all_inside_of n es) (λ t. let no : ◌≡◌ {A = Bool} false true = h.1 (inside_each n es t) in cc) (λ f. sym f)

-- a payload that a list with an amendment in it lies inside of has a byte
pub some_inside : (n : ℕ) (es : List ℕ) → all_inside_of n es ≡ true → 0 < length es → 0 < n
some_inside n [] all h = let none : ⊥ = omega arith in absurd none
some_inside n (e ∷ es) all h = omega (arith, (inside_head n e es all).0)

pub lowest_fold : (start p : ℕ) (es : List ℕ) → fold (λ (q e : ℕ). min q (start + e / 256)) p es ≡ lowest start p es
unfolding lowest
lowest_fold start p [] = refl
lowest_fold start p (e ∷ es) = lowest_fold start (min p (start + e / 256)) es

pub lowest_most : (start p : ℕ) (es : List ℕ) → lowest start p es ≤ p
unfolding lowest
lowest_most start p [] = omega arith
lowest_most start p (e ∷ es) = omega (arith, lowest_most start (min p (start + e / 256)) es)

-- ---- the key stream's block in hand

-- stream is the block of that number, if there is one, of the sixteen that a payload can reach
abbrev pub InHand : List ℕ → List ℕ → ℕ → Option ℕ → List ℕ → Type 0
InHand ks f counter held stream = (j : ℕ) → j < 256 → held ≡ Some (j / 16) → stream ≡ stream_block_of ks f counter j

module _ (ks f : List ℕ) (counter : ℕ) where
  -- at the start there is none
  pub none_in_hand : (stream : List ℕ) → InHand ks f counter None stream
  none_in_hand stream j l e = cc

  -- the block of one byte is in hand for every other byte of it
  pub block_in_hand : (k : ℕ) {stream : List ℕ} → stream ≡ stream_block_of ks f counter k → InHand ks f counter (Some (k / 16)) stream
  unfolding stream_block_of
  block_in_hand k e j l d =
      let same : k / 16 ≡ j / 16 = cc in
      e ∙ ap (λ (n : ℕ). cipher ks (helper_block_of 1 f counter ((n + 1) % 256))) same

  -- the byte that it gives
  pub stream_in_hand : (v k : ℕ) (held : Option ℕ) (stream : List ℕ) → InHand ks f counter held stream → k < 256 → held ≡ Some (k / 16)
      → v ⊕ at stream (k % 16) ≡ v ⊕ stream_at ks f counter k
  unfolding stream_at
  stream_in_hand v k held stream h l e = ap (λ (b : List ℕ). v ⊕ at b (k % 16)) (h k l e)

-- the block of the byte k is in hand
pub record Ready (ks f : List ℕ) (counter k : ℕ) (held : Option ℕ) (stream : List ℕ) : Type 0 where
  pub its : held ≡ Some (k / 16)
  pub hand : InHand ks f counter held stream

-- it was made
pub made : {ks f : List ℕ} {counter k : ℕ} {held : Option ℕ} {stream : List ℕ} → held ≡ Some (k / 16)
    → stream ≡ stream_block_of ks f counter k → Ready ks f counter k held stream
made {ks} {f} {counter} {k} {held} {stream} h e =
    record { its = h; hand = subst (λ (o : Option ℕ). InHand ks f counter o stream) (sym h) (block_in_hand ks f counter k e) }

-- two blocks that are the same
pub same_block : (held : Option ℕ) (n : ℕ) → not (option_eq eqb held (Some n)) ≡ false → held ≡ Some n
same_block None n h = cc
same_block (Some m) n h = ap Some (eqb-true m n (denied (eqb m n) h))
  where
    denied : (b : Bool) → not b ≡ false → b ≡ true
    denied true e = refl
    denied false e = cc

-- it was in hand
pub kept : {ks f : List ℕ} {counter k : ℕ} {before held : Option ℕ} {block stream : List ℕ} → InHand ks f counter before block
    → before ≡ Some (k / 16) → held ≡ before → stream ≡ block → Ready ks f counter k held stream
kept h b e s = record { its = e ∙ b; hand = λ j l d. s ∙ h j l (sym e ∙ d) }

-- ---- the amendment in turn, and the end

-- the amendment in turn lies inside a payload of n bytes, as those behind it do
pub record There (es : List ℕ) (i n : ℕ) : Type 0 where
  pub here : at es i / 256 < n
  pub rest : all_inside_of n (drop (i + 1) es) ≡ true
  pub least : at es i / 256 < 256

module _ (es : List ℕ) (i : ℕ) (h : i < length es) where
  next_is : drop i es ≡ at es i ∷ drop (i + 1) es
  next_is = drop-cons es i 0 h ∙ ap (λ (n : ℕ). at es i ∷ drop n es) (sym (add-one i))

  inside_here : (n : ℕ) → all_inside_of n (drop i es) ≡ true → (at es i / 256 < n) × (all_inside_of n (drop (i + 1) es) ≡ true)
  inside_here n e = inside_head n (at es i) (drop (i + 1) es) (sym (ap (all_inside_of n) next_is) ∙ e)

  -- of a payload that a frame can have
  pub there : (n : ℕ) → n ≤ 255 → all_inside_of n (drop i es) ≡ true → There es i n
  there n most e =
      let both = inside_here n e in record { here = both.0; rest = both.1; least = omega (arith, both.0) }

  pub stored_on : (ks first : List ℕ) (counter start : ℕ) (f : List ℕ) {v : ℕ}
      → v ≡ at es i % 256 ⊕ stream_at ks first counter (at es i / 256)
      → stored_all ks first counter start (set f (start + at es i / 256) v) (drop (i + 1) es)
      ≡ stored_all ks first counter start f (drop i es)
  unfolding stored_all
  stored_on ks first counter start f e =
      ap (λ (x : ℕ). stored_all ks first counter start (set f (start + at es i / 256) x) (drop (i + 1) es)) e
      ∙ sym (ap (stored_all ks first counter start f) next_is)

module _ (es : List ℕ) (i : ℕ) (h : length es ≤ i) where
  none_left : drop i es ≡ []
  none_left = drop_of_length-le es h

  pub stored_end : (ks first : List ℕ) (counter start : ℕ) (f : List ℕ) → f ≡ stored_all ks first counter start f (drop i es)
  unfolding stored_all
  stored_end ks first counter start f = sym (ap (stored_all ks first counter start f) none_left)

-- of the frame's first bytes five count
pub stored_start : (ks f : List ℕ) (counter start : ℕ) (g es : List ℕ)
    → stored_all ks (start_of f) counter start g es ≡ stored_all ks f counter start g es
unfolding stored_all
stored_start ks f counter start g [] = refl
stored_start ks f counter start g (e ∷ es) =
    let k = e / 256 in
    ap (λ (n : ℕ). stored_all ks (start_of f) counter start (set g (start + k) (e % 256 ⊕ n)) es) (stream_at_start ks f counter k)
    ∙ stored_start ks f counter start (set g (start + k) (e % 256 ⊕ stream_at ks f counter k)) es

-- by the first bytes and the key that the code takes
pub stored_by : (f : List ℕ) (counter start : ℕ) (es : List ℕ) {ks key first g : List ℕ} → first ≡ start_of f → key ≡ ks
    → g ≡ stored_all key first counter start f es → g ≡ stored_all ks f counter start f es
stored_by f counter start es {ks} ef ek e =
    e
    ∙ ap₂ (λ (k h : List ℕ). stored_all k h counter start f es) ek ef
    ∙ stored_start ks f counter start f es
