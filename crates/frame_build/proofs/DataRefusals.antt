-- The refusals of building a data frame: what is accepted passes all tests; and with the port known, they come down to two
-- lengths.
-- Assumes nothing.
use Rattle.std.specs.Prelude.{None, Option, Some}
use mathlib.Core.Path.{◌≡◌, sym, ap, ap₂, ◌∙◌, subst}
use mathlib.Core.Bool.{Bool, true, false, not}
use mathlib.Core.List.{List, [], ◌∷◌}
use Prim.Native.Nat.{ℕ, ◌+◌, ◌%◌, ◌≤◌, ◌<◌}
use native.Mathlib.Omega.{arith}
use lib.Dec.{ltb, eqb}
use lib.ListN.{length, length-append}
use borrow.Author.Tests.{lt-ltb, le-ltb, ltb-false, eq-eqb, ne_eqb, eqb-true, not-false}
use Rattle.base.specs.Bytes.{pick}
use Rattle.base.proofs.Cases.{by_order, by_equal}
use Rattle.frame_build.specs.DataBuilding.{both, first_of, is_absent, is_zero, port_bytes, fopts_of, body_of, data_header, clear_data, data_length, data_tests, data_refusal_of}
use Rattle.frame_build.specs.DataRefusalCases.{absent_refusal, port_refusal}
use Rattle.frame_build.specs.declared.creator.data_frame.DataParts.{DataParts}
use Rattle.frame_build.proofs.FirstTest.{none_fails}
use Rattle.frame_build.proofs.DataHeader.{length-header}

-- ---- the length of a data frame

module _ (d : DataParts) (four : length d.dev_addr ≡ 4) (commands body : List ℕ) where
  pub length_clear : length (clear_data d commands body)
      ≡ 8
      + length (fopts_of d.port commands)
      + length (port_bytes d.port)
      + length (body_of d.port commands body)
  length_clear =
      length-append (data_header d commands) (body_of d.port commands body)
      ∙ ap (λ (n : ℕ). n + length (body_of d.port commands body)) (length-header d four commands)

  pub length_absent : d.port ≡ None → data_length d commands body ≡ 12 + length commands + length body
  length_absent e =
      let l : length (clear_data d commands body) ≡ 8 + length commands + 0 + length body =
      length_clear
      ∙ ap (λ (p : Option ℕ). 8 + length (fopts_of p commands) + length (port_bytes p) + length (body_of p commands body)) e in
      omega arith

  pub length-commands : d.port ≡ Some 0 → data_length d commands body ≡ 13 + length commands
  length-commands e =
      let l : length (clear_data d commands body) ≡ 8 + 0 + 1 + length commands =
      length_clear
      ∙ ap (λ (p : Option ℕ). 8 + length (fopts_of p commands) + length (port_bytes p) + length (body_of p commands body)) e in
      omega arith

  pub length_port : (p : ℕ) → (p ≡ 0 → ⊥) → d.port ≡ Some p → data_length d commands body ≡ 13 + length commands + length body
  length_port p n e =
      let k : eqb p 0 ≡ false = ne_eqb p 0 n in
      let l : length (clear_data d commands body) ≡ 8 + length commands + 1 + length body =
      length_clear
      ∙ ap (λ (q : Option ℕ). 8 + length (fopts_of q commands) + length (port_bytes q) + length (body_of q commands body)) e
      ∙ ap (λ (z : Bool). 8 + length (pick z [] commands) + 1 + length (pick z commands body)) k in
      omega arith

-- ---- with the port known

-- the tests past 7 and 13, by the port, the two lengths and the length of the frame
abbrev past : Option ℕ → ℕ → ℕ → ℕ → ℕ
past port commands body n =
    first_of
    ((both (not (is_zero port)) (ltb 15 commands), 9)
    ∷ (both (is_zero port) (ltb 0 body), 10)
    ∷ (both (is_absent port) (ltb 0 body), 11)
    ∷ (ltb 255 n, 12)
    ∷ [])

past_absent : (a b : ℕ) → past None a b (12 + a + b) ≡ absent_refusal a b
past_absent a b =
    by_order a 15
    (λ h.
    by_order b 0
    (λ k.
    let s : 12 + a + b ≤ 255 = omega arith in
    simp (le-ltb _ _ h, le-ltb _ _ k, le-ltb _ _ s))
    (λ k. simp (le-ltb _ _ h, lt-ltb _ _ k)))
    (λ h. simp (lt-ltb _ _ h))

past_commands : (a b : ℕ) → past (Some 0) a b (13 + a) ≡ port_refusal 0 a b
past_commands a b =
    by_order a 242
    (λ h.
    let s : 13 + a ≤ 255 = omega arith in
    simp (le-ltb _ _ h, le-ltb _ _ s))
    (λ h.
    let s : 255 < 13 + a = omega arith in
    simp (lt-ltb _ _ h, lt-ltb _ _ s))

past_port : (p a b : ℕ) → (p ≡ 0 → ⊥) → past (Some p) a b (13 + a + b) ≡ port_refusal p a b
past_port p a b n =
    by_order b 255 (λ h. simp (ne_eqb _ _ n, le-ltb _ _ h))
    (λ h.
    let s : 255 < 13 + a + b = omega arith in
    simp (ne_eqb _ _ n, lt-ltb _ _ h, lt-ltb _ _ s))

module _ (d : DataParts) (four : length d.dev_addr ≡ 4) (commands body : List ℕ) (room : ℕ) where
  pub too_little_room : room < 255 → data_refusal_of d commands body room ≡ 7
  unfolding data_refusal_of
  too_little_room h = simp (lt-ltb _ _ h)

  pub fopts-set : 255 ≤ room → (d.fctrl % 16 ≡ 0 → ⊥) → data_refusal_of d commands body room ≡ 13
  unfolding data_refusal_of
  fopts-set h n = simp (le-ltb _ _ h, ne_eqb _ _ n)

  module _ (h : 255 ≤ room) (clean : d.fctrl % 16 ≡ 0) where
    others : data_refusal_of d commands body room
        ≡ past d.port (length commands) (length body) (data_length d commands body)
    unfolding data_refusal_of
    others = simp (le-ltb _ _ h, eq-eqb _ _ clean)

    known : (p : Option ℕ) (n : ℕ) → d.port ≡ p → data_length d commands body ≡ n
        → data_refusal_of d commands body room ≡ past p (length commands) (length body) n
    known p n e l = others ∙ ap₂ (λ (q : Option ℕ) (m : ℕ). past q (length commands) (length body) m) e l

    pub absent_case : d.port ≡ None → data_refusal_of d commands body room ≡ absent_refusal (length commands) (length body)
    absent_case e =
        known None (12 + length commands + length body) e (length_absent d four commands body e)
        ∙ past_absent (length commands) (length body)

    pub port_case : (p : ℕ) → d.port ≡ Some p
        → data_refusal_of d commands body room ≡ port_refusal p (length commands) (length body)
    port_case p e =
        by_equal p 0
        (λ z.
        let f : d.port ≡ Some 0 = e ∙ ap Some z in
        known (Some 0) (13 + length commands) f (length-commands d four commands body f)
        ∙ past_commands (length commands) (length body)
        ∙ ap (λ (q : ℕ). port_refusal q (length commands) (length body)) (sym z))
        (λ n.
        known (Some p) (13 + length commands + length body) e (length_port d four commands body p n e)
        ∙ past_port p (length commands) (length body) n)

-- ---- what is accepted

short : (z : Bool) (cs : List ℕ) → both (not z) (ltb 15 (length cs)) ≡ false → length (pick z [] cs) ≤ 15
short true cs e = omega arith
short false cs e = ltb-false _ _ e

none : (z : Bool) (n : ℕ) → both z (ltb 0 n) ≡ false → z ≡ true → n ≡ 0
none true n e h = let k : n ≤ 0 = ltb-false _ _ e in omega arith
none false n e h = let z : ◌≡◌ {A = ℕ} 0 1 = cc in omega arith

pub record Buildable (d : DataParts) (commands body : List ℕ) (room : ℕ) : Type 0 where
  pub roomy : 255 ≤ room
  pub clean : d.fctrl % 16 ≡ 0
  pub short : length (fopts_of d.port commands) ≤ 15
  pub beside : is_zero d.port ≡ true → length body ≡ 0
  pub without : is_absent d.port ≡ true → length body ≡ 0
  pub fits : data_length d commands body ≤ 255

pub accepted : (d : DataParts) (commands body : List ℕ) (room : ℕ) → data_refusal_of d commands body room ≡ 0
    → Buildable d commands body room
unfolding data_refusal_of
accepted d commands body room e =
    let f = none_fails (data_tests d commands body room) tt e in
    record {
      roomy = ltb-false _ _ f.0;
      clean = eqb-true _ _ (not-false _ f.1.0);
      short = short (is_zero d.port) commands f.1.1.0;
      beside = none (is_zero d.port) (length body) f.1.1.1.0;
      without = none (is_absent d.port) (length body) f.1.1.1.1.0;
      fits = ltb-false _ _ f.1.1.1.1.1.0;
    }

-- the three ways to fill a frame

module _ (d : DataParts) (four : length d.dev_addr ≡ 4) (commands body : List ℕ) (room : ℕ) (ok : Buildable d commands body room) where
  pub fill_absent : d.port ≡ None → (length commands ≤ 15) × (8 + length commands + 0 + length body ≤ room)
  fill_absent e =
      let s : length commands ≤ 15 = subst (λ (p : Option ℕ). length (fopts_of p commands) ≤ 15) e ok.short in
      (s, omega (arith, ok.roomy, ok.fits, length_absent d four commands body e))

  pub fill_commands : d.port ≡ Some 0 → 8 + 0 + 1 + length commands ≤ room
  fill_commands e = omega (arith, ok.roomy, ok.fits, length-commands d four commands body e)

  pub fill_port : (p : ℕ) → (p ≡ 0 → ⊥) → d.port ≡ Some p
      → (length commands ≤ 15) × (8 + length commands + 1 + length body ≤ room)
  fill_port p n e =
      let k : eqb p 0 ≡ false = ne_eqb p 0 n in
      let s : length (fopts_of (Some p) commands) ≤ 15 = subst (λ (q : Option ℕ). length (fopts_of q commands) ≤ 15) e ok.short in
      let t : length commands ≤ 15 = subst (λ (z : Bool). length (pick z [] commands) ≤ 15) k s in
      (t, omega (arith, ok.roomy, ok.fits, length_port d four commands body p n e))

-- the parts of an accepted frame lie within the longest, and within the output
pub record Roomy (d : DataParts) (commands body : List ℕ) (room : ℕ) : Type 0 where
  pub header_least : 8 + length (body_of d.port commands body) ≤ length (clear_data d commands body)
  pub most : length (clear_data d commands body) + 4 ≤ 255
  pub within : length (clear_data d commands body) + 4 ≤ room

pub roomy : (d : DataParts) → length d.dev_addr ≡ 4 → (commands body : List ℕ) (room : ℕ)
    → data_refusal_of d commands body room ≡ 0 → Roomy d commands body room
roomy d four commands body room e =
    let ok : Buildable d commands body room = accepted d commands body room e in
    record {
      header_least = omega (arith, length_clear d four commands body);
      most = ok.fits;
      within = omega (arith, ok.fits, ok.roomy);
    }
