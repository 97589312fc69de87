-- The fields of a data frame that the text shows: the numbers among them are below 100,000, FOpts begin at 8, the payload's
-- end is not ahead of its start, and the bytes from the MIC's place on are the MIC. Each follows from the frame's length and
-- from its bytes being bytes.
-- Assumes nothing.
use mathlib.Core.Path.{◌≡◌, refl, sym, ap, ◌∙◌, subst}
use mathlib.Core.List.{List, [], ◌∷◌}
use Prim.Native.Nat.{ℕ, ◌+◌, ◌-◌, ◌≤◌, ◌<◌}
use native.Mathlib.Omega.{arith}
use lib.Dec.{eqb}
use lib.ListN.{length, take, drop, length-drop}
use lib.Seq.{take_all}
use borrow.Author.Tests.{leb-true}
use Rattle.base.specs.Bytes.{part, AreBytes}
use Rattle.base.proofs.Cases.{by_bool, by_order}
use Rattle.base.proofs.Parts.{part-tab}
use Rattle.frame.specs.Layout.{mic_of, fhdr_length_of, has_port_of, fport}
use Rattle.frame.specs.Reading.{port_of, payload_of, data_of}
use Rattle.frame.specs.ReadingNumbers.{port_number_of}
use Rattle.frame.specs.Conditions.{IsData}
use Rattle.frame.specs.declared.parser.DataFrame.{DataFrame}
use Rattle.frame.proofs.ReadingSteps.{port_there, port_absent}
use Rattle.show_text.specs.Text.{Spans}

payload_spans : (f : List ℕ) → IsData f → Spans (payload_of f)
unfolding payload_of port_of
payload_spans f h =
    by_bool (has_port_of f)
    (λ e.
    let ends : fhdr_length_of f + 2 ≤ length f - 4 = omega (arith, leb-true (fhdr_length_of f + 6) (length f) e) in
    let small : length f - 4 < 100000 = omega (arith, h.most) in
    by_bool (eqb (fport f) 0) (λ z. simp (e, z) (ends, small)) (λ z. simp (e, z) (ends, small)))
    (λ e. simp e tt)

port_below : (f : List ℕ) → AreBytes f → port_number_of (port_of f) < 100000
port_below f b =
    by_order (fhdr_length_of f + 6) (length f) (λ h. rw (port_there f h) (omega (arith, b (1 + fhdr_length_of f))))
    (λ h. rw (port_absent f h) (omega arith))

pub record Fields (f : List ℕ) (d : DataFrame) : Type 0 where
  pub type_small : d.mtype < 100000
  pub fcnt_small : d.fcnt < 100000
  pub port_small : port_number_of d.port < 100000
  pub fopts_from : 8 ≤ d.fopts_end
  pub fopts_most : d.fopts_end ≤ 23
  pub spans : Spans d.payload
  pub mic-at : d.mic ≡ length f - 4

fields_of : (f : List ℕ) → AreBytes f → IsData f → Fields f (data_of f)
unfolding data_of
fields_of f b h =
    record {
      type_small = omega (arith, h.below);
      fcnt_small = omega (arith, b 6, b 7);
      port_small = port_below f b;
      fopts_from = omega arith;
      fopts_most = omega arith;
      spans = payload_spans f h;
      mic-at = refl;
    }

pub fields : (f : List ℕ) (d : DataFrame) → AreBytes f → IsData f → d ≡ data_of f → Fields f d
fields f d b h e = subst (λ (x : DataFrame). Fields f x) (sym e) (fields_of f b h)

-- the bytes from the MIC's place on
pub mic-part : (f : List ℕ) (m : ℕ) → m ≡ length f - 4 → take (length f - m) (drop m f) ≡ mic_of f
mic-part f m e =
    take_all (length f - m) (drop m f) (omega (arith, length-drop m f)) ∙ ap (λ (n : ℕ). drop n f) e

-- FCtrl as a part of the frame
pub fctrl-part : (f : List ℕ) (d : DataFrame) → IsData f → d ≡ data_of f → part 5 1 f ≡ d.fctrl ∷ []
unfolding data_of
fctrl-part f d h e =
    part-tab 5 1 f (omega (arith, h.least)) ∙ ap (λ (x : DataFrame). x.fctrl ∷ []) (sym e)
