-- A command and its row and values, each way, and a row and its identifier.
-- Assumes nothing.
use mathlib.Core.Path.{◌≡◌, refl, sym, ap, ◌∙◌, subst}
use mathlib.Core.Bool.{Bool, true, false}
use mathlib.Core.List.{List, [], ◌∷◌}
use Prim.Native.Nat.{ℕ, zero, suc, ◌+◌, ◌-◌, ◌≤◌, ◌<◌}
use native.Mathlib.Nat.{mod-lt}
use native.Mathlib.Omega.{arith}
use lib.Pow.{pow_pos}
use lib.ListN.{length, drop}
use lib.Seq.{get_or-drop}
use borrow.Author.Tests.{le-leb, lt-leb}
use Rattle.base.specs.Bytes.{at, zeros}
use Rattle.base.proofs.Cases.{by_bool, by_order}
use Rattle.base.proofs.Tab.{length-tab, at-tab, same_at}
use Rattle.base.proofs.Tested.{agree}
use Rattle.mac_commands.specs.Layout.{fits, field_at, fields_of, number_of, count_in_row, width_at, downs, ups, row, row_of}
use Rattle.mac_commands.specs.Commands.{raw_of, commands, command_of, fields_as, row_at, values_of, up_of, id_of, fits_all}
use Rattle.mac_commands.specs.declared.maccommands.Command.{Command}
use Rattle.mac_commands.specs.declared.maccommands.Command.TheVariants.{LinkCheckAns, LinkADRReq, DutyCycleReq, RXParamSetupReq, DevStatusReq, NewChannelReq, RXTimingSetupReq, TxParamSetupReq, DlChannelReq, LinkCheckReq, LinkADRAns, DutyCycleAns, RXParamSetupAns, DevStatusAns, NewChannelAns, RXTimingSetupAns, TxParamSetupAns, DlChannelAns}
use Rattle.mac_commands.proofs.LayoutLaws.{named, named_below, each_fits, field_number, lacking}
use Rattle.mac_commands.proofs.MarginLaws.{raw_margin, margin_raw}
use Rattle.mac_commands.proofs.TableLaws.{Every, every, row_named, row_within}

-- ---- a command is a row of the table and five values, 0 past its last field; and it is itself again where they fit

pub record Shaped (c : Command) : Type 0 where
  pub known : row_at c < 18
  pub long : length (values_of c) ≡ 5
  pub lacks : drop (count_in_row (row (row_at c))) (values_of c) ≡ zeros (5 - count_in_row (row (row_at c)))
  pub back : fits_all c ≡ true → command_of (row_at c) (values_of c) ≡ c

-- the margin's six bits where they fit
six : (xs : List ℕ) → fits (row 13) xs ≡ true → at xs 1 < 64
unfolding row downs ups named width_at
six xs h = each_fits (row 13) xs 1 h refl

pub shaped : (c : Command) → Shaped c
unfolding fields_as commands command_of row downs ups count_in_row
shaped (LinkCheckAns a b) = record { known = omega arith; long = refl; lacks = refl; back = λ h. refl }
shaped (LinkADRReq a b c d e) = record { known = omega arith; long = refl; lacks = refl; back = λ h. refl }
shaped (DutyCycleReq a) = record { known = omega arith; long = refl; lacks = refl; back = λ h. refl }
shaped (RXParamSetupReq a b c) = record { known = omega arith; long = refl; lacks = refl; back = λ h. refl }
shaped DevStatusReq = record { known = omega arith; long = refl; lacks = refl; back = λ h. refl }
shaped (NewChannelReq a b c d) = record { known = omega arith; long = refl; lacks = refl; back = λ h. refl }
shaped (RXTimingSetupReq a) = record { known = omega arith; long = refl; lacks = refl; back = λ h. refl }
shaped (TxParamSetupReq a b c) = record { known = omega arith; long = refl; lacks = refl; back = λ h. refl }
shaped (DlChannelReq a b) = record { known = omega arith; long = refl; lacks = refl; back = λ h. refl }
shaped LinkCheckReq = record { known = omega arith; long = refl; lacks = refl; back = λ h. refl }
shaped (LinkADRAns a b c) = record { known = omega arith; long = refl; lacks = refl; back = λ h. refl }
shaped DutyCycleAns = record { known = omega arith; long = refl; lacks = refl; back = λ h. refl }
shaped (RXParamSetupAns a b c) = record { known = omega arith; long = refl; lacks = refl; back = λ h. refl }
shaped (DevStatusAns a b) =
    record {
      known = omega arith;
      long = refl;
      lacks = refl;
      back = λ h. ap (λ z. DevStatusAns a z) (margin_raw b (six (a ∷ raw_of b ∷ 0 ∷ 0 ∷ 0 ∷ []) h));
    }
shaped (NewChannelAns a b) = record { known = omega arith; long = refl; lacks = refl; back = λ h. refl }
shaped RXTimingSetupAns = record { known = omega arith; long = refl; lacks = refl; back = λ h. refl }
shaped TxParamSetupAns = record { known = omega arith; long = refl; lacks = refl; back = λ h. refl }
shaped (DlChannelAns a b) = record { known = omega arith; long = refl; lacks = refl; back = λ h. refl }

-- ---- the row and the values of the command that a row gives

pub row_back : (r : ℕ) (xs : List ℕ) → r < 18 → row_at (command_of r xs) ≡ r
unfolding fields_as commands command_of
row_back r xs h = agree 18 (λ r. row_at (command_of r xs)) (λ r. r) tt r h

abbrev Kept : ℕ → ℕ → ℕ → Type 0
Kept v r k = at (values_of (command_of r (fields_of (row r) v))) k ≡ field_at (row r) v k

margin_kept : (v : ℕ) → Every (Kept v 13) 2
unfolding fields_as commands command_of row downs ups width_at
margin_kept v = ((tt, refl), raw_margin (field_at (row 13) v 1) (mod-lt _ (pow_pos 6)))

values_back : (v r k : ℕ) → r < 18 → k < count_in_row (row r) → Kept v r k
unfolding fields_as commands command_of row downs ups count_in_row
values_back v r k hr hk =
    every (Kept v r) (count_in_row (row r))
    (every (λ r. Every (Kept v r) (count_in_row (row r))) 18
    ((((((((((((((((((tt, ((tt, refl), refl)), (((((tt, refl), refl), refl), refl), refl)), (tt, refl)), (((tt, refl), refl), refl)), tt), ((((tt, refl), refl), refl), refl)), (tt, refl)), (((tt, refl), refl), refl)), ((tt, refl), refl)), tt), (((tt, refl), refl), refl)), tt), (((tt, refl), refl), refl)), margin_kept v), ((tt, refl), refl)), tt), tt), ((tt, refl), refl))
    r hr) k hk

-- ---- the values of a command are the fields of its number, where they fit

zeros-at : (n i : ℕ) → at (zeros n) i ≡ 0
zeros-at zero i = refl
zeros-at (suc n) zero = refl
zeros-at (suc n) (suc i) = zeros-at n i

past_last : (c : Command) (k : ℕ) → count_in_row (row (row_at c)) ≤ k → at (values_of c) k ≡ 0
past_last c k h =
    let n : ℕ = count_in_row (row (row_at c)) in
    ap (at (values_of c)) (omega arith)
    ∙ sym (get_or-drop (count_in_row (row (row_at c))) (values_of c) (k - count_in_row (row (row_at c))) 0)
    ∙ ap (λ (s : List ℕ). at s (k - count_in_row (row (row_at c)))) (shaped c).lacks
    ∙ zeros-at (5 - count_in_row (row (row_at c))) (k - count_in_row (row (row_at c)))

-- a row names the fields below its count and no other
unnamed : (r k : ℕ) → r < 18 → named (row r) k ≡ false → count_in_row (row r) ≤ k
unnamed r k hr t =
    by_order (count_in_row (row r)) k (λ h. h)
    (λ h.
    let y : named (row r) k ≡ true = row_named r k hr h in
    let z : ◌≡◌ {A = ℕ} 0 1 = cc in
    absurd (omega arith))

pub fields_back : (c : Command) → fits_all c ≡ true
    → fields_of (row (row_at c)) (number_of (row (row_at c)) (values_of c)) ≡ values_of c
fields_back c h =
    let v : ℕ = number_of (row (row_at c)) (values_of c) in
    same_at 5 (fields_of (row (row_at c)) v) (values_of c) (length-tab 5 (field_at (row (row_at c)) v)) (shaped c).long
    (λ k l.
    at-tab 5 (field_at (row (row_at c)) v) k l
    ∙ by_bool (named (row (row_at c)) k) (λ t. field_number (row (row_at c)) (values_of c) k h t)
    (λ t. lacking (row (row_at c)) v k t ∙ sym (past_last c k (unnamed (row_at c) k (shaped c).known t))))

-- ---- the values of the command that a row and a number give are the fields of the number

pub values_read : (r v : ℕ) → r < 18 → values_of (command_of r (fields_of (row r) v)) ≡ fields_of (row r) v
values_read r v h =
    let its : row_at (command_of r (fields_of (row r) v)) ≡ r = row_back r (fields_of (row r) v) h in
    same_at 5 (values_of (command_of r (fields_of (row r) v))) (fields_of (row r) v)
    (shaped (command_of r (fields_of (row r) v))).long (length-tab 5 (field_at (row r) v))
    (λ k l.
    by_bool (named (row r) k)
    (λ t. values_back v r k h (named_below (row r) (count_in_row (row r)) k (row_within r h) t))
    (λ t.
    past_last (command_of r (fields_of (row r) v)) k
    (subst (λ (n : ℕ). count_in_row (row n) ≤ k) (sym its) (unnamed r k h t))
    ∙ sym (lacking (row r) v k t))
    ∙ sym (at-tab 5 (field_at (row r) v) k l))

-- ---- a row's direction and identifier name the row, and back

pub row_of_lem : (r : ℕ) → r < 18 → row_of (up_of r) (id_of r) ≡ r
row_of_lem r h = agree 18 (λ r. row_of (up_of r) (id_of r)) (λ r. r) tt r h

pub id_from : (r : ℕ) → 2 ≤ id_of r
id_from r = omega arith

pub id_upto : (r : ℕ) → id_of r ≤ 10
id_upto r = omega arith

pub id_of_lem : (up : Bool) (id : ℕ) → 2 ≤ id → id ≤ 10 → id_of (row_of up id) ≡ id
id_of_lem true id g l = omega arith
id_of_lem false id g l = omega arith

pub up_of_lem : (up : Bool) (id : ℕ) → 2 ≤ id → id ≤ 10 → up_of (row_of up id) ≡ up
up_of_lem true id g l = le-leb 9 (9 + (id - 2)) (omega arith)
up_of_lem false id g l = lt-leb 9 (0 + (id - 2)) (omega arith)
