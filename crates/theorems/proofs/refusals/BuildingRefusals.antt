-- Building gives each number exactly where it is due by the order of its conditions (docs/RULES.md, Refusals), 0 where none
-- holds, and no other number: said of the definitions of the refusals, and of what each call answers, a refusal or a length.
-- Assumes nothing.
use Rattle.frame.specs.declared.refusals.Refusal.{Refusal}
use Rattle.frame.specs.Refusals.{refusal_in}
use Rattle.std.specs.Prelude.{Err, None, Ok, Option, Result, Some}
use mathlib.Core.Path.{◌≡◌, refl, sym, ap}
use mathlib.Core.Bool.{Bool, true, false, not}
use mathlib.Core.List.{List}
use Prim.Native.Nat.{ℕ, ◌%◌, ◌<◌}
use native.Mathlib.Omega.{arith}
use lib.Dec.{eqb, ltb}
use lib.ListN.{length}
use borrow.Author.Tests.{eqb-true, eqb-false, eq-eqb, ne_eqb, ltb-true, lt-ltb}
use Rattle.base.specs.Bytes.{pick}
use Rattle.frame.specs.Refusals.{refused}
use Rattle.frame_build.specs.DataBuilding.{both, either, is_zero, is_absent, data_length, data_refusal_of}
use Rattle.frame_build.specs.DataFrames.{data_frame_of, built_of}
use Rattle.frame_build.specs.JoinBuilding.{too_high_of, join_accept_refusal_of, join_request_refusal}
use Rattle.frame_build.specs.JoinFrames.{join_request_of, join_accept_of}
use Rattle.frame_build.specs.declared.creator.data_frame.DataParts.{DataParts}
use Rattle.frame_build.specs.declared.creator.join.JoinRequestParts.{JoinRequestParts}
use Rattle.frame_build.specs.declared.creator.join.JoinAcceptParts.{JoinAcceptParts}
use Rattle.theorems.specs.Exactly.{Exactly, Condition, Due}
use Rattle.theorems.specs.BuildingConditions.{NotPort0, absent, other, TooManyCommands, PayloadOnPort0, PayloadWithoutPort, data_conditions, request_conditions, WrongChannels, many, high, WrongList, NoRoom, bare, with_list, accept_conditions, Answers}
use Rattle.theorems.proofs.refusals.SomeIndex.{SomeAt, if_some}
use Rattle.theorems.proofs.refusals.FirstDue.{apart, if_when, if_unless, if_not, if_below, if_equal, by_none, Gives, plain, none_left, or_else, says_told, no_other, in_answer}

-- ---- what the tests tell

-- of the port
if_zero : (port : (Option ℕ)) → Exactly (is_zero port ≡ true) (port ≡ Some 0)
if_zero None = record { there = λ e. apart (sym e); back = λ e. cc }
if_zero (Some p) = record { there = λ e. ap Some (eqb-true p 0 e); back = λ e. eq-eqb p 0 (cc) }

if_absent : (port : (Option ℕ)) → Exactly (is_absent port ≡ true) (port ≡ None)
if_absent None = record { there = λ e. refl; back = λ e. refl }
if_absent (Some p) = record { there = λ e. apart (sym e); back = λ e. cc }

port_other : (p : ℕ) → NotPort0 (Some p) → p ≡ 0 → ⊥
port_other p (absent e) z = apart (cc)
port_other p (other q e n) z = n (cc)

if_not_zero : (port : (Option ℕ)) → Exactly (is_zero port ≡ false) (NotPort0 port)
if_not_zero None = record { there = λ e. absent refl; back = λ n. refl }
if_not_zero (Some p) = record { there = λ e. other p refl (eqb-false p 0 e); back = λ n. ne_eqb p 0 (port_other p n) }

-- two tests, both of which are to hold
if_both : (a b : Bool) {P Q : Type 0} → Exactly (a ≡ true) P → Exactly (b ≡ true) Q → Exactly (both a b ≡ true) (P × Q)
if_both true b x y = record { there = λ e. (x.there refl, y.there e); back = λ h. y.back h.1 }
if_both false b x y = record { there = λ e. apart (sym e); back = λ h. x.back h.0 }

-- a channel that is too high stands at some index
if_high : (cs : List ℕ) → Exactly (too_high_of cs ≡ true) (SomeAt (λ c. 16777215 < c) cs)
if_high = if_some (λ c. 16777215 < c) (ltb 16777215) (if_below 16777215) too_high_of refl (λ c cs. refl)

-- so the two tests of the list tell that its channels are wrong
wrong_channels : (b : Bool) (cs : List ℕ) → Exactly (b ≡ true) (5 < length cs) → either b (too_high_of cs) ≡ true → WrongChannels cs
wrong_channels true cs x e = many (x.there refl)
wrong_channels false cs x e = let h = (if_high cs).there e in high h.0 h.1 h.2

channels_wrong : (b : Bool) (cs : List ℕ) → Exactly (b ≡ true) (5 < length cs) → WrongChannels cs → either b (too_high_of cs) ≡ true
channels_wrong true cs x w = refl
channels_wrong false cs x (many h) = apart (sym (x.back h))
channels_wrong false cs x (high i l h) = (if_high cs).back (i, l, h)

if_channels : (cs : List ℕ) → Exactly (either (ltb 5 (length cs)) (too_high_of cs) ≡ true) (WrongChannels cs)
if_channels cs =
    let many-told = if_below 5 (length cs) in
    record {
      there = wrong_channels (ltb 5 (length cs)) cs many-told;
      back = channels_wrong (ltb 5 (length cs)) cs many-told;
    }

-- the room that is needed goes by the list
room_there : (listed : Bool) (room : ℕ) → room < pick listed 33 17 → NoRoom listed room
room_there true room h = with_list refl h
room_there false room h = bare refl h

room_back : (listed : Bool) (room : ℕ) → NoRoom listed room → room < pick listed 33 17
room_back true room (bare e h) = apart e
room_back true room (with_list e h) = h
room_back false room (bare e h) = h
room_back false room (with_list e h) = apart (sym e)

if_no_room : (listed : Bool) (room : ℕ) → Exactly (ltb room (pick listed 33 17) ≡ true) (NoRoom listed room)
if_no_room listed room =
    record {
      there = λ e. room_there listed room (ltb-true room (pick listed 33 17) e);
      back = λ h. lt-ltb room (pick listed 33 17) (room_back listed room h);
    }

-- ---- each number exactly where it is due

pub data_gives : (d : DataParts) (commands body : List ℕ) (room : ℕ)
    → Gives plain (data_conditions d commands body room) (data_refusal_of d commands body room)
unfolding data_refusal_of
data_gives d commands body room =
    let zero-port = is_zero d.port in
    let absent-port = is_absent d.port in
    let over = ltb 15 (length commands) in
    let some = ltb 0 (length body) in
    let if_some = if_below 0 (length body) in
    or_else tt (if_when (ltb room 255) (if_below room 255))
    (or_else tt (if_unless (eqb (d.fctrl % 16) 0) (if_equal (d.fctrl % 16) 0))
    (or_else tt
    (if_when (both (not zero-port) over)
    (if_both (not zero-port) over (if_not zero-port (if_not_zero d.port)) (if_below 15 (length commands))))
    (or_else tt (if_when (both zero-port some) (if_both zero-port some (if_zero d.port) if_some))
    (or_else tt (if_when (both absent-port some) (if_both absent-port some (if_absent d.port) if_some))
    (or_else tt (if_when (ltb 255 (data_length d commands body)) (if_below 255 (data_length d commands body))) none_left)))))

request_gives : (room : ℕ) → Gives plain (request_conditions room) (join_request_refusal room)
request_gives room = or_else tt (if_when (ltb room 23) (if_below room 23)) none_left

accept_gives : (j : JoinAcceptParts) (channels : List ℕ) (room : ℕ)
    → Gives plain (accept_conditions j channels room) (join_accept_refusal_of j channels room)
unfolding join_accept_refusal_of
accept_gives j channels room =
    let listed = j.with_c_f_list in
    let wrong = either (ltb 5 (length channels)) (too_high_of channels) in
    or_else tt
    (if_when (both listed wrong) (if_both listed wrong (record { there = λ e. e; back = λ e. e }) (if_channels channels)))
    (or_else tt (if_when (ltb room (pick listed 33 17)) (if_no_room listed room)) none_left)

-- ---- and what a building answers by it

-- what is due by the number is what is due by the answer
pub answers : {cs : List Condition} {m : ℕ} (long : ℕ) → Gives plain cs m → Answers cs long (built_of m long)
answers long g =
    let says : ℕ → (Result ℕ Refusal) = λ (n : ℕ). built_of n long in
    let back = says_told Err (Ok long) refusal_in (λ r. refl) refl in
    let given = in_answer says refusal_in back g in
    record {
      refuses =
          λ n h. rw (ne_eqb n 0 (λ e. omega arith)) at (given.exactly n);
      builds = given.exactly 0;
      no_other = λ q o e. no_other says refusal_in back given q o (ap refusal_in e);
    }

module _ (d : DataParts) (commands body : List ℕ) (room : ℕ) where
  pub data_refusals : (n : ℕ) → Exactly (data_refusal_of d commands body room ≡ n) (Due (data_conditions d commands body room) n)
  data_refusals = (data_gives d commands body room).exactly

  pub data_answers : (nwk app : List ℕ)
      → Answers (data_conditions d commands body room) (length (data_frame_of nwk app d commands body))
      (built_of (data_refusal_of d commands body room) (length (data_frame_of nwk app d commands body)))
  data_answers nwk app = answers (length (data_frame_of nwk app d commands body)) (data_gives d commands body room)

pub request_refusals : (room n : ℕ) → Exactly (join_request_refusal room ≡ n) (Due (request_conditions room) n)
request_refusals room = (request_gives room).exactly

pub request_answers : (key : List ℕ) (j : JoinRequestParts) (room : ℕ)
    → Answers (request_conditions room) (length (join_request_of key j)) (built_of (join_request_refusal room) (length (join_request_of key j)))
request_answers key j room = answers (length (join_request_of key j)) (request_gives room)

module _ (j : JoinAcceptParts) (channels : List ℕ) (room : ℕ) where
  pub accept_refusals : (n : ℕ) → Exactly (join_accept_refusal_of j channels room ≡ n) (Due (accept_conditions j channels room) n)
  accept_refusals = (accept_gives j channels room).exactly

  pub accept_answers : (key : List ℕ)
      → Answers (accept_conditions j channels room) (length (join_accept_of key j channels))
      (built_of (join_accept_refusal_of j channels room) (length (join_accept_of key j channels)))
  accept_answers key = answers (length (join_accept_of key j channels)) (accept_gives j channels room)

-- ---- the numbers of them and what is built, written out

module _ (nwk app : List ℕ) (d : DataParts) (commands body : List ℕ) (room : ℕ) where
  abbrev data_answer : (Result ℕ Refusal)
  data_answer = built_of (data_refusal_of d commands body room) (length (data_frame_of nwk app d commands body))

  due_at : (n : ℕ) → 0 < n → Exactly (data_answer ≡ Err (refused n)) (Due (data_conditions d commands body room) n)
  due_at = (data_answers d commands body room nwk app).refuses

  pub data_7 : Exactly (data_answer ≡ Err (refused 7)) (room < 255)
  data_7 = due_at 7 (omega arith)

  pub data_13 : Exactly (data_answer ≡ Err (refused 13)) ((room < 255 → ⊥) × (d.fctrl % 16 ≡ 0 → ⊥))
  data_13 = due_at 13 (omega arith)

  pub data_9 : Exactly (data_answer ≡ Err (refused 9))
      ((room < 255 → ⊥) × ((d.fctrl % 16 ≡ 0) × TooManyCommands d.port commands))
  data_9 = due_at 9 (omega arith)

  pub data_10 : Exactly (data_answer ≡ Err (refused 10))
      ((room < 255 → ⊥)
      × ((d.fctrl % 16 ≡ 0) × ((TooManyCommands d.port commands → ⊥) × PayloadOnPort0 d.port body)))
  data_10 = due_at 10 (omega arith)

  pub data_11 : Exactly (data_answer ≡ Err (refused 11))
      ((room < 255 → ⊥)
      × ((d.fctrl % 16 ≡ 0)
      × ((TooManyCommands d.port commands → ⊥)
      × ((PayloadOnPort0 d.port body → ⊥) × PayloadWithoutPort d.port body))))
  data_11 = due_at 11 (omega arith)

  pub data_12 : Exactly (data_answer ≡ Err (refused 12))
      ((room < 255 → ⊥)
      × ((d.fctrl % 16 ≡ 0)
      × ((TooManyCommands d.port commands → ⊥)
      × ((PayloadOnPort0 d.port body → ⊥)
      × ((PayloadWithoutPort d.port body → ⊥) × (255 < data_length d commands body))))))
  data_12 = due_at 12 (omega arith)

  pub data_built : Exactly (data_answer ≡ Ok (length (data_frame_of nwk app d commands body)))
      ((room < 255 → ⊥)
      × ((d.fctrl % 16 ≡ 0)
      × ((TooManyCommands d.port commands → ⊥)
      × ((PayloadOnPort0 d.port body → ⊥)
      × ((PayloadWithoutPort d.port body → ⊥) × (255 < data_length d commands body → ⊥))))))
  data_built = by_none (data_conditions d commands body room) tt (data_answers d commands body room nwk app).builds

module _ (key : List ℕ) (j : JoinRequestParts) (room : ℕ) where
  abbrev request_answer : (Result ℕ Refusal)
  request_answer = built_of (join_request_refusal room) (length (join_request_of key j))

  pub request_7 : Exactly (request_answer ≡ Err (refused 7)) (room < 23)
  request_7 = (request_answers key j room).refuses 7 (omega arith)

  pub request_built : Exactly (request_answer ≡ Ok (length (join_request_of key j))) (room < 23 → ⊥)
  request_built = by_none (request_conditions room) tt (request_answers key j room).builds

module _ (key : List ℕ) (j : JoinAcceptParts) (channels : List ℕ) (room : ℕ) where
  abbrev accept_answer : (Result ℕ Refusal)
  accept_answer = built_of (join_accept_refusal_of j channels room) (length (join_accept_of key j channels))

  pub accept_8 : Exactly (accept_answer ≡ Err (refused 8)) (WrongList j.with_c_f_list channels)
  accept_8 = (accept_answers j channels room key).refuses 8 (omega arith)

  pub accept_7 : Exactly (accept_answer ≡ Err (refused 7))
      ((WrongList j.with_c_f_list channels → ⊥) × NoRoom j.with_c_f_list room)
  accept_7 = (accept_answers j channels room key).refuses 7 (omega arith)

  pub accept_built : Exactly (accept_answer ≡ Ok (length (join_accept_of key j channels)))
      ((WrongList j.with_c_f_list channels → ⊥) × (NoRoom j.with_c_f_list room → ⊥))
  accept_built = by_none (accept_conditions j channels room) tt (accept_answers j channels room key).builds
