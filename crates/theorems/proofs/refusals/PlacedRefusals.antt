-- Where a refusal has a place (docs/RULES.md, Refusals), of every call that can refuse: the reader's refusal is handed on, number and
-- place, and every other one is at place 0. It follows from when each call refuses: a refusal with a place is none of its own.
-- A step of reading MAC commands is the one call that has places of its own; `step_answers` of `CommandRefusals` fixes them.
-- Assumes nothing.
use Rattle.mac_commands.specs.declared.in_frame.CommandLists.{CommandLists}
use Rattle.frame.specs.Refusals.{refusal_in}
use Rattle.std.specs.Prelude.{Err, Ok, Result, false}
use mathlib.Core.Path.{◌≡◌, refl, ap, subst}
use mathlib.Core.Bool.{Bool, true, not}
use mathlib.Core.List.{List, [], ◌∷◌}
use Prim.Native.Nat.{ℕ}
use lib.Dec.{T, ltb}
use lib.ListN.{length}
use Rattle.base.proofs.Cases.{by_bool, by_equal}
use Rattle.base.proofs.Tested.{both, both_left, both_right}
use Rattle.frame.specs.Reading.{read_of}
use Rattle.frame.specs.ReadingNumbers.{number_of, place_of, plain_values_of, data_values_of, values_of}
use Rattle.frame.specs.Refusals.{refusal, refused}
use Rattle.frame.specs.declared.refusals.Refusal.{Refusal}
use Rattle.frame.specs.Reading.{Reading}
use Rattle.frame.specs.declared.parser.Frame.TheVariants.{JoinRequest, JoinAccept, Data}
use Rattle.frame_build.specs.DataBuilding.{data_refusal_of}
use Rattle.frame_build.specs.DataFrames.{data_frame_of, built_of}
use Rattle.frame_build.specs.JoinBuilding.{join_request_refusal, join_accept_refusal_of}
use Rattle.frame_build.specs.JoinFrames.{join_request_of, join_accept_of}
use Rattle.frame_c.specs.CGiven.{data_refused}
use Rattle.mac_commands.specs.Commands.{command_written, fields_written}
use Rattle.mac_commands.specs.InFrame.{in_frame_of}
use Rattle.show_text.specs.Text.{text_of, text_of_input, text_room, described_of}
use Rattle.theorems.specs.Exactly.{Condition, NotOwn, Refuses}
use Rattle.theorems.specs.ByReading.{Needs, data_frame, ByReading, keeps, other, of_reading, AfterReading}
use Rattle.theorems.specs.CommandConditions.{Writes, lists_answer}
use Rattle.theorems.specs.NumberConditions.{numbers_written}
use Rattle.theorems.specs.OpeningConditions.{Tests, opening_of}
use Rattle.theorems.specs.Places.{Reads, read, view, as_request, as_accept, as_data, request_fields, accept_fields, session_keys, request_stored, accept_stored, keys_stored, request_mic, accept_mic, data_mic, decrypt_data, decrypt_data_checked, decrypt_accept, decrypt_accept_checked, open_frame, amend_frame, command_lists, reads_refusal, Others, amend, amend_list, take_out, build_data, build_kind, build_request, build_accept, write_command, write_fields, write_numbers, describe, describe_input, others_refusal, Call, reads, others, refusal_of, ReaderRefuses, Placed}
use Rattle.theorems.proofs.refusals.AmendingRefusals as amends
use Rattle.theorems.proofs.refusals.BridgeRefusals as bridge
use Rattle.theorems.proofs.refusals.CommandRefusals as commands
use Rattle.theorems.proofs.refusals.FirstDue.{refuted, says_told}
use Rattle.theorems.proofs.refusals.NumberRefusals as numbers
use Rattle.theorems.proofs.refusals.OpeningRefusals as opens
use Rattle.theorems.proofs.refusals.ReadFirst.{reading_number}

-- ---- whose refusal it is

-- a refusal that is not at 0 is none of a call's own
placed_not_own : (cs : List Condition) (r : Refusal) → (r.place ≡ 0 → ⊥) → NotOwn cs r
placed_not_own [] r n = λ e. n (ap (λ (s : Refusal). s.place) e)
placed_not_own (c ∷ cs) r n = (λ e. n (ap (λ (s : Refusal). s.place) e), placed_not_own cs r n)

-- none of these numbers is one that reading gives, which is computed for a list that is written out
abbrev past_reading : List Condition → Bool
past_reading [] = true
past_reading (c ∷ cs) = both (not (of_reading c.number)) (past_reading cs)

-- so what reading gives is none of their own
reading_not_own : (cs : List Condition) (r : Refusal) → T (past_reading cs) → T (of_reading r.number) → NotOwn cs r
reading_not_own [] r t o = λ e. subst (λ (s : Refusal). T (of_reading s.number)) e o
reading_not_own (c ∷ cs) r t o =
    let b = not (of_reading c.number) in (
      λ e. refuted (of_reading c.number) (subst (λ (s : Refusal). T (of_reading s.number)) e o) (both_left b (past_reading cs) t),
      reading_not_own cs r (both_right b (past_reading cs) t) o,
    )

-- ---- of a call that reads f first

module _ (f : List ℕ) where
  abbrev Reader : Refusal → Type 0
  Reader s = read_of f ≡ Err s

  -- a refusal that reading gives, where the reader does not refuse, is 4 at place 0
  other_type : (k : Needs) (r : Refusal) → ByReading k f r → ((s : Refusal) → Reader s → ⊥) → r.place ≡ 0
  other_type k r (keeps q) n = absurd (n r q)
  other_type k r (other p i e) n = ap (λ (s : Refusal). s.place) e

  refusal-placed : (k : Needs) (cs : List Condition) → T (past_reading cs) → (x : Refusal)
      → AfterReading (λ r. r) refused k f cs x → Placed Reader x
  refusal-placed k cs t x a =
      record {
        handed_on = λ s q. (a.reading s (reading_not_own cs s t (reading_number f k s (keeps q)))).back (keeps q);
        else_0 = λ n. by_equal x.place 0 (λ e. e) (λ m. other_type k x ((a.reading x (placed_not_own cs x m)).there refl) n);
      }

  -- an opening
  opening_at : (k : Needs) (cs : List Condition) (x : (Result (Unit {0}) Refusal)) → AfterReading Err opening_of k f cs x
      → ((s : Refusal) → Reader s → ⊥) → (refusal_in x).place ≡ 0
  opening_at k cs (Ok tt) a n = refl
  opening_at k cs (Err r) a n =
      by_equal r.place 0 (λ e. e) (λ m. other_type k r ((a.reading r (placed_not_own cs r m)).there refl) n)

  opening_placed : (k : Needs) (cs : List Condition) → T (past_reading cs) → (x : (Result (Unit {0}) Refusal))
      → AfterReading Err opening_of k f cs x → Placed Reader (refusal_in x)
  opening_placed k cs t x a =
      record {
        handed_on = λ s q. ap refusal_in ((a.reading s (reading_not_own cs s t (reading_number f k s (keeps q)))).back (keeps q));
        else_0 = opening_at k cs x a;
      }

  -- the lists of MAC commands
  lists_at : (cs : List Condition) (x : (Result CommandLists Refusal)) → AfterReading Err (lists_answer f) data_frame f cs x
      → ((s : Refusal) → Reader s → ⊥) → (refusal_in x).place ≡ 0
  lists_at cs (Ok l) a n = refl
  lists_at cs (Err r) a n =
      by_equal r.place 0 (λ e. e) (λ m. other_type data_frame r ((a.reading r (placed_not_own cs r m)).there refl) n)

  lists_placed : Placed Reader (refusal_in (in_frame_of f))
  lists_placed =
      let a = commands.command_lists f in
      record {
        handed_on = λ s q. ap refusal_in ((a.reading s (reading_not_own [] s tt (reading_number f data_frame s (keeps q)))).back (keeps q));
        else_0 = lists_at [] (in_frame_of f) a;
      }

  -- a MIC test
  test_at : (k : Needs) {Right : Type 0} (t : (Result Bool Refusal)) → Tests k f Right t → ((s : Refusal) → Reader s → ⊥)
      → (refusal_in t).place ≡ 0
  test_at k (Ok true) a n = refl
  test_at k (Ok false) a n = refl
  test_at k (Err r) a n = other_type k r ((a.reading r).there refl) n

  test_placed : (k : Needs) {Right : Type 0} (t : (Result Bool Refusal)) → Tests k f Right t → Placed Reader (refusal_in t)
  test_placed k t a =
      record { handed_on = λ s q. ap refusal_in ((a.reading s).back (keeps q)); else_0 = test_at k t a }

  -- reading itself, and the view
  reading_at : (r : Reading) → read_of f ≡ r → ((s : Refusal) → Reader s → ⊥) → place_of r ≡ 0
  reading_at (Ok JoinRequest) q n = refl
  reading_at (Ok (JoinAccept m)) q n = refl
  reading_at (Ok (Data d)) q n = refl
  reading_at (Err s) q n = absurd (n s q)

  read_placed : Placed Reader (reads_refusal f read)
  read_placed =
      record {
        handed_on = λ s q. ap (λ (r : Reading). refusal (number_of r) (place_of r)) q;
        else_0 = reading_at (read_of f) refl;
      }

  shown : (r : Reading) → refusal (values_of r).number (values_of r).place ≡ refusal (number_of r) (place_of r)
  unfolding plain_values_of data_values_of
  shown (Ok JoinRequest) = refl
  shown (Ok (JoinAccept m)) = refl
  shown (Ok (Data d)) = refl
  shown (Err s) = refl

  view_placed : Placed Reader (reads_refusal f view)
  view_placed = rw (shown (read_of f)) read_placed

  reads_placed : (c : Reads f) → Placed Reader (reads_refusal f c)
  reads_placed read = read_placed
  reads_placed view = view_placed
  reads_placed as_request = refusal-placed _ _ tt _ (opens.as_request f).0
  reads_placed as_accept = refusal-placed _ _ tt _ (opens.as_accept f).0
  reads_placed as_data = refusal-placed _ _ tt _ (opens.as_data f).0
  reads_placed request_fields = refusal-placed _ _ tt _ (opens.request_fields f).0
  reads_placed accept_fields = refusal-placed _ _ tt _ (opens.accept_fields f).0
  reads_placed (session_keys key dev_nonce_of) = refusal-placed _ _ tt _ (opens.session_keys key dev_nonce_of f).0
  reads_placed (request_stored room) = refusal-placed _ _ tt _ (bridge.request_stored f room).0
  reads_placed (accept_stored room) = refusal-placed _ _ tt _ (bridge.accept_stored f room).0
  reads_placed (keys_stored key dev_nonce_of room) = refusal-placed _ _ tt _ (bridge.keys_stored key dev_nonce_of f room).0
  reads_placed (request_mic key) = test_placed _ _ (opens.request_test key f)
  reads_placed (accept_mic key) = test_placed _ _ (opens.accept_test key f)
  reads_placed (data_mic key counter) = test_placed _ _ (opens.data_test key counter f)
  reads_placed (decrypt_data nwk app counter) = opening_placed _ _ tt _ (opens.data_opening nwk app counter f)
  reads_placed (decrypt_data_checked nwk app counter) = opening_placed _ _ tt _ (opens.checked_opening nwk app counter f)
  reads_placed (decrypt_accept key) = opening_placed _ _ tt _ (opens.accept_opening key f)
  reads_placed (decrypt_accept_checked key) = opening_placed _ _ tt _ (opens.checked_accept key f)
  reads_placed (open_frame nwk app counter) = refusal-placed _ _ tt _ (amends.opening f nwk app counter).0
  reads_placed (amend_frame nwk app counter list) = refusal-placed _ _ tt _ (amends.amending_frame f nwk app counter list).0
  reads_placed command_lists = lists_placed

-- ---- of a call that reads none

at_0 : {r : Refusal} → r.place ≡ 0 → Placed (λ s. ⊥) r
at_0 e = record { handed_on = λ s b. absurd b; else_0 = λ n. e }

refuses_at_0 : {cs : List Condition} {x : Refusal} → Refuses cs x → x.place ≡ 0
refuses_at_0 {cs} {x} a = by_equal x.place 0 (λ e. e) (λ m. absurd (a.no_other x (placed_not_own cs x m) refl))

built_at_0 : (n long : ℕ) → (refusal_in (built_of n long)).place ≡ 0
built_at_0 n long = ap (λ (r : Refusal). r.place) (says_told Err (Ok long) refusal_in (λ r. refl) refl n)

written_at_0 : {cs : List Condition} {next : ℕ} (w : (Result ℕ Refusal)) → Writes cs next w → (refusal_in w).place ≡ 0
written_at_0 (Ok m) a = refl
written_at_0 {cs} (Err q) a = by_equal q.place 0 (λ e. e) (λ m. absurd (a.no_other q (placed_not_own cs q m) refl))

described_at_0 : (text out : List ℕ) → (refusal_in (described_of text out)).place ≡ 0
unfolding described_of
described_at_0 text out = by_bool (ltb (length out) text_room) (λ e. simp e refl) (λ e. simp e refl)

others_at_0 : (c : Others) → (others_refusal c).place ≡ 0
others_at_0 (amend s offset value) = refuses_at_0 (amends.amending s offset value).0
others_at_0 (amend_list s list) = refuses_at_0 (amends.amending_list s list).0
others_at_0 (take_out s room) = refuses_at_0 (amends.taking s room).0
others_at_0 (build_data nwk app d commands body room) =
    built_at_0 (data_refusal_of d commands body room) (length (data_frame_of nwk app d commands body))
others_at_0 (build_kind kind nwk app d commands body room) =
    built_at_0 (data_refused kind d commands body room) (length (data_frame_of nwk app d commands body))
others_at_0 (build_request key j room) = built_at_0 (join_request_refusal room) (length (join_request_of key j))
others_at_0 (build_accept key j channels room) =
    built_at_0 (join_accept_refusal_of j channels room) (length (join_accept_of key j channels))
others_at_0 (write_command c room place) = written_at_0 (command_written c room place) (commands.command_writes c room place)
others_at_0 (write_fields up id values room place) =
    written_at_0 (fields_written up id values room place) (commands.fields_write up id values room place)
others_at_0 (write_numbers up zs room place) = written_at_0 (numbers_written up zs room place) (numbers.numbers_write up zs room place)
others_at_0 (describe f out) = described_at_0 (text_of f) out
others_at_0 (describe_input start n out) = described_at_0 (text_of_input start n) out

-- ---- the theorem

pub placed : (c : Call) → Placed (ReaderRefuses c) (refusal_of c)
placed (reads f c) = reads_placed f c
placed (others c) = at_0 (others_at_0 c)
