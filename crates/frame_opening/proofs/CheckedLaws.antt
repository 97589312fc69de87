-- What the proofs of the checked openings cite: opening a data frame after a test of its MIC, by the answers of both calls;
-- a join-accept decrypted in a copy, which reads as it did; and storing the copy where the test is passed.
-- Assumes nothing.
use Rattle.std.specs.Prelude.{Err, Ok, Option, Some, Result}
use mathlib.Core.Path.{◌≡◌, refl, ap, ◌∙◌}
use mathlib.Core.Bool.{Bool}
use mathlib.Core.List.{List, ◌++◌, append-nil}
use mathlib.Core.Logic.{⊎_elim}
use Prim.Native.Nat.{ℕ, ◌-◌, ◌≤◌}
use native.Mathlib.Omega.{arith}
use lib.ListN.{length, take, drop, drop_of_length-le}
use lib.Seq.{take_at}
use Rattle.base.specs.Bytes.{pick, part}
use Rattle.base.specs.Storing.{Stored}
use Rattle.base.proofs.Put.{put_front}
use Rattle.base.proofs.StoringLaws.{fitted}
use Rattle.frame.specs.Conditions.{IsJoinAccept}
use Rattle.frame.specs.ReadingNumbers.{on_data}
use Rattle.frame.specs.Reading.{read_of}
use Rattle.frame.specs.Refusals.{refused, by_result}
use Rattle.frame_security.specs.Security.{frame_key}
use Rattle.frame.specs.declared.parser.DataFrame.{DataFrame}
use Rattle.frame.specs.declared.refusals.Refusal.{Refusal}
use Rattle.frame.specs.Reading.{Reading}
use Rattle.frame.specs.declared.parser.Frame.TheVariants.{JoinRequest, JoinAccept, Data}
use Rattle.frame.proofs.ReadingLaws.{accept_read}
use Rattle.frame_security.specs.JoinAcceptCipher.{accept_decrypted}
use Rattle.frame_opening.specs.FrameOpening.{join_passes, data_passes, data_test_of, Outcome, unopened, opened_under, data_opened}
use Rattle.frame_security.proofs.AcceptBlocks.{clear_long}
use Rattle.frame_opening.specs.CheckedOpening.{opened_tested, data_opened_checked}

-- ---- a data frame: what opening it after a test gives, by the test and by what opening it without one gives

tested_reading : (f : List ℕ) (b : Bool) (x : DataFrame → Outcome) (r : Reading)
    → by_result (λ c. pick c (on_data x (unopened f) r) (unopened f (refused 5))) (unopened f) (on_data (λ d. Ok b) Err r)
    ≡ on_data (λ d. pick b (x d) (unopened f (refused 5))) (unopened f) r
tested_reading f b x (Ok JoinRequest) = refl
tested_reading f b x (Ok (JoinAccept n)) = refl
tested_reading f b x (Ok (Data d)) = refl
tested_reading f b x (Err r) = refl

abbrev pub by_test : List ℕ → Option (List ℕ) → ℕ → List ℕ → Result Bool Refusal → Outcome
by_test nwk app counter f t =
    by_result (λ right. pick right (data_opened (Some nwk) app counter f) (unopened f (refused 5))) (unopened f) t

pub checked : (nwk : List ℕ) (app : Option (List ℕ)) (counter : ℕ) (f : List ℕ)
    → by_test nwk app counter f (data_test_of nwk counter f) ≡ data_opened_checked nwk app counter f
unfolding data_test_of data_opened data_opened_checked opened_tested
checked nwk app counter f =
    tested_reading f (data_passes nwk counter f) (λ d. opened_under (frame_key f (Some nwk) app) counter f) (read_of f)

-- ---- a join-accept

-- its length is that of the reading
pub accept_read_long : (f : List ℕ) {n : ℕ} → read_of f ≡ Ok (JoinAccept n) → IsJoinAccept f (length f)
accept_read_long f q =
    let h = accept_read f q in
    record { version = h.version; type = h.type; long = refl; either = rw h.long h.either }

module _ (key f : List ℕ) (h : IsJoinAccept f (length f)) where
  pub accept_long : (17 ≤ length f) × (length f ≤ 33)
  accept_long = ⊎_elim (λ k. (omega arith, omega arith)) (λ k. (omega arith, omega arith)) h.either

  -- a copy of it whose first bytes, those of f, were lent, decrypted and put back
  pub copy_clear : (copy t : List ℕ) → take (length f) copy ≡ f → t ≡ accept_decrypted key (part 0 (length f - 0) copy)
      → take (length f) (take 0 copy ++ (t ++ drop (length f - 0) (drop 0 copy))) ≡ accept_decrypted key f
  copy_clear copy t c e =
      let z : length f - 0 ≡ length f = omega arith in
      let clear : t ≡ accept_decrypted key f = e ∙ ap (accept_decrypted key) (ap (λ (n : ℕ). take n copy) z ∙ c) in
      let l : length t ≡ length f = ap length clear ∙ clear_long key f in
      take_at t (drop (length f - 0) copy) (length f) l ∙ clear

  -- the test of that copy's first bytes
  pub copy_test : (copy : List ℕ) → take (length f) copy ≡ accept_decrypted key f
      → join_passes key (part 0 (length f - 0) copy) ≡ join_passes key (accept_decrypted key f)
  copy_test copy c =
      let z : length f - 0 ≡ length f = omega arith in
      ap (join_passes key) (ap (λ (n : ℕ). take n copy) z ∙ c)

-- ---- copies

-- a copy of a frame in a longer array
pub copied : (l f : List ℕ) {r : ℕ} {e : List ℕ} → Stored l 0 f r e → length f ≤ length l → take (length f) e ≡ f
copied l f p h = ap (take (length f)) (put_front (fitted p (omega arith)) (omega arith)) ∙ take_at f (drop (length f) l) (length f) refl

-- as many bytes as there are, stored over a frame
pub stored_back : (f g : List ℕ) {r : ℕ} {e : List ℕ} → Stored f 0 g r e → length g ≡ length f → e ≡ g
stored_back f g p h =
    put_front (fitted p (omega arith)) (omega arith)
    ∙ ap (λ (l : List ℕ). g ++ l) (drop_of_length-le f {i = length g} (omega arith))
    ∙ append-nil g
