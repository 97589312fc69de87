-- What opening computes is what its definition says: the first chain value comes of B_0, carrying on gives the rest, the
-- MIC from the last of them is that of the frame, and the bytes that are stored are the frame with zeros behind.
-- Assumes nothing.
use Rattle.std.specs.Prelude.{Ok, Err}
use mathlib.Core.Path.{◌≡◌, sym, ap, ap₂, ◌∙◌, subst}
use mathlib.Core.Bool.{Bool, true, false}
use mathlib.Core.List.{List, ◌++◌}
use Prim.Native.Nat.{ℕ, ◌+◌, ◌-◌, ◌*◌, ◌%◌, ◌≤◌, ◌<◌}
use native.Mathlib.Omega.{arith}
use lib.ListN.{length, take, drop, replicate, length-replicate, get_or-replicate, length-drop}
use lib.Seq.{sets, sets-eq, length-sets, get_or-drop, take_at}
use borrow.Author.Tests.{eq-eqb, ne_eqb}
use Rattle.base.specs.Bytes.{pick, part, xor_lists}
use Rattle.base.proofs.Tab.{same_at}
use Rattle.base.proofs.Lent.{part_long}
use Rattle.base.proofs.Parts.{at_part}
use Rattle.aes.specs.KeyExpansion.{key_expansion_of}
use Rattle.aes.specs.Fips197.{cipher}
use Rattle.aes.proofs.CipherLaws.{cipher_long}
use Rattle.frame_security.specs.Mic.{mic, same_bytes}
use Rattle.cmac.specs.Doubling.{const_zero}
use Rattle.cmac.specs.Rfc4493.{chain, mac}
use Rattle.cmac.proofs.CmacLaws.{chain_zero, chain_suc}
use Rattle.frame.specs.Conditions.{IsData}
use Rattle.frame.specs.Layout.{fcnt, mic_of}
use Rattle.frame.specs.ReadingNumbers.{data_in, on_data}
use Rattle.frame.specs.Reading.{data_of, read_of}
use Rattle.frame.specs.declared.parser.DataFrame.{DataFrame}
use Rattle.frame.specs.declared.parser.Frame.TheVariants.{Data}
use Rattle.frame.proofs.ReadingLaws.{reads_data, data_fields}
use Rattle.frame_security.proofs.SecurityLaws.{mic_block_of_long}
use Rattle.frame.specs.Refusals.{refused, by_result}
use Rattle.frame.specs.declared.refusals.Refusal.{Refusal}
use Rattle.amend.specs.Amending.{open_state, last_place, chained, signed_from}
use Rattle.amend.specs.declared.amending.Open.{Open}
use Rattle.amend.specs.OpenFrame.{held, chains_of, opened_of, open_checked_of, open_data, open_of}
use Rattle.frame_security.specs.Security.{covered, mic_block_of, message, data_mic_of}
use Rattle.amend.proofs.Stores.{part_after, part-stored}
use Rattle.amend.proofs.Chains.{Right, table_right, carried_table, block_behind, signed_right}

-- a part of zeros
part-zeros : (i n k : ℕ) → i + n ≤ k → part i n (replicate {A = ℕ} k 0) ≡ replicate {A = ℕ} n 0
part-zeros i n k h =
    same_at n (part i n (replicate {A = ℕ} k 0)) (replicate {A = ℕ} n 0)
    (part_long i n (replicate {A = ℕ} k 0) (omega (arith, length-replicate {A = ℕ} k 0)))
    (length-replicate {A = ℕ} n 0)
    (λ j l.
    at_part i n (replicate {A = ℕ} k 0) j l
    ∙ get_or-replicate {A = ℕ} k (i + j) 0 0 (omega arith)
    ∙ sym (get_or-replicate {A = ℕ} n j 0 0 l))

module _ (ks f : List ℕ) (counter : ℕ) (lo : 12 ≤ length f) (hi : length f ≤ 255) where
  -- the chain values that opening computes
  pub opened_table : (b : List ℕ) → b ≡ mic_block_of (covered f) counter
      → chained ks f (last_place (length f - 4) - 0) 0 (sets (replicate {A = ℕ} 256 0) 0 (cipher ks (xor_lists const_zero b)))
      ≡ chains_of ks (message (covered f) counter) (last_place (length f - 4))
  unfolding message
  opened_table b eb =
      let n = length f - 4 in
      let last = last_place n in
      let m = b ++ covered f in
      let x = cipher ks (xor_lists const_zero b) in
      let none = replicate {A = ℕ} 256 0 in
      let b-long : length b ≡ 16 = ap length eb ∙ mic_block_of_long (covered f) counter in
      let x-long : length x ≡ 16 = cipher_long ks (xor_lists const_zero b) in
      let none-long : length none ≡ 256 = length-replicate {A = ℕ} 256 0 in
      let first : chain ks m 1 ≡ x =
      chain_suc ks m 0
      ∙ ap₂ (λ (y p : List ℕ). cipher ks (xor_lists y p)) (chain_zero ks m) (take_at b (covered f) 16 b-long) in
      let right : Right ks m (sets none 0 x) 0 = part-stored none 0 16 x x-long (omega arith) ∙ sym first in
      carried_table ks m last f (sets none 0 x) 0 (length-sets none 0 x ∙ none-long) (omega arith) (omega arith)
      (λ j l.
      let here : 0 ≡ j = omega arith in
      subst (λ (i : ℕ). Right ks m (sets none 0 x) i) here right)
      (λ j l g. part_after (16 * j) 16 none 0 x (omega arith) ∙ part-zeros (16 * j) 16 256 (omega arith))
      (λ j l g. block_behind b f n j b-long (omega arith))
      ∙ ap (λ (q : List ℕ). chains_of ks q last)
      (ap (λ (q : List ℕ). q ++ covered f) eb)

-- the MIC of the first n bytes, from the chain values of the message that they make
pub signed-mic : (nwk g : List ℕ) (counter n : ℕ) → 0 < n → n ≤ 251 → n ≤ length g
    → signed_from (key_expansion_of nwk) g n (chains_of (key_expansion_of nwk) (message (take n g) counter) (last_place n))
    ≡ data_mic_of nwk (take n g) counter
unfolding data_mic_of mic mac message
signed-mic nwk g counter n lo hi inside =
    let ks = key_expansion_of nwk in
    let b = mic_block_of (take n g) counter in
    let m = b ++ take n g in
    signed_right ks b g n (chains_of ks m (last_place n)) (mic_block_of_long (take n g) counter) lo
    inside (table_right ks m (last_place n) (last_place n) (omega arith) (omega arith))

-- the test that the code makes, of the MIC from its own chain values and the frame's last four bytes
pub tested_is : (f nwk : List ℕ) (counter : ℕ) {ks chains m g : List ℕ} {t : Bool} → 12 ≤ length f → length f ≤ 255
    → ks ≡ key_expansion_of nwk → chains ≡ chains_of ks (message (covered f) counter) (last_place (length f - 4))
    → m ≡ signed_from ks f (length f - 4) chains → g ≡ mic_of f → t ≡ same_bytes m g
    → t ≡ same_bytes (data_mic_of nwk (covered f) counter) (mic_of f)
tested_is f nwk counter lo hi hk hc hm hg ht =
    let n = length f - 4 in
    ht
    ∙ ap₂ same_bytes
    (hm
    ∙ ap₂ (λ (k c : List ℕ). signed_from k f n c) hk
    (hc ∙ ap (λ (k : List ℕ). chains_of k (message (covered f) counter) (last_place n)) hk)
    ∙ signed-mic nwk f counter n (omega arith) (omega arith) (omega arith))
    hg

-- the answer by that test: the state, or 5
module _ (f nwk app : List ℕ) (counter : ℕ) {t : Bool} (e : t ≡ same_bytes (data_mic_of nwk (covered f) counter) (mic_of f)) where
  pub checked_opens : t ≡ true → {s : Open} → s ≡ opened_of f nwk app counter → Ok s ≡ open_checked_of f nwk app counter
  unfolding open_checked_of
  checked_opens h made =
      ap Ok made ∙ ap (λ (b : Bool). pick b (Ok (opened_of f nwk app counter)) (Err (refused 5))) (sym h ∙ e)

  pub checked_refuses : t ≡ false → Err (refused 5) ≡ open_checked_of f nwk app counter
  unfolding open_checked_of
  checked_refuses h = ap (λ (b : Bool). pick b (Ok (opened_of f nwk app counter)) (Err (refused 5))) (sym h ∙ e)

-- the frame stored at the front of 255 zeros
pub stored_frame : (f : List ℕ) → length f ≤ 255 → sets (replicate {A = ℕ} 255 0) 0 f ≡ held f
unfolding held
stored_frame f h =
    let long : length (replicate {A = ℕ} 255 0) ≡ 255 = length-replicate {A = ℕ} 255 0 in
    let rest : drop (0 + length f) (replicate {A = ℕ} 255 0) ≡ replicate {A = ℕ} (255 - length f) 0 =
    same_at (255 - length f) (drop (0 + length f) (replicate {A = ℕ} 255 0)) (replicate {A = ℕ} (255 - length f) 0)
    (omega (arith, length-drop (0 + length f) (replicate {A = ℕ} 255 0)))
    (length-replicate {A = ℕ} (255 - length f) 0)
    (λ j l.
    get_or-drop (0 + length f) (replicate {A = ℕ} 255 0) j 0
    ∙ get_or-replicate {A = ℕ} 255 (0 + length f + j) 0 0 (omega arith)
    ∙ sym (get_or-replicate {A = ℕ} (255 - length f) j 0 0 l)) in
    sets-eq f (replicate {A = ℕ} 255 0) 0 (omega arith) ∙ ap (λ (l : List ℕ). f ++ l) rest

-- the state by what the code computes
pub opened_is : (f nwk app : List ℕ) (counter : ℕ) {g ks ks' chains : List ℕ} → g ≡ held f → ks ≡ key_expansion_of nwk
    → ks' ≡ key_expansion_of app → chains ≡ chains_of ks (message (covered f) counter) (last_place (length f - 4))
    → open_state g (length f) ks ks' counter chains ≡ opened_of f nwk app counter
unfolding opened_of
opened_is f nwk app counter {g} {ks} {ks'} {chains} hg hk hk' hc =
    let m = message (covered f) counter in
    let last = last_place (length f - 4) in
    ap₂ (λ (x y : List ℕ). open_state x (length f) ks ks' counter y) hg hc
    ∙ ap₂ (λ (x y : List ℕ). open_state (held f) (length f) x y counter (chains_of x m last)) hk hk'

-- ---- the answers

module _ (f nwk app : List ℕ) (counter : ℕ) where
  pub open_data_lem : IsData f → open_of f nwk app counter ≡ open_data f nwk app counter
  unfolding open_of
  open_data_lem h = ap (on_data (λ d. open_data f nwk app counter) Err) (reads_data f h)

  pub counter_right : counter % 65536 ≡ fcnt f → open_data f nwk app counter ≡ open_checked_of f nwk app counter
  unfolding open_data
  counter_right e = simp (eq-eqb (counter % 65536) (fcnt f) e)

  pub counter_wrong : (counter % 65536 ≡ fcnt f → ⊥) → open_data f nwk app counter ≡ Err (refused 14)
  unfolding open_data
  counter_wrong n = simp (ne_eqb (counter % 65536) (fcnt f) n)

  -- what reading refuses, and a frame of another type
  pub open_other : {r : Refusal} → Err r ≡ data_in (read_of f) → Err r ≡ open_of f nwk app counter
  unfolding open_of
  open_other e = ap (by_result (λ d. open_data f nwk app counter) Err) e

-- the counter that a reading holds is the frame's
pub read_fcnt : (f : List ℕ) {d : DataFrame} → read_of f ≡ Ok (Data d) → d.fcnt ≡ fcnt f
unfolding data_of
read_fcnt f e = ap (λ (d : DataFrame). d.fcnt) (data_fields f e)
