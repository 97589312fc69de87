-- Chain values that are carried on: from a place whose value is right, each later one is right too, and those ahead of
-- it stay. So a whole table of chain values comes of carrying on, at opening and after a byte was changed alike, and
-- the MIC that is made of the last of them is that of the whole message.
-- Assumes nothing.
use mathlib.Core.Path.{◌≡◌, refl, sym, ap, ap₂, ◌∙◌, subst}
use mathlib.Core.Bool.{Bool}
use mathlib.Core.List.{List, ◌++◌}
use Prim.Native.Nat.{ℕ, zero, suc, ◌+◌, ◌-◌, ◌*◌, ◌/◌, ◌%◌, ◌≤◌, ◌<◌}
use native.Mathlib.Numerals.{add-one}
use native.Mathlib.Omega.{arith}
use lib.Dec.{leb}
use lib.ListN.{length, take, drop, length-append, get_or-replicate}
use lib.Seq.{sets, length-sets, drop-append-add, length-take-le}
use borrow.Author.Tests.{le-leb, lt-leb}
use Rattle.base.specs.Bytes.{pick, at, part, xor_lists}
use Rattle.base.proofs.Tab.{length-tab, at-tab, same_at}
use Rattle.base.proofs.Cases.{by_order}
use Rattle.base.proofs.Lent.{part_long}
use Rattle.base.proofs.Parts.{part-take, at_part}
use Rattle.aes.specs.Fips197.{cipher}
use Rattle.aes.proofs.CipherLaws.{cipher_long}
use Rattle.cmac.specs.Doubling.{const_zero}
use Rattle.cmac.specs.Rfc4493.{chain, tag}
use Rattle.cmac.specs.Running.{resumed, absorbed, finished}
use Rattle.cmac.proofs.CmacLaws.{chain_suc, chain_long, resume}
use Rattle.amend.specs.Amending.{last_place, chained, signed_from}
use Rattle.amend.specs.OpenFrame.{chains_of}
use Rattle.amend.proofs.Stores.{part_before, part_after, part-stored, drop-take}

-- place i holds the chain value of the message m ahead of the frame's block i
abbrev pub Right : List ℕ → List ℕ → List ℕ → ℕ → Type 0
Right ks m chains i = part (16 * i) 16 chains ≡ chain ks m (i + 1)

-- ---- carrying on

module _ (ks f : List ℕ) where
  pub chained_long : (k i : ℕ) (chains : List ℕ) → length (chained ks f k i chains) ≡ length chains
  unfolding chained
  chained_long zero i chains = refl
  chained_long (suc k) i chains =
      let next = cipher ks (xor_lists (part (16 * i) 16 chains) (part (16 * i) 16 f)) in
      chained_long k (i + 1) (sets chains (16 * (i + 1)) next) ∙ length-sets chains (16 * (i + 1)) next

  pub chained_before : (k i : ℕ) (chains : List ℕ) (j : ℕ) → j ≤ i
      → part (16 * j) 16 (chained ks f k i chains) ≡ part (16 * j) 16 chains
  unfolding chained
  chained_before zero i chains j h = refl
  chained_before (suc k) i chains j h =
      let next = cipher ks (xor_lists (part (16 * i) 16 chains) (part (16 * i) 16 f)) in
      chained_before k (i + 1) (sets chains (16 * (i + 1)) next) j (omega arith)
      ∙ part_before (16 * j) 16 chains (16 * (i + 1)) next (omega arith)

  pub chained_after : (k i : ℕ) (chains : List ℕ) (j : ℕ) → i + k < j
      → part (16 * j) 16 (chained ks f k i chains) ≡ part (16 * j) 16 chains
  unfolding chained
  chained_after zero i chains j h = refl
  chained_after (suc k) i chains j h =
      let block = xor_lists (part (16 * i) 16 chains) (part (16 * i) 16 f) in
      chained_after k (i + 1) (sets chains (16 * (i + 1)) (cipher ks block)) j (omega arith)
      ∙ part_after (16 * j) 16 chains (16 * (i + 1)) (cipher ks block) (omega (arith, cipher_long ks block))

  -- the value at the next place
  next_right : (m chains : List ℕ) (i : ℕ) → 16 * (i + 1) + 16 ≤ length chains → Right ks m chains i
      → part (16 * i) 16 f ≡ part (16 * (i + 1)) 16 m
      → Right ks m (sets chains (16 * (i + 1)) (cipher ks (xor_lists (part (16 * i) 16 chains) (part (16 * i) 16 f)))) (i + 1)
  next_right m chains i h r e =
      let block = xor_lists (part (16 * i) 16 chains) (part (16 * i) 16 f) in
      part-stored chains (16 * (i + 1)) 16 (cipher ks block) (cipher_long ks block) h
      ∙ ap₂ (λ (x p : List ℕ). cipher ks (xor_lists x p)) r e
      ∙ sym (chain_suc ks m (i + 1))
      ∙ ap (chain ks m) (sym (add-one (i + 1)))

  pub chained_right : (m : List ℕ) (k i : ℕ) (chains : List ℕ) → 16 * (i + k) + 16 ≤ length chains → Right ks m chains i
      → ((j : ℕ) → i ≤ j → j < i + k → part (16 * j) 16 f ≡ part (16 * (j + 1)) 16 m) → (j : ℕ) → i ≤ j → j ≤ i + k
      → Right ks m (chained ks f k i chains) j
  unfolding chained
  chained_right m zero i chains h r blocks j lo hi =
      let here : i ≡ j = omega arith in
      subst (λ (n : ℕ). Right ks m chains n) here r
  chained_right m (suc k) i chains h r blocks j lo hi =
      let next = cipher ks (xor_lists (part (16 * i) 16 chains) (part (16 * i) 16 f)) in
      let stored = sets chains (16 * (i + 1)) next in
      by_order j i
      (λ l.
      let here : i ≡ j = omega arith in
      chained_before (suc k) i chains j l ∙ subst (λ (n : ℕ). Right ks m chains n) here r)
      (λ g.
      chained_right m k (i + 1) stored (omega (arith, length-sets chains (16 * (i + 1)) next))
      (next_right m chains i (omega arith) r (blocks i (omega arith) (omega arith)))
      (λ n a b. blocks n (omega arith) (omega arith))
      j
      (omega arith)
      (omega arith))

-- one turn of carrying on, and the end of it
pub carry_step : (ks f : List ℕ) (to i : ℕ) (chains : List ℕ) → i < to
    → chained ks f (to - (i + 1)) (i + 1)
    (sets chains (16 * (i + 1)) (cipher ks (xor_lists (part (16 * i) 16 chains) (part (16 * i) 16 f))))
    ≡ chained ks f (to - i) i chains
unfolding chained
carry_step ks f to i chains h =
    let more : to - i ≡ suc (to - (i + 1)) = omega arith in
    ap (λ (k : ℕ). chained ks f k i chains) (sym more)

pub carry_done : (ks f : List ℕ) (to i : ℕ) (chains : List ℕ) → to ≤ i → chained ks f (to - i) i chains ≡ chains
unfolding chained
carry_done ks f to i chains h =
    let none : to - i ≡ 0 = omega arith in
    ap (λ (k : ℕ). chained ks f k i chains) none

-- ---- the whole table

module _ (ks m : List ℕ) (last : ℕ) where
  pub chains_of_long : length (chains_of ks m last) ≡ 256
  unfolding chains_of
  chains_of_long = length-tab 256 (λ j. pick (leb (j / 16) last) (at (chain ks m (j / 16 + 1)) (j % 16)) 0)

  chains_of-at : (j : ℕ) → j < 256
      → at (chains_of ks m last) j ≡ pick (leb (j / 16) last) (at (chain ks m (j / 16 + 1)) (j % 16)) 0
  unfolding chains_of
  chains_of-at = at-tab 256 (λ j. pick (leb (j / 16) last) (at (chain ks m (j / 16 + 1)) (j % 16)) 0)

-- a byte by the block that holds it
pub by_block : (s : List ℕ) (j : ℕ) → at s j ≡ at (part (16 * (j / 16)) 16 s) (j % 16)
by_block s j =
    let whole : 16 * (j / 16) + j % 16 ≡ j = omega arith in
    sym (at_part (16 * (j / 16)) 16 s (j % 16) (omega arith) ∙ ap (at s) whole)

module _ (ks m : List ℕ) (last : ℕ) where
  -- within the table each place is right
  pub table_right : (i : ℕ) → i < 16 → i ≤ last → Right ks m (chains_of ks m last) i
  table_right i h l =
      same_at 16 (part (16 * i) 16 (chains_of ks m last)) (chain ks m (i + 1))
      (part_long (16 * i) 16 (chains_of ks m last) (omega (arith, chains_of_long ks m last)))
      (chain_long ks m (i + 1))
      (λ k b.
      let block : (16 * i + k) / 16 ≡ i = omega arith in
      let place : (16 * i + k) % 16 ≡ k = omega arith in
      at_part (16 * i) 16 (chains_of ks m last) k b
      ∙ chains_of-at ks m last (16 * i + k) (omega arith)
      ∙ ap₂ (λ (n q : ℕ). pick (leb n last) (at (chain ks m (n + 1)) q) 0) block place
      ∙ ap (λ (t : Bool). pick t (at (chain ks m (i + 1)) k) 0) (le-leb i last l))

  -- and past the last one it has zeros
  pub table_rest : (i : ℕ) → i < 16 → last < i → part (16 * i) 16 (chains_of ks m last) ≡ const_zero
  table_rest i h l =
      same_at 16 (part (16 * i) 16 (chains_of ks m last)) const_zero
      (part_long (16 * i) 16 (chains_of ks m last) (omega (arith, chains_of_long ks m last)))
      refl
      (λ k b.
      let block : (16 * i + k) / 16 ≡ i = omega arith in
      at_part (16 * i) 16 (chains_of ks m last) k b
      ∙ chains_of-at ks m last (16 * i + k) (omega arith)
      ∙ ap (λ (n : ℕ). pick (leb n last) (at (chain ks m (n + 1)) ((16 * i + k) % 16)) 0) block
      ∙ ap (λ (t : Bool). pick t (at (chain ks m (i + 1)) ((16 * i + k) % 16)) 0) (lt-leb i last l)
      ∙ sym (get_or-replicate 16 k 0 0 b))

  -- a string of 256 bytes that is right up to the last place and has zeros behind is the table
  pub table : (s : List ℕ) → length s ≡ 256 → ((i : ℕ) → i ≤ last → Right ks m s i)
      → ((i : ℕ) → i < 16 → last < i → part (16 * i) 16 s ≡ const_zero) → s ≡ chains_of ks m last
  table s long right rest =
      same_at 256 s (chains_of ks m last) long (chains_of_long ks m last)
      (λ j b.
      by_block s j
      ∙ by_order (j / 16) last
      (λ l.
      ap (λ (p : List ℕ). at p (j % 16)) (right (j / 16) l)
      ∙ ap (λ (t : Bool). pick t (at (chain ks m (j / 16 + 1)) (j % 16)) 0) (sym (le-leb (j / 16) last l)))
      (λ g.
      ap (λ (p : List ℕ). at p (j % 16)) (rest (j / 16) (omega arith) g)
      ∙ get_or-replicate 16 (j % 16) 0 0 (omega arith)
      ∙ ap (λ (t : Bool). pick t (at (chain ks m (j / 16 + 1)) (j % 16)) 0) (sym (lt-leb (j / 16) last g)))
      ∙ sym (chains_of-at ks m last j b))

  -- carrying on from a right place gives the table
  pub carried_table : (f chains : List ℕ) (i : ℕ) → length chains ≡ 256 → i ≤ last → last ≤ 15
      → ((j : ℕ) → j ≤ i → Right ks m chains j) → ((j : ℕ) → j < 16 → last < j → part (16 * j) 16 chains ≡ const_zero)
      → ((j : ℕ) → i ≤ j → j < last → part (16 * j) 16 f ≡ part (16 * (j + 1)) 16 m)
      → chained ks f (last - i) i chains ≡ chains_of ks m last
  carried_table f chains i long h top right rest blocks =
      table (chained ks f (last - i) i chains) (chained_long ks f (last - i) i chains ∙ long)
      (λ j l.
      by_order j i (λ b. chained_before ks f (last - i) i chains j b ∙ right j b)
      (λ g.
      chained_right ks f m (last - i) i chains (omega arith) (right i (omega arith))
      (λ n a b. blocks n a (omega arith))
      j
      (omega arith)
      (omega arith)))
      (λ j b g. chained_after ks f (last - i) i chains j (omega arith) ∙ rest j b g)

-- ---- the message and its blocks

-- the frame's block j is block j + 1 of the message that has one block ahead of it
pub block_behind : (b f : List ℕ) (n j : ℕ) → length b ≡ 16 → 16 * j + 16 ≤ n
    → part (16 * j) 16 f ≡ part (16 * (j + 1)) 16 (b ++ take n f)
block_behind b f n j e h =
    let place : length b + 16 * j ≡ 16 * (j + 1) = omega arith in
    sym
    (ap (λ (k : ℕ). part k 16 (b ++ take n f)) (sym place)
    ∙ ap (take 16) (drop-append-add b (take n f) (16 * j))
    ∙ part-take (16 * j) 16 n f h)

-- the MIC from the last chain value is that of the message
pub signed_right : (ks b f : List ℕ) (n : ℕ) (chains : List ℕ) → length b ≡ 16 → 0 < n → n ≤ length f
    → Right ks (b ++ take n f) chains (last_place n) → signed_from ks f n chains ≡ take 4 (tag ks (b ++ take n f))
unfolding signed_from
signed_right ks b f n chains e h k r =
    let m = b ++ take n f in
    let last = last_place n in
    let place : length b + 16 * last ≡ 16 * (last + 1) = omega arith in
    let long : length m ≡ 16 + n = length-append b (take n f) ∙ (omega (arith, length-take-le n f k)) in
    let behind : part (16 * last) (n - 16 * last) f ≡ drop (16 * (last + 1)) m =
    sym (drop-take (16 * last) n f (omega arith))
    ∙ sym (drop-append-add b (take n f) (16 * last))
    ∙ ap (λ (q : ℕ). drop q m) place in
    ap (take 4)
    (ap₂ (λ (x p : List ℕ). finished (absorbed (resumed ks x) p)) r behind
    ∙ resume ks m (last + 1) (omega arith))
