-- Chain values that are carried on twice: what the first carrying stored behind the second one's place is not looked at,
-- and where both frames have the same blocks ahead of that place, one carrying from the lower place gives the same.
-- Assumes nothing.
use mathlib.Core.Path.{◌≡◌, refl, sym, ap, ap₂, ◌∙◌, subst}
use mathlib.Core.List.{List}
use Prim.Native.Nat.{ℕ, zero, suc, ◌+◌, ◌-◌, ◌*◌, ◌/◌, ◌%◌, ◌≤◌, ◌<◌}
use native.Mathlib.Omega.{arith}
use lib.ListN.{length, take}
use lib.Seq.{sets, length-sets}
use Rattle.base.specs.Bytes.{at, part, xor_lists}
use Rattle.base.proofs.Tab.{same_at}
use Rattle.base.proofs.Cases.{by_order}
use Rattle.base.proofs.Parts.{part-take}
use Rattle.aes.specs.Fips197.{cipher}
use Rattle.aes.proofs.CipherLaws.{cipher_long}
use Rattle.cmac.specs.Running.{resumed, absorbed, finished}
use Rattle.amend.specs.Amending.{last_place, chained, signed_from}
use Rattle.amend.proofs.Stores.{part_before, part_after, part-stored}
use Rattle.amend.proofs.Chains.{by_block, chained_long, chained_before, chained_after}

-- two strings that are the same at each place
by_places : (s t : List ℕ) → length s ≡ 256 → length t ≡ 256
    → ((j : ℕ) → j < 16 → part (16 * j) 16 s ≡ part (16 * j) 16 t) → s ≡ t
by_places s t hs ht e =
    same_at 256 s t hs ht
    (λ j b. by_block s j ∙ ap (λ (p : List ℕ). at p (j % 16)) (e (j / 16) (omega arith)) ∙ sym (by_block t j))

module _ (ks : List ℕ) where
  -- the values that are stored anew are not looked at
  chained_over : (f : List ℕ) (k i : ℕ) (c d : List ℕ) → length c ≡ 256 → length d ≡ 256 → i + k ≤ 15
      → ((j : ℕ) → j ≤ i → part (16 * j) 16 c ≡ part (16 * j) 16 d)
      → ((j : ℕ) → j < 16 → i + k < j → part (16 * j) 16 c ≡ part (16 * j) 16 d)
      → chained ks f k i c ≡ chained ks f k i d
  unfolding chained
  chained_over f zero i c d hc hd top lo hi =
      by_places c d hc hd (λ j b. by_order j i (lo j) (λ g. hi j b (omega arith)))
  chained_over f (suc k) i c d hc hd top lo hi =
      let u = xor_lists (part (16 * i) 16 c) (part (16 * i) 16 f) in
      let v = xor_lists (part (16 * i) 16 d) (part (16 * i) 16 f) in
      let x = cipher ks u in
      let y = cipher ks v in
      let same : x ≡ y = ap (λ (p : List ℕ). cipher ks (xor_lists p (part (16 * i) 16 f))) (lo i (omega arith)) in
      chained_over f k (i + 1) (sets c (16 * (i + 1)) x) (sets d (16 * (i + 1)) y)
      (length-sets c (16 * (i + 1)) x ∙ hc) (length-sets d (16 * (i + 1)) y ∙ hd) (omega arith)
      (λ j l.
      by_order j i
      (λ m.
      part_before (16 * j) 16 c (16 * (i + 1)) x (omega arith)
      ∙ lo j m
      ∙ sym (part_before (16 * j) 16 d (16 * (i + 1)) y (omega arith)))
      (λ g.
      let here : i + 1 ≡ j = omega arith in
      subst (λ (n : ℕ). part (16 * n) 16 (sets c (16 * (i + 1)) x) ≡ part (16 * n) 16 (sets d (16 * (i + 1)) y)) here
      (part-stored c (16 * (i + 1)) 16 x (cipher_long ks u) (omega arith)
      ∙ same
      ∙ sym (part-stored d (16 * (i + 1)) 16 y (cipher_long ks v) (omega arith)))))
      (λ j b g.
      part_after (16 * j) 16 c (16 * (i + 1)) x (omega (arith, cipher_long ks u))
      ∙ hi j b (omega arith)
      ∙ sym (part_after (16 * j) 16 d (16 * (i + 1)) y (omega (arith, cipher_long ks v))))

  -- carrying on in two parts
  chained_add : (f : List ℕ) (n k l i j : ℕ) (c : List ℕ) → n ≡ k + l → j ≡ i + k
      → chained ks f n i c ≡ chained ks f l j (chained ks f k i c)
  unfolding chained
  chained_add f n zero l i j c en ej =
      let a : n ≡ l = omega arith in
      let b : i ≡ j = omega arith in
      ap₂ (λ (m o : ℕ). chained ks f m o c) a b
  chained_add f n (suc k) l i j c en ej =
      let more : n ≡ suc (k + l) = omega arith in
      ap (λ (m : ℕ). chained ks f m i c) more
      ∙ chained_add f (k + l) k l (i + 1) j (sets c (16 * (i + 1)) (cipher ks (xor_lists (part (16 * i) 16 c) (part (16 * i) 16 f)))) refl
      (omega arith)

  -- frames that have the same blocks
  pub chained_blocks : (f g : List ℕ) (k i : ℕ) (c : List ℕ)
      → ((j : ℕ) → j < i + k → part (16 * j) 16 f ≡ part (16 * j) 16 g) → chained ks f k i c ≡ chained ks g k i c
  unfolding chained
  chained_blocks f g zero i c h = refl
  chained_blocks f g (suc k) i c h =
      chained_blocks f g k (i + 1) (sets c (16 * (i + 1)) (cipher ks (xor_lists (part (16 * i) 16 c) (part (16 * i) 16 f))))
      (λ j l. h j (omega arith))
      ∙ ap (λ (b : List ℕ). chained ks g k (i + 1) (sets c (16 * (i + 1)) (cipher ks (xor_lists (part (16 * i) 16 c) b)))) (h i (omega arith))

  module _ (f g c : List ℕ) (last p q : ℕ) (long : length c ≡ 256) (top : last ≤ 15) (hp : p ≤ last) (hq : q ≤ last) where
    -- the second carrying begins at the lower place
    pub merged_down : q ≤ p → chained ks g (last - q) q (chained ks f (last - p) p c) ≡ chained ks g (last - q) q c
    merged_down l =
        chained_over g (last - q) q (chained ks f (last - p) p c) c (chained_long ks f (last - p) p c ∙ long) long (omega arith)
        (λ j m. chained_before ks f (last - p) p c j (omega arith))
        (λ j b m. chained_after ks f (last - p) p c j (omega arith))

    -- the first carrying does
    pub merged_up : p ≤ q → ((j : ℕ) → j < q → part (16 * j) 16 f ≡ part (16 * j) 16 g)
        → chained ks g (last - q) q (chained ks f (last - p) p c) ≡ chained ks g (last - p) p c
    merged_up l same =
        let y = chained ks g (q - p) p c in
        let first : chained ks f (last - p) p c ≡ chained ks f (last - q) q y =
        chained_add f (last - p) (q - p) (last - q) p q c (omega arith) (omega arith)
        ∙ ap (chained ks f (last - q) q) (chained_blocks f g (q - p) p c (λ j m. same j (omega arith))) in
        let yl : length y ≡ 256 = chained_long ks g (q - p) p c ∙ long in
        ap (chained ks g (last - q) q) first
        ∙ chained_over g (last - q) q (chained ks f (last - q) q y) y (chained_long ks f (last - q) q y ∙ yl) yl (omega arith)
        (λ j m. chained_before ks f (last - q) q y j m)
        (λ j b m. chained_after ks f (last - q) q y j (omega arith))
        ∙ sym (chained_add g (last - p) (q - p) (last - q) p q c (omega arith) (omega arith))

-- the MIC looks at the first n bytes alone
pub signed_same : (ks f g : List ℕ) (n : ℕ) (c : List ℕ) → 0 < n → take n f ≡ take n g → signed_from ks f n c ≡ signed_from ks g n c
unfolding signed_from
signed_same ks f g n c h e =
    let i = 16 * last_place n in
    let part-is : part i (n - i) f ≡ part i (n - i) g =
    sym (part-take i (n - i) n f (omega arith)) ∙ ap (part i (n - i)) e ∙ part-take i (n - i) n g (omega arith) in
    ap (λ (p : List ℕ). take 4 (finished (absorbed (resumed ks (part (16 * last_place n) 16 c)) p))) part-is
