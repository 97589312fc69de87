-- Laws on the helper blocks, the key stream and encrypted payloads: lengths, that what encrypts also decrypts,
-- what one changed byte does, and that only a frame's first five bytes count.
-- Assumes nothing.
use mathlib.Core.Path.{◌≡◌, refl, sym, ap, ap₂, ◌∙◌, subst}
use mathlib.Core.Bool.{true, false}
use mathlib.Core.List.{List, [], ◌∷◌, ◌++◌, append-nil}
use Prim.Native.Nat.{ℕ, ◌+◌, ◌-◌, ◌*◌, ◌/◌, ◌%◌, ◌<◌, ◌≤◌, min}
use native.Mathlib.Nat.{not-suc-le-zero, le_of_eq}
use native.Mathlib.Omega.{arith}
use lib.ListN.{length, take, drop, set, length-append, length-take, length-drop}
use lib.Dec.{eqb}
use borrow.Author.Tests.{le-leb, lt-leb, ne_eqb}
use Rattle.base.specs.Bytes.{pick, at, part, ◌⊕◌, AreBytes}
use Rattle.base.specs.Mask.{masked}
use Rattle.base.proofs.Cases.{by_order}
use Rattle.base.proofs.Mask.{Masking, step_part, masked_long, masked-at, masked_same, masked_twice, masked-set}
use Rattle.base.proofs.Lent.{part_long, same_start, put_back, put_before, put_part, put_after, put_same}
use Rattle.aes.specs.KeyExpansion.{key_expansion_of}
use Rattle.aes.specs.Fips197.{cipher}
use Rattle.cmac.specs.Rfc4493.{mac}
use Rattle.frame.specs.Layout.{fport}
use Rattle.cmac.specs.Running.{started, absorbed, absorbed_all, joined, finished}
use Rattle.cmac.proofs.CmacLaws.{mac_cutting}
use Rattle.frame_security.proofs.MicLaws.{mic_long, mic_byte}
use Rattle.frame_security.specs.Security.{start_of, helper_block_of, stream_block_of, stream_at, crypted, crypted_part, crypted_in, by_network_key_of, payload_key_of, mic_block_of, message, data_mic_of, join_mic}

-- ---- the helper block

pub helper_block_of_long : (first : ℕ) (f : List ℕ) (counter last : ℕ) → length (helper_block_of first f counter last) ≡ 16
unfolding helper_block_of
helper_block_of_long first f counter last = refl

pub mic_block_of_long : (msg : List ℕ) (counter : ℕ) → length (mic_block_of msg counter) ≡ 16
unfolding mic_block_of
mic_block_of_long msg counter = helper_block_of_long 0x49 msg counter (length msg % 256)

-- a helper block takes no more of a frame than its first five bytes
pub helper_block_of_start : (first : ℕ) (f : List ℕ) (counter last : ℕ)
    → helper_block_of first (start_of f) counter last ≡ helper_block_of first f counter last
unfolding helper_block_of
helper_block_of_start first f counter last = refl

-- so do the key stream and what is encrypted with it
pub stream_block_of_start : (ks f : List ℕ) (counter j : ℕ) → stream_block_of ks (start_of f) counter j ≡ stream_block_of ks f counter j
unfolding stream_block_of helper_block_of
stream_block_of_start ks f counter j = refl

pub stream_at_start : (ks f : List ℕ) (counter j : ℕ) → stream_at ks (start_of f) counter j ≡ stream_at ks f counter j
unfolding stream_at
stream_at_start ks f counter j = ap (λ (b : List ℕ). at b (j % 16)) (stream_block_of_start ks f counter j)

pub crypted_start : (key f : List ℕ) (counter : ℕ) (p : List ℕ) → crypted key (start_of f) counter p ≡ crypted key f counter p
unfolding crypted
crypted_start key f counter p =
    let ks = key_expansion_of key in
    masked_same p (stream_at ks (start_of f) counter) (stream_at ks f counter) (λ i l. stream_at_start ks f counter i)

module _ (f g : List ℕ) (same : take 5 f ≡ take 5 g) where
  start_same : start_of f ≡ start_of g
  start_same = same_start 5 f g same

  pub helper_block_of_same : (first counter last : ℕ) → helper_block_of first f counter last ≡ helper_block_of first g counter last
  helper_block_of_same first counter last =
      sym (helper_block_of_start first f counter last)
      ∙ ap (λ (s : List ℕ). helper_block_of first s counter last) start_same
      ∙ helper_block_of_start first g counter last

  pub stream_at_same : (ks : List ℕ) (counter j : ℕ) → stream_at ks f counter j ≡ stream_at ks g counter j
  stream_at_same ks counter j =
      sym (stream_at_start ks f counter j)
      ∙ ap (λ (s : List ℕ). stream_at ks s counter j) start_same
      ∙ stream_at_start ks g counter j

  pub crypted_same : (key : List ℕ) (counter : ℕ) (p : List ℕ) → crypted key f counter p ≡ crypted key g counter p
  crypted_same key counter p =
      sym (crypted_start key f counter p)
      ∙ ap (λ (s : List ℕ). crypted key s counter p) start_same
      ∙ crypted_start key g counter p

-- ---- the key stream

-- within a block the key stream is one ciphered block
pub stream_at_block : (ks f : List ℕ) (counter i k : ℕ) → i % 16 ≡ 0 → k < 16
    → stream_at ks f counter (i + k) ≡ at (stream_block_of ks f counter i) k
unfolding stream_at stream_block_of
stream_at_block ks f counter i k hi hk =
    let block : (i + k) / 16 ≡ i / 16 = omega arith in
    let place : (i + k) % 16 ≡ k = omega arith in
    ap₂ (λ (n m : ℕ). at (cipher ks (helper_block_of 1 f counter ((n + 1) % 256))) m) block place

-- block k of the key stream is laid on behind those before it, as far as the payload goes
pub stream_turn : (ks f : List ℕ) (counter k : ℕ) {p r s t : List ℕ} {e : ℕ} → Masking p (stream_at ks f counter) r (min (k * 16) (length p))
    → k * 16 < length p → e ≡ min (k * 16 + 16) (length p) → s ≡ stream_block_of ks f counter (k * 16)
    → t ≡ masked (part (k * 16) (e - k * 16) r) (at s)
    → Masking p (stream_at ks f counter) (take (k * 16) r ++ (t ++ drop (e - k * 16) (drop (k * 16) r))) (min ((k + 1) * 16) (length p))
stream_turn ks f counter k {p} {r} {s} {t} {e} m h he hs ht =
    let stream = stream_at ks f counter in
    let here : min (k * 16) (length p) ≡ k * 16 = omega arith in
    let there : e ≡ min ((k + 1) * 16) (length p) = omega arith in
    subst (λ (n : ℕ). Masking p stream (take (k * 16) r ++ (t ++ drop (e - k * 16) (drop (k * 16) r))) n) there
    (step_part e s (subst (λ (n : ℕ). Masking p stream r n) here m) (omega arith) (omega arith)
    (λ j l. stream_at_block ks f counter (k * 16) j (omega arith) (omega arith) ∙ ap (λ (b : List ℕ). at b j) (sym hs)) ht)

-- ---- the payload's key

module _ {A : Type 0} (hdr : List ℕ) (n : ℕ) (nwk app : A) where
  pub key_network : by_network_key_of hdr n ≡ true → nwk ≡ payload_key_of hdr n nwk app
  key_network h = simp h

  pub key_application : by_network_key_of hdr n ≡ false → app ≡ payload_key_of hdr n nwk app
  key_application h = simp h

-- a payload that has a byte goes by the port alone
pub by_port : (hdr : List ℕ) (n : ℕ) → 0 < n → by_network_key_of hdr n ≡ eqb (fport hdr) 0
unfolding by_network_key_of
by_port hdr n h =
    let some : n ≡ 0 → ⊥ = λ e. omega arith in
    simp (ne_eqb n 0 some)

-- and only the header's control byte and its port count
pub by_same : (f g : List ℕ) (n : ℕ) → fport f ≡ fport g → by_network_key_of f n ≡ by_network_key_of g n
unfolding by_network_key_of
by_same f g n e = ap (λ (p : ℕ). pick (eqb n 0) true (eqb p 0)) e

-- ---- payloads

module _ (key f : List ℕ) (counter : ℕ) where
  pub crypted_long : (p : List ℕ) → length (crypted key f counter p) ≡ length p
  unfolding crypted
  crypted_long p = masked_long p (stream_at (key_expansion_of key) f counter)

  pub crypted-at : (p : List ℕ) (j : ℕ) → j < length p → at (crypted key f counter p) j ≡ at p j ⊕ stream_at (key_expansion_of key) f counter j
  unfolding crypted
  crypted-at p j h = masked-at p (stream_at (key_expansion_of key) f counter) j h

  -- what encrypts also decrypts
  pub crypted_twice : (p : List ℕ) → crypted key f counter (crypted key f counter p) ≡ p
  unfolding crypted
  crypted_twice p = masked_twice p (stream_at (key_expansion_of key) f counter)

  -- one byte changed in the clear is one byte changed in the encrypted payload
  pub crypted-set : (p : List ℕ) (j v : ℕ) → j < length p
      → crypted key f counter (set p j v) ≡ set (crypted key f counter p) j (v ⊕ stream_at (key_expansion_of key) f counter j)
  unfolding crypted
  crypted-set p j v h = masked-set p (stream_at (key_expansion_of key) f counter) j v h

  -- a payload of no byte is left as it is
  pub crypted_none : (p : List ℕ) → length p ≡ 0 → p ≡ crypted key f counter p
  unfolding crypted masked
  crypted_none [] h = refl
  crypted_none (a ∷ p) h = absurd (not-suc-le-zero (le_of_eq h))

-- encrypting a part leaves the frame's length
pub crypted_part_long : (key f : List ℕ) (counter start end : ℕ) → start ≤ end → end ≤ length f
    → length (crypted_part key f counter start end) ≡ length f
unfolding crypted_part
crypted_part_long key f counter start end h inside =
    simp (length-append, crypted_long, length-take, length-drop) (omega arith)

-- a part of no byte
pub crypted_part-nothing : (key f : List ℕ) (counter start end : ℕ) → start ≡ end → crypted_part key f counter start end ≡ f
unfolding crypted_part
crypted_part-nothing key f counter start end e =
    let none : length (part start (end - start) f) ≡ 0 = length-take (end - start) (drop start f) ∙ omega arith in
    ap (λ (l : List ℕ). take start f ++ l ++ drop end f) (sym (crypted_none key f counter (part start (end - start) f) none))
    ∙ put_same start end f (omega arith)

-- decrypting a part that lies past the first five bytes gives the frame back
pub crypted_part_twice : (key f : List ℕ) (counter start end : ℕ) → 5 ≤ start → start ≤ end → end ≤ length f
    → crypted_part key (crypted_part key f counter start end) counter start end ≡ f
unfolding crypted_part
crypted_part_twice key f counter start end h5 h inside =
    let p = part start (end - start) f in
    let c = crypted key f counter p in
    let g = take start f ++ c ++ drop end f in
    let long : length c ≡ end - start = crypted_long key f counter p ∙ part_long start (end - start) f (omega arith) in
    let clear : crypted key g counter (part start (end - start) g) ≡ p =
    ap (crypted key g counter) (put_part start end f c h inside long)
    ∙ crypted_same g f (put_before start end f c h inside long 5 h5) key counter c
    ∙ crypted_twice key f counter p in
    ap₂ (λ (s t : List ℕ). s ++ crypted key g counter (part start (end - start) g) ++ t)
    (put_before start end f c h inside long start (omega arith)) (put_after start end f c h inside long)
    ∙ ap (λ (l : List ℕ). take start f ++ l ++ drop end f) clear
    ∙ put_same start end f h

-- a part that was lent, encrypted under the frame's own first bytes and put back
pub lent_part : (key f : List ℕ) (counter start end : ℕ) (t : List ℕ) → start ≤ end
    → t ≡ crypted key (start_of f) counter (part start (end - start) f)
    → take start f ++ (t ++ drop (end - start) (drop start f)) ≡ crypted_part key f counter start end
unfolding crypted_part
lent_part key f counter start end t h e =
    put_back start end f t h
    ∙ ap (λ (l : List ℕ). take start f ++ l ++ drop end f) (e ∙ crypted_start key f counter (part start (end - start) f))

-- of two places that lie in order within the frame
pub crypted_inside : (key f : List ℕ) (counter start end : ℕ) → start ≤ end → end ≤ length f
    → crypted_in key f counter start end ≡ crypted_part key f counter start end
unfolding crypted_in
crypted_inside key f counter start end h inside = simp (le-leb start end h, le-leb end (length f) inside)

-- where there is nothing between them, or they lie the other way round
pub crypted_nothing : (key f : List ℕ) (counter start end : ℕ) → end ≤ start → f ≡ crypted_in key f counter start end
unfolding crypted_in
crypted_nothing key f counter start end h =
    by_order start end
    (λ l.
    let same : start ≡ end = omega arith in
    by_order end (length f)
    (λ m. simp (le-leb start end l, le-leb end (length f) m) (sym (crypted_part-nothing key f counter start end same)))
    (λ m. simp (le-leb start end l, lt-leb end (length f) m)))
    (λ l. simp (lt-leb start end l))

pub crypted_outside : (key f : List ℕ) (counter start end : ℕ) → start ≤ end → length f < end
    → f ≡ crypted_in key f counter start end
unfolding crypted_in
crypted_outside key f counter start end h out = simp (le-leb start end h, lt-leb end (length f) out)

-- ---- the MIC

-- the tag of two parts is that of both in a row
pub two_parts : (key a b : List ℕ) → finished (absorbed (absorbed (started (key_expansion_of key)) a) b) ≡ mac key (a ++ b)
unfolding absorbed_all joined
two_parts key a b = mac_cutting key (a ∷ b ∷ []) ∙ ap (λ (l : List ℕ). mac key (a ++ l)) (append-nil b)

pub data_mic_of_long : (key msg : List ℕ) (counter : ℕ) → length (data_mic_of key msg counter) ≡ 4
unfolding data_mic_of message
data_mic_of_long key msg counter = mic_long key (mic_block_of msg counter ++ msg)

pub join_mic_long : (key msg : List ℕ) → length (join_mic key msg) ≡ 4
unfolding join_mic
join_mic_long key msg = mic_long key msg

pub join_mic_byte : (key msg : List ℕ) → AreBytes key → AreBytes msg → AreBytes (join_mic key msg)
unfolding join_mic
join_mic_byte key msg hk hm = mic_byte key msg hk hm
