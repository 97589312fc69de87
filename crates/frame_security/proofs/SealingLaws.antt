-- Sealing where a frame lies: encrypting the payload in place and storing the MIC behind it gives the sealed frame, then the
-- bytes that were there. Of a sealed frame: its length, and that its first bytes are its header's.
-- Assumes nothing.
use mathlib.Core.Path.{◌≡◌, sym, ap, ap₂, ◌∙◌}
use mathlib.Core.List.{List, ◌++◌, append_assoc}
use Prim.Native.Nat.{ℕ, ◌+◌, ◌-◌, ◌≤◌, ◌<◌}
use native.Mathlib.Omega.{arith}
use lib.ListN.{length, take, drop, length-append, length-drop}
use lib.Seq.{sets, sets-eq, length-take-le, take-take, take_at, drop_at, drop-drop}
use borrow.Author.Tests.{le-leb, lt-leb}
use Rattle.base.specs.Bytes.{part}
use Rattle.base.proofs.Lent.{part_long}
use Rattle.frame_security.specs.Security.{payload_key_of, crypted, crypted_part, data_mic_of}
use Rattle.frame_security.specs.Sealing.{enciphered, sealed, sealed_in}
use Rattle.frame_security.proofs.SecurityLaws.{crypted_long, crypted_same, data_mic_of_long}

-- ---- lengths

module _ (nwk app : List ℕ) (counter : ℕ) (hdr p : List ℕ) where
  pub enciphered_long : length (enciphered nwk app counter hdr p) ≡ length hdr + length p
  unfolding enciphered
  enciphered_long =
      length-append hdr (crypted (payload_key_of hdr (length p) nwk app) hdr counter p)
      ∙ ap (λ (n : ℕ). length hdr + n) (crypted_long (payload_key_of hdr (length p) nwk app) hdr counter p)

  pub sealed_long : length (sealed nwk app counter hdr p) ≡ length hdr + length p + 4
  unfolding sealed
  sealed_long =
      length-append (enciphered nwk app counter hdr p) (data_mic_of nwk (enciphered nwk app counter hdr p) counter)
      ∙ ap₂ (λ (m n : ℕ). m + n) enciphered_long (data_mic_of_long nwk (enciphered nwk app counter hdr p) counter)

  -- header, encrypted payload, MIC
  pub sealed_parts : sealed nwk app counter hdr p
      ≡ hdr
      ++ (crypted (payload_key_of hdr (length p) nwk app) hdr counter p ++ data_mic_of nwk (enciphered nwk app counter hdr p) counter)
  unfolding sealed enciphered
  sealed_parts =
      append_assoc hdr (crypted (payload_key_of hdr (length p) nwk app) hdr counter p)
      (data_mic_of nwk (hdr ++ crypted (payload_key_of hdr (length p) nwk app) hdr counter p) counter)

-- ---- in place

module _ (nwk app : List ℕ) (counter start end : ℕ) (out key e m f : List ℕ)
    (least : 8 ≤ start) (order : start ≤ end) (room : end + 4 ≤ length out) (hk : key ≡ payload_key_of (take start out) (end - start) nwk app)
    (he : e ≡ crypted_part key out counter start end) (hm : m ≡ data_mic_of nwk (take end e) counter) (hf : f ≡ sets e end m) where
  hdr : List ℕ
  hdr = take start out

  p : List ℕ
  p = part start (end - start) out

  c : List ℕ
  c = crypted (payload_key_of hdr (length p) nwk app) hdr counter p

  c_long : length c ≡ end - start
  unfolding c p
  c_long = crypted_long (payload_key_of hdr (length p) nwk app) hdr counter p ∙ part_long start (end - start) out (omega arith)

  -- the frame, its payload encrypted
  e_is : e ≡ hdr ++ c ++ drop end out
  unfolding c hdr p crypted_part
  e_is =
      he
      ∙ ap (λ (k : List ℕ). take start out ++ crypted k out counter (part start (end - start) out) ++ drop end out)
      (hk ∙ ap (λ (n : ℕ). payload_key_of (take start out) n nwk app) (sym (part_long start (end - start) out (omega arith))))
      ∙ ap (λ (t : List ℕ). take start out ++ t ++ drop end out)
      (crypted_same out (take start out) (sym (take-take 5 start out (omega arith))) (payload_key_of (take start out) (length (part start (end - start) out)) nwk app) counter
      (part start (end - start) out))

  front_long : length (hdr ++ c) ≡ end
  unfolding hdr
  front_long =
      let h : length (take start out) ≡ start = length-take-le start out (omega arith) in
      length-append (take start out) c ∙ omega (arith, c_long)

  front : take end e ≡ enciphered nwk app counter hdr p
  unfolding enciphered c
  front = ap (take end) e_is ∙ take_at (hdr ++ c) (drop end out) end front_long

  after : drop end e ≡ drop end out
  after = ap (drop end) e_is ∙ drop_at (hdr ++ c) (drop end out) end front_long

  pub sealed_in_place : f ≡ sealed nwk app counter (take start out) (part start (end - start) out) ++ drop (end + 4) out
  unfolding sealed hdr p
  sealed_in_place =
      let ml : length m ≡ 4 = ap length hm ∙ data_mic_of_long nwk (take end e) counter in
      let el : length e ≡ length out =
      ap length e_is
      ∙ length-append (hdr ++ c) (drop end out)
      ∙ omega (arith, front_long, length-drop end out) in
      let rest : drop (end + length m) e ≡ drop (end + 4) out =
      ap (λ (n : ℕ). drop (end + n) e) ml
      ∙ sym (drop-drop 4 end e)
      ∙ ap (drop 4) after
      ∙ drop-drop 4 end out in
      hf
      ∙ sets-eq m e end (omega arith)
      ∙ ap₂ (λ (s t : List ℕ). s ++ m ++ t) front rest
      ∙ ap (λ (t : List ℕ). enciphered nwk app counter hdr p ++ t ++ drop (end + 4) out)
      (hm ∙ ap (λ (t : List ℕ). data_mic_of nwk t counter) front)

-- ---- of any places in a buffer

module _ (nwk app : List ℕ) (counter start end : ℕ) (l : List ℕ) where
  pub seal_no_header : start < 8 → l ≡ sealed_in nwk app counter start end l
  unfolding sealed_in
  seal_no_header h = simp (lt-leb 8 start h)

  pub seal_unordered : 8 ≤ start → end < start → l ≡ sealed_in nwk app counter start end l
  unfolding sealed_in
  seal_unordered h k = simp (le-leb 8 start h, lt-leb start end k)

  pub seal_no_room : 8 ≤ start → start ≤ end → length l < end + 4 → l ≡ sealed_in nwk app counter start end l
  unfolding sealed_in
  seal_no_room h k r = simp (le-leb 8 start h, le-leb start end k, lt-leb (end + 4) (length l) r)

  pub seal_inside : 8 ≤ start → start ≤ end → end + 4 ≤ length l
      → sealed_in nwk app counter start end l
      ≡ sealed nwk app counter (take start l) (part start (end - start) l) ++ drop (end + 4) l
  unfolding sealed_in
  seal_inside h k r = simp (le-leb 8 start h, le-leb start end k, le-leb (end + 4) (length l) r)
