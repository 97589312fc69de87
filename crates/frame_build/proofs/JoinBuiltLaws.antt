-- What building a join message promises, from what its steps did: a run of bytes stored from the start of the output, signed
-- and, of a join-accept, encrypted there, is the frame with the bytes behind it as they were.
-- Assumes nothing.
use mathlib.Core.Path.{◌≡◌, sym, ap, ap₂, ◌∙◌, subst}
use mathlib.Core.List.{List, ◌++◌, append_assoc}
use Prim.Native.Nat.{ℕ, ◌+◌, ◌-◌, ◌/◌, ◌≤◌}
use native.Mathlib.Omega.{arith}
use lib.ListN.{length, take, drop, length-append, length-drop}
use lib.Seq.{take_at, drop_at, take-append-le, drop-append-le}
use Rattle.base.specs.Bytes.{part}
use Rattle.base.specs.Storing.{Put}
use Rattle.base.proofs.Put.{put_front, then}
use Rattle.aes.specs.KeyExpansion.{key_expansion_of}
use Rattle.aes.specs.Fips197.{inv_cipher}
use Rattle.frame_build.specs.JoinFrames.{signed}
use Rattle.frame_security.specs.JoinAcceptCipher.{each_block_of, accept_encrypted}
use Rattle.frame_security.specs.Security.{join_mic}
use Rattle.frame_security.proofs.AcceptBlocks.{accept_long}
use Rattle.frame_security.proofs.SecurityLaws.{join_mic_long}

-- ---- signed

pub signed_long : (key msg : List ℕ) → length (signed key msg) ≡ length msg + 4
unfolding signed
signed_long key msg = length-append msg (join_mic key msg) ∙ ap (λ (n : ℕ). length msg + n) (join_mic_long key msg)

-- a MIC takes four bytes
pub mic_next : (key msg : List ℕ) {l e : List ℕ} {n r : ℕ} → Put l n (join_mic key msg) r e → r ≡ n + 4
mic_next key msg {n = n} p = p.next ∙ ap (λ (k : ℕ). n + k) (join_mic_long key msg)

-- the message is stored, and behind it the MIC of what then stands there
pub signed_put : (key : List ℕ) {msg l d e : List ℕ} {n r : ℕ} → Put l 0 msg n d → Put d n (join_mic key (take n d)) r e
    → length msg + 4 ≤ length l → (r ≡ length (signed key msg)) × (e ≡ signed key msg ++ drop (length (signed key msg)) l)
unfolding signed
signed_put key {msg} {l} {d} {e} {n} {r} p q room =
    let end : n ≡ length msg = p.next ∙ omega arith in
    let front : take n d ≡ msg =
    ap (take n) (put_front p (omega arith)) ∙ take_at msg (drop (length msg) l) n (sym end) in
    let w : Put l 0 (signed key msg) r e =
    subst (λ (t : List ℕ). Put l 0 (msg ++ join_mic key t) r e) front (then p q) in
    let s : length (signed key msg) ≡ length msg + 4 = signed_long key msg in
    (w.next ∙ omega arith, put_front w (omega arith))

-- ---- join-accept: the blocks from byte 1 of what stands at the start of the output

pub encrypted_in_place : (key clear l o e b : List ℕ) (end : ℕ) → o ≡ clear ++ drop (length clear) l → end ≡ length clear
    → 1 ≤ length clear → b ≡ each_block_of (inv_cipher (key_expansion_of key)) (length (part 1 (end - 1) o) / 16) (part 1 (end - 1) o)
    → e ≡ take 1 o ++ (b ++ drop (end - 1) (drop 1 o))
    → (end ≡ length (accept_encrypted key clear))
    × (e ≡ accept_encrypted key clear ++ drop (length (accept_encrypted key clear)) l)
unfolding accept_encrypted
encrypted_in_place key clear l o e b end ho hend h hb he =
    let n : length (accept_encrypted key clear) ≡ length clear = accept_long key clear in
    let front : take 1 o ≡ take 1 clear = ap (take 1) ho ∙ take-append-le 1 clear (drop (length clear) l) h in
    let back : drop 1 o ≡ drop 1 clear ++ drop (length clear) l =
    ap (drop 1) ho ∙ drop-append-le 1 clear (drop (length clear) l) h in
    let long : length (drop 1 clear) ≡ end - 1 = length-drop 1 clear ∙ omega arith in
    let inner : part 1 (end - 1) o ≡ drop 1 clear =
    ap (take (end - 1)) back ∙ take_at (drop 1 clear) (drop (length clear) l) (end - 1) long in
    let rest : drop (end - 1) (drop 1 o) ≡ drop (length clear) l =
    ap (drop (end - 1)) back ∙ drop_at (drop 1 clear) (drop (length clear) l) (end - 1) long in (
      hend ∙ sym n,
      he
          ∙ ap₂ (λ (s t : List ℕ). s ++ (b ++ t)) front rest
          ∙ ap (λ (t : List ℕ). take 1 clear ++ (t ++ drop (length clear) l))
          (hb ∙ ap (λ (t : List ℕ). each_block_of (inv_cipher (key_expansion_of key)) (length t / 16) t) inner)
          ∙ sym
          (append_assoc (take 1 clear) (each_block_of (inv_cipher (key_expansion_of key)) (length (drop 1 clear) / 16) (drop 1 clear))
          (drop (length clear) l))
          ∙ ap (λ (k : ℕ). accept_encrypted key clear ++ drop k l) (sym n),
    )

-- the clear bytes are stored, the MIC behind them, and the blocks deciphered
pub accept_built : (key msg l o1 o2 b e : List ℕ) {n : ℕ} (end : ℕ) → Put l 0 msg n o1
    → Put o1 n (join_mic key (take n o1)) end o2 → length msg + 4 ≤ length l
    → b ≡ each_block_of (inv_cipher (key_expansion_of key)) (length (part 1 (end - 1) o2) / 16) (part 1 (end - 1) o2)
    → e ≡ take 1 o2 ++ (b ++ drop (end - 1) (drop 1 o2))
    → (end ≡ length (accept_encrypted key (signed key msg)))
    × (e ≡ accept_encrypted key (signed key msg) ++ drop (length (accept_encrypted key (signed key msg))) l)
accept_built key msg l o1 o2 b e {n} end p q room hb he =
    let s = signed_put key p q room in
    let long : length (signed key msg) ≡ length msg + 4 = signed_long key msg in
    encrypted_in_place key (signed key msg) l o2 e b end s.1 s.0 (omega arith) hb he
