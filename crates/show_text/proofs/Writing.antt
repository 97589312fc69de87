-- Text that is put together: bytes added after others are added with them, and what is stored where there is room is added.
-- Assumes nothing.
use mathlib.Core.Path.{◌≡◌, refl, sym, ap, ◌∙◌}
use mathlib.Core.List.{List, [], ◌∷◌, ◌++◌, append_assoc, append-nil}
use Prim.Native.Nat.{ℕ, ◌+◌, ◌-◌, ◌≤◌, ◌<◌}
use native.Mathlib.Omega.{arith}
use lib.ListN.{length, take, drop, set, length-append, length-take, take-append-drop}
use lib.Seq.{sets, sets-eq, length-sets, take_all, take_at, take-append-add, length-take-le}
use Rattle.base.proofs.Cases.{by_order}
use Rattle.base.proofs.Put.{sets-append}
use Rattle.base.proofs.StoringLaws.{no_room}
use Rattle.base.specs.Storing.{Stored}
use Rattle.show_text.specs.Writing.{written, Adds}
use Rattle.show_text.specs.declared.writer.Text.{Text}

-- ---- the first n bytes of two runs

take_front : (n : ℕ) (a b : List ℕ) → n ≤ length a → take n (a ++ b) ≡ take n a
take_front n a b h =
    ap (λ (s : List ℕ). take n (s ++ b)) (sym (take-append-drop n a))
    ∙ ap (take n) (append_assoc (take n a) (drop n a) b)
    ∙ take_at (take n a) (drop n a ++ b) n (length-take-le n a h)

-- of a run that was cut before
take_cut : (n : ℕ) (a b : List ℕ) → take n (take n a ++ b) ≡ take n (a ++ b)
take_cut n a b =
    by_order (length a) n (λ h. ap (λ (s : List ℕ). take n (s ++ b)) (take_all n a h))
    (λ h.
    let l : length (take n a) ≡ n = length-take-le n a (omega arith) in
    take_at (take n a) b n l ∙ sym (take_front n a b (omega arith)))

-- past the end nothing is stored
first_stored : (l : List ℕ) (i : ℕ) (s : List ℕ) (n : ℕ) → i + n ≡ length l → n ≤ length s → sets l i s ≡ sets l i (take n s)
first_stored l i s n e h =
    let long : length (take n s) ≡ n = length-take-le n s h in
    ap (sets l i) (sym (take-append-drop n s))
    ∙ sets-append l i (take n s) (drop n s)
    ∙ sym (no_room (sets l i (take n s)) (i + length (take n s)) (drop n s) (omega (arith, length-sets l i (take n s)))).list

-- ---- bytes that are added

pub nothing : (t : Text) → Adds t [] t
nothing t =
    record {
      inside = λ h. h;
      text =
          λ h.
          sym (ap (take 128) (append-nil (written t)) ∙ take_all 128 (written t) (omega (arith, length-take t.len t.bytes)));
    }

pub then : {t u v : Text} {a b : List ℕ} → Adds t a u → Adds u b v → Adds t (a ++ b) v
then {t} {u} {v} {a} {b} p q =
    record {
      inside = λ h. q.inside (p.inside h);
      text =
          λ h.
          q.text (p.inside h)
          ∙ ap (λ (s : List ℕ). take 128 (s ++ b)) (p.text h)
          ∙ take_cut 128 (written t ++ a) b
          ∙ ap (take 128) (append_assoc (written t) a b);
    }

-- the same bytes, said otherwise
pub same : {t u : Text} {a b : List ℕ} → a ≡ b → Adds t a u → Adds t b u
same {t} {u} {a} {b} e p =
    record { inside = p.inside; text = λ h. p.text h ∙ ap (λ (s : List ℕ). take 128 (written t ++ s)) e }

-- what is stored from the place on that is written up to
pub stored : {t u : Text} {s : List ℕ} → length t.bytes ≡ 128 → Stored t.bytes t.len s u.len u.bytes → Adds t s u
stored {t} {u} {s} long p =
    record { inside = λ h. omega (arith, p.next); text = λ h. by_order (length s) (128 - t.len) (whole h) (part h) }
  where
    front : (w : List ℕ) → t.len ≤ 128 → length w ≤ 128 - t.len → take (t.len + length w) (sets t.bytes t.len w) ≡ written t ++ w
    front w h l =
        ap (take (t.len + length w)) (sets-eq w t.bytes t.len (omega arith))
        ∙ take_at (written t ++ w) (drop (t.len + length w) t.bytes) (t.len + length w)
        (length-append (written t) w ∙ ap (λ (n : ℕ). n + length w) (length-take-le t.len t.bytes (omega arith)))

    whole : t.len ≤ 128 → length s ≤ 128 - t.len → written u ≡ take 128 (written t ++ s)
    whole h l =
        let n : u.len ≡ t.len + length s = omega (arith, p.next) in
        ap (λ (k : ℕ). take k u.bytes) n
        ∙ ap (take (t.len + length s)) p.list
        ∙ front s h l
        ∙ sym (take_all 128 (written t ++ s) (omega (arith, length-append (written t) s, length-take-le t.len t.bytes (omega arith))))

    part : t.len ≤ 128 → 128 - t.len < length s → written u ≡ take 128 (written t ++ s)
    part h l =
        let room : ℕ = 128 - t.len in
        let w : List ℕ = take room s in
        let w_long : length w ≡ room = length-take-le room s (omega arith) in
        let n : u.len ≡ t.len + length w = omega (arith, p.next) in
        let full : length (written t) + room ≡ 128 = omega (arith, length-take-le t.len t.bytes (omega arith)) in
        ap (λ (k : ℕ). take k u.bytes) n
        ∙ ap (take (t.len + length w)) (p.list ∙ first_stored t.bytes t.len s room (omega arith) (omega arith))
        ∙ front w h (omega arith)
        ∙ sym (take-append-add (written t) s room)
        ∙ ap (λ (k : ℕ). take k (written t ++ s)) full

-- one byte
pub one : {t : Text} {b : ℕ} → length t.bytes ≡ 128 → t.len < 128
    → Adds t (b ∷ []) (record { bytes = set t.bytes t.len b; len = t.len + 1 })
one {t} {b} long h = stored long (record { next = omega arith; list = refl })

-- and none where there is no room
pub none : {t : Text} {s : List ℕ} → length t.bytes ≡ 128 → 128 ≤ t.len → Adds t s t
none {t} {s} long h = stored long (no_room t.bytes t.len s (omega arith))

-- the first bytes that are written, where they have room
pub whole : {t u : Text} {s : List ℕ} → t.len ≡ 0 → length s ≤ 128 → Adds t s u → written u ≡ s
whole {t} {u} {s} e h p =
    p.text (omega arith) ∙ ap (λ (n : ℕ). take 128 (take n t.bytes ++ s)) e ∙ take_all 128 s h
