-- A command and its bytes: written it reads back, read it is written back where the reserved bits were 0, and both take the same
-- bytes.
-- Assumes nothing.
use Rattle.std.specs.Prelude.{Err, None, Ok, Some}
use mathlib.Core.Path.{◌≡◌, sym, ap, ap₂, ◌∙◌, subst}
use mathlib.Core.Bool.{Bool, true}
use mathlib.Core.List.{List, ◌∷◌, ◌++◌}
use Prim.Native.Nat.{ℕ, suc, ◌+◌, ◌-◌, ◌^◌, ◌≤◌, ◌<◌}
use native.Mathlib.Numerals.{add-one}
use native.Mathlib.Omega.{arith}
use lib.ListN.{length, get_or, take, drop, length-append, length-drop}
use lib.Seq.{get_or-drop, drop-drop, drop-cons, take_at}
use Rattle.base.specs.Bytes.{at, part, AreBytes}
use Rattle.base.proofs.Cases.{by_order, by_bool}
use Rattle.base.proofs.Parts.{length_part, bytes_part}
use Rattle.base.proofs.Tab.{at-tab}
use Rattle.frame.specs.declared.refusals.Refusal.{Refusal}
use Rattle.frame.specs.Refusals.{refusal}
use Rattle.mac_commands.specs.Layout.{fits, field_at, fields_of, number_of, count_in_row, Clear, row, row_of, known, size_of, low_first, bytes_of}
use Rattle.mac_commands.specs.Commands.{Step, raw_found, step_of, command_of, step_at, row_at, values_of, fits_all, up_of, id_of, row_bytes, bytes_as}
use Rattle.mac_commands.specs.declared.maccommands.Command.{Command}
use Rattle.mac_commands.proofs.LayoutLaws.{named, named_below, number_back, number-below, low_bytes, bytes_low, bytes_long}
use Rattle.mac_commands.proofs.TableLaws.{row_distinct, row_within, row_whole, row_below, count_most, fields_fit}
use Rattle.mac_commands.proofs.CommandLaws.{shaped, row_back, values_read, fields_back, row_of_lem, id_from, id_upto, id_of_lem}
use Rattle.mac_commands.proofs.StepLaws.{cut, whole, ended, unknown, known_from, known_upto, is_known}
use Rattle.mac_commands.proofs.WriteLaws.{row_long}

-- ---- written, then read

-- the number of a command is that of its bytes
number_of_bytes : (c : Command) → fits_all c ≡ true
    → low_first (bytes_of (size_of (row_at c)) (number_of (row (row_at c)) (values_of c))) ≡ number_of (row (row_at c)) (values_of c)
number_of_bytes c h =
    low_bytes (size_of (row_at c)) (number_of (row (row_at c)) (values_of c))
    (subst (λ (n : ℕ). number_of (row (row_at c)) (values_of c) < 2 ^ n) (row_whole (row_at c) (shaped c).known)
    (number-below (row (row_at c)) (values_of c) h))

-- a command takes the identifier and the bytes of its row
pub bytes_count : (c : Command) → length (bytes_as c) ≡ 1 + size_of (row_at c)
unfolding bytes_as
bytes_count c = row_long (row_at c) (number_of (row (row_at c)) (values_of c))

pub reads_back : (c : Command) (s t : List ℕ) (i : ℕ) → fits_all c ≡ true → drop i s ≡ bytes_as c ++ t
    → step_at (up_of (row_at c)) s i ≡ Ok (Some (c, i + length (bytes_as c)))
unfolding bytes_as row_bytes
reads_back c s t i h e =
    let v : ℕ = number_of (row (row_at c)) (values_of c) in
    let long : length s - i ≡ length (bytes_as c) + length t =
    sym (length-drop i s) ∙ ap length e ∙ length-append (bytes_as c) t in
    let first : at s i ≡ id_of (row_at c) =
    ap (at s) (omega arith) ∙ sym (get_or-drop i s 0 0) ∙ ap (λ (l : List ℕ). get_or l 0 0) e in
    let rest : part (i + 1) (size_of (row_at c)) s ≡ bytes_of (size_of (row_at c)) v =
    ap (take (size_of (row_at c))) (sym (drop-drop 1 i s) ∙ ap (drop 1) e)
    ∙ take_at (bytes_of (size_of (row_at c)) v) t (size_of (row_at c)) (bytes_long (size_of (row_at c)) v) in
    let its : row_of (up_of (row_at c)) (at s i) ≡ row_at c =
    ap (row_of (up_of (row_at c))) first ∙ row_of_lem (row_at c) (shaped c).known in
    let same : fields_of (row (row_at c)) (low_first (part (i + 1) (size_of (row_at c)) s)) ≡ values_of c =
    ap (λ (l : List ℕ). fields_of (row (row_at c)) (low_first l)) rest
    ∙ ap (fields_of (row (row_at c))) (number_of_bytes c h)
    ∙ fields_back c h in
    let next : i + 1 + size_of (row_at c) ≡ i + length (bytes_as c) = omega (arith, bytes_count c) in
    whole (up_of (row_at c)) s i (omega (arith, bytes_count c))
    (is_known (at s i) (omega (arith, id_from (row_at c))) (omega (arith, id_upto (row_at c))))
    (omega (arith, bytes_count c, ap size_of its))
    ∙ ap
    (λ (r : ℕ). step_of (raw_found r (low_first (part (i + 1) (size_of r) s)) (i + 1 + size_of r)))
    its
    ∙ ap₂ (λ (c : Command) (n : ℕ). Ok (Some (c, n))) (ap (command_of (row_at c)) same ∙ (shaped c).back h) next

-- ---- read, then written

-- the number that stands behind the identifier at place i
abbrev pub number_behind : Bool → List ℕ → ℕ → ℕ
number_behind up s i = low_first (part (i + 1) (size_of (row_of up (at s i))) s)

-- what was read: the command c, and the place n of the next
pub record ReadAs (up : Bool) (s : List ℕ) (i : ℕ) (c : Command) (n : ℕ) : Type 0 where
  pub in_family : known (at s i) ≡ true
  pub room : i + 1 + size_of (row_of up (at s i)) ≤ length s
  pub command : c ≡ command_of (row_of up (at s i)) (fields_of (row (row_of up (at s i))) (number_behind up s i))
  pub next : n ≡ i + 1 + size_of (row_of up (at s i))

no_end : {A : Type 0} (x : Step) (c : Command) (n : ℕ) → x ≡ Ok (Some (c, n)) → x ≡ Ok None → A
no_end x c n e f = let z : ◌≡◌ {A = ℕ} 0 1 = cc in let no : ⊥ = omega arith in absurd no

no_refusal : {A : Type 0} (x : Step) (c : Command) (n : ℕ) (r : Refusal) → x ≡ Ok (Some (c, n)) → x ≡ Err r → A
no_refusal x c n r e f = let z : ◌≡◌ {A = ℕ} 0 1 = cc in let no : ⊥ = omega arith in absurd no

pub read_as : (up : Bool) (s : List ℕ) (i : ℕ) (c : Command) (n : ℕ) → step_at up s i ≡ Ok (Some (c, n)) → ReadAs up s i c n
read_as up s i c n e =
    by_order (length s) i (λ h. no_end (step_at up s i) c n e (ended up s i h))
    (λ h.
    by_bool (known (at s i))
    (λ k.
    by_order (i + 1 + size_of (row_of up (at s i))) (length s)
    (λ m. facts k m (whole up s i h k m))
    (λ m. no_refusal (step_at up s i) c n (refusal 17 i) e (cut up s i h k m)))
    (λ k. no_refusal (step_at up s i) c n (refusal 16 i) e (unknown up s i h k)))
  where
    facts : known (at s i) ≡ true → i + 1 + size_of (row_of up (at s i)) ≤ length s
        → step_at up s i
        ≡ step_of (raw_found (row_of up (at s i)) (number_behind up s i) (i + 1 + size_of (row_of up (at s i))))
        → ReadAs up s i c n
    facts k m f =
        let found : (c, n) ≡ (command_of (row_of up (at s i)) (fields_of (row (row_of up (at s i))) (number_behind up s i)), i + 1 + size_of (row_of up (at s i))) = cc in
        record { in_family = k; room = m; command = ap (λ (p : Command × ℕ). p.0) found; next = ap (λ (p : Command × ℕ). p.1) found }

module _ {up : Bool} {s : List ℕ} {i : ℕ} {c : Command} {n : ℕ} (a : ReadAs up s i c n) where
  below : row_of up (at s i) < 18
  below = row_below up (at s i) (known_upto (at s i) a.in_family)

  pub read_row : row_at c ≡ row_of up (at s i)
  read_row = ap row_at a.command ∙ row_back (row_of up (at s i)) _ below

  -- its values are the fields of the number
  read_values : values_of c ≡ fields_of (row (row_of up (at s i))) (number_behind up s i)
  read_values = ap values_of a.command ∙ values_read (row_of up (at s i)) (number_behind up s i) below

  -- one statement on lengths, for each direction and identifier: reading skips what writing writes
  pub same_length : n ≡ i + length (bytes_as c)
  same_length = a.next ∙ omega (arith, bytes_count c, ap size_of read_row)

  -- what was read can be written
  pub read_fits : fits_all c ≡ true
  read_fits =
      ap₂ (λ (r : ℕ) (x : List ℕ). fits (row r) x) read_row read_values
      ∙ fields_fit (row_of up (at s i)) (number_behind up s i) below

  -- where the reserved bits were 0, what is written is what was read
  pub writes_back : AreBytes s → Clear (row (row_of up (at s i))) (number_behind up s i)
      → bytes_as c ≡ part i (1 + size_of (row_of up (at s i))) s
  unfolding bytes_as row_bytes
  writes_back b z =
      let long : length (part (i + 1) (size_of (row_of up (at s i))) s) ≡ size_of (row_of up (at s i)) =
      length_part (i + 1) (size_of (row_of up (at s i))) s a.room in
      ap (λ (r : ℕ). row_bytes r (number_of (row r) (values_of c))) read_row
      ∙ ap (row_bytes (row_of up (at s i)))
      (number_back (row (row_of up (at s i))) (number_behind up s i) (values_of c) (row_distinct (row_of up (at s i)) below)
      (λ k t. ap (λ (x : List ℕ). at x k) read_values ∙ at-tab 5 (field_at (row (row_of up (at s i))) (number_behind up s i)) k (few k t)) z)
      ∙ ap₂ (λ (x : ℕ) (l : List ℕ). x ∷ l)
      (id_of_lem up (at s i) (known_from (at s i) a.in_family) (known_upto (at s i) a.in_family))
      (ap (λ (k : ℕ). bytes_of k (number_behind up s i)) (sym long)
      ∙ bytes_low (part (i + 1) (size_of (row_of up (at s i))) s) (bytes_part (i + 1) (size_of (row_of up (at s i))) s b))
      ∙ sym (front (omega (arith, a.room)))
    where
      few : (k : ℕ) → named (row (row_of up (at s i))) k ≡ true → k < 5
      few k t =
          omega (
            arith,
            named_below (row (row_of up (at s i))) (count_in_row (row (row_of up (at s i)))) k (row_within (row_of up (at s i)) below) t,
            count_most (row_of up (at s i)) below,
          )

      front : i < length s
          → part i (1 + size_of (row_of up (at s i))) s ≡ at s i ∷ part (i + 1) (size_of (row_of up (at s i))) s
      front h =
          let e : 1 + size_of (row_of up (at s i)) ≡ suc (size_of (row_of up (at s i))) = omega arith in
          ap (λ (k : ℕ). take k (drop i s)) e
          ∙ ap (take (suc (size_of (row_of up (at s i))))) (drop-cons s i 0 h)
          ∙ ap (λ (k : ℕ). at s i ∷ part k (size_of (row_of up (at s i))) s) (sym (add-one i))
