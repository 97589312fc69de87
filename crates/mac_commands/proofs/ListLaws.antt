-- A list of commands: it is a step and then the list from the next place, which the steps that a caller takes give too; written
-- one after the other commands read back, and a list that was read is written back where its reserved bits were 0.
-- Assumes nothing.
use Rattle.std.specs.Prelude.{Err, None, Ok, Result, Some}
use mathlib.Core.Path.{◌≡◌, refl, sym, ap, ap₂, ◌∙◌}
use mathlib.Core.Bool.{Bool, true}
use mathlib.Core.List.{List, [], ◌∷◌, ◌++◌}
use Prim.Native.Nat.{ℕ, zero, suc, ◌+◌, ◌-◌, ◌≤◌, ◌<◌}
use native.Mathlib.Omega.{arith}
use lib.ListN.{length, take, drop, length-append, length-drop, take-append-drop}
use lib.Seq.{sets, sets-eq, length-sets, drop-length, drop-drop, drop_at, take_at, length-take-le}
use lib.Dec.{leb}
use borrow.Author.Tests.{le-leb}
use Rattle.base.specs.Bytes.{at, AreBytes}
use Rattle.base.proofs.Put.{sets-append}
use Rattle.frame.specs.declared.refusals.Refusal.{Refusal}
use Rattle.mac_commands.specs.Layout.{Clear, row, row_of, size_of}
use Rattle.mac_commands.specs.Commands.{Step, step_at, row_at, fits_all, bytes_as, put_as, put_in, written_as, written_in, command_written, command_in}
use Rattle.mac_commands.specs.Lists.{Listed, on_step, list_from, list_at, bytes_all, Sent, no_more, one_more, placed, Taken, at_end, at_fault, at_command, Output, on_written, write_all}
use Rattle.mac_commands.specs.declared.maccommands.Command.{Command}
use Rattle.mac_commands.proofs.StepLaws.{ended}
use Rattle.mac_commands.proofs.ReadBack.{bytes_count, reads_back, ReadAs, read_as, number_behind, writes_back}

-- ---- a list is a step and then the list from the next place

-- a command that was found, and what follows it
abbrev found : ℕ → Command → Listed → Listed
found i c l = record { commands = record { place = i; command = c } ∷ l.commands; end = l.end }

on_end : (i : ℕ) (x : Step) (f : ℕ → Listed) → x ≡ Ok None → on_step i x f ≡ record { commands = []; end = Ok None }
on_end i x f e = ap (λ (y : Step). on_step i y f) e

on_same : (i : ℕ) (x : Step) (f g : ℕ → Listed) → ((c : Command) (n : ℕ) → x ≡ Ok (Some (c, n)) → f n ≡ g n)
    → on_step i x f ≡ on_step i x g
on_same i (Ok (Some (c, n))) f g h = ap (found i c) (h c n refl)
on_same i (Ok None) f g h = refl
on_same i (Err r) f g h = refl

-- steps that are enough give the same, however many they are
enough : (up : Bool) (s : List ℕ) (k m i : ℕ) → length s < i + k → length s < i + m → list_from k up s i ≡ list_from m up s i
unfolding list_from
enough up s zero zero i a b = refl
enough up s zero (suc m) i a b = sym (on_end i (step_at up s i) (list_from m up s) (ended up s i (omega arith)))
enough up s (suc k) zero i a b = on_end i (step_at up s i) (list_from k up s) (ended up s i (omega arith))
enough up s (suc k) (suc m) i a b =
    on_same i (step_at up s i) (list_from k up s) (list_from m up s)
    (λ c n e.
    let f : n ≡ i + 1 + size_of (row_of up (at s i)) = (read_as up s i c n e).next in
    enough up s k m n (omega arith) (omega arith))

pub list_step : (up : Bool) (s : List ℕ) (i : ℕ) → list_at up s i ≡ on_step i (step_at up s i) (list_at up s)
unfolding list_at list_from
list_step up s i =
    enough up s (suc (length s) - i) (suc (suc (length s))) i (omega arith) (omega arith)
    ∙ on_same i (step_at up s i) (list_from (suc (length s)) up s) (list_at up s)
    (λ c n e. enough up s (suc (length s)) (suc (length s) - n) n (omega arith) (omega arith))

-- ---- the steps that a caller takes give exactly the list

pub taken_is : {up : Bool} {s : List ℕ} {i : ℕ} {l : Listed} → Taken up s i l → l ≡ list_at up s i
taken_is {up} {s} {i} (at_end e) = sym (list_step up s i ∙ on_end i (step_at up s i) (list_at up s) e)
taken_is {up} {s} {i} (at_fault e) = sym (list_step up s i ∙ ap (λ (y : Step). on_step i y (list_at up s)) e)
taken_is {up} {s} {i} (at_command {c = c} e t) =
    ap (found i c) (taken_is t) ∙ sym (list_step up s i ∙ ap (λ (y : Step). on_step i y (list_at up s)) e)

-- and they can always be taken to the end
on_taken : (up : Bool) (s : List ℕ) (i : ℕ) (x : Step) (f : ℕ → Listed) → step_at up s i ≡ x
    → ((c : Command) (n : ℕ) → x ≡ Ok (Some (c, n)) → Taken up s n (f n)) → Taken up s i (on_step i x f)
on_taken up s i (Ok (Some (c, n))) f e h = at_command e (h c n refl)
on_taken up s i (Ok None) f e h = at_end e
on_taken up s i (Err r) f e h = at_fault e

take_from : (up : Bool) (s : List ℕ) (k i : ℕ) → length s < i + k → Taken up s i (list_from k up s i)
unfolding list_from
take_from up s zero i h = at_end (ended up s i (omega arith))
take_from up s (suc k) i h =
    on_taken up s i (step_at up s i) (list_from k up s) refl
    (λ c n e.
    let f : n ≡ i + 1 + size_of (row_of up (at s i)) = (read_as up s i c n e).next in
    take_from up s k n (omega arith))

pub take_all : (up : Bool) (s : List ℕ) (i : ℕ) → Taken up s i (list_at up s i)
unfolding list_at
take_all up s i = take_from up s (suc (length s) - i) i (omega arith)

-- a list without bytes has no commands
pub list_empty : (up : Bool) (s : List ℕ) (i : ℕ) → length s ≤ i → list_at up s i ≡ record { commands = []; end = Ok None }
list_empty up s i h = list_step up s i ∙ on_end i (step_at up s i) (list_at up s) (ended up s i h)

-- ---- written, then read

pub list_back : (up : Bool) (cs : List Command) (s : List ℕ) (i : ℕ) → Sent up cs → drop i s ≡ bytes_all cs
    → list_at up s i ≡ record { commands = placed i cs; end = Ok None }
unfolding bytes_all placed
list_back up [] s i no_more e = list_empty up s i (omega (arith, sym (length-drop i s) ∙ ap length e))
list_back up (c ∷ cs) s i (one_more f u m) e =
    let one : step_at up s i ≡ Ok (Some (c, i + length (bytes_as c))) =
    ap (λ (b : Bool). step_at b s i) (sym u) ∙ reads_back c s (bytes_all cs) i f e in
    let rest : drop (i + length (bytes_as c)) s ≡ bytes_all cs =
    sym (drop-drop (length (bytes_as c)) i s)
    ∙ ap (drop (length (bytes_as c))) e
    ∙ drop_at (bytes_as c) (bytes_all cs) (length (bytes_as c)) refl in
    list_step up s i
    ∙ ap (λ (x : Step). on_step i x (list_at up s)) one
    ∙ ap (found i c) (list_back up cs s (i + length (bytes_as c)) m rest)

-- ---- the call that writes one command, repeated

-- a command that fits and has room
one_written : (c : Command) (l : List ℕ) (i : ℕ) → fits_all c ≡ true → i + length (bytes_as c) ≤ length l
    → (command_written c (length l) i ≡ Ok (i + length (bytes_as c))) × (command_in c l i ≡ sets l i (bytes_as c))
unfolding written_as written_in put_as put_in bytes_as
one_written c l i f h =
    let r : leb (i + (1 + size_of (row_at c))) (length l) ≡ true =
    le-leb (i + (1 + size_of (row_at c))) (length l) (omega (arith, bytes_count c)) in
    (simp (f, r) (ap Ok (omega (arith, bytes_count c))), simp (f, r))

-- all that fit and have room stand one after the other, and no other byte is changed
pub all_written : (up : Bool) (cs : List Command) (l : List ℕ) (i : ℕ) → Sent up cs → i + length (bytes_all cs) ≤ length l
    → write_all cs l i ≡ record { answer = Ok (i + length (bytes_all cs)); bytes = sets l i (bytes_all cs) }
unfolding write_all bytes_all
all_written up [] l i no_more h = ap (λ (n : ℕ). record { answer = Ok n; bytes = l }) (omega arith)
all_written up (c ∷ cs) l i (one_more f u m) h =
    let long : length (bytes_as c ++ bytes_all cs) ≡ length (bytes_as c) + length (bytes_all cs) =
    length-append (bytes_as c) (bytes_all cs) in
    let one = one_written c l i f (omega arith) in
    ap₂ (λ (w : Result ℕ Refusal) (d : List ℕ). on_written w (write_all cs d) l) one.0 one.1
    ∙ all_written up cs (sets l i (bytes_as c)) (i + length (bytes_as c)) m (omega (arith, length-sets l i (bytes_as c)))
    ∙ ap₂ (λ (n : ℕ) (d : List ℕ). record { answer = Ok n; bytes = d }) (omega arith)
    (sym (sets-append l i (bytes_as c) (bytes_all cs)))

-- what stands at a place after it was stored there
stored_there : (l : List ℕ) (i : ℕ) (t : List ℕ) → i + length t ≤ length l → drop i (take (i + length t) (sets l i t)) ≡ t
stored_there l i t h =
    let long : length (take i l) ≡ i = length-take-le i l (omega arith) in
    ap (λ (d : List ℕ). drop i (take (i + length t) d)) (sets-eq t l i h)
    ∙ ap (drop i)
    (take_at (take i l ++ t) (drop (i + length t) l) (i + length t) (length-append (take i l) t ∙ ap (λ (n : ℕ). n + length t) long))
    ∙ drop_at (take i l) t i long

-- so written commands read back, from the bytes up to the place that the last call answered
pub written_back : (up : Bool) (cs : List Command) (l : List ℕ) (i : ℕ) → Sent up cs → i + length (bytes_all cs) ≤ length l
    → list_at up (take (i + length (bytes_all cs)) (write_all cs l i).bytes) i ≡ record { commands = placed i cs; end = Ok None }
written_back up cs l i m h =
    list_back up cs (take (i + length (bytes_all cs)) (write_all cs l i).bytes) i m
    (ap (λ (o : Output). drop i (take (i + length (bytes_all cs)) o.bytes)) (all_written up cs l i m h)
    ∙ stored_there l i (bytes_all cs) h)

-- ---- read, then written

-- a list that ends well, whose reserved bits are 0, from place i on
pub data AllClear (up : Bool) (s : List ℕ) : ℕ → List Command → Type 0 where
  none_left : {i : ℕ} → i ≡ length s → AllClear up s i []
  clear_one : {i n : ℕ} {c : Command} {cs : List Command} → step_at up s i ≡ Ok (Some (c, n))
      → Clear (row (row_of up (at s i))) (number_behind up s i) → AllClear up s n cs → AllClear up s i (c ∷ cs)

pub list_writes_back : {up : Bool} {s : List ℕ} {i : ℕ} {cs : List Command} → AreBytes s → AllClear up s i cs
    → bytes_all cs ≡ drop i s
unfolding bytes_all
list_writes_back {up} {s} {i} b (none_left e) = sym (ap (λ (k : ℕ). drop k s) e ∙ drop-length s)
list_writes_back {up} {s} {i} b (clear_one {n = n} {c = c} e z k) =
    let a : ReadAs up s i c n = read_as up s i c n e in
    let m : ℕ = 1 + size_of (row_of up (at s i)) in
    let next : n ≡ i + (1 + size_of (row_of up (at s i))) = a.next ∙ omega arith in
    ap₂ (λ (x y : List ℕ). x ++ y) (writes_back a b z) (list_writes_back b k ∙ ap (λ (j : ℕ). drop j s) next ∙ sym (drop-drop m i s))
    ∙ take-append-drop m (drop i s)
