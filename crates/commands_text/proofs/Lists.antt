-- The lists of commands that a frame has lie within it.
-- Assumes nothing.
use Rattle.std.specs.Prelude.{Err, Ok}
use mathlib.Core.Path.{◌≡◌, refl, sym, subst}
use mathlib.Core.List.{List}
use Prim.Native.Nat.{ℕ, ◌+◌, ◌-◌, ◌≤◌}
use native.Mathlib.Omega.{arith}
use lib.Dec.{eqb}
use lib.ListN.{length}
use borrow.Author.Tests.{leb-true}
use Rattle.base.proofs.Cases.{by_bool}
use Rattle.frame.specs.Layout.{fhdr_length_of, has_port_of, fport}
use Rattle.frame.specs.Reading.{Reading, port_of, payload_of, data_of, read_of}
use Rattle.frame.specs.ReadingNumbers.{on_data}
use Rattle.frame.specs.Conditions.{IsData}
use Rattle.frame.specs.declared.refusals.Refusal.{Refusal}
use Rattle.frame.specs.declared.parser.DataFrame.{DataFrame}
use Rattle.frame.specs.declared.parser.FrmPayload.{FrmPayload}
use Rattle.frame.specs.declared.parser.Frame.TheVariants.{JoinRequest, JoinAccept, Data}
use Rattle.frame.proofs.ReadingLaws.{data_read, data_fields}
use Rattle.mac_commands.specs.InFrame.{port_0_of, list_start, list_end, lists_of, in_frame_of}
use Rattle.mac_commands.specs.declared.in_frame.CommandLists.{CommandLists}
use Rattle.commands_text.specs.Within.{Within}

-- the list that a payload is, in n bytes
abbrev Spans : ℕ → FrmPayload → Type 0
Spans n p = (list_start (port_0_of p) ≤ list_end (port_0_of p)) × (list_end (port_0_of p) ≤ n)

payload_spans : (f : List ℕ) → Spans (length f) (payload_of f)
unfolding payload_of port_of
payload_spans f =
    let none : 0 ≤ length f = omega arith in
    by_bool (has_port_of f)
    (λ e.
    let ends : fhdr_length_of f + 2 ≤ length f - 4 = omega (arith, leb-true (fhdr_length_of f + 6) (length f) e) in
    by_bool (eqb (fport f) 0) (λ z. simp (e, z) (ends, omega arith)) (λ z. simp (e, z) (omega arith, none)))
    (λ e. simp e (omega arith, none))

within_data : (f : List ℕ) → IsData f → Within f (lists_of (data_of f))
unfolding lists_of data_of
within_data f h = ((omega arith, omega (arith, h.fits)), payload_spans f)

refused : {A : Type 0} (r : Refusal) (l : CommandLists) → Err r ≡ Ok l → A
refused r l e = let z : ◌≡◌ {A = ℕ} 0 1 = cc in let no : ⊥ = omega arith in absurd no

read_within : (f : List ℕ) (r : Reading) (l : CommandLists) → read_of f ≡ r → on_data (λ d. Ok (lists_of d)) Err r ≡ Ok l
    → Within f l
read_within f (Ok JoinRequest) l e h = refused _ l h
read_within f (Ok (JoinAccept n)) l e h = refused _ l h
read_within f (Err r) l e h = refused r l h
read_within f (Ok (Data d)) l e h =
    let same : lists_of d ≡ l = cc in
    subst (λ (x : CommandLists). Within f x) same
    (subst (λ (x : DataFrame). Within f (lists_of x)) (sym (data_fields f e)) (within_data f (data_read f e)))

pub within : (f : List ℕ) (l : CommandLists) → in_frame_of f ≡ Ok l → Within f l
unfolding in_frame_of
within f l e = read_within f (read_of f) l refl e
