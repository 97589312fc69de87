-- The header of a built data frame: its length and what stands at each of its places. Its first eight bytes are a list
-- that is written out, so each place computes.
-- Assumes nothing.
use Rattle.std.specs.Prelude.{None, Option, Some}
use mathlib.Core.Path.{◌≡◌, sym, ap, ap₂, ◌∙◌}
use mathlib.Core.Bool.{Bool}
use mathlib.Core.List.{List, [], ◌∷◌, ◌++◌}
use Prim.Native.Nat.{ℕ, ◌+◌, ◌/◌, ◌%◌}
use native.Mathlib.Omega.{arith}
use borrow.Author.Tests.{ne_eqb}
use lib.ListN.{length, length-append}
use Rattle.base.specs.Bytes.{pick, at}
use Rattle.base.proofs.Tab.{tab-at}
use Rattle.frame_build.specs.DataBuilding.{mhdr_of, port_bytes, fopts_of, body_of, fixed_header_of, data_header, clear_data}
use Rattle.frame_build.specs.declared.creator.data_frame.DataParts.{DataParts}

-- the eight bytes, written out
abbrev pub eight : DataParts → ℕ → List ℕ
eight d n =
    mhdr_of d.confirmed d.uplink
    ∷ at d.dev_addr 0
    ∷ at d.dev_addr 1
    ∷ at d.dev_addr 2
    ∷ at d.dev_addr 3
    ∷ (d.fctrl + n)
    ∷ (d.fcnt % 256)
    ∷ (d.fcnt / 256 % 256)
    ∷ []

module _ (d : DataParts) (four : length d.dev_addr ≡ 4) where
  pub fixed_eight : (n : ℕ) → fixed_header_of d n ≡ eight d n
  unfolding fixed_header_of
  fixed_eight n =
      ap
      (λ (a : List ℕ).
      mhdr_of d.confirmed d.uplink ∷ (a ++ (d.fctrl + n) ∷ (d.fcnt % 256) ∷ (d.fcnt / 256 % 256) ∷ []))
      (tab-at d.dev_addr 4 four)

  -- the whole header, its first eight bytes written out
  pub header_eight : (commands : List ℕ)
      → data_header d commands
      ≡ eight d (length (fopts_of d.port commands)) ++ (fopts_of d.port commands ++ port_bytes d.port)
  unfolding data_header
  header_eight commands =
      ap (λ (f : List ℕ). f ++ fopts_of d.port commands ++ port_bytes d.port)
      (fixed_eight (length (fopts_of d.port commands)))

  pub length-header : (commands : List ℕ)
      → length (data_header d commands) ≡ 8 + length (fopts_of d.port commands) + length (port_bytes d.port)
  length-header commands =
      let e : length (data_header d commands) ≡ 8 + length (fopts_of d.port commands ++ port_bytes d.port) =
      ap length (header_eight commands) ∙ length-append (eight d (length (fopts_of d.port commands))) (fopts_of d.port commands ++ port_bytes d.port) in
      omega (arith, e, length-append (fopts_of d.port commands) (port_bytes d.port))

-- ---- the clear frame, with the port known

module _ (d : DataParts) (commands body head : List ℕ) where
  clear_at : Option ℕ → List ℕ
  clear_at p = fixed_header_of d (length (fopts_of p commands)) ++ fopts_of p commands ++ port_bytes p ++ body_of p commands body

  clear_known : (p : Option ℕ) → d.port ≡ p → clear_data d commands body ≡ clear_at p
  unfolding data_header clear_at
  clear_known p e = ap clear_at e

  pub clear_absent : d.port ≡ None → head ≡ fixed_header_of d (length commands)
      → head ++ commands ++ [] ++ body ≡ clear_data d commands body
  unfolding clear_at
  clear_absent e h = ap (λ (f : List ℕ). f ++ commands ++ [] ++ body) h ∙ sym (clear_known None e)

  pub clear_commands : (p : ℕ) → p ≡ 0 → d.port ≡ Some p → head ≡ fixed_header_of d 0
      → head ++ [] ++ p ∷ [] ++ commands ≡ clear_data d commands body
  unfolding clear_at
  clear_commands p z e h =
      ap₂ (λ (f : List ℕ) (q : ℕ). f ++ [] ++ q ∷ [] ++ commands) h z ∙ sym (clear_known (Some 0) (e ∙ ap Some z))

  pub clear_port : (p : ℕ) → (p ≡ 0 → ⊥) → d.port ≡ Some p → head ≡ fixed_header_of d (length commands)
      → head ++ commands ++ p ∷ [] ++ body ≡ clear_data d commands body
  unfolding clear_at
  clear_port p n e h =
      ap (λ (f : List ℕ). f ++ commands ++ p ∷ [] ++ body) h
      ∙ ap
      (λ (z : Bool).
      fixed_header_of d (length (pick z [] commands)) ++ pick z [] commands ++ p ∷ [] ++ pick z commands body)
      (sym (ne_eqb p 0 n))
      ∙ sym (clear_known (Some p) e)
