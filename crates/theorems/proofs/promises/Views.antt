-- The promise of each call that shows a part of a slice fixes the place in memory and the bytes of what it shows, which is all of
-- what a `&` is, and that of `View::of` the view.
-- Assumes nothing.
use mathlib.Core.Path.{◌≡◌, sym, ◌∙◌}
use mathlib.Core.List.{List}
use Prim.Native.Nat.{ℕ}
use seplogic.Ra.Ura.{Ura}
use base.Logic.{SProp, ent, emp}
use prog.Memory.{Memory}
use prog.Routine.{Routine}
use types.Logic.{Logic}
use contract.Lifetimes.{Lfts}
use contract.Conj.{conj, conj_l, conj_r}
use contract.Monad.{Fun, fact, fact_i, fact_use}
use denote.Ref.{Bor}
use denote.Triple.Entry.{Args, Res}
use denote.Triple.Clauses.{Ended, Clauses, AtExit}
use Rattle.view.specs.Parts.{seen}
use Rattle.view.specs.Viewed.{view_of, part_of}
use Rattle.view.specs.declared.parts.Field.{Field}
use Rattle.view.specs.declared.parts.Field.TheVariants.{DevAddr, FOpts, Payload, AppEui, DevEui, DevNonce, Mic}
use Rattle.view.proofs.part_of.Reads as view-part-of
use Rattle.view.specs.contracts.View.of as made
use Rattle.view.specs.contracts.View.part as part
use Rattle.view.specs.contracts.View.dev_addr as dev-addr
use Rattle.view.specs.contracts.View.fopts as fopts
use Rattle.view.specs.contracts.View.payload as payload
use Rattle.view.specs.contracts.View.app_eui as app-eui
use Rattle.view.specs.contracts.View.dev_eui as dev-eui
use Rattle.view.specs.contracts.View.dev_nonce as dev-nonce
use Rattle.view.specs.contracts.View.mic as mic

-- ---- calls on plain slices

-- two answers of a call that shows a part lie at the same place and hold the same bytes
abbrev pub SamePart : {K : Type 0} {D S : K → Type 0} → ((κs : K) → D κs → Bor (List ℕ) → S κs → Type 0) → Type 0
SamePart {K} {D} {S} post =
    (κs : K) (a : D κs) (x y : Bor (List ℕ)) (s t : S κs) → post κs a x s → post κs a y t → seen x ≡ seen y

pub part_of_determined : SamePart view-part-of.Learnt
part_of_determined κs a x y s t p q = p ∙ sym q

-- ---- calls on a view, whose contracts are assertions: said of two answers, they fix what f takes of them

abbrev pub Fixes : {M : Type 1} (𝓤 : Ura M) (T : Ended) {X : Type 0} → ((κs : Lfts T.signature.lifetimes) → Res T.signature κs → X) → Clauses 𝓤 T → Type 1
Fixes 𝓤 T f c =
    (κs : Lfts T.signature.lifetimes) (a : Args T.signature κs) (g : (c κs a).ghost) (x y : Res T.signature κs) (s t : AtExit T κs)
    → ent 𝓤 (conj 𝓤 ((c κs a).ensures g x s) ((c κs a).ensures g y t)) (fact 𝓤 (f κs x ≡ f κs y))

module _ {M : Type 1} {𝓤 : Ura M} (𝓛 : Logic 𝓤) (mem : Memory → SProp 𝓤) (run : Routine → Fun 𝓤) where
  -- two that equal one value
  equal : {X : Type 0} (x y v : X) → ent 𝓤 (conj 𝓤 (fact 𝓤 (x ≡ v)) (fact 𝓤 (y ≡ v))) (fact 𝓤 (x ≡ y))
  equal x y v =
      fact_use 𝓤 (x ≡ v) (conj_l 𝓤 (fact 𝓤 (x ≡ v)) (fact 𝓤 (y ≡ v)))
      (λ p.
      fact_use 𝓤 (y ≡ v) (conj_r 𝓤 (fact 𝓤 (x ≡ v)) (fact 𝓤 (y ≡ v)))
      (λ q. fact_i 𝓤 (x ≡ y) (conj 𝓤 (fact 𝓤 (x ≡ v)) (fact 𝓤 (y ≡ v))) (p ∙ sym q)))

  pub of_fixed : Fixes 𝓤 made.ended (λ κs r. r) (made.clauses 𝓛 mem run)
  of_fixed κs a g x y s t = equal x y (view_of a.0)

  pub part_fixed : Fixes 𝓤 part.ended (λ κs r. seen r) (part.clauses 𝓛 mem run)
  part_fixed κs a g x y s t = equal (seen x) (seen y) (part_of a.0 a.1.0)

  -- the methods that show one field have one signature
  abbrev Shows_one : Clauses 𝓤 dev-addr.ended → Type 1
  Shows_one c = Fixes 𝓤 dev-addr.ended (λ κs r. seen r) c

  -- what is shown is that field of the view
  abbrev shows_field : Field → Clauses 𝓤 dev-addr.ended
  shows_field field κs a = record { ghost = Unit {0}; requires = λ g. emp 𝓤; ensures = λ g r end. fact 𝓤 (seen r ≡ part_of a.0 field) }

  one_field : (field : Field) → Shows_one (shows_field field)
  one_field field κs a g x y s t = equal (seen x) (seen y) (part_of a.0 field)

  pub dev_addr_fixed : Shows_one (dev-addr.clauses 𝓛 mem run)
  dev_addr_fixed = one_field DevAddr

  pub fopts_fixed : Shows_one (fopts.clauses 𝓛 mem run)
  fopts_fixed = one_field FOpts

  pub payload_fixed : Shows_one (payload.clauses 𝓛 mem run)
  payload_fixed = one_field Payload

  pub app_eui_fixed : Shows_one (app-eui.clauses 𝓛 mem run)
  app_eui_fixed = one_field AppEui

  pub dev_eui_fixed : Shows_one (dev-eui.clauses 𝓛 mem run)
  dev_eui_fixed = one_field DevEui

  pub dev_nonce_fixed : Shows_one (dev-nonce.clauses 𝓛 mem run)
  dev_nonce_fixed = one_field DevNonce

  pub mic_fixed : Shows_one (mic.clauses 𝓛 mem run)
  mic_fixed = one_field Mic
