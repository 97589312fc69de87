-- What reading gives where its tests are known, one law for each way through the definitions. Each holds since the
-- definition picks by just these tests.
-- Assumes nothing.
use Rattle.std.specs.Prelude.{None, Ok, Some}
use mathlib.Core.Path.{◌≡◌}
use mathlib.Core.List.{List}
use Prim.Native.Nat.{ℕ, ◌+◌, ◌≤◌, ◌<◌}
use native.Mathlib.Omega.{arith}
use lib.ListN.{length}
use borrow.Author.Tests.{lt-ltb, le-ltb, le-leb, lt-leb, eq-eqb, ne_eqb}
use Rattle.frame.specs.Faults as fault
use Rattle.frame.specs.Layout.{mtype, major, fhdr_length_of, fport, payload_start_of, payload_end_of}
use Rattle.frame.specs.Reading.{refuse, port_of, held_by_of, payload_of, data_of, read_join_request_of, read_join_accept_of, read_data_of, read_type_of, read_of}
use Rattle.frame.specs.declared.parser.FrmPayload.TheVariants.{Nothing, Data as PlainData, MacCommands}
use Rattle.frame.specs.declared.parser.Frame.TheVariants.{JoinRequest, JoinAccept, Data}

module _ (f : List ℕ) where
  -- ---- the port

  pub port_there : fhdr_length_of f + 6 ≤ length f → port_of f ≡ Some (fport f)
  unfolding port_of
  port_there h = simp (le-leb _ _ h)

  pub port_absent : length f < fhdr_length_of f + 6 → port_of f ≡ None
  unfolding port_of
  port_absent h = simp (lt-leb _ _ h)

  -- ---- the payload

  pub payload-none : length f < fhdr_length_of f + 6 → payload_of f ≡ Nothing
  unfolding payload_of
  payload-none h = rw (port_absent h)

  pub payload-held : fhdr_length_of f + 6 ≤ length f → payload_of f ≡ held_by_of (Some (fport f)) (payload_start_of f) (payload_end_of f)
  unfolding payload_of
  payload-held h = rw (port_there h)

  pub payload-commands : fhdr_length_of f + 6 ≤ length f → fport f ≡ 0 → payload_of f ≡ MacCommands (payload_start_of f) (payload_end_of f)
  unfolding payload_of
  payload-commands h z = simp (port_there h, eq-eqb _ _ z)

  pub payload_data : fhdr_length_of f + 6 ≤ length f → (fport f ≡ 0 → ⊥) → payload_of f ≡ PlainData (payload_start_of f) (payload_end_of f)
  unfolding payload_of
  payload_data h z = simp (port_there h, ne_eqb _ _ z)

  -- ---- by the type

  pub request_right : length f ≡ 23 → read_join_request_of f ≡ (Ok JoinRequest)
  unfolding read_join_request_of
  request_right e = simp (eq-eqb _ _ e)

  pub request_wrong : (length f ≡ 23 → ⊥) → read_join_request_of f ≡ refuse fault.join_length f
  unfolding read_join_request_of
  request_wrong n = simp (ne_eqb _ _ n)

  pub accept_short : length f ≡ 17 → read_join_accept_of f ≡ Ok (JoinAccept 17)
  unfolding read_join_accept_of
  accept_short e = simp (eq-eqb _ _ e)

  pub accept_long : length f ≡ 33 → read_join_accept_of f ≡ Ok (JoinAccept 33)
  unfolding read_join_accept_of
  accept_long e =
      let n : length f ≡ 17 → ⊥ = λ q. omega arith in
      simp (ne_eqb _ _ n, eq-eqb _ _ e)

  pub accept_wrong : (length f ≡ 17 → ⊥) → (length f ≡ 33 → ⊥) → read_join_accept_of f ≡ refuse fault.join_length f
  unfolding read_join_accept_of
  accept_wrong n m = simp (ne_eqb _ _ n, ne_eqb _ _ m)

  pub data_right : 5 + fhdr_length_of f ≤ length f → read_data_of f ≡ Ok (Data (data_of f))
  unfolding read_data_of
  data_right h = simp (le-leb _ _ h)

  pub data_wrong : length f < 5 + fhdr_length_of f → read_data_of f ≡ refuse fault.header f
  unfolding read_data_of
  data_wrong h = simp (lt-leb _ _ h)

  pub type_request : mtype f ≡ 0 → read_type_of f ≡ read_join_request_of f
  unfolding read_type_of
  type_request e = simp (eq-eqb _ _ e)

  pub type_accept : mtype f ≡ 1 → read_type_of f ≡ read_join_accept_of f
  unfolding read_type_of
  type_accept e =
      let n : mtype f ≡ 0 → ⊥ = λ q. omega arith in
      simp (ne_eqb _ _ n, eq-eqb _ _ e)

  pub type_data : 2 ≤ mtype f → mtype f < 6 → read_type_of f ≡ read_data_of f
  unfolding read_type_of
  type_data h k =
      let n : mtype f ≡ 0 → ⊥ = λ q. omega arith in
      let m : mtype f ≡ 1 → ⊥ = λ q. omega arith in
      simp (ne_eqb _ _ n, ne_eqb _ _ m, lt-ltb _ _ k)

  pub type_other : 6 ≤ mtype f → read_type_of f ≡ refuse fault.type f
  unfolding read_type_of
  type_other h =
      let n : mtype f ≡ 0 → ⊥ = λ q. omega arith in
      let m : mtype f ≡ 1 → ⊥ = λ q. omega arith in
      simp (ne_eqb _ _ n, ne_eqb _ _ m, le-ltb _ _ h)

  -- ---- of any frame

  pub too_long : 255 < length f → read_of f ≡ refuse fault.too_long f
  unfolding read_of
  too_long h = simp (lt-ltb _ _ h)

  pub too_short : length f < 12 → read_of f ≡ refuse fault.too_short f
  unfolding read_of
  too_short h =
      let k : length f ≤ 255 = omega arith in
      simp (le-ltb _ _ k, lt-ltb _ _ h)

  pub other_version : 12 ≤ length f → length f ≤ 255 → (major f ≡ 0 → ⊥) → read_of f ≡ refuse fault.version f
  unfolding read_of
  other_version h k n = simp (le-ltb _ _ k, le-ltb _ _ h, ne_eqb _ _ n)

  pub by_type : 12 ≤ length f → length f ≤ 255 → major f ≡ 0 → read_of f ≡ read_type_of f
  unfolding read_of
  by_type h k e = simp (le-ltb _ _ k, le-ltb _ _ h, eq-eqb _ _ e)
