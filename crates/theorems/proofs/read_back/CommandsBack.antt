-- MAC commands that are built into a data frame, in FOpts or on port 0, are read from it as those commands, at their places: said
-- of every outcome that the builder's contract allows. A data frame that is not on port 0 has no list there.
-- Assumes nothing.
use Rattle.std.specs.Prelude.{is_some}
use Rattle.mac_commands.specs.declared.in_frame.PayloadList.{PayloadList}
use Rattle.std.specs.Prelude.{Err, None, Ok, Option, Some}
use mathlib.Core.Path.{◌≡◌, refl, sym, ap, ap₂, ◌∙◌, subst}
use mathlib.Core.Bool.{Bool, true, false}
use mathlib.Core.List.{List, [], ◌++◌, append_assoc}
use Prim.Native.Nat.{ℕ, ◌+◌, ◌-◌, ◌≤◌}
use native.Mathlib.Omega.{arith}
use lib.ListN.{length, take, drop, length-append, length-take}
use lib.Seq.{sets-eq, take_at, drop_at, take-add, take-take, length-take-le}
use borrow.Author.Tests.{ne_eqb}
use Rattle.base.specs.Bytes.{pick, part}
use Rattle.base.proofs.Cases.{by_order}
use Rattle.frame.specs.Conditions.{IsData}
use Rattle.frame_bits.specs.Fctrl.{uplink_of}
use Rattle.frame.specs.Layout.{mtype, fhdr_length_of, header_end_of, header, payload, payload_start_of, payload_end_of, mic_of}
use Rattle.frame.specs.Reading.{port_of, held_by_of, payload_of, data_of, read_of}
use Rattle.frame.specs.ReadingNumbers.{on_data}
use Rattle.frame.specs.declared.parser.FrmPayload.{FrmPayload}
use Rattle.frame.specs.declared.parser.FrmPayload.TheVariants.{Data as PlainData, MacCommands}
use Rattle.frame.proofs.LayoutLaws.{length-header, length-payload}
use Rattle.frame.proofs.LayoutLaws as layout
use Rattle.frame.proofs.ReadingLaws.{data_read}
use Rattle.frame.proofs.ReadingSteps.{port_absent}
use Rattle.frame_security.specs.Security.{frame_key}
use Rattle.frame_security.proofs.SecurityLaws.{crypted_long}
use Rattle.frame_opening.specs.FrameOpening.{Outcome, decrypted}
use Rattle.frame_build.specs.DataBuilding.{fopts_of, body_of, data_header}
use Rattle.frame_build.specs.declared.creator.data_frame.DataParts.{DataParts}
use Rattle.frame_build.proofs.creator.data_frame.build_data.Reads as build_data
use Rattle.mac_commands.specs.InFrame.{port_0_of, list_start, list_end, lists_of, in_frame_of, fopts_commands, payload_commands}
use Rattle.mac_commands.specs.Lists.{list_at, bytes_all, Sent, no_more, placed, Output, write_all}
use Rattle.mac_commands.specs.declared.in_frame.CommandLists.{CommandLists}
use Rattle.mac_commands.specs.declared.maccommands.Command.{Command}
use Rattle.mac_commands.proofs.ListLaws.{list_empty, list_back, all_written}
use Rattle.theorems.specs.BuildingConditions.{NotPort0, absent, other}
use Rattle.theorems.specs.CommandsInFrames.{listed, opened_frame, CommandsBack}
use Rattle.theorems.specs.ReadBack.{Always, DataReadsBack}
use Rattle.theorems.proofs.read_back.Built.{data_reads_back}
use Rattle.theorems.proofs.read_back.Opened.{decrypted-header, decrypted_read}
use Rattle.theorems.proofs.read_back.OpenedParts.{opened_decrypted}
use Rattle.theorems.proofs.refusals.CommandRefusals.{lists_found}
use Rattle.theorems.proofs.refusals.FirstDue.{apart}

-- ---- a list that stands at a place of a frame

drop-take : (a n : ℕ) (f : List ℕ) → a ≤ length f → drop a (take (a + n) f) ≡ part a n f
drop-take a n f h = ap (drop a) (take-add a n f) ∙ drop_at (take a f) (part a n f) a (length-take-le a f h)

stands : (up : Bool) (cs : List Command) (f : List ℕ) (a e : ℕ) → Sent up cs → a ≤ length f → e ≡ a + length (bytes_all cs)
    → part a (length (bytes_all cs)) f ≡ bytes_all cs → list_at up (take e f) a ≡ listed a cs
stands up cs f a e m l z h =
    list_back up cs (take e f) a m
    (ap (λ (k : ℕ). drop a (take k f)) z ∙ drop-take a (length (bytes_all cs)) f l ∙ h)

-- ---- a payload that is no list of commands

no_list : (port : Option ℕ) (s e : ℕ) → NotPort0 port → port_0_of (held_by_of port s e) ≡ None
no_list port s e (absent q) = ap (λ (t : Option ℕ). port_0_of (held_by_of t s e)) q
no_list port s e (other p q n) =
    ap (λ (t : Option ℕ). port_0_of (held_by_of t s e)) q
    ∙ ap (λ (b : Bool). port_0_of (pick b (MacCommands s e) (PlainData s e))) (ne_eqb p 0 n)

-- of any bytes g, by the lists of the frame f
module _ (f g : List ℕ) (not_0 : NotPort0 (port_of f)) where
  without : (lists_of (data_of f)).port_0 ≡ None
  unfolding lists_of data_of payload_of
  without = no_list (port_of f) (payload_start_of f) (payload_end_of f) not_0

  not_there : is_some (lists_of (data_of f)).port_0 ≡ false
  not_there = ap (λ (l : Option PayloadList). is_some l) without

  empty_there : payload_commands (lists_of (data_of f)) g ≡ listed (list_start (lists_of (data_of f)).port_0) []
  unfolding placed
  empty_there =
      let up = (lists_of (data_of f)).uplink in
      ap (λ (l : Option PayloadList). list_at up (take (list_end l) g) (list_start l)) without
      ∙ list_empty up (take 0 g) 0 (omega (arith, length-take 0 g))
      ∙ ap (λ (l : Option PayloadList). listed (list_start l) []) (sym without)

-- a frame that is not on port 0 has no list there
pub no_port_0 : (f : List ℕ) (l : CommandLists) → in_frame_of f ≡ Ok l → NotPort0 (port_of f)
    → (is_some l.port_0 ≡ false) × (payload_commands l f ≡ listed (list_start l.port_0) [])
no_port_0 f l e p =
    let its : l ≡ lists_of (data_of f) = ((lists_found f l).there e).1 in (
      ap (λ (x : CommandLists). is_some x.port_0) its ∙ not_there f f p,
      ap (λ (x : CommandLists). payload_commands x f) its
          ∙ empty_there f f p
          ∙ ap (λ (x : CommandLists). listed (list_start x.port_0) []) (sym its),
    )

-- ---- a frame that was built, with the bytes of the commands cs

-- the direction is that of the parts
up_back : (c u : Bool) → uplink_of (pick c 4 2 + pick u 0 1) ≡ u
up_back true true = refl
up_back true false = refl
up_back false true = refl
up_back false false = refl

-- where the commands go, by the port
to_fopts : (port : (Option ℕ)) (commands : List ℕ) → NotPort0 port → fopts_of port commands ≡ commands
to_fopts port commands (absent e) = ap (λ (p : Option ℕ). fopts_of p commands) e
to_fopts port commands (other q e n) =
    ap (λ (p : Option ℕ). fopts_of p commands) e ∙ ap (λ (b : Bool). pick b [] commands) (ne_eqb q 0 n)

-- a port that is reported has its byte
port_byte : (f : List ℕ) (q : ℕ) → port_of f ≡ Some q → fhdr_length_of f + 6 ≤ length f
port_byte f q e =
    by_order (fhdr_length_of f + 6) (length f) (λ l. l)
    (λ l.
    let none : port_of f ≡ None = port_absent f l in
    apart (cc))

-- a list between what stands before and after it
between : (h b m : List ℕ) → part (length h) (length b) (h ++ (b ++ m)) ≡ b
between h b m = ap (take (length b)) (drop_at h (b ++ m) (length h) refl) ∙ take_at b m (length b) refl

module _ (nwk app : List ℕ) (d : DataParts) (cs : List Command) (body f : List ℕ) (sent : Sent d.uplink cs)
    (b : DataReadsBack nwk app d (bytes_all cs) body f) where
  is_data : IsData f
  is_data = data_read f b.back.reads

  -- what it is opened to
  g : List ℕ
  g = opened_frame nwk app d.fcnt f

  g_decrypted : g ≡ decrypted (frame_key f nwk app) d.fcnt f
  unfolding g
  g_decrypted = ap (λ (r : Outcome). r.bytes) (opened_decrypted nwk app f d.fcnt is_data)

  g_parts : g ≡ data_header d (bytes_all cs) ++ (body_of d.port (bytes_all cs) body ++ mic_of f)
  unfolding g
  g_parts = ap (λ (r : Outcome). r.bytes) b.opens.opens

  -- both have the same lists
  abbrev its : CommandLists
  its = lists_of (data_of f)

  f_found : in_frame_of f ≡ Ok its
  unfolding in_frame_of
  f_found = ap (on_data (λ x. Ok (lists_of x)) Err) b.back.reads

  g_found : in_frame_of g ≡ Ok its
  unfolding in_frame_of
  g_found =
      ap (on_data (λ x. Ok (lists_of x)) Err)
      (ap read_of g_decrypted ∙ decrypted_read (frame_key f nwk app) f d.fcnt is_data ∙ b.back.reads)

  upward : uplink_of (mtype f) ≡ d.uplink
  upward = ap uplink_of b.back.type ∙ up_back d.confirmed d.uplink

  -- ---- FOpts

  fopts_hold : (xs : List Command) → Sent d.uplink xs → fopts_of d.port (bytes_all cs) ≡ bytes_all xs
      → fopts_commands its f ≡ listed 8 xs
  unfolding lists_of data_of
  fopts_hold xs m e =
      ap (λ (u : Bool). list_at u (take (1 + fhdr_length_of f) f) 8) upward
      ∙ stands d.uplink xs f 8 (1 + fhdr_length_of f) m (omega (arith, is_data.least))
      (b.back.fopts_end ∙ ap (λ (l : List ℕ). 8 + length l) e)
      (ap (λ (l : List ℕ). part 8 (length l) f) (sym e) ∙ b.back.fopts ∙ e)

  -- opening leaves the header as it was
  same_fopts : take (1 + fhdr_length_of f) g ≡ take (1 + fhdr_length_of f) f
  same_fopts =
      let l : 1 + fhdr_length_of f ≤ header_end_of f = (layout.placed f is_data).fopts in
      ap (take (1 + fhdr_length_of f)) g_decrypted
      ∙ sym (take-take (1 + fhdr_length_of f) (header_end_of f) (decrypted (frame_key f nwk app) d.fcnt f) l)
      ∙ ap (take (1 + fhdr_length_of f)) (decrypted-header (frame_key f nwk app) f d.fcnt is_data)
      ∙ take-take (1 + fhdr_length_of f) (header_end_of f) f l

  opened_fopts : fopts_commands its g ≡ fopts_commands its f
  unfolding lists_of data_of
  opened_fopts = ap (λ (l : List ℕ). list_at (uplink_of (mtype f)) l 8) same_fopts

  -- ---- the payload

  -- none on another port
  other_port : NotPort0 d.port → NotPort0 (port_of f)
  other_port p = subst (λ (t : Option ℕ). NotPort0 t) (sym b.back.port) p

  -- on port 0 those that were given
  module _ (zero : d.port ≡ Some 0) where
    as_body : body_of d.port (bytes_all cs) body ≡ bytes_all cs
    as_body = ap (λ (p : Option ℕ). body_of p (bytes_all cs) body) zero

    no_fopts : fopts_of d.port (bytes_all cs) ≡ bytes_all []
    unfolding bytes_all
    no_fopts = ap (λ (p : Option ℕ). fopts_of p (bytes_all cs)) zero

    payload_long : length (payload f) ≡ length (bytes_all cs)
    payload_long =
        sym (crypted_long (frame_key f nwk app) (header f) d.fcnt (payload f))
        ∙ ap length (b.back.payload_back ∙ as_body)

    header_long : length (data_header d (bytes_all cs)) ≡ header_end_of f
    header_long = sym (ap length b.back.header_back) ∙ length-header f

    on_0 : port_of f ≡ Some 0
    on_0 = b.back.port ∙ zero

    held : payload_of f ≡ MacCommands (payload_start_of f) (payload_end_of f)
    unfolding payload_of
    held = ap (λ (t : Option ℕ). held_by_of t (payload_start_of f) (payload_end_of f)) on_0

    there : is_some its.port_0 ≡ true
    unfolding lists_of data_of
    there = ap (λ (p : FrmPayload). is_some (port_0_of p)) held

    all_held : payload_commands its g ≡ listed (list_start its.port_0) cs
    unfolding lists_of data_of
    all_held =
        let byte : fhdr_length_of f + 6 ≤ length f = port_byte f 0 on_0 in
        let long : payload_end_of f - header_end_of f ≡ length (bytes_all cs) = sym (length-payload f) ∙ payload_long in
        let start : header_end_of f ≡ payload_start_of f = omega arith in
        let end : payload_end_of f ≡ payload_start_of f + length (bytes_all cs) = omega arith in
        let parts : g ≡ data_header d (bytes_all cs) ++ (bytes_all cs ++ mic_of f) =
        g_parts ∙ ap (λ (l : List ℕ). data_header d (bytes_all cs) ++ (l ++ mic_of f)) as_body in
        let all : length g ≡ length (data_header d (bytes_all cs)) + length (bytes_all cs ++ mic_of f) =
        ap length parts ∙ length-append (data_header d (bytes_all cs)) (bytes_all cs ++ mic_of f) in
        let there : part (payload_start_of f) (length (bytes_all cs)) g ≡ bytes_all cs =
        ap₂ (λ (k : ℕ) (l : List ℕ). part k (length (bytes_all cs)) l) (sym (header_long ∙ start)) parts
        ∙ between (data_header d (bytes_all cs)) (bytes_all cs) (mic_of f) in
        ap (λ (p : FrmPayload). list_at (uplink_of (mtype f)) (take (list_end (port_0_of p)) g) (list_start (port_0_of p))) held
        ∙ ap (λ (u : Bool). list_at u (take (payload_end_of f) g) (payload_start_of f)) upward
        ∙ stands d.uplink cs g (payload_start_of f) (payload_end_of f) sent (omega (arith, header_long)) end there
        ∙ ap (λ (p : FrmPayload). listed (list_start (port_0_of p)) cs) (sym held)

  commands_back : CommandsBack nwk app d cs f
  unfolding g
  commands_back =
      record {
        in_fopts_lem =
            λ p.
            record {
              lists = its;
              found = f_found;
              fopts = fopts_hold cs sent (to_fopts d.port (bytes_all cs) p);
              port_0 = not_there f f (other_port p);
              payload = empty_there f f (other_port p);
            };
        in_fopts_opened =
            λ p.
            record {
              lists = its;
              found = g_found;
              fopts = opened_fopts ∙ fopts_hold cs sent (to_fopts d.port (bytes_all cs) p);
              port_0 = not_there f g (other_port p);
              payload = empty_there f g (other_port p);
            };
        on_port_0 =
            λ z.
            record {
              lists = its;
              found = g_found;
              fopts = opened_fopts ∙ fopts_hold [] no_more (no_fopts z);
              port_0 = there z;
              payload = all_held z;
            };
      }

-- ---- the theorem

-- what the call that writes one command leaves, made for each of them in turn, are their bytes
pub written_bytes : (up : Bool) (cs : List Command) (l : List ℕ) (i : ℕ) → Sent up cs → i + length (bytes_all cs) ≤ length l
    → part i (length (bytes_all cs)) (write_all cs l i).bytes ≡ bytes_all cs
written_bytes up cs l i m h =
    let t = bytes_all cs in
    let rest = drop (i + length t) l in
    ap (λ (o : Output). part i (length t) o.bytes) (all_written up cs l i m h)
    ∙ ap (part i (length t)) (sets-eq t l i h ∙ append_assoc (take i l) t rest)
    ∙ ap (take (length t)) (drop_at (take i l) (t ++ rest) i (length-take-le i l (omega arith)))
    ∙ take_at t rest (length t) refl

-- and where the builder is given the bytes of commands in the frame's direction, they are read back
pub commands_read_back : Always build_data.Learnt
    (λ κs a r s.
    (n : ℕ) → r ≡ Ok n → (cs : List Command) → a.1.0.now ≡ bytes_all cs → Sent a.0.uplink cs
    → CommandsBack a.1.1.1.0 a.1.1.1.1.0 a.0 cs (take n s.1.1.1.1.1.0.now))
commands_read_back κs a r s p n q cs e sent =
    let d = a.0 in
    let body = a.1.1.0.now in
    let nwk = a.1.1.1.0 in
    let app = a.1.1.1.1.0 in
    let f = take n s.1.1.1.1.1.0.now in
    commands_back nwk app d cs body f sent
    (subst (λ (l : List ℕ). DataReadsBack nwk app d l body f) e (data_reads_back κs a r s p n q))
