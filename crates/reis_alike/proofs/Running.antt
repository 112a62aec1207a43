-- A run: what was handed out and written over its pieces.
use Rattle.std.proofs.Common.{◌≡◌, codes, ◌^◌, ℕ, zero, suc, ◌+◌, ◌<◌, ◌≤◌, Bool, true, false, cond, List, [], ◌∷◌, ◌++◌, length, map, Option, Some, None, Err, refl, sym, ap, subst, ◌∙◌, inl, arith}
use Rattle.std.proofs.Math.Seq.{drop-length}
use Rattle.std.proofs.lemmas.List.{append-nil, map-append, length-append}
use Rattle.std.proofs.lemmas.Grind.{flat_map-append}
use Rattle.ei_spec.specs.declared.handle.Handle.{Handle}
use Rattle.ei_spec.specs.declared.interface.KnownInterface.{KnownInterface}
use Rattle.ei_spec.specs.Message.{Raw, Front, Short, Whole, front, bytes_of, all_bytes}
use Rattle.ei_spec.specs.Piece.{Piece, stream, handle_count}
use Rattle.ei_spec.specs.History.{each, joined, occurs}
use Rattle.ei_spec.specs.Groups.{frames_made, gives}
use Rattle.ei_spec.specs.Stream.{Waiting, Ended, HeaderLength, Refusal as RefusedStop, Reading, reading, read, Accepted, Final}
use Rattle.ei_spec.proofs.GoesOn.{read_short, read_unlawful, read_accepted, read_final, read_refused}
use Rattle.ei_types.specs.declared.error.Error.{Error}
use Rattle.ei_types.specs.declared.error.Error.TheVariants as error
use Rattle.ei_wire.specs.declared.error.ParseError.TheVariants as parse_error
use Rattle.ei_backend.specs.Backend.{BackendView, with_piece, with_unsent, unsent_of}
use Rattle.ei_backend.specs.Outgoing.{nothing, kept_beside, unsent_after}
use Rattle.ei_session.specs.Setup.{Setup}
use Rattle.ei_session.specs.Handshake.{connected, version}
use Rattle.ei_session.specs.Devices.{exhausts}
use Rattle.ei_session.specs.Refusals.{Refusal, judge, came}
use Rattle.ei_session.specs.Replies.{greeting}
use Rattle.ei_session.specs.Requests.{Request, slot, framed}
use Rattle.ei_session.specs.Events.{reply, replies}
use Rattle.ei_session.specs.Served.{Answer, Disconnect, IdsExhausted, Outcome, reading_of, accepted, answer_at, is_waiting, session}
use Rattle.ei_session.proofs.AllParts.{framed_more, framed_readings, replies_more}
use Rattle.ei_session.proofs.BeforeTheFinish.{early_item}
use Rattle.ei_session.proofs.GivenByItem.{gives_none}
use Rattle.ei_session.proofs.KeptByRequests.{fixed_versions}
use Rattle.ei_request.specs.declared.event.EisRequest.{EisRequest}
use Rattle.ei_standing.specs.Standing.{handed_as, request_in_code}
use Rattle.ei_serve.specs.Refusing.{refusal_of, IsRefused}
use Rattle.ei_serve.specs.Serving.{AnswersAs}
use Rattle.ei_serve.specs.Steps.{Refuses as RefusesSo, RefusesFront}
use Rattle.ei_serve.specs.Taking.{with_next}
use Rattle.ei_serve.proofs.EarlyRequests.{handed_alike}
use Rattle.ei_serve.proofs.Histories.{GoesOn, count_more, reading_more, goes_on_more, going, stopped, too_many_handles_come}
use Rattle.ei_serve.proofs.Serves.{framed_none}
use Rattle.reis_eis.specs.declared.ending.Ending.{Ending}
use Rattle.reis_eis.specs.declared.ending.Ending.TheVariants as ending
use Rattle.reis_eis.specs.declared.phase.Phase.{Phase}
use Rattle.reis_eis.specs.declared.phase.Phase.TheVariants as phase
use Rattle.reis_eis.specs.View.{EisView}
use Rattle.reis_eis.specs.Words.{context_in, with_context, unread_of, unsent_in, shaking_with, waiting_of, greeted}
use Rattle.reis_alike.specs.Standing.{IsShaking, StandsFor}
use Rattle.reis_alike.specs.Program.{Came, WritesAll, HasOneAtMost, Turns, WritesBehind}
use Rattle.reis_alike.specs.Alike.{AreTimes, pieces_of, ServesAlike, EndsAs, Begins, Runs}
use Rattle.reis_alike.proofs.Turning.{handles_of, Answered, IsLast}
use Rattle.ei_types.specs.Capability.{all_bits}
use Rattle.ei_serve.proofs.Running.{nothing_read}
use Rattle.ei_session.proofs.SettledMapLaws.{first_map}
use Rattle.reis_eis.specs.Starting.{started, waits_in, with_unsent_in}
use Rattle.reis_alike.proofs.Conversing.{how_by}
use Rattle.reis_alike.proofs.Feeding.{Turned, Quiet, Answers, Refuses, Overflown, Full, HasRoom, bytes_with, context_with, stands_piece, stands_written, no_handle, count_readings, enough_readings, some_context, shaking_written, turned as turned_by}

-- ---- requests and replies of one message more

versions_stay : (past : List Raw) (m : Raw) → connected past ≡ true → version (m ∷ past) ≡ version past
versions_stay past m on = λ i interface. (fixed_versions past m on).same_version interface i

given_alike : (setup : Setup) (readings : List ℕ) (past : List Raw) (m : Raw) (b : Bool) → connected past ≡ b →
    map (request_in_code past) (gives readings (each (slot setup) past) (slot setup past m)) ≡ map (request_in_code (m ∷ past)) (gives readings (each (slot setup) past) (slot setup past m))
given_alike setup readings past m true on = ap (λ (v : KnownInterface → ℕ). map (handed_as v) (gives readings (each (slot setup) past) (slot setup past m))) (sym (versions_stay past m on))
given_alike setup readings past m false off =
    let none = gives_none setup readings past m (early_item past m off) in
    ap (map (request_in_code past)) none ∙ sym (ap (map (request_in_code (m ∷ past))) none)

-- the requests so far, and those of one message more
pub requests_more : (setup : Setup) (past : List Raw) (m : Raw) (readings used : List ℕ) (out handed : List EisRequest) → frames_made (each (slot setup) past) ≤ length readings → out ≡ map (request_in_code past) (framed setup readings past) →
    ((later : List ℕ) → handed ≡ map (request_in_code past) (gives ((readings ++ used) ++ later) (each (slot setup) past) (slot setup past m))) → out ++ handed ≡ map (request_in_code (m ∷ past)) (framed setup (readings ++ used) (m ∷ past))
requests_more setup past m readings used out handed few o h =
    let more : List Request = gives (readings ++ used) (each (slot setup) past) (slot setup past m) in
    let earlier : out ≡ map (request_in_code (m ∷ past)) (framed setup (readings ++ used) past) =
    o ∙ ap (map (request_in_code past)) (sym (framed_readings setup readings used past few))
    ∙ handed_alike setup (readings ++ used) past (version (m ∷ past)) (λ on interface. sym ((fixed_versions past m on).same_version interface)) in
    let now : handed ≡ map (request_in_code (m ∷ past)) more =
    h [] ∙ ap (λ (r : List ℕ). map (request_in_code past) (gives r (each (slot setup) past) (slot setup past m))) (append-nil (readings ++ used)) ∙ given_alike setup (readings ++ used) past m (connected past) refl in
    ap (λ (x : List EisRequest). x ++ handed) earlier ∙ ap (λ (x : List EisRequest). map (request_in_code (m ∷ past)) (framed setup (readings ++ used) past) ++ x) now
    ∙ sym (map-append (request_in_code (m ∷ past)) (framed setup (readings ++ used) past) more) ∙ ap (map (request_in_code (m ∷ past))) (sym (framed_more setup (readings ++ used) past m))

-- the replies so far, and the one more
pub replies_then : (setup : Setup) (past : List Raw) (m : Raw) (written more : List ℕ) → written ≡ all_bytes (replies setup past) → more ≡ all_bytes (reply setup past m) → written ++ more ≡ all_bytes (replies setup (m ∷ past))
replies_then setup past m written more w e =
    ap (λ (x : List ℕ). x ++ more) w ∙ ap (λ (x : List ℕ). all_bytes (replies setup past) ++ x) e
    ∙ sym (flat_map-append bytes_of (replies setup past) (reply setup past m)) ∙ ap all_bytes (sym (replies_more setup past m))

-- ---- what waits, once it is written

kept_none : (n : ℕ) → kept_beside n [] ≡ []
kept_none zero = refl
kept_none (suc n) = refl

left_none : (p : Piece) (written : List ℕ) → written ≡ p.bytes → p.handles ≡ [] → unsent_after (length written) p ≡ nothing
left_none p written all none =
    ap (λ (w : List ℕ). unsent_after (length w) p) all
    ∙ ap (λ (bytes : List ℕ). record { bytes = bytes; handles = kept_beside (length p.bytes) p.handles }) (drop-length p.bytes)
    ∙ ap (λ (handles : List Handle). record { bytes = []; handles = kept_beside (length p.bytes) handles }) none
    ∙ ap (λ (handles : List Handle). record { bytes = []; handles = handles }) (kept_none (length p.bytes))

-- ---- a run that goes on

-- Over these pieces it goes on: the connection stands for their messages, and what was handed out and written is theirs.
pub record Goes (setup : Setup) (came : List Came) (out : List EisRequest) (written : List ℕ) (p : Phase) : Type 0 where
  pub readings : List ℕ
  pub times : AreTimes came readings
  pub goes_on : GoesOn setup (pieces_of came)
  pub waits : (reading_of setup (stream (pieces_of came))).stop ≡ Waiting
  pub stands : StandsFor setup (accepted setup (stream (pieces_of came))) readings p
  pub b : BackendView
  pub context : context_in p ≡ Some b
  pub unread : b.unread ≡ (reading_of setup (stream (pieces_of came))).rest
  pub handles : length b.handles ≡ handle_count (pieces_of came)
  pub unsent : b.unsent ≡ []
  pub requests : out ≡ map (request_in_code (accepted setup (stream (pieces_of came)))) (framed setup readings (accepted setup (stream (pieces_of came))))
  pub replies : written ≡ all_bytes (replies setup (accepted setup (stream (pieces_of came))))

pub serves_so : (setup : Setup) (came : List Came) (readings : List ℕ) (out : List EisRequest) (written : List ℕ) (past : List Raw) → AreTimes came readings → length readings ≡ frames_made (each (slot setup) past) → (session setup (pieces_of came)).handled ≡ past → out ≡ map (request_in_code past) (framed setup readings past) → written ≡ all_bytes (replies setup past) →
    ServesAlike setup came out written
serves_so setup came readings out written past times count handled o w = record {
  readings = readings;
  times = times;
  frames = count ∙ ap (λ (messages : List Raw). frames_made (each (slot setup) messages)) (sym handled);
  requests = record {
    readings = readings;
    told_so = refl;
    grown = subst (λ (messages : List Raw). out ≡ map (request_in_code messages) (framed setup readings messages)) (sym handled) o;
  };
  replies = subst (λ (messages : List Raw). written ≡ all_bytes (replies setup messages)) (sym handled) w;
}

-- so far
pub serves_on : (setup : Setup) (came : List Came) (out : List EisRequest) (written : List ℕ) (p : Phase) → Goes setup came out written p → ServesAlike setup came out written
serves_on setup came out written p g =
    serves_so setup came g.readings out written (accepted setup (stream (pieces_of came))) g.times
    (count_readings setup (accepted setup (stream (pieces_of came))) g.readings p g.stands) (ap (λ (o : Outcome). o.handled) (going setup (pieces_of came) g.goes_on)) g.requests g.replies

-- it goes on, or it ended as a session over these pieces does
pub data Says (setup : Setup) (came : List Came) (out : List EisRequest) (written : List ℕ) (e : EisView) : Type 0 where
  Going : e.ending ≡ None → Goes setup came out written e.phase → Says setup came out written e
  Over : (how : Ending) → e.ending ≡ Some how → ((how ≡ ending.Refused error.NoMemory → ⊥) → EndsAs (session setup (pieces_of came)).answer how × ServesAlike setup came out written) → Says setup came out written e

-- ---- how it begins

connected_none : connected [] ≡ false
unfolding connected occurs
connected_none = refl

came_none : (name : List ℕ) → came name [] ≡ false
unfolding came occurs
came_none name = refl

greeting_alone : (setup : Setup) → replies setup [] ≡ greeting ∷ []
unfolding replies joined
greeting_alone setup = refl

none_counted : 0 ≡ handle_count []
unfolding handle_count
none_counted = refl

module _ (setup : Setup) (lawful : setup.capabilities ≤ all_bits) (small : setup.serial < 2 ^ 32) where
  greets : IsShaking setup [] (greeted setup.serial)
  greets = record {
    unfinished = connected_none;
    lawful = lawful;
    in_range = small;
    endpoint = refl;
    initial_serial = refl;
    serial = refl;
    versions = sym first_map;
    name = sym (came_none (codes "name"));
    context_type = sym (came_none (codes "context_type"));
  }

  pub starts : StandsFor setup [] [] (started setup.serial).phase
  starts = (refl, greets)

  begins : (out : List EisRequest) (written : List ℕ) (new : EisView) → Begins setup out written new → Says setup [] out written new
  begins out written new h =
      let none : unsent_after (length written) (unsent_in (started setup.serial).phase) ≡ nothing = left_none (unsent_in (started setup.serial).phase) written h.writes.all refl in
      let now : new ≡ with_unsent_in (started setup.serial) nothing = h.writes.told ∙ ap (with_unsent_in (started setup.serial)) none in
      let r : reading_of setup (stream []) ≡ reading [] [] Waiting = nothing_read setup in
      let past_is : accepted setup (stream []) ≡ [] = ap (λ (x : Reading Refusal). x.past) r in
      let p_is : new.phase ≡ phase.Shaking (shaking_with (greeted setup.serial) (with_unsent nothing (greeted setup.serial).context)) = ap (λ (v : EisView). v.phase) now in
      Going (ap (λ (v : EisView). v.ending) now) (record {
        readings = [];
        times = refl;
        goes_on = λ k low high. absurd (omega (arith, low, high));
        waits = ap (λ (x : Reading Refusal). x.stop) r;
        stands = subst (λ (messages : List Raw). StandsFor setup messages [] new.phase) (sym past_is) (subst (λ (p : Phase). StandsFor setup [] [] p) (sym p_is) (refl, shaking_written setup [] [] (greeted setup.serial) greets));
        b = with_unsent nothing (greeted setup.serial).context;
        context = ap context_in p_is;
        unread = sym (ap (λ (x : Reading Refusal). x.rest) r);
        handles = none_counted;
        unsent = refl;
        requests = h.none ∙ sym (ap (map (request_in_code (accepted setup (stream [])))) (ap (framed setup []) past_is ∙ framed_none setup []));
        replies = h.writes.all ∙ ap all_bytes (sym (greeting_alone setup)) ∙ ap (λ (messages : List Raw). all_bytes (replies setup messages)) (sym past_is);
      })

-- ---- a turn

writes_keep : (how : Option Ending) (written : List ℕ) (e f : EisView) → WritesBehind how written e f → f.ending ≡ e.ending
writes_keep (Some (ending.Refused x)) written e f w = ap (λ (v : EisView). v.ending) w.1
writes_keep None written e f w = ap (λ (v : EisView). v.ending) w.told
writes_keep (Some ending.Disconnected) written e f w = ap (λ (v : EisView). v.ending) w.told
writes_keep (Some ending.End) written e f w = ap (λ (v : EisView). v.ending) w.told
writes_keep (Some ending.Told) written e f w = ap (λ (v : EisView). v.ending) w.told

-- where reading stops with a refusal, as an error tells it
record Stops (setup : Setup) (past : List Raw) (rest : List ℕ) (e : Error) : Type 0 where
  r : Reading Refusal
  is : read (judge setup) past rest ≡ r
  stops : is_waiting r.stop ≡ false
  same : r.past ≡ past
  answer : AnswersAs (answer_at r) (Err e)

record StopsAt (setup : Setup) (past : List Raw) (rest : List ℕ) (o : Option Refusal) : Type 0 where
  r : Reading Refusal
  is : read (judge setup) past rest ≡ r
  stops : is_waiting r.stop ≡ false
  same : r.past ≡ past
  answer : IsRefused o (answer_at r)

stops_at : (setup : Setup) (past : List Raw) (rest : List ℕ) (o : Option Refusal) → RefusesFront setup past rest o → StopsAt setup past rest o
stops_at setup past rest None f = absurd f
stops_at setup past rest (Some x) f = record { r = reading past rest (RefusedStop x); is = read_refused (judge setup) past rest f.0 f.1 x f.2 f.3; stops = refl; same = refl; answer = refl }

stops_by : (setup : Setup) (past : List Raw) (rest : List ℕ) (e : Error) → (e ≡ error.NoMemory → ⊥) → RefusesSo setup past rest e → Stops setup past rest e
stops_by setup past rest (error.Parse (parse_error.HeaderLength n)) some f = record { r = reading past rest (HeaderLength n); is = read_unlawful (judge setup) past rest n f; stops = refl; same = refl; answer = refl }
stops_by setup past rest error.NoMemory some f = absurd (some refl)
stops_by setup past rest error.UnexpectedEof some f = absurd f
stops_by setup past rest error.PieceLimit some f = absurd f
stops_by setup past rest error.HandleLimit some f = absurd f
stops_by setup past rest error.IdsExhausted some f = absurd f
stops_by setup past rest error.ReadFault some f = absurd f
stops_by setup past rest error.WriteFault some f = absurd f
stops_by setup past rest e some f =
    let x = stops_at setup past rest (refusal_of e) f in
    record { r = x.r; is = x.is; stops = x.stops; same = x.same; answer = x.answer }

module _ (setup : Setup) (before : List Came) (c : Came) (out : List EisRequest) (written : List ℕ) (old : EisView) (g : Goes setup before out written old.phase) (room : length (pieces_of (c ∷ before)) ≤ setup.pieces) where
  abbrev past : List Raw
  past = accepted setup (stream (pieces_of before))

  abbrev bytes : List ℕ
  bytes = (reading_of setup (stream (pieces_of before))).rest ++ c.piece.bytes

  more_room : length (pieces_of before) < setup.pieces
  more_room = let n = length-append (pieces_of before) (c.piece ∷ []) in omega (arith, room, n)

  -- the phase that took the piece
  abbrev held : BackendView
  held = with_piece c.piece g.b

  abbrev begun : Phase
  begun = with_context old.phase held

  begun_stands : StandsFor setup past g.readings begun
  begun_stands = stands_piece setup past g.readings c.piece old.phase g.b g.context g.stands

  begun_context : context_in begun ≡ Some held
  begun_context = context_with old.phase g.b held g.context

  begun_unsent : (unsent_in begun).bytes ≡ []
  begun_unsent = ap (λ (o : Option BackendView). (waiting_of o).bytes) begun_context ∙ g.unsent

  -- what is unread with the piece
  here : bytes_with g.b c ≡ bytes
  here = ap (λ (x : List ℕ). x ++ c.piece.bytes) g.unread

  pub at_bytes : {x : Front} → front (bytes_with g.b c) ≡ x → front bytes ≡ x
  at_bytes e = ap front (sym here) ∙ e

  same_reading : reading_of setup (stream (pieces_of (c ∷ before))) ≡ read (judge setup) past bytes
  same_reading = reading_more setup (pieces_of before) c.piece g.waits

  -- ---- it ended

  pub over_with : handle_count (pieces_of (c ∷ before)) ≤ 4096 → (r : Reading Refusal) → read (judge setup) past bytes ≡ r → is_waiting r.stop ≡ false →
      ((session setup (pieces_of (c ∷ before))).answer ≡ answer_at r) × ((session setup (pieces_of (c ∷ before))).handled ≡ r.past)
  over_with few r is stops =
      let now : reading_of setup (stream (pieces_of (c ∷ before))) ≡ r = same_reading ∙ is in
      let s = stopped setup (pieces_of before) c.piece g.goes_on more_room few (ap (λ (x : Reading Refusal). is_waiting x.stop) now ∙ stops) in
      (ap (λ (o : Outcome). o.answer) s ∙ ap answer_at now, ap (λ (o : Outcome). o.handled) s ∙ ap (λ (x : Reading Refusal). x.past) now)

  same_times : AreTimes (c ∷ before) g.readings
  same_times = (g.readings, [], g.times, inl refl, sym (append-nil g.readings))

  -- with nothing handed out and nothing written
  serves_no_more : (handed : List EisRequest) (more : List ℕ) → handed ≡ [] → more ≡ [] → (session setup (pieces_of (c ∷ before))).handled ≡ past → ServesAlike setup (c ∷ before) (out ++ handed) (written ++ more)
  serves_no_more handed more h w same =
      serves_so setup (c ∷ before) g.readings (out ++ handed) (written ++ more) past same_times (count_readings setup past g.readings old.phase g.stands) same
      (ap (λ (x : List EisRequest). out ++ x) h ∙ append-nil out ∙ g.requests) (ap (λ (x : List ℕ). written ++ x) w ∙ append-nil written ∙ g.replies)

  -- ---- it goes on

  goes_with : handle_count (pieces_of (c ∷ before)) ≤ 4096 → (now : List Raw) (after readings : List ℕ) (handed : List EisRequest) (more : List ℕ) (turned new : EisView) → read (judge setup) past bytes ≡ reading now after Waiting → AreTimes (c ∷ before) readings →
      StandsFor setup now readings turned.phase → (b : BackendView) → context_in turned.phase ≡ Some b → b.unread ≡ after → b.handles ≡ held.handles → out ++ handed ≡ map (request_in_code now) (framed setup readings now) → written ++ more ≡ all_bytes (replies setup now) →
      WritesAll more turned new → Goes setup (c ∷ before) (out ++ handed) (written ++ more) new.phase
  goes_with few now after readings handed more turned new is times stands b context unread handles o w writes =
      let r : reading_of setup (stream (pieces_of (c ∷ before))) ≡ reading now after Waiting = same_reading ∙ is in
      let past_is : accepted setup (stream (pieces_of (c ∷ before))) ≡ now = ap (λ (x : Reading Refusal). x.past) r in
      let waiting_is : unsent_in turned.phase ≡ unsent_of b = ap waiting_of context in
      let none : unsent_after (length more) (unsent_in turned.phase) ≡ nothing = left_none (unsent_in turned.phase) more writes.all (no_handle setup now readings turned.phase stands) in
      let phase_is : new.phase ≡ with_context turned.phase (with_unsent nothing b) =
      ap (λ (v : EisView). v.phase) writes.told ∙ ap (λ (x : Piece). waits_in turned.phase x (context_in turned.phase)) none ∙ ap (waits_in turned.phase nothing) context in
      let waits = ap (λ (x : Reading Refusal). x.stop) r in
      record {
        readings = readings;
        times = times;
        goes_on = goes_on_more setup (pieces_of before) c.piece g.goes_on more_room few waits;
        waits = waits;
        stands = subst (λ (messages : List Raw). StandsFor setup messages readings new.phase) (sym past_is) (subst (λ (p : Phase). StandsFor setup now readings p) (sym phase_is) (stands_written setup now readings turned.phase b context stands));
        b = with_unsent nothing b;
        context = ap context_in phase_is ∙ context_with turned.phase b (with_unsent nothing b) context;
        unread = unread ∙ sym (ap (λ (x : Reading Refusal). x.rest) r);
        handles = ap length handles ∙ length-append g.b.handles c.piece.handles ∙ ap (λ (n : ℕ). n + length c.piece.handles) g.handles ∙ sym (count_more (pieces_of before) c.piece);
        unsent = refl;
        requests = subst (λ (messages : List Raw). out ++ handed ≡ map (request_in_code messages) (framed setup readings messages)) (sym past_is) o;
        replies = subst (λ (messages : List Raw). written ++ more ≡ all_bytes (replies setup messages)) (sym past_is) w;
      }

  pub few : HasRoom g.b c → handle_count (pieces_of (c ∷ before)) ≤ 4096
  few fits = let count = count_more (pieces_of before) c.piece in omega (arith, count, g.handles, fits)

  -- ---- by what the turn came to

  module _ (handed : List EisRequest) (more : List ℕ) (turned new : EisView) (writes : WritesBehind turned.ending more turned new) where
    last_ending : new.ending ≡ turned.ending
    last_ending = writes_keep turned.ending more turned new writes

    writes_by : (how : Option Ending) → turned.ending ≡ how → WritesBehind how more turned new
    writes_by how is = subst (λ (x : Option Ending). WritesBehind x more turned new) is writes

    abbrev Result : Type 0
    Result = Says setup (c ∷ before) (out ++ handed) (written ++ more) new

    -- what was refused is let go
    let_go : (e : Error) → turned.ending ≡ Some (ending.Refused e) → handed ≡ [] → (session setup (pieces_of (c ∷ before))).handled ≡ past → AnswersAs (session setup (pieces_of (c ∷ before))).answer (Err e) → Result
    let_go e is none same answer =
        let w : (more ≡ []) × (new ≡ turned) = writes_by (Some (ending.Refused e)) is in
        Over (ending.Refused e) (last_ending ∙ is) (λ some. (answer, serves_no_more handed more none w.0 same))

    no_message : HasRoom g.b c → front bytes ≡ Short → turned.ending ≡ None → handed ≡ [] → turned.phase ≡ begun → Result
    no_message fits short going_on none now =
        let w : WritesAll more turned new = writes_by None going_on in
        let quiet : more ≡ [] = w.all ∙ ap (λ (p : Phase). (unsent_in p).bytes) now ∙ begun_unsent in
        Going (last_ending ∙ going_on)
        (goes_with (few fits) past bytes g.readings handed more turned new (read_short (judge setup) past bytes short) same_times
        (subst (λ (p : Phase). StandsFor setup past g.readings p) (sym now) begun_stands) held (ap context_in now ∙ begun_context) (ap (λ (x : List ℕ). x ++ c.piece.bytes) g.unread) refl
        (ap (λ (x : List EisRequest). out ++ x) none ∙ append-nil out ∙ g.requests) (ap (λ (x : List ℕ). written ++ x) quiet ∙ append-nil written ∙ g.replies) w)

    module _ (fits : HasRoom g.b c) (m : Raw) (after : List ℕ) (f : front bytes ≡ Whole m after) (a : Answered setup past m g.readings c.time after begun turned.ending handed turned) (w : WritesAll more turned new) where
      times_now : AreTimes (c ∷ before) (g.readings ++ a.used)
      times_now = (g.readings, a.used, g.times, a.read, refl)

      requests_now : out ++ handed ≡ map (request_in_code (m ∷ past)) (framed setup (g.readings ++ a.used) (m ∷ past))
      requests_now = requests_more setup past m g.readings a.used out handed (enough_readings setup past g.readings old.phase g.stands) g.requests a.requests

      replies_now : written ++ more ≡ all_bytes (replies setup (m ∷ past))
      replies_now = replies_then setup past m written more g.replies (w.all ∙ a.unsent ∙ ap (λ (x : List ℕ). x ++ all_bytes (reply setup past m)) begun_unsent)

      goes_on_by : judge setup past m ≡ Accepted → front after ≡ Short → turned.ending ≡ None → Result
      goes_on_by judged short going_on =
          let b = some_context setup (m ∷ past) (g.readings ++ a.used) turned.phase a.stands in
          Going (last_ending ∙ going_on)
          (goes_with (few fits) (m ∷ past) after (g.readings ++ a.used) handed more turned new
          (read_accepted (judge setup) past bytes m after f judged ∙ read_short (judge setup) (m ∷ past) after short) times_now a.stands b.0 b.1
          (sym (ap unread_of b.1) ∙ a.unread) (sym (ap handles_of b.1) ∙ a.handles ∙ ap handles_of begun_context) requests_now replies_now w)

      disconnects_by : judge setup past m ≡ Final → exhausts past m ≡ false → turned.ending ≡ Some ending.Disconnected → Result
      disconnects_by judged enough is =
          let o = over_with (few fits) (reading (m ∷ past) after Ended) (read_final (judge setup) past bytes m after f judged) refl in
          Over ending.Disconnected (last_ending ∙ is)
          (λ some. (o.0 ∙ ap (λ (b : Bool). cond b IdsExhausted Disconnect) enough, serves_so setup (c ∷ before) (g.readings ++ a.used) (out ++ handed) (written ++ more) (m ∷ past) times_now (count_readings setup (m ∷ past) (g.readings ++ a.used) turned.phase a.stands) o.1 requests_now replies_now))

    last_by : (last : Bool) (fits : HasRoom g.b c) (m : Raw) (after : List ℕ) → front bytes ≡ Whole m after → front after ≡ Short → turned.ending ≡ how_by last → IsLast setup past m last → Answered setup past m g.readings c.time after begun turned.ending handed turned → Result
    last_by true fits m after f short is l a = disconnects_by fits m after f a (writes_by (Some ending.Disconnected) is) l.judged (l.enough refl) is
    last_by false fits m after f short is l a = goes_on_by fits m after f a (writes_by None is) l.judged short is

    pub says : HasOneAtMost bytes → Turned setup past g.readings c old.phase g.b handed turned → Result
    says one (Quiet fits short going_on none now) = no_message fits (at_bytes short) going_on none now
    says one (Answers fits m after last f l is a) = last_by last fits m after (at_bytes f) (one m after (at_bytes f)) is l a
    says one (Refuses fits e why some is none) =
        let x = stops_by setup past bytes e some (subst (λ (u : List ℕ). RefusesSo setup past u e) here why) in
        let o = over_with (few fits) x.r x.is x.stops in
        let_go e is none (o.1 ∙ x.same) (subst (λ (a : Answer). AnswersAs a (Err e)) (sym o.0) x.answer)
    says one (Overflown more_handles is none) =
        let count = count_more (pieces_of before) c.piece in
        let o = too_many_handles_come setup (pieces_of before) c.piece g.goes_on more_room (omega (arith, count, g.handles, more_handles)) in
        let_go error.HandleLimit is none (ap (λ (x : Outcome). x.handled) o) (ap (λ (x : Outcome). x.answer) o)
    says one (Full is) = Over (ending.Refused error.NoMemory) (last_ending ∙ is) (λ some. absurd (some refl))

-- ---- a run

fewer : (pieces : List Piece) (piece : Piece) {n : ℕ} → length (with_next pieces piece) ≤ n → length pieces ≤ n
fewer pieces piece h = let n = length-append pieces (piece ∷ []) in omega (arith, h, n)

runs_more : (setup : Setup) (before : List Came) (c : Came) (out : List EisRequest) (written : List ℕ) (old : EisView) (handed : List EisRequest) (more : List ℕ) (turned new : EisView) → length (pieces_of (c ∷ before)) ≤ setup.pieces → old.ending ≡ None →
    HasOneAtMost (unread_of (context_in old.phase) ++ c.piece.bytes) → Turns setup c old handed turned → WritesBehind turned.ending more turned new → Says setup before out written old → Says setup (c ∷ before) (out ++ handed) (written ++ more) new
runs_more setup before c out written old handed more turned new room going_on one t writes (Going none g) =
    says setup before c out written old g room handed more turned new writes (subst (λ (u : List ℕ). HasOneAtMost (u ++ c.piece.bytes)) (ap unread_of g.context ∙ g.unread) one)
    (turned_by setup (accepted setup (stream (pieces_of before))) g.readings c old g.stands g.b g.context handed turned t one)
runs_more setup before c out written old handed more turned new room going_on one t writes (Over how is f) = let z : None ≡ Some how = sym going_on ∙ is in absurd cc

pub runs : (setup : Setup) → setup.capabilities ≤ all_bits → setup.serial < 2 ^ 32 → (came : List Came) (out : List EisRequest) (written : List ℕ) (e : EisView) → length (pieces_of came) ≤ setup.pieces → Runs setup came out written e → Says setup came out written e
runs setup lawful small [] out written e room r = begins setup lawful small out written e r
runs setup lawful small (c ∷ before) out written e room r =
    subst (λ (x : List EisRequest). Says setup (c ∷ before) x written e) (sym r.out_is)
    (subst (λ (x : List ℕ). Says setup (c ∷ before) (r.out_before ++ r.handed) x e) (sym r.written_is)
    (runs_more setup before c r.out_before r.written_before r.old r.handed r.more r.turned e room r.going r.one r.turns r.writes
    (runs setup lawful small before r.out_before r.written_before r.old (fewer (pieces_of before) c.piece room) r.runs)))
