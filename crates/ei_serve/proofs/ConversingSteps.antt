-- What becomes of the message at the front of a connection, by what was done with it.
use Rattle.std.proofs.Common.{◌≡◌, ◌≤◌, ℕ, zero, suc, Bool, true, false, List, [], ◌∷◌, ◌++◌, take, Option, Some, None}
use Rattle.std.proofs.Common.{Ok, Err, refl, sym, ap, subst, ◌∙◌, arith}
use Rattle.std.specs.Prelude.{map, IsErrOf}
use Rattle.std.proofs.lemmas.List.{append-nil}
use Rattle.ei_spec.specs.declared.handle.Handle.{Handle}
use Rattle.ei_spec.specs.declared.interface.KnownInterface.{KnownInterface}
use Rattle.ei_spec.specs.declared.interface.KnownInterface.TheVariants as known
use Rattle.ei_spec.specs.Message.{Raw, Whole, front, all_bytes}
use Rattle.ei_spec.specs.Piece.{Piece}
use Rattle.ei_spec.specs.Groups.{Timed, Framed, Plain as Given}
use Rattle.ei_spec.specs.Stream.{Reading, read}
use Rattle.ei_spec.proofs.GoesOn.{read_accepted, read_final}
use Rattle.ei_session.specs.Setup.{Setup}
use Rattle.ei_session.specs.Handshake.{connected, version}
use Rattle.ei_session.specs.Devices.{exhausts}
use Rattle.ei_session.specs.Events.{reply, replies}
use Rattle.ei_session.specs.Refusals.{Refusal, refusal, verdict, judge}
use Rattle.ei_session.specs.Requests.{Request, Plain, Bind, RequestDevice, Ready, DeviceClosed, DeviceStartEmulating, DeviceStopEmulating, Disconnect, framed}
use Rattle.ei_session.proofs.AllParts.{replies_more}
use Rattle.ei_session.proofs.KeptByRequests.{fixed_versions, stays_connected}
use Rattle.ei_session.proofs.RunsOut.{exhausting_last}
use Rattle.ei_backend.specs.Outside.{Rose, SinkView, with_more}
use Rattle.ei_backend.specs.Outgoing.{IsPutOf, Went, nothing, sent_front}
use Rattle.ei_backend.specs.Backend.{BackendView, unsent_of, with_unsent}
use Rattle.ei_types.specs.Errors.{error_of_flush}
use Rattle.ei_types.specs.declared.error.Error.{Error}
use Rattle.ei_wire.specs.declared.error.FlushError.{FlushError}
use Rattle.ei_wire.specs.declared.error.FlushError.TheVariants as flush_error
use Rattle.ei_request.specs.declared.event.EisRequest.{EisRequest}
use Rattle.ei_request.specs.declared.event.EisRequest.TheVariants as asked
use Rattle.ei_request.specs.Event.{timed}
use Rattle.ei_request.specs.Keys.{DeviceKey}
use Rattle.ei_request.specs.Connection.{ConnectionView}
use Rattle.ei_request.specs.Converter.{ConverterView}
use Rattle.ei_request.specs.Handling.{bind_of, request_device_of, closed_of, ready_of, start_of, stop_of}
use Rattle.ei_standing.specs.Standing.{TookOne, handed_as, key_by, plain_as}
use Rattle.ei_serve.specs.declared.phase.Phase.TheVariants as phase
use Rattle.ei_serve.specs.Around.{around, no_source}
use Rattle.ei_serve.specs.Standing.{IsConnected, most_capacity}
use Rattle.ei_serve.specs.Steps.{GivesOut, bytes_only, Replies, RepliesInPart, Goes, Breaks, BreaksFull, RefusesStep, HandlesOne, EndsWith}
use Rattle.ei_serve.specs.Wanting.{MayWant}
use Rattle.ei_serve.proofs.Asked.{held_with}
use Rattle.ei_serve.proofs.Puts.{puts_one}
use Rattle.ei_serve.proofs.Going.{replies_none, in_part_none, extends}
use Rattle.ei_serve.proofs.Wanted.{wanted_here, full_of_sink}
use Rattle.ei_serve.proofs.TookBehind.{Gave, Draws}

-- ---- what is handed out, by any versions that agree

key_alike : (v w : KnownInterface → ℕ) (id : ℕ) → ((interface : KnownInterface) → v interface ≡ w interface) → key_by v id ≡ key_by w id
key_alike v w id same = rw (same known.Seat, same known.Device) refl

plain_alike : (v w : KnownInterface → ℕ) → ((interface : KnownInterface) → v interface ≡ w interface) → (y : Plain) → plain_as v y ≡ plain_as w y
plain_alike v w same (Bind seat mask) = ap (λ (key : DeviceKey). bind_of mask key.seat) (key_alike v w 0 same)
plain_alike v w same (RequestDevice seat mask) = ap (λ (key : DeviceKey). request_device_of mask key.seat) (key_alike v w 0 same)
plain_alike v w same (Ready d) = ap ready_of (key_alike v w d same)
plain_alike v w same (DeviceClosed d) = ap closed_of (key_alike v w d same)
plain_alike v w same (DeviceStartEmulating d s n) = ap (start_of s n) (key_alike v w d same)
plain_alike v w same (DeviceStopEmulating d s) = ap (stop_of s) (key_alike v w d same)
plain_alike v w same Disconnect = refl

handed_alike : (v w : KnownInterface → ℕ) → ((interface : KnownInterface) → v interface ≡ w interface) → (r : Request) → handed_as v r ≡ handed_as w r
handed_alike v w same (Timed d i time) = ap (λ (key : DeviceKey). timed key time i) (key_alike v w d same)
handed_alike v w same (Framed d s time) = ap (λ (key : DeviceKey). asked.Frame (record { device = key; last_serial = s; time = time })) (key_alike v w d same)
handed_alike v w same (Given y) = plain_alike v w same y

all_alike : (v w : KnownInterface → ℕ) → ((interface : KnownInterface) → v interface ≡ w interface) → (rs : List Request) → map (handed_as v) rs ≡ map (handed_as w) rs
all_alike v w same [] = refl
all_alike v w same (r ∷ rs) = ap (λ (x : EisRequest). x ∷ map (handed_as v) rs) (handed_alike v w same r) ∙ ap (λ (xs : List EisRequest). handed_as w r ∷ xs) (all_alike v w same rs)

gives_one : (setup : Setup) (past : List Raw) (m : Raw) (times used : List ℕ) (out queue new : List EisRequest) → connected past ≡ true → Gave setup past m times used queue → new ≡ out ++ queue → GivesOut setup past (m ∷ past) times used out new
gives_one setup past m times used out queue new on g e = record {
  more = g.more;
  grown = λ versions are.
      e ∙ ap (λ (q : List EisRequest). out ++ q) (g.queue_is
      ∙ all_alike (version past) versions (λ interface. sym ((fixed_versions past m on).same_version interface) ∙ are (stays_connected past m on) interface) g.more);
  framed_is = g.framed_is;
}

-- ---- on the way to the message

ahead_one : (setup : Setup) (past : List Raw) (rest : List ℕ) (m : Raw) (after : List ℕ) (b : Bool) → front rest ≡ Whole m after → judge setup past m ≡ verdict None b → (more : List Raw) × ((read (judge setup) past rest).past ≡ more ++ (m ∷ past))
ahead_one setup past rest m after false w j =
    let on = extends (judge setup) (m ∷ past) after in
    (on.0, ap (λ (u : Reading Refusal). u.past) (read_accepted (judge setup) past rest m after w j) ∙ on.1)
ahead_one setup past rest m after true w j = ([], ap (λ (u : Reading Refusal). u.past) (read_final (judge setup) past rest m after w j))

-- nothing was given yet, and perhaps a reading taken
pub breaks_early : (setup : Setup) (past : List Raw) (times rest used : List ℕ) (out new : List EisRequest) (took : SinkView) (before after : Option (List ℕ)) → new ≡ out → Draws used before after → Breaks setup past times rest (around no_source out took before) (around no_source new took after)
breaks_early setup past times rest used out new took before after same draws = record {
  reached = past;
  used = used;
  behind = ([], refl);
  ahead = extends (judge setup) past rest;
  gives = record {
    more = [];
    grown = λ versions are. same ∙ sym (append-nil out);
    framed_is = λ later. sym (append-nil (framed setup ((times ++ used) ++ later) past));
  };
  replies = in_part_none setup past took;
  drawn = draws.drawn;
  leaves = draws.leaves;
  least = omega arith;
  most = omega (arith, draws.few);
}

-- for want of memory
pub full_early : (setup : Setup) (past : List Raw) (times rest used : List ℕ) (out new : List EisRequest) (took : SinkView) (before after : Option (List ℕ)) → MayWant setup past rest → new ≡ out → Draws used before after → BreaksFull setup past times rest (around no_source out took before) (around no_source new took after)
unfolding breaks_early
full_early setup past times rest used out new took before after w same draws = record {
  breaks = breaks_early setup past times rest used out new took before after same draws;
  wanted = wanted_here setup past rest w took took;
}

-- ---- what the sink takes

front_of : (n : ℕ) (bytes : List ℕ) (held : Piece) → sent_front n (record { bytes = bytes; handles = [] }) held ≡ with_more (take n bytes) [] held
front_of zero bytes held = refl
front_of (suc n) bytes held = refl

waiting_is : (b : BackendView) (bytes : List ℕ) → b.unsent ≡ bytes → b.unsent_handles ≡ [] → unsent_of b ≡ record { bytes = bytes; handles = [] }
waiting_is b bytes u h = rw (u, h) refl

-- all of the answer, or a front of it
pub all_sent : (setup : Setup) (past : List Raw) (m : Raw) (b : BackendView) (old new : SinkView) → unsent_of b ≡ bytes_only (all_bytes (reply setup past m)) → Went (unsent_of b) (Ok tt) nothing old new → old.wants ≤ new.wants → Replies setup past (m ∷ past) old new
all_sent setup past m b old new w went count = record {
  told = λ held told. (
    reply setup past m,
    replies_more setup past m,
    went.took held told ∙ ap (λ (p : Piece). Some (with_more p.bytes p.handles held)) w,
  );
  puts = puts_one setup past m (all_bytes (reply setup past m)) old.puts new.puts refl (subst (λ (p : Piece). IsPutOf p old.puts new.puts) w went.puts);
  wants = count;
}

pub front_sent : (setup : Setup) (past : List Raw) (m : Raw) (b : BackendView) (waiting : Piece) (f : FlushError) (old new : SinkView) → unsent_of b ≡ bytes_only (all_bytes (reply setup past m)) → Went (unsent_of b) (Err f) waiting old new →
    RepliesInPart setup past (m ∷ past) old new
front_sent setup past m b waiting f old new w went = record {
  told = λ held told.
      let x = went.took held told in (
        reply setup past m,
        x.0,
        replies_more setup past m,
        x.2 ∙ ap (λ (p : Piece). Some (sent_front x.0 p held)) w ∙ ap (λ (p : Piece). Some p) (front_of x.0 (all_bytes (reply setup past m)) held),
      );
  puts = puts_one setup past m (all_bytes (reply setup past m)) old.puts new.puts refl (subst (λ (p : Piece). IsPutOf p old.puts new.puts) w went.puts);
}

-- ---- behind a message that was taken

-- it was taken out of a converter that stands, and what it gives was handed out
pub record Taken (past : List Raw) (rest : List ℕ) (handles : List Handle) (m : Raw) (after : List ℕ) (c : ConverterView) : Type 0 where
  pub front_is : front rest ≡ Whole m after
  pub on : connected past ≡ true
  pub ring : c.handle.ctx.capacity ≤ most_capacity
  pub unread : c.handle.ctx.unread ≡ after
  pub unread_handles : c.handle.ctx.handles ≡ handles
  pub unsent : c.handle.ctx.unsent ≡ []

module _ (setup : Setup) (past : List Raw) (times rest : List ℕ) (handles : List Handle) (m : Raw) (after used : List ℕ) (c : ConverterView) (t : Taken past rest handles m after c)
    (last : Bool) (judged : judge setup past m ≡ verdict None last) (queue : List EisRequest) (gave : Gave setup past m times used queue) (out given : List EisRequest) (grown : given ≡ out ++ queue)
    (before later : Option (List ℕ)) (draws : Draws used before later) where
  given_one : GivesOut setup past (m ∷ past) times used out given
  given_one = gives_one setup past m times used out queue given t.on gave grown

  pub breaks_one : (old new : SinkView) → RepliesInPart setup past (m ∷ past) old new → Breaks setup past times rest (around no_source out old before) (around no_source given new later)
  breaks_one old new r = record {
    reached = m ∷ past;
    used = used;
    behind = (m ∷ [], refl);
    ahead = ahead_one setup past rest m after last t.front_is judged;
    gives = given_one;
    replies = r;
    drawn = draws.drawn;
    leaves = draws.leaves;
    least = omega (arith, gave.frames);
    most = omega (arith, gave.frames);
  }

  pub goes_one : (old new : SinkView) → Replies setup past (m ∷ past) old new → Goes setup past (m ∷ past) times used (around no_source out old before) (around no_source given new later)
  goes_one old new r = record {
    behind = (m ∷ [], refl);
    gives = given_one;
    replies = r;
    drawn = draws.drawn;
    leaves = draws.leaves;
    frames = gave.frames;
  }

  -- the converter that stands for it waits to send its answer
  module _ (end : ConnectionView) (n : ConverterView) (is : n.handle ≡ end) (took : TookOne setup past m times used c n) (same_ring : end.ctx.capacity ≡ c.handle.ctx.capacity) where
    pub to_go : unsent_of end.ctx ≡ record { bytes = all_bytes (reply setup past m); handles = [] }
    to_go =
        waiting_is end.ctx (all_bytes (reply setup past m))
        (ap (λ (x : ConnectionView). x.ctx.unsent) (sym is) ∙ took.unsent ∙ ap (λ (x : List ℕ). x ++ all_bytes (reply setup past m)) t.unsent)
        (ap (λ (x : ConnectionView). x.ctx.unsent_handles) (sym is) ∙ took.held.no_handles)

    sent : ConnectionView
    sent = record end { ctx = with_unsent nothing end.ctx }

    stands_sent : IsConnected setup (m ∷ past) (times ++ used) after handles (record { handle = record end { ctx = with_unsent nothing end.ctx }; queue = [] })
    stands_sent = record {
      held = held_with setup (m ∷ past) (times ++ used) n (record { handle = record end { ctx = with_unsent nothing end.ctx }; queue = [] }) (with_unsent nothing end.ctx) took.held
          (ap (λ (x : ConnectionView). x.ctx.table) (sym is)) (ap (λ (x : ConnectionView). x.ctx.closed) (sym is)) refl (ap (λ (x : ConnectionView). record x { ctx = with_unsent nothing end.ctx }) (sym is));
      ring = subst (λ (k : ℕ). k ≤ most_capacity) (sym same_ring) t.ring;
      unread = ap (λ (x : ConnectionView). x.ctx.unread) (sym is) ∙ took.unread ∙ t.unread;
      unread_handles = ap (λ (x : ConnectionView). x.ctx.handles) (sym is) ∙ took.handles ∙ t.unread_handles;
      unsent = refl;
      queue = refl;
    }

    -- all was sent
    module _ (flushed : ConnectionView) (none : unsent_of flushed.ctx ≡ nothing) (kept : flushed ≡ record end { ctx = with_unsent (unsent_of flushed.ctx) end.ctx }) (old new : SinkView)
        (went : Went (unsent_of end.ctx) (Ok tt) (unsent_of flushed.ctx) old new) (count : old.wants ≤ new.wants) where
      flushed_is : flushed ≡ record end { ctx = with_unsent nothing end.ctx }
      flushed_is = kept ∙ ap (λ (p : Piece). record end { ctx = with_unsent p end.ctx }) none

      replied : Replies setup past (m ∷ past) old new
      replied = all_sent setup past m end.ctx old new to_go (record { took = went.took; puts = went.puts }) count

      pub handles_one : last ≡ false → HandlesOne setup past times rest handles (phase.Connected (record { handle = flushed; queue = [] })) (around no_source out old before) (around no_source given new later)
      handles_one goes_on = record {
        m = m;
        after = after;
        front_is = t.front_is;
        accepted = judged ∙ ap (λ (b : Bool). verdict None b) goes_on;
        used = used;
        stands = subst (λ (x : ConnectionView). IsConnected setup (m ∷ past) (times ++ used) after handles (record { handle = x; queue = [] })) (sym flushed_is) stands_sent;
        goes = goes_one old new replied;
      }

      pub ends_one : last ≡ true → exhausts past m ≡ false → used ≡ [] → EndsWith setup past times rest false (around no_source out old before) (around no_source given new later)
      ends_one ends enough quiet = record {
        m = m;
        after = after;
        front_is = t.front_is;
        final = judged ∙ ap (λ (b : Bool). verdict None b) ends;
        exhausts_is = enough;
        goes = subst (λ (u : List ℕ). Goes setup past (m ∷ past) times u (around no_source out old before) (around no_source given new later)) quiet (goes_one old new replied);
      }

    -- or only a front of it
    pub cut_off : (waiting : Piece) (f : FlushError) (e : Error) (old new : SinkView) → e ≡ error_of_flush f → (IsErrOf {T = Unit {0}} (Err f) flush_error.NoMemory → Rose old.wants new.wants) → Went (unsent_of end.ctx) (Err f) waiting old new →
        RefusesStep setup past times rest e (around no_source out old before) (around no_source given new later)
    cut_off waiting flush_error.WriteFault e old new e_is want told = rw e_is (breaks_one old new (front_sent setup past m end.ctx waiting flush_error.WriteFault old new to_go told))
    cut_off waiting flush_error.NoMemory e old new e_is want told = rw e_is (full_of_sink setup past times rest (around no_source out old before) (around no_source given new later) (breaks_one old new (front_sent setup past m end.ctx waiting flush_error.NoMemory old new to_go told)) (want refl))

-- the ids ran out with it
pub runs_out : (setup : Setup) (past : List Raw) (times rest : List ℕ) (handles : List Handle) (m : Raw) (after used : List ℕ) (c : ConverterView) → Taken past rest handles m after c → (queue : List EisRequest) → Gave setup past m times used queue →
    (out given : List EisRequest) → given ≡ out ++ queue → (before later : Option (List ℕ)) → Draws used before later → (took : SinkView) → refusal setup past m ≡ None → exhausts past m ≡ true → used ≡ [] → reply setup past m ≡ [] →
    EndsWith setup past times rest true (around no_source out took before) (around no_source given took later)
runs_out setup past times rest handles m after used c t queue gave out given grown before later draws took fine out_of quiet silent = record {
  m = m;
  after = after;
  front_is = t.front_is;
  final = exhausting_last setup past m fine out_of;
  exhausts_is = out_of;
  goes = subst (λ (u : List ℕ). Goes setup past (m ∷ past) times u (around no_source out took before) (around no_source given took later)) quiet (record {
    behind = (m ∷ [], refl);
    gives = gives_one setup past m times used out queue given t.on gave grown;
    replies = replies_none setup past (m ∷ past) took (replies_more setup past m ∙ ap (λ (x : List Raw). replies setup past ++ x) silent ∙ append-nil (replies setup past));
    drawn = draws.drawn;
    leaves = draws.leaves;
    frames = gave.frames;
  });
}
