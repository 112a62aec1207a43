-- What becomes of the message at the front during the handshake.
use Rattle.std.proofs.Common.{◌≡◌, ◌≤◌, ℕ, Bool, true, false, cond, List, [], ◌∷◌, ◌++◌, Option, Some, None, Result, Ok, Err, refl, sym, ap, subst, ◌∙◌, inl, inr, append_assoc, arith}
use Rattle.ei_spec.specs.declared.handle.Handle.{Handle}
use Rattle.ei_spec.specs.Interface.{ObjectView}
use Rattle.ei_spec.specs.Message.{Raw, Short, Whole, front, all_bytes}
use Rattle.ei_spec.specs.Stream.{Accepted}
use Rattle.ei_types.specs.declared.error.Error.{Error}
use Rattle.ei_types.specs.declared.error.Error.TheVariants as error
use Rattle.ei_types.specs.declared.error.HandshakeError.TheVariants as handshake_error
use Rattle.ei_backend.specs.Table.{own_end}
use Rattle.ei_backend.specs.Endpoint.{Endpoint}
use Rattle.ei_backend.specs.Backend.{BackendView, next, Answers}
use Rattle.ei_backend.specs.declared.message.PendingRequestResult.{PendingRequestResult}
use Rattle.ei_backend.specs.declared.message.PendingRequestResult.TheVariants as pending
use Rattle.ei_server.specs.declared.request.Request.{Request}
use Rattle.ei_server.specs.declared.request.Request.TheVariants as request
use Rattle.ei_server.specs.declared.handshake.Request.{Request as Asked}
use Rattle.ei_server.specs.declared.handshake.Request.TheVariants as asked
use Rattle.ei_server.specs.Request.{target_of, opcode_of, values_of}
use Rattle.ei_session.specs.Setup.{Setup, connection_id}
use Rattle.ei_session.specs.Handshake.{connected, is_finish, is_the_finish, settled}
use Rattle.ei_session.specs.Refusals.{judge}
use Rattle.ei_session.specs.Replies.{settled_events, connection_event}
use Rattle.ei_handshake.specs.Handshaker.{HandshakerView, Handles, KeepsButFinish, Completes, RefusesFinish, RefusesTold, IsSecond, is_repeated, kept_events, sends, hands_over}
use Rattle.ei_handshake.specs.declared.server.EisHandshakeResp.{EisHandshakeResp}
use Rattle.ei_standing.specs.Standing.{HandedOver}
use Rattle.ei_standing.proofs.FirstHeld.{handed_so}
use Rattle.ei_serve.specs.Standing.{ShakesHands}
use Rattle.ei_serve.specs.Steps.{Refuses, AsksToFinish, HandsOver}
use Rattle.ei_serve.proofs.Endpoints.{memory_of}
use Rattle.ei_serve.proofs.ShakingSteps.{IsFront, waits, unreadable, gone, brings_request, handled_at, finish_at, completed, missing, refused_keeping}
use Rattle.reis_eis.specs.declared.shaking.Shaking.{Shaking}
use Rattle.reis_eis.specs.Steps.{AnyShaken as Shaken}
use Rattle.reis_eis.specs.Steps.{AnyStep as Step}
use Rattle.reis_eis.specs.Steps as step
use Rattle.reis_eis.specs.declared.phase.Phase.{Phase}
use Rattle.reis_eis.specs.declared.phase.Phase.TheVariants as phase
use Rattle.reis_eis.specs.Words.{shaking_with}
use Rattle.reis_eis.specs.Handling.{refused, failed, shaken_by, ShakesRead, Shakes, connected_by, GoesOver, ShakesOn}
use Rattle.reis_alike.specs.Standing.{IsShaking}
use Rattle.reis_alike.proofs.Endpoints.{quietly, answers_so, unsent_stays}

-- ---- what became of it

-- it was kept, and the handshake goes on
pub record KeptOn (setup : Setup) (past : List Raw) (h new : Shaking) : Type 0 where
  pub m : Raw
  pub after : List ℕ
  pub front_is : front h.context.unread ≡ Whole m after
  pub judged : judge setup past m ≡ Accepted
  pub other : is_finish m ≡ false
  pub stands : IsShaking setup (m ∷ past) new
  pub unread : new.context.unread ≡ after
  pub handles : new.context.handles ≡ h.context.handles
  pub unsent : new.context.unsent ≡ h.context.unsent

-- it was the finish, and the connection is handed over
pub record Finished (setup : Setup) (past : List Raw) (h new : Shaking) (resp : EisHandshakeResp) : Type 0 where
  pub m : Raw
  pub after : List ℕ
  pub front_is : front h.context.unread ≡ Whole m after
  pub judged : judge setup past m ≡ Accepted
  pub finish : is_the_finish past m ≡ true
  pub over : HandedOver past resp new.context
  pub serial : new.initial_serial ≡ setup.serial
  pub unread : new.context.unread ≡ after
  pub handles : new.context.handles ≡ h.context.handles
  pub unsent : new.context.unsent ≡ h.context.unsent ++ all_bytes (settled_events 0 (settled past) ++ connection_event 0 setup.serial connection_id ∷ [])

pub data Shook (setup : Setup) (past : List Raw) (h : Shaking) (s : Step) (new : Phase) : Type 0 where
  -- there was none
  Waited : front h.context.unread ≡ Short → Shook setup past h s new
  Kept : (k : Shaking) → KeptOn setup past h k → s ≡ step.Handled → new ≡ phase.Shaking k → Shook setup past h s new
  Done : (k : Shaking) → (resp : EisHandshakeResp) → Finished setup past h k resp → s ≡ step.Handled → new ≡ phase.Standing (connected_by k resp) → Shook setup past h s new
  Refused : (e : Error) → (k : Shaking) → Refuses setup past h.context.unread e → (e ≡ error.NoMemory → ⊥) → s ≡ refused e → new ≡ phase.Shaking k → Shook setup past h s new
  -- memory ran out
  Full : s ≡ refused error.NoMemory → Shook setup past h s new

-- ---- with something to write, and with nothing

-- a handshake that shakes hands with nothing to write does so with something
opened : (setup : Setup) (past : List Raw) (after : List ℕ) (handles : List Handle) (k : Shaking) → ShakesHands setup past after handles (quietly k.context) k.handshaker → k.initial_serial ≡ setup.serial → IsShaking setup past k
opened setup past after handles k s serial = record {
  unfinished = s.unfinished;
  lawful = s.lawful;
  in_range = s.in_range;
  endpoint = ap (λ (e : Endpoint). record e { unread = k.context.unread; handles = k.context.handles; unsent = k.context.unsent }) s.endpoint;
  initial_serial = serial;
  serial = s.serial;
  versions = s.versions;
  name = s.name;
  context_type = s.context_type;
}

the_finish : (before : List Raw) (m : Raw) → connected before ≡ false → is_finish m ≡ true → is_the_finish before m ≡ true
unfolding is_the_finish
the_finish before m c e = rw (e, c) refl

-- what is told is kept, whatever the endpoint
told_on : (h : HandshakerView) (b : BackendView) (r : Request) (new : HandshakerView) (sent : BackendView) → Handles h b r (Ok None) new sent → KeepsButFinish h r (Ok None) new × (sent ≡ b)
told_on h b (request.Handshake proxy asked.Finish) new sent d = absurd d
told_on h b (request.Handshake proxy (asked.HandshakeVersion version)) new sent d = (λ x. (d.0, d.1, refl), d.2)
told_on h b (request.Handshake proxy (asked.ContextType kind)) new sent d = (λ x. (d.0, d.1, refl), d.2)
told_on h b (request.Handshake proxy (asked.Name name)) new sent d = (λ x. (d.0, d.1, refl), d.2)
told_on h b (request.Handshake proxy (asked.InterfaceVersion name version)) new sent d = (λ x. (d.0, d.1, refl), d.2)
told_on h b other new sent d = absurd d

module _ (setup : Setup) (past : List Raw) (h : Shaking) (i : IsShaking setup past h) where
  abbrev rest : List ℕ
  rest = h.context.unread

  abbrev handles : List Handle
  handles = h.context.handles

  shakes : ShakesHands setup past rest handles (quietly h.context) h.handshaker
  shakes = record {
    unfinished = i.unfinished;
    lawful = i.lawful;
    in_range = i.in_range;
    ring = omega arith;
    endpoint = ap (λ (e : Endpoint). record e { unsent = [] }) i.endpoint;
    serial = i.serial;
    versions = i.versions;
    name = i.name;
    context_type = i.context_type;
  }

  -- ---- a request

  module _ (b : BackendView) (r : Request) (n : Answers target_of opcode_of values_of (Some (pending.Request r)) b (next false h.context)) (f : IsFront rest handles (memory_of (quietly h.context)) (quietly b) r) where
    same_unsent : b.unsent ≡ h.context.unsent
    same_unsent = unsent_stays r h.context b n

    -- it is kept
    keeps : (new : Shaking) → Handles h.handshaker b r (Ok None) new.handshaker new.context → new.initial_serial ≡ h.initial_serial → KeptOn setup past h new
    keeps new d serial =
        let k = told_on h.handshaker b r new.handshaker new.context d in
        let x = handled_at setup past rest handles (quietly h.context) h.handshaker shakes (quietly b) r None new.handshaker f refl k.0 in
        let s : ShakesHands setup (x.0 ∷ past) x.1 handles (quietly new.context) new.handshaker = subst (λ (c : BackendView). ShakesHands setup (x.0 ∷ past) x.1 handles (quietly c) new.handshaker) (sym k.1) x.5 in
        record {
          m = x.0;
          after = x.1;
          front_is = x.2;
          judged = x.3;
          other = x.4;
          stands = opened setup (x.0 ∷ past) x.1 handles new s (serial ∙ i.initial_serial);
          unread = ap (λ (e : Endpoint). e.unread) s.endpoint;
          handles = ap (λ (e : Endpoint). e.handles) s.endpoint;
          unsent = ap (λ (c : BackendView). c.unsent) k.1 ∙ same_unsent;
        }

  -- ---- the finish

  module _ (b : BackendView) (proxy : ObjectView) (n : Answers target_of opcode_of values_of (Some (pending.Request (request.Handshake proxy asked.Finish))) b (next false h.context))
      (f : IsFront rest handles (memory_of (quietly h.context)) (quietly b) (request.Handshake proxy asked.Finish)) where
    asks : AsksToFinish setup past rest handles proxy (quietly b) h.handshaker
    asks = finish_at setup past rest handles (quietly h.context) h.handshaker shakes (quietly b) (request.Handshake proxy asked.Finish) (Some proxy) proxy h.handshaker f refl (refl, refl)

    same_unread : b.unread ≡ asks.after
    same_unread = ap (λ (e : Endpoint). e.unread) asks.stands.endpoint

    same_handles : b.handles ≡ handles
    same_handles = ap (λ (e : Endpoint). e.handles) asks.stands.endpoint

    -- what it sends beyond what waited
    abbrev more : List ℕ
    more = (hands_over (sends (quietly b) (kept_events proxy.id h.handshaker.versions)) proxy.id h.handshaker.serial).unsent

    module _ (resp : EisHandshakeResp) (new : HandshakerView) (sent : BackendView) (d : Completes proxy.id h.handshaker b resp new sent) where
      abbrev sent_quietly : BackendView
      sent_quietly = record sent { unsent = more; capacity = 0 }

      completes : Completes proxy.id h.handshaker (quietly b) resp new sent_quietly
      completes = record {
        complete = d.complete;
        ids = d.ids;
        connection = d.connection;
        name = d.name;
        context_type = d.context_type;
        versions = d.versions;
        empty = d.empty;
        events = ap (λ (e : Endpoint). record e { unsent = more }) d.events;
      }

      done : (judge setup past asks.m ≡ Accepted) × HandsOver setup past asks.after handles resp sent_quietly
      done = completed setup past rest handles proxy (quietly b) h.handshaker asks resp new sent_quietly refl completes

      over : HandedOver past resp sent
      over = handed_so past resp sent sent.unsent asks.after handles done.1.connection done.1.name done.1.versions (ap (λ (e : Endpoint). record e { unsent = sent.unsent }) done.1.endpoint)

      waits_more : sent.unsent ≡ h.context.unsent ++ all_bytes (settled_events 0 (settled past) ++ connection_event 0 setup.serial connection_id ∷ [])
      waits_more =
          ap (λ (e : Endpoint). e.unsent) d.events
          ∙ append_assoc b.unsent (all_bytes (kept_events proxy.id h.handshaker.versions)) (all_bytes (connection_event proxy.id h.handshaker.serial b.table.next_own ∷ []))
          ∙ ap (λ (x : List ℕ). b.unsent ++ x) (ap (λ (e : Endpoint). e.unsent) done.1.endpoint)
          ∙ ap (λ (x : List ℕ). x ++ all_bytes (settled_events 0 (settled past) ++ connection_event 0 setup.serial connection_id ∷ [])) (unsent_stays (request.Handshake proxy asked.Finish) h.context b n)

    finishes : (new : Shaking) (resp : EisHandshakeResp) → Completes proxy.id h.handshaker b resp new.handshaker new.context → new.initial_serial ≡ h.initial_serial → Finished setup past h new resp
    finishes new resp d serial = record {
      m = asks.m;
      after = asks.after;
      front_is = asks.front_is;
      judged = (done resp new.handshaker new.context d).0;
      finish = the_finish past asks.m i.unfinished asks.finish_is;
      over = over resp new.handshaker new.context d;
      serial = serial ∙ i.initial_serial;
      unread = ap (λ (e : Endpoint). e.unread) d.events ∙ same_unread;
      handles = ap (λ (e : Endpoint). e.handles) d.events ∙ same_handles;
      unsent = waits_more resp new.handshaker new.context d;
    }

    id_left : own_end b.table ≤ b.table.next_own → ⊥
    id_left few =
        let next_is : b.table.next_own ≡ 18374686479671623680 = ap (λ (e : Endpoint). e.next_own) asks.stands.endpoint in
        let end_is : own_end b.table ≡ 18446744073709551615 = ap (λ (c : Bool). cond c 18374686479671623680 18446744073709551615) (ap (λ (e : Endpoint). e.client) asks.stands.endpoint) in
        absurd (omega (arith, few, next_is, end_is))

    fails : (e : Error) (new : HandshakerView) (sent : BackendView) → (e ≡ error.NoMemory → ⊥) → RefusesFinish e proxy.id h.handshaker b new sent → Refuses setup past rest e
    fails error.NoMemory new sent some d = absurd (some refl)
    fails (error.Handshake handshake_error.MissingInterface) new sent some d = missing setup past rest handles proxy (quietly b) h.handshaker asks d.0
    fails error.IdsExhausted new sent some d = absurd (id_left d.1)
    fails e new sent some d = absurd d

  -- ---- how a request is refused

  module _ (b : BackendView) where
    told_twice : (r : Request) (a : Asked) (e : Error) (new : HandshakerView) (sent : BackendView) → IsFront rest handles (memory_of (quietly h.context)) (quietly b) r → ((x : BackendView) → RefusesTold e h.handshaker x a new x → Handles h.handshaker x r (Err e) new x) →
        RefusesTold e h.handshaker b a new sent → Refuses setup past rest e
    told_twice r a e new sent f to d =
        refused_keeping setup past rest handles (quietly h.context) h.handshaker shakes (quietly b) r e new (λ z. subst (λ (x : Error). IsSecond (is_repeated h.handshaker a) x) z d.0) f
        (λ x. to x (d.0, record { handshaker = d.1.handshaker; endpoint = refl }))

    refuses : (r : Request) (e : Error) (new : HandshakerView) (sent : BackendView) → Answers target_of opcode_of values_of (Some (pending.Request r)) b (next false h.context) → IsFront rest handles (memory_of (quietly h.context)) (quietly b) r → (e ≡ error.NoMemory → ⊥) →
        Handles h.handshaker b r (Err e) new sent → Refuses setup past rest e
    refuses (request.Handshake proxy asked.Finish) e new sent n f some d = fails b proxy n f e new sent some d
    refuses (request.Handshake proxy (asked.HandshakeVersion version)) e new sent n f some d = told_twice (request.Handshake proxy (asked.HandshakeVersion version)) (asked.HandshakeVersion version) e new sent f (λ x y. y) d
    refuses (request.Handshake proxy (asked.ContextType kind)) e new sent n f some d = told_twice (request.Handshake proxy (asked.ContextType kind)) (asked.ContextType kind) e new sent f (λ x y. y) d
    refuses (request.Handshake proxy (asked.Name name)) e new sent n f some d = told_twice (request.Handshake proxy (asked.Name name)) (asked.Name name) e new sent f (λ x y. y) d
    refuses (request.Handshake proxy (asked.InterfaceVersion name version)) e new sent n f some d = told_twice (request.Handshake proxy (asked.InterfaceVersion name version)) (asked.InterfaceVersion name version) e new sent f (λ x y. y) d
    refuses other e new sent n f some d = absurd f

    -- ---- what is done with it

    done_by : (r : Request) (resp : EisHandshakeResp) (new : Shaking) → Answers target_of opcode_of values_of (Some (pending.Request r)) b (next false h.context) → IsFront rest handles (memory_of (quietly h.context)) (quietly b) r →
        Handles h.handshaker b r (Ok (Some resp)) new.handshaker new.context → new.initial_serial ≡ h.initial_serial → Finished setup past h new resp
    done_by (request.Handshake proxy asked.Finish) resp new n f d serial = finishes b proxy n f new resp d serial
    done_by (request.Handshake proxy (asked.HandshakeVersion version)) resp new n f d serial = absurd d
    done_by (request.Handshake proxy (asked.ContextType kind)) resp new n f d serial = absurd d
    done_by (request.Handshake proxy (asked.Name name)) resp new n f d serial = absurd d
    done_by (request.Handshake proxy (asked.InterfaceVersion name version)) resp new n f d serial = absurd d
    done_by other resp new n f d serial = absurd d

    fails_by : (r : Request) (e : Error) (k : Shaking) (s : Step) (new : Phase) → Answers target_of opcode_of values_of (Some (pending.Request r)) b (next false h.context) → IsFront rest handles (memory_of (quietly h.context)) (quietly b) r →
        Handles h.handshaker b r (Err e) k.handshaker k.context → s ≡ refused e → new ≡ phase.Shaking k → Shook setup past h s new
    fails_by r error.NoMemory k s new n f d is now = Full is
    fails_by r e k s new n f d is now = Refused e k (refuses r e k.handshaker k.context n f (λ z. cc) d) (λ z. cc) is now

    answered : (r : Request) (answer : Result (Option EisHandshakeResp) Error) (k : Shaking) (s : Step) (new : Phase) → Answers target_of opcode_of values_of (Some (pending.Request r)) b (next false h.context) → IsFront rest handles (memory_of (quietly h.context)) (quietly b) r →
        Handles h.handshaker b r answer k.handshaker k.context → k.initial_serial ≡ h.initial_serial → GoesOver (shaken_by answer) k s new → Shook setup past h s new
    answered r (Ok None) k s new n f d serial g = Kept k (keeps b r n f k d serial) g.0 g.1
    answered r (Ok (Some resp)) k s new n f d serial g = Done k resp (done_by r resp k n f d serial) g.0 g.1
    answered r (Err e) k s new n f d serial g = fails_by r e k s new n f d g.0 g.1

  -- ---- whatever was read

  said_so : (said : Option (PendingRequestResult Request)) (b : BackendView) → Answers target_of opcode_of values_of said b (next false h.context) → Answers target_of opcode_of values_of said (quietly b) (next false (quietly h.context))
  said_so said b n = answers_so said h.context b n

  fails_so : (e : Error) (came : Shaken) (k : Shaking) (s : Step) (new : Phase) → Refuses setup past rest e → (e ≡ error.NoMemory → ⊥) → came ≡ failed e → GoesOver came k s new → Shook setup past h s new
  fails_so e came k s new r some is g =
      let x : GoesOver (failed e) k s new = subst (λ (y : Shaken). GoesOver y k s new) is g in
      Refused e k r some x.0 x.1

  reads : (said : Option (PendingRequestResult Request)) (b : BackendView) (came : Shaken) (k : Shaking) (s : Step) (new : Phase) → Answers target_of opcode_of values_of said b (next false h.context) → ShakesRead (shaking_with h b) said came k → GoesOver came k s new → Shook setup past h s new
  reads None b came k s new n does g = Waited (waits setup past rest handles (quietly h.context) (quietly b) h.handshaker None shakes refl (said_so None b n)).0
  reads (Some (pending.Request r)) b came k s new n does g =
      answered b r does.answer k s new n
      (brings_request setup past rest handles (quietly h.context) (quietly b) h.handshaker (Some (pending.Request r)) (pending.Request r) r shakes refl refl (said_so (Some (pending.Request r)) b n))
      does.handles does.serial (subst (λ (y : Shaken). GoesOver y k s new) does.shaken g)
  reads (Some (pending.ParseError e)) b came k s new n does g =
      fails_so (error.Parse e) came k s new
      (unreadable setup past rest handles (quietly h.context) (quietly b) h.handshaker (Some (pending.ParseError e)) (pending.ParseError e) e shakes refl refl (said_so (Some (pending.ParseError e)) b n)) (λ z. cc) does.0 g
  reads (Some (pending.InvalidObject id)) b came k s new n does g =
      fails_so (error.Handshake (handshake_error.InvalidObject id)) came k s new
      (gone setup past rest handles (quietly h.context) (quietly b) h.handshaker (Some (pending.InvalidObject id)) (pending.InvalidObject id) id shakes refl refl (said_so (Some (pending.InvalidObject id)) b n)) (λ z. cc) does.0 g

  pub shook : (s : Step) (new : Phase) → ShakesOn h s new → Shook setup past h s new
  shook s new x = by x.shakes x.goes
    where
      by : Shakes h x.came x.after → GoesOver x.came x.after s new → Shook setup past h s new
      by (inl r) g = reads r.said r.ctx x.came x.after s new r.reads r.does g
      by (inr full) g = let y : GoesOver (failed error.NoMemory) x.after s new = subst (λ (c : Shaken). GoesOver c x.after s new) full.0 g in Full y.0
