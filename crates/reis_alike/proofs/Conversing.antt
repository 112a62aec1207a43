-- What becomes of the message at the front of a converter that stands.
use Rattle.std.proofs.Common.{◌≡◌, ℕ, Bool, true, false, ◌||◌, List, [], ◌∷◌, map, Option, Some, None, refl, sym, ap, subst, ◌∙◌, inl, inr, arith}
use Rattle.std.specs.Prelude.{find}
use Rattle.std.specs.Option.{option_map}
use Rattle.ei_spec.specs.declared.interface.KnownInterface.TheVariants as known
use Rattle.ei_spec.specs.Interface.{ObjectView}
use Rattle.ei_spec.specs.Message.{Raw, Short, Whole, front}
use Rattle.ei_types.specs.declared.error.Error.{Error}
use Rattle.ei_types.specs.declared.error.Error.TheVariants as error
use Rattle.ei_backend.specs.Outside.{ReadsClock}
use Rattle.ei_backend.specs.Backend.{BackendView, next, Answers}
use Rattle.ei_backend.specs.declared.message.PendingRequestResult.{PendingRequestResult}
use Rattle.ei_backend.specs.declared.message.PendingRequestResult.TheVariants as pending
use Rattle.ei_server.specs.declared.request.Request.{Request}
use Rattle.ei_server.specs.Request.{target_of, opcode_of, values_of}
use Rattle.ei_session.specs.Setup.{Setup}
use Rattle.ei_session.specs.ByMeaning.{callback_in, disconnects}
use Rattle.ei_session.specs.Devices.{exhausts}
use Rattle.ei_session.specs.Meaning.{Shake, Meaning, meaning, Shakes, Syncs, Disconnects, Pongs}
use Rattle.ei_session.specs.Kept.{is_bare, home}
use Rattle.ei_session.specs.Objects.{Entry, object}
use Rattle.ei_session.specs.Refusals.{refusal, verdict, judge}
use Rattle.ei_session.proofs.AskedByMeaning.{its_interface}
use Rattle.ei_session.proofs.Choices.{none_some}
use Rattle.ei_session.proofs.JudgedMeans.{judge_asked}
use Rattle.ei_session.proofs.Placed.{object_placed}
use Rattle.ei_session.proofs.RefusedMeans.{refusal_asked}
use Rattle.ei_request.specs.Held.{SeatView, DeviceView, is_device}
use Rattle.ei_request.specs.Keys.{DeviceKey}
use Rattle.ei_request.specs.Connection.{ConnectionView}
use Rattle.ei_request.specs.Converter.{ConverterView}
use Rattle.ei_request.specs.Handling.{handled, device_in, is_some_waiting, closes_group, Times}
use Rattle.ei_request.specs.Refusing.{refusal as refused_by}
use Rattle.ei_request.specs.Typed.{meaning_of}
use Rattle.ei_standing.specs.Standing.{IsHeld, IsHeldAt, with_table, device_of, refusal_told}
use Rattle.ei_standing.proofs.SameRefusals.{no_shake}
use Rattle.ei_serve.specs.Standing.{IsConnected}
use Rattle.ei_serve.specs.Steps.{Refuses}
use Rattle.ei_serve.proofs.Asked.{View, view, TakenOut, NoObject, waits_by, gone_by, taken_by, held_with, asks_refused}
use Rattle.ei_serve.proofs.TookBehind.{Behind, behind, behind_sync}
use Rattle.reis_eis.specs.declared.ending.Ending.{Ending}
use Rattle.reis_eis.specs.declared.ending.Ending.TheVariants as ending
use Rattle.reis_eis.specs.declared.notice.Notice.{Notice}
use Rattle.reis_eis.specs.Steps.{AnyStep as Step}
use Rattle.reis_eis.specs.Steps as step
use Rattle.reis_eis.specs.Words.{with_ctx}
use Rattle.reis_eis.specs.Keys.{names_device}
use Rattle.reis_eis.specs.Handling.{ends, notice_of, done_by, refused, tells_no_object, TellsNoObject, TakesAt, RefusesAsked, Obeys, DoesRead, Converses}
use Rattle.reis_eis.proofs.Firsts.{find_of}
use Rattle.reis_eis.proofs.Handled.{SameHeld, handled_held}
use Rattle.reis_alike.proofs.Endpoints.{quietly, answers_so}
use Rattle.reis_alike.proofs.Acting.{HasKeysOf}
use Rattle.reis_alike.proofs.Asking.{Stood, Plainly, Syncing, unread_to, held_to, asks_so, stood, refused_so}
use Rattle.reis_alike.proofs.Refusing.{no_handshake, refuses_as}
use Rattle.reis_alike.proofs.Stepping.{how_of}

-- ---- the clock of one message

-- what is left of a time that may be read once
abbrev left_of : Bool → Bool → ℕ → Option (List ℕ)
left_of true true time = Some []
left_of closing waiting time = Some (time ∷ [])

read_once : (time : ℕ) (told : List ℕ) → time ∷ [] ≡ told → ReadsClock told (Some []) time
read_once time told e = subst (λ (x : List ℕ). ReadsClock x (Some []) time) e (record { is = refl; left = refl })

times_of : (closing waiting : Bool) (time : ℕ) → Times closing waiting time (Some (time ∷ [])) (left_of closing waiting time)
times_of true true time = λ told e. let same : time ∷ [] ≡ told = cc in read_once time told same
times_of true false time = refl
times_of false waiting time = refl

-- ---- what became of it

-- the last message is that by which the client disconnects
abbrev pub how_by : Bool → Option Ending
how_by true = Some ending.Disconnected
how_by false = None

-- A request was taken out of a converter that stood, and its requests are queued; what the policy does behind them makes it
-- stand for the message.
pub record Heard (setup : Setup) (past : List Raw) (times : List ℕ) (time : ℕ) (c : ConverterView) (s : Step) (new : ConverterView) : Type 0 where
  pub m : Raw
  pub after : List ℕ
  pub front_is : front c.handle.ctx.unread ≡ Whole m after
  pub out : ConverterView
  pub empty : out.queue ≡ []
  pub unread : out.handle.ctx.unread ≡ after
  pub handles : out.handle.ctx.handles ≡ c.handle.ctx.handles
  pub unsent : out.handle.ctx.unsent ≡ c.handle.ctx.unsent
  pub left : Option (List ℕ)
  pub behind : Behind setup past m times out new (Some (time ∷ [])) left
  pub keys : HasKeysOf past new.handle
  pub e : Entry
  pub x : Meaning
  pub there : object past m.id ≡ Some e
  pub asks : meaning e.interface m ≡ Some x
  pub fine : refusal setup past m ≡ None
  pub held : callback_in (Some x) ≡ None → IsHeld setup past times out
  pub does : new ≡ handled out m.id x time
  pub now_unread : new.handle.ctx.unread ≡ after
  pub last : Bool
  pub how_is : how_of s ≡ how_by last
  pub judged : judge setup past m ≡ verdict None (last || exhausts past m)

pub data Conversed (setup : Setup) (past : List Raw) (times : List ℕ) (time : ℕ) (c : ConverterView) (s : Step) (new : ConverterView) : Type 0 where
  -- there was none
  Waited : front c.handle.ctx.unread ≡ Short → Conversed setup past times time c s new
  Took : Heard setup past times time c s new → Conversed setup past times time c s new
  -- no object has its id
  Told : (m : Raw) → (after : List ℕ) → front c.handle.ctx.unread ≡ Whole m after → object past m.id ≡ None → s ≡ step.Handled → new ≡ tells_no_object (unread_to c after) m.id → Conversed setup past times time c s new
  Refused : (e : Error) → Refuses setup past c.handle.ctx.unread e → (e ≡ error.NoMemory → ⊥) → s ≡ refused e → new.queue ≡ [] → Conversed setup past times time c s new
  -- memory ran out
  Full : s ≡ refused error.NoMemory → Conversed setup past times time c s new

-- what tells something isn't the last
not_last : (id : ℕ) (x : Meaning) (told : Notice) → notice_of id x ≡ Some told → ends x ≡ false
not_last id Disconnects told is = cc
not_last id x told is = refl

without_pong : (c : ConverterView) (id : ℕ) (x : Meaning) (time : ℕ) → ((callback_data : ℕ) → x ≡ Pongs callback_data → ⊥) → done_by c id x time ≡ handled c id x time
without_pong c id (Pongs callback_data) time never = absurd (never callback_data refl)
without_pong c id x time never = refl

same_end : (x : Meaning) → disconnects (Some x) ≡ ends x
same_end Disconnects = refl
same_end x = refl

module _ (setup : Setup) (past : List Raw) (times : List ℕ) (time : ℕ) (c : ConverterView) (h : IsHeld setup past times c) (none : c.queue ≡ []) where
  seen : View setup past c.handle.ctx (next false c.handle.ctx)
  seen = view setup past c.handle.ctx h.server h.peer h.objects

  -- the converter that has nothing to write
  abbrev quiet : ConverterView
  quiet = with_ctx c (quietly c.handle.ctx)

  quiet_stands : IsConnected setup past times c.handle.ctx.unread c.handle.ctx.handles quiet
  quiet_stands = record {
    held = held_with setup past times c quiet (quietly c.handle.ctx) h refl refl h.no_handles refl;
    ring = omega arith;
    unread = refl;
    unread_handles = refl;
    unsent = refl;
    queue = none;
  }

  -- ---- what is held behind it

  keys_by : (id : ℕ) (d : DeviceView) (o : Option DeviceView) → IsHeldAt setup past id o → Some d.device ≡ option_map (λ (x : DeviceView). x.device) o → d.device ≡ device_of past id
  keys_by id d None held e = absurd cc
  keys_by id d (Some x) held e = let same : d.device ≡ x.device = cc in same ∙ held.device

  keys_after : (old new : ConnectionView) → old.seats ≡ c.handle.seats → old.devices ≡ c.handle.devices → SameHeld old new → HasKeysOf past new
  keys_after old new ss_are ds_are same = record {
    seats = same.seats ∙ ap (λ (ss : List SeatView). map (λ s. s.proxy) ss) ss_are ∙ ap (λ (ss : List SeatView). map (λ s. s.proxy) ss) h.seats;
    devices = λ id d f. keys_by id d (find (is_device id) c.handle.devices) (h.devices.each_one id)
        (sym (ap (option_map (λ (x : DeviceView). x.device)) f) ∙ sym (find_of (λ (x : DeviceView). x.device) (names_device id) new.devices)
        ∙ ap (λ (ks : List DeviceKey). find (names_device id) ks) (same.devices ∙ ap (λ (ds : List DeviceView). map (λ d. d.device) ds) ds_are) ∙ find_of (λ (x : DeviceView). x.device) (names_device id) c.handle.devices);
  }

  -- ---- a request

  module _ (b : BackendView) (r : Request) (n : Answers target_of opcode_of values_of (Some (pending.Request r)) b (next false c.handle.ctx)) where
    t : TakenOut past c.handle.ctx r b
    t = taken_by setup past c.handle.ctx b r (next false c.handle.ctx) seen n

    asks : meaning t.e.interface t.m ≡ Some (meaning_of r)
    asks = asks_so setup past times c h b r t n

    no_shaking : (shake : Shake) → meaning_of r ≡ Shakes shake → ⊥
    no_shaking shake is = no_shake setup past t.m times c t.e h t.there shake (asks ∙ ap (λ (x : Meaning). Some x) is)

    -- a server of the fixed policy has no ping, so none is answered
    no_pong : (callback_data : ℕ) → meaning_of r ≡ Pongs callback_data → ⊥
    no_pong callback_data is =
        let i : t.e.interface ≡ known.Pingpong = its_interface t.e.interface t.m (Pongs callback_data) known.Pingpong (asks ∙ ap (λ (x : Meaning). Some x) is) refl in
        none_some t.m.id (sym (ap home i) ∙ (object_placed past t.m.id t.e t.there).at_home (ap is_bare i))

    module _ (new : ConverterView) (taken : TakesAt time (with_ctx c b) r new) where
      fine : refusal setup past t.m ≡ None
      fine = sym (refused_so setup past times c h b r t n) ∙ ap (option_map refusal_told) taken.accepted

      judged : judge setup past t.m ≡ verdict None (ends (meaning_of r) || exhausts past t.m)
      judged =
          judge_asked setup past t.m t.e (meaning_of r) h.connected t.there asks
          ∙ ap (λ (o : Option _). verdict o (disconnects (Some (meaning_of r)) || exhausts past t.m)) (sym (refusal_asked setup past t.m t.e (meaning_of r) t.there asks) ∙ fine)
          ∙ ap (λ (x : Bool). verdict None (x || exhausts past t.m)) (same_end (meaning_of r))

      does_at : new ≡ handled (with_ctx c b) t.m.id (meaning_of r) time
      does_at =
          taken.does ∙ without_pong (with_ctx c b) (target_of r).id (meaning_of r) time no_pong ∙ ap (λ (o : ObjectView). handled (with_ctx c b) o.id (meaning_of r) time) t.target

      keys : HasKeysOf past new.handle
      keys =
          keys_after (with_ctx c b).handle new.handle refl refl
          (subst (λ (x : ConverterView). SameHeld (with_ctx c b).handle x.handle) (sym does_at) (handled_held (with_ctx c b) t.m.id (meaning_of r) time))

      now_unread : new.handle.ctx.unread ≡ t.after
      now_unread =
          (subst (λ (x : ConverterView). SameHeld (with_ctx c b).handle x.handle) (sym does_at) (handled_held (with_ctx c b) t.m.id (meaning_of r) time)).unread
          ∙ ap (λ (x : BackendView). x.unread) t.now

      heard : (s : Step) → how_of s ≡ how_by (ends (meaning_of r)) → Stood setup past times c b t.after (meaning_of r) → Heard setup past times time c s new
      heard s is (Plainly b_is no_callback) =
          let out : ConverterView = unread_to c t.after in
          let closing : Bool = closes_group (meaning_of r) in
          let waits : Bool = is_some_waiting (device_in out t.m.id) in
          let new_is : handled out t.m.id (meaning_of r) time ≡ new = sym (does_at ∙ ap (λ (x : BackendView). handled (with_ctx c x) t.m.id (meaning_of r) time) b_is) in
          record {
            m = t.m;
            after = t.after;
            front_is = t.front_is;
            out = out;
            empty = none;
            unread = refl;
            handles = refl;
            unsent = refl;
            left = left_of closing waits time;
            behind = subst (λ (x : ConverterView). Behind setup past t.m times out x (Some (time ∷ [])) (left_of closing waits time)) new_is
                (behind setup past t.m times out t.e (held_to setup past times c t.after h) t.there none fine (Some (time ∷ [])) (left_of closing waits time) (meaning_of r) time asks no_callback (times_of closing waits time));
            keys = keys;
            e = t.e;
            x = meaning_of r;
            there = t.there;
            asks = asks;
            fine = fine;
            held = λ none. held_to setup past times c t.after h;
            does = sym new_is;
            now_unread = now_unread;
            last = ends (meaning_of r);
            how_is = is;
            judged = judged;
          }
      heard s is (Syncing callback v table b_is announced x) =
          let stood : ConverterView = unread_to c t.after in
          let out : ConverterView = with_table stood table in
          let new_is : handled out t.m.id (Syncs callback.id v) time ≡ new =
          sym (does_at ∙ ap (λ (y : Meaning). handled (with_ctx c b) t.m.id y time) x ∙ ap (λ (y : BackendView). handled (with_ctx c y) t.m.id (Syncs callback.id v) time) b_is) in
          record {
            m = t.m;
            after = t.after;
            front_is = t.front_is;
            out = out;
            empty = none;
            unread = refl;
            handles = refl;
            unsent = refl;
            left = Some (time ∷ []);
            behind = subst (λ (y : ConverterView). Behind setup past t.m times out y (Some (time ∷ [])) (Some (time ∷ []))) new_is
                (behind_sync setup past t.m times stood t.e (held_to setup past times c t.after h) t.there none fine (Some (time ∷ [])) (Some (time ∷ [])) callback v time table (asks ∙ ap (λ (y : Meaning). Some y) x) announced refl);
            keys = keys;
            e = t.e;
            x = Syncs callback.id v;
            there = t.there;
            asks = asks ∙ ap (λ (y : Meaning). Some y) x;
            fine = fine;
            held = λ none. absurd cc;
            does = sym new_is;
            now_unread = now_unread;
            last = ends (meaning_of r);
            how_is = is;
            judged = judged;
          }

      takes : (s : Step) → how_of s ≡ how_by (ends (meaning_of r)) → Conversed setup past times time c s new
      takes s is = Took (heard s is (stood setup past times c h b r t n))

    refuses : (e : Error) (new : ConverterView) → (e ≡ error.NoMemory → ⊥) → RefusesAsked e (with_ctx c b) r new → Conversed setup past times time c (refused e) new
    refuses e new some x =
        Refused e
        (refuses_as setup past c.handle.ctx.unread t.m t.after (refused_by (with_ctx c b).handle (target_of r).id (target_of r).version (meaning_of r)) e t.front_is (refused_so setup past times c h b r t n)
        (no_handshake (with_ctx c b).handle (target_of r).id (target_of r).version (meaning_of r) no_shaking) some x.why)
        some refl (ap (λ (d : ConverterView). d.queue) x.same ∙ none)

    refuses_by : (e : Error) (new : ConverterView) → RefusesAsked e (with_ctx c b) r new → Conversed setup past times time c (refused e) new
    refuses_by error.NoMemory new x = Full refl
    refuses_by e new x = refuses e new (λ z. cc) x

    obeys : (s : Step) (new : ConverterView) → Obeys time (with_ctx c b) r s new → Conversed setup past times time c s new
    obeys step.Waiting new o = absurd o
    obeys step.Handled new o = takes new o.2 step.Handled (ap how_by (sym o.0))
    obeys (step.Noted told) new o = takes new o.1 (step.Noted told) (ap how_by (sym (not_last (target_of r).id (meaning_of r) told o.0)))
    obeys (step.Ended ending.Disconnected) new o = takes new o.1 (step.Ended ending.Disconnected) (ap how_by (sym o.0))
    obeys (step.Ended ending.End) new o = absurd o
    obeys (step.Ended ending.Told) new o = absurd o
    obeys (step.Ended (ending.Refused e)) new o = refuses_by e new o

  -- ---- whatever was read

  gone : (id : ℕ) (b : BackendView) (s : Step) (new : ConverterView) → Answers target_of opcode_of values_of (Some (pending.InvalidObject id)) b (next false c.handle.ctx) → TellsNoObject (with_ctx c b) id s new → Conversed setup past times time c s new
  gone id b step.Handled new n told =
      let g : NoObject past c.handle.ctx id b = gone_by setup past c.handle.ctx b id (next false c.handle.ctx) seen n in
      Told g.m g.after g.front_is g.none refl (told ∙ ap (λ (x : BackendView). tells_no_object (with_ctx c x) id) g.now ∙ ap (tells_no_object (unread_to c g.after)) g.id_is)
  gone id b step.Waiting new n told = Full told.0
  gone id b (step.Noted given) new n told = Full told.0
  gone id b (step.Ended e) new n told = Full told.0

  reads : (said : Option (PendingRequestResult Request)) (b : BackendView) (s : Step) (new : ConverterView) → Answers target_of opcode_of values_of said b (next false c.handle.ctx) → DoesRead time (with_ctx c b) said s new → Conversed setup past times time c s new
  reads None b s new n does = Waited (waits_by setup past c.handle.ctx b (next false c.handle.ctx) seen n).0
  reads (Some (pending.Request r)) b s new n does = obeys b r n s new does
  reads (Some (pending.ParseError e)) b s new n does =
      Refused (error.Parse e) (asks_refused setup past times c.handle.ctx.unread c.handle.ctx.handles quiet (quietly b) quiet_stands e (answers_so (Some (pending.ParseError e)) c.handle.ctx b n)) (λ z. cc) does.0 (ap (λ (d : ConverterView). d.queue) does.1 ∙ none)
  reads (Some (pending.InvalidObject id)) b s new n does = gone id b s new n does

  pub conversed : (s : Step) (new : ConverterView) → Converses time c s new → Conversed setup past times time c s new
  conversed s new (inl r) = reads r.said r.ctx s new r.reads r.does
  conversed s new (inr full) = Full full.0
