-- A message that is taken, and what the program does behind it.
use Rattle.std.proofs.Common.{◌≡◌, ℕ, ◌≤◌, Bool, true, false, ◌||◌, List, [], ◌∷◌, ◌++◌, length, map, Option, Some, None, refl, sym, ap, subst, ◌∙◌, inl, inr, append_assoc, arith}
use Rattle.std.proofs.lemmas.List.{append-nil, append_cancel_left}
use Rattle.std.proofs.lemmas.Grind.{flat_map-append}
use Rattle.ei_spec.specs.declared.handle.Handle.{Handle}
use Rattle.ei_spec.specs.Message.{Raw, Short, Whole, front, bytes_of, all_bytes}
use Rattle.ei_spec.specs.History.{each}
use Rattle.ei_spec.specs.Groups.{gives}
use Rattle.ei_spec.specs.Stream.{Accepted}
use Rattle.ei_types.specs.declared.error.Error.{Error}
use Rattle.ei_types.specs.declared.error.Error.TheVariants as error
use Rattle.ei_backend.specs.Backend.{BackendView}
use Rattle.ei_session.specs.Setup.{Setup, connection_id}
use Rattle.ei_session.specs.Handshake.{settled, is_finish, is_the_finish}
use Rattle.ei_session.specs.Devices.{exhausts}
use Rattle.ei_session.specs.Objects.{object}
use Rattle.ei_session.specs.Refusals.{verdict, judge}
use Rattle.ei_session.specs.Replies.{settled_events, connection_event}
use Rattle.ei_session.specs.Requests.{slot, framed}
use Rattle.ei_session.specs.Events.{reply}
use Rattle.ei_session.proofs.AllParts.{framed_more}
use Rattle.ei_session.proofs.BeforeTheFinish.{early_item, early_reply}
use Rattle.ei_session.proofs.GivenByItem.{gives_none}
use Rattle.ei_session.proofs.JudgedMeans.{judge_unknown}
use Rattle.ei_session.proofs.ReplyLaws.{reply_finish}
use Rattle.ei_request.specs.declared.event.EisRequest.{EisRequest}
use Rattle.ei_request.specs.Connection.{ConnectionView, new_connection}
use Rattle.ei_request.specs.Converter.{ConverterView}
use Rattle.ei_request.specs.Making.{AddsSeat}
use Rattle.ei_request.specs.Handling.{set_of}
use Rattle.ei_handshake.specs.declared.server.EisHandshakeResp.{EisHandshakeResp}
use Rattle.ei_standing.specs.Standing.{IsHeld, TookOne, request_in_code, seat_events, tells_no_object}
use Rattle.ei_standing.proofs.ConnectionMessages.{after_unknown}
use Rattle.ei_standing.proofs.FirstHeld.{finish_is, held_first, unsent_first, unread_first, handles_first}
use Rattle.ei_serve.specs.Around.{first_readings}
use Rattle.ei_serve.specs.Steps.{Refuses}
use Rattle.ei_serve.proofs.Asked.{held_with}
use Rattle.ei_serve.proofs.TookBehind.{Behind}
use Rattle.reis_eis.specs.declared.ending.Ending.{Ending}
use Rattle.reis_eis.specs.declared.shaking.Shaking.{Shaking}
use Rattle.reis_eis.specs.Steps.{AnyStep as Step}
use Rattle.reis_eis.specs.declared.phase.Phase.{Phase}
use Rattle.reis_eis.specs.declared.phase.Phase.TheVariants as phase
use Rattle.reis_eis.specs.View.{EisView}
use Rattle.reis_eis.specs.Words.{context_in, unread_of, unsent_in, queue_in}
use Rattle.reis_eis.specs.Handling.{refused, connected_by, Steps}
use Rattle.reis_eis.specs.Acting.{AddsSeatAs}
use Rattle.ei_input.specs.Queue.{first_of}
use Rattle.reis_alike.specs.Standing.{IsShaking, IsStanding, StandsFor}
use Rattle.reis_alike.specs.Program.{AddsTheSeat, AddsSeatBehind, TakesOut}
use Rattle.reis_alike.specs.Alike.{IsReadAt}
use Rattle.reis_alike.proofs.Giving.{IsGiven, is_given}
use Rattle.reis_alike.proofs.Acting.{Beside, takes_so, acts_in}
use Rattle.reis_alike.proofs.Asking.{unread_to, held_to}
use Rattle.reis_alike.proofs.Stepping.{how_of}
use Rattle.reis_alike.proofs.Conversing.{Heard, Conversed, Waited, Took, Told, Refused, Full, how_by, conversed}
use Rattle.reis_alike.proofs.Shaking.{KeptOn, Finished, Shook, shook}
use Rattle.reis_alike.proofs.Shaking.{Waited as NothingCame, Kept, Done, Refused as Failed, Full as NoMemory}

-- the handles that came and are not read yet
abbrev pub handles_of : Option BackendView → List Handle
handles_of None = []
handles_of (Some b) = b.handles

-- ---- what comes of a message

-- it was taken and answered
pub record Answered (setup : Setup) (past : List Raw) (m : Raw) (times : List ℕ) (time : ℕ) (after : List ℕ) (old : Phase) (how : Option Ending) (handed : List EisRequest) (new : EisView) : Type 0 where
  pub used : List ℕ
  pub read : IsReadAt time used
  pub stands : StandsFor setup (m ∷ past) (times ++ used) new.phase
  pub requests : (later : List ℕ) → handed ≡ map (request_in_code past) (gives ((times ++ used) ++ later) (each (slot setup) past) (slot setup past m))
  pub unsent : (unsent_in new.phase).bytes ≡ (unsent_in old).bytes ++ all_bytes (reply setup past m)
  pub unread : unread_of (context_in new.phase) ≡ after
  pub handles : handles_of (context_in new.phase) ≡ handles_of (context_in old)
  pub ending : new.ending ≡ how

-- it isn't refused, and is the last where the client disconnects by it
pub record IsLast (setup : Setup) (past : List Raw) (m : Raw) (last : Bool) : Type 0 where
  pub judged : judge setup past m ≡ verdict None last
  pub enough : last ≡ true → exhausts past m ≡ false

goes_on : {setup : Setup} {past : List Raw} {m : Raw} → judge setup past m ≡ Accepted → IsLast setup past m false
goes_on j = record { judged = j; enough = λ last. let z : false ≡ true = last in absurd cc }

abbrev at : Phase → Beside → EisView
at p how = record { phase = p; ending = how.0; notices = how.1 }

-- the phases are of one kind
abbrev pub AreAlike : Phase → Phase → Type 0
AreAlike (phase.Shaking h) (phase.Shaking k) = Unit {0}
AreAlike (phase.Standing c) (phase.Standing d) = Unit {0}
AreAlike p q = ⊥

-- what became of the message at the front, and what comes of it by what the program does
pub data Stepped (setup : Setup) (past : List Raw) (times : List ℕ) (time : ℕ) (p : Phase) (s : Step) (q : Phase) : Type 0 where
  Nothing : front (unread_of (context_in p)) ≡ Short → Stepped setup past times time p s q
  Taken : (m : Raw) → (after : List ℕ) → (last : Bool) → front (unread_of (context_in p)) ≡ Whole m after → how_of s ≡ how_by last → unread_of (context_in q) ≡ after →
      ((how : Beside) (seated acted : EisView) (handed : List EisRequest) → AddsSeatBehind setup p q (at q how) seated → TakesOut handed seated acted → IsLast setup past m last × Answered setup past m times time after p how.0 handed acted) →
      Stepped setup past times time p s q
  Rejected : (e : Error) → Refuses setup past (unread_of (context_in p)) e → (e ≡ error.NoMemory → ⊥) → s ≡ refused e → AreAlike p q → queue_in q ≡ [] → Stepped setup past times time p s q
  WantsMemory : s ≡ refused error.NoMemory → Stepped setup past times time p s q

-- ---- requests where none waits

pub none_first : (handed : List EisRequest) (e f : EisView) → queue_in e.phase ≡ [] → TakesOut handed e f → (handed ≡ []) × (f ≡ e)
none_first [] e f none t = (refl, t.1)
none_first (r ∷ rs) e f none t = let z : None ≡ Some r = sym (ap first_of none) ∙ t.0 in absurd cc

-- ---- a request behind the handshake

or_nothing : (b x : Bool) → x ≡ false → (b || x) ≡ b
or_nothing true x e = refl
or_nothing false x e = e

read_at : (time : ℕ) (used : List ℕ) → length used ≤ 1 → used ≡ first_readings (length used) (time ∷ []) → IsReadAt time used
read_at time [] few e = inl refl
read_at time (x ∷ []) few e = inr e
read_at time (x ∷ y ∷ used) few e = absurd (omega (arith, few))

module _ (setup : Setup) (past : List Raw) (times : List ℕ) (time : ℕ) (c : ConverterView) (s : Step) (new : ConverterView) (h : Heard setup past times time c s new) where
  abbrev b : Behind setup past h.m times h.out new (Some (time ∷ [])) h.left
  b = h.behind

  -- what was queued is what the message gives
  gave : (later : List ℕ) → b.gave.more ≡ gives ((times ++ b.used) ++ later) (each (slot setup) past) (slot setup past h.m)
  gave later =
      append_cancel_left (framed setup ((times ++ b.used) ++ later) past) b.gave.more (gives ((times ++ b.used) ++ later) (each (slot setup) past) (slot setup past h.m))
      (sym (b.gave.framed_is later) ∙ framed_more setup ((times ++ b.used) ++ later) past h.m)

  pub queued : (later : List ℕ) → new.queue ≡ map (request_in_code past) (gives ((times ++ b.used) ++ later) (each (slot setup) past) (slot setup past h.m))
  queued later = b.gave.queue_is ∙ ap (map (request_in_code past)) (gave later)

  pub given : IsGiven past new.queue
  given = subst (IsGiven past) (sym (queued [])) (is_given setup ((times ++ b.used) ++ []) past h.m)

  answers : (how : Beside) (acted : EisView) (handed : List EisRequest) → TakesOut handed (at (phase.Standing new) how) acted → IsLast setup past h.m h.last × Answered setup past h.m times time h.after (phase.Standing c) how.0 handed acted
  answers how acted handed t =
      let x = takes_so past new.handle h.keys new.queue how handed acted given t in
      let took : TookOne setup past h.m times b.used h.out (record new { handle = x.end }) = b.took x.enough_ids x.end x.follows in
      let now : acted.phase ≡ phase.Standing (record { handle = x.end; queue = [] }) = ap (λ (e : EisView). e.phase) x.is in (
        record { judged = h.judged ∙ ap (λ (y : Bool). verdict None y) (or_nothing h.last (exhausts past h.m) (b.enough x.enough_ids)); enough = λ last. b.enough x.enough_ids },
        record {
          used = b.used;
          read = read_at time b.used b.draws.few (b.draws.drawn (time ∷ []) refl);
          stands = subst (λ (p : Phase). StandsFor setup (h.m ∷ past) (times ++ b.used) p) (sym now) (record {
            held = held_with setup (h.m ∷ past) (times ++ b.used) (record new { handle = x.end }) (record { handle = x.end; queue = [] }) x.end.ctx took.held refl refl took.held.no_handles refl;
            queue = refl;
          });
          requests = λ later. x.all ∙ queued later;
          unsent = ap (λ (p : Phase). (unsent_in p).bytes) now ∙ took.unsent ∙ ap (λ (y : List ℕ). y ++ all_bytes (reply setup past h.m)) h.unsent;
          unread = ap (λ (p : Phase). unread_of (context_in p)) now ∙ took.unread ∙ h.unread;
          handles = ap (λ (p : Phase). handles_of (context_in p)) now ∙ took.handles ∙ h.handles;
          ending = ap (λ (e : EisView). e.ending) x.is;
        },
      )

-- ---- a message to what isn't there

module _ (setup : Setup) (past : List Raw) (times : List ℕ) (time : ℕ) (c new : ConverterView) (held : IsHeld setup past times c) (none : c.queue ≡ []) (m : Raw) (after : List ℕ) (gone : object past m.id ≡ None)
    (is : new ≡ record (unread_to c after) { handle = tells_no_object (unread_to c after).handle m.id }) where
  told_none : (how : Beside) (acted : EisView) (handed : List EisRequest) → TakesOut handed (at (phase.Standing new) how) acted → IsLast setup past m false × Answered setup past m times time after (phase.Standing c) how.0 handed acted
  told_none how acted handed t =
      let took : TookOne setup past m times [] (unread_to c after) new = subst (λ (x : ConverterView). TookOne setup past m times [] (unread_to c after) x) (sym is) (after_unknown setup past m times (unread_to c after) (held_to setup past times c after held) gone) in
      let empty : new.queue ≡ [] = ap (λ (x : ConverterView). x.queue) is ∙ none in
      let x = none_first handed (at (phase.Standing new) how) acted empty t in
      let now : acted.phase ≡ phase.Standing new = ap (λ (e : EisView). e.phase) x.1 in (
        goes_on (judge_unknown setup past m held.connected gone),
        record {
          used = [];
          read = inl refl;
          stands = subst (λ (p : Phase). StandsFor setup (m ∷ past) (times ++ []) p) (sym now) (record { held = took.held; queue = empty });
          requests = λ later. x.0 ∙ sym empty ∙ took.queue later ∙ ap (λ (q : List EisRequest). q ++ map (request_in_code past) (gives ((times ++ []) ++ later) (each (slot setup) past) (slot setup past m))) none;
          unsent = ap (λ (p : Phase). (unsent_in p).bytes) now ∙ took.unsent;
          unread = ap (λ (p : Phase). unread_of (context_in p)) now ∙ took.unread;
          handles = ap (λ (p : Phase). handles_of (context_in p)) now ∙ took.handles;
          ending = ap (λ (e : EisView). e.ending) x.1;
        },
      )

-- ---- during the handshake

unfinished : (past : List Raw) (m : Raw) → is_finish m ≡ false → is_the_finish past m ≡ false
unfolding is_the_finish
unfinished past m e = rw e refl

module _ (setup : Setup) (past : List Raw) (times : List ℕ) (time : ℕ) (unused : times ≡ []) (h : Shaking) (i : IsShaking setup past h) where
  no_times : times ++ [] ≡ []
  no_times = append-nil times ∙ unused

  quiet : (m : Raw) (later : List ℕ) → [] ≡ map (request_in_code past) (gives ((times ++ []) ++ later) (each (slot setup) past) (slot setup past m))
  quiet m later = sym (ap (map (request_in_code past)) (gives_none setup ((times ++ []) ++ later) past m (early_item past m i.unfinished)))

  keeps : (k : Shaking) (x : KeptOn setup past h k) (how : Beside) (seated acted : EisView) (handed : List EisRequest) → seated ≡ at (phase.Shaking k) how → TakesOut handed seated acted →
      IsLast setup past x.m false × Answered setup past x.m times time x.after (phase.Shaking h) how.0 handed acted
  keeps k x how seated acted handed e t =
      let y = none_first handed seated acted (ap (λ (v : EisView). queue_in v.phase) e) t in
      let now : acted ≡ at (phase.Shaking k) how = y.1 ∙ e in (
        goes_on x.judged,
        record {
          used = [];
          read = inl refl;
          stands = subst (λ (v : EisView). StandsFor setup (x.m ∷ past) (times ++ []) v.phase) (sym now) (no_times, x.stands);
          requests = λ later. y.0 ∙ quiet x.m later;
          unsent = ap (λ (v : EisView). (unsent_in v.phase).bytes) now ∙ x.unsent ∙ sym (append-nil h.context.unsent)
              ∙ ap (λ (events : List Raw). h.context.unsent ++ all_bytes events) (sym (early_reply past x.m i.unfinished setup (unfinished past x.m x.other)));
          unread = ap (λ (v : EisView). unread_of (context_in v.phase)) now ∙ x.unread;
          handles = ap (λ (v : EisView). handles_of (context_in v.phase)) now ∙ x.handles;
          ending = ap (λ (v : EisView). v.ending) now;
        },
      )

  -- the finish, behind which the seat is added
  module _ (k : Shaking) (resp : EisHandshakeResp) (x : Finished setup past h k resp) where
    seats_so : (new : ConnectionView) (id : ℕ) → AddsSeatAs id None (set_of setup.capabilities) (new_connection k.context resp k.initial_serial) new → AddsSeat (new_connection k.context resp setup.serial) None (set_of setup.capabilities) new
    seats_so new id a = subst (λ (n : ℕ). AddsSeat (new_connection k.context resp n) None (set_of setup.capabilities) new) x.serial a.1

    answer_is : (new : ConnectionView) → AddsSeat (new_connection k.context resp setup.serial) None (set_of setup.capabilities) new → new.ctx.unsent ≡ h.context.unsent ++ all_bytes (reply setup past x.m)
    answer_is new a =
        let first : List Raw = settled_events 0 (settled past) ++ connection_event 0 setup.serial connection_id ∷ [] in
        unsent_first setup past x.m k.context resp x.finish x.over new a
        ∙ ap (λ (y : List ℕ). y ++ all_bytes (seat_events setup past)) x.unsent
        ∙ append_assoc h.context.unsent (all_bytes first) (all_bytes (seat_events setup past))
        ∙ ap (λ (y : List ℕ). h.context.unsent ++ y) (sym (flat_map-append bytes_of first (seat_events setup past)) ∙ ap all_bytes (finish_is setup past ∙ sym (reply_finish setup past x.m x.finish)))

    finishes : (how : Beside) (seated acted : EisView) (handed : List EisRequest) → AddsTheSeat setup (at (phase.Standing (connected_by k resp)) how) seated → TakesOut handed seated acted →
        IsLast setup past x.m false × Answered setup past x.m times time x.after (phase.Shaking h) how.0 handed acted
    finishes how seated acted handed s t =
        let a = acts_in (AddsSeatAs s.id None (set_of setup.capabilities)) (connected_by k resp) seated.phase s.adds.acts in
        let adds = seats_so a.now.handle s.id a.acts.done in
        let y = none_first handed seated acted (ap queue_in a.is ∙ a.acts.queue) t in
        let now : acted.phase ≡ phase.Standing a.now = ap (λ (v : EisView). v.phase) y.1 ∙ a.is in (
          goes_on x.judged,
          record {
            used = [];
            read = inl refl;
            stands = subst (λ (p : Phase). StandsFor setup (x.m ∷ past) (times ++ []) p) (sym now) (record {
              held = subst (λ (r : List ℕ). IsHeld setup (x.m ∷ past) r a.now) (sym no_times)
                  (held_with setup (x.m ∷ past) [] (record { handle = a.now.handle; queue = [] }) a.now a.now.handle.ctx (held_first setup past x.m k.context resp x.finish x.over a.now.handle adds i.lawful i.in_range) refl refl
                  (held_first setup past x.m k.context resp x.finish x.over a.now.handle adds i.lawful i.in_range).no_handles refl);
              queue = a.acts.queue;
            });
            requests = λ later. y.0 ∙ quiet x.m later;
            unsent = ap (λ (p : Phase). (unsent_in p).bytes) now ∙ answer_is a.now.handle adds;
            unread = ap (λ (p : Phase). unread_of (context_in p)) now ∙ unread_first setup past x.m k.context resp x.finish x.over a.now.handle adds ∙ x.unread;
            handles = ap (λ (p : Phase). handles_of (context_in p)) now ∙ handles_first setup past x.m k.context resp x.finish x.over a.now.handle adds ∙ x.handles;
            ending = ap (λ (v : EisView). v.ending) y.1 ∙ s.adds.kept;
          },
        )

  shaken : (s : Step) (q : Phase) → Shook setup past h s q → Stepped setup past times time (phase.Shaking h) s q
  shaken s q (NothingCame short) = Nothing short
  shaken s q (Kept k x is now) =
      subst (λ (p : Phase). Stepped setup past times time (phase.Shaking h) s p) (sym now)
      (Taken x.m x.after false x.front_is (ap how_of is) x.unread (λ how seated acted handed e t. keeps k x how seated acted handed e t))
  shaken s q (Done k resp x is now) =
      subst (λ (p : Phase). Stepped setup past times time (phase.Shaking h) s p) (sym now)
      (Taken x.m x.after false x.front_is (ap how_of is) x.unread (λ how seated acted handed e t. finishes k resp x how seated acted handed e t))
  shaken s q (Failed e k why some is now) = subst (λ (p : Phase). Stepped setup past times time (phase.Shaking h) s p) (sym now) (Rejected e why some is tt refl)
  shaken s q (NoMemory is) = WantsMemory is

-- ---- behind the handshake

module _ (setup : Setup) (past : List Raw) (times : List ℕ) (time : ℕ) (c : ConverterView) (i : IsStanding setup past times c) where
  conversing : (s : Step) (new : ConverterView) → Conversed setup past times time c s new → Stepped setup past times time (phase.Standing c) s (phase.Standing new)
  conversing s new (Waited short) = Nothing short
  conversing s new (Took h) =
      Taken h.m h.after h.last h.front_is h.how_is h.now_unread
      (λ how seated acted handed e t. answers setup past times time c s new h how acted handed (subst (λ (v : EisView). TakesOut handed v acted) e t))
  conversing s new (Told m after f gone is now) =
      Taken m after false f (ap how_of is) (ap (λ (x : ConverterView). x.handle.ctx.unread) now)
      (λ how seated acted handed e t. told_none setup past times time c new i.held i.queue m after gone now how acted handed (subst (λ (v : EisView). TakesOut handed v acted) e t))
  conversing s new (Refused e why some is none) = Rejected e why some is tt none
  conversing s new (Full is) = WantsMemory is

-- ---- in any phase

pub stepped : (setup : Setup) (past : List Raw) (times : List ℕ) (time : ℕ) (p : Phase) (s : Step) (q : Phase) → StandsFor setup past times p → Steps time p s q → Stepped setup past times time p s q
stepped setup past times time (phase.Shaking h) s q i x = shaken setup past times time i.0 h i.1 s q (shook setup past h i.1 s q x)
stepped setup past times time (phase.Standing c) s q i x =
    subst (λ (y : Phase). Stepped setup past times time (phase.Standing c) s y) (sym x.is)
    (conversing setup past times time c i s x.after (conversed setup past times time c i.held i.queue s x.after x.converses))
stepped setup past times time phase.Between s q i x = absurd i
