-- Calls that a pair's server made: what it says behind the handshake, and that the client is as it was.
use Rattle.std.proofs.Common.{◌≡◌, Bool, true, false, ◌&&◌, List, [], ◌∷◌, ◌++◌, Option, Some, Result, Ok, refl, sym, ap, subst, ◌∙◌, append_assoc}
use Rattle.std.specs.Prelude.{IsErrOf}
use Rattle.ei_spec.specs.Interface.{ObjectView}
use Rattle.ei_wire.specs.declared.error.NoMemory.{NoMemory}
use Rattle.ei_wire.specs.declared.error.SendError.{SendError}
use Rattle.ei_wire.specs.declared.error.SendError.TheVariants as send_error
use Rattle.ei_ends.specs.Sent.{Sent}
use Rattle.ei_ends.specs.Way.{onto}
use Rattle.ei_told.specs.Told.{after_connection, messages, NoneMissed}
use Rattle.ei_linked.specs.declared.side.Side.TheVariants as side
use Rattle.ei_linked.specs.Stored.{StoredEnd, end_in}
use Rattle.ei_linked.specs.TwoEnds.{end_of}
use Rattle.ei_request.specs.Keys.{DeviceKey}
use Rattle.ei_request.specs.Converter.{ConverterView as ServerConverter}
use Rattle.ei_acts.proofs.Acting.{connection_onto}
use Rattle.ei_promises.specs.declared.calls.ServerCall.{ServerCall}
use Rattle.ei_promises.specs.declared.calls.Made.{Made}
use Rattle.ei_promises.specs.Pair.{ServerStage, Shakes, Serves, PairView, server_done}
use Rattle.ei_promises.specs.Calling.{messages_of, is_steady_call, DoesServer, DoesAt}
use Rattle.ei_pair.specs.Calls.{SendsAt}
use Rattle.ei_emitting.specs.Emits.{Emits}
use Rattle.ei_emit.specs.declared.step.EmitStep.{EmitStep}
use Rattle.ei_emit.specs.Steps.{step_of, is_bad_step}
use Rattle.ei_emit.specs.Stands.{Script, NoneDestroys, Followed, Stands, AreDevices, EmitterView, emitter, StandsFor, PerformsOne}
use Rattle.ei_emit.specs.Performing.{HasMade, CarriesOut}

-- ---- messages, one behind another

pub onto_front : (ms past : List Sent) → onto ms past ≡ onto ms [] ++ past
onto_front [] past = refl
onto_front (m ∷ ms) past =
    onto_front ms (m ∷ past) ∙ sym (append_assoc (onto ms []) (m ∷ []) past) ∙ ap (λ (l : List Sent). l ++ past) (sym (onto_front ms (m ∷ [])))

-- ---- a server that serves

-- it said these behind the handshake
pub record Speaks {H : Type 0} (said : List Sent) (server : ServerConverter) (p : PairView H) : Type 0 where
  pub whole : p.ends.spent ≡ false
  pub steady : p.steady ≡ true
  pub wanted : p.server_wanted ≡ false
  pub serves : p.server ≡ Serves server
  pub endpoint : server.handle.ctx ≡ p.ends.server.backend
  pub behind : after_connection (end_of side.Server p.ends).sent ≡ Some said

pub speaks_of : {H : Type 0} (s : Script) (p : PairView H) (st : Stands s p) → Speaks st.said st.served.server p
speaks_of s p st = let v = st.served in record { whole = v.whole; steady = v.steady; wanted = v.wanted; serves = v.serves; endpoint = v.endpoint; behind = v.behind }

-- it said more, and the client is as it was
pub record Spoke {H : Type 0} (said more : List Sent) (left : ServerConverter) (old new : PairView H) : Type 0 where
  pub speaks : Speaks (more ++ said) left new
  pub sent : (end_of side.Server new.ends).sent ≡ more ++ (end_of side.Server old.ends).sent
  pub client_end : new.ends.client ≡ old.ends.client
  pub client : new.client ≡ old.client
  pub wanted : new.client_wanted ≡ old.client_wanted

pub spoke_on : {H : Type 0} (said more later : List Sent) (mid left : ServerConverter) (p q r : PairView H) → Spoke said more mid p q → Spoke (more ++ said) later left q r →
    Spoke said (later ++ more) left p r
spoke_on said more later mid left p q r a b = record {
  speaks = subst (λ (l : List Sent). Speaks l left r) (sym (append_assoc later more said)) b.speaks;
  sent = b.sent ∙ ap (λ (l : List Sent). later ++ l) a.sent ∙ sym (append_assoc later more (end_of side.Server p.ends).sent);
  client_end = b.client_end ∙ a.client_end;
  client = b.client ∙ a.client;
  wanted = b.wanted ∙ a.wanted;
}

-- ---- one call: what the pair answers

pub which_serves : (v : ServerStage) → server_done v ≡ true → (c : ServerConverter) × (v ≡ Serves c)
which_serves (Shakes h) e = absurd cc
which_serves (Serves c) e = (c, refl)

module _ {H : Type 0} (asked : ServerCall) (old new : PairView H) (answer : Made) (c : ServerConverter) (serves : old.server ≡ Serves c)
    (does_it : new.ends.spent ≡ false → DoesAt old.server asked old (Ok answer) new)
    (memory : new.ends.spent ≡ true → IsErrOf {T = Made} {E = SendError} (Ok answer) send_error.NoMemory) (sent : SendsAt old.server asked old new) where
  not_spent : new.ends.spent ≡ false
  not_spent = by new.ends.spent refl
    where
      by : (b : Bool) → new.ends.spent ≡ b → new.ends.spent ≡ false
      by true e = absurd (let none = memory e in cc)
      by false e = e

  pub has_made : HasMade asked old answer new
  has_made = record {
    server = c;
    serves = serves;
    does = subst (λ (v : ServerStage). DoesAt v asked old (Ok answer) new) serves (does_it not_spent);
    sends = subst (λ (v : ServerStage). SendsAt v asked old new) serves sent;
  }

-- ---- one call: what it left

same_serves : (a b : ServerConverter) → ◌≡◌ {A = ServerStage} (Serves a) (Serves b) → a ≡ b
same_serves a b e = cc

both_true : (a b : Bool) → a ≡ true → b ≡ true → (a && b) ≡ true
both_true true b e f = f
both_true false b e f = absurd cc

module _ {H : Type 0} (old new : PairView H) (said : List Sent) (server : ServerConverter) (speaks : Speaks said server old)
    (asked : ServerCall) (answer : Made) (m : HasMade asked old answer new) where
  same : m.server ≡ server
  same = same_serves m.server server (sym m.serves ∙ speaks.serves)

  pub does : DoesServer asked server old answer new
  does = subst (λ (c : ServerConverter). DoesServer asked c old answer new) same m.does

  abbrev pub told : List Sent
  told = messages_of asked old.ends server.handle

  abbrev pub after : ServerConverter
  after = record server { handle = does.left }

  sends : (end_of side.Server new.ends).sent ≡ onto told (end_of side.Server old.ends).sent
  sends = subst (λ (c : ServerConverter). SendsAt (Serves c) asked old new) same m.sends

  pub spoke : is_steady_call asked server.handle ≡ true → Spoke said (onto told []) after old new
  spoke steady = record {
    speaks = record {
      whole = ap (λ (p : PairView H). p.ends.spent) does.leaves ∙ speaks.whole;
      steady = ap (λ (p : PairView H). p.steady) does.leaves ∙ both_true old.steady (is_steady_call asked server.handle) speaks.steady steady;
      wanted = ap (λ (p : PairView H). p.server_wanted) does.leaves ∙ speaks.wanted;
      serves = ap (λ (p : PairView H). p.server) does.leaves;
      endpoint = sym (ap (λ (p : PairView H). p.ends.server.backend) does.leaves);
      behind = ap after_connection sends ∙ connection_onto told (end_of side.Server old.ends).sent said speaks.behind
          ∙ ap (λ (l : List Sent). let o : Option (List Sent) = Some l in o) (onto_front told said);
    };
    sent = sends ∙ onto_front told (end_of side.Server old.ends).sent;
    client_end = ap (λ (p : PairView H). p.ends.client) does.leaves;
    client = ap (λ (p : PairView H). p.client) does.leaves;
    wanted = ap (λ (p : PairView H). p.client_wanted) does.leaves;
  }

-- ---- a step

module _ {H : Type 0} (s : Script) (step : EmitStep) (old new : PairView H) (seat : ObjectView) (devices left : List (Option DeviceKey))
    (stood : StandsFor s (emitter old seat devices)) (more : List Sent) (server : ServerConverter)
    (k : Spoke stood.pair.said more server old new) where
  abbrev st : Stands s old
  st = stood.pair

  followed : Followed s st.said new
  followed = let f = st.followed in record {
    wanted = k.wanted ∙ f.wanted;
    client = f.client;
    follows = k.client ∙ f.follows;
    behind = ap (λ (x : StoredEnd). after_connection (messages (end_in x).taken)) k.client_end ∙ f.behind;
    none_missed = subst (λ (x : StoredEnd). NoneMissed (end_in x).taken) (sym k.client_end) f.none_missed;
    stay = subst (λ (x : StoredEnd). NoneDestroys (end_in x).sent) (sym k.client_end) f.stay;
    accounts = f.accounts;
  }

  -- the messages of its calls are those of the step
  pub performs_by : is_bad_step s.before step ≡ false → Emits s.start (step_of step ∷ s.before) server.handle (more ++ st.said) → AreDevices (step_of step ∷ s.before) left →
      PerformsOne s step (emitter old seat devices) (emitter new seat left)
  performs_by good emits kept = record {
    good = good;
    said = st.said;
    more = more;
    served = let v = k.speaks in record {
      whole = v.whole;
      steady = v.steady;
      wanted = v.wanted;
      server = server;
      serves = v.serves;
      endpoint = v.endpoint;
      behind = v.behind;
      emits = emits;
    };
    sent = k.sent;
    followed = followed;
    taken = ap (λ (x : StoredEnd). messages (end_in x).taken) k.client_end ∙ st.all;
    seat = refl;
    devices = kept;
  }

-- the same step
pub for_step : {H : Type 0} (a b : EmitStep) (result : Result Bool NoMemory) (old new : EmitterView H) → b ≡ a → CarriesOut a result old new → CarriesOut b result old new
for_step a b result old new e h = subst (λ (x : EmitStep). CarriesOut x result old new) (sym e) h
