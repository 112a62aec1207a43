-- A pair that has carried out steps, with the devices that were added.
use Rattle.std.specs.Prelude.{◌≡◌, ℕ, Bool, true, false, List, [], ◌∷◌, ◌++◌, Option, Some, None, Result, Ok, Err, length}
use Rattle.ei_spec.specs.Interface.{ObjectView}
use Rattle.ei_session.specs.Setup.{seat_id}
use Rattle.ei_wire.specs.declared.error.NoMemory.{NoMemory}
use Rattle.ei_ends.specs.Sent.{Sent, destroys}
use Rattle.ei_told.specs.Told.{all_said, after_connection, messages, NoneMissed}
use Rattle.ei_linked.specs.declared.side.Side.TheVariants as side
use Rattle.ei_linked.specs.TwoEnds.{end_of}
use Rattle.ei_event.specs.declared.event.EiEvent.{EiEvent}
use Rattle.ei_event.specs.Converter.{ConverterView as ClientConverter}
use Rattle.ei_request.specs.Keys.{DeviceKey}
use Rattle.ei_request.specs.Converter.{ConverterView as ServerConverter}
use Rattle.ei_promises.specs.Pair.{Follows, Serves, PairView}
use Rattle.ei_emitting.specs.Emitted.{Step, count, is_held, is_bad}
use Rattle.ei_emitting.specs.Emits.{Emits, IsKeyOf}
use Rattle.ei_emit.specs.declared.step.EmitStep.{EmitStep}
use Rattle.ei_emit.specs.Held.{held_at}
use Rattle.ei_emit.specs.Steps.{step_of, is_bad_step}
use Rattle.ei_emit.specs.Heard.{Gave, Accounts}

-- ---- what is stood for

-- the serial of the handshake, the steps that were carried out, the newest first, the readings of the clock that made frames have,
-- and the events that the user was given
pub record Script : Type 0 where
  pub start : ℕ
  pub before : List Step
  pub readings : List ℕ
  pub given : List EiEvent

-- with one step more
abbrev pub with_step : Step → List ℕ → Script → Script
with_step step used s = record { start = s.start; before = step ∷ s.before; readings = s.readings ++ used; given = s.given }

-- with more events given
abbrev pub with_given : List EiEvent → Script → Script
with_given more s = record { start = s.start; before = s.before; readings = s.readings; given = s.given ++ more }

-- ---- the pair

-- none of the messages destroys an object
abbrev pub NoneDestroys : List Sent → Type 0
NoneDestroys [] = Unit {0}
NoneDestroys (m ∷ ms) = (destroys false m ≡ false) × NoneDestroys ms

-- The server carried out these steps, the newest first: these are its messages behind the handshake, the newest first.
pub record Served {H : Type 0} (start : ℕ) (before : List Step) (said : List Sent) (p : PairView H) : Type 0 where
  pub whole : p.ends.spent ≡ false
  pub steady : p.steady ≡ true
  pub wanted : p.server_wanted ≡ false
  pub server : ServerConverter
  pub serves : p.server ≡ Serves server
  pub endpoint : server.handle.ctx ≡ p.ends.server.backend
  pub behind : after_connection (end_of side.Server p.ends).sent ≡ Some said
  pub emits : Emits start before server.handle said

-- The client, which sent nothing but its handshake, took these messages behind it, and its converter accounts for what they say.
pub record Followed {H : Type 0} (s : Script) (said : List Sent) (p : PairView H) : Type 0 where
  pub wanted : p.client_wanted ≡ false
  pub client : ClientConverter H
  pub follows : p.client ≡ Follows client
  pub behind : after_connection (messages (end_of side.Client p.ends).taken) ≡ Some said
  pub none_missed : NoneMissed (end_of side.Client p.ends).taken
  pub stay : NoneDestroys (end_of side.Client p.ends).sent
  pub accounts : Accounts s.start (all_said said) s.readings s.given client.kept

-- The server carried out the steps, and the client took all that it sent.
pub record Stands {H : Type 0} (s : Script) (p : PairView H) : Type 0 where
  pub said : List Sent
  pub served : Served s.start s.before said p
  pub followed : Followed s said p
  pub all : messages (end_of side.Client p.ends).taken ≡ (end_of side.Server p.ends).sent

-- ---- the devices

-- the device of that number: held, and known by its key, or not held
abbrev pub IsHeldAs : List Step → ℕ → Option DeviceKey → Type 0
IsHeldAs before number None = is_held before number ≡ false
IsHeldAs before number (Some key) = (is_held before number ≡ true) × IsKeyOf before number key

-- none of these steps was bad
abbrev pub NoneBad : List Step → Type 0
NoneBad [] = Unit {0}
NoneBad (step ∷ before) = (is_bad before step ≡ false) × NoneBad before

-- the devices that were added by these steps, none of which was bad, by their numbers
pub record AreDevices (before : List Step) (devices : List (Option DeviceKey)) : Type 0 where
  pub good : NoneBad before
  pub counted : length devices ≡ count before
  pub held : (number : ℕ) → IsHeldAs before number (held_at devices number)

-- ---- an emitter

-- its pair, its seat and the devices that were added
pub record EmitterView (H : Type 0) : Type 0 where
  pub pair : PairView H
  pub seat : ObjectView
  pub devices : List (Option DeviceKey)

abbrev pub emitter : {H : Type 0} → PairView H → ObjectView → List (Option DeviceKey) → EmitterView H
emitter pair seat devices = record { pair = pair; seat = seat; devices = devices }

-- it stands for the script
pub record StandsFor {H : Type 0} (s : Script) (e : EmitterView H) : Type 0 where
  pub pair : Stands s e.pair
  pub seat : e.seat.id ≡ seat_id
  pub devices : AreDevices s.before e.devices

-- it stands for some
pub record IsStanding {H : Type 0} (e : EmitterView H) : Type 0 where
  pub script : Script
  pub stands : StandsFor script e

-- an emitter that has carried out nothing, and given nothing; the clock gave these readings
pub record Begins {H : Type 0} (start : ℕ) (told now : Option (List ℕ)) (e : EmitterView H) : Type 0 where
  pub readings : List ℕ
  pub gave : Gave readings told now
  pub stands : StandsFor (record { start = start; before = []; readings = readings; given = [] }) e

-- ---- a step

-- The server carried the step out, and the client is as it was.
pub record PerformsOne {H : Type 0} (s : Script) (step : EmitStep) (old new : EmitterView H) : Type 0 where
  pub good : is_bad_step s.before step ≡ false
  pub said : List Sent
  pub more : List Sent
  pub served : Served s.start (step_of step ∷ s.before) (more ++ said) new.pair
  pub sent : (end_of side.Server new.pair.ends).sent ≡ more ++ (end_of side.Server old.pair.ends).sent
  pub followed : Followed s said new.pair
  pub taken : messages (end_of side.Client new.pair.ends).taken ≡ (end_of side.Server old.pair.ends).sent
  pub seat : new.seat ≡ old.seat
  pub devices : AreDevices (step_of step ∷ s.before) new.devices

-- or it is bad
abbrev pub Performs : {H : Type 0} → Script → EmitStep → Result Bool NoMemory → EmitterView H → EmitterView H → Type 0
Performs s step (Ok true) old new = PerformsOne s step old new
Performs s step (Ok false) old new = is_bad_step s.before step ≡ true
Performs s step (Err e) old new = Unit {0}

-- the step was carried out, to the client
pub record PlaysOne {H : Type 0} (s : Script) (step : EmitStep) (told now : Option (List ℕ)) (new : EmitterView H) : Type 0 where
  pub good : is_bad_step s.before step ≡ false
  pub used : List ℕ
  pub gave : Gave used told now
  pub stands : StandsFor (with_step (step_of step) used s) new

-- or it is bad
abbrev pub Plays : {H : Type 0} → Script → EmitStep → Option (List ℕ) → Option (List ℕ) → Result Bool NoMemory → EmitterView H → Type 0
Plays s step told now (Ok true) new = PlaysOne s step told now new
Plays s step told now (Ok false) new = (is_bad_step s.before step ≡ true) × (now ≡ told)
Plays s step told now (Err e) new = Unit {0}
