-- A client's converter keeps the connection's object and the versions that were settled.
use Rattle.std.proofs.Common.{◌≡◌, ℕ, Bool, true, false, List, Option, Some, None, Result, Ok, Err, refl, ap, ◌∙◌}
use Rattle.std.specs.FinMap as finite
use Rattle.ei_spec.specs.Interface.{ObjectView}
use Rattle.ei_types.specs.declared.capability.DeviceCapability.{DeviceCapability}
use Rattle.ei_types.specs.Capability.{capability_named}
use Rattle.ei_types.specs.declared.enums.DeviceType.{DeviceType}
use Rattle.ei_types.specs.declared.error.Error.{Error}
use Rattle.ei_types.specs.declared.error.Error.TheVariants as error
use Rattle.ei_input.specs.declared.input_event.InputEvent.{InputEvent}
use Rattle.ei_client.specs.declared.event.Event.{Event}
use Rattle.ei_client.specs.declared.event.Event.TheVariants as event
use Rattle.ei_client.specs.declared.connection.Event.{Event as Connection}
use Rattle.ei_client.specs.declared.connection.Event.TheVariants as connection
use Rattle.ei_client.specs.declared.seat.Event.{Event as Seat}
use Rattle.ei_client.specs.declared.seat.Event.TheVariants as seat
use Rattle.ei_client.specs.declared.device.Event.{Event as Device}
use Rattle.ei_client.specs.declared.device.Event.TheVariants as device
use Rattle.ei_client.specs.declared.keyboard.Event.{Event as Keyboard}
use Rattle.ei_client.specs.declared.keyboard.Event.TheVariants as keyboard
use Rattle.ei_reported.specs.Said.{Said, Inputs, Modifies, Goes}
use Rattle.ei_reported.specs.Reported.{goes_freely}
use Rattle.ei_following.specs.Core.{refused}
use Rattle.ei_event.specs.declared.ending.Ending.{Ending}
use Rattle.ei_event.specs.declared.ending.Ending.TheVariants as ending
use Rattle.ei_event.specs.Typed.{said_of, keyboard_says}
use Rattle.ei_event.specs.Core.{core_of}
use Rattle.ei_event.specs.Kept.{SeatView, DeviceView, KeptView, pending_seat, added_seat, pending_device, added_device, owner}
use Rattle.ei_event.specs.Handling as handling
use Rattle.ei_event.specs.Handles.{after, after_connection, after_seat, after_device, after_said, after_keyboard, holder_at, loses_interface, Ends, Handles}

abbrev pub SameConnection : KeptView → KeptView → Type 0
SameConnection new old = (new.proxy ≡ old.proxy) × (new.negotiated ≡ old.negotiated)

module _ (c : KeptView) where
  describes_seat : (id : ℕ) (change : SeatView → SeatView) (o : Option SeatView) → SameConnection (handling.describes_seat c id change o) c
  describes_seat id change None = (refl, refl)
  describes_seat id change (Some s) = (refl, refl)

  masks_seat : (id mask : ℕ) (o : Option DeviceCapability) → SameConnection (handling.masks_seat c id mask o) c
  masks_seat id mask None = (refl, refl)
  masks_seat id mask (Some k) = describes_seat id _ (pending_seat (finite.get c.seats id))

  completes_seat : (target : ObjectView) (o : Option SeatView) → SameConnection (handling.completes_seat c target o) c
  completes_seat target None = (refl, refl)
  completes_seat target (Some s) = (refl, refl)

  gains_device : (key : _) (o : Option SeatView) → SameConnection (handling.gains_device c key o) c
  gains_device key None = (refl, refl)
  gains_device key (Some s) = (refl, refl)

  describes : (id : ℕ) (change : DeviceView → DeviceView) (o : Option DeviceView) → SameConnection (handling.describes c id change o) c
  describes id change None = (refl, refl)
  describes id change (Some d) = (refl, refl)

  describes_owner : (change : DeviceView → DeviceView) (o : Option ℕ) → SameConnection (handling.describes_owner c change o) c
  describes_owner change None = (refl, refl)
  describes_owner change (Some id) = describes id change (pending_device (finite.get c.devices id))

  gains_interface : (id : ℕ) (object : ObjectView) (o : Option DeviceView) → SameConnection (handling.gains_interface c id object o) c
  gains_interface id object None = (refl, refl)
  gains_interface id object (Some d) = (refl, refl)

  whole_or_dropped : (id : ℕ) (d : DeviceView) (o : Option DeviceType) → SameConnection (handling.whole_or_dropped c id d o) c
  whole_or_dropped id d None = (refl, refl)
  whole_or_dropped id d (Some kind) = (refl, refl)

  completes : (id : ℕ) (o : Option DeviceView) → SameConnection (handling.completes c id o) c
  completes id None = (refl, refl)
  completes id (Some d) = whole_or_dropped id d d.kind

  frames : (id serial time : ℕ) (o : Option DeviceView) → SameConnection (handling.frames c id serial time o) c
  frames id serial time None = (refl, refl)
  frames id serial time (Some d) = (refl, refl)

  ends : (id serial time : ℕ) (e : Ending) (o : Option DeviceView) → SameConnection (handling.ends c id serial time e o) c
  ends id serial time e None = (refl, refl)
  ends id serial time e (Some d) = (refl, refl)

  hears : (id : ℕ) (i : InputEvent) (o : Option DeviceView) → SameConnection (handling.hears c id i o) c
  hears id i None = (refl, refl)
  hears id i (Some d) = (refl, refl)

  hears_at : (i : InputEvent) (o : Option ℕ) → SameConnection (handling.hears_at c i o) c
  hears_at i None = (refl, refl)
  hears_at i (Some id) = hears id i (added_device (finite.get c.devices id))

  ends_at : (serial time : ℕ) (e : Ending) (o : Option ℕ) → SameConnection (handling.ends_at c serial time e o) c
  ends_at serial time e None = (refl, refl)
  ends_at serial time e (Some id) = ends id serial time e (added_device (finite.get c.devices id))

  loses : (freely : Bool) (id serial : ℕ) (o : Option DeviceView) → SameConnection (loses_interface c freely id serial o) c
  loses true id serial None = (refl, refl)
  loses false id serial None = (refl, refl)
  loses freely id serial (Some d) = (refl, refl)

  connection_still : (m : Connection) → SameConnection (after_connection c m) c
  connection_still (connection.Disconnected last_serial reason explanation) = (refl, refl)
  connection_still (connection.Seat new) = (refl, refl)
  connection_still m = (refl, refl)

  seat_still : (target : ObjectView) (m : Seat) → SameConnection (after_seat c target m) c
  seat_still target (seat.Destroyed serial) = (refl, refl)
  seat_still target (seat.Name name) = describes_seat target.id _ (pending_seat (finite.get c.seats target.id))
  seat_still target (seat.Capability mask interface) = masks_seat target.id mask (capability_named interface)
  seat_still target seat.Done = completes_seat target (pending_seat (finite.get c.seats target.id))
  seat_still target (seat.Device new) = gains_device _ (added_seat (finite.get c.seats target.id))

  device_still : (id : ℕ) (m : Device) (time : ℕ) → SameConnection (after_device c id m time) c
  device_still id (device.Destroyed serial) time = ends id serial time ending.Destroyed (added_device (finite.get c.devices id))
  device_still id (device.Name name) time = describes id _ (pending_device (finite.get c.devices id))
  device_still id (device.DeviceType kind) time = describes id _ (pending_device (finite.get c.devices id))
  device_still id (device.Dimensions width height) time = describes id _ (pending_device (finite.get c.devices id))
  device_still id (device.Region x y width height scale) time = describes id _ (pending_device (finite.get c.devices id))
  device_still id (device.Interface new) time = gains_interface id new (pending_device (finite.get c.devices id))
  device_still id device.Done time = completes id (pending_device (finite.get c.devices id))
  device_still id (device.Resumed serial) time = ends id serial time ending.Resumed (added_device (finite.get c.devices id))
  device_still id (device.Paused serial) time = ends id serial time ending.Paused (added_device (finite.get c.devices id))
  device_still id (device.StartEmulating serial sequence) time = ends id serial time (ending.StartEmulating sequence) (added_device (finite.get c.devices id))
  device_still id (device.StopEmulating serial) time = ends id serial time ending.StopEmulating (added_device (finite.get c.devices id))
  device_still id (device.Frame serial sent) time = frames id serial sent (added_device (finite.get c.devices id))
  device_still id (device.RegionMappingId mapping_id) time = describes id _ (pending_device (finite.get c.devices id))

  said_still : (s : Said) (time : ℕ) → SameConnection (after_said c s time) c
  said_still (Inputs id i) time = hears_at i (owner c id)
  said_still (Modifies id serial depressed locked latched group) time = ends_at serial time (ending.Modifiers depressed locked latched group) (owner c id)
  said_still (Goes interface id serial) time = loses (goes_freely interface) id serial (holder_at c (owner c id))
  said_still s time = (refl, refl)

  keyboard_still : (id : ℕ) (m : Keyboard) (time : ℕ) → SameConnection (after_keyboard c id m time) c
  keyboard_still id (keyboard.Keymap kind size map) time = describes_owner _ (owner c id)
  keyboard_still id (keyboard.Destroyed serial) time = said_still (keyboard_says id (keyboard.Destroyed serial)) time
  keyboard_still id (keyboard.Key key state) time = said_still (keyboard_says id (keyboard.Key key state)) time
  keyboard_still id (keyboard.Modifiers serial depressed locked latched group) time = said_still (keyboard_says id (keyboard.Modifiers serial depressed locked latched group)) time

  after_still : (e : Event) (time : ℕ) → SameConnection (after c e time) c
  after_still (event.Connection target m) time = connection_still m
  after_still (event.Seat target m) time = seat_still target m
  after_still (event.Device target m) time = device_still target.id m time
  after_still (event.Keyboard target m) time = keyboard_still target.id m time
  after_still e time = said_still (said_of e) time

pub connection_kept : (c new : KeptView) (e : Event) (told now : Option (List ℕ)) (answer : Result Unit Error) → Handles c e told now answer new → SameConnection new c
connection_kept c new e told now answer d = by answer d.ends
  where
    by : (answer : Result Unit Error) → Ends (refused (core_of c) (said_of e)) c (after c e d.time) answer new → SameConnection new c
    by (Ok t) h = let k = after_still c e d.time in (ap (λ (q : KeptView). q.proxy) h.1 ∙ k.0, ap (λ (q : KeptView). q.negotiated) h.1 ∙ k.1)
    by (Err (error.Event why)) h = let k = after_still c e d.time in (ap (λ (q : KeptView). q.proxy) h.1 ∙ k.0, ap (λ (q : KeptView). q.negotiated) h.1 ∙ k.1)
    by (Err error.NoMemory) h = (ap (λ (q : KeptView). q.proxy) h.1, ap (λ (q : KeptView). q.negotiated) h.1)
    by (Err why) h = absurd h
