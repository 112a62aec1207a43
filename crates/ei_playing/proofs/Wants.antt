-- What the message of an item meets at a server that follows the items before it.
use Rattle.std.proofs.Common.{◌≡◌, ℕ, ◌+◌, Bool, true, false, not, eqb, List, Option, Some, None, refl, sym, ap, ◌∙◌}
use Rattle.std.specs.Prelude.{◌&&◌, slice_get, unwrap_or}
use Rattle.std.proofs.lemmas.Bool.{eqb-true}
use Rattle.ei_spec.specs.declared.interface.KnownInterface.{KnownInterface}
use Rattle.ei_spec.specs.declared.interface.KnownInterface.TheVariants as known
use Rattle.ei_spec.specs.Message.{Raw}
use Rattle.ei_spec.specs.History.{occurs, joined}
use Rattle.ei_spec.specs.Groups.{Timed, Framed, Plain as Given}
use Rattle.ei_types.specs.Capability.{bit_of, has_bit}
use Rattle.ei_input.specs.declared.input_event.InputEvent.{InputEvent}
use Rattle.ei_session.specs.Setup.{Setup, seat_id}
use Rattle.ei_session.specs.Handshake.{connected, version}
use Rattle.ei_session.specs.Devices.{interfaces_of, next_id}
use Rattle.ei_session.specs.Meaning.{meaning}
use Rattle.ei_session.specs.Objects.{Entry, object}
use Rattle.ei_session.specs.Touches.{is_down, puts}
use Rattle.ei_session.specs.Requests.{Request, Bind, RequestDevice, Ready, DeviceClosed, DeviceStartEmulating, DeviceStopEmulating, Disconnect}
use Rattle.ei_session.proofs.Choices.{and_left, and_right, or_none}
use Rattle.ei_session.proofs.FirstObjects.{the_connection, object_connection}
use Rattle.ei_record.specs.Replayable.{disconnects, device_of, next_device, mask_before, is_there, touch_is_down, puts_touch, capability_for, is_within, asks_badly, names_none, lacks, goes_with, touches_badly, writes_badly, stands_badly, is_wrong}
use Rattle.ei_playing.specs.Playing.{interface_for, capabilities_below, interface_id, made_mask, call_of, message_of, IsBorne, shaken, played}
use Rattle.ei_playing.proofs.Places.{interface_placed}
use Rattle.ei_playing.proofs.Asking.{asked_by, item_asks, IsShort, borne_anywhere, means}
use Rattle.ei_playing.proofs.Sizes.{item_plain}
use Rattle.ei_playing.proofs.ItemLaws.{There, is_there_so}

-- ---- what is there

abbrev pub the_seat : Entry
the_seat = record { interface = known.Seat; version = 2; device = None }

-- a device, and an interface of it
abbrev pub the_device : ℕ → Entry
the_device d = record { interface = known.Device; version = version shaken known.Device; device = Some d }

abbrev pub the_interface : ℕ → KnownInterface → Entry
the_interface d i = record { interface = i; version = version shaken i; device = Some d }

-- the messages stand for the items: the objects, the ids and the touches that they come to are those of the items
pub record Follows (before : List Request) (past : List Raw) : Type 0 where
  pub on : connected past ≡ true
  pub versions : (k : KnownInterface) → version past k ≡ version shaken k
  pub next : next_id past ≡ next_device before
  pub seat : object past seat_id ≡ Some the_seat
  pub devices : (d mask : ℕ) → There before d mask → object past d ≡ Some (the_device d)
  pub interfaces : (d mask k : ℕ) (i : KnownInterface) → There before d mask → slice_get (interfaces_of mask) k ≡ Some i → object past (d + 1 + k) ≡ Some (the_interface d i)
  pub down : (d t : ℕ) → is_down past d t ≡ touch_is_down before d t
  pub put : (d : ℕ) → joined (puts d) past ≡ joined (puts_touch d) before

-- ---- what an item that isn't wrong says

pub record IsRight (setup : Setup) (before : List Request) (item : Request) (next : Option Request) : Type 0 where
  pub going : occurs (λ b x. disconnects x) before ≡ false
  pub asks : asks_badly setup item ≡ false
  pub names : names_none before (device_of item) ≡ false
  pub stands : stands_badly before item next ≡ false

pub right_so : (setup : Setup) (before : List Request) (item : Request) (next : Option Request) → is_wrong setup before item next ≡ false → IsRight setup before item next
unfolding is_wrong
right_so setup before item next h =
    let a = or_none (occurs (λ b x. disconnects x) before) _ h in
    let b = or_none (asks_badly setup item) _ a.1 in
    let c = or_none (names_none before (device_of item)) _ b.1 in
    record { going = a.0; asks = b.0; names = c.0; stands = c.1 }

not_no : (b : Bool) → not b ≡ false → b ≡ true
not_no true e = refl
not_no false e = absurd cc

-- an input that isn't wrong
pub record InputStands (before : List Request) (d : ℕ) (x : InputEvent) (t : ℕ) (next : Option Request) : Type 0 where
  pub lacks_none : lacks (mask_before before d) x ≡ false
  pub goes : goes_with d t next ≡ true
  pub touches : touches_badly before d x ≡ false
  pub writes : writes_badly x ≡ false

pub input_stands : (before : List Request) (d : ℕ) (x : InputEvent) (t : ℕ) (next : Option Request) → stands_badly before (Timed d x t) next ≡ false → InputStands before d x t next
input_stands before d x t next h =
    let a = or_none (lacks (mask_before before d) x) _ h in
    let b = or_none (not (goes_with d t next)) _ a.1 in
    let c = or_none (touches_badly before d x) _ b.1 in
    record { lacks_none = a.0; goes = not_no _ b.0; touches = c.0; writes = c.1 }

-- a request to the seat
pub record SeatStands (setup : Setup) (seat mask : ℕ) : Type 0 where
  pub is : seat ≡ seat_id
  pub within : is_within mask setup.capabilities ≡ true

pub seat_stands : (setup : Setup) (seat mask : ℕ) → not (eqb seat seat_id && is_within mask setup.capabilities) ≡ false → SeatStands setup seat mask
seat_stands setup seat mask h =
    let both = not_no _ h in
    record { is = eqb-true seat seat_id (and_left (eqb seat seat_id) (is_within mask setup.capabilities) both); within = and_right (eqb seat seat_id) (is_within mask setup.capabilities) both }

-- ---- the object that its message goes to

-- the entry of the object that an item is sent to
abbrev pub target_of : Request → Entry
target_of (Timed d x t) = the_interface d (interface_for x)
target_of (Framed d s t) = the_device d
target_of (Given (Bind seat mask)) = the_seat
target_of (Given (RequestDevice seat mask)) = the_seat
target_of (Given (Ready d)) = the_device d
target_of (Given (DeviceClosed d)) = the_device d
target_of (Given (DeviceStartEmulating d serial sequence)) = the_device d
target_of (Given (DeviceStopEmulating d serial)) = the_device d
target_of (Given Disconnect) = the_connection

mask_is : (before : List Request) (d mask : ℕ) → mask_before before d ≡ Some mask → made_mask before d ≡ mask
mask_is before d mask e = ap (λ (o : Option ℕ). unwrap_or o 0) e

module _ (setup : Setup) (before : List Request) (past : List Raw) (f : Follows before past) where
  at_device : (d : ℕ) → not (is_there before d) ≡ false → object past d ≡ Some (the_device d)
  at_device d h = let t = is_there_so before d (not_no _ h) in f.devices d t.mask t.there

  has_capability : (mask : ℕ) (x : InputEvent) → lacks (Some mask) x ≡ false → has_bit mask (bit_of (capability_for x)) ≡ true
  has_capability mask x h = not_no _ h

  at_interface : (d : ℕ) (x : InputEvent) → not (is_there before d) ≡ false → lacks (mask_before before d) x ≡ false → object past (interface_id d (made_mask before d) (capability_for x)) ≡ Some (the_interface d (interface_for x))
  at_interface d x h l =
      let t = is_there_so before d (not_no _ h) in
      let bit = has_capability t.mask x (sym (ap (λ (o : Option ℕ). lacks o x) t.there.made) ∙ l) in
      let m = mask_is before d t.mask t.there.made in
      ap (λ (n : ℕ). object past (interface_id d n (capability_for x))) m ∙ f.interfaces d t.mask (capabilities_below t.mask (capability_for x)) (interface_for x) t.there (interface_placed t.mask (capability_for x) bit)

  at_seat : (seat mask : ℕ) → not (eqb seat seat_id && is_within mask setup.capabilities) ≡ false → object past seat ≡ Some the_seat
  at_seat seat mask h = ap (object past) (seat_stands setup seat mask h).is ∙ f.seat

  pub target : (item : Request) (next : Option Request) → IsRight setup before item next → object past (call_of before item).id ≡ Some (target_of item)
  target (Timed d x t) next r = at_interface d x r.names (input_stands before d x t next r.stands).lacks_none
  target (Framed d s t) next r = at_device d r.names
  target (Given (Bind seat mask)) next r = at_seat seat mask r.asks
  target (Given (RequestDevice seat mask)) next r = at_seat seat mask r.asks
  target (Given (Ready d)) next r = at_device d r.names
  target (Given (DeviceClosed d)) next r = at_device d r.names
  target (Given (DeviceStartEmulating d serial sequence)) next r = at_device d r.names
  target (Given (DeviceStopEmulating d serial)) next r = at_device d r.names
  target (Given Disconnect) next r = object_connection past ∙ rw f.on refl

-- its text is short
pub right_short : (setup : Setup) (before : List Request) (item : Request) (next : Option Request) → IsRight setup before item next → IsShort item
right_short setup before (Timed d x t) next r = (input_stands before d x t next r.stands).writes
right_short setup before (Framed d s t) next r = tt
right_short setup before (Given y) next r = tt

-- ---- what it asks there

pub same_interface : (before : List Request) (item : Request) → (call_of before item).interface ≡ (target_of item).interface
same_interface before (Timed d x t) = refl
same_interface before (Framed d s t) = refl
same_interface before (Given (Bind seat mask)) = refl
same_interface before (Given (RequestDevice seat mask)) = refl
same_interface before (Given (Ready d)) = refl
same_interface before (Given (DeviceClosed d)) = refl
same_interface before (Given (DeviceStartEmulating d serial sequence)) = refl
same_interface before (Given (DeviceStopEmulating d serial)) = refl
same_interface before (Given Disconnect) = refl

-- the message goes to such an object, and asks what the item says
pub record Meets (before : List Request) (item : Request) (past : List Raw) : Type 0 where
  pub there : object past (played before item).id ≡ Some (target_of item)
  pub asks : meaning (target_of item).interface (played before item) ≡ Some (asked_by item)

pub meets : (setup : Setup) (before : List Request) (past : List Raw) (item : Request) (next : Option Request) → Follows before past → IsRight setup before item next → IsBorne item → Meets before item past
unfolding played
meets setup before past item next f r b = record {
  there = target setup before past f item next r;
  asks = ap (λ (k : KnownInterface). meaning k (message_of (call_of before item))) (sym (same_interface before item))
      ∙ means (call_of before item) (asked_by item) (item_plain before item (right_short setup before item next r)) (item_asks before item) (borne_anywhere before item b);
}
