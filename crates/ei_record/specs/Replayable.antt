-- Which lists of requests can be played back.
use Rattle.std.specs.Prelude.{◌≡◌, ℕ, ◌+◌, Bool, true, false, not, ◌&&◌, ◌||◌, List, [], ◌∷◌, length, Option, Some, None, is_some, unwrap_or}
use Rattle.std.specs.Prelude.{◌==◌, nat_eq, nat_le, nat_lt, if◌then◌else◌, slice_get, bit_and}
use Rattle.std.specs.List.{filter}
use Rattle.std.specs.Set.{unique_keys}
use Rattle.ei_spec.specs.History.{last_said, occurs, total, joined}
use Rattle.ei_spec.specs.Groups.{Timed, Framed, Plain as Given}
use Rattle.ei_types.specs.Capability.{bit_of, has_bit}
use Rattle.ei_types.specs.declared.capability.DeviceCapability.{DeviceCapability}
use Rattle.ei_types.specs.declared.capability.DeviceCapability.TheVariants as capability
use Rattle.ei_input.specs.declared.input_event.InputEvent.{InputEvent}
use Rattle.ei_input.specs.declared.input_event.InputEvent.TheVariants as input_event
use Rattle.ei_session.specs.Setup.{Setup, seat_id}
use Rattle.ei_session.specs.Devices.{not_empty, ids_of}
use Rattle.ei_session.specs.Touches.{said_by, put_by}
use Rattle.ei_session.specs.Requests.{Request, Bind, RequestDevice, Ready, DeviceClosed, DeviceStartEmulating, DeviceStopEmulating, Disconnect}

-- ---- what an item names. `before` has the items before it, the newest first

-- whether it is the end
abbrev pub disconnects : Request → Bool
disconnects (Given Disconnect) = true
disconnects item = false

-- the device that it names, if it names one
abbrev pub device_of : Request → Option ℕ
device_of (Timed device input time) = Some device
device_of (Framed device serial time) = Some device
device_of (Given (Ready device)) = Some device
device_of (Given (DeviceClosed device)) = Some device
device_of (Given (DeviceStartEmulating device serial sequence)) = Some device
device_of (Given (DeviceStopEmulating device serial)) = Some device
device_of item = None

-- the mask that it asks for, if it asks the seat for a device
abbrev pub mask_of : Request → Option ℕ
mask_of (Given (Bind seat mask)) = if seat == seat_id then Some mask else None
mask_of (Given (RequestDevice seat mask)) = if seat == seat_id then Some mask else None
mask_of item = None

-- ---- devices

-- how many ids it takes: a device of no capability isn't made
unfoldable pub takes_ids : List Request → Request → ℕ
takes_ids before item = ids_of (not_empty (mask_of item))

-- the id of the device that is made next
unfoldable pub next_device : List Request → ℕ
next_device before = seat_id + 1 + total takes_ids before

-- the mask, where it is of the device of that id
abbrev pub if_it : ℕ → ℕ → Option ℕ → Option ℕ
if_it device next None = None
if_it device next (Some mask) = if next == device then Some mask else None

unfoldable pub gives_mask : ℕ → List Request → Request → Option ℕ
gives_mask device before item = if_it device (next_device before) (not_empty (mask_of item))

-- the mask of a device that was made
unfoldable pub mask_before : List Request → ℕ → Option ℕ
mask_before before device = last_said (gives_mask device) before

unfoldable pub closes_device : ℕ → List Request → Request → Bool
closes_device device before (Given (DeviceClosed d)) = d == device
closes_device device before item = false

-- whether it was made, and no item closed it
unfoldable pub is_there : List Request → ℕ → Bool
is_there before device = is_some (mask_before before device) && not (occurs (closes_device device) before)

-- ---- touches

unfoldable pub says_touch : ℕ → ℕ → List Request → Request → Option Bool
says_touch device touch before (Timed d input time) = if d == device then said_by touch input else None
says_touch device touch before item = None

-- whether the last item that puts the touch of the device down or ends it puts it down
unfoldable pub touch_is_down : List Request → ℕ → ℕ → Bool
touch_is_down before device touch = unwrap_or (last_said (says_touch device touch) before) false

unfoldable pub puts_touch : ℕ → List Request → Request → List ℕ
puts_touch device before (Timed d input time) = if d == device then put_by input else []
puts_touch device before item = []

-- the touches of the device that are down, each once
unfoldable pub touches_before : List Request → ℕ → List ℕ
touches_before before device = filter (touch_is_down before device) (unique_keys nat_eq (joined (puts_touch device) before))

-- ---- capabilities

-- the capability that an input is of
abbrev pub capability_for : InputEvent → DeviceCapability
capability_for (input_event.PointerMotion dx dy) = capability.Pointer
capability_for (input_event.PointerMotionAbsolute dx dy) = capability.PointerAbsolute
capability_for (input_event.Button button state) = capability.Button
capability_for (input_event.ScrollDelta dx dy) = capability.Scroll
capability_for (input_event.ScrollStop x y) = capability.Scroll
capability_for (input_event.ScrollCancel x y) = capability.Scroll
capability_for (input_event.ScrollDiscrete dx dy) = capability.Scroll
capability_for (input_event.KeyboardKey key state) = capability.Keyboard
capability_for (input_event.TouchDown touch x y) = capability.Touch
capability_for (input_event.TouchMotion touch x y) = capability.Touch
capability_for (input_event.TouchUp touch) = capability.Touch
capability_for (input_event.TouchCancel touch) = capability.Touch
capability_for (input_event.TextKeysym keysym state) = capability.Text
capability_for (input_event.TextUtf8 letters) = capability.Text
capability_for (input_event.GestureSwipe fingers dx dy) = capability.Gesture
capability_for (input_event.GesturePinch scale) = capability.Gesture

-- whether each bit of a mask is one of the setup's
abbrev pub is_within : ℕ → ℕ → Bool
is_within mask all = bit_and mask all == mask

-- ---- what is wrong with an item

-- it asks another seat, or for what the setup doesn't have
abbrev pub asks_badly : Setup → Request → Bool
asks_badly setup (Given (Bind seat mask)) = not (seat == seat_id && is_within mask setup.capabilities)
asks_badly setup (Given (RequestDevice seat mask)) = not (seat == seat_id && is_within mask setup.capabilities)
asks_badly setup item = false

-- it names a device that isn't there
abbrev pub names_none : List Request → Option ℕ → Bool
names_none before None = false
names_none before (Some device) = not (is_there before device)

-- the device of the input lacks its capability
abbrev pub lacks : Option ℕ → InputEvent → Bool
lacks None input = true
lacks (Some mask) input = not (has_bit mask (bit_of (capability_for input)))

-- the item behind an input, an input or the frame of this device, has its time
abbrev pub goes_with : ℕ → ℕ → Option Request → Bool
goes_with device time (Some (Timed d input t)) = d == device && t == time
goes_with device time (Some (Framed d serial t)) = d == device && t == time
goes_with device time item = false

abbrev pub is_input_of : ℕ → Option Request → Bool
is_input_of device (Some (Timed d input time)) = d == device
is_input_of device item = false

-- a touch that can't go down, move or end
abbrev pub touches_badly : List Request → ℕ → InputEvent → Bool
touches_badly before device (input_event.TouchDown touch x y) = nat_le 16 (length (touches_before before device)) || touch_is_down before device touch
touches_badly before device (input_event.TouchMotion touch x y) = not (touch_is_down before device touch)
touches_badly before device (input_event.TouchUp touch) = not (touch_is_down before device touch)
touches_badly before device (input_event.TouchCancel touch) = not (touch_is_down before device touch)
touches_badly before device input = false

abbrev pub writes_badly : InputEvent → Bool
writes_badly (input_event.TextUtf8 letters) = length letters == 0 || nat_lt 254 (length letters)
writes_badly input = false

-- of an input with the item behind it, and of a frame
abbrev pub stands_badly : List Request → Request → Option Request → Bool
stands_badly before (Timed device input time) next =
    lacks (mask_before before device) input || (not (goes_with device time next) || (touches_badly before device input || writes_badly input))
stands_badly before (Framed device serial time) next = not (is_input_of device (slice_get before 0))
stands_badly before item next = false

-- whether the item can't be played back, behind those and before this one
unfoldable pub is_wrong : Setup → List Request → Request → Option Request → Bool
is_wrong setup before item next =
    occurs (λ b x. disconnects x) before || (asks_badly setup item || (names_none before (device_of item) || stands_badly before item next))

-- ---- lists of items, the oldest first

-- the place of the first wrong item, where others lie before these
unfoldable pub wrong_from : Setup → List Request → List Request → Option ℕ
wrong_from setup before [] = None
wrong_from setup before (item ∷ later) =
    if is_wrong setup before item (slice_get later 0) then Some (length before) else wrong_from setup (item ∷ before) later

abbrev pub first_wrong : Setup → List Request → Option ℕ
first_wrong setup items = wrong_from setup [] items

-- none is wrong
abbrev pub IsReplayable : Setup → List Request → Type 0
IsReplayable setup items = first_wrong setup items ≡ None
