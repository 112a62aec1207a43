-- What the items so far come to.
use Rattle.std.specs.Prelude.{◌≡◌, ℕ, ◌+◌, ◌<◌, ◌^◌, Bool, true, false, not, ◌||◌, List, [], ◌∷◌, ◌++◌, length, Option, Some, None, is_some, ◌==◌, nat_eq, nat_lt, if◌then◌else◌, bit_and, slice_get}
use Rattle.std.specs.List.{list_any, IsDistinct}
use Rattle.ei_keyed.specs.Keyed.{keyed, with_value}
use Rattle.ei_spec.specs.Groups.{Timed}
use Rattle.ei_spec.specs.History.{occurs}
use Rattle.ei_types.specs.Capability.{bits_of}
use Rattle.ei_types.specs.declared.capability.DeviceCapability.{DeviceCapability}
use Rattle.ei_session.specs.Setup.{seat_id}
use Rattle.ei_session.specs.Devices.{interfaces_of}
use Rattle.ei_session.specs.Requests.{Request}
use Rattle.ei_record.specs.Replayable.{disconnects, next_device, mask_before, closes_device, touch_is_down}
use Rattle.ei_replay.specs.declared.step.InputKind.{InputKind}
use Rattle.ei_replay.specs.declared.step.Step.{Step}
use Rattle.ei_replay.specs.declared.step.Step.TheVariants as step
use Rattle.ei_replay.specs.declared.played.Played.{Played}
use Rattle.ei_replay.specs.Steps.{goes_with, input_device}
use Rattle.ei_replay.specs.Made.{MadeView, refuses, takes, closed}

-- ---- whether an item can't come next

-- the device, if it wasn't closed
abbrev pub if_open : Option MadeView → Option MadeView
if_open None = None
if_open (Some m) = if m.closed then None else Some m

abbrev pub open_device : Played → ℕ → Option MadeView
open_device p device = if_open (keyed device p.devices.items)

-- whether it is this device
abbrev pub is_it : ℕ → Option ℕ → Bool
is_it device None = false
is_it device (Some d) = d == device

-- an input of the device that can't come, with this item behind it
abbrev pub wrong_input : Option MadeView → ℕ → ℕ → DeviceCapability → InputKind → Option Step → Bool
wrong_input None device time capability kind next = true
wrong_input (Some m) device time capability kind next = not (goes_with device time next) || refuses capability kind m

abbrev pub wrong_step : Played → Step → Option Step → Bool
wrong_step p step.End next = false
wrong_step p (step.Ask seat mask) next = not (seat == seat_id) || not (bit_and (bits_of p.capabilities) (bits_of mask) == bits_of mask)
wrong_step p (step.Name device) next = not (is_some (open_device p device))
wrong_step p (step.Close device) next = not (is_some (open_device p device))
wrong_step p (step.Frame device time) next = not (is_some (open_device p device)) || not (is_it device p.last)
wrong_step p (step.Input device time capability kind) next = wrong_input (open_device p device) device time capability kind next

abbrev pub wrong_at : Played → Step → Option Step → Bool
wrong_at p s next = p.over || wrong_step p s next

-- ---- what it changes

abbrev pub over_after : Step → Bool → Bool
over_after step.End over = true
over_after s over = over

-- the id behind these, if it is one
abbrev pub id_behind : ℕ → ℕ → Option ℕ
id_behind id count = if nat_lt (id + count) (2 ^ 64) then Some (id + count) else None

abbrev pub next_behind : ℕ → Option ℕ → Option ℕ
next_behind mask None = None
next_behind mask (Some id) = if mask == 0 then Some id else id_behind id (1 + length (interfaces_of mask))

abbrev pub next_after : Step → Option ℕ → Option ℕ
next_after (step.Ask seat mask) next = next_behind (bits_of mask) next
next_after s next = next

-- a device of this mask, where there is an id for it
abbrev pub with_made : ℕ → Option ℕ → List (ℕ × MadeView) → List (ℕ × MadeView)
with_made mask None devices = devices
with_made mask (Some id) devices = if mask == 0 then devices else devices ++ (id, record { mask = mask; closed = false; touches = [] }) ∷ []

-- a device changed, if it is there
abbrev pub changed_at : ℕ → (MadeView → MadeView) → Option MadeView → List (ℕ × MadeView) → List (ℕ × MadeView)
changed_at device change None devices = devices
changed_at device change (Some m) devices = with_value device devices (change m)

abbrev pub changed : ℕ → (MadeView → MadeView) → List (ℕ × MadeView) → List (ℕ × MadeView)
changed device change devices = changed_at device change (keyed device devices) devices

abbrev pub devices_after : Step → Option ℕ → List (ℕ × MadeView) → List (ℕ × MadeView)
devices_after (step.Ask seat mask) next devices = with_made (bits_of mask) next devices
devices_after (step.Close device) next devices = changed device closed devices
devices_after (step.Input device time capability kind) next devices = changed device (takes kind) devices
devices_after s next devices = devices

-- what the items come to with one more
pub record Follows (old : Played) (s : Step) (new : Played) : Type 0 where
  pub same : new.capabilities ≡ old.capabilities
  pub over : new.over ≡ over_after s old.over
  pub next : new.next ≡ next_after s old.next
  pub devices : new.devices.items ≡ devices_after s old.next old.devices.items
  pub last : new.last ≡ input_device s

-- ---- what they come to, by the definitions

-- each touch that is down, once
pub record Touched (before : List Request) (device : ℕ) (touches : List ℕ) : Type 0 where
  pub once : IsDistinct nat_eq touches
  pub down : (touch : ℕ) → list_any (nat_eq touch) touches ≡ touch_is_down before device touch

-- a device that was made: its mask, whether it was closed, and its touches
abbrev pub IsMade : List Request → ℕ → Option ℕ → Option MadeView → Type 0
IsMade before device None None = Unit {0}
IsMade before device (Some mask) (Some m) = (m.mask ≡ mask) × (m.closed ≡ occurs (closes_device device) before) × Touched before device m.touches
IsMade before device mask m = ⊥

-- the device of the item, where that is an input
abbrev pub device_of_input : Option Request → Option ℕ
device_of_input (Some (Timed device input time)) = Some device
device_of_input item = None

-- they come to what the definitions say of them; ids of 64 bits are all that an item can name
pub record Stands (before : List Request) (p : Played) : Type 0 where
  pub over : p.over ≡ occurs (λ b x. disconnects x) before
  pub next : p.next ≡ (if nat_lt (next_device before) (2 ^ 64) then Some (next_device before) else None)
  pub devices : (device : ℕ) → device < 2 ^ 64 → IsMade before device (mask_before before device) (keyed device p.devices.items)
  pub last : p.last ≡ device_of_input (slice_get before 0)
  pub quiet : (device : ℕ) → mask_before before device ≡ None → (occurs (closes_device device) before ≡ false) × ((touch : ℕ) → touch_is_down before device touch ≡ false)
