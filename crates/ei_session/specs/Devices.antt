-- The devices that a client is given, and their ids.
use Rattle.std.specs.Prelude.{ℕ, ◌+◌, Bool, false, not, ◌&&◌, List, [], ◌∷◌, length, Option, Some, None, unwrap_or, ◌==◌, nat_le, if◌then◌else◌, codes}
use Rattle.std.specs.List.{filter_map}
use Rattle.ei_spec.specs.declared.interface.KnownInterface.{KnownInterface}
use Rattle.ei_spec.specs.declared.interface.KnownInterface.TheVariants as known
use Rattle.ei_spec.specs.Message.{Raw}
use Rattle.ei_spec.specs.History.{last_said, occurs, total}
use Rattle.ei_types.specs.Capability.{capabilities, has_bit}
use Rattle.ei_session.specs.Setup.{seat_id}
use Rattle.ei_session.specs.Asked.{asked, asks, first, long}
use Rattle.ei_session.specs.Handshake.{connected}

-- the interfaces of a mask, by rising bit
unfoldable pub interfaces_of : ℕ → List KnownInterface
interfaces_of mask = filter_map (λ c. if has_bit mask c.0 then Some c.1 else None) capabilities

-- the seat is released, after the finish
unfoldable pub releases_seat : List Raw → Raw → Bool
releases_seat before m = connected before && ((m.id == seat_id) && asks known.Seat (codes "release") m)

-- the finish came, and the seat wasn't released since
unfoldable pub seat_is_open : List Raw → Bool
seat_is_open before = connected before && not (occurs releases_seat before)

-- the mask of a `bind` or `request_device`
unfoldable pub asked_mask : Raw → Option ℕ
asked_mask m = first (long (λ mask. mask) (asked known.Seat (codes "bind") m) ∷ long (λ mask. mask) (asked known.Seat (codes "request_device") m) ∷ [])

-- a mask of no bit makes no device
abbrev pub not_empty : Option ℕ → Option ℕ
not_empty None = None
not_empty (Some mask) = if mask == 0 then None else Some mask

-- the mask of the device that is made at this position, if one is
unfoldable pub made : List Raw → Raw → Option ℕ
made before m = if seat_is_open before && (m.id == seat_id) then not_empty (asked_mask m) else None

-- how many ids a device of the mask takes: its own, and one for each interface
abbrev pub ids_of : Option ℕ → ℕ
ids_of None = 0
ids_of (Some mask) = 1 + length (interfaces_of mask)

-- how many ids the position gives
unfoldable pub ids_given : List Raw → Raw → ℕ
ids_given before m = ids_of (made before m)

-- the id of the device that is made next
unfoldable pub next_id : List Raw → ℕ
next_id before = seat_id + 1 + total ids_given before

-- whether the last id of a device of the mask is past all ids of a server
abbrev pub is_past : ℕ → Option ℕ → Bool
is_past device None = false
is_past device (Some mask) = nat_le 0xffffffffffffffff (device + length (interfaces_of mask))

-- whether the ids run out with the device that is made at this position
unfoldable pub exhausts : List Raw → Raw → Bool
exhausts before m = is_past (next_id before) (made before m)

-- the interfaces of a device of the mask, where it is the device of that id
abbrev pub if_same : ℕ → ℕ → Option ℕ → Option (List KnownInterface)
if_same device next None = None
if_same device next (Some mask) = if next == device then Some (interfaces_of mask) else None

-- the interfaces that the device is made with at this position
unfoldable pub makes : ℕ → List Raw → Raw → Option (List KnownInterface)
makes device before m = if_same device (next_id before) (made before m)

-- the interfaces that the device was made with
unfoldable pub device_interfaces : List Raw → ℕ → List KnownInterface
device_interfaces before device = unwrap_or (last_said (makes device) before) []
