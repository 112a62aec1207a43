-- The events of a handshake, and those that hand over the connection and its seat.
use Rattle.std.specs.Prelude.{ℕ, Bool, ◌&&◌, List, [], ◌∷◌, ◌++◌, Option, Some, None, is_some, codes, if◌then◌else◌}
use Rattle.std.specs.Option.{option_map}
use Rattle.std.specs.List.{filter_map}
use Rattle.ei_spec.specs.declared.interface.KnownInterface.{KnownInterface}
use Rattle.ei_spec.specs.declared.interface.KnownInterface.TheVariants as known
use Rattle.ei_spec.specs.Interface.{name_of, the_settled}
use Rattle.ei_spec.specs.Value.{Word, Long, Letters}
use Rattle.ei_spec.specs.Message.{Raw}
use Rattle.ei_types.specs.Capability.{capabilities, has_bit}
use Rattle.ei_session.specs.Setup.{Setup, connection_id, seat_id}
use Rattle.ei_session.specs.Arguments.{event}
use Rattle.ei_session.specs.Handshake.{settled, version}

-- ---- single events

-- the first event of a handshake
abbrev pub greeting_to : ℕ → Raw
greeting_to handshake = event known.Handshake (codes "handshake_version") handshake (Word 1 ∷ [])

-- the version that both ends have of an interface
abbrev pub settled_event : ℕ → KnownInterface → ℕ → Raw
settled_event handshake interface v = event known.Handshake (codes "interface_version") handshake (Letters (name_of interface) ∷ Word v ∷ [])

-- the event that hands the connection over
abbrev pub connection_event : ℕ → ℕ → ℕ → Raw
connection_event handshake serial connection = event known.Handshake (codes "connection") handshake (Word serial ∷ Long connection ∷ Word 1 ∷ [])

-- a new seat
abbrev pub seat_event : ℕ → ℕ → ℕ → Raw
seat_event connection seat v = event known.Connection (codes "seat") connection (Long seat ∷ Word v ∷ [])

-- the name of a seat
abbrev pub name_event : ℕ → List ℕ → Raw
name_event seat name = event known.Seat (codes "name") seat (Letters name ∷ [])

-- a capability of a seat: its bit, and the interface that bears it
abbrev pub capability_event : ℕ → ℕ × KnownInterface → Raw
capability_event seat c = event known.Seat (codes "capability") seat (Long c.0 ∷ Letters (name_of c.1) ∷ [])

-- the end of a seat's description
abbrev pub done_event : ℕ → Raw
done_event seat = event known.Seat (codes "done") seat []

-- ---- what answers a message

-- one event for each settled interface, in the order of the list
unfoldable pub settled_events : ℕ → (KnownInterface → Option ℕ) → List Raw
settled_events handshake settled = filter_map (λ interface. option_map (settled_event handshake interface) (settled interface)) the_settled

-- one event for each capability of the mask whose interface is settled, by rising bit
unfoldable pub capability_events : ℕ → ℕ → (KnownInterface → Bool) → List Raw
capability_events seat mask is_settled = filter_map (λ c. if has_bit mask c.0 && is_settled c.1 then Some (capability_event seat c) else None) capabilities

-- the events that answer the finish
unfoldable pub finish_events : Setup → List Raw → List Raw
finish_events setup before =
    settled_events 0 (settled before)
    ++ (connection_event 0 setup.serial connection_id
    ∷ seat_event connection_id seat_id (version before known.Seat)
    ∷ (capability_events seat_id setup.capabilities (λ interface. is_some (settled before interface))
    ++ (done_event seat_id ∷ [])))

-- the first event, before any message
abbrev pub greeting : Raw
greeting = greeting_to 0
