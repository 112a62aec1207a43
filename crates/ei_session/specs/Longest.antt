-- The most bytes that answer a message.
use Rattle.std.specs.Prelude.{ℕ, ◌+◌, List, [], ◌∷◌, length}
use Rattle.ei_spec.specs.Interface.{the_settled}
use Rattle.ei_spec.specs.Message.{Raw, bytes_of}
use Rattle.ei_types.specs.Capability.{capabilities}
use Rattle.ei_session.specs.Setup.{connection_id, seat_id}
use Rattle.ei_session.specs.Replies.{settled_event, connection_event, seat_event, capability_event, done_event}
use Rattle.ei_session.specs.Events.{device_event, device_type_event, interface_event, device_done_event, resumed_event}

-- the sum of what each has
abbrev pub sum_of : {A : Type 0} → (A → ℕ) → List A → ℕ
sum_of has [] = 0
sum_of has (x ∷ xs) = has x + sum_of has xs

-- how many bytes an event has; its numbers make no difference
abbrev pub event_bytes : Raw → ℕ
event_bytes event = length (bytes_of event)

-- the events of all versions that a handshake settles
unfoldable pub most_settled : ℕ
most_settled = sum_of (λ interface. event_bytes (settled_event 0 interface 0)) the_settled

-- the connection, its seat and the end of the seat's description
unfoldable pub handed_over_bytes : ℕ
handed_over_bytes = event_bytes (connection_event 0 0 connection_id) + (event_bytes (seat_event connection_id seat_id 0) + event_bytes (done_event seat_id))

-- the events of all capabilities of a seat
unfoldable pub most_offered : ℕ
most_offered = sum_of (λ c. event_bytes (capability_event seat_id c)) capabilities

-- the events of all interfaces of a device
unfoldable pub most_interfaces : ℕ
most_interfaces = sum_of (λ c. event_bytes (interface_event 0 0 c.1 0)) capabilities

-- a device with all its interfaces
unfoldable pub most_described : ℕ
most_described =
    event_bytes (device_event 0 0)
    + (event_bytes (device_type_event 0)
    + (most_interfaces + (event_bytes (device_done_event 0) + event_bytes (resumed_event 0 0))))

-- what answers a message that ends a handshake of all interfaces, under all capabilities: nothing else is answered by more
unfoldable pub longest_reply : ℕ
longest_reply = most_settled + (handed_over_bytes + most_offered)
