-- The messages of the handshakes, as each end sends them: the first in front.
use Rattle.std.specs.Prelude.{ℕ, Bool, true, false, List, [], ◌∷◌, ◌++◌, map, Option, codes}
use Rattle.std.specs.Option.{option_map}
use Rattle.std.specs.List.{filter_map}
use Rattle.std.specs.FinMap as finite
use Rattle.ei_spec.specs.declared.interface.KnownInterface.{KnownInterface}
use Rattle.ei_spec.specs.declared.interface.KnownInterface.TheVariants as known
use Rattle.ei_spec.specs.Interface.{name_of, server_version, the_settled}
use Rattle.ei_spec.specs.NameMap.{NameMap}
use Rattle.ei_spec.specs.Rows.{row_named}
use Rattle.ei_spec.specs.Table.{table}
use Rattle.ei_spec.specs.Value.{Value, Word, Long, Letters}
use Rattle.ei_types.specs.Enums.{context_type_number}
use Rattle.ei_ends.specs.Sent.{Sent}
use Rattle.ei_reported.specs.Event.{opcode_by}
use Rattle.ei_greeting.specs.Shaking.{Greeter}

-- the message of that name to the handshake's object, which is 0 at either end; an event, or else a request
abbrev pub to_handshake : Bool → List ℕ → List Value → Sent
to_handshake events name values = record {
  target = 0;
  interface = known.Handshake;
  version = 1;
  opcode = opcode_by (row_named name (table events known.Handshake));
  values = values;
}

-- ---- what a server sends

-- it begins
abbrev pub greeting : Sent
greeting = to_handshake true (codes "handshake_version") (Word 1 ∷ [])

-- the version that both ends have of an interface
abbrev pub version_event : KnownInterface → ℕ → Sent
version_event interface version = to_handshake true (codes "interface_version") (Letters (name_of interface) ∷ Word version ∷ [])

-- the same, where the versions have it
abbrev pub version_if : NameMap → KnownInterface → Option Sent
version_if versions interface = option_map (version_event interface) (finite.get versions (name_of interface))

-- those of all interfaces that the versions have, in the order in which interfaces are announced
unfoldable pub version_events : NameMap → List Sent
version_events versions = filter_map (version_if versions) the_settled

-- the connection, which bears a serial and is a new object of that id
abbrev pub connection_event : ℕ → ℕ → Sent
connection_event serial id = to_handshake true (codes "connection") (Word serial ∷ Long id ∷ Word 1 ∷ [])

-- what answers the finish of a client: the versions, and the connection
abbrev pub settled_by : NameMap → ℕ → ℕ → List Sent
settled_by versions serial id = version_events versions ++ (connection_event serial id ∷ [])

-- ---- what a client sends

-- the version that it has of an interface
abbrev pub version_request : KnownInterface → Sent
version_request interface = to_handshake false (codes "interface_version") (Letters (name_of interface) ∷ Word (server_version interface) ∷ [])

-- what it tells of itself: its version of the handshake, its name and what it is
abbrev pub told_by : Greeter → List Sent
told_by g =
    to_handshake false (codes "handshake_version") (Word 1 ∷ [])
    ∷ to_handshake false (codes "name") (Letters g.name ∷ [])
    ∷ to_handshake false (codes "context_type") (Word (context_type_number g.kind) ∷ [])
    ∷ []

abbrev pub finish : Sent
finish = to_handshake false (codes "finish") []

-- what answers a server that begins: that, its version of each interface, and the end
unfoldable pub asked_by : Greeter → List Sent
asked_by g = told_by g ++ (map version_request the_settled ++ (finish ∷ []))
