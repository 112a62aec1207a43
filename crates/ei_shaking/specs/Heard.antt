-- What each end of the handshakes was told, by the messages that it took: the newest first.
use Rattle.std.specs.Prelude.{◌≡◌, ℕ, min, Bool, true, false, List, [], ◌∷◌, Option, Some, None, is_some, codes, ◌==◌, if◌then◌else◌}
use Rattle.std.specs.Option.{option_map}
use Rattle.std.specs.List.{list_all}
use Rattle.std.specs.Str.{bytes_eq}
use Rattle.std.specs.FinMap as finite
use Rattle.ei_spec.specs.declared.interface.KnownInterface.{KnownInterface}
use Rattle.ei_spec.specs.declared.interface.KnownInterface.TheVariants as known
use Rattle.ei_spec.specs.FromValues.{first, none, one, text}
use Rattle.ei_spec.specs.History.{last_said}
use Rattle.ei_spec.specs.Interface.{Known, name_of, server_version, the_settled}
use Rattle.ei_spec.specs.NameMap.{NameMap, map_of}
use Rattle.ei_spec.specs.Rows.{Row, row_named}
use Rattle.ei_spec.specs.Table.{table}
use Rattle.ei_spec.specs.Value.{Value}
use Rattle.ei_types.specs.declared.error.HandshakeError.{HandshakeError}
use Rattle.ei_types.specs.declared.error.HandshakeError.TheVariants as error
use Rattle.ei_session.specs.Handshake.{required}
use Rattle.ei_session.specs.Meaning.{Shake, Greets, Finishes, TellsContext, TellsName, TellsInterface, telling}
use Rattle.ei_ends.specs.Sent.{Sent}
use Rattle.ei_greeting.specs.Shaking.{shake_of, with_version}
use Rattle.ei_greeting.specs.Shaking.{Shake as Event, Connects}

-- ---- what a request of the handshake says

-- the arguments of a request that has the opcode of the row
abbrev pub values_by : Option (ℕ × Row) → Sent → Option (List Value)
values_by None m = None
values_by (Some r) m = if m.opcode == r.0 then Some m.values else None

-- the arguments of a request, where it is the one of that name to a handshake
abbrev pub asked : Sent → List ℕ → Option (List Value)
asked m name = values_by (row_named name (table false known.Handshake)) m

-- what it says, by the names of the five
abbrev pub shake_by : Sent → Option Shake
shake_by m = first
    (one Greets (asked m (codes "handshake_version"))
    ∷ none Finishes (asked m (codes "finish"))
    ∷ one TellsContext (asked m (codes "context_type"))
    ∷ text TellsName (asked m (codes "name"))
    ∷ telling (asked m (codes "interface_version"))
    ∷ [])

abbrev pub shake_to : KnownInterface → Sent → Option Shake
shake_to known.Handshake m = shake_by m
shake_to interface m = None

-- what a request says, where it is one of the handshake
unfoldable pub shake : Sent → Option Shake
shake m = shake_to m.interface m

-- ---- what a server was told

abbrev pub name_in : Option Shake → Option (List ℕ)
name_in (Some (TellsName name)) = Some name
name_in said = None

-- the name of the client
unfoldable pub name_told : List Sent → Option (List ℕ)
name_told past = last_said (λ before m. name_in (shake m)) past

abbrev pub context_in : Option Shake → Option ℕ
context_in (Some (TellsContext context)) = Some context
context_in said = None

-- whether it receives or sends
unfoldable pub context_told : List Sent → Option ℕ
context_told past = last_said (λ before m. context_in (shake m)) past

abbrev pub version_in : List ℕ → Option Shake → Option ℕ
version_in name (Some (TellsInterface n version)) = if bytes_eq n name then Some version else None
version_in name said = None

-- the version that it has of the interface: the last one told
unfoldable pub version_told : List Sent → KnownInterface → Option ℕ
version_told past interface = last_said (λ before m. version_in (name_of interface) (shake m)) past

-- the version that both ends have: the smaller of the two
abbrev pub settled : List Sent → KnownInterface → Option ℕ
settled past interface = option_map (min (server_version interface)) (version_told past interface)

-- the versions of all interfaces that are settled
abbrev pub versions_told : List Sent → NameMap
versions_told past = map_of (settled past) the_settled

abbrev pub says_finish : Option Shake → Bool
says_finish (Some Finishes) = true
says_finish said = false

-- whether a request says that the client is done
abbrev pub is_finish : Sent → Bool
is_finish m = says_finish (shake m)

-- whether each interface that a client must have is settled
abbrev pub has_required : List Sent → Bool
has_required past = list_all (λ interface. is_some (settled past interface)) required

abbrev pub refused_if : Bool → HandshakeError → Option HandshakeError
refused_if fails e = if fails then Some e else None

-- why a server refuses what is said behind these: it is none of the handshake, it comes again, or an interface is missing
abbrev pub refused : List Sent → Option Shake → Option HandshakeError
refused past None = Some error.NonHandshakeEvent
refused past (Some (TellsName name)) = refused_if (is_some (name_told past)) error.DuplicateEvent
refused past (Some (TellsContext context)) = refused_if (is_some (context_told past)) error.DuplicateEvent
refused past (Some Finishes) = if has_required past then None else Some error.MissingInterface
refused past (Some said) = None

-- each of these, the first in front, is accepted behind those before it
abbrev pub AllAccepted : List Sent → List Sent → Type 0
AllAccepted past [] = Unit {0}
AllAccepted past (m ∷ ms) = (refused past (shake m) ≡ None) × AllAccepted (m ∷ past) ms

-- ---- what a client was told

-- what an event says, where it is one of the handshake
unfoldable pub event_shake : Sent → Option Event
event_shake m = shake_of (Known m.interface) m.opcode m.values

-- the versions that a client was told: of each name the last one
unfoldable pub collected : List Sent → NameMap
collected [] = finite.empty
collected (m ∷ past) = with_version (collected past) (event_shake m)

abbrev pub says_connection : Option Event → Bool
says_connection (Some (Connects serial id version)) = true
says_connection said = false

-- whether an event hands the connection over
abbrev pub is_connection : Sent → Bool
is_connection m = says_connection (event_shake m)
