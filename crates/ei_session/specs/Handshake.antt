-- The handshake, told by the messages before a position, the newest first.
use Rattle.std.specs.Prelude.{ℕ, min, Bool, not, ◌&&◌, List, [], ◌∷◌, Option, Some, None, is_some, unwrap_or, ◌==◌, if◌then◌else◌}
use Rattle.std.specs.Option.{option_map}
use Rattle.std.specs.List.{list_all}
use Rattle.std.specs.Str.{bytes_eq}
use Rattle.ei_spec.specs.declared.interface.KnownInterface.{KnownInterface}
use Rattle.ei_spec.specs.declared.interface.KnownInterface.TheVariants as known
use Rattle.ei_spec.specs.Interface.{name_of, server_version}
use Rattle.ei_spec.specs.Value.{Value, Word, Letters}
use Rattle.ei_spec.specs.Message.{Raw}
use Rattle.ei_spec.specs.History.{last_said, occurs}
use Rattle.ei_session.specs.Arguments.{request_args}

-- a message to object 0 of the opcode of `finish`
unfoldable pub is_finish : Raw → Bool
is_finish m = (m.id == 0) && (m.opcode == 1)

-- whether a finish came
unfoldable pub connected : List Raw → Bool
connected before = occurs (λ _ m. is_finish m) before

-- the first finish
unfoldable pub is_the_finish : List Raw → Raw → Bool
is_the_finish before m = is_finish m && not (connected before)

-- a name, and the version that a client has of it
pub record Announced : Type 0 where
  pub name : List ℕ
  pub version : ℕ

-- what the arguments of `interface_version` announce
abbrev pub announced_by : Option (List Value) → Option Announced
announced_by (Some (Letters name ∷ Word version ∷ [])) = Some (record { name = name; version = version })
announced_by values = None

-- what a message to object 0 announces
unfoldable pub announced : Raw → Option Announced
announced m = if (m.id == 0) && (m.opcode == 4) then announced_by (request_args known.Handshake m) else None

-- the version, where the name is this one
abbrev pub version_if : List ℕ → Option Announced → Option ℕ
version_if name None = None
version_if name (Some a) = if bytes_eq a.name name then Some a.version else None

-- the version that the message announces of the name, where no finish lies before it
unfoldable pub announces : List ℕ → List Raw → Raw → Option ℕ
announces name before m = if connected before then None else version_if name (announced m)

-- the version that both ends have: the smaller of the server's and the one announced last
unfoldable pub settled : List Raw → KnownInterface → Option ℕ
settled before interface = option_map (min (server_version interface)) (last_said (announces (name_of interface)) before)

-- the version in which objects of the interface are made
unfoldable pub version : List Raw → KnownInterface → ℕ
version before interface = unwrap_or (settled before interface) 1

-- ---- what a client must announce

-- the interfaces that it must announce before its finish
abbrev pub required : List KnownInterface
required = known.Connection ∷ known.Callback ∷ known.Pingpong ∷ []

-- whether each of them is settled
unfoldable pub all_settled : List Raw → Bool
all_settled before = list_all (λ interface. is_some (settled before interface)) required
