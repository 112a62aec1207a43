-- The objects that messages announced and destroyed. Lists of messages have the newest first.
use Rattle.std.specs.Prelude.{ℕ, ◌+◌, Bool, false, ◌||◌, ◌&&◌, List, [], ◌∷◌, Option, Some, None, ◌==◌, if◌then◌else◌}
use Rattle.ei_spec.specs.declared.interface.KnownInterface.TheVariants as known
use Rattle.ei_spec.specs.Interface.{Known}
use Rattle.ei_backend.specs.Table.{own_start}
use Rattle.ei_ends.specs.Sent.{other, Sent, New, new_of, destroys}

-- the first of two that is there
abbrev pub or_else : Option New → Option New → Option New
or_else None o = o
or_else (Some n) o = Some n

-- what is announced, where it has that id
abbrev pub if_named : ℕ → Option New → Option New
if_named id None = None
if_named id (Some n) = if id == n.id then Some n else None

-- whether what is announced has that id
abbrev pub is_named : ℕ → Option New → Bool
is_named id None = false
is_named id (Some n) = id == n.id

-- the object of that id that these messages announced: the first one
unfoldable pub announced : Bool → List Sent → ℕ → Option New
announced events [] id = None
announced events (m ∷ past) id = or_else (announced events past id) (if_named id (new_of events m))

-- whether one of these messages is a destructor to that id
unfoldable pub destroyed : Bool → List Sent → ℕ → Bool
destroyed events [] id = false
destroyed events (m ∷ past) id = (destroys events m && (id == m.target)) || destroyed events past id

-- object 0, as it is from the first
abbrev pub first_new : New
first_new = record { id = 0; interface = Known known.Handshake; version = 1 }

-- object 0, where that is the id
abbrev pub first : ℕ → Option New
first id = if id == 0 then Some first_new else None

-- the object of an id that an end knows which sent these messages, and whose peer sent those
abbrev pub known_by : Bool → List Sent → List Sent → ℕ → Option New
known_by events own theirs id = or_else (first id) (or_else (announced events own id) (announced (other events) theirs id))

-- how many ids what is announced takes
abbrev pub counts : Option New → ℕ
counts None = 0
counts (Some n) = 1

-- the next own id of an end that sent these messages
unfoldable pub next_own : Bool → List Sent → ℕ
next_own events [] = own_start (other events)
next_own events (m ∷ past) = next_own events past + counts (new_of events m)
