-- Worked streams of a client of buttons: what it is told, and which ids come next.
use Rattle.std.specs.Prelude.{ℕ, List, [], ◌∷◌, reverse, codes}
use Rattle.ei_spec.specs.Message.{Raw, le4, header}
use Rattle.ei_session.specs.Events.{replies}
use Rattle.ei_session.specs.Served.{accepted}
use Rattle.ei_session.specs.SettledMap.{Versions, settled_map}
use Rattle.ei_session.specs.Worked.{buttons, parts, shaken, bind}

-- the messages of the parts that a server takes, the newest first
abbrev pub taken : List (List ℕ) → List Raw
taken lists = accepted buttons (parts lists)

-- the events that answer them, the newest first
abbrev pub events : List (List ℕ) → List Raw
events lists = reverse (replies buttons (taken lists))

-- the versions that they settle
abbrev pub versions : List (List ℕ) → Versions
versions lists = settled_map (taken lists)

-- a handshake, and a device
abbrev pub bound : List (List ℕ) → List (List ℕ)
bound more = shaken ∷ bind 32 ∷ more

-- an announcement of the handshake itself, of version 1
abbrev pub handshake_announced : List ℕ
handshake_announced = parts (header 0 40 4 ∷ le4 13 ∷ codes "ei_handshake" ∷ (0 ∷ 0 ∷ 0 ∷ 0 ∷ []) ∷ le4 1 ∷ [])
