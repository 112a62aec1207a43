-- The ids that are given next: by the server, and by the client.
use Rattle.std.specs.Prelude.{ℕ, ◌+◌, max, List, [], ◌∷◌, if◌then◌else◌}
use Rattle.std.specs.Option.{option_to_list}
use Rattle.ei_spec.specs.Message.{Raw}
use Rattle.ei_spec.specs.History.{joined}
use Rattle.ei_session.specs.Setup.{connection_id}
use Rattle.ei_session.specs.Handshake.{connected}
use Rattle.ei_session.specs.Devices.{next_id}
use Rattle.ei_session.specs.Refusals.{synced}

-- the id that the server gives next: the connection's up to the finish, and then that of the next device
unfoldable pub next_own : List Raw → ℕ
next_own before = if connected before then next_id before else connection_id

-- the ids of the callbacks that the client gave, the oldest first
unfoldable pub callbacks : List Raw → List ℕ
callbacks before = joined (λ b m. option_to_list (synced b m)) before

-- the greatest of some numbers, or 0
abbrev pub greatest : List ℕ → ℕ
greatest [] = 0
greatest (n ∷ ns) = max n (greatest ns)

-- the least id that the client may give next: it is above those of all callbacks, and above object 0
unfoldable pub next_peer : List Raw → ℕ
next_peer before = greatest (callbacks before) + 1
