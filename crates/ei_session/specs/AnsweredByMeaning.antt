-- What answers a request to what is there, by what it asks; and what comes and goes with it.
use Rattle.std.specs.Prelude.{ℕ, ◌+◌, List, [], ◌∷◌, ◌++◌, length, Option, Some, None, if◌then◌else◌}
use Rattle.ei_spec.specs.Message.{Raw}
use Rattle.ei_session.specs.Setup.{Setup}
use Rattle.ei_session.specs.Handshake.{version}
use Rattle.ei_session.specs.Meaning.{Meaning, Syncs, ReleasesSeat, Binds, RequestsDevice, Closes, Releases}
use Rattle.ei_session.specs.Devices.{not_empty, interfaces_of, next_id, exhausts}
use Rattle.ei_session.specs.Objects.{interfaces_left}
use Rattle.ei_session.specs.Serial.{steps_of, serial}
use Rattle.ei_session.specs.Events.{callback_event, device_events, destroyed_events}

-- the ids that go with the target of that id
abbrev pub gone_for : List Raw → ℕ → Option Meaning → List ℕ
gone_for before id (Some ReleasesSeat) = id ∷ []
gone_for before id (Some Closes) = interfaces_left before id ++ (id ∷ [])
gone_for before id (Some Releases) = id ∷ []
gone_for before id asked = []

-- how many serials are used
abbrev pub steps_for : List Raw → Raw → Option Meaning → ℕ
steps_for before m (Some ReleasesSeat) = 1
steps_for before m (Some (Binds mask)) = steps_of (exhausts before m) (not_empty (Some mask))
steps_for before m (Some (RequestsDevice mask)) = steps_of (exhausts before m) (not_empty (Some mask))
steps_for before m (Some Closes) = length (interfaces_left before m.id) + 1
steps_for before m (Some Releases) = 1
steps_for before m asked = 0

-- the events of a device of the mask; none where the ids run out with it
abbrev pub device_reply : Setup → List Raw → Raw → Option ℕ → List Raw
device_reply setup before m None = []
device_reply setup before m (Some mask) =
    if exhausts before m then [] else device_events (version before) (next_id before) (interfaces_of mask) (serial setup (m ∷ before))

-- the events that answer
abbrev pub reply_for : Setup → List Raw → Raw → Option Meaning → List Raw
reply_for setup before m (Some (Syncs callback version)) = callback_event callback ∷ []
reply_for setup before m (Some ReleasesSeat) = destroyed_events (serial setup before) (m.id ∷ [])
reply_for setup before m (Some (Binds mask)) = device_reply setup before m (not_empty (Some mask))
reply_for setup before m (Some (RequestsDevice mask)) = device_reply setup before m (not_empty (Some mask))
reply_for setup before m (Some Closes) = destroyed_events (serial setup before) (interfaces_left before m.id ++ (m.id ∷ []))
reply_for setup before m (Some Releases) = destroyed_events (serial setup before) (m.id ∷ [])
reply_for setup before m asked = []
