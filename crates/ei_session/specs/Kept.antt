-- What a message keeps as it was.
use Rattle.std.specs.Prelude.{◌≡◌, ℕ, Bool, true, false, List, [], ◌∷◌, Option, Some, None}
use Rattle.ei_spec.specs.declared.interface.KnownInterface.{KnownInterface}
use Rattle.ei_spec.specs.declared.interface.KnownInterface.TheVariants as known
use Rattle.ei_spec.specs.Message.{Raw}
use Rattle.ei_spec.specs.History.{occurs}
use Rattle.ei_session.specs.Setup.{Setup, connection_id, seat_id}
use Rattle.ei_session.specs.Handshake.{connected, settled, version}
use Rattle.ei_session.specs.Devices.{next_id}
use Rattle.ei_session.specs.Objects.{removes, object, interfaces_left}
use Rattle.ei_session.specs.Serial.{serial}

-- whether some message takes what is at the id away
abbrev pub is_removed : List Raw → ℕ → Bool
is_removed before id = occurs (λ b m. removes b m id) before

-- whether it is an interface of no device: of these a server has one object each at most, and a callback and a ping never
abbrev pub is_bare : KnownInterface → Bool
is_bare known.Handshake = true
is_bare known.Connection = true
is_bare known.Callback = true
is_bare known.Pingpong = true
is_bare known.Seat = true
is_bare interface = false

-- the one id that it may have
abbrev pub home : KnownInterface → Option ℕ
home known.Handshake = Some 0
home known.Connection = Some connection_id
home known.Seat = Some seat_id
home interface = None

-- how many frames the end of a group makes
abbrev pub frames_for : {X : Type 0} → List X → ℕ
frames_for [] = 0
frames_for (x ∷ xs) = 1

-- the message changes no object, no serial and no id
pub record Keeps (setup : Setup) (before : List Raw) (m : Raw) : Type 0 where
  pub same_objects : (id : ℕ) → object (m ∷ before) id ≡ object before id
  pub same_left : (device : ℕ) → interfaces_left (m ∷ before) device ≡ interfaces_left before device
  pub same_serial : serial setup (m ∷ before) ≡ serial setup before
  pub same_next : next_id (m ∷ before) ≡ next_id before
  pub same_connected : connected (m ∷ before) ≡ connected before

-- the message changes no version
pub record KeepsVersions (before : List Raw) (m : Raw) : Type 0 where
  pub same_settled : (interface : KnownInterface) → settled (m ∷ before) interface ≡ settled before interface
  pub same_version : (interface : KnownInterface) → version (m ∷ before) interface ≡ version before interface

-- neither, after the finish
pub record Plainly (setup : Setup) (before : List Raw) (m : Raw) : Type 0 where
  pub keeps : Keeps setup before m
  pub versions : KeepsVersions before m
  pub on : connected before ≡ true
