-- What events tell the client who reads them by the table of messages: which objects there are, and which are gone.
-- At `event ∷ earlier` the event comes, and `earlier` are those before it, the newest first.
use Rattle.std.specs.Prelude.{◌≡◌, ◌⊎◌, ℕ, ◌<◌, ◌^◌, Bool, true, false, ◌&&◌, List, [], ◌∷◌, ◌++◌, reverse, Option, Some, None, is_some, unwrap_or, ◌==◌}
use Rattle.std.specs.Prelude.{if◌then◌else◌}
use Rattle.std.specs.Option.{option_or}
use Rattle.ei_spec.specs.declared.interface.KnownInterface.{KnownInterface}
use Rattle.ei_spec.specs.declared.interface.KnownInterface.TheVariants as known
use Rattle.ei_spec.specs.Interface.{known_of}
use Rattle.ei_spec.specs.Value.{Value}
use Rattle.ei_spec.specs.Rows.{Announces, Nothing, Fixed, Named, Row, row_at, new_id, name_in}
use Rattle.ei_spec.specs.Table.{table}
use Rattle.ei_spec.specs.Message.{Raw, IsBytes}
use Rattle.ei_session.specs.Setup.{Setup}
use Rattle.ei_session.specs.Arguments.{row_args}
use Rattle.ei_session.specs.Refusals.{synced}
use Rattle.ei_session.specs.Events.{replies}
use Rattle.ei_session.specs.Served.{accepted}
use Rattle.ei_spec.specs.Arguments.{AreOf}

-- ---- what events announce and destroy

-- the row of an event to an object of the interface
abbrev pub row_of : KnownInterface → Raw → Option Row
row_of interface event = row_at event.opcode (table true interface)

-- the interface of what a row announces by these arguments
abbrev pub told_as : Announces → List Value → Option KnownInterface
told_as Nothing values = None
told_as (Fixed interface) values = Some interface
told_as Named values = known_of (name_in values)

-- the interface of the id, where the row announces that id by these arguments
abbrev pub told_by : ℕ → Option Row → Option (List Value) → Option KnownInterface
told_by id (Some row) (Some values) = if new_id row.kinds values == id then told_as row.announces values else None
told_by id row values = None

-- the interface of the id, where the event announces it, as it goes to an object of this interface
abbrev pub tells : KnownInterface → Raw → ℕ → Option KnownInterface
tells interface event id = told_by id (row_of interface event) (row_args (row_of interface event) event)

-- the interface that the client is told of the id: object 0 is the handshake, and any other is what an event announced
unfoldable pub told : List Raw → ℕ → Option KnownInterface
told [] id = if id == 0 then Some known.Handshake else None
told (event ∷ earlier) id = option_or (tells (unwrap_or (told earlier event.id) known.Callback) event id) (told earlier id)

-- the interface of the event's target: what no event announced is the client's own, a callback
abbrev pub interface_of : List Raw → Raw → KnownInterface
interface_of earlier event = unwrap_or (told earlier event.id) known.Callback

abbrev pub has_mark : Option Row → Bool
has_mark None = false
has_mark (Some row) = row.destroys

-- whether the event goes to the id and destroys it, by the mark of its row
unfoldable pub destroys : ℕ → List Raw → Raw → Bool
destroys id earlier event = (event.id == id) && has_mark (row_of (interface_of earlier event) event)

-- ---- what holds of an event

-- The event reads as the row of its opcode, to an object of the interface, with values of the row's kinds.
pub record ReadsAs (interface : KnownInterface) (event : Raw) (row : Row) (values : List Value) : Type 0 where
  pub is_row : row_of interface event ≡ Some row
  pub reads : row_args (Some row) event ≡ Some values
  pub kinds : AreOf row.kinds values

-- The event answers a `sync` of these messages, and goes to its callback: those before it answer the messages before the `sync`.
pub record Calls (setup : Setup) (past earlier : List Raw) (event : Raw) : Type 0 where
  pub more : List Raw
  pub sync : Raw
  pub before : List Raw
  pub place : past ≡ more ++ (sync ∷ before)
  pub callback : synced before sync ≡ Some event.id
  pub first : reverse earlier ≡ replies setup before

-- One of the earlier events announces the id.
pub record IsAnnounced (earlier : List Raw) (id : ℕ) : Type 0 where
  pub later : List Raw
  pub event : Raw
  pub before : List Raw
  pub place : earlier ≡ later ++ (event ∷ before)
  pub announced : is_some (tells (interface_of before event) event id) ≡ true

-- the target is object 0, or an earlier event announced it, or it is the callback of the `sync` answered
abbrev pub HasTarget : Setup → List Raw → List Raw → Raw → Type 0
HasTarget setup past earlier event = (event.id ≡ 0) ⊎ (IsAnnounced earlier event.id ⊎ Calls setup past earlier event)

-- In the replies to the messages of the stream the event comes right behind the earlier ones; the first serial is of four bytes.
pub record IsReply (setup : Setup) (stream : List ℕ) (earlier : List Raw) (event : Raw) : Type 0 where
  pub serial : setup.serial < 2 ^ 32
  pub bytes : IsBytes stream
  pub later : List Raw
  pub place : replies setup (accepted setup stream) ≡ reverse earlier ++ (event ∷ later)
