-- What may be relied on of a pair, in whatever order it is called, flushed, delivered and stepped. Lists have the newest first.
use Rattle.std.specs.Prelude.{◌≡◌, ℕ, ◌<◌, ◌≤◌, Bool, true, false, List, ◌∷◌, ◌++◌, length, map, Option, Some, None, Result, Ok, Err, codes}
use Rattle.std.specs.List.{Contains}
use Rattle.ei_spec.specs.NameMap.{NameMap}
use Rattle.ei_spec.specs.declared.interface.KnownInterface.TheVariants as known
use Rattle.ei_spec.specs.Rows.{row_named}
use Rattle.ei_spec.specs.Table.{table}
use Rattle.ei_types.specs.declared.error.Error.{Error}
use Rattle.ei_types.specs.declared.error.Error.TheVariants as error
use Rattle.ei_types.specs.declared.error.EventError.{EventError}
use Rattle.ei_ends.specs.Sent.{Sent, New, new_of}
use Rattle.ei_reported.specs.Event.{opcode_by}
use Rattle.ei_told.specs.Told.{NoneMissed}
use Rattle.ei_linked.specs.declared.side.Side.{Side}
use Rattle.ei_linked.specs.declared.side.Side.TheVariants as side
use Rattle.ei_linked.specs.TwoEnds.{end_of, AllDeliveredAt, HasTakenAll}
use Rattle.ei_handler.specs.declared.receipt.Receipt.{Receipt}
use Rattle.ei_event.specs.Converter.{ConverterView as ClientConverter}
use Rattle.ei_acts.specs.There.{IdsDiffer}
use Rattle.ei_promises.specs.Pair.{ClientStage, Asks, Follows, PairView, is_done, maps_in}

-- ---- both ends settle the same

-- where there are two, they are equal
abbrev pub AreSame : Option (NameMap × NameMap) → Type 0
AreSame None = Unit {0}
AreSame (Some m) = m.0 ≡ m.1

-- they are the same, while no step of the client wanted memory
abbrev pub SettlesTheSame : {H : Type 0} → PairView H → Type 0
SettlesTheSame p = p.client_wanted ≡ false → AreSame (maps_in p)

-- ---- a receipt comes behind its sync

-- the message is a sync that announced the callback
pub record IsSyncFor (id : ℕ) (m : Sent) : Type 0 where
  pub new : New
  pub interface : m.interface ≡ known.Connection
  pub opcode : m.opcode ≡ opcode_by (row_named (codes "sync") (table false known.Connection))
  pub announces : new_of false m ≡ Some new
  pub callback : new.id ≡ id

-- where a handler was called, the server has taken all that the client sent before its sync, and the sync; and none is called twice
pub record CallsBehind (receipts : List Receipt) (sent : List Sent) (taken : ℕ) : Type 0 where
  pub heard : (r : Receipt) → Contains receipts r → (a b : List Sent) (m : Sent) → sent ≡ a ++ (m ∷ b) → IsSyncFor r.callback m → length b < taken
  pub once : IdsDiffer (map (λ r. r.callback) receipts)

abbrev pub CallsInTime : {H : Type 0} → PairView H → Type 0
CallsInTime p = (c : ClientConverter _) → p.client ≡ Follows c → CallsBehind c.receipts (end_of side.Client p.ends).sent (length (end_of side.Server p.ends).taken)

-- ---- a steady server is never refused

-- a step of the client that answered this refused no event for its state, where the server was steady, no step of the client wanted
-- memory before, and it missed no message
abbrev pub RefusesNone : {H : Type 0} → PairView H → Result Bool Error → Type 0
RefusesNone old result = old.steady ≡ true → old.client_wanted ≡ false → NoneMissed (end_of side.Client old.ends).taken → (why : EventError) → result ≡ Err (error.Event why) → ⊥

-- ---- the handshakes complete

-- the name of a client that shakes hands isn't too long for its message
abbrev pub NameFits : {H : Type 0} → ClientStage H → Type 0
NameFits (Asks h) = length h.greeter.name ≤ 1048555
NameFits (Follows c) = Unit {0}

-- no step wanted memory
abbrev pub NoneWanted : {H : Type 0} → PairView H → Type 0
NoneWanted p = (p.client_wanted ≡ false) × (p.server_wanted ≡ false)

-- a step of a side that shakes hands is refused for want of memory alone
abbrev pub ShakesFreely : {H : Type 0} → Side → PairView H → Result Bool Error → Type 0
ShakesFreely side old result = NameFits old.client → NoneWanted old → is_done side old ≡ false → (e : Error) → result ≡ Err e → e ≡ error.NoMemory

-- where each side has taken all that the other sent, both are done
abbrev pub Completes : {H : Type 0} → PairView H → Type 0
Completes p = NameFits p.client → p.ends.spent ≡ false → NoneWanted p → HasTakenAll side.Client p.ends → HasTakenAll side.Server p.ends →
    (is_done side.Client p ≡ true) × (is_done side.Server p ≡ true)

-- a step that found no message took all that was sent, where nothing is on its way
abbrev pub TakesAll : {H : Type 0} → Side → PairView H → Result Bool Error → Type 0
TakesAll side old result = result ≡ Ok false → AllDeliveredAt side old.ends → HasTakenAll side old.ends
