-- A call of a client, and what it comes to.
use Rattle.std.specs.Prelude.{◌≡◌, ◌≤◌, ◌↔◌, true, false, Option, Result, Ok, Err, IsErrOf}
use Rattle.ei_spec.specs.Interface.{ObjectView}
use Rattle.ei_wire.specs.declared.error.SendError.{SendError}
use Rattle.ei_wire.specs.declared.error.SendError.TheVariants as send_error
use Rattle.ei_backend.specs.Table.{TableView, own_end}
use Rattle.ei_linked.specs.declared.side.Side.TheVariants as side
use Rattle.ei_linked.specs.TwoEnds.{WorldView, MayCall, CallsTo}
use Rattle.ei_promises.specs.Pair.{ClientStage, Asks, Follows, PairView, with_ends}
use Rattle.ei_promises.specs.Calling.{SyncsWith}
use Rattle.ei_pair.specs.declared.client_call.ClientCall.{ClientCall}
use Rattle.ei_pair.specs.declared.client_call.ClientCall.TheVariants as asked
use Rattle.ei_pair.specs.Parts.{PartsView, pair_in}
use Rattle.ei_pair.specs.Stepped.{IsSound}
use Rattle.ei_pair.specs.Spent.{SpendsAtCall}

-- its condition
abbrev pub MeetsClient : {H : Type 0} → ClientCall H → WorldView → Type 0
MeetsClient (asked.Call target opcode values) w = MayCall side.Client w target opcode values.now
MeetsClient (asked.SyncWith handler) w = Unit {0}

-- what a client was asked for, and what it answered; of a sync that was refused nothing has changed
abbrev pub AsksAt : {H : Type 0} → ClientStage H → ClientCall H → PairView H → Result (Option ObjectView) SendError → PairView H → Type 0
AsksAt (Asks h) call old result new = ⊥
AsksAt (Follows c) (asked.Call target opcode values) old result new = CallsTo side.Client target opcode values.now result old.ends new.ends × (new ≡ with_ends new.ends old)
AsksAt (Follows c) (asked.SyncWith handler) old (Ok o) new = SyncsWith handler c old o new
AsksAt (Follows c) (asked.SyncWith handler) old (Err e) new = new ≡ old

-- when a sync is refused: exactly where no own id is left, and never for its length
abbrev pub RefusesSync : {H : Type 0} → ClientCall H → Result (Option ObjectView) SendError → TableView → Type 0
RefusesSync (asked.Call target opcode values) result t = Unit {0}
RefusesSync (asked.SyncWith handler) result t = (IsErrOf result send_error.IdsExhausted ↔ (own_end t ≤ t.next_own)) × (IsErrOf result send_error.MessageTooLong → ⊥)

-- the client was asked for the call, and answered so
pub record AsksCall {H : Type 0} (call : ClientCall H) (old : PartsView H) (result : Result (Option ObjectView) SendError) (new : PartsView H) : Type 0 where
  pub does : new.ends.spent ≡ false → AsksAt (pair_in old).client call (pair_in old) result (pair_in new)
  pub refuses : RefusesSync call result (pair_in old).ends.client.backend.table
  pub memory : new.ends.spent ≡ true → IsErrOf result send_error.NoMemory
  pub spent : new.ends.spent ≡ true → SpendsAtCall (pair_in old) (pair_in new)
  pub sound : IsSound new
