-- A pair of which both handshakes are done, and the seat that its server adds then.
use Rattle.std.specs.Prelude.{◌≡◌, ℕ, ◌<◌, ◌≤◌, ◌^◌, true, false, List, [], length, Some, None}
use Rattle.ei_types.specs.declared.enums.ContextType.TheVariants.{Receiver}
use Rattle.ei_session.specs.Setup.{seat_id}
use Rattle.ei_told.specs.Told.{after_connection, messages}
use Rattle.ei_linked.specs.declared.side.Side.TheVariants as side
use Rattle.ei_linked.specs.TwoEnds.{end_of}
use Rattle.ei_request.specs.Converter.{ConverterView as ServerConverter}
use Rattle.ei_acts.specs.Acting.{IsFresh}
use Rattle.ei_promises.specs.declared.calls.ServerCall.{ServerCall}
use Rattle.ei_promises.specs.declared.calls.ServerCall.TheVariants as call
use Rattle.ei_promises.specs.Pair.{Serves, PairView, IsNew}
use Rattle.ei_emitting.specs.Emits.{all_capabilities}
use Rattle.ei_emit.specs.Carried.{Moment}
use Rattle.ei_emit.specs.Stands.{Script, Followed}

-- a script of which nothing was carried out or given
abbrev pub new_script : ℕ → Script
new_script start = record { start = start; before = []; readings = []; given = [] }

-- The server's connection bears the serial and holds nothing, its next object gets the id of the seat, and its event is the last that
-- the server sent. The client took all of them, and its converter was told nothing behind them.
pub record IsShaken {H : Type 0} (start : ℕ) (p : PairView H) : Type 0 where
  pub whole : p.ends.spent ≡ false
  pub steady : p.steady ≡ true
  pub wanted : p.server_wanted ≡ false
  pub server : ServerConverter
  pub serves : p.server ≡ Serves server
  pub endpoint : server.handle.ctx ≡ p.ends.server.backend
  pub fresh : IsFresh server.handle
  pub serial : server.handle.last_serial ≡ start
  pub next : server.handle.ctx.table.next_own ≡ seat_id
  pub behind : after_connection (end_of side.Server p.ends).sent ≡ Some []
  pub followed : Followed (new_script start) [] p
  pub all : messages (end_of side.Client p.ends).taken ≡ (end_of side.Server p.ends).sent

-- a new pair, whose client receives and has a name that isn't too long, and whose server's connection will bear the serial
pub record IsReceiving {H : Type 0} (start : ℕ) (p : PairView H) : Type 0 where
  pub name : List ℕ
  pub fits : length name ≤ 1048555
  pub small : start < 2 ^ 32
  pub new : IsNew name Receiver start p

-- where the pair was such a new one, both handshakes are done then, and the clock wasn't read
abbrev pub ShakesHands : {H : Type 0} → Moment H → Moment H → Type 0
ShakesHands old new = (start : ℕ) → IsReceiving start old.pair → IsShaken start new.pair × (new.told ≡ old.told)

-- the call that adds the seat
abbrev pub seat_call : ServerCall
seat_call = call.AddSeat None all_capabilities
