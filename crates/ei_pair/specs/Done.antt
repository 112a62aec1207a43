-- Where the handshakes of a pair are done, by what was sent and taken, and the ids that a server's connection begins with.
use Rattle.std.specs.Prelude.{◌≡◌, ◌+◌, false}
use Rattle.ei_backend.specs.Table.{first_server_id}
use Rattle.ei_told.specs.Told.{messages}
use Rattle.ei_shaking.specs.Both.{is_handed}
use Rattle.ei_handshake.specs.Handshaker.{HandshakerView}
use Rattle.ei_request.specs.Converter.{ConverterView as ServerConverter}
use Rattle.ei_linked.specs.declared.side.Side.TheVariants as side
use Rattle.ei_linked.specs.TwoEnds.{end_of}
use Rattle.ei_promises.specs.Pair.{PairView, Shakes, Serves, client_done, server_done}
use Rattle.ei_pair.specs.Parts.{PartsView, pair_in}
use Rattle.ei_pair.specs.Stepped.{IsSound}

-- the server's handshake is done exactly where it sent the event that hands the connection over, and the client's where it took one
pub record AreDoneByLists {H : Type 0} (p : PairView H) : Type 0 where
  pub server : server_done p.server ≡ is_handed (end_of side.Server p.ends).sent
  pub client : client_done p.client ≡ is_handed (messages (end_of side.Client p.ends).taken)

-- so it is while the pair isn't spent
abbrev pub TellsDone : {H : Type 0} → PairView H → Type 0
TellsDone p = p.ends.spent ≡ false → AreDoneByLists p

-- where a server's handshake was done, its connection has the first id of a server, and the next own id is the one behind it
abbrev pub HasFirstIds : {H : Type 0} → PairView H → PairView H → Type 0
HasFirstIds old new = (h : HandshakerView) (c : ServerConverter) → old.server ≡ Shakes h → new.server ≡ Serves c →
    (c.handle.proxy.id ≡ first_server_id) × (c.handle.ctx.table.next_own ≡ first_server_id + 1)

-- what holds of a pair's parts between its calls
pub record IsConsistent {H : Type 0} (p : PartsView H) : Type 0 where
  pub sound : IsSound p
  pub tells : TellsDone (pair_in p)
