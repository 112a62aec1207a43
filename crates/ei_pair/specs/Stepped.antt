-- A step of a side: what is known where its message is handed on, and what it comes to.
use Rattle.std.specs.Prelude.{◌≡◌, Bool, true, false, List, Option, Some, Result}
use Rattle.ei_types.specs.declared.error.Error.{Error}
use Rattle.ei_backend.specs.declared.message.PendingRequestResult.TheVariants as pending
use Rattle.ei_client.specs.declared.event.Event.{Event}
use Rattle.ei_server.specs.declared.request.Request.{Request}
use Rattle.ei_ends.specs.Sent.{Sent}
use Rattle.ei_linked.specs.TwoEnds.{IsWorld}
use Rattle.ei_linked.specs.Written.{stored_onto}
use Rattle.ei_backend.specs.Backend.{BackendView}
use Rattle.ei_handshake.specs.Client.{ClientView}
use Rattle.ei_handshake.specs.Handshaker.{HandshakerView}
use Rattle.ei_event.specs.Typed.{IsLawfulReason}
use Rattle.ei_event.specs.Converter.{ConverterView as ClientConverter}
use Rattle.ei_promises.specs.Pair.{PairView, IsPair}
use Rattle.ei_promises.specs.Stepping.{ReadsRequest, ReadsEvent, server_taken, client_taken, or_wanted}
use Rattle.ei_promises.specs.Keeping.{Keeps}
use Rattle.ei_pair.specs.declared.server_end.ServerEnd.{ServerEnd}
use Rattle.ei_pair.specs.Parts.{PartsView, pair_in}

-- what holds of a pair at any time
pub record IsKept {H : Type 0} (p : PairView H) : Type 0 where
  pub pair : IsPair p
  pub keeps : Keeps p

-- and of what it is made of: the serial is the one that its handshaker has
pub record IsSound {H : Type 0} (p : PartsView H) : Type 0 where
  pub kept : IsKept (pair_in p)
  pub serial : p.serial ≡ p.tells.serial

-- the server just took the request
pub record TookRequest {H : Type 0} (r : Request) (p : PairView H) : Type 0 where
  pub world : IsWorld p.ends
  pub old : PairView H
  pub kept : IsKept old
  pub whole : old.ends.spent ≡ false
  pub reads : ReadsRequest (Some (pending.Request r)) old.ends p.ends
  pub is : p ≡ server_taken old

-- the client just took the event
pub record TookEvent {H : Type 0} (e : Event) (p : PairView H) : Type 0 where
  pub reason : IsLawfulReason e
  pub world : IsWorld p.ends
  pub old : PairView H
  pub kept : IsKept old
  pub whole : old.ends.spent ≡ false
  pub reads : ReadsEvent (Some (pending.Request e)) old.ends p.ends
  pub is : p ≡ client_taken old

-- the pair, of which a step of the server answered so, or of the client
abbrev pub server_answered : {H : Type 0} → Result Bool Error → PairView H → PairView H
server_answered result p = record p { server_wanted = or_wanted p.server_wanted result }

abbrev pub client_answered : {H : Type 0} → Result Bool Error → PairView H → PairView H
client_answered result p = record p { client_wanted = or_wanted p.client_wanted result }

-- the parts once the server's end is this, its handshaker that, and these messages are stored as sent
abbrev pub server_stored : {H : Type 0} → ServerEnd → List Sent → HandshakerView → PartsView H → PartsView H
server_stored s ms left p = record p {
  ends = record p.ends { server = record { context = s; sent = stored_onto true ms p.ends.server.sent; taken = p.ends.server.taken } };
  tells = left;
}

-- the parts once the client's endpoint is this, its handshaker and its converter those, and these messages are stored as sent
abbrev pub client_stored : {H : Type 0} → BackendView → List Sent → ClientView → Option (ClientConverter H) → PartsView H → PartsView H
client_stored b ms left c p = record p {
  ends = record p.ends { client = record { context = b; sent = stored_onto false ms p.ends.client.sent; taken = p.ends.client.taken } };
  asks = left;
  converter = c;
}
