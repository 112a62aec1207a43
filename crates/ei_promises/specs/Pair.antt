-- What a pair is: two ends over links, and at each of them a handshaker and then a converter. Lists have the newest first.
use Rattle.std.specs.Prelude.{◌≡◌, ℕ, Bool, true, false, List, [], ◌∷◌, Option, Some, None}
use Rattle.ei_types.specs.declared.enums.ContextType.{ContextType}
use Rattle.ei_spec.specs.NameMap.{NameMap}
use Rattle.ei_backend.specs.Backend.{BackendView}
use Rattle.ei_backend.specs.Endpoint.{endpoint_of}
use Rattle.ei_ends.specs.Sent.{Sent}
use Rattle.ei_ends.specs.Steps.{called, no_piece}
use Rattle.ei_linked.specs.declared.side.Side.{Side}
use Rattle.ei_linked.specs.declared.side.Side.TheVariants as side
use Rattle.ei_linked.specs.Stored.{StoredEnd}
use Rattle.ei_linked.specs.TwoEnds.{WorldView, IsWorld, new_stored}
use Rattle.ei_linked.specs.Written.{stored_onto}
use Rattle.ei_handshake.specs.Client.{ClientView, greeter, unshaken}
use Rattle.ei_handshake.specs.Handshaker.{HandshakerView, untold}
use Rattle.ei_shaking.specs.Messages.{greeting}
use Rattle.ei_handler.specs.declared.receipt.Receipt.{Receipt}
use Rattle.ei_event.specs.Converter.{ConverterView as ClientConverter}
use Rattle.ei_request.specs.Connection.{ConnectionView}
use Rattle.ei_request.specs.Converter.{ConverterView as ServerConverter}

-- ---- where an end stands

-- a client shakes hands, or its converter takes events
pub data ClientStage (H : Type 0) : Type 0 where
  Asks : (handshaker : ClientView) → ClientStage H
  Follows : (converter : ClientConverter H) → ClientStage H

-- a server shakes hands, or its converter takes requests; the connection then has the server's endpoint
pub data ServerStage : Type 0 where
  Shakes : (handshaker : HandshakerView) → ServerStage
  Serves : (converter : ServerConverter) → ServerStage

-- both ends with what lies between them, where each stands, whether the server was steady, and whether a step of the client or
-- of the server wanted memory
pub record PairView (H : Type 0) : Type 0 where
  pub ends : WorldView
  pub client : ClientStage H
  pub server : ServerStage
  pub steady : Bool
  pub client_wanted : Bool
  pub server_wanted : Bool

-- ---- what is lent

-- the client's converter, once its handshake is done
abbrev pub converter_in : {H : Type 0} → ClientStage H → Option (ClientConverter H)
converter_in (Asks h) = None
converter_in (Follows c) = Some c

-- the receipts of the handlers that were called
abbrev pub receipts_in : {H : Type 0} → ClientStage H → List Receipt
receipts_in (Asks h) = []
receipts_in (Follows c) = c.receipts

-- the server's connection, once its handshake is done
abbrev pub connection_in : ServerStage → Option ConnectionView
connection_in (Shakes h) = None
connection_in (Serves c) = Some c.handle

-- the versions that each end settled, where both handshakes are done
abbrev pub maps_of : {H : Type 0} → ClientStage H → ServerStage → Option (NameMap × NameMap)
maps_of (Follows c) (Serves s) = Some (c.kept.negotiated, s.handle.negotiated)
maps_of client server = None

abbrev pub maps_in : {H : Type 0} → PairView H → Option (NameMap × NameMap)
maps_in p = maps_of p.client p.server

abbrev pub client_done : {H : Type 0} → ClientStage H → Bool
client_done (Asks h) = false
client_done (Follows c) = true

abbrev pub server_done : ServerStage → Bool
server_done (Shakes h) = false
server_done (Serves c) = true

-- whether the handshake of a side is done
abbrev pub is_done : {H : Type 0} → Side → PairView H → Bool
is_done side.Client p = client_done p.client
is_done side.Server p = server_done p.server

-- whether a step of a side wanted memory
abbrev pub wanted : {H : Type 0} → Side → PairView H → Bool
wanted side.Client p = p.client_wanted
wanted side.Server p = p.server_wanted

-- ---- the ends

-- the server's connection has the endpoint of the server's end
abbrev pub HasEndpoint : ServerStage → BackendView → Type 0
HasEndpoint (Shakes h) b = Unit {0}
HasEndpoint (Serves c) b = c.handle.ctx ≡ b

-- what holds of a pair at any time
pub record IsPair {H : Type 0} (p : PairView H) : Type 0 where
  pub world : IsWorld p.ends
  pub endpoint : HasEndpoint p.server p.ends.server.backend

-- the server with another endpoint
abbrev pub on_endpoint : BackendView → ServerStage → ServerStage
on_endpoint b (Shakes h) = Shakes h
on_endpoint b (Serves c) = Serves (record c { handle = record c.handle { ctx = b } })

-- the pair with other ends, and all else as it was
abbrev pub with_ends : {H : Type 0} → WorldView → PairView H → PairView H
with_ends w p = record p { ends = w; server = on_endpoint w.server.backend p.server }

-- the end that sent these messages, the first first, which left that endpoint
abbrev pub having_sent_all : Bool → List Sent → BackendView → StoredEnd → StoredEnd
having_sent_all events ms b x = record { backend = b; sent = stored_onto events ms x.sent; taken = x.taken }

-- ---- a new pair

-- The server has begun, and nothing else has come to pass. The client will tell this name and what it is, and the connection will
-- bear the serial.
pub record IsNew {H : Type 0} (name : List ℕ) (kind : ContextType) (serial : ℕ) (p : PairView H) : Type 0 where
  pub client : p.client ≡ Asks (unshaken (greeter name kind))
  pub server : p.server ≡ Shakes (untold serial)
  pub client_end : p.ends.client ≡ new_stored true
  pub server_end : p.ends.server ≡ having_sent_all true (greeting ∷ []) p.ends.server.backend (new_stored false)
  pub server_endpoint : endpoint_of p.ends.server.backend ≡ endpoint_of (called true greeting (new_stored false).backend)
  pub to_client : p.ends.to_client ≡ no_piece
  pub to_server : p.ends.to_server ≡ no_piece
  pub whole : p.ends.spent ≡ false
  pub steady : p.steady ≡ true
  pub client_wanted : p.client_wanted ≡ false
  pub server_wanted : p.server_wanted ≡ false
