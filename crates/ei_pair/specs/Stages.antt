-- What a handshaker or a converter does with a message, by the parts that it stands in: what it sent isn't stored yet.
use Rattle.std.specs.Prelude.{◌≡◌, ℕ, List, [], Option, Some, None, Result, Ok, Err}
use Rattle.ei_types.specs.declared.error.Error.{Error}
use Rattle.ei_backend.specs.Backend.{BackendView}
use Rattle.ei_client.specs.declared.event.Event.{Event}
use Rattle.ei_server.specs.declared.request.Request.{Request}
use Rattle.ei_handshake.specs.declared.client.HandshakeResp.{HandshakeResp}
use Rattle.ei_handshake.specs.declared.server.EisHandshakeResp.{EisHandshakeResp}
use Rattle.ei_handshake.specs.Client.{ClientView, HandlesEvent}
use Rattle.ei_handshake.specs.Handshaker.{HandshakerView, Handles, Finishes}
use Rattle.ei_event.specs.Connection.{connected}
use Rattle.ei_event.specs.Converter.{ConverterView as ClientConverter, new_converter, callback_in, Receives, without_called}
use Rattle.ei_event.specs.Handles.{Handles as HandlesTold}
use Rattle.ei_request.specs.Connection.{new_connection}
use Rattle.ei_request.specs.Converter.{ConverterView as ServerConverter}
use Rattle.ei_request.specs.Handling.{Handles as HandlesAsked}
use Rattle.ei_promises.specs.Stepping.{answered_on_event}
use Rattle.ei_pair.specs.declared.server_end.ServerEnd.{ServerEnd}
use Rattle.ei_pair.specs.declared.server_end.ServerEnd.TheVariants as end

-- what is left of an answer, for who hands a message on
abbrev pub as_done : {A : Type 0} → Result A Error → Result (Unit {0}) Error
as_done (Ok a) = Ok tt
as_done (Err e) = Err e

-- ---- the server

-- a server's end once its handshaker answered so: with the connection its converter is made
abbrev pub end_after : Result (Option EisHandshakeResp) Error → ℕ → BackendView → ServerEnd
end_after (Ok (Some resp)) serial ctx = end.Talking (record { handle = new_connection ctx resp serial; queue = [] })
end_after answer serial ctx = end.Shaking ctx

-- its handshaker handled the request of a finish, to the object of that id
pub record FinishesEnd (id : ℕ) (h : HandshakerView) (b : BackendView) (result : Result (Unit {0}) Error) (left : HandshakerView) (new : ServerEnd) : Type 0 where
  pub answer : Result (Option EisHandshakeResp) Error
  pub ctx : BackendView
  pub finishes : Finishes id h b answer left ctx
  pub answers : result ≡ as_done answer
  pub leaves : new ≡ end_after answer h.serial ctx

-- its handshaker handled the request
pub record ShakesEnd (h : HandshakerView) (b : BackendView) (r : Request) (result : Result (Unit {0}) Error) (left : HandshakerView) (new : ServerEnd) : Type 0 where
  pub answer : Result (Option EisHandshakeResp) Error
  pub ctx : BackendView
  pub handles : Handles h b r answer left ctx
  pub answers : result ≡ as_done answer
  pub leaves : new ≡ end_after answer h.serial ctx

-- its converter handled the request
pub record ServesEnd (c : ServerConverter) (r : Request) (before after : Option (List ℕ)) (result : Result (Unit {0}) Error) (new : ServerEnd) : Type 0 where
  pub left : ServerConverter
  pub handles : HandlesAsked c r before result after left
  pub leaves : new ≡ end.Talking left

-- its handshaker or its converter handled the request: `before` and `after` are what the clock tells
abbrev pub ObeysEnd : ServerEnd → HandshakerView → Request → Option (List ℕ) → Option (List ℕ) → Result (Unit {0}) Error → HandshakerView → ServerEnd → Type 0
ObeysEnd (end.Shaking b) h r before after result left new = ShakesEnd h b r result left new × (after ≡ before)
ObeysEnd (end.Talking c) h r before after result left new = ServesEnd c r before after result new × (left ≡ h)

-- a server's end that shakes hands, on this endpoint
abbrev pub IsShakingOn : ServerEnd → BackendView → Type 0
IsShakingOn x b = x ≡ end.Shaking b

-- ---- the client

abbrev pub converter_after : {H : Type 0} → Result (Option HandshakeResp) Error → Option (ClientConverter H)
converter_after (Ok (Some resp)) = Some (new_converter (connected resp))
converter_after answer = None

-- its handshaker handled the event
pub record AsksEnd {H : Type 0} (h : ClientView) (b : BackendView) (e : Event) (result : Result (Unit {0}) Error) (left : ClientView) (ctx : BackendView)
    (new : Option (ClientConverter H)) : Type 0 where
  pub answer : Result (Option HandshakeResp) Error
  pub handles : HandlesEvent h b e answer left ctx
  pub answers : result ≡ as_done answer
  pub leaves : new ≡ converter_after answer

-- its converter handled the event; what a handler may answer is told by `may`
pub record FollowsEnd {H : Type 0} (may : H → ℕ → ℕ → Type 0) (c : ClientConverter H) (b : BackendView) (e : Event) (before after : Option (List ℕ))
    (result : Result (Unit {0}) Error) (ctx : BackendView) (new : Option (ClientConverter H)) : Type 0 where
  pub left : ClientConverter H
  pub handles : HandlesTold c.kept e before after result left.kept
  pub receipts : Receives may (callback_in e) result c.waiting c.receipts left.receipts
  pub handlers : left.waiting ≡ without_called (callback_in e) result c.waiting
  pub sends : ctx ≡ answered_on_event result e b
  pub leaves : new ≡ Some left

-- its handshaker or its converter handled the event
abbrev pub HearsEnd : {H : Type 0} → (H → ℕ → ℕ → Type 0) → Option (ClientConverter H) → ClientView → BackendView → Event → Option (List ℕ) → Option (List ℕ) →
    Result (Unit {0}) Error → ClientView → BackendView → Option (ClientConverter H) → Type 0
HearsEnd may None h b e before after result left ctx new = AsksEnd h b e result left ctx new × (after ≡ before)
HearsEnd may (Some c) h b e before after result left ctx new = FollowsEnd may c b e before after result ctx new × (left ≡ h)
