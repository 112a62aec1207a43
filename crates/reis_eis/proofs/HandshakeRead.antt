-- A handshake that read a message: the bytes that are unread stay behind it.
use Rattle.std.proofs.Common.{◌≡◌, ℕ, ◌<◌, List, length, Option, Some, None, Ok, sym, ap, subst}
use Rattle.ei_backend.specs.Backend.{BackendView, Shortens}
use Rattle.ei_backend.specs.Endpoint.{Endpoint}
use Rattle.ei_backend.specs.declared.message.PendingRequestResult.{PendingRequestResult}
use Rattle.ei_backend.specs.declared.message.PendingRequestResult.TheVariants as pending
use Rattle.ei_handshake.specs.Handshaker.{HandshakerView, Handles, HandlesAsked}
use Rattle.ei_handshake.specs.declared.server.EisHandshakeResp.{EisHandshakeResp}
use Rattle.ei_server.specs.declared.request.Request.{Request}
use Rattle.ei_server.specs.declared.request.Request.TheVariants as request
use Rattle.ei_server.specs.declared.handshake.Request.{Request as Asked}
use Rattle.ei_server.specs.declared.handshake.Request.TheVariants as asked

unread_asked : (id : ℕ) (h : HandshakerView) (b : BackendView) (m : Asked) (o : Option EisHandshakeResp) (new : HandshakerView) (sent : BackendView) → HandlesAsked id h b m (Ok o) new sent → sent.unread ≡ b.unread
unread_asked id h b asked.Finish None new sent k = absurd k
unread_asked id h b asked.Finish (Some resp) new sent k = ap (λ (e : Endpoint). e.unread) k.events
unread_asked id h b m None new sent k = ap (λ (x : BackendView). x.unread) k.2
unread_asked id h b m (Some resp) new sent k = absurd k

pub unread_stays : (h : HandshakerView) (b : BackendView) (r : Request) (o : Option EisHandshakeResp) (new : HandshakerView) (sent : BackendView) → Handles h b r (Ok o) new sent → sent.unread ≡ b.unread
unread_stays h b (request.Handshake proxy m) o new sent k = unread_asked proxy.id h b m o new sent k
unread_stays h b other o new sent k = absurd k

-- a request was taken out
pub taken_out : (old new : List ℕ) (said : Option (PendingRequestResult Request)) (r : Request) → said ≡ Some (pending.Request r) → Shortens old new said → length new < length old
taken_out old new said r e h = let s : Shortens old new (Some (pending.Request r)) = subst (λ (o : Option (PendingRequestResult Request)). Shortens old new o) e h in s

pub shorter_then : (old read new : List ℕ) → length read < length old → new ≡ read → length new < length old
shorter_then old read new h e = subst (λ (x : List ℕ). length x < length old) (sym e) h
