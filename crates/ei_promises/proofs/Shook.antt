-- What a server's handshaker does with a request that comes in a handshake.
use Rattle.std.proofs.Common.{◌≡◌, ℕ, ◌<◌, Bool, true, false, cond, List, ◌∷◌, Option, Some, None, Result, Ok, Err, refl, sym, ap, subst, ◌∙◌, arith}
use Rattle.ei_types.specs.declared.error.Error.{Error}
use Rattle.ei_types.specs.declared.error.Error.TheVariants as error
use Rattle.ei_types.specs.declared.error.HandshakeError.{HandshakeError}
use Rattle.ei_types.specs.declared.error.HandshakeError.TheVariants as handshake_error
use Rattle.ei_session.specs.Meaning.{Shake}
use Rattle.ei_backend.specs.Backend.{BackendView}
use Rattle.ei_backend.specs.Endpoint.{endpoint_of}
use Rattle.ei_backend.specs.Table.{own_end}
use Rattle.ei_ends.specs.Sent.{Sent}
use Rattle.ei_server.specs.declared.request.Request.{Request}
use Rattle.ei_server.specs.declared.request.Request.TheVariants as request
use Rattle.ei_server.specs.declared.handshake.Request.{Request as Asked}
use Rattle.ei_server.specs.declared.handshake.Request.TheVariants as asked
use Rattle.ei_handshake.specs.declared.server.EisHandshakeResp.{EisHandshakeResp}
use Rattle.ei_handshake.specs.Handshaker.{HandshakerView, Handles, HandlesAsked, Finishes, Keeps, RefusesTold, RefusesFinish, IsSecond, is_repeated, Completes, told}
use Rattle.ei_handshake.specs.Handshaker as handshaker
use Rattle.ei_shaking.specs.Heard.{shake, refused, refused_if, is_finish, says_finish, has_required}
use Rattle.ei_request.specs.Typed.{shake_of}
use Rattle.ei_promises.specs.Keeping.{WasTold}
use Rattle.ei_promises.proofs.Lists.{not_both}
use Rattle.ei_promises.proofs.Requests.{message_of, says_shake}
use Rattle.ei_promises.proofs.Told.{told_more, required_same}

-- it was told one message more; or the client was done, and it handed the connection over or wanted memory
pub data Shook (serial : ℕ) (past : List Sent) (h : HandshakerView) (b : BackendView) (m : Sent) (answer : Result (Option EisHandshakeResp) Error) (left : HandshakerView) (ctx : BackendView) : Type 0 where
  ToldOne : answer ≡ Ok None → is_finish m ≡ false → WasTold serial (m ∷ past) left → ctx ≡ b → Shook serial past h b m answer left ctx
  Finished : (resp : EisHandshakeResp) → answer ≡ Ok (Some resp) → is_finish m ≡ true → Completes 0 h b resp left ctx → Shook serial past h b m answer left ctx
  Wanted : answer ≡ Err error.NoMemory → is_finish m ≡ true → endpoint_of ctx ≡ endpoint_of b → Shook serial past h b m answer left ctx

not_refused : (e : HandshakeError) (P : Type 0) → ◌≡◌ {A = Option HandshakeError} (Some e) None → P
not_refused e P h = cc

unless : (b : Bool) (e : HandshakeError) → refused_if b e ≡ None → b ≡ false
unless true e h = cc
unless false e h = refl

second_is : (came : Bool) (e : Error) → IsSecond came e → came ≡ true
second_is came (error.Handshake handshake_error.DuplicateEvent) h = h
second_is came e h = absurd h

module _ (serial : ℕ) (past : List Sent) (h : HandshakerView) (b : BackendView) (m : Sent) (left : HandshakerView) (ctx : BackendView) (t : WasTold serial past h) (ids : b.table.next_own < own_end b.table) where
  abbrev Is : Result (Option EisHandshakeResp) Error → Type 0
  Is answer = Shook serial past h b m answer left ctx

  -- what comes for the first time isn't refused
  once : (a : Asked) → shake m ≡ Some (shake_of a) → refused past (shake m) ≡ None → is_repeated h a ≡ false
  once (asked.Name name) e ok = t.named ∙ unless _ handshake_error.DuplicateEvent (sym (ap (refused past) e) ∙ ok)
  once (asked.ContextType kind) e ok = t.typed ∙ unless _ handshake_error.DuplicateEvent (sym (ap (refused past) e) ∙ ok)
  once (asked.HandshakeVersion version) e ok = refl
  once (asked.InterfaceVersion name version) e ok = refl
  once asked.Finish e ok = refl

  finishes : (s : Shake) → shake m ≡ Some s → is_finish m ≡ says_finish (Some s)
  finishes s e = ap says_finish e

  keeps : (a : Asked) → shake m ≡ Some (shake_of a) → says_finish (Some (shake_of a)) ≡ false → refused past (shake m) ≡ None → (answer : Result (Option EisHandshakeResp) Error) → Keeps h b a answer left ctx → Is answer
  keeps a e off ok (Ok None) k = ToldOne refl (finishes (shake_of a) e ∙ off) (subst (WasTold serial (m ∷ past)) (sym k.1) (told_more serial past m h t a e off)) k.2
  keeps a e off ok (Ok (Some resp)) k = absurd k
  keeps a e off ok (Err why) k = absurd (not_both (is_repeated h a) (second_is (is_repeated h a) why k.0) (once a e ok))

  complete : shake m ≡ Some (shake_of asked.Finish) → refused past (shake m) ≡ None → handshaker.has_required h.versions ≡ true
  complete e ok = required_same serial past m h t ∙ by (has_required past) (sym (ap (refused past) e) ∙ ok)
    where
      by : (c : Bool) → cond c None (Some handshake_error.MissingInterface) ≡ None → c ≡ true
      by true f = refl
      by false f = not_refused handshake_error.MissingInterface (false ≡ true) f

  refuses : (e : Error) → is_finish m ≡ true → handshaker.has_required h.versions ≡ true → RefusesFinish e 0 h b left ctx → Is (Err e)
  refuses error.NoMemory f c r = Wanted refl f r.endpoint
  refuses (error.Handshake handshake_error.MissingInterface) f c r = absurd (not_both (handshaker.has_required h.versions) c r.0)
  refuses error.IdsExhausted f c r = absurd (let most = r.1 in omega (arith, most, ids))
  refuses e f c r = absurd r

  ends : shake m ≡ Some (shake_of asked.Finish) → refused past (shake m) ≡ None → (answer : Result (Option EisHandshakeResp) Error) → Finishes 0 h b answer left ctx → Is answer
  ends e ok (Ok None) k = absurd k
  ends e ok (Ok (Some resp)) k = Finished resp refl (finishes (shake_of asked.Finish) e) k
  ends e ok (Err why) k = refuses why (finishes (shake_of asked.Finish) e) (complete e ok) k

  asked_so : (a : Asked) → shake m ≡ Some (shake_of a) → refused past (shake m) ≡ None → (answer : Result (Option EisHandshakeResp) Error) → HandlesAsked 0 h b a answer left ctx → Is answer
  asked_so (asked.HandshakeVersion version) e ok answer k = keeps (asked.HandshakeVersion version) e refl ok answer k
  asked_so (asked.Name name) e ok answer k = keeps (asked.Name name) e refl ok answer k
  asked_so (asked.ContextType kind) e ok answer k = keeps (asked.ContextType kind) e refl ok answer k
  asked_so (asked.InterfaceVersion name version) e ok answer k = keeps (asked.InterfaceVersion name version) e refl ok answer k
  asked_so asked.Finish e ok answer k = ends e ok answer k

-- any request
pub shook : (serial : ℕ) (past : List Sent) (h : HandshakerView) (b : BackendView) (r : Request) (answer : Result (Option EisHandshakeResp) Error) (left : HandshakerView) (ctx : BackendView) → WasTold serial past h → b.table.next_own < own_end b.table →
    (message_of r).target ≡ 0 → refused past (shake (message_of r)) ≡ None → Handles h b r answer left ctx → Shook serial past h b (message_of r) answer left ctx
shook serial past h b (request.Handshake proxy a) answer left ctx t ids zero ok d =
    asked_so serial past h b (message_of (request.Handshake proxy a)) left ctx t ids a (says_shake (request.Handshake proxy a)) ok answer (subst (λ (id : ℕ). HandlesAsked id h b a answer left ctx) zero d)
shook serial past h b r answer left ctx t ids zero ok d = not_refused handshake_error.NonHandshakeEvent (Shook serial past h b (message_of r) answer left ctx) (sym (ap (refused past) (says_shake r)) ∙ ok)
