-- What a client's handshaker does with an event that comes in a handshake.
use Rattle.std.proofs.Common.{◌≡◌, ℕ, ◌⊎◌, true, false, inl, inr, List, [], ◌∷◌, Option, Some, None, Result, Ok, Err, refl, sym, ap, subst, ◌∙◌}
use Rattle.std.specs.Prelude.{is_some}
use Rattle.std.specs.FinMap as finite
use Rattle.ei_spec.specs.Interface.{ObjectView, known_of}
use Rattle.ei_spec.specs.NameMap.{NameMap}
use Rattle.ei_types.specs.declared.error.Error.{Error}
use Rattle.ei_types.specs.declared.error.Error.TheVariants as error
use Rattle.ei_backend.specs.Backend.{BackendView}
use Rattle.ei_backend.specs.Endpoint.{endpoint_of}
use Rattle.ei_ends.specs.Sent.{Sent}
use Rattle.ei_client.specs.declared.event.Event.{Event}
use Rattle.ei_client.specs.declared.event.Event.TheVariants as event
use Rattle.ei_client.specs.declared.handshake.Event.{Event as Told}
use Rattle.ei_client.specs.declared.handshake.Event.TheVariants as told
use Rattle.ei_greeting.specs.Shaking.{Shake, Begins, Tells, Connects, is_long, with_version}
use Rattle.ei_greeting.specs.Shaking as greeter
use Rattle.ei_handshake.specs.declared.client.HandshakeResp.{HandshakeResp}
use Rattle.ei_handshake.specs.Handshaker.{sends}
use Rattle.ei_handshake.specs.Client.{ClientView, HandlesEvent, HandlesTold, Greets, KeepsVersion, Ends, HandsOver}
use Rattle.ei_shaking.specs.Messages.{greeting, asked_by}
use Rattle.ei_shaking.specs.Heard.{event_shake, collected, is_connection, says_connection}
use Rattle.ei_promises.specs.Stepping.{asked_on}
use Rattle.ei_promises.proofs.Lists.{not_both}
use Rattle.ei_promises.proofs.Greetings.{goes_on, is_known, IsNext}
use Rattle.ei_promises.proofs.Events.{message_of, says_shake}

-- the server began, and the client told all of itself, or nothing; or it was told one thing more; or the connection was handed over
pub data Asked (past : List Sent) (h : ClientView) (b : BackendView) (e : Event) (answer : Result (Option HandshakeResp) Error) (left : ClientView) (ctx : BackendView) : Type 0 where
  Greeted : answer ≡ Ok None → event_shake (message_of e) ≡ Some Begins → asked_on answer h e ≡ asked_by h.greeter → left ≡ h → is_long h.greeter 0 ≡ false → endpoint_of ctx ≡ endpoint_of (sends b (greeter.greeting h.greeter 0)) →
      Asked past h b e answer left ctx
  Silent : (why : Error) → answer ≡ Err why → event_shake (message_of e) ≡ Some Begins → asked_on answer h e ≡ [] → left ≡ h → (why ≡ error.NoMemory) ⊎ ((why ≡ error.MessageTooLong) × (is_long h.greeter 0 ≡ true)) → endpoint_of ctx ≡ endpoint_of b → Asked past h b e answer left ctx
  ToldOne : answer ≡ Ok None → goes_on (event_shake (message_of e)) ≡ true → is_connection (message_of e) ≡ false → asked_on answer h e ≡ [] → left.greeter ≡ h.greeter → left.versions ≡ collected (message_of e ∷ past) → ctx ≡ b → Asked past h b e answer left ctx
  Handed : (serial : ℕ) → (connection : ObjectView) → (proxy : _) → e ≡ event.Handshake proxy (told.Connection serial connection) → (resp : HandshakeResp) → answer ≡ Ok (Some resp) → asked_on answer h e ≡ [] → HandsOver h serial connection resp left → ctx ≡ b → Asked past h b e answer left ctx

collected_more : (past : List Sent) (m : Sent) → collected (m ∷ past) ≡ with_version (collected past) (event_shake m)
unfolding collected
collected_more past m = refl

begins : event_shake greeting ≡ Some Begins
unfolding event_shake
begins = refl

-- an event that tells of an interface tells of one of the protocol
tells_known : (m : Sent) (past : List Sent) (name : List ℕ) (version : ℕ) → event_shake m ≡ Some (Tells name version) → IsNext m past → known_of name ≡ None → ⊥
tells_known m [] name version e n none = let both : ◌≡◌ {A = Option Shake} (Some Begins) (Some (Tells name version)) = sym begins ∙ ap event_shake (sym n) ∙ e in cc
tells_known m (p ∷ past) name version e n none = not_both (is_some (known_of name)) (sym (ap is_known e) ∙ n.3) (ap is_some none)

module _ (past : List Sent) (h : ClientView) (b : BackendView) (left : ClientView) (ctx : BackendView) where
  -- the server begins
  begun : (proxy : _) (version : ℕ) (answer : Result (Option HandshakeResp) Error) → Greets 0 h b answer left ctx → event_shake (message_of (event.Handshake proxy (told.HandshakeVersion version))) ≡ Some Begins →
      Asked past h b (event.Handshake proxy (told.HandshakeVersion version)) answer left ctx
  begun proxy version (Ok None) d s = Greeted refl s refl d.0 d.1.0 d.1.1
  begun proxy version (Ok (Some resp)) d s = absurd d
  begun proxy version (Err error.NoMemory) d s = Silent error.NoMemory refl s refl d.0 (inl refl) d.1
  begun proxy version (Err error.MessageTooLong) d s = Silent error.MessageTooLong refl s refl d.0 (inr (refl, d.1.0)) (ap endpoint_of d.1.1)
  begun proxy version (Err e) d s = absurd d.1

  -- it tells of an interface
  kept : (proxy : _) (name : List ℕ) (version : ℕ) (answer : Result (Option HandshakeResp) Error) → KeepsVersion name version h b answer left ctx → h.versions ≡ collected past →
      event_shake (message_of (event.Handshake proxy (told.InterfaceVersion name version))) ≡ Some (Tells name version) → IsNext (message_of (event.Handshake proxy (told.InterfaceVersion name version))) past →
      Asked past h b (event.Handshake proxy (told.InterfaceVersion name version)) answer left ctx
  kept proxy name version (Ok None) d v s n =
      let m : Sent = message_of (event.Handshake proxy (told.InterfaceVersion name version)) in
      ToldOne refl (ap goes_on s) (ap says_connection s) refl (ap (λ (x : ClientView). x.greeter) d.0)
      (ap (λ (x : ClientView). x.versions) d.0 ∙ ap (λ (x : NameMap). finite.insert x name version) v ∙ sym (collected_more past m ∙ ap (with_version (collected past)) s)) d.1
  kept proxy name version (Ok (Some resp)) d v s n = absurd d
  kept proxy name version (Err error.NoMemory) d v s n = absurd (tells_known (message_of (event.Handshake proxy (told.InterfaceVersion name version))) past name version s n d.0)
  kept proxy name version (Err e) d v s n = absurd d

  -- it hands the connection over
  ended : (proxy : _) (serial : ℕ) (connection : ObjectView) (answer : Result (Option HandshakeResp) Error) → Ends serial connection h b answer left ctx → Asked past h b (event.Handshake proxy (told.Connection serial connection)) answer left ctx
  ended proxy serial connection (Ok (Some resp)) d = Handed serial connection proxy refl resp refl refl d.0 d.1
  ended proxy serial connection (Ok None) d = absurd d
  ended proxy serial connection (Err e) d = absurd d

  told_so : (proxy : _) (a : Told) (answer : Result (Option HandshakeResp) Error) → HandlesTold 0 h b a answer left ctx → h.versions ≡ collected past → IsNext (message_of (event.Handshake proxy a)) past → Asked past h b (event.Handshake proxy a) answer left ctx
  told_so proxy (told.HandshakeVersion version) answer d v n = begun proxy version answer d (says_shake (event.Handshake proxy (told.HandshakeVersion version)))
  told_so proxy (told.InterfaceVersion name version) answer d v n = kept proxy name version answer d v (says_shake (event.Handshake proxy (told.InterfaceVersion name version))) n
  told_so proxy (told.Connection serial connection) answer d v n = ended proxy serial connection answer d

none_some : (P : Type 0) (o : Option Shake) → o ≡ None → is_some o ≡ true → P
none_some P None e h = cc
none_some P (Some s) e h = cc

-- any event
pub asked : (past : List Sent) (h : ClientView) (b : BackendView) (e : Event) (answer : Result (Option HandshakeResp) Error) (left : ClientView) (ctx : BackendView) → h.versions ≡ collected past → (message_of e).target ≡ 0 → IsNext (message_of e) past →
    is_some (event_shake (message_of e)) ≡ true → HandlesEvent h b e answer left ctx → Asked past h b e answer left ctx
asked past h b (event.Handshake proxy a) answer left ctx v zero n some d = told_so past h b left ctx proxy a answer (subst (λ (id : ℕ). HandlesTold id h b a answer left ctx) zero d) v n
asked past h b e answer left ctx v zero n some d = none_some (Asked past h b e answer left ctx) (event_shake (message_of e)) (says_shake e) some
