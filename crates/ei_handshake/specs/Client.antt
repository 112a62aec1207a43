-- What a client's handshake does with an event.
use Rattle.std.specs.Prelude.{◌≡◌, ℕ, true, false, codes, List, [], ◌∷◌, Option, Some, None, Result, Ok, Err, refl}
use Rattle.std.specs.FinMap as finite
use Rattle.std.specs.Coded.{Coded, code_by, coded×, coded_ℕ, coded_list}
use Rattle.ei_spec.specs.declared.interface.KnownInterface.{KnownInterface}
use Rattle.ei_spec.specs.Interface.{ObjectView, known_of, name_of}
use Rattle.ei_spec.specs.Message.{Raw}
use Rattle.ei_spec.specs.Value.{Word, Letters}
use Rattle.ei_backend.specs.Backend.{BackendView}
use Rattle.ei_backend.specs.Endpoint.{endpoint_of}
use Rattle.ei_client.specs.declared.event.Event.{Event}
use Rattle.ei_client.specs.declared.event.Event.TheVariants as event
use Rattle.ei_client.specs.declared.handshake.Event.{Event as Told}
use Rattle.ei_client.specs.declared.handshake.Event.TheVariants as told
use Rattle.ei_types.specs.declared.error.Error.{Error}
use Rattle.ei_types.specs.declared.error.Error.TheVariants as error
use Rattle.ei_types.specs.declared.enums.ContextType.{ContextType}
use Rattle.ei_types.specs.contracts.enums.ContextType as context
use Rattle.ei_greeting.specs.Shaking.{Greeter, asking, greeting, is_long}
use Rattle.ei_handshake.specs.Versions.{VersionMap, version_code}
use Rattle.ei_handshake.specs.Handshaker.{sends, Same, RefusesOther}
use Rattle.ei_handshake.specs.declared.client.HandshakeResp.{HandshakeResp}

-- what the client tells of itself, and the versions that it was told
pub record ClientView : Type 0 where
  pub greeter : Greeter
  pub versions : VersionMap

abbrev pub greeter_code : Coded Greeter
greeter_code = code_by (List ℕ × ContextType) (coded× (coded_list coded_ℕ) context.the_row.coded) (λ g. (g.name, g.kind)) (λ p. record { name = p.0; kind = p.1 }) (λ _. refl)

abbrev pub client_code : Coded ClientView
client_code = code_by (Greeter × VersionMap) (coded× greeter_code version_code) (λ h. (h.greeter, h.versions)) (λ p. record { greeter = p.0; versions = p.1 }) (λ _. refl)

abbrev pub greeter : List ℕ → ContextType → Greeter
greeter name kind = record { name = name; kind = kind }

-- a handshaker that was told nothing
abbrev pub unshaken : Greeter → ClientView
unshaken g = record { greeter = g; versions = finite.empty }

-- the handshaker that was told one version more: the last one of a name counts, and any name is kept
abbrev pub with_told : ClientView → List ℕ → ℕ → ClientView
with_told h name version = record h { versions = finite.insert h.versions name version }

-- the request that tells a version
abbrev pub told_version : ℕ → KnownInterface × ℕ → Raw
told_version id p = asking id (codes "interface_version") (Letters (name_of p.0) ∷ Word p.1 ∷ [])

-- the connection is handed over with the versions that were told, and only these leave the handshaker
pub record HandsOver (h : ClientView) (serial : ℕ) (connection : ObjectView) (resp : HandshakeResp) (new : ClientView) : Type 0 where
  pub connection_is : resp.connection ≡ connection
  pub serial_is : resp.serial ≡ serial
  pub versions : resp.negotiated_interfaces ≡ h.versions
  pub empty : new ≡ unshaken h.greeter

-- the greeting is sent whole, unless the name is too long, or nothing is
abbrev pub SendsGreeting : ℕ → Greeter → BackendView → Result (Unit {0}) Error → BackendView → Type 0
SendsGreeting id g b (Ok done) sent = (is_long g id ≡ false) × (endpoint_of sent ≡ endpoint_of (sends b (greeting g id)))
SendsGreeting id g b (Err error.MessageTooLong) sent = (is_long g id ≡ true) × (sent ≡ b)
SendsGreeting id g b (Err error.NoMemory) sent = endpoint_of sent ≡ endpoint_of b
SendsGreeting id g b (Err e) sent = ⊥

-- a server that begins is greeted
abbrev pub Greets : ℕ → ClientView → BackendView → Result (Option HandshakeResp) Error → ClientView → BackendView → Type 0
Greets id h b (Ok None) new sent = (new ≡ h) × SendsGreeting id h.greeter b (Ok tt) sent
Greets id h b (Ok (Some resp)) new sent = ⊥
Greets id h b (Err e) new sent = (new ≡ h) × SendsGreeting id h.greeter b (Err e) sent

-- the version of a name is kept; only a name that no interface has may want memory
abbrev pub KeepsVersion : List ℕ → ℕ → ClientView → BackendView → Result (Option HandshakeResp) Error → ClientView → BackendView → Type 0
KeepsVersion name version h b (Ok None) new sent = (new ≡ with_told h name version) × (sent ≡ b)
KeepsVersion name version h b (Err error.NoMemory) new sent = (known_of name ≡ None) × Same h b new sent
KeepsVersion name version h b result new sent = ⊥

-- the connection ends the handshake
abbrev pub Ends : ℕ → ObjectView → ClientView → BackendView → Result (Option HandshakeResp) Error → ClientView → BackendView → Type 0
Ends serial connection h b (Ok (Some resp)) new sent = HandsOver h serial connection resp new × (sent ≡ b)
Ends serial connection h b result new sent = ⊥

-- what a client's handshake does with an event of the handshake, whose target has that id
abbrev pub HandlesTold : ℕ → ClientView → BackendView → Told → Result (Option HandshakeResp) Error → ClientView → BackendView → Type 0
HandlesTold id h b (told.HandshakeVersion version) result new sent = Greets id h b result new sent
HandlesTold id h b (told.InterfaceVersion name version) result new sent = KeepsVersion name version h b result new sent
HandlesTold id h b (told.Connection serial connection) result new sent = Ends serial connection h b result new sent

-- what a client's handshake does with an event
abbrev pub HandlesEvent : ClientView → BackendView → Event → Result (Option HandshakeResp) Error → ClientView → BackendView → Type 0
HandlesEvent h b (event.Handshake proxy m) result new sent = HandlesTold proxy.id h b m result new sent
HandlesEvent h b other (Ok answer) new sent = ⊥
HandlesEvent h b other (Err e) new sent = RefusesOther e h b new sent
