-- What a server's handshake does with a request.
use Rattle.std.specs.Prelude.{◌≡◌, ℕ, min, ◌<◌, ◌≤◌, Bool, true, false, List, [], ◌∷◌, ◌++◌, Option, Some, None, Result, Ok, Err, is_some, unwrap_or, refl}
use Rattle.std.specs.List.{list_all}
use Rattle.std.specs.FinMap as finite
use Rattle.std.specs.Coded.{Coded, code_by, coded×, coded_ℕ, coded_list, coded_option}
use Rattle.ei_spec.specs.declared.interface.KnownInterface.{KnownInterface}
use Rattle.ei_spec.specs.declared.interface.KnownInterface.TheVariants as known
use Rattle.ei_spec.specs.Interface.{Known, ObjectView, name_of, known_of, server_version}
use Rattle.ei_spec.specs.Message.{Raw, all_bytes}
use Rattle.ei_backend.specs.Backend.{BackendView}
use Rattle.ei_backend.specs.Endpoint.{endpoint_of}
use Rattle.ei_backend.specs.Table.{own, own_end, with_own, without}
use Rattle.ei_server.specs.declared.request.Request.{Request}
use Rattle.ei_server.specs.declared.request.Request.TheVariants as request
use Rattle.ei_server.specs.declared.handshake.Request.{Request as Asked}
use Rattle.ei_server.specs.declared.handshake.Request.TheVariants as asked
use Rattle.ei_types.specs.declared.error.Error.{Error}
use Rattle.ei_types.specs.declared.error.Error.TheVariants as error
use Rattle.ei_types.specs.declared.error.HandshakeError.TheVariants as handshake_error
use Rattle.ei_types.specs.declared.enums.ContextType.{ContextType}
use Rattle.ei_types.specs.declared.enums.ContextType.TheVariants.{Receiver}
use Rattle.ei_types.specs.contracts.enums.ContextType as context
use Rattle.ei_session.specs.Handshake.{required}
use Rattle.ei_session.specs.Replies.{settled_event, settled_events, connection_event}
use Rattle.ei_handshake.specs.Versions.{VersionMap, version_code}
use Rattle.ei_handshake.specs.declared.server.EisHandshakeResp.{EisHandshakeResp}

-- the serial that the connection will bear, the versions so far, and the name and the context type, where they came
pub record HandshakerView : Type 0 where
  pub serial : ℕ
  pub versions : VersionMap
  pub name : Option (List ℕ)
  pub context_type : Option ContextType

abbrev pub handshaker_code : Coded HandshakerView
handshaker_code = code_by (ℕ × (VersionMap × (Option (List ℕ) × Option ContextType)))
    (coded× coded_ℕ (coded× version_code (coded× (coded_option (coded_list coded_ℕ)) (coded_option context.the_row.coded))))
    (λ h. (h.serial, (h.versions, (h.name, h.context_type)))) (λ p. record { serial = p.0; versions = p.1.0; name = p.1.1.0; context_type = p.1.1.1 }) (λ _. refl)

-- a handshaker that was told nothing
abbrev pub untold : ℕ → HandshakerView
untold serial = record { serial = serial; versions = finite.empty; name = None; context_type = None }

-- ---- versions

-- the server's version of an interface that a handshake settles
abbrev pub settled_version : KnownInterface → Option ℕ
settled_version known.Handshake = None
settled_version interface = Some (server_version interface)

abbrev pub kept_at : VersionMap → List ℕ → ℕ → Option ℕ → VersionMap
kept_at versions name version None = versions
kept_at versions name version (Some own) = finite.insert versions name (min own version)

abbrev pub kept_of : VersionMap → List ℕ → ℕ → Option KnownInterface → VersionMap
kept_of versions name version None = versions
kept_of versions name version (Some interface) = kept_at versions name version (settled_version interface)

-- the versions after an announcement: the smaller one is kept, and an unknown name is ignored
abbrev pub with_version : VersionMap → List ℕ → ℕ → VersionMap
with_version versions name version = kept_of versions name version (known_of name)

-- the version of an interface among them
abbrev pub settled_in : VersionMap → KnownInterface → Option ℕ
settled_in versions interface = finite.get versions (name_of interface)

-- whether each required interface is among them
abbrev pub has_required : VersionMap → Bool
has_required versions = list_all (λ interface. is_some (settled_in versions interface)) required

-- ---- what is sent

-- the event of an interface, where it is settled
abbrev pub event_if : ℕ → KnownInterface → Option ℕ → List Raw
event_if handshake interface None = []
event_if handshake interface (Some v) = settled_event handshake interface v ∷ []

-- the events of all interfaces that are among the versions
abbrev pub kept_events : ℕ → VersionMap → List Raw
kept_events handshake versions = settled_events handshake (settled_in versions)

-- the endpoint with these messages buffered
abbrev pub sends : BackendView → List Raw → BackendView
sends b messages = record b { unsent = b.unsent ++ all_bytes messages }

-- the endpoint after the connection was handed over
abbrev pub hands_over : BackendView → ℕ → ℕ → BackendView
hands_over b handshake serial = record (sends b (connection_event handshake serial b.table.next_own ∷ [])) { table = without (with_own b.table (Known known.Connection) 1) handshake }

-- ---- what stays, at a handshaker of either end

-- the handshaker and the endpoint are as before
pub record Same {H : Type 0} (h : H) (b : BackendView) (new : H) (sent : BackendView) : Type 0 where
  pub handshaker : new ≡ h
  pub endpoint : sent ≡ b

-- they are, but that the endpoint has these messages more to send, and may have made more memory ready
pub record Leaves {H : Type 0} (messages : List Raw) (h : H) (b : BackendView) (new : H) (sent : BackendView) : Type 0 where
  pub handshaker : new ≡ h
  pub endpoint : endpoint_of sent ≡ endpoint_of (sends b messages)

-- they are, but that the endpoint may have made more memory ready
pub record SameButMemory {H : Type 0} (h : H) (b : BackendView) (new : H) (sent : BackendView) : Type 0 where
  pub handshaker : new ≡ h
  pub endpoint : endpoint_of sent ≡ endpoint_of b

-- ---- what the client tells

-- the handshaker that was told one thing more
abbrev pub told : HandshakerView → Asked → HandshakerView
told h (asked.HandshakeVersion version) = h
told h (asked.Name name) = record h { name = Some name }
told h (asked.ContextType kind) = record h { context_type = Some kind }
told h (asked.InterfaceVersion name version) = record h { versions = with_version h.versions name version }
told h asked.Finish = h

-- whether a name or a context type comes again
abbrev pub is_repeated : HandshakerView → Asked → Bool
is_repeated h (asked.Name name) = is_some h.name
is_repeated h (asked.ContextType kind) = is_some h.context_type
is_repeated h other = false

-- what came for the second time is refused as such
abbrev pub IsSecond : Bool → Error → Type 0
IsSecond came (error.Handshake handshake_error.DuplicateEvent) = came ≡ true
IsSecond came e = ⊥

-- how what is told may be refused: it came before
abbrev pub RefusesTold : Error → HandshakerView → BackendView → Asked → HandshakerView → BackendView → Type 0
RefusesTold e h b m new sent = IsSecond (is_repeated h m) e × Same h b new sent

-- what is told is kept, or refused
abbrev pub Keeps : HandshakerView → BackendView → Asked → Result (Option EisHandshakeResp) Error → HandshakerView → BackendView → Type 0
Keeps h b m (Ok None) new sent = (is_repeated h m ≡ false) × (new ≡ told h m) × (sent ≡ b)
Keeps h b m (Ok (Some resp)) new sent = ⊥
Keeps h b m (Err e) new sent = RefusesTold e h b m new sent

-- ---- the finish

-- a finish is complete: the connection is handed over behind the events, and only the versions leave the handshaker
pub record Completes (handshake : ℕ) (h : HandshakerView) (b : BackendView) (resp : EisHandshakeResp) (new : HandshakerView) (sent : BackendView) : Type 0 where
  pub complete : has_required h.versions ≡ true
  pub ids : b.table.next_own < own_end b.table
  pub connection : resp.connection ≡ own b.table (Known known.Connection) 1
  pub name : resp.name ≡ h.name
  pub context_type : resp.context_type ≡ unwrap_or h.context_type Receiver
  pub versions : resp.negotiated_interfaces ≡ h.versions
  pub empty : new ≡ record h { versions = finite.empty }
  pub events : endpoint_of sent ≡ endpoint_of (hands_over (sends b (kept_events handshake h.versions)) handshake h.serial)

-- how a finish may be refused: where a required interface is missing, and then where no own id is left
abbrev pub RefusesFinish : Error → ℕ → HandshakerView → BackendView → HandshakerView → BackendView → Type 0
RefusesFinish error.NoMemory handshake h b new sent = SameButMemory h b new sent
RefusesFinish (error.Handshake handshake_error.MissingInterface) handshake h b new sent = (has_required h.versions ≡ false) × Leaves (kept_events handshake h.versions) h b new sent
RefusesFinish error.IdsExhausted handshake h b new sent =
    (has_required h.versions ≡ true) × (own_end b.table ≤ b.table.next_own) × Leaves (kept_events handshake h.versions) h b new sent
RefusesFinish e handshake h b new sent = ⊥

-- what a finish may answer
abbrev pub Finishes : ℕ → HandshakerView → BackendView → Result (Option EisHandshakeResp) Error → HandshakerView → BackendView → Type 0
Finishes handshake h b (Ok None) new sent = ⊥
Finishes handshake h b (Ok (Some resp)) new sent = Completes handshake h b resp new sent
Finishes handshake h b (Err e) new sent = RefusesFinish e handshake h b new sent

-- ---- any request

-- what a server's handshake does with a request of the handshake
abbrev pub HandlesAsked : ℕ → HandshakerView → BackendView → Asked → Result (Option EisHandshakeResp) Error → HandshakerView → BackendView → Type 0
HandlesAsked handshake h b asked.Finish result new sent = Finishes handshake h b result new sent
HandlesAsked handshake h b m result new sent = Keeps h b m result new sent

-- how a message of another interface is refused
abbrev pub RefusesOther : {H : Type 0} → Error → H → BackendView → H → BackendView → Type 0
RefusesOther (error.Handshake handshake_error.NonHandshakeEvent) h b new sent = Same h b new sent
RefusesOther e h b new sent = ⊥

-- what a server's handshake does with a request
abbrev pub Handles : HandshakerView → BackendView → Request → Result (Option EisHandshakeResp) Error → HandshakerView → BackendView → Type 0
Handles h b (request.Handshake proxy m) result new sent = HandlesAsked proxy.id h b m result new sent
Handles h b other (Ok answer) new sent = ⊥
Handles h b other (Err e) new sent = RefusesOther e h b new sent

-- what is told is kept or refused, whatever the endpoint; and of a finish nothing is done yet
abbrev pub KeepsButFinish : HandshakerView → Request → Result (Option ObjectView) Error → HandshakerView → Type 0
KeepsButFinish h r (Ok None) new = (b : BackendView) → Handles h b r (Ok None) new b
KeepsButFinish h r (Ok (Some proxy)) new = (r ≡ request.Handshake proxy asked.Finish) × (new ≡ h)
KeepsButFinish h r (Err e) new = (b : BackendView) → Handles h b r (Err e) new b
