-- What messages that are sent one after another make of an endpoint.
use Rattle.std.proofs.Common.{◌≡◌, ℕ, true, false, List, [], ◌∷◌, ◌++◌, map, Option, Some, None, refl, sym, ap, ◌∙◌, append-nil, append_assoc}
use Rattle.std.specs.Prelude.{codes}
use Rattle.std.specs.List.{flat_map}
use Rattle.ei_spec.specs.declared.handle.Handle.{Handle}
use Rattle.ei_spec.specs.declared.interface.KnownInterface.{KnownInterface}
use Rattle.ei_spec.specs.declared.interface.KnownInterface.TheVariants as known
use Rattle.ei_spec.specs.Interface.{Interface, Known, Other, ObjectView}
use Rattle.ei_spec.specs.Message.{bytes_of, all_bytes}
use Rattle.ei_spec.specs.Value.{Word}
use Rattle.ei_backend.specs.Table.{TableView, found}
use Rattle.ei_backend.specs.Backend.{BackendView}
use Rattle.ei_backend.specs.Endpoint.{Endpoint, endpoint_of}
use Rattle.ei_ends.specs.Sent.{Sent, raw_of, row_of, new_of, destroys, handles_in, bytes_in}
use Rattle.ei_ends.specs.Way.{End}
use Rattle.ei_ends.specs.Steps.{called, after_call, after_calls, table_after, table_with}
use Rattle.ei_request.specs.Connection.{ConnectionView, next_serial}
use Rattle.ei_request.specs.Sending as sending
use Rattle.ei_acts.specs.Events as event
use Rattle.ei_acts.specs.Acts.{gone_as, destroyed_all}
use Rattle.ei_acts.specs.Holding.{Sends, is_destroyed, is_destroyed_as, may_go, AllGoAs, AllMayGo}

-- ---- an end's endpoint, by its backend alone

abbrev pub called_all : List Sent → BackendView → BackendView
called_all [] b = b
called_all (m ∷ ms) b = called_all ms (called true m b)

pub after_backend : (ms : List Sent) (x : End) → (after_calls true ms x).backend ≡ called_all ms x.backend
after_backend [] x = refl
after_backend (m ∷ ms) x = after_backend ms (after_call true m x)

pub sends_by : (ms : List Sent) (old new : ConnectionView) → endpoint_of new.ctx ≡ endpoint_of (called_all ms old.ctx) → Sends ms old new
sends_by ms old new h x e = h ∙ sym (ap endpoint_of (after_backend ms x ∙ ap (called_all ms) e))

-- ---- one list and another

-- whatever the endpoint, these messages make this of it
abbrev pub Effect : List Sent → (Endpoint → Endpoint) → Type 0
Effect ms f = (b : BackendView) → endpoint_of (called_all ms b) ≡ f (endpoint_of b)

pub called_both : (ms more : List Sent) (b : BackendView) → called_all (ms ++ more) b ≡ called_all more (called_all ms b)
called_both [] more b = refl
called_both (m ∷ ms) more b = called_both ms more (called true m b)

pub both : (ms more : List Sent) (f g : Endpoint → Endpoint) → Effect ms f → Effect more g → Effect (ms ++ more) (λ e. g (f e))
both ms more f g p q b = ap endpoint_of (called_both ms more b) ∙ q (called_all ms b) ∙ ap g (p b)

-- ---- messages that announce and destroy nothing

abbrev pub AreQuiet : List Sent → Type 0
AreQuiet [] = Unit {0}
AreQuiet (m ∷ ms) = ((new_of true m ≡ None) × (destroys true m ≡ false)) × AreQuiet ms

-- so many bytes and handles more are to be sent
abbrev pub with_more : List ℕ → List Handle → Endpoint → Endpoint
with_more bytes handles e = record e { unsent = e.unsent ++ bytes; unsent_handles = e.unsent_handles ++ handles }

one_quiet : (m : Sent) (b : BackendView) → new_of true m ≡ None → destroys true m ≡ false → endpoint_of (called true m b) ≡ with_more (bytes_of (raw_of m)) (handles_in m) (endpoint_of b)
unfolding table_after table_with bytes_in
one_quiet m b new d = rw (new, d) refl

pub quiet : (ms : List Sent) → AreQuiet ms → Effect ms (with_more (all_bytes (map raw_of ms)) (flat_map handles_in ms))
quiet [] h b =
    ap (λ (u : List ℕ). let e : Endpoint = record (endpoint_of b) { unsent = u } in e) (sym (append-nil b.unsent))
    ∙ ap (λ (u : List Handle). let e : Endpoint = record (endpoint_of b) { unsent = b.unsent ++ []; unsent_handles = u } in e) (sym (append-nil b.unsent_handles))
quiet (m ∷ ms) h b =
    quiet ms h.1 (called true m b) ∙ ap (with_more (all_bytes (map raw_of ms)) (flat_map handles_in ms)) (one_quiet m b h.0.0 h.0.1)
    ∙ ap (λ (u : List ℕ). let e : Endpoint = record (endpoint_of b) { unsent = u; unsent_handles = (b.unsent_handles ++ handles_in m) ++ flat_map handles_in ms } in e) (append_assoc b.unsent (bytes_of (raw_of m)) (all_bytes (map raw_of ms)))
    ∙ ap (λ (u : List Handle). let e : Endpoint = record (endpoint_of b) { unsent = b.unsent ++ (bytes_of (raw_of m) ++ all_bytes (map raw_of ms)); unsent_handles = u } in e) (append_assoc b.unsent_handles (handles_in m) (flat_map handles_in ms))

-- messages without handles
pub plainly : (ms : List Sent) → AreQuiet ms → flat_map handles_in ms ≡ [] → Effect ms (λ e. sending.sends_on e (map raw_of ms))
plainly ms h none b = quiet ms h b ∙ ap (λ (l : List Handle). with_more (all_bytes (map raw_of ms)) l (endpoint_of b)) none
    ∙ ap (λ (u : List Handle). let e : Endpoint = record (endpoint_of b) { unsent = b.unsent ++ all_bytes (map raw_of ms); unsent_handles = u } in e) (append-nil b.unsent_handles)

-- a single one
pub one_plain : (m : Sent) (b : BackendView) → new_of true m ≡ None → destroys true m ≡ false → handles_in m ≡ [] → endpoint_of (sending.says b (raw_of m)) ≡ endpoint_of (called_all (m ∷ []) b)
one_plain m b new d none = sym (one_quiet m b new d ∙ ap (λ (l : List Handle). with_more (bytes_of (raw_of m)) l (endpoint_of b)) none
    ∙ ap (λ (u : List Handle). let e : Endpoint = record (endpoint_of b) { unsent = b.unsent ++ bytes_of (raw_of m); unsent_handles = u } in e) (append-nil b.unsent_handles))

-- ---- an object that is announced

pub announcing : (m : Sent) (k : KnownInterface) (v : ℕ) (b : BackendView) → new_of true m ≡ Some (record { id = b.table.next_own; interface = Known k; version = v }) → destroys true m ≡ false → handles_in m ≡ [] →
    endpoint_of (called_all (m ∷ []) b) ≡ sending.announces (endpoint_of b) (raw_of m) k v
unfolding table_after table_with bytes_in
announcing m k v b new d none = rw (new, d, none) (ap (λ (u : List Handle). let e : Endpoint = record (sending.announces (endpoint_of b) (raw_of m) k v) { unsent_handles = u } in e) (append-nil b.unsent_handles))

-- ---- an object that goes

with_handles : List Handle → Endpoint → Endpoint
with_handles handles e = record e { unsent_handles = handles }

goes_as : (k : KnownInterface) (v id serial : ℕ) (b : BackendView) → is_destroyed k ≡ true → endpoint_of (called true (event.destroyed_as (Some (record { id = id; interface = Known k; version = v; client_side = false })) id serial) b) ≡ sending.destroys (endpoint_of b) id serial
unfolding table_after table_with bytes_in row_of with_handles
goes_as known.Handshake v id serial b g = absurd cc
goes_as known.Connection v id serial b g = absurd cc
goes_as known.Callback v id serial b g = absurd cc
goes_as known.Pingpong v id serial b g = absurd cc
goes_as k v id serial b g = ap (λ (u : List Handle). with_handles u (sending.destroys (endpoint_of b) id serial)) (append-nil b.unsent_handles)

goes : (o : Option ObjectView) (id serial : ℕ) (b : BackendView) → may_go o ≡ true → endpoint_of (called true (event.destroyed_as o id serial) b) ≡ sending.destroys (endpoint_of b) id serial
goes None id serial b g = absurd cc
goes (Some o) id serial b g = by o.interface refl g
  where
    by : (i : Interface) → o.interface ≡ i → is_destroyed_as i ≡ true → endpoint_of (called true (event.destroyed_as (Some o) id serial) b) ≡ sending.destroys (endpoint_of b) id serial
    by (Known k) e h = ap (λ (i : Interface). endpoint_of (called true (event.event_to (event.known_as i) o.version id (codes "destroyed") (Word serial ∷ [])) b)) e ∙ goes_as k o.version id serial b h
    by (Other name) e h = absurd cc

pub all_go_as : (objects : ℕ → Option ObjectView) (serial : ℕ) (ids : List ℕ) → AllGoAs objects ids → Effect (gone_as objects serial ids) (λ e. sending.destroys_all e serial ids)
all_go_as objects serial [] h b = refl
all_go_as objects serial (id ∷ ids) h b =
    all_go_as objects (next_serial serial) ids h.1 (called true (event.destroyed_as (objects id) id (next_serial serial)) b)
    ∙ ap (λ (e : Endpoint). sending.destroys_all e (next_serial serial) ids) (goes (objects id) id (next_serial serial) b h.0)

pub all_go : (t : TableView) (serial : ℕ) (ids : List ℕ) → AllMayGo t ids → Effect (destroyed_all t serial ids) (λ e. sending.destroys_all e serial ids)
all_go t serial ids h = all_go_as (found t) serial ids h
