-- A phase that starts, and one that reads a piece.
use Rattle.std.proofs.Common.{◌≡◌, ◌<◌, ◌≤◌, ◌^◌, ℕ, length, arith, false, List, [], ◌∷◌, ◌++◌, Some, Result, Ok, Err, refl, sym, ap, ◌∙◌, subst}
use Rattle.std.specs.Prelude.{is_some, codes}
use Rattle.std.specs.Option.{ForSome}
use Rattle.ei_spec.specs.declared.handle.Handle.{Handle}
use Rattle.ei_spec.specs.History.{occurs}
use Rattle.ei_spec.specs.Message.{Raw}
use Rattle.ei_spec.specs.Piece.{Piece}
use Rattle.ei_types.specs.Capability.{all_bits}
use Rattle.ei_session.specs.Setup.{Setup}
use Rattle.ei_session.specs.Handshake.{connected}
use Rattle.ei_session.specs.Refusals.{came}
use Rattle.ei_session.specs.Replies.{greeting_to}
use Rattle.ei_session.proofs.SettledMapLaws.{first_map}
use Rattle.ei_wire.specs.declared.error.ReadError.{ReadError}
use Rattle.ei_wire.specs.declared.error.ReadError.TheVariants as read_error
use Rattle.ei_backend.specs.Table.{found, first_object, first_server_id}
use Rattle.ei_backend.specs.Ring.{grown}
use Rattle.ei_backend.proofs.RingLaws.{grown_bounded}
use Rattle.ei_backend.specs.Outside.{SourceView}
use Rattle.ei_backend.specs.Endpoint.{Endpoint, endpoint_of}
use Rattle.ei_backend.specs.Backend.{BackendView, ReadsOn, new_backend, unsent_of, with_piece, with_ring, with_unsent}
use Rattle.ei_backend.specs.Outgoing.{nothing}
use Rattle.ei_handshake.specs.Handshaker.{HandshakerView, sends, untold}
use Rattle.ei_request.specs.Connection.{ConnectionView}
use Rattle.ei_request.specs.Converter.{ConverterView}
use Rattle.ei_serve.specs.declared.phase.Phase.{Phase}
use Rattle.ei_serve.specs.declared.phase.Phase.TheVariants as phase
use Rattle.ei_serve.specs.Standing.{StandsAt, ShakesHands, IsConnected, most_capacity, handshake_table}
use Rattle.ei_serve.specs.Taking.{ReadsPhase}
use Rattle.ei_serve.proofs.Standing.{found_first}

-- ---- the start

-- no finish came, and no name
connected_none : connected [] ≡ false
unfolding connected occurs
connected_none = refl

came_none : (name : List ℕ) → came name [] ≡ false
unfolding came occurs
came_none name = refl

-- a new endpoint whose greeting went out shakes hands
pub starts : (setup : Setup) (serial : ℕ) (b greeted flushed : BackendView) (h : HandshakerView) → b ≡ new_backend handshake_table → ForSome (found b.table 0) (λ handshake. greeted ≡ sends b (greeting_to handshake.id ∷ [])) → h ≡ untold serial → unsent_of flushed ≡ nothing → flushed ≡ with_unsent (unsent_of flushed) greeted → setup.capabilities ≤ all_bits → setup.serial ≡ serial → serial < 2 ^ 32 → ShakesHands setup [] [] [] flushed h
starts setup serial b greeted flushed h new greets fresh sent kept lawful same small =
    let first : found b.table 0 ≡ Some (first_object false) = ap (λ (x : BackendView). found x.table 0) new ∙ found_first false first_server_id in
    let greeting : greeted ≡ sends (new_backend handshake_table) (greeting_to 0 ∷ []) = greets (first_object false) first ∙ ap (λ (x : BackendView). sends x (greeting_to 0 ∷ [])) new in
    let now : flushed ≡ new_backend handshake_table = kept ∙ ap (λ (x : Piece). with_unsent x greeted) sent ∙ ap (λ (x : BackendView). with_unsent nothing x) greeting in
    record {
      unfinished = connected_none;
      lawful = lawful;
      in_range = rw same small;
      ring = subst (λ (x : BackendView). x.capacity ≤ most_capacity) (sym now) (omega arith);
      endpoint = ap endpoint_of now;
      serial = ap (λ (x : HandshakerView). x.serial) fresh ∙ sym same;
      versions = ap (λ (x : HandshakerView). x.versions) fresh ∙ sym first_map;
      name = ap (λ (x : HandshakerView). is_some x.name) fresh ∙ sym (came_none (codes "name"));
      context_type = ap (λ (x : HandshakerView). is_some x.context_type) fresh ∙ sym (came_none (codes "context_type"));
    }

-- ---- reading

-- the endpoint, but for what is unread and for the ring that holds it
abbrev holding : BackendView → List ℕ → List Handle → ℕ → BackendView
holding b unread waiting capacity = record b { unread = unread; handles = waiting; capacity = capacity }

-- what a read of an endpoint does to a phase that stands whatever is unread
module _ (setup : Setup) (past : List Raw) (times : List ℕ) (b new : BackendView) (p : Phase) (old left : SourceView) (short : length b.unread < 1048576) (most : b.capacity ≤ most_capacity)
    (stands : (unread : List ℕ) (waiting : List Handle) (capacity : ℕ) → capacity ≤ most_capacity → new ≡ holding b unread waiting capacity → StandsAt setup past times unread waiting p) where
  -- the ring of an endpoint with few bytes unread, once room was made in it for a piece
  ring_after : grown (length b.unread) b.capacity ≤ most_capacity
  ring_after = grown_bounded (length b.unread) b.capacity short most

  with_more : (piece : Piece) → new ≡ with_piece piece b → StandsAt setup past times (b.unread ++ piece.bytes) (b.handles ++ piece.handles) p
  with_more piece e = stands (b.unread ++ piece.bytes) (b.handles ++ piece.handles) (grown (length b.unread) b.capacity) ring_after e

  with_none : new ≡ with_ring b → StandsAt setup past times b.unread b.handles p
  with_none e = stands b.unread b.handles (grown (length b.unread) b.capacity) ring_after e

  reads_by : (r : Result ℕ ReadError) → ReadsOn old left r b new → ReadsPhase setup past times b.unread b.handles r p old left
  reads_by (Ok n) on = (on.0, on.1, on.2, with_more on.0 on.3)
  reads_by (Err read_error.HandleLimit) on = (on.0, on.1, on.2)
  reads_by (Err read_error.UnexpectedEof) on = (on.0, with_none on.1)
  reads_by (Err read_error.ReadFault) on = on.0
  reads_by (Err read_error.NoMemory) on = on.0

  -- of an open endpoint
  reads_open : (rest : List ℕ) (handles : List Handle) (r : Result ℕ ReadError) → b.unread ≡ rest → b.handles ≡ handles → b.closed ≡ false → (b.closed ≡ false → ReadsOn old left r b new) → ReadsPhase setup past times rest handles r p old left
  reads_open rest handles r unread waiting open_now on =
      subst (λ (x : List Handle). ReadsPhase setup past times rest x r p old left) waiting
      (subst (λ (x : List ℕ). ReadsPhase setup past times x b.handles r p old left) unread (reads_by r (on open_now)))

-- during the handshake
shaking_with : (setup : Setup) (past : List Raw) (rest : List ℕ) (handles : List Handle) (b new : BackendView) (h : HandshakerView) (unread : List ℕ) (waiting : List Handle) (capacity : ℕ) → ShakesHands setup past rest handles b h → capacity ≤ most_capacity → new ≡ holding b unread waiting capacity → ShakesHands setup past unread waiting new h
shaking_with setup past rest handles b new h unread waiting capacity s most e = record {
  unfinished = s.unfinished;
  lawful = s.lawful;
  in_range = s.in_range;
  ring = subst (λ (x : BackendView). x.capacity ≤ most_capacity) (sym e) most;
  endpoint = ap endpoint_of e ∙ ap (λ (x : Endpoint). record x { unread = unread; handles = waiting }) s.endpoint;
  serial = s.serial;
  versions = s.versions;
  name = s.name;
  context_type = s.context_type;
}

pub reads_shaking : (setup : Setup) (past : List Raw) (times rest : List ℕ) (handles : List Handle) (b : BackendView) (h : HandshakerView) (r : Result ℕ ReadError) (new : BackendView) (old left : SourceView) → length rest < 1048576 → (times ≡ []) × ShakesHands setup past rest handles b h → (b.closed ≡ false → ReadsOn old left r b new) → ReadsPhase setup past times rest handles r (phase.Handshake new h) old left
reads_shaking setup past times rest handles b h r new old left short s on =
    let unread : b.unread ≡ rest = ap (λ (x : Endpoint). x.unread) s.1.endpoint in
    reads_open setup past times b new (phase.Handshake new h) old left (rw unread short) s.1.ring
    (λ u w c most e. (s.0, shaking_with setup past rest handles b new h u w c s.1 most e))
    rest handles r unread (ap (λ (x : Endpoint). x.handles) s.1.endpoint) (ap (λ (x : Endpoint). x.closed) s.1.endpoint) on

-- where the connection stands
connected_with : (setup : Setup) (past : List Raw) (times rest : List ℕ) (handles : List Handle) (c : ConverterView) (unread : List ℕ) (waiting : List Handle) (capacity : ℕ) → IsConnected setup past times rest handles c → capacity ≤ most_capacity → IsConnected setup past times unread waiting (record c { handle = record c.handle { ctx = holding c.handle.ctx unread waiting capacity } })
connected_with setup past times rest handles c unread waiting capacity s most = record {
  held = record {
    lawful = s.held.lawful;
    connected = s.held.connected;
    server = s.held.server;
    opened = s.held.opened;
    no_handles = s.held.no_handles;
    objects = s.held.objects;
    own = s.held.own;
    peer = s.held.peer;
    proxy = s.held.proxy;
    name = s.held.name;
    versions = s.held.versions;
    serial = s.held.serial;
    seats = s.held.seats;
    devices = s.held.devices;
    going_on = s.held.going_on;
    frames = s.held.frames;
  };
  ring = most;
  unread = refl;
  unread_handles = refl;
  unsent = s.unsent;
  queue = s.queue;
}

reads_held : (setup : Setup) (past : List Raw) (times rest : List ℕ) (handles : List Handle) (c : ConverterView) (r : Result ℕ ReadError) (new : BackendView) (old left : SourceView) → length rest < 1048576 → IsConnected setup past times rest handles c → (c.handle.ctx.closed ≡ false → ReadsOn old left r c.handle.ctx new) → ReadsPhase setup past times rest handles r (phase.Connected (record c { handle = record c.handle { ctx = new } })) old left
reads_held setup past times rest handles c r new old left short s on =
    reads_open setup past times c.handle.ctx new (phase.Connected (record c { handle = record c.handle { ctx = new } })) old left (rw s.unread short) s.ring
    (λ u w k most e. subst (λ (x : BackendView). IsConnected setup past times u w (record c { handle = record c.handle { ctx = x } })) (sym e) (connected_with setup past times rest handles c u w k s most))
    rest handles r s.unread s.unread_handles s.held.opened on

pub reads_connected : (setup : Setup) (past : List Raw) (times rest : List ℕ) (handles : List Handle) (c : ConverterView) (h : ConnectionView) (b : BackendView) (r : Result ℕ ReadError) (new : BackendView) (old left : SourceView) → length rest < 1048576 → IsConnected setup past times rest handles c → h ≡ c.handle → b ≡ h.ctx → (b.closed ≡ false → ReadsOn old left r b new) → ReadsPhase setup past times rest handles r (phase.Connected (record c { handle = record h { ctx = new } })) old left
reads_connected setup past times rest handles c h b r new old left short s lent is on =
    let same : b ≡ c.handle.ctx = is ∙ ap (λ (x : ConnectionView). x.ctx) lent in
    subst (λ (x : ConnectionView). ReadsPhase setup past times rest handles r (phase.Connected (record c { handle = record x { ctx = new } })) old left) (sym lent)
    (reads_held setup past times rest handles c r new old left short s
    (subst (λ (x : BackendView). x.closed ≡ false → ReadsOn old left r x new) same on))
