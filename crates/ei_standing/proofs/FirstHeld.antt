-- The converter after the finish stands for it, and what it sends is what answers it.
use Rattle.std.proofs.Common.{◌≡◌, ◌≢◌, ◌≤◌, ◌<◌, ◌+◌, ◌%◌, ◌^◌, ℕ, Bool, true, false, cond, eqb, ◌&&◌, not, List, [], ◌∷◌, ◌++◌, Option, Some, None}
use Rattle.std.proofs.Common.{refl, sym, ap, subst, ◌∙◌, append_assoc, arith}
use Rattle.std.specs.Prelude.{is_some, unwrap_or, map, codes}
use Rattle.std.specs.List.{AllByRecursion}
use Rattle.std.specs.Ordering.{nat_cmp}
use Rattle.std.specs.FinMap.{get, empty, get-empty}
use Rattle.std.specs.Option.{option_map}
use Rattle.std.proofs.lemmas.Bool.{eqb-true}
use Rattle.std.proofs.Math.Nat.{mod-eq_of_lt}
use Rattle.std.proofs.lemmas.Grind.{flat_map-append}
use Rattle.ei_spec.specs.declared.handle.Handle.{Handle}
use Rattle.ei_spec.specs.declared.interface.KnownInterface.{KnownInterface}
use Rattle.ei_spec.specs.declared.interface.KnownInterface.TheVariants as known
use Rattle.ei_spec.specs.Interface.{Known, ObjectView}
use Rattle.ei_spec.specs.Message.{Raw, bytes_of, all_bytes}
use Rattle.ei_spec.specs.History.{each, total}
use Rattle.ei_spec.specs.Groups.{frames_made}
use Rattle.ei_types.specs.declared.capability.DeviceCapability.{DeviceCapability}
use Rattle.ei_types.specs.declared.capability.DeviceCapability.TheVariants.{Pointer}
use Rattle.ei_types.specs.Capability.{capability_list, capabilities, bit_of, interface_of, has_bit, all_bits}
use Rattle.ei_backend.specs.Table.{TableView, first_server_id, first_object, new_table, found, with_own, without}
use Rattle.ei_backend.specs.Backend.{BackendView, new_backend}
use Rattle.ei_backend.specs.Endpoint.{Endpoint, endpoint_of}
use Rattle.ei_backend.proofs.FoundAfter.{found_own, found_without}
use Rattle.ei_backend.proofs.Objects.{get_with}
use Rattle.ei_handshake.specs.Versions.{VersionMap}
use Rattle.ei_handshake.specs.declared.server.EisHandshakeResp.{EisHandshakeResp}
use Rattle.ei_session.specs.Setup.{Setup, connection_id, seat_id}
use Rattle.ei_session.specs.Handshake.{connected, is_finish, is_the_finish, announced, settled, version}
use Rattle.ei_session.specs.SettledMap.{settled_map}
use Rattle.ei_session.specs.NextIds.{next_peer}
use Rattle.ei_session.specs.Devices.{seat_is_open}
use Rattle.ei_session.specs.Objects.{handed_over, object, was_device}
use Rattle.ei_session.specs.Serial.{serial}
use Rattle.ei_session.specs.Refusals.{came}
use Rattle.ei_session.specs.Requests.{slot}
use Rattle.ei_session.specs.Replies.{settled_events, connection_event, seat_event, capability_event, capability_events, done_event, finish_events}
use Rattle.ei_session.proofs.BeforeTheFinish.{early_keeps, early_item, early_synced, finish_serial, finish_versions, finish_item}
use Rattle.ei_session.proofs.FirstObjects.{the_connection, not_the_finish, object_handed}
use Rattle.ei_session.proofs.GivenByItem.{frames_none}
use Rattle.ei_session.proofs.NextLaws.{own_finish, peer_first, peer_other}
use Rattle.ei_session.proofs.ObjectShape.{at_finish, now_connected, object_seat}
use Rattle.ei_session.proofs.SettledMapLaws.{get_settled, other_map}
use Rattle.ei_request.specs.Held.{SeatView}
use Rattle.ei_request.specs.Connection.{ConnectionView, new_connection, is_settled, version_in}
use Rattle.ei_request.specs.Sending.{announces, next_object, sends_on}
use Rattle.ei_request.specs.Making.{seat_made, seat_description, AddsSeat}
use Rattle.ei_request.specs.Handling.{set_of}
use Rattle.ei_standing.specs.Standing.{object_of, connection_object, seat_of, seat_held, AreDevices, IsHeld, HandedOver, seat_events}
use Rattle.ei_standing.proofs.FiltersAlike.{alike}
use Rattle.ei_standing.proofs.HeldPlainly.{are_devices}
use Rattle.ei_standing.proofs.NamedBefore.{named_early, named_finish}

-- ---- before the finish

serial_first : (setup : Setup) → setup.serial < 2 ^ 32 → serial setup [] ≡ setup.serial
unfolding serial total
serial_first setup small = let z : setup.serial + 0 ≡ setup.serial = omega arith in ap (λ (n : ℕ). n % 2 ^ 32) z ∙ mod-eq_of_lt {n = setup.serial} {m = 2 ^ 32} small

no_serial : (setup : Setup) (past : List Raw) → connected past ≡ false → setup.serial < 2 ^ 32 → setup.serial ≡ serial setup past
no_serial setup [] off small = sym (serial_first setup small)
no_serial setup (m ∷ past) off small = let w = not_the_finish past m off in no_serial setup past w.1 small ∙ sym (early_keeps past m w.1 setup w.0).same_serial

no_callback : (past : List Raw) → connected past ≡ false → next_peer past ≡ 1
no_callback [] off = peer_first
no_callback (m ∷ past) off = let w = not_the_finish past m off in peer_other past m (early_synced past m w.1) ∙ no_callback past w.1

no_frame : (setup : Setup) (past : List Raw) → connected past ≡ false → frames_made (each (slot setup) past) ≡ 0
unfolding frames_made total each
no_frame setup [] off = refl
no_frame setup (m ∷ past) off = let w = not_the_finish past m off in frames_none setup past m (early_item past m w.1) ∙ no_frame setup past w.1

-- the finish announces nothing
no_other : (a b c : Bool) → (b ≡ true → c ≡ false) → (a && b) ≡ true → (a && c) ≡ false
no_other true b c h e = h e
no_other false b c h e = refl

other_opcode : (opcode : ℕ) → eqb opcode 1 ≡ true → eqb opcode 4 ≡ false
other_opcode opcode e = rw (eqb-true opcode 1 e) refl

announces_nothing : (m : Raw) → is_finish m ≡ true → announced m ≡ None
unfolding is_finish announced
announces_nothing m e = rw (no_other (eqb m.id 0) (eqb m.opcode 1) (eqb m.opcode 4) (other_opcode m.opcode) e) refl

-- ---- the seat's events

abbrev offered : ℕ → ℕ → (KnownInterface → Bool) → ℕ × KnownInterface → Option Raw
offered seat mask settles c = cond (has_bit mask c.0 && settles c.1) (Some (capability_event seat c)) None

abbrev settles : List Raw → KnownInterface → Bool
settles before interface = is_some (settled before interface)

-- no capability is of the handshake
no_handshake : (d : DeviceCapability) → interface_of d ≢ known.Handshake
no_handshake Pointer e = absurd cc
no_handshake d e = absurd cc

module _ (seat mask : ℕ) (before : List Raw) where
  one : (bit : ℕ) (interface : KnownInterface) → interface ≢ known.Handshake → offered seat mask (is_settled (settled_map before)) (bit, interface) ≡ offered seat mask (settles before) (bit, interface)
  one bit interface h = ap (λ (o : Option ℕ). cond (has_bit mask bit && is_some o) (Some (capability_event seat (bit, interface))) None) (get_settled before interface h)

  all_alike : (ones : List DeviceCapability) →
      AllByRecursion (λ c. offered seat mask (is_settled (settled_map before)) c ≡ offered seat mask (settles before) c) (map (λ d. (bit_of d, interface_of d)) ones)
  all_alike [] = tt
  all_alike (d ∷ ones) = (one (bit_of d) (interface_of d) (no_handshake d), all_alike ones)

  capabilities_alike : capability_events seat mask (is_settled (settled_map before)) ≡ capability_events seat mask (settles before)
  unfolding capability_events
  capabilities_alike =
      alike (offered seat mask (is_settled (settled_map before))) (offered seat mask (settles before)) capabilities (all_alike capability_list)

seat_version : (before : List Raw) → version_in (settled_map before) known.Seat ≡ version before known.Seat
unfolding version
seat_version before = ap (λ (v : Option ℕ). unwrap_or v 1) (get_settled before known.Seat (λ e. absurd cc))

-- behind what hands the connection over they are all that answers the finish
pub finish_is : (setup : Setup) (before : List Raw) → (settled_events 0 (settled before) ++ connection_event 0 setup.serial connection_id ∷ []) ++ seat_events setup before ≡ finish_events setup before
unfolding finish_events
finish_is setup before = append_assoc (settled_events 0 (settled before)) (connection_event 0 setup.serial connection_id ∷ []) (seat_events setup before)

-- ---- the objects

no_device : (before : List Raw) (id : ℕ) (a b : Bool) → was_device (cond a (Some the_connection) (cond b (Some (record { interface = known.Seat; version = version before known.Seat; device = None })) None)) ≡ false
unfolding was_device
no_device before id true b = refl
no_device before id false true = refl
no_device before id false false = refl

handed_kind : (before : List Raw) (id : ℕ) → was_device (handed_over before id) ≡ false
unfolding handed_over
handed_kind before id = no_device before id (eqb id connection_id) (eqb id seat_id)

found_by : (before : List Raw) (id : ℕ) (a b : Bool) → eqb id seat_id ≡ a → eqb id connection_id ≡ b →
    cond a (Some (record { id = seat_id; interface = Known known.Seat; version = version before known.Seat; client_side = false })) (cond b (Some connection_object) None)
    ≡ option_map (object_of id) (cond b (Some the_connection) (cond a (Some (record { interface = known.Seat; version = version before known.Seat; device = None })) None))
found_by before id true true s t = absurd (let x = eqb-true id seat_id s in let y = eqb-true id connection_id t in omega (arith, x, y))
found_by before id true false s t = ap (λ (n : ℕ). Some (record { id = n; interface = Known known.Seat; version = version before known.Seat; client_side = false })) (sym (eqb-true id seat_id s))
found_by before id false true s t = ap (λ (n : ℕ). Some (record { id = n; interface = Known known.Connection; version = 1; client_side = false })) (sym (eqb-true id connection_id t))
found_by before id false false s t = refl

found_handed : (before : List Raw) (id : ℕ) → cond (eqb id seat_id) (Some (record { id = seat_id; interface = Known known.Seat; version = version before known.Seat; client_side = false })) (cond (eqb id connection_id) (Some connection_object) None)
    ≡ option_map (object_of id) (handed_over before id)
unfolding handed_over
found_handed before id = found_by before id (eqb id seat_id) (eqb id connection_id) refl refl

seat_opens : (before : List Raw) → is_some (handed_over before seat_id) ≡ true
unfolding handed_over
seat_opens before = refl

-- ---- what the handshake hands over

-- object 0 alone, and the connection in its place
abbrev shaking : TableView
shaking = new_table false first_server_id

abbrev connected_table : TableView
connected_table = without (with_own shaking (Known known.Connection) 1) 0

only_connection : (id : ℕ) (a b : Bool) (old : Option ObjectView) → eqb id 0 ≡ a → eqb id connection_id ≡ b → old ≡ cond a (Some (first_object false)) None →
    cond a None (cond b (Some connection_object) old) ≡ cond b (Some connection_object) None
only_connection id true true old z c is = absurd (let x = eqb-true id 0 z in let y = eqb-true id connection_id c in omega (arith, x, y))
only_connection id true false old z c is = refl
only_connection id false true old z c is = refl
only_connection id false false old z c is = is

found_first : (id : ℕ) → found shaking id ≡ cond (eqb id 0) (Some (first_object false)) None
found_first id = get_with empty 0 id (first_object false) ∙ ap (cond (eqb id 0) (Some (first_object false))) (get-empty nat_cmp id)

found_connection : (id : ℕ) → found connected_table id ≡ cond (eqb id connection_id) (Some connection_object) None
found_connection id =
    found_without (with_own shaking (Known known.Connection) 1) 0 id ∙ ap (cond (eqb id 0) None) (found_own shaking (Known known.Connection) 1 id)
    ∙ only_connection id (eqb id 0) (eqb id connection_id) (found shaking id) refl refl (found_first id)

pub handed_so : (before : List Raw) (resp : EisHandshakeResp) (ctx : BackendView) (unsent unread : List ℕ) (handles : List Handle) → resp.connection ≡ connection_object → is_some resp.name ≡ came (codes "name") before → resp.negotiated_interfaces ≡ settled_map before →
    endpoint_of ctx ≡ record (endpoint_of (new_backend connected_table)) { unread = unread; handles = handles; unsent = unsent } → HandedOver before resp ctx
handed_so before resp ctx unsent unread handles c n v endpoint = record {
  connection = c;
  named = n;
  versions = v;
  server = ap (λ (x : Endpoint). x.client) endpoint;
  opened = ap (λ (x : Endpoint). x.closed) endpoint;
  no_handles = ap (λ (x : Endpoint). x.unsent_handles) endpoint;
  objects = λ id. ap (λ (x : Endpoint). get x.objects id) endpoint ∙ found_connection id;
  own = ap (λ (x : Endpoint). x.next_own) endpoint;
  peer = ap (λ (x : Endpoint). x.next_peer) endpoint;
}

-- ---- the converter

module _ (setup : Setup) (before : List Raw) (finish : Raw) (ctx : BackendView) (resp : EisHandshakeResp) (f : is_the_finish before finish ≡ true) (over : HandedOver before resp ctx) where
  abbrev e : Endpoint
  e = endpoint_of ctx

  off : connected before ≡ false
  off = (at_finish before finish f).1

  same_version : (i : KnownInterface) → version (finish ∷ before) i ≡ version before i
  same_version = (finish_versions before finish f).same_version

  -- the endpoint with the seat
  abbrev seated : Endpoint
  seated = sends_on (announces e (seat_event connection_id seat_id (version before known.Seat)) known.Seat (version before known.Seat)) (capability_events seat_id setup.capabilities (settles before) ++ done_event seat_id ∷ [])

  seated_is : seat_made e resp.connection.id resp.negotiated_interfaces None setup.capabilities ≡ seated
  seated_is =
      ap (λ (o : ObjectView). seat_made e o.id resp.negotiated_interfaces None setup.capabilities) over.connection
      ∙ ap (λ (v : VersionMap). seat_made e connection_id v None setup.capabilities) over.versions
      ∙ ap (λ (v : ℕ). sends_on (announces e (seat_event connection_id e.next_own v) known.Seat v) (seat_description (settled_map before) e.next_own None setup.capabilities)) (seat_version before)
      ∙ ap (λ (n : ℕ). sends_on (announces e (seat_event connection_id n (version before known.Seat)) known.Seat (version before known.Seat)) (seat_description (settled_map before) n None setup.capabilities)) over.own
      ∙ ap (λ (x : List Raw). sends_on (announces e (seat_event connection_id seat_id (version before known.Seat)) known.Seat (version before known.Seat)) (x ++ done_event seat_id ∷ [])) (capabilities_alike seat_id setup.capabilities before)

  abbrev with_seat : BackendView → ConnectionView
  with_seat new = record (new_connection ctx resp setup.serial) {
    ctx = new;
    seats = record {
      proxy = next_object e known.Seat (version_in resp.negotiated_interfaces known.Seat);
      capabilities = set_of setup.capabilities;
      released = false;
    } ∷ [];
  }

  seat_is : next_object e known.Seat (version_in resp.negotiated_interfaces known.Seat) ≡ seat_of (finish ∷ before)
  seat_is =
      ap (λ (v : VersionMap). next_object e known.Seat (version_in v known.Seat)) over.versions
      ∙ ap (λ (v : ℕ). next_object e known.Seat v) (seat_version before ∙ sym (same_version known.Seat))
      ∙ ap (λ (n : ℕ). record { id = n; interface = Known known.Seat; version = version (finish ∷ before) known.Seat; client_side = e.client }) over.own
      ∙ ap (λ (b : Bool). record { id = seat_id; interface = Known known.Seat; version = version (finish ∷ before) known.Seat; client_side = b }) over.server

  seat_open : seat_is_open (finish ∷ before) ≡ true
  seat_open = sym (object_seat (finish ∷ before)) ∙ ap is_some (object_handed before finish seat_id f) ∙ seat_opens before

  held_seat : record { proxy = next_object e known.Seat (version_in resp.negotiated_interfaces known.Seat); capabilities = set_of setup.capabilities; released = false } ≡ seat_held setup (finish ∷ before)
  held_seat =
      ap (λ (o : ObjectView). record { proxy = o; capabilities = set_of setup.capabilities; released = false }) seat_is
      ∙ ap (λ (b : Bool). record { proxy = seat_of (finish ∷ before); capabilities = set_of setup.capabilities; released = not b }) (sym seat_open)

  found_now : (id : ℕ) → get seated.objects id ≡ option_map (object_of id) (object (finish ∷ before) id)
  found_now id =
      get_with e.objects e.next_own id (next_object e known.Seat (version before known.Seat))
      ∙ ap (λ (n : ℕ). cond (eqb id n) (Some (record { id = n; interface = Known known.Seat; version = version before known.Seat; client_side = e.client })) (get e.objects id)) over.own
      ∙ ap (λ (b : Bool). cond (eqb id seat_id) (Some (record { id = seat_id; interface = Known known.Seat; version = version before known.Seat; client_side = b })) (get e.objects id)) over.server
      ∙ ap (λ (o : Option ObjectView). cond (eqb id seat_id) (Some (record { id = seat_id; interface = Known known.Seat; version = version before known.Seat; client_side = false })) o) (over.objects id)
      ∙ found_handed before id ∙ ap (option_map (object_of id)) (sym (object_handed before finish id f))

  no_devices : AreDevices setup (finish ∷ before) []
  no_devices = are_devices setup (finish ∷ before) [] tt (λ id. ap was_device (object_handed before finish id f) ∙ handed_kind before id)

  held_by : setup.capabilities ≤ all_bits → setup.serial < 2 ^ 32 → (new : BackendView) → endpoint_of new ≡ seated → IsHeld setup (finish ∷ before) [] (record { handle = with_seat new; queue = [] })
  held_by few small new endpoint = record {
    lawful = few;
    connected = now_connected before finish f;
    server = ap (λ (x : Endpoint). x.client) endpoint ∙ over.server;
    opened = ap (λ (x : Endpoint). x.closed) endpoint ∙ over.opened;
    no_handles = ap (λ (x : Endpoint). x.unsent_handles) endpoint ∙ over.no_handles;
    objects = λ id. ap (λ (x : Endpoint). get x.objects id) endpoint ∙ found_now id;
    own = ap (λ (x : Endpoint). x.next_own) endpoint ∙ ap (λ (n : ℕ). n + 1) over.own ∙ sym (own_finish before finish f);
    peer = ap (λ (x : Endpoint). x.next_peer) endpoint ∙ over.peer ∙ sym (peer_other before finish (early_synced before finish off) ∙ no_callback before off);
    proxy = over.connection;
    name = over.named ∙ sym (named_early before off) ∙ sym (named_finish before finish f);
    versions = over.versions ∙ sym (other_map before finish (announces_nothing finish (at_finish before finish f).0));
    serial = no_serial setup before off small ∙ sym (finish_serial before finish f setup);
    seats = ap (λ (s : SeatView). s ∷ []) held_seat;
    devices = no_devices;
    going_on = refl;
    frames = sym (frames_none setup before finish (finish_item before finish f) ∙ no_frame setup before off);
  }

  module _ (new : ConnectionView) (adds : AddsSeat (new_connection ctx resp setup.serial) None (set_of setup.capabilities) new) where
    endpoint_is : endpoint_of new.ctx ≡ seated
    endpoint_is = adds.endpoint ∙ seated_is

    pub held_first : setup.capabilities ≤ all_bits → setup.serial < 2 ^ 32 → IsHeld setup (finish ∷ before) [] (record { handle = new; queue = [] })
    held_first few small = subst (λ (x : ConnectionView). IsHeld setup (finish ∷ before) [] (record { handle = x; queue = [] })) (sym adds.rest) (held_by few small new.ctx endpoint_is)

    pub unsent_first : new.ctx.unsent ≡ ctx.unsent ++ all_bytes (seat_events setup before)
    unsent_first = ap (λ (x : Endpoint). x.unsent) endpoint_is ∙ append_assoc ctx.unsent (bytes_of (seat_event connection_id seat_id (version before known.Seat))) (all_bytes (capability_events seat_id setup.capabilities (settles before) ++ done_event seat_id ∷ []))

    pub all_first : ctx.unsent ≡ all_bytes (settled_events 0 (settled before) ++ connection_event 0 setup.serial connection_id ∷ []) → new.ctx.unsent ≡ all_bytes (finish_events setup before)
    all_first told =
        unsent_first ∙ ap (λ (x : List ℕ). x ++ all_bytes (seat_events setup before)) told
        ∙ sym (flat_map-append bytes_of (settled_events 0 (settled before) ++ connection_event 0 setup.serial connection_id ∷ []) (seat_events setup before))
        ∙ ap all_bytes (finish_is setup before)

    pub unread_first : new.ctx.unread ≡ ctx.unread
    unread_first = ap (λ (x : Endpoint). x.unread) endpoint_is

    pub handles_first : new.ctx.handles ≡ ctx.handles
    handles_first = ap (λ (x : Endpoint). x.handles) endpoint_is
