-- One more bind, or request for a device, behind which a device of the mask was made and resumed.
use Rattle.std.proofs.Common.{◌≡◌, ◌≢◌, ℕ, ◌+◌, ◌<◌, ◌%◌, ◌^◌, Bool, true, false, cond, eqb, leb, List, [], ◌∷◌, ◌++◌, length, Option, Some, None}
use Rattle.std.proofs.Common.{refl, sym, ap, ◌∙◌, subst, arith}
use Rattle.std.specs.Prelude.{find, is_some, ◌↔◌, bit_and}
use Rattle.std.specs.FinMap.{get}
use Rattle.std.specs.Option.{option_map, option_or}
use Rattle.std.proofs.lemmas.Bool.Decides.{nat_tests}
use Rattle.std.proofs.lemmas.List.{append-nil}
use Rattle.std.proofs.lemmas.List.Folds.{find-append}
use Rattle.ei_spec.specs.declared.interface.KnownInterface.{KnownInterface}
use Rattle.ei_spec.specs.declared.interface.KnownInterface.TheVariants as known
use Rattle.ei_spec.specs.Interface.{ObjectView}
use Rattle.ei_spec.specs.Message.{Raw, bytes_of, all_bytes}
use Rattle.ei_spec.specs.Groups.{Free}
use Rattle.ei_types.specs.declared.enums.DeviceType.{DeviceType}
use Rattle.ei_types.specs.declared.enums.DeviceType.TheVariants.{Virtual}
use Rattle.ei_backend.specs.Table.{first_server_id, own_end}
use Rattle.ei_backend.specs.Backend.{BackendView}
use Rattle.ei_backend.specs.Endpoint.{Endpoint, endpoint_of}
use Rattle.ei_handshake.specs.Versions.{VersionMap}
use Rattle.ei_session.specs.Setup.{Setup, seat_id}
use Rattle.ei_session.specs.Handshake.{connected, version}
use Rattle.ei_session.specs.SettledMap.{settled_map}
use Rattle.ei_session.specs.Devices.{seat_is_open, made, next_id, interfaces_of, exhausts}
use Rattle.ei_session.specs.Objects.{Entry, object, new_device as introduced_device}
use Rattle.ei_session.specs.Serial.{serial}
use Rattle.ei_session.specs.Touches.{input}
use Rattle.ei_session.specs.Refusals.{synced, refusal}
use Rattle.ei_session.specs.Requests.{Plain, item}
use Rattle.ei_session.specs.Events.{resumed_event, device_events, reply}
use Rattle.ei_session.specs.Meaning.{Meaning, meaning}
use Rattle.ei_session.specs.ByMeaning.{mask_in}
use Rattle.ei_session.specs.NextIds.{next_own}
use Rattle.ei_session.specs.Kept.{KeepsVersions}
use Rattle.ei_session.proofs.KeptByRequests.{stays_connected, fixed_versions}
use Rattle.ei_session.proofs.NewObjects.{older_same}
use Rattle.ei_session.proofs.NextLaws.{own_device, own_made, own_exhausting, peer_other}
use Rattle.ei_session.proofs.ObjectLaws.{object_new, next_above}
use Rattle.ei_session.proofs.ObjectShape.{object_seat}
use Rattle.ei_session.proofs.ReplyLaws.{reply_made}
use Rattle.ei_session.proofs.SerialLaws.{serial_more, steps_made}
use Rattle.ei_session.proofs.SettledMapLaws.{connected_map}
use Rattle.ei_request.specs.Held.{SeatView, DeviceView, is_seat, is_of_key}
use Rattle.ei_request.specs.declared.making.DeviceSetup.{DeviceSetup}
use Rattle.ei_request.specs.Connection.{ConnectionView, next_serial, holds_device}
use Rattle.ei_request.specs.Sending.{tells}
use Rattle.ei_request.specs.Making.{announces_all, granted_by, new_device, makes_device, AddsDevice}
use Rattle.ei_request.specs.Handling.{handled, set_of}
use Rattle.ei_request.specs.Converter.{ConverterView}
use Rattle.ei_standing.specs.Standing.{object_of, seat_of, seat_held, plain_in_code, IsHeld, TookOne}
use Rattle.ei_standing.proofs.GrantedMasks.{granted_is}
use Rattle.ei_standing.proofs.MadeEndpoint.{begun, described, described_as, described_objects, described_own, described_unsent, described_kept, none_bare}
use Rattle.ei_standing.proofs.NamedBefore.{named_after}
use Rattle.ei_standing.proofs.OneDeviceMore.{one_device_more}
use Rattle.ei_standing.proofs.SeatAsked.{AsksDevice, asks_device, some_made, no_callback, no_input, within}
use Rattle.ei_standing.proofs.TookQuietly.{free_queue, same_readings}

map_or : (id : ℕ) (a b : Option Entry) → option_or (option_map (object_of id) a) (option_map (object_of id) b) ≡ option_map (object_of id) (option_or a b)
map_or id None b = refl
map_or id (Some x) b = refl

-- ---- over what is added to the connection

module _ (setup : Setup) (past : List Raw) (m : Raw) (readings : List ℕ) (c : ConverterView) (mask : ℕ) (y : Plain) (h : IsHeld setup past readings c)
    (mk : made past m ≡ Some mask) (enough : exhausts past m ≡ false) (free : item past m ≡ Some (Free y)) (silent : input past m ≡ None) (quiet : synced past m ≡ None) where
  abbrev before : Endpoint
  before = endpoint_of c.handle.ctx

  abbrev is : List KnownInterface
  is = interfaces_of mask

  abbrev view : DeviceView
  view = new_device before (settled_map past) (seat_of past) None is

  abbrev wanted : Endpoint
  wanted = described (version past) before is

  on : connected past ≡ true
  on = h.connected

  next : before.next_own ≡ next_id past
  next = h.own ∙ sym (own_made past m mask mk)

  versions : KeepsVersions past m
  versions = fixed_versions past m on

  seat_same : seat_held setup past ≡ seat_held setup (m ∷ past)
  seat_same =
      let still : seat_is_open (m ∷ past) ≡ seat_is_open past = sym (object_seat (m ∷ past)) ∙ ap is_some (older_same past m mask mk seat_id (next_above past)) ∙ object_seat past in
      rw (versions.same_version known.Seat, still) refl

  serial_now : next_serial c.handle.last_serial ≡ serial setup (m ∷ past)
  serial_now = ap next_serial h.serial ∙ sym (serial_more setup past m ∙ ap (λ (n : ℕ). (serial setup past + n) % 2 ^ 32) (steps_made past m mask mk enough))

  own_now : wanted.next_own ≡ next_own (m ∷ past)
  own_now = described_own past before is ∙ ap (λ (n : ℕ). n + 1 + length is) h.own ∙ omega arith ∙ sym (own_device past m mask mk)

  -- the connection with the device, over such an endpoint
  abbrev with_device : BackendView → ConnectionView
  with_device ctx = record c.handle { ctx = ctx; devices = c.handle.devices ++ view ∷ [] }

  abbrev made_so : BackendView → ConverterView
  made_so ctx = record { handle = tells (with_device ctx) (resumed_event before.next_own); queue = c.queue ++ plain_in_code past y ∷ [] }

  module _ (ctx : BackendView) (endpoint : endpoint_of ctx ≡ wanted) where
    held_now : IsHeld setup (m ∷ past) (readings ++ []) (made_so ctx)
    held_now = record {
      lawful = h.lawful;
      connected = stays_connected past m on;
      server = ap (λ (x : Endpoint). x.client) endpoint ∙ described_kept (λ x. x.client) past before is (λ x i. refl) ∙ h.server;
      opened = ap (λ (x : Endpoint). x.closed) endpoint ∙ described_kept (λ x. x.closed) past before is (λ x i. refl) ∙ h.opened;
      no_handles = ap (λ (x : Endpoint). x.unsent_handles) endpoint ∙ append-nil (announces_all (begun (version past) before) (version past) before.next_own is).unsent_handles ∙ described_kept (λ x. x.unsent_handles) past before is (λ x i. refl) ∙ h.no_handles;
      objects = λ id. ap (λ (x : Endpoint). get x.objects id) endpoint ∙ described_objects past before is id h.server next
          ∙ ap (option_or (option_map (object_of id) (introduced_device past (next_id past) is id))) (h.objects id)
          ∙ map_or id (introduced_device past (next_id past) is id) (object past id) ∙ ap (option_map (object_of id)) (sym (object_new past m mask id mk));
      own = ap (λ (x : Endpoint). x.next_own) endpoint ∙ own_now;
      peer = ap (λ (x : Endpoint). x.next_peer) endpoint ∙ described_kept (λ x. x.next_peer) past before is (λ x i. refl) ∙ h.peer ∙ sym (peer_other past m quiet);
      proxy = h.proxy;
      name = h.name ∙ sym (named_after past m on);
      versions = h.versions ∙ sym (connected_map past m on);
      serial = serial_now;
      seats = h.seats ∙ ap (λ (s : SeatView). s ∷ []) seat_same;
      devices = one_device_more setup past m mask y on mk free silent before h.server next c.handle.devices h.devices;
      going_on = h.going_on;
      frames = same_readings setup past m readings (Some y) free h.frames;
    }

    answered : (made_so ctx).handle.ctx.unsent ≡ c.handle.ctx.unsent ++ all_bytes (reply setup past m)
    answered =
        ap (λ (x : Endpoint). x.unsent ++ bytes_of (resumed_event before.next_own (next_serial c.handle.last_serial))) endpoint
        ∙ described_unsent past before is (next_serial c.handle.last_serial) next
        ∙ ap (λ (s : ℕ). c.handle.ctx.unsent ++ all_bytes (device_events (version past) (next_id past) is s)) serial_now
        ∙ ap (λ (x : List Raw). c.handle.ctx.unsent ++ all_bytes x) (sym (reply_made setup past m mask mk enough))

    made_one : TookOne setup past m readings [] c (made_so ctx)
    made_one = record {
      held = held_now;
      queue = λ later. free_queue setup past m ((readings ++ []) ++ later) c.queue (made_so ctx).queue (Some y) free refl;
      unsent = answered;
      unread = ap (λ (x : Endpoint). x.unread) endpoint ∙ described_kept (λ x. x.unread) past before is (λ x i. refl);
      handles = ap (λ (x : Endpoint). x.handles) endpoint ∙ described_kept (λ x. x.handles) past before is (λ x i. refl);
    }

  -- what was added, and then told
  pub bound : (added : ConnectionView) → AddsDevice c.handle (seat_of past) None Virtual is [] added →
      TookOne setup past m readings [] c (record { handle = tells added (resumed_event c.handle.ctx.table.next_own); queue = c.queue ++ plain_in_code past y ∷ [] })
  bound added adds =
      let same : c.handle.negotiated ≡ settled_map past = h.versions in
      let endpoint : endpoint_of added.ctx ≡ wanted =
      adds.endpoint ∙ ap (λ (v : VersionMap). makes_device before v seat_id None Virtual [] (new_device before v (seat_of past) None is) is) same ∙ described_as past before view is (none_bare mask) in
      let rest : added ≡ with_device added.ctx =
      adds.rest ∙ ap (λ (v : VersionMap). record c.handle { ctx = added.ctx; devices = c.handle.devices ++ new_device before v (seat_of past) None is ∷ [] }) same in
      subst (λ (x : ConnectionView). TookOne setup past m readings [] c (record { handle = tells x (resumed_event c.handle.ctx.table.next_own); queue = c.queue ++ plain_in_code past y ∷ [] })) (sym rest) (made_one added.ctx endpoint)

-- ---- the device that is added

same_id : (n : ℕ) → eqb n n ≡ true
same_id n = grind (arith, nat_tests)

or_some : (o : Option DeviceView) (v : DeviceView) → is_some (option_or o (Some v)) ≡ true
or_some None v = refl
or_some (Some w) v = refl

-- it is held
pub added_held : (old new : ConnectionView) (seat : ObjectView) (name : Option (List ℕ)) (kind : DeviceType) (interfaces : List KnownInterface) (items : List DeviceSetup) → AddsDevice old seat name kind interfaces items new →
    holds_device new (new_device (endpoint_of old.ctx) old.negotiated seat name interfaces).device ≡ true
added_held old new seat name kind interfaces items adds =
    let v : DeviceView = new_device (endpoint_of old.ctx) old.negotiated seat name interfaces in
    let mine : is_of_key v.device v ≡ true = rw (same_id seat.id, same_id v.device.proxy.id) refl in
    ap (λ (x : ConnectionView). is_some (find (is_of_key v.device) x.devices)) adds.rest
    ∙ ap is_some (find-append (is_of_key v.device) old.devices (v ∷ [])) ∙ rw mine (or_some (find (is_of_key v.device) old.devices) v)

-- ---- by what is asked

-- the interfaces that the seat grants to the mask
pub granted_all : (setup : Setup) (past : List Raw) (seats : List SeatView) (mask : ℕ) → seats ≡ seat_held setup past ∷ [] → bit_and mask setup.capabilities ≡ mask → granted_by (find (is_seat seat_id) seats) (set_of mask) ≡ interfaces_of mask
granted_all setup past seats mask is w = ap (λ (x : List SeatView). granted_by (find (is_seat seat_id) x) (set_of mask)) is ∙ granted_is setup.capabilities mask w

module _ (setup : Setup) (past : List Raw) (m : Raw) (readings : List ℕ) (c : ConverterView) (e : Entry) (h : IsHeld setup past readings c) (k : object past m.id ≡ Some e)
    (x : Meaning) (mask time : ℕ) (a : meaning e.interface m ≡ Some x) (is : mask_in (Some x) ≡ Some mask) (far : mask ≢ 0) (r : refusal setup past m ≡ None) where
  asked : AsksDevice setup past m c x mask time
  asked = asks_device setup past m readings c e h k x mask time a is

  makes : made past m ≡ Some mask
  makes = some_made setup past m readings c e h k x mask a is far

  inside : bit_and mask setup.capabilities ≡ mask
  inside = within setup past m readings c e h k x mask a is r

  -- what the request left of the connection
  abbrev left : ConnectionView
  left = (handled c m.id x time).handle

  pub after_bind : (added : ConnectionView) → exhausts past m ≡ false → AddsDevice left (seat_of past) None Virtual (granted_by (find (is_seat seat_id) left.seats) (set_of mask)) [] added →
      TookOne setup past m readings [] c (record (handled c m.id x time) { handle = tells added (resumed_event left.ctx.table.next_own) })
  after_bind added enough adds =
      let device : AddsDevice c.handle (seat_of past) None Virtual (interfaces_of mask) [] added =
      subst (λ (is : List KnownInterface). AddsDevice c.handle (seat_of past) None Virtual is [] added) (granted_all setup past c.handle.seats mask h.seats inside)
      (subst (λ (new : ConverterView). AddsDevice new.handle (seat_of past) None Virtual (granted_by (find (is_seat seat_id) new.handle.seats) (set_of mask)) [] added) asked.does adds) in
      subst (λ (new : ConverterView). TookOne setup past m readings [] c (record new { handle = tells added (resumed_event new.handle.ctx.table.next_own) })) (sym asked.does)
      (bound setup past m readings c mask asked.request h makes enough asked.item_is (no_input setup past m readings c e h k x mask a is) (no_callback setup past m readings c e h k x mask a is) added device)

  -- ---- whether the ids run out

  ends : own_end c.handle.ctx.table ≡ 18446744073709551615
  ends = ap (λ (b : Bool). cond b first_server_id 18446744073709551615) h.server

  runs_out : exhausts past m ≡ leb 18446744073709551615 (c.handle.ctx.table.next_own + length (interfaces_of mask))
  runs_out = own_exhausting past m mask makes ∙ ap (λ (n : ℕ). leb 18446744073709551615 (n + length (interfaces_of mask))) (sym h.own)

  too_few : (own end : ℕ) (count : ℕ) (b : Bool) → end ≡ 18446744073709551615 → b ≡ leb 18446744073709551615 (own + count) → (b ≡ true) ↔ (end < own + (count + 1))
  too_few own end count b is t = (λ yes. grind (arith, nat_tests, is, t, yes), λ less. grind (arith, nat_tests, is, t, less))

  pub after_exhausted : (exhausts past m ≡ true) ↔ (own_end left.ctx.table < left.ctx.table.next_own + (length (granted_by (find (is_seat seat_id) left.seats) (set_of mask)) + 1))
  after_exhausted =
      subst (λ (new : ConverterView). (exhausts past m ≡ true) ↔ (own_end new.handle.ctx.table < new.handle.ctx.table.next_own + (length (granted_by (find (is_seat seat_id) new.handle.seats) (set_of mask)) + 1))) (sym asked.does)
      (subst (λ (xs : List KnownInterface). (exhausts past m ≡ true) ↔ (own_end c.handle.ctx.table < c.handle.ctx.table.next_own + (length xs + 1))) (sym (granted_all setup past c.handle.seats mask h.seats inside))
      (too_few c.handle.ctx.table.next_own (own_end c.handle.ctx.table) (length (interfaces_of mask)) (exhausts past m) ends runs_out))
