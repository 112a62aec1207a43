-- The client released its seat: the seat stays, as released, and its object is gone.
use Rattle.std.proofs.Common.{◌≡◌, ℕ, ◌<◌, Bool, true, false, cond, eqb, List, [], ◌∷◌, ◌++◌, Option, Some, None, refl, sym, ap, ◌∙◌, arith}
use Rattle.std.specs.Prelude.{find, is_some, nat_eq, codes}
use Rattle.std.specs.Option.{option_map}
use Rattle.std.proofs.lemmas.Bool.{eqb-true}
use Rattle.std.proofs.lemmas.Bool.Decides.{nat_tests}
use Rattle.ei_spec.specs.declared.interface.KnownInterface.{KnownInterface}
use Rattle.ei_spec.specs.declared.interface.KnownInterface.TheVariants as known
use Rattle.ei_spec.specs.Interface.{ObjectView}
use Rattle.ei_spec.specs.Message.{Raw, bytes_of, all_bytes}
use Rattle.ei_backend.specs.Table.{found, without}
use Rattle.ei_backend.proofs.FoundAfter.{found_without}
use Rattle.ei_session.specs.Setup.{Setup, seat_id}
use Rattle.ei_session.specs.Asked.{asks}
use Rattle.ei_session.specs.Handshake.{connected}
use Rattle.ei_session.specs.Meaning.{meaning, ReleasesSeat}
use Rattle.ei_session.specs.Devices.{seat_is_open}
use Rattle.ei_session.specs.Objects.{Entry, object, was_device, is_device as is_of_device}
use Rattle.ei_session.specs.Serial.{serial}
use Rattle.ei_session.specs.Touches.{input}
use Rattle.ei_session.specs.Refusals.{synced}
use Rattle.ei_session.specs.Requests.{item}
use Rattle.ei_session.specs.Events.{destroyed_event, reply}
use Rattle.ei_session.specs.ByMeaning.{releases, callback_in}
use Rattle.ei_session.specs.Kept.{KeepsVersions}
use Rattle.ei_session.proofs.Choices.{not_both, turned}
use Rattle.ei_session.proofs.AnsweredMeans.{synced_asked}
use Rattle.ei_session.proofs.AskedByMeaning.{its_interface}
use Rattle.ei_session.proofs.AskedMeans.{release_asked}
use Rattle.ei_session.proofs.GoneLaws.{no_finish_again}
use Rattle.ei_session.proofs.ItemMeans.{input_by, bare, item_asked}
use Rattle.ei_session.proofs.KeptByRequests.{stays_connected, fixed_versions, seat_left, seat_shut, seat_serial, seat_reply}
use Rattle.ei_session.proofs.LeftInterfaces.{left_there}
use Rattle.ei_session.proofs.NextLaws.{own_other, peer_other}
use Rattle.ei_session.proofs.ObjectLaws.{object_is_introduced, device_above}
use Rattle.ei_session.proofs.ObjectShape.{object_seat, object_seat_release, release_makes_nothing}
use Rattle.ei_session.proofs.SettledMapLaws.{connected_map}
use Rattle.ei_session.proofs.WaitingLaws.{touch_none}
use Rattle.ei_request.specs.Held.{SeatView, DeviceView, is_seat, is_device, released, changed_first}
use Rattle.ei_request.specs.Connection.{next_serial}
use Rattle.ei_request.specs.Handling.{handled}
use Rattle.ei_request.specs.Converter.{ConverterView}
use Rattle.ei_standing.specs.Standing.{object_of, seat_held, IsDevice, IsHeldAt, AreDevices, IsHeld, TookOne}
use Rattle.ei_request.proofs.FirstOnes.{any_some}
use Rattle.ei_standing.proofs.HeldPlainly.{has_left, are_devices}
use Rattle.ei_standing.proofs.NamedBefore.{named_after}
use Rattle.ei_standing.proofs.SameRefusals.{at_home}
use Rattle.ei_standing.proofs.TookQuietly.{free_group, free_queue, same_readings, no_more}

module _ (setup : Setup) (past : List Raw) (m : Raw) (readings : List ℕ) (c : ConverterView) (e : Entry) (time : ℕ)
    (h : IsHeld setup past readings c) (k : object past m.id ≡ Some e) (a : meaning e.interface m ≡ Some ReleasesSeat) where
  on : connected past ≡ true
  on = h.connected

  is_the_seat : e.interface ≡ known.Seat
  is_the_seat = its_interface e.interface m ReleasesSeat known.Seat a refl

  at : m.id ≡ seat_id
  at = at_home setup past m readings c e h k known.Seat seat_id is_the_seat refl refl

  asks_it : asks known.Seat (codes "release") m ≡ true
  asks_it = ap (λ (i : KnownInterface). asks i (codes "release") m) (sym is_the_seat) ∙ release_asked e.interface m ∙ ap releases a

  opened : seat_is_open past ≡ true
  opened = sym (object_seat past) ∙ ap is_some (ap (object past) (sym at) ∙ k)

  versions : KeepsVersions past m
  versions = fixed_versions past m on

  item_is : item past m ≡ None
  item_is = item_asked past m e k ∙ rw a refl

  no_input : input past m ≡ None
  no_input = input_by past m e k ∙ rw a (bare e.device)

  quiet : synced past m ≡ None
  quiet = synced_asked past m e on k ∙ ap callback_in a

  -- ---- the objects

  object_now : (id : ℕ) → object (m ∷ past) id ≡ cond (eqb m.id id) None (object past id)
  object_now id = object_seat_release past m id on at asks_it

  object_same : (id : ℕ) → seat_id < id → object (m ∷ past) id ≡ object past id
  object_same id above = let other : eqb m.id id ≡ false = grind (arith, nat_tests, at, above) in object_now id ∙ rw other refl

  found_by : (id : ℕ) (b : Bool) → eqb m.id id ≡ b → cond b None (found c.handle.ctx.table id) ≡ option_map (object_of id) (cond b None (object past id))
  found_by id true t = refl
  found_by id false t = h.objects id

  found_now : (id : ℕ) → found (without c.handle.ctx.table m.id) id ≡ option_map (object_of id) (object (m ∷ past) id)
  found_now id =
      found_without c.handle.ctx.table m.id id ∙ ap (λ (b : Bool). cond b None (found c.handle.ctx.table id)) (turned id m.id)
      ∙ found_by id (eqb m.id id) refl ∙ ap (option_map (object_of id)) (sym (object_now id))

  -- ---- the devices

  no_device_at : (id : ℕ) (b : Bool) → eqb m.id id ≡ b → was_device (object past id) ≡ false → was_device (cond b None (object past id)) ≡ false
  unfolding was_device
  no_device_at id true t w = refl
  no_device_at id false t w = w

  not_the_seat : (id : ℕ) (b : Bool) → eqb m.id id ≡ b → was_device (object past id) ≡ true → was_device (cond b None (object past id)) ≡ true
  unfolding was_device
  not_the_seat id true t w = absurd (not_both (was_device (object past id)) w (ap (λ (n : ℕ). was_device (object past n)) (sym (eqb-true m.id id t)) ∙ ap was_device k ∙ ap is_of_device is_the_seat))
  not_the_seat id false t w = w

  still_there : (id : ℕ) (d : DeviceView) → IsDevice setup past id d → (i : ℕ) (o : ObjectView) → find (λ x. nat_eq x.id i) d.interfaces ≡ Some o → option_map (object_of i) (object (m ∷ past) i) ≡ Some o
  still_there id d v i o q =
      let left = left_there past id i (sym (has_left setup past i id d v) ∙ any_some (λ (x : ObjectView). nat_eq x.id i) d.interfaces o q) in
      ap (option_map (object_of i)) (object_same i (device_above past i left.entry id (object_is_introduced past i left.entry left.is) left.own)) ∙ v.objects i o q

  held_now : (id : ℕ) (o : Option DeviceView) → IsHeldAt setup past id o → IsHeldAt setup (m ∷ past) id o
  held_now id None w = ap was_device (object_now id) ∙ no_device_at id (eqb m.id id) refl w
  held_now id (Some d) v = record {
    there = ap was_device (object_now id) ∙ not_the_seat id (eqb m.id id) refl v.there;
    device = v.device ∙ rw (versions.same_version known.Seat, versions.same_version known.Device) refl;
    unnamed = v.unnamed;
    interfaces = v.interfaces ∙ sym (seat_left past m on at asks_it id);
    objects = still_there id d v;
    waiting = v.waiting ∙ sym (free_group setup past m None item_is id);
    touches = λ touch. v.touches touch ∙ sym (touch_none past m no_input id touch);
    once = v.once;
  }

  devices_now : AreDevices setup (m ∷ past) c.handle.devices
  devices_now = are_devices setup (m ∷ past) c.handle.devices h.devices.rise (λ id. held_now id (find (is_device id) c.handle.devices) (h.devices.each_one id))

  -- ---- the seat

  here : nat_eq seat_id m.id ≡ true
  here = let same = at in grind (arith, nat_tests, same)

  seat_now : record (seat_held setup past) { released = true } ≡ seat_held setup (m ∷ past)
  seat_now = rw (versions.same_version known.Seat, seat_shut past m on at asks_it) refl

  seats_now : changed_first (is_seat m.id) released c.handle.seats ≡ seat_held setup (m ∷ past) ∷ []
  seats_now = ap (changed_first (is_seat m.id) released) h.seats ∙ rw here refl ∙ ap (λ (s : SeatView). s ∷ []) seat_now

  serial_now : next_serial c.handle.last_serial ≡ serial setup (m ∷ past)
  serial_now = ap next_serial h.serial ∙ sym (seat_serial setup past m opened at asks_it)

  answered : destroyed_event m.id (next_serial c.handle.last_serial) ∷ [] ≡ reply setup past m
  answered =
      ap (λ (n : ℕ). destroyed_event n (next_serial c.handle.last_serial) ∷ []) at ∙ ap (λ (s : ℕ). destroyed_event seat_id s ∷ []) serial_now
      ∙ sym (seat_reply setup past m opened at asks_it)

  pub after_seat_release : TookOne setup past m readings [] c (handled c m.id ReleasesSeat time)
  after_seat_release = record {
    held = record {
      lawful = h.lawful;
      connected = stays_connected past m on;
      server = h.server;
      opened = h.opened;
      no_handles = h.no_handles;
      objects = found_now;
      own = h.own ∙ sym (own_other past m (no_finish_again past m on) (release_makes_nothing past m known.Seat asks_it));
      peer = h.peer ∙ sym (peer_other past m quiet);
      proxy = h.proxy;
      name = h.name ∙ sym (named_after past m on);
      versions = h.versions ∙ sym (connected_map past m on);
      serial = serial_now;
      seats = seats_now;
      devices = devices_now;
      going_on = h.going_on;
      frames = same_readings setup past m readings None item_is h.frames;
    };
    queue = λ later. free_queue setup past m ((readings ++ []) ++ later) c.queue c.queue None item_is (no_more c.queue);
    unsent = ap (λ (x : List ℕ). c.handle.ctx.unsent ++ x) (no_more (bytes_of (destroyed_event m.id (next_serial c.handle.last_serial)))) ∙ ap (λ (x : List Raw). c.handle.ctx.unsent ++ all_bytes x) answered;
    unread = refl;
    handles = refl;
  }
