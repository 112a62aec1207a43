-- What each act of a server sends, and what that makes of its endpoint.
use Rattle.std.proofs.Common.{◌≡◌, ℕ, Bool, true, false, cond, ◌&&◌, List, [], ◌∷◌, ◌++◌, map, Option, Some, None, refl, sym, ap, ◌∙◌, append-nil}
use Rattle.std.specs.Prelude.{find, codes}
use Rattle.std.specs.List.{flat_map, filter_map}
use Rattle.ei_spec.specs.declared.handle.Handle.{Handle}
use Rattle.ei_spec.specs.declared.interface.KnownInterface.{KnownInterface}
use Rattle.ei_spec.specs.declared.interface.KnownInterface.TheVariants as known
use Rattle.ei_spec.specs.Interface.{ObjectView}
use Rattle.ei_spec.specs.Message.{Raw}
use Rattle.ei_spec.specs.Value.{Word, Long}
use Rattle.ei_types.specs.Capability.{capabilities, has_bit, bits_of}
use Rattle.ei_types.specs.declared.capability.DeviceCapabilities.{DeviceCapabilities}
use Rattle.ei_session.specs.Replies.{name_event, capability_event, capability_events, seat_event}
use Rattle.ei_session.specs.Events.{resumed_event}
use Rattle.ei_backend.specs.Backend.{BackendView}
use Rattle.ei_backend.specs.Endpoint.{Endpoint, endpoint_of}
use Rattle.ei_ends.specs.Sent.{Sent, raw_of, row_of, bytes_in, handles_in}
use Rattle.ei_ends.specs.Steps.{called, table_after, table_with}
use Rattle.ei_request.specs.Keys.{DeviceKey}
use Rattle.ei_request.specs.Held.{DeviceView, is_seat, is_of_key, has_interface, gone_ids, gone_with_seat, changed_first, untouched}
use Rattle.ei_request.specs.Connection.{ConnectionView, next_serial, is_settled}
use Rattle.ei_request.specs.Sending as sending
use Rattle.ei_request.specs.Making.{named_by, AddsSeat, seat_description}
use Rattle.ei_request.specs.Removing.{RemovesDevice, RemovesSeat}
use Rattle.ei_request.specs.Handling as handling
use Rattle.ei_acts.specs.Events as event
use Rattle.ei_acts.specs.Acts.{resumed, paused, start_emulating, stop_emulating, frame, invalid_object, gone, remove_device, remove_seat, release_seat, gives_up, release_interface, named, seat_version, offered, add_seat}
use Rattle.ei_acts.specs.Holding.{Sends, AllMayGo}
use Rattle.ei_acts.proofs.Effects.{called_all, sends_by, AreQuiet, plainly, one_plain, announcing, all_go}

-- ---- a device tells

pub resumed_sends : (old : ConnectionView) (device : ObjectView) → Sends (resumed old device) old (sending.tells old (resumed_event device.id))
unfolding row_of
resumed_sends old device = sends_by (resumed old device) old (sending.tells old (resumed_event device.id)) (one_plain (event.to_device device.version device.id (codes "resumed") (Word (next_serial old.last_serial) ∷ [])) old.ctx refl refl refl)

pub paused_sends : (old : ConnectionView) (key : DeviceKey) (device : ObjectView) → device.id ≡ key.proxy.id → Sends (paused old device) old (record (sending.tells old (sending.paused_event key.proxy.id)) { devices = changed_first (is_of_key key) untouched old.devices })
unfolding row_of
paused_sends old key device same = sends_by (paused old device) old (record (sending.tells old (sending.paused_event key.proxy.id)) { devices = changed_first (is_of_key key) untouched old.devices })
    (ap (λ (id : ℕ). endpoint_of (sending.says old.ctx (sending.paused_event id (next_serial old.last_serial)))) (sym same)
    ∙ one_plain (event.to_device device.version device.id (codes "paused") (Word (next_serial old.last_serial) ∷ [])) old.ctx refl refl refl)

pub start_sends : (old : ConnectionView) (device : ObjectView) (sequence : ℕ) → Sends (start_emulating old device sequence) old (sending.tells old (λ serial. sending.start_emulating_event device.id serial sequence))
unfolding row_of
start_sends old device sequence = sends_by (start_emulating old device sequence) old (sending.tells old (λ serial. sending.start_emulating_event device.id serial sequence))
    (one_plain (event.to_device device.version device.id (codes "start_emulating") (Word (next_serial old.last_serial) ∷ Word sequence ∷ [])) old.ctx refl refl refl)

pub stop_sends : (old : ConnectionView) (device : ObjectView) → Sends (stop_emulating old device) old (sending.tells old (sending.stop_emulating_event device.id))
unfolding row_of
stop_sends old device = sends_by (stop_emulating old device) old (sending.tells old (sending.stop_emulating_event device.id)) (one_plain (event.to_device device.version device.id (codes "stop_emulating") (Word (next_serial old.last_serial) ∷ [])) old.ctx refl refl refl)

pub frame_sends : (old : ConnectionView) (device : ObjectView) (time : ℕ) → Sends (frame old device time) old (sending.tells old (λ serial. sending.frame_event device.id serial time))
unfolding row_of
frame_sends old device time = sends_by (frame old device time) old (sending.tells old (λ serial. sending.frame_event device.id serial time))
    (one_plain (event.to_device device.version device.id (codes "frame") (Word (next_serial old.last_serial) ∷ Long time ∷ [])) old.ctx refl refl refl)

pub invalid_sends : (old : ConnectionView) (id : ℕ) → Sends (invalid_object old id) old (record old { ctx = sending.says old.ctx (sending.no_object_event old.proxy.id old.last_serial id) })
unfolding row_of
invalid_sends old id = sends_by (invalid_object old id) old (record old { ctx = sending.says old.ctx (sending.no_object_event old.proxy.id old.last_serial id) })
    (one_plain (event.no_object old.proxy old.last_serial id) old.ctx refl refl refl)

-- ---- a request is answered

callback_goes : (callback version : ℕ) (b : BackendView) → endpoint_of (sending.called b callback) ≡ endpoint_of (called_all (event.called_back callback version ∷ []) b)
unfolding row_of table_after table_with bytes_in
callback_goes callback version b = ap (λ (u : List Handle). let e : Endpoint = record (endpoint_of (sending.called b callback)) { unsent_handles = u } in e) (sym (append-nil b.unsent_handles))

pub sync_sends : (old : ConnectionView) (callback version : ℕ) → Sends (event.called_back callback version ∷ []) old (handling.calls_back old callback)
sync_sends old callback version = sends_by (event.called_back callback version ∷ []) old (handling.calls_back old callback) (callback_goes callback version old.ctx)

pub seat_release_sends : (old : ConnectionView) (id : ℕ) → AllMayGo old.ctx.table (id ∷ []) → Sends (release_seat old id) old (handling.releases_seat old id)
seat_release_sends old id h = sends_by (release_seat old id) old (handling.releases_seat old id) (sym (all_go old.ctx.table old.last_serial (id ∷ []) h old.ctx))

pub interface_release_sends : (old : ConnectionView) (id : ℕ) → AllMayGo old.ctx.table (id ∷ []) → Sends (release_interface old id) old (handling.obeys old id None)
interface_release_sends old id h = by (find (has_interface id) old.devices)
  where
    by : (d : Option DeviceView) → Sends (gives_up old id d) old (handling.gives_up old id d)
    by None = sends_by [] old old refl
    by (Some d) = sends_by (gone old (id ∷ [])) old (handling.gives_up old id (Some d)) (sym (all_go old.ctx.table old.last_serial (id ∷ []) h old.ctx))

-- ---- objects go

gone_sends : (old new : ConnectionView) (ids : List ℕ) → endpoint_of new.ctx ≡ sending.destroys_all (endpoint_of old.ctx) old.last_serial ids → AllMayGo old.ctx.table ids → Sends (gone old ids) old new
gone_sends old new ids e h = sends_by (gone old ids) old new (e ∙ sym (all_go old.ctx.table old.last_serial ids h old.ctx))

pub device_goes_sends : (old new : ConnectionView) (key : DeviceKey) → RemovesDevice old key new → AllMayGo old.ctx.table (gone_ids (find (is_of_key key) old.devices)) → Sends (remove_device old key) old new
device_goes_sends old new key r h = gone_sends old new (gone_ids (find (is_of_key key) old.devices)) r.endpoint h

pub seat_goes_sends : (old new : ConnectionView) (id : ℕ) → RemovesSeat old id new → AllMayGo old.ctx.table (gone_with_seat old.devices (find (is_seat id) old.seats)) → Sends (remove_seat old id) old new
seat_goes_sends old new id r h = gone_sends old new (gone_with_seat old.devices (find (is_seat id) old.seats)) r.endpoint h

-- ---- a seat comes

name_quiet : (v seat : ℕ) (name : Option (List ℕ)) (more : List Sent) → AreQuiet more → AreQuiet (named (event.seat_name v seat) name ++ more)
unfolding row_of
name_quiet v seat None more h = h
name_quiet v seat (Some name) more h = ((refl, refl), h)

capabilities_quiet : (v seat : ℕ) (ps : List (ℕ × KnownInterface)) (more : List Sent) → AreQuiet more → AreQuiet (map (event.capability v seat) ps ++ more)
unfolding row_of
capabilities_quiet v seat [] more h = h
capabilities_quiet v seat (p ∷ ps) more h = ((refl, refl), capabilities_quiet v seat ps more h)

done_quiet : (v seat : ℕ) → AreQuiet (event.seat_done v seat ∷ [])
unfolding row_of
done_quiet v seat = ((refl, refl), tt)

name_no_handles : (v seat : ℕ) (name : Option (List ℕ)) (more : List Sent) → flat_map handles_in more ≡ [] → flat_map handles_in (named (event.seat_name v seat) name ++ more) ≡ []
name_no_handles v seat None more h = h
name_no_handles v seat (Some name) more h = h

capabilities_no_handles : (v seat : ℕ) (ps : List (ℕ × KnownInterface)) (more : List Sent) → flat_map handles_in more ≡ [] → flat_map handles_in (map (event.capability v seat) ps ++ more) ≡ []
capabilities_no_handles v seat [] more h = h
capabilities_no_handles v seat (p ∷ ps) more h = capabilities_no_handles v seat ps more h

name_raws : (v seat : ℕ) (name : Option (List ℕ)) (more : List Sent) → map raw_of (named (event.seat_name v seat) name ++ more) ≡ named_by (name_event seat) name ++ map raw_of more
name_raws v seat None more = refl
name_raws v seat (Some name) more = refl

capabilities_raws : (v seat mask : ℕ) (settled : KnownInterface → Bool) (ps : List (ℕ × KnownInterface)) (more : List Sent) →
    map raw_of (map (event.capability v seat) (filter_map (λ (p : ℕ × KnownInterface). cond (has_bit mask p.0 && settled p.1) (Some p) None) ps) ++ more) ≡
    filter_map (λ (p : ℕ × KnownInterface). cond (has_bit mask p.0 && settled p.1) (Some (capability_event seat p)) None) ps ++ map raw_of more
capabilities_raws v seat mask settled [] more = refl
capabilities_raws v seat mask settled (p ∷ ps) more = by (has_bit mask p.0 && settled p.1) refl (capabilities_raws v seat mask settled ps more)
  where
    test : ℕ × KnownInterface → Bool
    test q = has_bit mask q.0 && settled q.1

    by : (b : Bool) → (has_bit mask p.0 && settled p.1) ≡ b →
        map raw_of (map (event.capability v seat) (filter_map (λ (q : ℕ × KnownInterface). cond (has_bit mask q.0 && settled q.1) (Some q) None) ps) ++ more) ≡
        filter_map (λ (q : ℕ × KnownInterface). cond (has_bit mask q.0 && settled q.1) (Some (capability_event seat q)) None) ps ++ map raw_of more →
        map raw_of (map (event.capability v seat) (filter_map (λ (q : ℕ × KnownInterface). cond (has_bit mask q.0 && settled q.1) (Some q) None) (p ∷ ps)) ++ more) ≡
        filter_map (λ (q : ℕ × KnownInterface). cond (has_bit mask q.0 && settled q.1) (Some (capability_event seat q)) None) (p ∷ ps) ++ map raw_of more
    by true e next = rw e (ap (λ (l : List Raw). capability_event seat p ∷ l) next)
    by false e next = rw e next

abbrev seat_rest : ConnectionView → Option (List ℕ) → DeviceCapabilities → List Sent
seat_rest c name given = named (event.seat_name (seat_version c) c.ctx.table.next_own) name
    ++ (map (event.capability (seat_version c) c.ctx.table.next_own) (offered c given) ++ (event.seat_done (seat_version c) c.ctx.table.next_own ∷ []))

rest_raws : (c : ConnectionView) (name : Option (List ℕ)) (given : DeviceCapabilities) → map raw_of (seat_rest c name given) ≡ seat_description c.negotiated c.ctx.table.next_own name (bits_of given)
unfolding capability_events
rest_raws c name given =
    let v : ℕ = seat_version c in let seat : ℕ = c.ctx.table.next_own in
    let more : List Sent = map (event.capability v seat) (offered c given) ++ (event.seat_done v seat ∷ []) in
    name_raws v seat name more ∙ ap (λ (l : List Raw). named_by (name_event seat) name ++ l) (capabilities_raws v seat (bits_of given) (is_settled c.negotiated) capabilities (event.seat_done v seat ∷ []))

seat_announced : (c : ConnectionView) → endpoint_of (called_all (event.seat c.proxy c.ctx.table.next_own (seat_version c) ∷ []) c.ctx) ≡ sending.announces (endpoint_of c.ctx) (seat_event c.proxy.id c.ctx.table.next_own (seat_version c)) known.Seat (seat_version c)
unfolding row_of
seat_announced c = announcing (event.seat c.proxy c.ctx.table.next_own (seat_version c)) known.Seat (seat_version c) c.ctx refl refl refl

pub seat_comes_sends : (old new : ConnectionView) (name : Option (List ℕ)) (given : DeviceCapabilities) → AddsSeat old name given new → Sends (add_seat old name given) old new
seat_comes_sends old new name given a =
    let v : ℕ = seat_version old in let seat : ℕ = old.ctx.table.next_own in
    let m : Sent = event.seat old.proxy seat v in
    let rest : List Sent = seat_rest old name given in
    let calm : AreQuiet rest = name_quiet v seat name (map (event.capability v seat) (offered old given) ++ (event.seat_done v seat ∷ [])) (capabilities_quiet v seat (offered old given) (event.seat_done v seat ∷ []) (done_quiet v seat)) in
    let none : flat_map handles_in rest ≡ [] = name_no_handles v seat name (map (event.capability v seat) (offered old given) ++ (event.seat_done v seat ∷ [])) (capabilities_no_handles v seat (offered old given) (event.seat_done v seat ∷ []) refl) in
    sends_by (add_seat old name given) old new (a.endpoint ∙ sym (plainly rest calm none (called true m old.ctx)
    ∙ ap (λ (l : List Raw). sending.sends_on (endpoint_of (called_all (m ∷ []) old.ctx)) l) (rest_raws old name given)
    ∙ ap (λ (e : Endpoint). sending.sends_on e (seat_description old.negotiated seat name (bits_of given))) (seat_announced old)))
