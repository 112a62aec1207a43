-- What announces and describes a device, and what that makes of an endpoint.
use Rattle.std.proofs.Common.{◌≡◌, ℕ, suc, ◌+◌, true, List, [], ◌∷◌, ◌++◌, map, Option, Some, None, refl, sym, ap, ◌∙◌, append-nil, append_assoc, arith}
use Rattle.std.specs.Prelude.{IsSome}
use Rattle.std.specs.List.{flat_map, Any}
use Rattle.ei_spec.specs.declared.handle.Handle.{Handle}
use Rattle.ei_spec.specs.declared.interface.KnownInterface.{KnownInterface}
use Rattle.ei_spec.specs.declared.interface.KnownInterface.TheVariants as known
use Rattle.ei_spec.specs.Interface.{ObjectView, Known, name_of, named_as}
use Rattle.ei_spec.specs.Message.{Raw, all_bytes}
use Rattle.ei_spec.proofs.NameLaws.{known_again}
use Rattle.ei_types.specs.Enums.{device_type_number, keymap_type_number}
use Rattle.ei_types.specs.declared.enums.DeviceType.{DeviceType}
use Rattle.ei_session.specs.Events.{interface_event, device_done_event}
use Rattle.ei_backend.specs.Backend.{BackendView, closed_of}
use Rattle.ei_backend.specs.Endpoint.{Endpoint, endpoint_of}
use Rattle.ei_ends.specs.Sent.{Sent, New, raw_of, row_of, new_of, handles_in, bytes_in}
use Rattle.ei_ends.specs.Way.{End}
use Rattle.ei_ends.specs.Steps.{called, table_after, table_with, after_calls, closed_end}
use Rattle.ei_request.specs.declared.making.DeviceSetup.{DeviceSetup}
use Rattle.ei_request.specs.declared.making.DeviceSetup.TheVariants as setup
use Rattle.ei_request.specs.Held.{all_seat_ids}
use Rattle.ei_request.specs.Connection.{ConnectionView, version_in}
use Rattle.ei_request.specs.Sending as sending
use Rattle.ei_request.specs.Making.{named_by, announces_all, objects_of, object_of, has_keyboard, setup_events, keymap_events, setup_handles, NeedsKeyboard, begins_device, ends_device, AddsDevice}
use Rattle.ei_request.specs.Removing as removing
use Rattle.ei_acts.specs.Events as event
use Rattle.ei_acts.specs.Acts.{named, device_version, interfaces_from, item, new_keyboard, add_device, gone}
use Rattle.ei_acts.specs.Acts as acts
use Rattle.ei_acts.specs.Holding.{Sends, AllMayGo}
use Rattle.ei_acts.proofs.Effects.{called_all, after_backend, called_both, sends_by, Effect, AreQuiet, with_more, quiet, plainly, announcing, all_go}

-- ---- interfaces

pub new_interface : (v device id : ℕ) (k : KnownInterface) (w : ℕ) → new_of true (event.interface v device id k w) ≡ Some (record { id = id; interface = Known k; version = w })
unfolding row_of
new_interface v device id k w = ap (λ (o : Option KnownInterface). let n : New = record { id = id; interface = named_as (name_of k) o; version = w } in Some n) (known_again k)

interface_comes : (v device id : ℕ) (k : KnownInterface) (w : ℕ) (b : BackendView) → b.table.next_own ≡ id →
    endpoint_of (called true (event.interface v device id k w) b) ≡ sending.announces (endpoint_of b) (interface_event device b.table.next_own k w) k w
unfolding row_of
interface_comes v device id k w b e =
    announcing (event.interface v device id k w) k w b (new_interface v device id k w ∙ ap (λ (i : ℕ). let n : New = record { id = i; interface = Known k; version = w } in Some n) (sym e)) refl refl
    ∙ ap (λ (i : ℕ). sending.announces (endpoint_of b) (interface_event device i k w) k w) (sym e)

pub interfaces_come : (c : ConnectionView) (device id : ℕ) (is : List KnownInterface) (b : BackendView) → b.table.next_own ≡ id →
    endpoint_of (called_all (interfaces_from c device id is) b) ≡ announces_all (endpoint_of b) (version_in c.negotiated) device is
interfaces_come c device id [] b e = refl
interfaces_come c device id (i ∷ is) b e =
    let m : Sent = event.interface (device_version c) device id i (version_in c.negotiated i) in
    let one = interface_comes (device_version c) device id i (version_in c.negotiated i) b e in
    let later : (called true m b).table.next_own ≡ id + 1 = ap (λ (x : Endpoint). x.next_own) one ∙ ap (λ (n : ℕ). n + 1) e in
    interfaces_come c device (id + 1) is (called true m b) later ∙ ap (λ (x : Endpoint). announces_all x (version_in c.negotiated) device is) one

-- ---- items

-- each keymap has a keyboard to go to
abbrev pub KeymapsHave : Option ObjectView → List DeviceSetup → Type 0
KeymapsHave keyboard [] = Unit {0}
KeymapsHave keyboard (setup.Keymap kind size handle ∷ items) = IsSome keyboard × KeymapsHave keyboard items
KeymapsHave keyboard (one ∷ items) = KeymapsHave keyboard items

module _ (v device : ℕ) (keyboard : Option ObjectView) where
  pub items_quiet : (items : List DeviceSetup) (more : List Sent) → AreQuiet more → AreQuiet (flat_map (item v device keyboard) items ++ more)
  unfolding row_of
  items_quiet [] more h = h
  items_quiet (setup.Dimensions width height ∷ items) more h = ((refl, refl), items_quiet items more h)
  items_quiet (setup.RegionMappingId id ∷ items) more h = ((refl, refl), items_quiet items more h)
  items_quiet (setup.Region x y width hight scale ∷ items) more h = ((refl, refl), items_quiet items more h)
  items_quiet (setup.Keymap kind size handle ∷ items) more h = by keyboard (items_quiet items more h)
    where
      by : (o : Option ObjectView) → AreQuiet (flat_map (item v device keyboard) items ++ more) → AreQuiet ((acts.keymaps (keymap_type_number kind) size handle o ++ flat_map (item v device keyboard) items) ++ more)
      by None next = next
      by (Some k) next = ((refl, refl), next)

  pub items_raws : (items : List DeviceSetup) (more : List Sent) → map raw_of (flat_map (item v device keyboard) items ++ more) ≡ setup_events device keyboard items ++ map raw_of more
  items_raws [] more = refl
  items_raws (setup.Dimensions width height ∷ items) more = ap (λ (l : List Raw). raw_of (event.dimensions v device width height) ∷ l) (items_raws items more)
  items_raws (setup.RegionMappingId id ∷ items) more = ap (λ (l : List Raw). raw_of (event.region_mapping_id v device id.now) ∷ l) (items_raws items more)
  items_raws (setup.Region x y width hight scale ∷ items) more = ap (λ (l : List Raw). raw_of (event.region v device x y width hight scale.0) ∷ l) (items_raws items more)
  items_raws (setup.Keymap kind size handle ∷ items) more = by keyboard (items_raws items more)
    where
      by : (o : Option ObjectView) → map raw_of (flat_map (item v device keyboard) items ++ more) ≡ setup_events device keyboard items ++ map raw_of more →
          map raw_of ((acts.keymaps (keymap_type_number kind) size handle o ++ flat_map (item v device keyboard) items) ++ more) ≡ (keymap_events (keymap_type_number kind) size handle o ++ setup_events device keyboard items) ++ map raw_of more
      by None next = next
      by (Some k) next = ap (λ (l : List Raw). raw_of (event.keymap k.version k.id (keymap_type_number kind) size handle) ∷ l) next

  pub items_handles : (items : List DeviceSetup) (more : List Sent) → KeymapsHave keyboard items → flat_map handles_in more ≡ [] → flat_map handles_in (flat_map (item v device keyboard) items ++ more) ≡ setup_handles items
  items_handles [] more h none = none
  items_handles (setup.Dimensions width height ∷ items) more h none = items_handles items more h none
  items_handles (setup.RegionMappingId id ∷ items) more h none = items_handles items more h none
  items_handles (setup.Region x y width hight scale ∷ items) more h none = items_handles items more h none
  items_handles (setup.Keymap kind size handle ∷ items) more h none = by keyboard h.0 (items_handles items more h.1 none)
    where
      by : (o : Option ObjectView) → IsSome o → flat_map handles_in (flat_map (item v device keyboard) items ++ more) ≡ setup_handles items →
          flat_map handles_in ((acts.keymaps (keymap_type_number kind) size handle o ++ flat_map (item v device keyboard) items) ++ more) ≡ handle ∷ setup_handles items
      by None some next = absurd cc
      by (Some k) some next = ap (λ (l : List Handle). handle ∷ l) next

  done_calm : AreQuiet (event.device_done v device ∷ [])
  unfolding row_of
  done_calm = ((refl, refl), tt)

  pub description_ends : (items : List DeviceSetup) → KeymapsHave keyboard items → Effect (flat_map (item v device keyboard) items ++ (event.device_done v device ∷ [])) (λ e. ends_device e device keyboard items)
  description_ends items h b =
      let ms : List Sent = flat_map (item v device keyboard) items ++ (event.device_done v device ∷ []) in
      quiet ms (items_quiet items (event.device_done v device ∷ []) done_calm) b
      ∙ ap (λ (l : List Raw). with_more (all_bytes l) (flat_map handles_in ms) (endpoint_of b)) (items_raws items (event.device_done v device ∷ []))
      ∙ ap (λ (l : List Handle). with_more (all_bytes (setup_events device keyboard items ++ (device_done_event device ∷ []))) l (endpoint_of b)) (items_handles items (event.device_done v device ∷ []) h refl)

-- ---- a keyboard for the keymaps

found_keyboard : (e : Endpoint) (versions : KnownInterface → ℕ) (is : List KnownInterface) → has_keyboard is ≡ true → IsSome (object_of known.Keyboard (objects_of e versions is))
found_keyboard e versions [] h = absurd cc
found_keyboard e versions (i ∷ is) h = at i h (found_keyboard (record e { next_own = e.next_own + 1 }) versions is)
  where
    at : (k : KnownInterface) → has_keyboard (k ∷ is) ≡ true → (has_keyboard is ≡ true → IsSome (object_of known.Keyboard (objects_of (record e { next_own = e.next_own + 1 }) versions is))) →
        IsSome (object_of known.Keyboard (objects_of e versions (k ∷ is)))
    at known.Keyboard g rest = refl
    at k g rest = rest g

any_first : (x : DeviceSetup) (xs : List DeviceSetup) → NeedsKeyboard x → Any NeedsKeyboard (x ∷ xs)
any_first x xs h = (0, x, omega arith, refl, h)

any_rest : (x : DeviceSetup) (xs : List DeviceSetup) → Any NeedsKeyboard xs → Any NeedsKeyboard (x ∷ xs)
any_rest x xs h = (suc h.0, h.1, (let l = h.2 in omega (arith, l)), h.3, h.4)

pub keymaps_have : (keyboard : Option ObjectView) (items : List DeviceSetup) → (Any NeedsKeyboard items → IsSome keyboard) → KeymapsHave keyboard items
keymaps_have keyboard [] h = tt
keymaps_have keyboard (setup.Keymap kind size handle ∷ items) h = (h (any_first (setup.Keymap kind size handle) items tt), keymaps_have keyboard items (λ a. h (any_rest (setup.Keymap kind size handle) items a)))
keymaps_have keyboard (setup.Dimensions width height ∷ items) h = keymaps_have keyboard items (λ a. h (any_rest (setup.Dimensions width height) items a))
keymaps_have keyboard (setup.RegionMappingId id ∷ items) h = keymaps_have keyboard items (λ a. h (any_rest (setup.RegionMappingId id) items a))
keymaps_have keyboard (setup.Region x y width hight scale ∷ items) h = keymaps_have keyboard items (λ a. h (any_rest (setup.Region x y width hight scale) items a))

-- ---- a device comes

abbrev device_begun : ConnectionView → ObjectView → Option (List ℕ) → DeviceType → List Sent
device_begun c seat name kind =
    event.device seat c.ctx.table.next_own (device_version c)
    ∷ (named (event.device_name (device_version c) c.ctx.table.next_own) name ++ (event.device_type (device_version c) c.ctx.table.next_own (device_type_number kind) ∷ []))

name_calm : (v device : ℕ) (name : Option (List ℕ)) (more : List Sent) → AreQuiet more → AreQuiet (named (event.device_name v device) name ++ more)
unfolding row_of
name_calm v device None more h = h
name_calm v device (Some name) more h = ((refl, refl), h)

type_calm : (v device kind : ℕ) → AreQuiet (event.device_type v device kind ∷ [])
unfolding row_of
type_calm v device kind = ((refl, refl), tt)

name_none : (v device kind : ℕ) (name : Option (List ℕ)) → flat_map handles_in (named (event.device_name v device) name ++ (event.device_type v device kind ∷ [])) ≡ []
name_none v device kind None = refl
name_none v device kind (Some name) = refl

name_raw : (v device kind : ℕ) (name : Option (List ℕ)) → map raw_of (named (event.device_name v device) name ++ (event.device_type v device kind ∷ [])) ≡ named_by (sending.device_name_event device) name ++ (sending.device_type_event device kind ∷ [])
name_raw v device kind None = refl
name_raw v device kind (Some name) = refl

begins : (c : ConnectionView) (seat : ObjectView) (name : Option (List ℕ)) (kind : DeviceType) → endpoint_of (called_all (device_begun c seat name kind) c.ctx) ≡ begins_device (endpoint_of c.ctx) seat.id (device_version c) name kind
unfolding row_of
begins c seat name kind =
    let v : ℕ = device_version c in let device : ℕ = c.ctx.table.next_own in let number : ℕ = device_type_number kind in
    let m : Sent = event.device seat device v in
    let rest : List Sent = named (event.device_name v device) name ++ (event.device_type v device number ∷ []) in
    plainly rest (name_calm v device name (event.device_type v device number ∷ []) (type_calm v device number)) (name_none v device number name) (called true m c.ctx)
    ∙ ap (λ (l : List Raw). sending.sends_on (endpoint_of (called true m c.ctx)) l) (name_raw v device number name)
    ∙ ap (λ (e : Endpoint). sending.sends_on e (named_by (sending.device_name_event device) name ++ (sending.device_type_event device number ∷ []))) (announcing m known.Device v c.ctx refl refl refl)

pub device_comes_sends : (old new : ConnectionView) (seat : ObjectView) (name : Option (List ℕ)) (kind : DeviceType) (interfaces : List KnownInterface) (items : List DeviceSetup) →
    AddsDevice old seat name kind interfaces items new → (Any NeedsKeyboard items → has_keyboard interfaces ≡ true) → Sends (add_device old seat name kind interfaces items) old new
device_comes_sends old new seat name kind interfaces items a given =
    let v : ℕ = device_version old in let device : ℕ = old.ctx.table.next_own in let number : ℕ = device_type_number kind in
    let keyboard : Option ObjectView = new_keyboard old seat name interfaces in
    let first : List Sent = device_begun old seat name kind in
    let middle : List Sent = interfaces_from old device (device + 1) interfaces in
    let last : List Sent = flat_map (item v device keyboard) items ++ (event.device_done v device ∷ []) in
    let begun = begins old seat name kind in
    let next : (called_all first old.ctx).table.next_own ≡ device + 1 = ap (λ (e : Endpoint). e.next_own) begun in
    let have = keymaps_have keyboard items (λ any. found_keyboard (record (endpoint_of old.ctx) { next_own = device + 1 }) (version_in old.negotiated) interfaces (given any)) in
    let split : add_device old seat name kind interfaces items ≡ first ++ (middle ++ last) = ap (λ (l : List Sent). event.device seat device v ∷ l) (sym (append_assoc (named (event.device_name v device) name) (event.device_type v device number ∷ []) (middle ++ last))) in
    sends_by (add_device old seat name kind interfaces items) old new (a.endpoint ∙ sym (
    ap (λ (l : List Sent). endpoint_of (called_all l old.ctx)) split
    ∙ ap endpoint_of (called_both first (middle ++ last) old.ctx ∙ called_both middle last (called_all first old.ctx))
    ∙ description_ends v device keyboard items have (called_all middle (called_all first old.ctx))
    ∙ ap (λ (e : Endpoint). ends_device e device keyboard items) (interfaces_come old device (device + 1) interfaces (called_all first old.ctx) next
    ∙ ap (λ (e : Endpoint). announces_all e (version_in old.negotiated) device interfaces) begun)))

-- the same, by an object that has the seat's id
seat_alike : (seat key : ObjectView) (id v : ℕ) (b : BackendView) → seat.id ≡ key.id → called true (event.device key id v) b ≡ called true (event.device seat id v) b
unfolding bytes_in row_of
seat_alike seat key id v b e = ap (λ (n : ℕ). called true (event.device (record key { id = n }) id v) b) (sym e)

pub device_of_seat_sends : (old new : ConnectionView) (key seat : ObjectView) (name : Option (List ℕ)) (kind : DeviceType) (interfaces : List KnownInterface) (items : List DeviceSetup) →
    AddsDevice old key name kind interfaces items new → seat.id ≡ key.id → (Any NeedsKeyboard items → has_keyboard interfaces ≡ true) → Sends (add_device old seat name kind interfaces items) old new
device_of_seat_sends old new key seat name kind interfaces items a same given =
    let device : ℕ = old.ctx.table.next_own in let v : ℕ = device_version old in
    let last : List Sent = flat_map (item v device (new_keyboard old seat name interfaces)) items ++ (event.device_done v device ∷ []) in
    let rest : List Sent = named (event.device_name v device) name ++ (event.device_type v device (device_type_number kind) ∷ (interfaces_from old device (device + 1) interfaces ++ last)) in
    let x : End = record { backend = old.ctx; sent = []; taken = [] } in
    let by_key = device_comes_sends old new key name kind interfaces items a given x refl ∙ ap endpoint_of (after_backend (add_device old key name kind interfaces items) x) in
    sends_by (add_device old seat name kind interfaces items) old new (by_key ∙ ap (λ (b : BackendView). endpoint_of (called_all rest b)) (seat_alike seat key device v old.ctx same))

-- ---- the connection ends

pub ends_one : (o : ObjectView) (serial reason : ℕ) (text : Option (List ℕ)) (b : BackendView) → endpoint_of (closed_of (called true (event.disconnected o serial reason text) b)) ≡ sending.ends (endpoint_of b) o.id serial reason text
unfolding row_of table_after table_with bytes_in
ends_one o serial reason None b = ap (λ (u : List Handle). let e : Endpoint = record (sending.ends (endpoint_of b) o.id serial reason None) { unsent_handles = u } in e) (append-nil b.unsent_handles)
ends_one o serial reason (Some t) b = ap (λ (u : List Handle). let e : Endpoint = record (sending.ends (endpoint_of b) o.id serial reason (Some t)) { unsent_handles = u } in e) (append-nil b.unsent_handles)

pub ends_sends : (old new : ConnectionView) (reason : ℕ) (text : Option (List ℕ)) (x : End) → removing.Disconnects old reason text new → AllMayGo old.ctx.table (all_seat_ids old.devices old.seats) → x.backend ≡ old.ctx →
    endpoint_of new.ctx ≡ endpoint_of (closed_end (after_calls true (acts.disconnected old reason text) x)).backend
ends_sends old new reason text x d h e =
    let ids : List ℕ = all_seat_ids old.devices old.seats in
    let serial : ℕ = sending.serial_after old.last_serial ids in
    let m : Sent = event.disconnected old.proxy serial reason text in
    d.endpoint ∙ sym (ap (λ (b : BackendView). endpoint_of (closed_of b)) (after_backend (acts.disconnected old reason text) x ∙ ap (called_all (acts.disconnected old reason text)) e ∙ called_both (gone old ids) (m ∷ []) old.ctx)
    ∙ ends_one old.proxy serial reason text (called_all (gone old ids) old.ctx)
    ∙ ap (λ (f : Endpoint). sending.ends f old.proxy.id serial reason text) (all_go old.ctx.table old.last_serial ids h old.ctx))
