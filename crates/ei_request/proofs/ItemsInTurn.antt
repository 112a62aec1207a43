-- The items of a device's description, told one after another.
use Rattle.std.proofs.Common.{◌≡◌, ℕ, ◌+◌, ◌<◌, ◌≤◌, zero, suc, Bool, true, false, ◌||◌, List, [], ◌∷◌, ◌++◌, length, take, get_or, Option, Some}
use Rattle.std.proofs.Common.{None, refl, sym, ap, ◌∙◌, append_assoc, arith}
use Rattle.std.specs.Borrow.{Bor}
use Rattle.std.specs.Prelude.{nat_lt, codes}
use Rattle.std.specs.List.{list_any, flat_map}
use Rattle.std.proofs.lemmas.Bool.Decides.{nat_tests}
use Rattle.std.proofs.lemmas.List.{take_more, append-nil}
use Rattle.std.proofs.lemmas.Grind.{flat_map-append}
use Rattle.ei_spec.specs.declared.handle.Handle.{Handle}
use Rattle.ei_spec.specs.declared.interface.KnownInterface.TheVariants as known
use Rattle.ei_spec.specs.declared.limits.TheConstants.{MOST_MESSAGE_BYTES}
use Rattle.ei_spec.specs.Interface.{Known, ObjectView}
use Rattle.ei_spec.specs.Message.{Raw, message, bytes_of, all_bytes, size}
use Rattle.ei_spec.specs.Value.{Value, Word, Long, Letters, Fd, handles_of}
use Rattle.ei_types.specs.declared.enums.DeviceType.{DeviceType}
use Rattle.ei_types.specs.declared.enums.KeymapType.{KeymapType}
use Rattle.ei_types.specs.Enums.{device_type_number, keymap_type_number}
use Rattle.ei_backend.specs.Backend.{BackendView, sent, sent_new}
use Rattle.ei_backend.specs.Table.{own}
use Rattle.ei_backend.specs.Endpoint.{Endpoint, endpoint_of}
use Rattle.ei_handshake.specs.Handshaker.{sends}
use Rattle.ei_handshake.proofs.Sending.{sent_one, sends-append}
use Rattle.ei_session.specs.Arguments.{event}
use Rattle.ei_session.specs.Events.{device_done_event}
use Rattle.ei_session.specs.Replies.{name_event}
use Rattle.ei_request.specs.Sending.{announces, sends_on, device_event, device_name_event, device_type_event}
use Rattle.ei_request.specs.Making.{setup_event, setup_events, setup_handle, setup_handles, tells_item, tells_items, is_long_item, is_long_name}
use Rattle.ei_request.specs.Making.{is_long_description, item_letters, named_by, begins_device, ends_device}
use Rattle.ei_request.specs.declared.making.DeviceSetup.{DeviceSetup}
use Rattle.ei_request.specs.declared.making.DeviceSetup.TheVariants as setup

same_told : (e : Endpoint) (u w : List ℕ) (h k : List Handle) → u ≡ w → h ≡ k → ◌≡◌ {A = Endpoint} (record e { unsent = u; unsent_handles = h }) (record e { unsent = w; unsent_handles = k })
same_told e u w h k p q = rw (p, q) refl

pub told_none : (e : Endpoint) (device : ℕ) (keyboard : Option ObjectView) → e ≡ tells_items e device keyboard []
told_none e device keyboard = same_told e _ _ _ _ (sym (append-nil e.unsent)) (sym (append-nil e.unsent_handles))

told_last : (e : Endpoint) (device : ℕ) (keyboard : Option ObjectView) (items : List DeviceSetup) (item : DeviceSetup) →
    tells_item (tells_items e device keyboard items) device keyboard item ≡ tells_items e device keyboard (items ++ item ∷ [])
told_last e device keyboard items item =
    let events : setup_events device keyboard (items ++ item ∷ []) ≡ setup_events device keyboard items ++ setup_event device keyboard item =
    flat_map-append (setup_event device keyboard) items (item ∷ []) ∙ ap (λ (x : List Raw). setup_events device keyboard items ++ x) (append-nil (setup_event device keyboard item)) in
    let bytes : all_bytes (setup_events device keyboard (items ++ item ∷ [])) ≡ all_bytes (setup_events device keyboard items) ++ all_bytes (setup_event device keyboard item) =
    ap all_bytes events ∙ flat_map-append bytes_of (setup_events device keyboard items) (setup_event device keyboard item) in
    let handles : setup_handles (items ++ item ∷ []) ≡ setup_handles items ++ setup_handle item =
    flat_map-append setup_handle items (item ∷ []) ∙ ap (λ (x : List Handle). setup_handles items ++ x) (append-nil (setup_handle item)) in
    same_told e _ _ _ _
    (append_assoc e.unsent (all_bytes (setup_events device keyboard items)) (all_bytes (setup_event device keyboard item)) ∙ ap (λ (x : List ℕ). e.unsent ++ x) (sym bytes))
    (append_assoc e.unsent_handles (setup_handles items) (setup_handle item) ∙ ap (λ (x : List Handle). e.unsent_handles ++ x) (sym handles))

-- one item more
pub told_more : (e e1 e2 : Endpoint) (device : ℕ) (keyboard : Option ObjectView) (items : List DeviceSetup) (i : ℕ) (d : DeviceSetup) → i < length items → e1 ≡ tells_items e device keyboard (take i items) →
    e2 ≡ tells_item e1 device keyboard (get_or items i d) → e2 ≡ tells_items e device keyboard (take (i + 1) items)
told_more e e1 e2 device keyboard items i d lt p q =
    q ∙ ap (λ (x : Endpoint). tells_item x device keyboard (get_or items i d)) p ∙ told_last e device keyboard (take i items) (get_or items i d)
    ∙ ap (tells_items e device keyboard) (sym (take_more items i d lt))

left_false : (a b : Bool) → (a || b) ≡ false → a ≡ false
left_false true b e = e
left_false false b e = refl

right_false : (a b : Bool) → (a || b) ≡ false → b ≡ false
right_false true b e = absurd cc
right_false false b e = e

-- where none is too long
pub none_at : {X : Type 0} (test : X → Bool) (xs : List X) (i : ℕ) (d : X) → i < length xs → list_any test xs ≡ false → test (get_or xs i d) ≡ false
none_at test [] i d lt e = absurd (omega (arith, lt))
none_at test (x ∷ xs) zero d lt e = left_false (test x) (list_any test xs) e
none_at test (x ∷ xs) (suc i) d lt e = none_at test xs i d (omega (arith, lt)) (right_false (test x) (list_any test xs) e)

-- whose device it is doesn't change how long it is
same_length : (device : ℕ) (item : DeviceSetup) → is_long_item 0 item ≡ is_long_item device item
same_length device (setup.Dimensions width height) = refl
same_length device (setup.RegionMappingId id) = refl
same_length device (setup.Region x y width hight scale) = refl
same_length device (setup.Keymap kind size handle) = refl

pub same_lengths : (device : ℕ) (items : List DeviceSetup) → list_any (is_long_item 0) items ≡ list_any (is_long_item device) items
same_lengths device [] = refl
same_lengths device (item ∷ items) = ap (λ (b : Bool). b || list_any (is_long_item 0) items) (same_length device item) ∙ ap (λ (b : Bool). is_long_item device item || b) (same_lengths device items)

-- the message of an item is too long where that of its text is
pub long_item : (item : DeviceSetup) → is_long_name (name_event 0) (item_letters item) ≡ is_long_item 0 item
long_item (setup.Dimensions width height) = refl
long_item (setup.RegionMappingId id) = refl
long_item (setup.Region x y width hight scale) = refl
long_item (setup.Keymap kind size handle) = refl

-- and the name of a device is too long where that of a seat is
same_name : (device seat : ℕ) (name : Option (List ℕ)) → is_long_name (name_event seat) name ≡ is_long_name (device_name_event device) name
same_name device seat None = refl
same_name device seat (Some t) = refl

pub long_name : (device : ℕ) (name : Option (List ℕ)) (items : List DeviceSetup) (r : Bool) → r ≡ true → ((seat : ℕ) → r ≡ is_long_name (name_event seat) name) → r ≡ is_long_description device name items
long_name device name items r e long = e ∙ ap (λ (b : Bool). b || list_any (is_long_item device) items) (sym e ∙ long 0 ∙ same_name device 0 name)

pub long_items : (device : ℕ) (name : Option (List ℕ)) (items : List DeviceSetup) (r long : Bool) → r ≡ false → ((seat : ℕ) → r ≡ is_long_name (name_event seat) name) → long ≡ list_any (is_long_item 0) items →
    long ≡ is_long_description device name items
long_items device name items r long e short is =
    is ∙ same_lengths device items ∙ ap (λ (b : Bool). b || list_any (is_long_item device) items) (sym e ∙ short 0 ∙ same_name device 0 name)

-- the text of an item that isn't too long
not_above : (a b : ℕ) → (nat_lt a b || false) ≡ false → b ≤ a
not_above a b e = grind (arith, nat_tests)

pub short_text : (device : ℕ) (item : DeviceSetup) (id : Bor (List ℕ)) → item ≡ setup.RegionMappingId id → ((at : ℕ) → is_long_item at item ≡ false) →
    size (event known.Device (codes "region_mapping_id") device (Letters id.now ∷ [])) ≤ MOST_MESSAGE_BYTES
short_text device item id is short = not_above MOST_MESSAGE_BYTES (size (event known.Device (codes "region_mapping_id") device (Letters id.now ∷ []))) (ap (is_long_item device) (sym is) ∙ short device)

-- an item without a handle is told
pub told_plain : (b new : BackendView) (device : ℕ) (keyboard : Option ObjectView) (item it : DeviceSetup) (opcode : ℕ) (values : List Value) → item ≡ it →
    setup_event device keyboard it ≡ message device opcode values ∷ [] → setup_handle it ≡ [] → flat_map handles_of values ≡ [] → new ≡ sent b device opcode values →
    endpoint_of new ≡ tells_item (endpoint_of b) device keyboard item
told_plain b new device keyboard item it opcode values is events none few e =
    ap endpoint_of (e ∙ sent_one b device opcode values few)
    ∙ same_told (endpoint_of b) _ _ _ _ (ap (λ (x : List Raw). b.unsent ++ all_bytes x) (sym events)) (sym (ap (λ (x : List Handle). b.unsent_handles ++ x) none ∙ append-nil b.unsent_handles))
    ∙ ap (tells_item (endpoint_of b) device keyboard) (sym is)

-- and one with a handle
pub told_keymap : (b new : BackendView) (device : ℕ) (keyboard : ObjectView) (kind : KeymapType) (length : ℕ) (handle : Handle) → new ≡ sent b keyboard.id 1 (Word (keymap_type_number kind) ∷ Word length ∷ Fd handle ∷ []) →
    endpoint_of new ≡ tells_item (endpoint_of b) device (Some keyboard) (setup.Keymap kind length handle)
told_keymap b new device keyboard kind length handle e =
    let m : Raw = message keyboard.id 1 (Word (keymap_type_number kind) ∷ Word length ∷ Fd handle ∷ []) in
    ap endpoint_of e ∙ same_told (endpoint_of b) _ _ _ _ (ap (λ (x : List ℕ). b.unsent ++ x) (sym (append-nil (bytes_of m)))) refl

-- all of them are told, and the description ends
pub ended : (b b1 b2 : BackendView) (device : ℕ) (keyboard : Option ObjectView) (items : List DeviceSetup) → endpoint_of b1 ≡ tells_items (endpoint_of b) device keyboard items → b2 ≡ sent b1 device 6 [] →
    endpoint_of b2 ≡ ends_device (endpoint_of b) device keyboard items
ended b b1 b2 device keyboard items told e =
    let events : List Raw = setup_events device keyboard items in
    ap endpoint_of (e ∙ sent_one b1 device 6 [] refl)
    ∙ ap (λ (x : Endpoint). sends_on x (device_done_event device ∷ [])) told
    ∙ same_told (endpoint_of b) _ _ _ _
    (append_assoc b.unsent (all_bytes events) (all_bytes (device_done_event device ∷ [])) ∙ ap (λ (x : List ℕ). b.unsent ++ x) (sym (flat_map-append bytes_of events (device_done_event device ∷ [])))) refl

-- a device is announced, and what it is is said
pub begun : (b b1 b2 b3 : BackendView) (seat version : ℕ) (name : Option (List ℕ)) (kind : DeviceType) (device : ObjectView) → device ≡ own b.table (Known known.Device) version →
    b1 ≡ sent_new b seat 4 (Long b.table.next_own ∷ Word version ∷ []) (Known known.Device) version → b2 ≡ sends b1 (named_by (device_name_event device.id) name) →
    b3 ≡ sent b2 device.id 2 (Word (device_type_number kind) ∷ []) → endpoint_of b3 ≡ begins_device (endpoint_of b) seat version name kind
begun b b1 b2 b3 seat version name kind device is p q r =
    let id : device.id ≡ b.table.next_own = ap (λ (o : ObjectView). o.id) is in
    let events : ℕ → List Raw = λ n. named_by (device_name_event n) name ++ device_type_event n (device_type_number kind) ∷ [] in
    let announced : endpoint_of b1 ≡ announces (endpoint_of b) (device_event seat b.table.next_own version) known.Device version =
    ap endpoint_of p ∙ rw (append-nil b.unsent_handles) refl in
    ap endpoint_of (r ∙ sent_one b2 device.id 2 (Word (device_type_number kind) ∷ []) refl ∙ ap (λ (x : BackendView). sends x (device_type_event device.id (device_type_number kind) ∷ [])) q
    ∙ sends-append b1 (named_by (device_name_event device.id) name) (device_type_event device.id (device_type_number kind) ∷ []))
    ∙ ap (λ (x : Endpoint). sends_on x (events device.id)) announced
    ∙ ap (λ (n : ℕ). sends_on (announces (endpoint_of b) (device_event seat b.table.next_own version) known.Device version) (events n)) id
