-- The messages of a new device may be sent.
use Rattle.std.proofs.Common.{◌≡◌, ℕ, ◌+◌, ◌<◌, ◌≤◌, ◌^◌, leb, ltb, Bool, true, false, ◌||◌, List, [], ◌∷◌, ◌++◌, length, Option, Some, None, refl, sym, ap, subst, ◌∙◌, arith, lit≤}
use Rattle.std.specs.Str.{is_utf8}
use Rattle.std.specs.List.{flat_map, list_any}
use Rattle.std.proofs.lemmas.Bool.{leb-true, ltb-false, or_parts}
use Rattle.ei_spec.specs.declared.handle.Handle.{Handle}
use Rattle.ei_spec.specs.declared.interface.KnownInterface.{KnownInterface}
use Rattle.ei_spec.specs.declared.interface.KnownInterface.TheVariants as known
use Rattle.ei_spec.specs.declared.limits.TheConstants.{MOST_MESSAGE_BYTES}
use Rattle.ei_spec.specs.Interface.{Known, ObjectView, name_of}
use Rattle.ei_spec.specs.Message.{Raw, size, message}
use Rattle.ei_spec.specs.Rows.{Row}
use Rattle.ei_spec.specs.Value.{Word, Long, Letters}
use Rattle.ei_spec.proofs.EachInterface.{of_each}
use Rattle.ei_spec.proofs.NameLaws.{name_text}
use Rattle.ei_types.specs.Enums.{device_type_number, keymap_type_number}
use Rattle.ei_types.specs.declared.enums.DeviceType.{DeviceType}
use Rattle.ei_types.specs.declared.enums.DeviceType.TheVariants as device_kind
use Rattle.ei_types.specs.declared.enums.KeymapType.{KeymapType}
use Rattle.ei_types.specs.declared.enums.KeymapType.TheVariants as keymap_kind
use Rattle.ei_backend.specs.Table.{own_limit}
use Rattle.ei_backend.specs.Endpoint.{Endpoint, endpoint_of}
use Rattle.ei_ends.specs.Sent.{Sent, Got, New, new_of, row_of, raw_of}
use Rattle.ei_ends.specs.Announced.{announced, next_own, counts}
use Rattle.ei_ends.specs.Way.{onto, HasNextId, End}
use Rattle.ei_ends.specs.Joined.{AreListedCalls}
use Rattle.ei_ends.proofs.Known.{announced_more, announced_onto, next_more}
use Rattle.ei_request.specs.declared.making.DeviceSetup.{DeviceSetup}
use Rattle.ei_request.specs.declared.making.DeviceSetup.TheVariants as setup
use Rattle.ei_request.specs.Connection.{ConnectionView, version_in}
use Rattle.ei_request.specs.Sending.{device_name_event, next_object}
use Rattle.ei_request.specs.Making.{is_long, is_long_name, is_long_item, is_long_description, objects_of, object_of}
use Rattle.ei_shaking.specs.Sending.{AreVersions}
use Rattle.ei_acts.specs.Events as event
use Rattle.ei_acts.specs.Acts as acts
use Rattle.ei_acts.specs.Acts.{named, device_version, interfaces_from, item, new_keyboard, add_device}
use Rattle.ei_acts.specs.Sendable.{Announces, AnnouncesIt, AreLawful, IsEndOf, IsLawful, IsText}
use Rattle.ei_acts.proofs.MaySend.{Fine, Rose, listed, rose_more, AreOrdinary, ordinary_more, ordinary_both, in_turn, alone, rose}
use Rattle.ei_acts.proofs.SeatMay.{announced_new, one_more_id, next_of, version_small}
use Rattle.ei_acts.proofs.Describing.{new_interface}

-- ---- single events

device_fine : (o : ObjectView) (id v : ℕ) → id < 2 ^ 64 → v < 2 ^ 32 → (r : Row) × Fine (event.device o id v) r
unfolding row_of
device_fine o id v i w = (_, record { row = refl; kinds = (i, (w, tt)); opcode = omega arith; short = lit≤ tt })

device_new : (o : ObjectView) (id v : ℕ) → new_of true (event.device o id v) ≡ Some (record { id = id; interface = Known known.Device; version = v })
unfolding row_of
device_new o id v = refl

name_fine : (v device : ℕ) (t : List ℕ) → is_utf8 t ≡ true → size (device_name_event device t) ≤ MOST_MESSAGE_BYTES → ((r : Row) × Fine (event.device_name v device t) r) × (new_of true (event.device_name v device t) ≡ None)
unfolding row_of
name_fine v device t text short = ((_, record { row = refl; kinds = (text, tt); opcode = omega arith; short = short }), refl)

type_fine : (v device : ℕ) (kind : DeviceType) → ((r : Row) × Fine (event.device_type v device (device_type_number kind)) r) × (new_of true (event.device_type v device (device_type_number kind)) ≡ None)
unfolding row_of
type_fine v device device_kind.Virtual = ((_, record { row = refl; kinds = ((omega arith, refl), tt); opcode = omega arith; short = lit≤ tt }), refl)
type_fine v device device_kind.Physical = ((_, record { row = refl; kinds = ((omega arith, refl), tt); opcode = omega arith; short = lit≤ tt }), refl)

interface_short : (device opcode id v : ℕ) (k : KnownInterface) → size (message device opcode (Long id ∷ Letters (name_of k) ∷ Word v ∷ [])) ≤ MOST_MESSAGE_BYTES
interface_short device opcode id v k = leb-true _ MOST_MESSAGE_BYTES (of_each (λ (i : KnownInterface). leb (size (message device opcode (Long id ∷ Letters (name_of i) ∷ Word v ∷ []))) MOST_MESSAGE_BYTES) refl k)

interface_fine : (v device id : ℕ) (k : KnownInterface) (w : ℕ) → id < 2 ^ 64 → w < 2 ^ 32 → (r : Row) × Fine (event.interface v device id k w) r
unfolding row_of
interface_fine v device id k w i l = (_, record { row = refl; kinds = (i, (name_text k, (l, tt))); opcode = omega arith; short = interface_short device 5 id w k })

dimensions_fine : (v device width height : ℕ) → width < 2 ^ 32 → height < 2 ^ 32 → ((r : Row) × Fine (event.dimensions v device width height) r) × (new_of true (event.dimensions v device width height) ≡ None)
unfolding row_of
dimensions_fine v device width height w h = ((_, record { row = refl; kinds = (w, (h, tt)); opcode = omega arith; short = lit≤ tt }), refl)

mapping_fine : (v device : ℕ) (t : List ℕ) → is_utf8 t ≡ true → size (raw_of (event.region_mapping_id v device t)) ≤ MOST_MESSAGE_BYTES → ((r : Row) × Fine (event.region_mapping_id v device t) r) × (new_of true (event.region_mapping_id v device t) ≡ None)
unfolding row_of
mapping_fine v device t text short = ((_, record { row = refl; kinds = (text, tt); opcode = omega arith; short = short }), refl)

region_fine : (v device x y width hight scale : ℕ) → x < 2 ^ 32 → y < 2 ^ 32 → width < 2 ^ 32 → hight < 2 ^ 32 → scale < 2 ^ 32 → ((r : Row) × Fine (event.region v device x y width hight scale) r) × (new_of true (event.region v device x y width hight scale) ≡ None)
unfolding row_of
region_fine v device x y width hight scale a b c d e = ((_, record { row = refl; kinds = (a, (b, (c, (d, (e, tt))))); opcode = omega arith; short = lit≤ tt }), refl)

keymap_fine : (v keyboard : ℕ) (kind : KeymapType) (bytes : ℕ) (handle : Handle) → bytes < 2 ^ 32 → ((r : Row) × Fine (event.keymap v keyboard (keymap_type_number kind) bytes handle) r) × (new_of true (event.keymap v keyboard (keymap_type_number kind) bytes handle) ≡ None)
unfolding row_of
keymap_fine v keyboard keymap_kind.Xkb bytes handle s = ((_, record { row = refl; kinds = ((omega arith, refl), (s, (tt, tt))); opcode = omega arith; short = lit≤ tt }), refl)

done_fine : (v device : ℕ) → ((r : Row) × Fine (event.device_done v device) r) × (new_of true (event.device_done v device) ≡ None)
unfolding row_of
done_fine v device = ((_, record { row = refl; kinds = tt; opcode = omega arith; short = lit≤ tt }), refl)

-- ---- the description

short_where : (m : Raw) (rest : Bool) → (is_long m || rest) ≡ false → size m ≤ MOST_MESSAGE_BYTES
short_where m rest h = ltb-false MOST_MESSAGE_BYTES (size m) (or_parts (ltb MOST_MESSAGE_BYTES (size m)) rest h).0

module _ (sent : List Sent) (v device : ℕ) (to : Announces sent device known.Device v) where
  name_ordinary : (name : Option (List ℕ)) → IsText name → is_long_name (device_name_event device) name ≡ false → AreOrdinary sent (named (event.device_name v device) name)
  name_ordinary None text long = tt
  name_ordinary (Some t) text long = let f = name_fine v device t text (short_where (device_name_event device t) false long) in ((f.0.0, f.0.1, to, f.1), tt)

  type_ordinary : (kind : DeviceType) → AreOrdinary sent (event.device_type v device (device_type_number kind) ∷ [])
  type_ordinary kind = let f = type_fine v device kind in ((f.0.0, f.0.1, to, f.1), tt)

  done_ordinary : AreOrdinary sent (event.device_done v device ∷ [])
  done_ordinary = let f = done_fine v device in ((f.0.0, f.0.1, to, f.1), tt)

  module _ (keyboard : Option ObjectView) (heard : (k : ObjectView) → keyboard ≡ Some k → Announces sent k.id known.Keyboard k.version) where
    keymaps_ordinary : (kind : KeymapType) (bytes : ℕ) (handle : Handle) → bytes < 2 ^ 32 → (o : Option ObjectView) → keyboard ≡ o → AreOrdinary sent (acts.keymaps (keymap_type_number kind) bytes handle o)
    keymaps_ordinary kind bytes handle s None e = tt
    keymaps_ordinary kind bytes handle s (Some k) e = let f = keymap_fine k.version k.id kind bytes handle s in ((f.0.0, f.0.1, heard k e, f.1), tt)

    item_ordinary : (x : DeviceSetup) → IsLawful x → is_long_item device x ≡ false → AreOrdinary sent (item v device keyboard x)
    item_ordinary (setup.Dimensions width height) l s = let f = dimensions_fine v device width height l.0 l.1 in ((f.0.0, f.0.1, to, f.1), tt)
    item_ordinary (setup.RegionMappingId id) l s = let f = mapping_fine v device id.now l (short_where (raw_of (event.region_mapping_id v device id.now)) false s) in ((f.0.0, f.0.1, to, f.1), tt)
    item_ordinary (setup.Region x y width hight scale) l s = let f = region_fine v device x y width hight scale.0 l.0 l.1 l.2 l.3 l.4 in ((f.0.0, f.0.1, to, f.1), tt)
    item_ordinary (setup.Keymap kind bytes handle) l s = keymaps_ordinary kind bytes handle l keyboard refl

    items_ordinary : (xs : List DeviceSetup) → AreLawful xs → list_any (is_long_item device) xs ≡ false → AreOrdinary sent (flat_map (item v device keyboard) xs)
    items_ordinary [] l s = tt
    items_ordinary (x ∷ xs) l s =
        let parts = or_parts (is_long_item device x) (list_any (is_long_item device) xs) s in
        ordinary_both sent (item v device keyboard x) (flat_map (item v device keyboard) xs) (item_ordinary x l.0 parts.0) (items_ordinary xs l.1 parts.1)

-- ---- ids

ordinary_next : (ms sent : List Sent) → AreOrdinary sent ms → next_own true (onto ms sent) ≡ next_own true sent
ordinary_next [] sent h = refl
ordinary_next (m ∷ ms) sent h =
    let one : next_own true (m ∷ sent) ≡ next_own true sent + 0 = next_more true m sent ∙ ap (λ (o : Option New). next_own true sent + counts o) h.0.3 in
    let rest = ordinary_next ms (m ∷ sent) (ordinary_more sent m ms h.1) in
    omega (arith, one, rest)

-- ---- the interfaces

module _ (c : ConnectionView) (device : ℕ) (small : AreVersions c.negotiated) (taken : List Got) (more : List Sent) where
  interfaces_in_turn : (is : List KnownInterface) (id : ℕ) (sent : List Sent) → Rose sent → Announces sent device known.Device (device_version c) → id ≡ next_own true sent → id + length is ≤ own_limit false →
      (Rose (onto (interfaces_from c device id is) sent) → AreListedCalls true more (onto (interfaces_from c device id is) sent) taken) → AreListedCalls true (interfaces_from c device id is ++ more) sent taken
  interfaces_in_turn [] id sent h to next room rest = rest h
  interfaces_in_turn (i ∷ is) id sent h to next room rest =
      let w : ℕ = version_in c.negotiated i in
      let m : Sent = event.interface (device_version c) device id i w in
      let n : New = record { id = id; interface = Known i; version = w } in
      let new = new_interface (device_version c) device id i w in
      let f = interface_fine (device_version c) device id i w (omega (arith, room)) (version_small c i small) in
      let fresh : HasNextId (next_own true sent) (new_of true m) = subst (HasNextId (next_own true sent)) (sym new) next in
      let up = one_more_id sent m n new in
      let left : next_own true (m ∷ sent) ≤ own_limit false = omega (arith, up, next, room) in (
        f.0,
        listed sent taken m f.0 h f.1 to fresh left,
        interfaces_in_turn is (id + 1) (m ∷ sent) (rose_more sent m h fresh left) (announced_more true m sent device _ to) (omega (arith, up, next)) (omega (arith, room)) rest,
      )

-- the keyboard among them is announced
keyboard_announced : (c : ConnectionView) (e : Endpoint) (device : ℕ) (is : List KnownInterface) (id : ℕ) (sent : List Sent) (k : ObjectView) → Rose sent → id ≡ next_own true sent → id + length is ≤ own_limit false → e.next_own ≡ id →
    object_of known.Keyboard (objects_of e (version_in c.negotiated) is) ≡ Some k → Announces (onto (interfaces_from c device id is) sent) k.id known.Keyboard k.version
keyboard_announced c e device [] id sent k h next room same found = absurd cc
keyboard_announced c e device (i ∷ is) id sent k h next room same found =
    let w : ℕ = version_in c.negotiated i in
    let m : Sent = event.interface (device_version c) device id i w in
    let n : New = record { id = id; interface = Known i; version = w } in
    let new = new_interface (device_version c) device id i w in
    let fresh : HasNextId (next_own true sent) (new_of true m) = subst (HasNextId (next_own true sent)) (sym new) next in
    let up = one_more_id sent m n new in
    let left : next_own true (m ∷ sent) ≤ own_limit false = omega (arith, up, next, room) in
    at i refl found (announced_new sent m n h.rises new next)
    (keyboard_announced c (record e { next_own = e.next_own + 1 }) device is (id + 1) (m ∷ sent) k (rose_more sent m h fresh left) (omega (arith, up, next)) (omega (arith, room)) (omega (arith, same)))
  where
    it : KnownInterface → Sent
    it j = event.interface (device_version c) device id j (version_in c.negotiated j)

    at : (j : KnownInterface) → i ≡ j → object_of known.Keyboard (objects_of e (version_in c.negotiated) (j ∷ is)) ≡ Some k →
        announced true (it i ∷ sent) id ≡ Some (record { id = id; interface = Known i; version = version_in c.negotiated i }) →
        (object_of known.Keyboard (objects_of (record e { next_own = e.next_own + 1 }) (version_in c.negotiated) is) ≡ Some k → Announces (onto (interfaces_from c device (id + 1) is) (it i ∷ sent)) k.id known.Keyboard k.version) →
        Announces (onto (interfaces_from c device (id + 1) is) (it i ∷ sent)) k.id known.Keyboard k.version
    at known.Keyboard is_it f now rest =
        let o : next_object e known.Keyboard (version_in c.negotiated known.Keyboard) ≡ k = cc in
        let first : announced true (it i ∷ sent) k.id ≡ Some (record { id = k.id; interface = Known known.Keyboard; version = k.version }) = cc in
        announced_onto true (interfaces_from c device (id + 1) is) (it i ∷ sent) k.id _ first
    at j is_it f now rest = rest f

-- ---- a device

pub device_comes_may : (x : End) (c : ConnectionView) (seat : ObjectView) (name : Option (List ℕ)) (kind : DeviceType) (interfaces : List KnownInterface) (items : List DeviceSetup) → IsEndOf x c → AnnouncesIt x.sent known.Seat seat →
    AreVersions c.negotiated → c.ctx.table.next_own + (length interfaces + 1) ≤ own_limit false → IsText name → AreLawful items → is_long_description c.ctx.table.next_own name items ≡ false →
    AreListedCalls true (add_device c seat name kind interfaces items) x.sent x.taken
device_comes_may x c seat name kind interfaces items e to small room text lawful long =
    let device : ℕ = c.ctx.table.next_own in let v : ℕ = device_version c in
    let m : Sent = event.device seat device v in
    let n : New = record { id = device; interface = Known known.Device; version = v } in
    let h = rose x c e in
    let next = next_of x c e in
    let f = device_fine seat device v (omega (arith, room)) (version_small c known.Device small) in
    let new = device_new seat device v in
    let fresh : HasNextId (next_own true x.sent) (new_of true m) = subst (HasNextId (next_own true x.sent)) (sym new) next in
    let up = one_more_id x.sent m n new in
    let left : next_own true (m ∷ x.sent) ≤ own_limit false = omega (arith, up, next, room) in
    let now : Announces (m ∷ x.sent) device known.Device v = announced_new x.sent m n h.rises new next in
    let parts = or_parts (is_long_name (device_name_event device) name) (list_any (is_long_item device) items) long in
    let keyboard : Option ObjectView = new_keyboard c seat name interfaces in
    let last : List Sent = flat_map (item v device keyboard) items ++ (event.device_done v device ∷ []) in
    let middle : List Sent = interfaces_from c device (device + 1) interfaces in
    let first : List Sent = named (event.device_name v device) name in
    let typed : List Sent = event.device_type v device (device_type_number kind) ∷ [] in (
      f.0,
      listed x.sent x.taken m f.0 h f.1 to fresh left,
      in_turn first (typed ++ (middle ++ last)) (m ∷ x.sent) x.taken (rose_more x.sent m h fresh left) (name_ordinary (m ∷ x.sent) v device now name text parts.0) (λ r.
          let named_now : Announces (onto first (m ∷ x.sent)) device known.Device v = announced_onto true first (m ∷ x.sent) device _ now in
          let named_next = ordinary_next first (m ∷ x.sent) (name_ordinary (m ∷ x.sent) v device now name text parts.0) in
          in_turn typed (middle ++ last) (onto first (m ∷ x.sent)) x.taken r (type_ordinary (onto first (m ∷ x.sent)) v device named_now kind) (λ q.
          let sent : List Sent = onto typed (onto first (m ∷ x.sent)) in
          let typed_now : Announces sent device known.Device v = announced_onto true typed (onto first (m ∷ x.sent)) device _ named_now in
          let typed_next = ordinary_next typed (onto first (m ∷ x.sent)) (type_ordinary (onto first (m ∷ x.sent)) v device named_now kind) in
          let its : device + 1 ≡ next_own true sent = omega (arith, typed_next, named_next, up, next) in
          let most : device + 1 + length interfaces ≤ own_limit false = omega (arith, room) in
          interfaces_in_turn c device small x.taken last interfaces (device + 1) sent q typed_now its most (λ p.
          let all : List Sent = onto middle sent in
          let done_now : Announces all device known.Device v = announced_onto true middle sent device _ typed_now in
          alone last all x.taken p (ordinary_both all (flat_map (item v device keyboard) items) (event.device_done v device ∷ [])
          (items_ordinary all v device done_now keyboard (λ k g. keyboard_announced c (record (endpoint_of c.ctx) { next_own = device + 1 }) device interfaces (device + 1) sent k q its most refl g) items lawful parts.1)
          (done_ordinary all v device done_now))))),
    )
