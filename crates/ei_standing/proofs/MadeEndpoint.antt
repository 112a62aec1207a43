-- What the description of a device makes of an endpoint.
use Rattle.std.proofs.Common.{◌≡◌, ℕ, ◌+◌, ◌-◌, ◌<◌, suc, Bool, true, false, cond, eqb, leb, ltb, List, [], ◌∷◌, ◌++◌, length, Option, Some, None}
use Rattle.std.proofs.Common.{refl, sym, ap, ◌∙◌, arith, append_assoc}
use Rattle.std.specs.Prelude.{slice_get, unwrap_or, nat_eq, find, map}
use Rattle.std.specs.Option.{option_map, option_or}
use Rattle.std.specs.List.{list_any, range_with_len}
use Rattle.std.specs.FinMap.{get}
use Rattle.std.proofs.lemmas.Bool.{eqb-true}
use Rattle.std.proofs.lemmas.Bool.Decides.{nat_tests}
use Rattle.std.proofs.lemmas.List.{append-nil}
use Rattle.std.proofs.lemmas.Grind.{flat_map-append}
use Rattle.ei_spec.specs.declared.interface.KnownInterface.{KnownInterface}
use Rattle.ei_spec.specs.declared.interface.KnownInterface.TheVariants as known
use Rattle.ei_spec.specs.Interface.{Known, ObjectView}
use Rattle.ei_spec.specs.Message.{Raw, bytes_of, all_bytes}
use Rattle.ei_types.specs.Capability.{capabilities}
use Rattle.ei_types.specs.declared.enums.DeviceType.TheVariants.{Virtual}
use Rattle.ei_backend.specs.Endpoint.{Endpoint}
use Rattle.ei_backend.proofs.Objects.{get_with}
use Rattle.ei_session.specs.Setup.{seat_id}
use Rattle.ei_session.specs.Handshake.{version}
use Rattle.ei_session.specs.SettledMap.{settled_map}
use Rattle.ei_session.specs.Devices.{interfaces_of, next_id}
use Rattle.ei_session.specs.Objects.{interface_entry, new_device}
use Rattle.ei_session.specs.Events.{interface_event, interface_events, device_done_event, resumed_event, device_events}
use Rattle.ei_session.specs.Events.{device_event as announced_as, device_type_event as typed_as}
use Rattle.ei_session.specs.Kept.{is_bare}
use Rattle.ei_session.proofs.Choices.{not_both, or_none}
use Rattle.ei_session.proofs.MaskLaws.{masked_none}
use Rattle.ei_session.proofs.SettledMapLaws.{get_settled}
use Rattle.ei_request.specs.Held.{DeviceView}
use Rattle.ei_request.specs.Connection.{version_in}
use Rattle.ei_request.specs.Sending.{announces, next_object}
use Rattle.ei_request.specs.Making.{announces_all, objects_of, begins_device, ends_device, makes_device}
use Rattle.ei_request.specs.Making.{object_of as object_among}
use Rattle.ei_standing.specs.Standing.{object_of}

-- ---- interfaces, announced one after another

-- the object that an id past n stands for, by its place among the interfaces
abbrev pub object_at_place : Bool → ℕ → (KnownInterface → ℕ) → Option KnownInterface → Option ObjectView
object_at_place client q versions None = None
object_at_place client q versions (Some i) = Some (record { id = q; interface = Known i; version = versions i; client_side = client })

abbrev pub placed : Bool → ℕ → (KnownInterface → ℕ) → List KnownInterface → ℕ → Option ObjectView
placed client n versions is q = cond (leb n q) (object_at_place client q versions (slice_get is (q - n))) None

module _ (versions : KnownInterface → ℕ) (device : ℕ) where
  -- the endpoint with one interface more
  abbrev one_more : Endpoint → KnownInterface → Endpoint
  one_more e i = announces e (interface_event device e.next_own i (versions i)) i (versions i)

  pub own_after : (e : Endpoint) (is : List KnownInterface) → (announces_all e versions device is).next_own ≡ e.next_own + length is
  own_after e [] = omega arith
  own_after e (i ∷ is) = own_after (one_more e i) is ∙ omega arith

  pub unsent_after : (e : Endpoint) (is : List KnownInterface) → (announces_all e versions device is).unsent ≡ e.unsent ++ all_bytes (interface_events versions device e.next_own is)
  unsent_after e [] = sym (append-nil e.unsent)
  unsent_after e (i ∷ is) =
      unsent_after (one_more e i) is
      ∙ append_assoc e.unsent (bytes_of (interface_event device e.next_own i (versions i))) (all_bytes (interface_events versions device (e.next_own + 1) is))

  -- what one interface more keeps, all keep
  pub kept_after : {X : Type 0} (f : Endpoint → X) → ((e : Endpoint) (i : KnownInterface) → f (one_more e i) ≡ f e) → (e : Endpoint) (is : List KnownInterface) → f (announces_all e versions device is) ≡ f e
  kept_after f keep e [] = refl
  kept_after f keep e (i ∷ is) = kept_after f keep (one_more e i) is ∙ keep e i

  no_place : (client : Bool) (n : ℕ) (q : ℕ) (b : Bool) (old : Option ObjectView) → old ≡ option_or (cond b (object_at_place client q versions None) None) old
  no_place client n q true old = refl
  no_place client n q false old = refl

  one_place : (client : Bool) (n q : ℕ) (i : KnownInterface) (is : List KnownInterface) (old : Option ObjectView) (x y : Bool) → eqb q n ≡ x → leb n q ≡ y →
      option_or (placed client (n + 1) versions is q) (cond (eqb q n) (Some (record { id = n; interface = Known i; version = versions i; client_side = client })) old) ≡ option_or (placed client n versions (i ∷ is) q) old
  one_place client n q i is old true y e l =
      let at : q ≡ n = eqb-true q n e in
      let past : leb (n + 1) q ≡ false = grind (arith, nat_tests, at) in
      let here : leb n q ≡ true = grind (arith, nat_tests, at) in
      let first : q - n ≡ 0 = omega (arith, at) in
      rw (past, here, e, first) (ap (λ (x : ℕ). Some (record { id = x; interface = Known i; version = versions i; client_side = client })) (sym at))
  one_place client n q i is old false true e l =
      let above : n < q = grind (arith, nat_tests) in
      let past : leb (n + 1) q ≡ true = grind (arith, nat_tests, above) in
      let next : q - n ≡ suc (q - (n + 1)) = omega (arith, above) in
      rw (past, l, e, next) refl
  one_place client n q i is old false false e l =
      let past : leb (n + 1) q ≡ false = grind (arith, nat_tests) in
      rw (past, l, e) refl

  pub get_after : (e : Endpoint) (is : List KnownInterface) (q : ℕ) → get (announces_all e versions device is).objects q ≡ option_or (placed e.client e.next_own versions is q) (get e.objects q)
  get_after e [] q = no_place e.client e.next_own q (leb e.next_own q) (get e.objects q)
  get_after e (i ∷ is) q =
      get_after (one_more e i) is q
      ∙ ap (option_or (placed e.client (e.next_own + 1) versions is q)) (get_with e.objects e.next_own q (next_object e i (versions i)))
      ∙ one_place e.client e.next_own q i is (get e.objects q) (eqb q e.next_own) (leb e.next_own q) refl refl

-- an object among them is that of an interface, by its place
pub record Placed (versions : KnownInterface → ℕ) (e : Endpoint) (is : List KnownInterface) (id : ℕ) (o : ObjectView) : Type 0 where
  pub place : ℕ
  pub interface : KnownInterface
  pub there : slice_get is place ≡ Some interface
  pub id_is : id ≡ e.next_own + place
  pub is_it : o ≡ record { id = id; interface = Known interface; version = versions interface; client_side = e.client }

module _ (versions : KnownInterface → ℕ) where
  pub ids_of : (e : Endpoint) (is : List KnownInterface) → map (λ o. o.id) (objects_of e versions is) ≡ range_with_len e.next_own (length is)
  ids_of e [] = refl
  ids_of e (i ∷ is) = ap (λ (ids : List ℕ). e.next_own ∷ ids) (ids_of (record e { next_own = e.next_own + 1 }) is)

  same_object : (x y : ObjectView) → Some x ≡ Some y → x ≡ y
  same_object x y e = cc

  placed_first : (e : Endpoint) (i : KnownInterface) (is : List KnownInterface) (id : ℕ) (o : ObjectView) → nat_eq e.next_own id ≡ true → Some (next_object e i (versions i)) ≡ Some o → Placed versions e (i ∷ is) id o
  placed_first e i is id o t q =
      let at : e.next_own ≡ id = eqb-true e.next_own id t in
      record {
        place = 0;
        interface = i;
        there = refl;
        id_is = omega (arith, at);
        is_it = sym (same_object (next_object e i (versions i)) o q) ∙ ap (λ (n : ℕ). record { id = n; interface = Known i; version = versions i; client_side = e.client }) at;
      }

  placed_later : (e : Endpoint) (i : KnownInterface) (is : List KnownInterface) (id : ℕ) (o : ObjectView) → Placed versions (record e { next_own = e.next_own + 1 }) is id o → Placed versions e (i ∷ is) id o
  placed_later e i is id o p = record { place = suc p.place; interface = p.interface; there = p.there; id_is = omega (arith, p.id_is); is_it = p.is_it }

  placed_at : (e : Endpoint) (i : KnownInterface) (is : List KnownInterface) (id : ℕ) (o : ObjectView) (b : Bool) → nat_eq e.next_own id ≡ b → cond b (Some (next_object e i (versions i))) (find (λ x. nat_eq x.id id) (objects_of (record e { next_own = e.next_own + 1 }) versions is)) ≡ Some o →
      (find (λ x. nat_eq x.id id) (objects_of (record e { next_own = e.next_own + 1 }) versions is) ≡ Some o → Placed versions (record e { next_own = e.next_own + 1 }) is id o) → Placed versions e (i ∷ is) id o
  placed_at e i is id o true t q rest = placed_first e i is id o t q
  placed_at e i is id o false t q rest = placed_later e i is id o (rest q)

  pub found_placed : (e : Endpoint) (is : List KnownInterface) (id : ℕ) (o : ObjectView) → find (λ x. nat_eq x.id id) (objects_of e versions is) ≡ Some o → Placed versions e is id o
  found_placed e [] id o q = absurd cc
  found_placed e (i ∷ is) id o q = placed_at e i is id o (nat_eq e.next_own id) refl q (found_placed (record e { next_own = e.next_own + 1 }) is id o)

-- ---- which versions

-- two words that agree on the interfaces announce the same
pub announces_alike : (v w : KnownInterface → ℕ) → ((i : KnownInterface) → is_bare i ≡ false → v i ≡ w i) → (device : ℕ) (e : Endpoint) (is : List KnownInterface) → list_any is_bare is ≡ false → announces_all e v device is ≡ announces_all e w device is
announces_alike v w same device e [] none = refl
announces_alike v w same device e (i ∷ is) none =
    let two = or_none (is_bare i) (list_any is_bare is) none in
    ap (λ (n : ℕ). announces_all (announces e (interface_event device e.next_own i n) i n) v device is) (same i two.0)
    ∙ announces_alike v w same device (announces e (interface_event device e.next_own i (w i)) i (w i)) is two.1

pub objects_alike : (v w : KnownInterface → ℕ) → ((i : KnownInterface) → is_bare i ≡ false → v i ≡ w i) → (e : Endpoint) (is : List KnownInterface) → list_any is_bare is ≡ false → objects_of e v is ≡ objects_of e w is
objects_alike v w same e [] none = refl
objects_alike v w same e (i ∷ is) none =
    let two = or_none (is_bare i) (list_any is_bare is) none in
    ap (λ (n : ℕ). next_object e i n ∷ objects_of (record e { next_own = e.next_own + 1 }) v is) (same i two.0)
    ∙ ap (λ (os : List ObjectView). next_object e i (w i) ∷ os) (objects_alike v w same (record e { next_own = e.next_own + 1 }) is two.1)

-- the versions that were settled are those of the history
pub version_same : (past : List Raw) (i : KnownInterface) → is_bare i ≡ false → version_in (settled_map past) i ≡ version past i
unfolding version
version_same past i bare = ap (λ (v : Option ℕ). unwrap_or v 1) (get_settled past i (λ e. not_both (is_bare i) (ap is_bare e) bare))

pub none_bare : (mask : ℕ) → list_any is_bare (interfaces_of mask) ≡ false
unfolding interfaces_of
none_bare mask = masked_none is_bare mask capabilities refl

-- ---- a device

-- the endpoint with a new device of the seat, before its interfaces and behind its description
abbrev pub begun : (KnownInterface → ℕ) → Endpoint → Endpoint
begun versions e = begins_device e seat_id (versions known.Device) None Virtual

abbrev pub described : (KnownInterface → ℕ) → Endpoint → List KnownInterface → Endpoint
described versions e is = ends_device (announces_all (begun versions e) versions e.next_own is) e.next_own None []

pub described_as : (past : List Raw) (e : Endpoint) (d : DeviceView) (is : List KnownInterface) → list_any is_bare is ≡ false →
    makes_device e (settled_map past) seat_id None Virtual [] d is ≡ described (version past) e is
described_as past e d is none =
    ap (λ (x : Endpoint). ends_device x e.next_own (object_among known.Keyboard d.interfaces) []) (announces_alike (version_in (settled_map past)) (version past) (version_same past) e.next_own (begun (version_in (settled_map past)) e) is none)
    ∙ ap (λ (v : ℕ). ends_device (announces_all (begins_device e seat_id v None Virtual) (version past) e.next_own is) e.next_own None []) (version_same past known.Device refl)

-- what its objects are in the table
entry_as : (past : List Raw) (device id : ℕ) (o : Option KnownInterface) → option_map (object_of id) (interface_entry past device o) ≡ object_at_place false id (version past) o
entry_as past device id None = refl
entry_as past device id (Some i) = refl

new_as : (past : List Raw) (n : ℕ) (is : List KnownInterface) (id : ℕ) (old : Option ObjectView) (x y : Bool) → eqb id n ≡ x → leb (n + 1) id ≡ y →
    option_or (placed false (n + 1) (version past) is id) (cond (eqb id n) (Some (record { id = n; interface = Known known.Device; version = version past known.Device; client_side = false })) old)
    ≡ option_or (option_map (object_of id) (new_device past n is id)) old
unfolding new_device
new_as past n is id old true y e l =
    let at : id ≡ n = eqb-true id n e in
    let past_it : leb (n + 1) id ≡ false = grind (arith, nat_tests, at) in
    rw (past_it, e, new_device) (ap (λ (x : ℕ). Some (record { id = x; interface = Known known.Device; version = version past known.Device; client_side = false })) (sym at))
new_as past n is id old false true e l =
    let above : ltb n id ≡ true = grind (arith, nat_tests) in
    let same : id - (n + 1) ≡ id - n - 1 = omega arith in
    rw (l, e, new_device, above, same) (ap (λ o. option_or o old) (sym (entry_as past n id (slice_get is (id - n - 1)))))
new_as past n is id old false false e l =
    let below : ltb n id ≡ false = grind (arith, nat_tests) in
    rw (l, e, new_device, below) refl

pub described_objects : (past : List Raw) (e : Endpoint) (is : List KnownInterface) (id : ℕ) → e.client ≡ false → e.next_own ≡ next_id past →
    get (described (version past) e is).objects id ≡ option_or (option_map (object_of id) (new_device past (next_id past) is id)) (get e.objects id)
described_objects past e is id c n =
    get_after (version past) e.next_own (begun (version past) e) is id
    ∙ ap (option_or (placed e.client (e.next_own + 1) (version past) is id)) (get_with e.objects e.next_own id (next_object e known.Device (version past known.Device)))
    ∙ ap (λ (b : Bool). option_or (placed b (e.next_own + 1) (version past) is id) (cond (eqb id e.next_own) (Some (record { id = e.next_own; interface = Known known.Device; version = version past known.Device; client_side = b })) (get e.objects id))) c
    ∙ ap (λ (x : ℕ). option_or (placed false (x + 1) (version past) is id) (cond (eqb id x) (Some (record { id = x; interface = Known known.Device; version = version past known.Device; client_side = false })) (get e.objects id))) n
    ∙ new_as past (next_id past) is id (get e.objects id) (eqb id (next_id past)) (leb (next_id past + 1) id) refl refl

pub described_own : (past : List Raw) (e : Endpoint) (is : List KnownInterface) → (described (version past) e is).next_own ≡ e.next_own + 1 + length is
described_own past e is = own_after (version past) e.next_own (begun (version past) e) is

-- what is sent, with the event behind it
regroup : (u a b i d r : List ℕ) → (((((u ++ a) ++ (b ++ [])) ++ i) ++ (d ++ [])) ++ r) ≡ u ++ (a ++ (b ++ (i ++ (d ++ (r ++ [])))))
regroup u a b i d r = simp (append_assoc, append-nil)

pub described_unsent : (past : List Raw) (e : Endpoint) (is : List KnownInterface) (serial : ℕ) → e.next_own ≡ next_id past →
    (described (version past) e is).unsent ++ bytes_of (resumed_event e.next_own serial) ≡ e.unsent ++ all_bytes (device_events (version past) (next_id past) is serial)
unfolding device_events
described_unsent past e is serial n =
    ap (λ (u : List ℕ). (u ++ (bytes_of (device_done_event e.next_own) ++ [])) ++ bytes_of (resumed_event e.next_own serial)) (unsent_after (version past) e.next_own (begun (version past) e) is)
    ∙ ap (λ (x : ℕ). (((((e.unsent ++ bytes_of (announced_as x (version past known.Device))) ++ (bytes_of (typed_as x) ++ [])) ++ all_bytes (interface_events (version past) x (x + 1) is)) ++ (bytes_of (device_done_event x) ++ [])) ++ bytes_of (resumed_event x serial))) n
    ∙ regroup e.unsent _ _ (all_bytes (interface_events (version past) (next_id past) (next_id past + 1) is)) _ _
    ∙ ap (λ (x : List ℕ). e.unsent ++ (bytes_of (announced_as (next_id past) (version past known.Device)) ++ (bytes_of (typed_as (next_id past)) ++ x))) (sym (flat_map-append bytes_of (interface_events (version past) (next_id past) (next_id past + 1) is) (device_done_event (next_id past) ∷ resumed_event (next_id past) serial ∷ [])))

pub described_kept : {X : Type 0} (f : Endpoint → X) → (past : List Raw) (e : Endpoint) (is : List KnownInterface) → ((x : Endpoint) (i : KnownInterface) → f (announces x (interface_event e.next_own x.next_own i (version past i)) i (version past i)) ≡ f x) → f (announces_all (begun (version past) e) (version past) e.next_own is) ≡ f (begun (version past) e)
described_kept f past e is keep = kept_after (version past) e.next_own f keep (begun (version past) e) is
