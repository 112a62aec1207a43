-- What a server's table has it announced, and what its connection holds may go.
use Rattle.std.proofs.Common.{◌≡◌, ℕ, Bool, true, false, cond, eqb, ◌||◌, inl, inr, List, [], ◌∷◌, ◌++◌, map, Option, Some, None, refl, sym, ap, ◌∙◌}
use Rattle.std.specs.Prelude.{find}
use Rattle.std.specs.List.{list_all, filter}
use Rattle.std.proofs.lemmas.Bool.{and_parts}
use Rattle.std.proofs.lemmas.Option.{same_Some}
use Rattle.ei_spec.specs.declared.interface.KnownInterface.{KnownInterface}
use Rattle.ei_spec.specs.declared.interface.KnownInterface.TheVariants as known
use Rattle.ei_spec.specs.Interface.{Interface, Known, Other, ObjectView}
use Rattle.ei_spec.specs.Rows.{Row, Announces as Announcement, Nothing, Fixed, Named, row_at}
use Rattle.ei_spec.specs.Table.{table}
use Rattle.ei_spec.specs.Value.{Kind, Value}
use Rattle.ei_spec.proofs.EachInterface.{of_each}
use Rattle.ei_session.specs.Inputs.{is_of_device}
use Rattle.ei_backend.specs.Backend.{BackendView}
use Rattle.ei_backend.specs.Table.{TableView, found}
use Rattle.ei_ends.specs.Sent.{Sent, New, new_by, new_in, new_of, row_of}
use Rattle.ei_ends.specs.Announced.{or_else, if_named, announced, first, first_new, known_by, destroyed}
use Rattle.ei_ends.specs.Way.{End, gone, seen_by}
use Rattle.ei_ends.proofs.Known.{or_else_some, if_named_some}
use Rattle.ei_request.specs.Keys.{DeviceKey}
use Rattle.ei_request.specs.Held.{SeatView, DeviceView, is_of_key, is_seat, is_of_seat, device_ids as ids_with, gone_ids, all_device_ids, seat_ids as ids_with_seat, gone_with_seat, all_seat_ids}
use Rattle.ei_request.specs.Connection.{ConnectionView}
use Rattle.ei_acts.specs.Holding.{is_destroyed, is_destroyed_as, may_go, AllMayGo}
use Rattle.ei_acts.specs.There.{interface_ids, IsThere, AllInterfacesThere, IsInTable, AllInTable, AllSeatsThere, HoldsThere}
use Rattle.ei_acts.specs.Sendable.{Announces, AnnouncesIt, IsObject, IsEndOf}
use Rattle.ei_acts.proofs.MaySend.{AllAnnounced}
use Rattle.ei_acts.proofs.Staying.{all_filtered}

-- ---- a client announces callbacks alone

abbrev announces_callback : Announcement → Bool
announces_callback Nothing = true
announces_callback (Fixed known.Callback) = true
announces_callback what = false

by_row : (what : Announcement) (kinds : List Kind) (values : List Value) (n : New) → announces_callback what ≡ true → new_by what kinds values ≡ Some n → n.interface ≡ Known known.Callback
by_row Nothing kinds values n h e = absurd cc
by_row (Fixed known.Callback) kinds values n h e = sym (ap (λ (m : New). m.interface) (same_Some _ n e))
by_row (Fixed k) kinds values n h e = absurd cc
by_row Named kinds values n h e = absurd cc

by_rows : (opcode : ℕ) (values : List Value) (n : New) (rows : List (ℕ × Row)) → list_all (λ (r : ℕ × Row). announces_callback r.1.announces) rows ≡ true → new_in (row_at opcode rows) values ≡ Some n → n.interface ≡ Known known.Callback
by_rows opcode values n [] h e = absurd cc
by_rows opcode values n (r ∷ rs) h e =
    let parts = and_parts (announces_callback r.1.announces) (list_all (λ (q : ℕ × Row). announces_callback q.1.announces) rs) h in
    by (eqb opcode r.0) e parts.0 (by_rows opcode values n rs parts.1)
  where
    by : (b : Bool) → new_in (cond b (Some r.1) (row_at opcode rs)) values ≡ Some n → announces_callback r.1.announces ≡ true → (new_in (row_at opcode rs) values ≡ Some n → n.interface ≡ Known known.Callback) → n.interface ≡ Known known.Callback
    by true f g next = by_row r.1.announces r.1.kinds values n g f
    by false f g next = next f

all_callbacks : (k : KnownInterface) → list_all (λ (r : ℕ × Row). announces_callback r.1.announces) (table false k) ≡ true
all_callbacks k = of_each (λ (i : KnownInterface). list_all (λ (r : ℕ × Row). announces_callback r.1.announces) (table false i)) refl k

client_news : (m : Sent) (n : New) → new_of false m ≡ Some n → n.interface ≡ Known known.Callback
unfolding row_of
client_news m n e = by_rows m.opcode m.values n (table false m.interface) (all_callbacks m.interface) e

client_announced : (past : List Sent) (id : ℕ) (n : New) → announced false past id ≡ Some n → n.interface ≡ Known known.Callback
unfolding announced
client_announced [] id n e = absurd cc
client_announced (m ∷ past) id n e = elim (or_else_some (announced false past id) (if_named id (new_of false m)) n e) [
  | inl p ↦ client_announced past id n p
  | inr p ↦ client_news m n (if_named_some id (new_of false m) n p.1).0
]

pub announced_id : (events : Bool) (past : List Sent) (id : ℕ) (n : New) → announced events past id ≡ Some n → n.id ≡ id
unfolding announced
announced_id events [] id n e = absurd cc
announced_id events (m ∷ past) id n e = elim (or_else_some (announced events past id) (if_named id (new_of events m)) n e) [
  | inl p ↦ announced_id events past id n p
  | inr p ↦ (if_named_some id (new_of events m) n p.1).1
]

first_is : (id : ℕ) (n : New) → first id ≡ Some n → n.interface ≡ Known known.Handshake
first_is id n e = by (eqb id 0) e
  where
    by : (b : Bool) → cond b (Some first_new) None ≡ Some n → n.interface ≡ Known known.Handshake
    by true f = sym (ap (λ (m : New). m.interface) (same_Some first_new n f))
    by false f = absurd cc

-- ---- what the table has was announced

not_there : (o : ObjectView) → ◌≡◌ {A = Option ObjectView} None (Some o) → ⊥
not_there o h = absurd cc

module _ (x : End) (c : ConnectionView) (e : IsEndOf x c) (o : ObjectView) (k : KnownInterface) (is : o.interface ≡ Known k) (no_handshake : k ≡ known.Handshake → ⊥) (no_callback : k ≡ known.Callback → ⊥) where
  seen : (id : ℕ) (n : New) → seen_by false (Some n) ≡ Some o → known_by true x.sent e.joined.back.past id ≡ Some n → announced true x.sent id ≡ Some (record { id = id; interface = Known k; version = o.version })
  seen id n s h =
      let it = same_Some _ o s in
      let interface : n.interface ≡ Known k = ap (λ (p : ObjectView). p.interface) it ∙ is in
      let version : n.version ≡ o.version = ap (λ (p : ObjectView). p.version) it in
      elim (or_else_some (first id) (or_else (announced true x.sent id) (announced false e.joined.back.past id)) n h) [
        | inl p ↦ let clash : ◌≡◌ {A = Interface} (Known known.Handshake) (Known k) = sym (first_is id n p) ∙ interface in let q : k ≡ known.Handshake = cc in absurd (no_handshake q)
        | inr p ↦ elim (or_else_some (announced true x.sent id) (announced false e.joined.back.past id) n p.1) [
          | inl q ↦
              let its : n.id ≡ id = announced_id true x.sent id n q in
              q ∙ (let both : ◌≡◌ {A = Option New} (Some n) (Some (record { id = id; interface = Known k; version = o.version })) = rw (its, interface, version) refl in both)
          | inr q ↦ let clash : ◌≡◌ {A = Interface} (Known known.Callback) (Known k) = sym (client_announced e.joined.back.past id n q.1) ∙ interface in let r : k ≡ known.Callback = cc in absurd (no_callback r)
        ]
      ]

  pub table_announces : (id : ℕ) → found c.ctx.table id ≡ Some o → Announces x.sent id k o.version
  table_announces id h = by (destroyed true x.sent id || gone false e.joined.back.past x.taken id) (known_by true x.sent e.joined.back.past id) refl
      (sym (e.joined.tied.back.objects.objects id) ∙ ap (λ (b : BackendView). found b.table id) e.backend ∙ h)
    where
      by : (b : Bool) (n : Option New) → known_by true x.sent e.joined.back.past id ≡ n → cond b None (seen_by false n) ≡ Some o → announced true x.sent id ≡ Some (record { id = id; interface = Known k; version = o.version })
      by true n f g = absurd (not_there o g)
      by false None f g = absurd (not_there o g)
      by false (Some n) f g = seen id n g f

pub object_announced : (x : End) (c : ConnectionView) (k : KnownInterface) (o : ObjectView) → IsEndOf x c → is_destroyed k ≡ true → IsObject c.ctx.table k o → AnnouncesIt x.sent k o
object_announced x c k o e d h = table_announces x c e o k h.is (λ f. not_destroyed known.Handshake refl f) (λ f. not_destroyed known.Callback refl f) o.id h.there
  where
    not_destroyed : (j : KnownInterface) → is_destroyed j ≡ false → k ≡ j → ⊥
    not_destroyed j f g = let both : true ≡ false = sym d ∙ ap is_destroyed g ∙ f in absurd cc

pub one_announced : (x : End) (c : ConnectionView) (id : ℕ) → IsEndOf x c → may_go (found c.ctx.table id) ≡ true →
    (interface : KnownInterface) × (is_destroyed interface ≡ true) × ((there : IsThere c.ctx.table id interface) × Announces x.sent id interface there.object.version)
one_announced x c id e h = by (found c.ctx.table id) refl h
  where
    not_destroyed : (k j : KnownInterface) → is_destroyed k ≡ true → is_destroyed j ≡ false → k ≡ j → ⊥
    not_destroyed k j d f g = let both : true ≡ false = sym d ∙ ap is_destroyed g ∙ f in absurd cc

    as_known : (o : ObjectView) → found c.ctx.table id ≡ Some o → (i : Interface) → o.interface ≡ i → is_destroyed_as i ≡ true →
        (interface : KnownInterface) × (is_destroyed interface ≡ true) × ((there : IsThere c.ctx.table id interface) × Announces x.sent id interface there.object.version)
    as_known o f (Known k) g d = (k, d, (record { object = o; there = f; is = g }, table_announces x c e o k g (λ q. not_destroyed k known.Handshake d refl q) (λ q. not_destroyed k known.Callback d refl q) id f))
    as_known o f (Other name) g d = absurd cc

    by : (o : Option ObjectView) → found c.ctx.table id ≡ o → may_go o ≡ true → (interface : KnownInterface) × (is_destroyed interface ≡ true) × ((there : IsThere c.ctx.table id interface) × Announces x.sent id interface there.object.version)
    by None f g = absurd cc
    by (Some o) f g = as_known o f o.interface refl g

pub all_announced : (x : End) (c : ConnectionView) (ids : List ℕ) → IsEndOf x c → AllMayGo c.ctx.table ids → AllAnnounced c.ctx.table x.sent ids
all_announced x c [] e h = tt
all_announced x c (id ∷ ids) e h = (one_announced x c id e h.0, all_announced x c ids e h.1)

-- ---- what is held may go

pub may_both : (t : TableView) (ids more : List ℕ) → AllMayGo t ids → AllMayGo t more → AllMayGo t (ids ++ more)
may_both t [] more h k = k
may_both t (id ∷ ids) more h k = (h.0, may_both t ids more h.1 k)

pub may_where : (t : TableView) (id : ℕ) (k : KnownInterface) → is_destroyed k ≡ true → IsThere t id k → may_go (found t id) ≡ true
may_where t id k d h = ap may_go h.there ∙ ap is_destroyed_as h.is ∙ d

pub of_device : (k : KnownInterface) → is_of_device k ≡ true → is_destroyed k ≡ true
of_device known.Handshake h = absurd cc
of_device known.Connection h = absurd cc
of_device known.Callback h = absurd cc
of_device known.Pingpong h = absurd cc
of_device k h = refl

interfaces_may : (t : TableView) (os : List ObjectView) → AllInterfacesThere t os → AllMayGo t (map (λ (o : ObjectView). o.id) os)
interfaces_may t [] h = tt
interfaces_may t (o ∷ os) h = (may_where t o.id h.0.interface (of_device h.0.interface h.0.of_device) h.0.there, interfaces_may t os h.1)

pub device_may : (t : TableView) (d : DeviceView) → IsInTable t d → AllMayGo t (ids_with d)
device_may t d h = may_both t (interface_ids d) (d.device.proxy.id ∷ []) (interfaces_may t d.interfaces h.interfaces) (may_where t d.device.proxy.id known.Device refl h.device, tt)

devices_may : (t : TableView) (ds : List DeviceView) → AllInTable t ds → AllMayGo t (all_device_ids ds)
devices_may t [] h = tt
devices_may t (d ∷ ds) h = may_both t (ids_with d) (all_device_ids ds) (device_may t d h.0) (devices_may t ds h.1)

first_may : (t : TableView) (key : DeviceKey) (ds : List DeviceView) → AllInTable t ds → AllMayGo t (gone_ids (find (is_of_key key) ds))
first_may t key [] h = tt
first_may t key (d ∷ ds) h = by (is_of_key key d) (first_may t key ds h.1)
  where
    by : (b : Bool) → AllMayGo t (gone_ids (find (is_of_key key) ds)) → AllMayGo t (gone_ids (cond b (Some d) (find (is_of_key key) ds)))
    by true next = device_may t d h.0
    by false next = next

seat_may : (t : TableView) (ds : List DeviceView) (s : SeatView) → AllInTable t ds → (s.released ≡ false → IsThere t s.proxy.id known.Seat) → AllMayGo t (ids_with_seat ds s)
seat_may t ds s h k = may_both t (all_device_ids (filter (is_of_seat s.proxy.id) ds)) (cond s.released [] (s.proxy.id ∷ [])) (devices_may t (filter (is_of_seat s.proxy.id) ds) (all_filtered t (is_of_seat s.proxy.id) ds h)) (by s.released k)
  where
    by : (b : Bool) → (b ≡ false → IsThere t s.proxy.id known.Seat) → AllMayGo t (cond b [] (s.proxy.id ∷ []))
    by true f = tt
    by false f = (may_where t s.proxy.id known.Seat refl (f refl), tt)

first_seat_may : (t : TableView) (ds : List DeviceView) (id : ℕ) (ss : List SeatView) → AllInTable t ds → AllSeatsThere t ss → AllMayGo t (gone_with_seat ds (find (is_seat id) ss))
first_seat_may t ds id [] h k = tt
first_seat_may t ds id (s ∷ ss) h k = by (is_seat id s) (first_seat_may t ds id ss h k.1)
  where
    by : (b : Bool) → AllMayGo t (gone_with_seat ds (find (is_seat id) ss)) → AllMayGo t (gone_with_seat ds (cond b (Some s) (find (is_seat id) ss)))
    by true next = seat_may t ds s h k.0
    by false next = next

seats_may : (t : TableView) (ds : List DeviceView) (ss : List SeatView) → AllInTable t ds → AllSeatsThere t ss → AllMayGo t (all_seat_ids ds ss)
seats_may t ds [] h k = tt
seats_may t ds (s ∷ ss) h k = may_both t (ids_with_seat ds s) (all_seat_ids ds ss) (seat_may t ds s h k.0) (seats_may t ds ss h k.1)

pub device_may_go : (c : ConnectionView) (key : DeviceKey) → HoldsThere c → AllMayGo c.ctx.table (gone_ids (find (is_of_key key) c.devices))
device_may_go c key h = first_may c.ctx.table key c.devices h.devices

pub seat_may_go : (c : ConnectionView) (id : ℕ) → HoldsThere c → AllMayGo c.ctx.table (gone_with_seat c.devices (find (is_seat id) c.seats))
seat_may_go c id h = first_seat_may c.ctx.table c.devices id c.seats h.devices h.seats

pub all_may_go : (c : ConnectionView) → HoldsThere c → AllMayGo c.ctx.table (all_seat_ids c.devices c.seats)
all_may_go c h = seats_may c.ctx.table c.devices c.seats h.devices h.seats
