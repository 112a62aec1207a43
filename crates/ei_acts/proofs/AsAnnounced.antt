-- What goes, as it was announced: be it in the table or not.
use Rattle.std.proofs.Common.{◌≡◌, ℕ, ◌<◌, ◌≤◌, ◌^◌, true, false, List, [], ◌∷◌, Option, Some, None, refl, sym, ap, subst, ◌∙◌, arith}
use Rattle.std.specs.Prelude.{find, codes}
use Rattle.ei_spec.specs.declared.interface.KnownInterface.TheVariants as known
use Rattle.ei_spec.specs.declared.limits.TheConstants.{MOST_MESSAGE_BYTES}
use Rattle.ei_spec.specs.Message.{size}
use Rattle.ei_backend.specs.Table.{found}
use Rattle.ei_spec.specs.Interface.{Interface, Known, Other, ObjectView}
use Rattle.ei_spec.specs.Value.{Word}
use Rattle.ei_backend.specs.Backend.{BackendView, closed_of}
use Rattle.ei_backend.specs.Endpoint.{Endpoint, endpoint_of}
use Rattle.ei_ends.specs.Sent.{Sent, New}
use Rattle.ei_ends.specs.Announced.{announced}
use Rattle.ei_ends.specs.Way.{End, seen_by}
use Rattle.ei_ends.specs.Steps.{after_calls, closed_end}
use Rattle.ei_ends.specs.Joined.{AreListedCalls}
use Rattle.ei_ends.proofs.Known.{announced_more}
use Rattle.ei_request.specs.Keys.{DeviceKey}
use Rattle.ei_request.specs.Held.{is_of_key, is_seat, gone_ids, gone_with_seat, all_seat_ids}
use Rattle.ei_request.specs.Connection.{ConnectionView, next_serial}
use Rattle.ei_request.specs.Sending as sending
use Rattle.ei_request.specs.Removing.{RemovesDevice, RemovesSeat}
use Rattle.ei_request.specs.Removing as removing
use Rattle.ei_acts.specs.Events as event
use Rattle.ei_acts.specs.Acts.{gone_as, disconnected_as}
use Rattle.ei_acts.specs.Holding.{Sends, is_destroyed_as, may_go, AllGoAs, AllMayGo}
use Rattle.ei_acts.specs.Sendable.{AnnouncesIt, announced_in, IsEndOf, IsText}
use Rattle.ei_acts.proofs.Effects.{called_all, after_backend, called_both, sends_by, all_go_as}
use Rattle.ei_acts.proofs.Describing.{ends_one}
use Rattle.ei_acts.proofs.MaySend.{AreOrdinary, IsOrdinary, ordinary_both, alone, rose, goes_fine}
use Rattle.ei_acts.proofs.EndMay.{serial_small, end_fine}
use Rattle.ei_acts.proofs.Steadying.{destroyed_is}
use Rattle.ei_acts.proofs.AnnouncedThere.{announced_id, one_announced}

-- ---- the endpoint

pub device_goes_as : (objects : ℕ → Option ObjectView) (old new : ConnectionView) (key : DeviceKey) → RemovesDevice old key new → AllGoAs objects (gone_ids (find (is_of_key key) old.devices)) →
    Sends (gone_as objects old.last_serial (gone_ids (find (is_of_key key) old.devices))) old new
device_goes_as objects old new key r h =
    let ids : List ℕ = gone_ids (find (is_of_key key) old.devices) in
    sends_by (gone_as objects old.last_serial ids) old new (r.endpoint ∙ sym (all_go_as objects old.last_serial ids h old.ctx))

pub seat_goes_as : (objects : ℕ → Option ObjectView) (old new : ConnectionView) (id : ℕ) → RemovesSeat old id new → AllGoAs objects (gone_with_seat old.devices (find (is_seat id) old.seats)) →
    Sends (gone_as objects old.last_serial (gone_with_seat old.devices (find (is_seat id) old.seats))) old new
seat_goes_as objects old new id r h =
    let ids : List ℕ = gone_with_seat old.devices (find (is_seat id) old.seats) in
    sends_by (gone_as objects old.last_serial ids) old new (r.endpoint ∙ sym (all_go_as objects old.last_serial ids h old.ctx))

pub ends_as : (objects : ℕ → Option ObjectView) (old new : ConnectionView) (reason : ℕ) (text : Option (List ℕ)) (x : End) → removing.Disconnects old reason text new → AllGoAs objects (all_seat_ids old.devices old.seats) → x.backend ≡ old.ctx →
    endpoint_of new.ctx ≡ endpoint_of (closed_end (after_calls true (disconnected_as objects old reason text) x)).backend
ends_as objects old new reason text x d h e =
    let ids : List ℕ = all_seat_ids old.devices old.seats in
    let serial : ℕ = sending.serial_after old.last_serial ids in
    let m : Sent = event.disconnected old.proxy serial reason text in
    let ms : List Sent = disconnected_as objects old reason text in
    d.endpoint ∙ sym (ap (λ (b : BackendView). endpoint_of (closed_of b)) (after_backend ms x ∙ ap (called_all ms) e ∙ called_both (gone_as objects old.last_serial ids) (m ∷ []) old.ctx)
    ∙ ends_one old.proxy serial reason text (called_all (gone_as objects old.last_serial ids) old.ctx)
    ∙ ap (λ (f : Endpoint). sending.ends f old.proxy.id serial reason text) (all_go_as objects old.last_serial ids h old.ctx))

-- ---- that it may be sent

one_goes : (sent : List Sent) (id serial : ℕ) → serial < 2 ^ 32 → may_go (announced_in sent id) ≡ true → IsOrdinary sent (event.destroyed_as (announced_in sent id) id serial)
one_goes sent id serial s h = by (announced true sent id) refl h
  where
    known : (n : New) → announced true sent id ≡ Some n → (i : Interface) → n.interface ≡ i → is_destroyed_as i ≡ true → IsOrdinary sent (event.destroyed_as (seen_by false (Some n)) id serial)
    known n e (Known k) is d =
        let f = goes_fine k n.version id serial d s in
        let its : n.id ≡ id = announced_id true sent id n e in
        let to : announced true sent id ≡ Some (record { id = id; interface = Known k; version = n.version }) =
        e ∙ (let both : ◌≡◌ {A = Option New} (Some n) (Some (record { id = id; interface = Known k; version = n.version })) = rw (its, is) refl in both) in
        let same : event.event_to k n.version id (codes "destroyed") (Word serial ∷ []) ≡ event.destroyed_as (seen_by false (Some n)) id serial =
        ap (λ (i : Interface). event.event_to (event.known_as i) n.version id (codes "destroyed") (Word serial ∷ [])) (sym is) in
        subst (IsOrdinary sent) same (f.0.0, f.0.1, to, f.1)
    known n e (Other name) is d = absurd cc

    by : (o : Option New) → announced true sent id ≡ o → may_go (seen_by false o) ≡ true → IsOrdinary sent (event.destroyed_as (seen_by false o) id serial)
    by None e d = absurd cc
    by (Some n) e d = known n e n.interface refl d

all_go_ordinary : (sent : List Sent) (serial : ℕ) (ids : List ℕ) → AllGoAs (announced_in sent) ids → AreOrdinary sent (gone_as (announced_in sent) serial ids)
all_go_ordinary sent serial [] h = tt
all_go_ordinary sent serial (id ∷ ids) h = (one_goes sent id (next_serial serial) (omega arith) h.0, all_go_ordinary sent (next_serial serial) ids h.1)

pub gone_as_may : (x : End) (c : ConnectionView) (serial : ℕ) (ids : List ℕ) → IsEndOf x c → AllGoAs (announced_in x.sent) ids → AreListedCalls true (gone_as (announced_in x.sent) serial ids) x.sent x.taken
gone_as_may x c serial ids e h = alone (gone_as (announced_in x.sent) serial ids) x.sent x.taken (rose x c e) (all_go_ordinary x.sent serial ids h)

-- ---- what is in the table goes as it was announced

pub go_as_there : (x : End) (c : ConnectionView) (ids : List ℕ) → IsEndOf x c → AllMayGo c.ctx.table ids → AllGoAs (announced_in x.sent) ids
go_as_there x c [] e h = tt
go_as_there x c (id ∷ ids) e h =
    let o = one_announced x c id e h.0 in
    (ap (λ (n : Option New). may_go (seen_by false n)) o.2.1 ∙ o.1, go_as_there x c ids e h.1)

pub same_as_there : (x : End) (c : ConnectionView) (serial : ℕ) (ids : List ℕ) → IsEndOf x c → AllMayGo c.ctx.table ids → gone_as (announced_in x.sent) serial ids ≡ gone_as (found c.ctx.table) serial ids
same_as_there x c serial [] e h = refl
same_as_there x c serial (id ∷ ids) e h =
    let o = one_announced x c id e h.0 in
    let n : ℕ = next_serial serial in
    let same : event.destroyed_as (announced_in x.sent id) id n ≡ event.destroyed_as (found c.ctx.table id) id n =
    ap (λ (a : Option New). event.destroyed_as (seen_by false a) id n) o.2.1 ∙ sym (destroyed_is c.ctx.table id n o.0 o.2.0) in
    ap (λ (m : Sent). m ∷ gone_as (announced_in x.sent) n ids) same ∙ ap (λ (l : List Sent). event.destroyed_as (found c.ctx.table id) id n ∷ l) (same_as_there x c n ids e h.1)

-- what was announced stays announced

pub one_kept : (sent : List Sent) (m : Sent) (id : ℕ) → may_go (announced_in sent id) ≡ true → may_go (announced_in (m ∷ sent) id) ≡ true
one_kept sent m id h = by (announced true sent id) refl h
  where
    by : (o : Option New) → announced true sent id ≡ o → may_go (seen_by false o) ≡ true → may_go (seen_by false (announced true (m ∷ sent) id)) ≡ true
    by None e d = absurd cc
    by (Some n) e d = ap (λ (a : Option New). may_go (seen_by false a)) (announced_more true m sent id n e) ∙ d

pub go_as_kept : (sent : List Sent) (m : Sent) (ids : List ℕ) → AllGoAs (announced_in sent) ids → AllGoAs (announced_in (m ∷ sent)) ids
go_as_kept sent m [] h = tt
go_as_kept sent m (id ∷ ids) h = (one_kept sent m id h.0, go_as_kept sent m ids h.1)

-- ---- the connection ends

pub ends_as_may : (x : End) (c : ConnectionView) (reason : ℕ) (text : Option (List ℕ)) → IsEndOf x c → AnnouncesIt x.sent known.Connection c.proxy → AllGoAs (announced_in x.sent) (all_seat_ids c.devices c.seats) →
    c.last_serial < 2 ^ 32 → reason < 2 ^ 32 → IsText text → size (sending.disconnected_event c.proxy.id (sending.serial_after c.last_serial (all_seat_ids c.devices c.seats)) reason text) ≤ MOST_MESSAGE_BYTES →
    AreListedCalls true (disconnected_as (announced_in x.sent) c reason text) x.sent x.taken
ends_as_may x c reason text e to all s w t short =
    let ids : List ℕ = all_seat_ids c.devices c.seats in
    let serial : ℕ = sending.serial_after c.last_serial ids in
    let f = end_fine c.proxy serial reason text (serial_small c.last_serial ids s) w t short in
    alone (disconnected_as (announced_in x.sent) c reason text) x.sent x.taken (rose x c e)
    (ordinary_both x.sent (gone_as (announced_in x.sent) c.last_serial ids) (event.disconnected c.proxy serial reason text ∷ []) (all_go_ordinary x.sent c.last_serial ids all) ((f.0.0, f.0.1, to, f.1), tt))
