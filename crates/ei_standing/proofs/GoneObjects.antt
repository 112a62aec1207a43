-- Objects that go with a message, told one after another: what that leaves of an endpoint, and of a converter.
use Rattle.std.proofs.Common.{◌≡◌, ℕ, ◌+◌, ◌%◌, ◌^◌, ◌<◌, Bool, true, false, cond, ◌||◌, eqb, List, [], ◌∷◌, ◌++◌, length, Option, Some, None, refl}
use Rattle.std.proofs.Common.{sym, ap, ◌∙◌, arith, inl, inr, append_assoc}
use Rattle.std.specs.Prelude.{map, nat_eq, is_some, codes}
use Rattle.std.specs.Option.{option_map}
use Rattle.std.specs.List.{list_any}
use Rattle.std.specs.FinMap.{get}
use Rattle.std.proofs.lemmas.List.{append-nil}
use Rattle.ei_spec.specs.Interface.{ObjectView}
use Rattle.ei_spec.specs.Message.{Raw, bytes_of, all_bytes}
use Rattle.ei_spec.specs.History.{each}
use Rattle.ei_spec.specs.Groups.{frames_made, gives}
use Rattle.ei_backend.specs.Endpoint.{Endpoint, endpoint_of}
use Rattle.ei_backend.proofs.Objects.{get_without}
use Rattle.ei_session.specs.Setup.{Setup, seat_id}
use Rattle.ei_session.specs.Asked.{asks}
use Rattle.ei_session.specs.Handshake.{connected}
use Rattle.ei_session.specs.Devices.{made, seat_is_open, exhausts}
use Rattle.ei_session.specs.Objects.{Entry, is_release, object, going, gone}
use Rattle.ei_session.specs.Serial.{steps_of, steps, serial}
use Rattle.ei_session.specs.Requests.{slot}
use Rattle.ei_session.specs.Events.{destroyed_event, destroyed_events, reply}
use Rattle.ei_session.proofs.Choices.{not_true}
use Rattle.ei_session.proofs.ObjectLaws.{object_is_introduced, device_above}
use Rattle.ei_session.proofs.ObjectShape as shape
use Rattle.ei_session.proofs.GoneLaws.{no_finish_again, going_cases}
use Rattle.ei_session.proofs.LeftInterfaces.{left_there}
use Rattle.ei_session.proofs.GoesByRelease.{release_gone}
use Rattle.ei_session.proofs.KeptByRequests.{stays_connected}
use Rattle.ei_session.proofs.SerialLaws.{serial_more, version_fixed}
use Rattle.ei_session.proofs.NextLaws.{own_other, peer_other}
use Rattle.ei_session.proofs.SettledMapLaws.{connected_map}
use Rattle.ei_session.proofs.ReplyLaws.{reply_release}
use Rattle.ei_session.specs.NextIds.{next_own}
use Rattle.ei_spec.specs.declared.interface.KnownInterface.TheVariants as known
use Rattle.ei_request.specs.Held.{SeatView}
use Rattle.ei_request.specs.Connection.{ConnectionView, next_serial}
use Rattle.ei_request.specs.Sending.{destroys, destroys_all, serial_after}
use Rattle.ei_request.specs.Converter.{ConverterView}
use Rattle.ei_standing.specs.Standing.{object_of, seat_held, AreDevices, IsHeld, TookOne, request_in_code}
use Rattle.ei_standing.proofs.HeldPlainly.{not_zero, same_name, device_synced}
use Rattle.ei_standing.proofs.ToDevices.{release_is}

-- ---- of an endpoint

pub unsent_all : (e : Endpoint) (s : ℕ) (ids : List ℕ) → (destroys_all e s ids).unsent ≡ e.unsent ++ all_bytes (destroyed_events s ids)
unsent_all e s [] = sym (append-nil e.unsent)
unsent_all e s (id ∷ ids) = unsent_all (destroys e id (next_serial s)) (next_serial s) ids ∙ append_assoc e.unsent (bytes_of (destroyed_event id (next_serial s))) (all_bytes (destroyed_events (next_serial s) ids))

gone_or : (a b : Bool) (o : Option ObjectView) → cond b None (cond a None o) ≡ cond (a || b) None o
gone_or true true o = refl
gone_or true false o = refl
gone_or false b o = refl

pub objects_all : (e : Endpoint) (s : ℕ) (ids : List ℕ) (q : ℕ) → get (destroys_all e s ids).objects q ≡ cond (list_any (nat_eq q) ids) None (get e.objects q)
objects_all e s [] q = refl
objects_all e s (id ∷ ids) q =
    objects_all (destroys e id (next_serial s)) (next_serial s) ids q ∙ ap (cond (list_any (nat_eq q) ids) None) (get_without e.objects id q)
    ∙ gone_or (eqb q id) (list_any (nat_eq q) ids) (get e.objects q)

-- nothing else of it changes
pub rest_all : (e : Endpoint) (s : ℕ) (ids : List ℕ) → destroys_all e s ids ≡ record e { objects = (destroys_all e s ids).objects; unsent = (destroys_all e s ids).unsent }
rest_all e s [] = refl
rest_all e s (id ∷ ids) = rest_all (destroys e id (next_serial s)) (next_serial s) ids

pub serial_all : (s : ℕ) (ids : List ℕ) → s < 2 ^ 32 → serial_after s ids ≡ (s + length ids) % 2 ^ 32
serial_all s [] lt = omega (arith, lt)
serial_all s (id ∷ ids) lt = serial_all (next_serial s) ids (omega arith) ∙ omega arith

-- ---- of a history

low_serial : (setup : Setup) (past : List Raw) → serial setup past < 2 ^ 32
unfolding serial
low_serial setup past = omega arith

if_gone : (b : Bool) (id : ℕ) (o : Option Entry) → cond b None (option_map (object_of id) o) ≡ option_map (object_of id) (cond b None o)
if_gone true id o = refl
if_gone false id o = refl

steps_gone : (past : List Raw) (m : Raw) → made past m ≡ None → steps past m ≡ length (gone past m)
unfolding steps
steps_gone past m n = ap (λ (o : Option ℕ). steps_of (exhausts past m) o + length (gone past m)) n ∙ omega arith

module _ (setup : Setup) (past : List Raw) (m : Raw) (e : Entry) (d : ℕ) (on : connected past ≡ true) (k : object past m.id ≡ Some e) (p : e.device ≡ Some d) (r : asks e.interface (codes "release") m ≡ true) where
  above : seat_id < m.id
  above = device_above past m.id e d (object_is_introduced past m.id e k) p

  none : made past m ≡ None
  none = shape.release_makes_nothing past m e.interface r

  gone_is : gone past m ≡ going past m.id e.interface
  unfolding gone is_release
  gone_is = rw (k, gone, r) refl

  -- the seat's id isn't among those that go
  seat_stays : list_any (nat_eq seat_id) (gone past m) ≡ false
  seat_stays = not_true (list_any (nat_eq seat_id) (gone past m)) (λ yes.
      elim (going_cases past m.id seat_id e.interface (ap (list_any (nat_eq seat_id)) (sym gone_is) ∙ yes)) [
        | inl same ↦ omega (arith, same, above)
        | inr w ↦ let far = (left_there past m.id seat_id w.1).above in omega (arith, far, above)
      ])

  same_seat : object (m ∷ past) seat_id ≡ object past seat_id
  same_seat = release_gone past m e k (release_is m e r) seat_id ∙ ap (λ (b : Bool). cond b None (object past seat_id)) seat_stays

  still_open : seat_is_open (m ∷ past) ≡ seat_is_open past
  still_open = sym (shape.object_seat (m ∷ past)) ∙ ap is_some same_seat ∙ shape.object_seat past

  pub same_held : seat_held setup (m ∷ past) ≡ seat_held setup past
  same_held = rw (version_fixed past m known.Seat on, still_open) refl

  pub serial_gone : serial setup (m ∷ past) ≡ (serial setup past + length (gone past m)) % 2 ^ 32
  serial_gone = serial_more setup past m ∙ ap (λ (n : ℕ). (serial setup past + n) % 2 ^ 32) (steps_gone past m none)

  pub objects_left : (id : ℕ) → object (m ∷ past) id ≡ cond (list_any (nat_eq id) (gone past m)) None (object past id)
  objects_left id = release_gone past m e k (release_is m e r) id

  pub reply_gone : reply setup past m ≡ destroyed_events (serial setup past) (gone past m)
  reply_gone = reply_release setup past m e k (λ same. omega (arith, same, above)) (no_finish_again past m on) r

  pub own_same : next_own (m ∷ past) ≡ next_own past
  own_same = own_other past m (no_finish_again past m on) none

-- ---- of a converter

-- A release to a device, or to an interface of one: the client was told what goes, and the devices are those that are left.
pub took_gone : (setup : Setup) (past : List Raw) (m : Raw) (readings used : List ℕ) (c new : ConverterView) (e : Entry) (d : ℕ) → IsHeld setup past readings c → object past m.id ≡ Some e → e.device ≡ Some d →
    asks e.interface (codes "release") m ≡ true → endpoint_of new.handle.ctx ≡ destroys_all (endpoint_of c.handle.ctx) c.handle.last_serial (gone past m) →
    new.handle ≡ record c.handle { ctx = new.handle.ctx; last_serial = serial_after c.handle.last_serial (gone past m); devices = new.handle.devices } →
    AreDevices setup (m ∷ past) new.handle.devices → length (readings ++ used) ≡ frames_made (each (slot setup) (m ∷ past)) →
    ((later : List ℕ) → new.queue ≡ c.queue ++ map (request_in_code past) (gives ((readings ++ used) ++ later) (each (slot setup) past) (slot setup past m))) →
    TookOne setup past m readings used c new
took_gone setup past m readings used c new e d h k p r endpoint rest devices frames queue =
    let ids : List ℕ = gone past m in
    let old : Endpoint = endpoint_of c.handle.ctx in
    let last : ℕ = c.handle.last_serial in
    let others : endpoint_of new.handle.ctx ≡ record old { objects = (destroys_all old last ids).objects; unsent = (destroys_all old last ids).unsent } = endpoint ∙ rest_all old last ids in
    let low : last < 2 ^ 32 = omega (arith, low_serial setup past, h.serial) in
    record {
      held = record {
        lawful = h.lawful;
        connected = stays_connected past m h.connected;
        server = ap (λ (x : Endpoint). x.client) others ∙ h.server;
        opened = ap (λ (x : Endpoint). x.closed) others ∙ h.opened;
        no_handles = ap (λ (x : Endpoint). x.unsent_handles) others ∙ h.no_handles;
        objects = λ id. ap (λ (x : Endpoint). get x.objects id) endpoint ∙ objects_all old last ids id ∙ ap (cond (list_any (nat_eq id) ids) None) (h.objects id)
            ∙ if_gone (list_any (nat_eq id) ids) id (object past id) ∙ ap (option_map (object_of id)) (sym (objects_left setup past m e d h.connected k p r id));
        own = ap (λ (x : Endpoint). x.next_own) others ∙ h.own ∙ sym (own_same setup past m e d h.connected k p r);
        peer = ap (λ (x : Endpoint). x.next_peer) others ∙ h.peer ∙ sym (peer_other past m (device_synced past m e d k p));
        proxy = ap (λ (x : ConnectionView). x.proxy) rest ∙ h.proxy;
        name = ap (λ (x : ConnectionView). is_some x.name) rest ∙ h.name ∙ sym (same_name past m (not_zero past m.id e h.connected k));
        versions = ap (λ (x : ConnectionView). x.negotiated) rest ∙ h.versions ∙ sym (connected_map past m h.connected);
        serial = ap (λ (x : ConnectionView). x.last_serial) rest ∙ serial_all last ids low ∙ ap (λ (n : ℕ). (n + length ids) % 2 ^ 32) h.serial ∙ sym (serial_gone setup past m e d h.connected k p r);
        seats = ap (λ (x : ConnectionView). x.seats) rest ∙ h.seats ∙ ap (λ (s : SeatView). s ∷ []) (sym (same_held setup past m e d h.connected k p r));
        devices = devices;
        going_on = ap (λ (x : ConnectionView). x.disconnected) rest ∙ h.going_on;
        frames = frames;
      };
      queue = queue;
      unsent = ap (λ (x : Endpoint). x.unsent) endpoint ∙ unsent_all old last ids ∙ ap (λ (s : ℕ). c.handle.ctx.unsent ++ all_bytes (destroyed_events s ids)) h.serial
          ∙ ap (λ (events : List Raw). c.handle.ctx.unsent ++ all_bytes events) (sym (reply_gone setup past m e d h.connected k p r));
      unread = ap (λ (x : Endpoint). x.unread) others;
      handles = ap (λ (x : Endpoint). x.handles) others;
    }
