-- Where a server's call meets its condition, the act that it asks for may be done, and what it leaves is what that act does.
use Rattle.std.proofs.Common.{◌≡◌, ℕ, ◌+◌, ◌<◌, ◌≤◌, ◌^◌, Bool, true, false, List, length, Option, Some, refl, sym, ap, subst, ◌∙◌, arith}
use Rattle.std.specs.Prelude.{IsSome, find}
use Rattle.ei_spec.specs.declared.interface.KnownInterface.{KnownInterface}
use Rattle.ei_spec.specs.declared.interface.KnownInterface.TheVariants as known
use Rattle.ei_spec.specs.declared.limits.TheConstants.{MOST_MESSAGE_BYTES}
use Rattle.ei_spec.specs.Interface.{Known, ObjectView}
use Rattle.ei_spec.specs.Message.{size}
use Rattle.ei_spec.specs.Reading.{or_null}
use Rattle.ei_spec.specs.Rows.{Row}
use Rattle.ei_types.specs.declared.enums.DisconnectReason.{DisconnectReason}
use Rattle.ei_types.specs.declared.enums.DisconnectReason.TheVariants as reason
use Rattle.ei_types.specs.Enums.{disconnect_reason_number, IsReason}
use Rattle.ei_backend.specs.Backend.{BackendView}
use Rattle.ei_backend.specs.Table.{TableView, own_end, own_limit}
use Rattle.ei_ends.specs.Sent.{Sent}
use Rattle.ei_ends.specs.Announced.{next_own}
use Rattle.ei_ends.specs.Way.{AllSent, MaySend}
use Rattle.ei_ends.specs.Joined.{Joined, IsListedCall}
use Rattle.ei_linked.specs.declared.record.Record.{Record}
use Rattle.ei_linked.specs.declared.side.Side.TheVariants as side
use Rattle.ei_linked.specs.Stored.{end_in, sent_view, having_sent}
use Rattle.ei_linked.specs.TwoEnds.{WorldView, end_of, met_at}
use Rattle.ei_request.specs.Keys.{DeviceKey}
use Rattle.ei_request.specs.Held.{is_seat, all_seat_ids}
use Rattle.ei_request.specs.Connection.{ConnectionView, holds_device}
use Rattle.ei_request.specs.Sending.{disconnected_event, serial_after}
use Rattle.ei_request.specs.Making.{granted_at}
use Rattle.ei_request.proofs.Rooms.{end_size}
use Rattle.ei_shaking.specs.Sending.{AreVersions}
use Rattle.ei_acts.specs.Acting.{Makes}
use Rattle.ei_acts.specs.Allowed.{MayDo}
use Rattle.ei_acts.specs.Sendable.{AnnouncesIt, announced_in, HoldsAnnounced}
use Rattle.ei_acts.specs.Serving.{Serves as IsServer}
use Rattle.ei_acts.proofs.HeldAnnounced.{held_device_object, held_seat_object}
use Rattle.ei_promises.specs.declared.calls.ServerCall.{ServerCall}
use Rattle.ei_promises.specs.declared.calls.ServerCall.TheVariants as call
use Rattle.ei_promises.specs.Calling.{object_or, act_of}
use Rattle.ei_pair.specs.Calls.{MayMake, Leaves, IsFitting, LacksIdsFor, IsLongFor}

-- ---- what a key names

-- the object of that id was announced, as one of the interface
pub record Names (k : KnownInterface) (sent : List Sent) (id : ℕ) : Type 0 where
  pub announces : AnnouncesIt sent k (object_or id (announced_in sent id))
  pub same : (object_or id (announced_in sent id)).id ≡ id

names : (k : KnownInterface) (sent : List Sent) (id : ℕ) (o : ObjectView) → announced_in sent id ≡ Some o → o.id ≡ id → AnnouncesIt sent k o → Names k sent id
names k sent id o there same announces =
    let is : object_or id (announced_in sent id) ≡ o = ap (object_or id) there in
    record { announces = subst (AnnouncesIt sent k) (sym is) announces; same = ap (λ (p : ObjectView). p.id) is ∙ same }

names_device : (sent : List Sent) (c : ConnectionView) (key : DeviceKey) → HoldsAnnounced sent c → holds_device c key ≡ true → Names known.Device sent key.proxy.id
names_device sent c key h held = let n = held_device_object sent c key h held in names known.Device sent key.proxy.id n.0 n.1 n.2 n.3

names_seat : (sent : List Sent) (c : ConnectionView) (id : ℕ) → HoldsAnnounced sent c → IsSome (find (is_seat id) c.seats) → Names known.Seat sent id
names_seat sent c id h held = let n = held_seat_object sent c id h held in names known.Seat sent id n.0 n.1 n.2 n.3

-- ---- ids and lengths

not_above : (a b : ℕ) → (a ≤ b → ⊥) → b < a
not_above a b h = omega arith

not_below : (a b : ℕ) → (a < b → ⊥) → b ≤ a
not_below a b h = omega arith

is_false : (b : Bool) → (b ≡ true → ⊥) → b ≡ false
is_false true h = absurd (h refl)
is_false false h = refl

-- the own ids of a server end where those of any server do
server_limit : (n : ℕ) (t : TableView) → t.client ≡ false → n ≤ own_end t → n ≤ own_limit false
server_limit n t server le = subst (λ (b : Bool). n ≤ own_limit b) server le

id_left : (t : TableView) → t.client ≡ false → (own_end t ≤ t.next_own → ⊥) → t.next_own < own_limit false
id_left t server ids = let above = not_above (own_end t) t.next_own ids in subst (λ (b : Bool). t.next_own < own_limit b) server above

fits_four : (r : DisconnectReason) → IsReason r → disconnect_reason_number r < 2 ^ 32
fits_four reason.Disconnected h = omega arith
fits_four reason.Error h = omega arith
fits_four reason.Mode h = omega arith
fits_four reason.Protocol h = omega arith
fits_four reason.Value h = omega arith
fits_four reason.Transport h = omega arith
fits_four (reason.Other number) h = h.1

-- the end of a connection is as long with any serial
any_serial : (id a b number : ℕ) (text : Option (List ℕ)) → size (disconnected_event id a number text) ≡ size (disconnected_event id b number text)
any_serial id a b number text = end_size id a number (or_null text) ∙ sym (end_size id b number (or_null text))

short_end : (c : ConnectionView) (number : ℕ) (text : Option (List ℕ)) → (MOST_MESSAGE_BYTES < size (disconnected_event c.proxy.id 0 number text) → ⊥) →
    size (disconnected_event c.proxy.id (serial_after c.last_serial (all_seat_ids c.devices c.seats)) number text) ≤ MOST_MESSAGE_BYTES
short_end c number text short =
    let serial : ℕ = serial_after c.last_serial (all_seat_ids c.devices c.seats) in
    subst (λ (n : ℕ). n ≤ MOST_MESSAGE_BYTES) (any_serial c.proxy.id 0 serial number text)
    (not_below MOST_MESSAGE_BYTES (size (disconnected_event c.proxy.id 0 number text)) short)

-- ---- the act may be done

server_table : (w : WorldView) (c : ConnectionView) (steady : Bool) → Joined true (end_of side.Server w) (end_of side.Client w) w.to_client w.to_server → IsServer (end_of side.Server w) c steady → c.ctx.table.client ≡ false
server_table w c steady j serves = ap (λ (b : BackendView). b.table.client) (sym serves.backend) ∙ j.tied.back.objects.client_is

pub may_do : (s : ServerCall) (w : WorldView) (c : ConnectionView) (steady : Bool) → Joined true (end_of side.Server w) (end_of side.Client w) w.to_client w.to_server → IsServer (end_of side.Server w) c steady →
    AreVersions c.negotiated → c.last_serial < 2 ^ 32 → IsFitting s → MayMake s c → (LacksIdsFor s c → ⊥) → (IsLongFor s c → ⊥) → MayDo (act_of s w) (end_of side.Server w) c
may_do (call.AddSeat name capabilities) w c steady j serves small serial fit may ids short =
    let server = server_table w c steady j serves in
    (serves.connection, small, id_left c.ctx.table server ids, fit, is_false _ (λ long. short (not_above (own_end c.ctx.table) c.ctx.table.next_own ids, long)))
may_do (call.AddDevice seat name kind capabilities setup) w c steady j serves small serial fit may ids short =
    let server = server_table w c steady j serves in
    let most = not_below (own_end c.ctx.table) (c.ctx.table.next_own + (length (granted_at c seat.id capabilities) + 1)) ids in (
      (names_seat (end_of side.Server w).sent c seat.id serves.holds may.0).announces,
      small,
      server_limit (c.ctx.table.next_own + (length (granted_at c seat.id capabilities) + 1)) c.ctx.table server most,
      fit.0,
      fit.1,
      is_false _ (λ long. short (most, long)),
      may.1,
    )
may_do (call.RemoveSeat seat) w c steady j serves small serial fit may ids short = tt
may_do (call.RemoveDevice device) w c steady j serves small serial fit may ids short = tt
may_do (call.Resumed device) w c steady j serves small serial fit may ids short = (names_device (end_of side.Server w).sent c device serves.holds may).announces
may_do (call.Paused device) w c steady j serves small serial fit may ids short = (names_device (end_of side.Server w).sent c device serves.holds may).announces
may_do (call.StartEmulating device sequence) w c steady j serves small serial fit may ids short = ((names_device (end_of side.Server w).sent c device serves.holds may).announces, fit)
may_do (call.StopEmulating device) w c steady j serves small serial fit may ids short = (names_device (end_of side.Server w).sent c device serves.holds may).announces
may_do (call.Frame device time) w c steady j serves small serial fit may ids short = ((names_device (end_of side.Server w).sent c device serves.holds may).announces, fit)
may_do (call.Input target opcode values) w c steady j serves small serial fit may ids short = absurd may
may_do (call.Disconnected r explanation) w c steady j serves small serial fit may ids short =
    (serves.connection, serial, fits_four r fit.0, fit.1, short_end c (disconnect_reason_number r) _ short)

-- an input that left two ends joined was one that might be sent
pub input_may : (w : WorldView) (m : Record) → Joined true (end_of side.Server w) (end_of side.Client w) w.to_client w.to_server →
    met_at side.Server w m.target ≡ Some (record { id = m.target; interface = Known m.interface; version = m.version }) →
    Joined true (end_in (having_sent true m w.server)) (end_of side.Client w) w.to_client w.to_server →
    (r : Row) × IsListedCall true (end_of side.Server w).sent (end_of side.Server w).taken (sent_view m) r
unfolding AllSent
input_may w m j met then =
    let may : MaySend true (end_of side.Server w).sent then.back.past (sent_view m) = then.tied.says.0 in
    let table : TableView = (having_sent true m w.server).backend.table in
    let next : table.next_own ≡ next_own true (end_in (having_sent true m w.server)).sent = then.tied.back.objects.next in
    let most = server_limit table.next_own table then.tied.back.objects.client_is then.tied.back.objects.ends in
    (may.row, record { call = may.call; target = met; next = may.fresh; left = subst (λ (n : ℕ). n ≤ own_limit false) next most })

-- ---- it is done

pub makes : (s : ServerCall) (w : WorldView) (c left : ConnectionView) → HoldsAnnounced (end_of side.Server w).sent c → MayMake s c → Leaves s c left → Makes (act_of s w) c left
makes (call.AddSeat name capabilities) w c left h may l = l
makes (call.AddDevice seat name kind capabilities setup) w c left h may l = ((names_seat (end_of side.Server w).sent c seat.id h may.0).same, l)
makes (call.RemoveSeat seat) w c left h may l = l
makes (call.RemoveDevice device) w c left h may l = l
makes (call.Resumed device) w c left h may l = (record { held = may; same = (names_device (end_of side.Server w).sent c device h may).same }, l)
makes (call.Paused device) w c left h may l = (record { held = may; same = (names_device (end_of side.Server w).sent c device h may).same }, l)
makes (call.StartEmulating device sequence) w c left h may l = (record { held = may; same = (names_device (end_of side.Server w).sent c device h may).same }, l)
makes (call.StopEmulating device) w c left h may l = (record { held = may; same = (names_device (end_of side.Server w).sent c device h may).same }, l)
makes (call.Frame device time) w c left h may l = (record { held = may; same = (names_device (end_of side.Server w).sent c device h may).same }, l)
makes (call.Input target opcode values) w c left h may l = absurd may
makes (call.Disconnected r explanation) w c left h may l = l
