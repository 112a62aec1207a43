-- What may be sent, by what is in the table.
use Rattle.std.proofs.Common.{ℕ, ◌<◌, ◌≤◌, ◌^◌, true, List, Option, refl}
use Rattle.ei_spec.specs.declared.interface.KnownInterface.TheVariants as known
use Rattle.ei_spec.specs.declared.limits.TheConstants.{MOST_MESSAGE_BYTES}
use Rattle.ei_spec.specs.Interface.{ObjectView}
use Rattle.ei_spec.specs.Message.{size}
use Rattle.ei_spec.specs.Rows.{Row}
use Rattle.ei_ends.specs.Sent.{Sent, IsCall}
use Rattle.ei_ends.specs.Way.{End}
use Rattle.ei_ends.specs.Joined.{AreListedCalls}
use Rattle.ei_request.specs.Held.{all_seat_ids}
use Rattle.ei_request.specs.Connection.{ConnectionView}
use Rattle.ei_request.specs.Sending as sending
use Rattle.ei_acts.specs.Acts.{resumed, paused, start_emulating, stop_emulating, frame, invalid_object, gone, disconnected}
use Rattle.ei_acts.specs.Holding.{AllMayGo}
use Rattle.ei_acts.specs.Input.{IsInput, input}
use Rattle.ei_acts.specs.Sendable.{AnnouncesIt, Knows, IsObject, IsEndOf, IsText}
use Rattle.ei_acts.proofs.MaySend.{resumed_may, paused_may, start_may, stop_may, frame_may, invalid_may, gone_may}
use Rattle.ei_acts.proofs.EndMay.{disconnected_may, input_may}
use Rattle.ei_acts.proofs.Inputting.{input_plain}
use Rattle.ei_acts.proofs.AnnouncedThere.{object_announced, all_announced}

pub resumed_act : (x : End) (c : ConnectionView) (device : ObjectView) → IsEndOf x c → IsObject c.ctx.table known.Device device → AreListedCalls true (resumed c device) x.sent x.taken
resumed_act x c device e o = resumed_may x c e device (object_announced x c known.Device device e refl o)

pub paused_act : (x : End) (c : ConnectionView) (device : ObjectView) → IsEndOf x c → IsObject c.ctx.table known.Device device → AreListedCalls true (paused c device) x.sent x.taken
paused_act x c device e o = paused_may x c e device (object_announced x c known.Device device e refl o)

pub start_act : (x : End) (c : ConnectionView) (device : ObjectView) (sequence : ℕ) → IsEndOf x c → IsObject c.ctx.table known.Device device → sequence < 2 ^ 32 → AreListedCalls true (start_emulating c device sequence) x.sent x.taken
start_act x c device sequence e o s = start_may x c e device (object_announced x c known.Device device e refl o) sequence s

pub stop_act : (x : End) (c : ConnectionView) (device : ObjectView) → IsEndOf x c → IsObject c.ctx.table known.Device device → AreListedCalls true (stop_emulating c device) x.sent x.taken
stop_act x c device e o = stop_may x c e device (object_announced x c known.Device device e refl o)

pub frame_act : (x : End) (c : ConnectionView) (device : ObjectView) (time : ℕ) → IsEndOf x c → IsObject c.ctx.table known.Device device → time < 2 ^ 64 → AreListedCalls true (frame c device time) x.sent x.taken
frame_act x c device time e o s = frame_may x c e device (object_announced x c known.Device device e refl o) time s

pub invalid_act : (x : End) (c : ConnectionView) (id : ℕ) → IsEndOf x c → AnnouncesIt x.sent known.Connection c.proxy → c.last_serial < 2 ^ 32 → id < 2 ^ 64 → AreListedCalls true (invalid_object c id) x.sent x.taken
invalid_act x c id e d s i = invalid_may x c e d id s i

pub input_act : (x : End) (c : ConnectionView) (m : Sent) (r : Row) → IsEndOf x c → IsInput c m → IsCall true m r → Knows x m.target m.interface m.version → AreListedCalls true (input m) x.sent x.taken
input_act x c m r e i call knows = input_may x c m r e call knows (input_plain c m i).0

pub gone_act : (x : End) (c : ConnectionView) (ids : List ℕ) → IsEndOf x c → AllMayGo c.ctx.table ids → AreListedCalls true (gone c ids) x.sent x.taken
gone_act x c ids e h = gone_may x c ids e (all_announced x c ids e h)

pub disconnected_act : (x : End) (c : ConnectionView) (reason : ℕ) (text : Option (List ℕ)) → IsEndOf x c → AnnouncesIt x.sent known.Connection c.proxy → AllMayGo c.ctx.table (all_seat_ids c.devices c.seats) →
    c.last_serial < 2 ^ 32 → reason < 2 ^ 32 → IsText text → size (sending.disconnected_event c.proxy.id (sending.serial_after c.last_serial (all_seat_ids c.devices c.seats)) reason text) ≤ MOST_MESSAGE_BYTES →
    AreListedCalls true (disconnected c reason text) x.sent x.taken
disconnected_act x c reason text e to h s w t short = disconnected_may x c reason text e to (all_announced x c (all_seat_ids c.devices c.seats) e h) s w t short

pub seat_announced : (x : End) (c : ConnectionView) (o : ObjectView) → IsEndOf x c → IsObject c.ctx.table known.Seat o → AnnouncesIt x.sent known.Seat o
seat_announced x c o e h = object_announced x c known.Seat o e refl h
