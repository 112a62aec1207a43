-- What is asked of an act of a server, so that its messages may be sent, and what it does to its end.
use Rattle.std.specs.Prelude.{◌≡◌, ◌+◌, ◌<◌, ◌≤◌, ◌^◌, true, false, length, List, find}
use Rattle.std.specs.List.{Any}
use Rattle.ei_spec.specs.declared.interface.KnownInterface.TheVariants as known
use Rattle.ei_spec.specs.declared.limits.TheConstants.{MOST_MESSAGE_BYTES}
use Rattle.ei_spec.specs.Message.{size}
use Rattle.ei_spec.specs.Rows.{Row}
use Rattle.ei_session.specs.Meaning.{Meaning, Syncs}
use Rattle.ei_session.specs.Replies.{name_event}
use Rattle.ei_backend.specs.Table.{own_limit}
use Rattle.ei_ends.specs.Joined.{IsListedCall}
use Rattle.ei_ends.specs.Sent.{Sent}
use Rattle.ei_ends.specs.Way.{End}
use Rattle.ei_ends.specs.Steps.{after_calls, closed_end}
use Rattle.ei_request.specs.Held.{is_of_key, is_seat, gone_ids, gone_with_seat, all_seat_ids}
use Rattle.ei_request.specs.Connection.{ConnectionView}
use Rattle.ei_request.specs.Sending.{disconnected_event, serial_after}
use Rattle.ei_request.specs.Making.{NeedsKeyboard, has_keyboard, granted_at, is_long_name, is_long_description}
use Rattle.ei_shaking.specs.Sending.{AreVersions}
use Rattle.ei_acts.specs.Acts.{gone_as, disconnected_as}
use Rattle.ei_acts.specs.Sendable.{AnnouncesIt, announced_in, Knows, IsText, AreLawful}
use Rattle.ei_acts.specs.Acting.{Act, Rests, Resumes, Pauses, StartsEmulating, StopsEmulating, EndsFrame, SendsInput, TellsMissing, Answers}
use Rattle.ei_acts.specs.Acting.{AddsSeat, AddsDevice, RemovesDevice, RemovesSeat, Disconnects, sent_by}

-- the answer to a request may be sent: the callback of a sync was read
abbrev pub MayAnswer : Meaning → End → Type 0
MayAnswer (Syncs callback version) x = (callback < 2 ^ 64) × Knows x callback known.Callback version
MayAnswer meaning x = Unit {0}

-- The messages of an act may be sent, where the connection holds what the act names: the objects that they go to were announced,
-- numbers and texts fit, an own id is left for each object that comes, and no message is too long. To rest isn't to send.
abbrev pub MayDo : Act → End → ConnectionView → Type 0
MayDo Rests x c = ⊥
MayDo (Resumes key device) x c = AnnouncesIt x.sent known.Device device
MayDo (Pauses key device) x c = AnnouncesIt x.sent known.Device device
MayDo (StartsEmulating key device sequence) x c = AnnouncesIt x.sent known.Device device × (sequence < 2 ^ 32)
MayDo (StopsEmulating key device) x c = AnnouncesIt x.sent known.Device device
MayDo (EndsFrame key device time) x c = AnnouncesIt x.sent known.Device device × (time < 2 ^ 64)
MayDo (SendsInput m) x c = (r : Row) × IsListedCall true x.sent x.taken m r
MayDo (TellsMissing id) x c = AnnouncesIt x.sent known.Connection c.proxy × (c.last_serial < 2 ^ 32) × (id < 2 ^ 64)
MayDo (Answers id meaning time) x c = MayAnswer meaning x
MayDo (AddsSeat name given) x c = AnnouncesIt x.sent known.Connection c.proxy × AreVersions c.negotiated × (c.ctx.table.next_own < own_limit false)
    × IsText name × (is_long_name (name_event c.ctx.table.next_own) name ≡ false)
MayDo (AddsDevice key seat name kind wanted items) x c = AnnouncesIt x.sent known.Seat seat × AreVersions c.negotiated
    × (c.ctx.table.next_own + (length (granted_at c key.id wanted) + 1) ≤ own_limit false) × IsText name × AreLawful items
    × (is_long_description c.ctx.table.next_own name items ≡ false) × (Any NeedsKeyboard items → has_keyboard (granted_at c key.id wanted) ≡ true)
MayDo (RemovesDevice key) x c = Unit {0}
MayDo (RemovesSeat id) x c = Unit {0}
MayDo (Disconnects reason text) x c = AnnouncesIt x.sent known.Connection c.proxy × (c.last_serial < 2 ^ 32) × (reason < 2 ^ 32) × IsText text
    × (size (disconnected_event c.proxy.id (serial_after c.last_serial (all_seat_ids c.devices c.seats)) reason text) ≤ MOST_MESSAGE_BYTES)

-- the end once it sent the messages of the act, one after another; the end of a connection closes it
abbrev pub after_act : Act → ConnectionView → End → End
after_act (Disconnects reason text) c x = closed_end (after_calls true (sent_by (Disconnects reason text) c) x)
after_act a c x = after_calls true (sent_by a c) x

-- ---- as it was announced

-- the messages of the act, where what goes with a device, a seat or the connection is told as it was announced
abbrev pub announced_by : List Sent → Act → ConnectionView → List Sent
announced_by sent (RemovesDevice key) c = gone_as (announced_in sent) c.last_serial (gone_ids (find (is_of_key key) c.devices))
announced_by sent (RemovesSeat id) c = gone_as (announced_in sent) c.last_serial (gone_with_seat c.devices (find (is_seat id) c.seats))
announced_by sent (Disconnects reason text) c = disconnected_as (announced_in sent) c reason text
announced_by sent a c = sent_by a c

-- the end once it sent them
abbrev pub after_announced : Act → ConnectionView → End → End
after_announced (Disconnects reason text) c x = closed_end (after_calls true (announced_by x.sent (Disconnects reason text) c) x)
after_announced a c x = after_calls true (announced_by x.sent a c) x
