-- The end of a connection, the answer to a sync and an input may be sent.
use Rattle.std.proofs.Common.{◌≡◌, ℕ, ◌+◌, ◌<◌, ◌≤◌, ◌^◌, true, List, [], ◌∷◌, Option, Some, None, refl, sym, ap, subst, ◌∙◌, arith, lit≤}
use Rattle.ei_spec.specs.declared.interface.KnownInterface.TheVariants as known
use Rattle.ei_spec.specs.declared.limits.TheConstants.{MOST_MESSAGE_BYTES}
use Rattle.ei_spec.specs.Interface.{Known, ObjectView}
use Rattle.ei_spec.specs.Message.{size}
use Rattle.ei_spec.specs.Rows.{Row}
use Rattle.ei_ends.specs.Sent.{Sent, New, new_of, row_of, IsCall}
use Rattle.ei_ends.specs.Announced.{next_own, counts}
use Rattle.ei_ends.specs.Way.{HasNextId, End}
use Rattle.ei_ends.specs.Joined.{acquainted, IsListedCall, AreListedCalls}
use Rattle.ei_ends.proofs.Known.{next_more}
use Rattle.ei_request.specs.Held.{all_seat_ids}
use Rattle.ei_request.specs.Connection.{ConnectionView, next_serial}
use Rattle.ei_request.specs.Sending.{disconnected_event, serial_after}
use Rattle.ei_acts.specs.Events as event
use Rattle.ei_acts.specs.Acts.{gone, disconnected}
use Rattle.ei_acts.specs.Input.{input}
use Rattle.ei_acts.specs.Sendable.{AnnouncesIt, IsEndOf, IsText}
use Rattle.ei_acts.proofs.MaySend.{AllAnnounced, Fine, ordinary_both, alone, rose, all_go_may}

-- ---- the connection ends

pub serial_small : (serial : ℕ) (ids : List ℕ) → serial < 2 ^ 32 → serial_after serial ids < 2 ^ 32
serial_small serial [] h = h
serial_small serial (id ∷ ids) h = serial_small (next_serial serial) ids (omega arith)

pub end_fine : (o : ObjectView) (serial reason : ℕ) (text : Option (List ℕ)) → serial < 2 ^ 32 → reason < 2 ^ 32 → IsText text → size (disconnected_event o.id serial reason text) ≤ MOST_MESSAGE_BYTES →
    ((r : Row) × Fine (event.disconnected o serial reason text) r) × (new_of true (event.disconnected o serial reason text) ≡ None)
unfolding row_of
end_fine o serial reason None s w t short = ((_, record { row = refl; kinds = (s, (w, (tt, tt))); opcode = omega arith; short = short }), refl)
end_fine o serial reason (Some x) s w t short = ((_, record { row = refl; kinds = (s, (w, (t, tt))); opcode = omega arith; short = short }), refl)

pub disconnected_may : (x : End) (c : ConnectionView) (reason : ℕ) (text : Option (List ℕ)) → IsEndOf x c → AnnouncesIt x.sent known.Connection c.proxy → AllAnnounced c.ctx.table x.sent (all_seat_ids c.devices c.seats) →
    c.last_serial < 2 ^ 32 → reason < 2 ^ 32 → IsText text → size (disconnected_event c.proxy.id (serial_after c.last_serial (all_seat_ids c.devices c.seats)) reason text) ≤ MOST_MESSAGE_BYTES →
    AreListedCalls true (disconnected c reason text) x.sent x.taken
disconnected_may x c reason text e to all s w t short =
    let ids : List ℕ = all_seat_ids c.devices c.seats in
    let serial : ℕ = serial_after c.last_serial ids in
    let f = end_fine c.proxy serial reason text (serial_small c.last_serial ids s) w t short in
    alone (disconnected c reason text) x.sent x.taken (rose x c e) (ordinary_both x.sent (gone c ids) (event.disconnected c.proxy serial reason text ∷ []) (all_go_may c.ctx.table x.sent c.last_serial ids all) ((f.0.0, f.0.1, to, f.1), tt))

-- ---- one message that announces nothing, to any object that the end is acquainted with

one_may : (x : End) (c : ConnectionView) (m : Sent) (r : Row) → IsEndOf x c → IsCall true m r → acquainted true x.sent x.taken m.target ≡ Some (record { id = m.target; interface = Known m.interface; version = m.version }) → new_of true m ≡ None → IsListedCall true x.sent x.taken m r
one_may x c m r e call target none =
    let same : next_own true (m ∷ x.sent) ≡ next_own true x.sent + 0 = next_more true m x.sent ∙ ap (λ (o : Option New). next_own true x.sent + counts o) none in
    let ends = (rose x c e).ends in
    record { call = call; target = target; next = subst (HasNextId (next_own true x.sent)) (sym none) tt; left = omega (arith, same, ends) }

pub input_may : (x : End) (c : ConnectionView) (m : Sent) (r : Row) → IsEndOf x c → IsCall true m r → acquainted true x.sent x.taken m.target ≡ Some (record { id = m.target; interface = Known m.interface; version = m.version }) → new_of true m ≡ None →
    AreListedCalls true (input m) x.sent x.taken
input_may x c m r e call target none = (r, one_may x c m r e call target none, tt)

called_fine : (callback version : ℕ) → callback < 2 ^ 64 → ((r : Row) × IsCall true (event.called_back callback version) r) × (new_of true (event.called_back callback version) ≡ None)
unfolding row_of
called_fine callback version small = ((_, record { row = refl; kinds = (omega arith, tt); target = small; opcode = omega arith; short = lit≤ tt }), refl)

pub sync_may : (x : End) (c : ConnectionView) (callback version : ℕ) → IsEndOf x c → callback < 2 ^ 64 → acquainted true x.sent x.taken callback ≡ Some (record { id = callback; interface = Known known.Callback; version = version }) →
    AreListedCalls true (event.called_back callback version ∷ []) x.sent x.taken
sync_may x c callback version e small target = let f = called_fine callback version small in (f.0.0, one_may x c (event.called_back callback version) f.0.0 e f.0.1 target f.1, tt)
