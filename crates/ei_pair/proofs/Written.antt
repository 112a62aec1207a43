-- Messages that an end put behind what waited to be sent: they are read back, and with them stored two ends stay joined.
use Rattle.std.proofs.Common.{◌≡◌, ℕ, ◌+◌, Bool, true, false, List, [], ◌∷◌, ◌++◌, map, length, refl, sym, ap, subst, ◌∙◌, append-nil, append_assoc, arith}
use Rattle.std.specs.Prelude.{drop}
use Rattle.std.specs.List.{flat_map}
use Rattle.std.proofs.Math.Seq.{drop-append_seam, drop-length}
use Rattle.std.proofs.lemmas.List.{length-append}
use Rattle.ei_spec.specs.Message.{size}
use Rattle.ei_spec.specs.Piece.{Piece}
use Rattle.ei_backend.specs.Backend.{BackendView}
use Rattle.ei_backend.specs.Endpoint.{Endpoint}
use Rattle.ei_ends.specs.Sent.{Sent, Got, raw_of, bytes_in, handles_in, spelled}
use Rattle.ei_ends.specs.Way.{End, onto}
use Rattle.ei_ends.specs.Steps.{with_backend, after_call, after_calls}
use Rattle.ei_ends.specs.Joined.{Joined}
use Rattle.ei_ends.proofs.Alike.{alike}
use Rattle.ei_ends.proofs.InTime.{bytes_length}
use Rattle.ei_ends.proofs.JoinedSteps.{turned, calls_turn}
use Rattle.ei_ends.proofs.ReadingAll.{are_calls}
use Rattle.ei_linked.specs.declared.record.Record.{Record}
use Rattle.ei_linked.specs.declared.written.Unsent.{Unsent}
use Rattle.ei_linked.specs.declared.side.Side.TheVariants as side
use Rattle.ei_linked.specs.Stored.{StoredEnd, end_in, sent_view, with_endpoint}
use Rattle.ei_linked.specs.Written.{AreWritten, unsent_in, stored_onto}
use Rattle.ei_linked.specs.TwoEnds.{WorldView, IsWorld, end_of, with_end}
use Rattle.ei_linked.proofs.Kept.{ahead, back, world_of, world_back}
use Rattle.ei_promises.specs.Pair.{having_sent_all}
use Rattle.ei_promises.specs.Keeping.{HasSentAll}
use Rattle.ei_promises.proofs.Storing.{stored_behind}

-- ---- what several calls leave

pub unsent_after : (events : Bool) (ms : List Sent) (x : End) → (after_calls events ms x).backend.unsent ≡ x.backend.unsent ++ spelled ms
unsent_after events [] x = sym (append-nil x.backend.unsent)
unsent_after events (m ∷ ms) x = unsent_after events ms (after_call events m x) ∙ append_assoc x.backend.unsent (bytes_in m) (spelled ms)

pub handles_after : (events : Bool) (ms : List Sent) (x : End) → (after_calls events ms x).backend.unsent_handles ≡ x.backend.unsent_handles ++ flat_map handles_in ms
handles_after events [] x = sym (append-nil x.backend.unsent_handles)
handles_after events (m ∷ ms) x = handles_after events ms (after_call events m x) ∙ append_assoc x.backend.unsent_handles (handles_in m) (flat_map handles_in ms)

pub closed_after : (events : Bool) (ms : List Sent) (x : End) → (after_calls events ms x).backend.closed ≡ x.backend.closed
closed_after events [] x = refl
closed_after events (m ∷ ms) x = closed_after events ms (after_call events m x)

sent_after : (events : Bool) (ms : List Sent) (x : End) → (after_calls events ms x).sent ≡ onto ms x.sent
sent_after events [] x = refl
sent_after events (m ∷ ms) x = sent_after events ms (after_call events m x)

taken_after : (events : Bool) (ms : List Sent) (x : End) → (after_calls events ms x).taken ≡ x.taken
taken_after events [] x = refl
taken_after events (m ∷ ms) x = taken_after events ms (after_call events m x)

-- ---- they are read back

pub written : (events : Bool) (ms : List Sent) (x : StoredEnd) (b : BackendView) → HasSentAll events ms (end_in x) b → AreWritten events (unsent_in x.backend) ms (with_endpoint b x)
written events ms x b h =
    let bytes : b.unsent ≡ x.backend.unsent ++ spelled ms = ap (λ (e : Endpoint). e.unsent) h.endpoint ∙ unsent_after events ms (end_in x) in
    let handles : b.unsent_handles ≡ x.backend.unsent_handles ++ flat_map handles_in ms = ap (λ (e : Endpoint). e.unsent_handles) h.endpoint ∙ handles_after events ms (end_in x) in
    record {
      calls = h.listed;
      bytes = ap (drop (length x.backend.unsent)) bytes ∙ drop-append_seam x.backend.unsent (spelled ms);
      handles = ap (drop (length x.backend.unsent_handles)) handles ∙ drop-append_seam x.backend.unsent_handles (flat_map handles_in ms);
    }

-- where nothing new waits nothing was put
pub nothing_new : (events : Bool) (at : Unsent) (ms : List Sent) (x : StoredEnd) → AreWritten events at ms x → length x.backend.unsent ≡ at.bytes → ms ≡ []
nothing_new events at [] x w e = refl
nothing_new events at (m ∷ ms) x w e =
    let none : drop at.bytes x.backend.unsent ≡ [] = ap (λ (n : ℕ). drop n x.backend.unsent) (sym e) ∙ drop-length x.backend.unsent in
    let long : length (bytes_in m ++ spelled ms) ≡ 0 = ap (λ (l : List ℕ). length l) (sym w.bytes ∙ none) in
    let parts : length (bytes_in m ++ spelled ms) ≡ length (bytes_in m) + length (spelled ms) = length-append (bytes_in m) (spelled ms) in
    let size_is : length (bytes_in m) ≡ size (raw_of m) = bytes_length m in
    absurd (omega (arith, long, parts, size_is))

-- so all of them are stored
pub none_stored : (events : Bool) (at : Unsent) (ms : List Sent) (x : StoredEnd) (past : List Record) → AreWritten events at ms x → length x.backend.unsent ≡ at.bytes → past ≡ stored_onto events ms past
none_stored events at ms x past w e = ap (λ (l : List Sent). stored_onto events l past) (sym (nothing_new events at ms x w e))

-- ---- two ends stay joined

-- the end that sent them, with them stored
end_is : (events : Bool) (ms : List Sent) (x : StoredEnd) (b : BackendView) → HasSentAll events ms (end_in x) b →
    with_backend b (after_calls events ms (end_in x)) ≡ end_in (having_sent_all events ms b x)
end_is events ms x b h =
    let sent : (after_calls events ms (end_in x)).sent ≡ map sent_view (stored_onto events ms x.sent) = sent_after events ms (end_in x) ∙ sym (stored_behind events ms x.sent (end_in x).sent (end_in x).taken refl h.listed) in
    ap (λ (l : List Sent). let e : End = record { backend = b; sent = l; taken = (after_calls events ms (end_in x)).taken } in e) sent
    ∙ ap (λ (l : List Got). let e : End = record { backend = b; sent = map sent_view (stored_onto events ms x.sent); taken = l } in e) (taken_after events ms (end_in x))

joined_calls : (events : Bool) (ms : List Sent) (x : StoredEnd) (b : BackendView) (y : End) (to_y to_x : Piece) → HasSentAll events ms (end_in x) b →
    Joined events (end_in x) y to_y to_x → Joined events (with_backend b (after_calls events ms (end_in x))) y to_y to_x
joined_calls true ms x b y to_y to_x h j =
    let z : End = after_calls true ms (end_in x) in
    let k = calls_turn true ms (end_in x) y to_y to_x j (are_calls true ms (end_in x) y to_y to_x j h.listed) in
    turned false y (with_backend b z) to_x to_y (alike false y z to_x to_y b (turned true z y to_y to_x k) h.endpoint)
joined_calls false ms x b y to_y to_x h j =
    let z : End = after_calls false ms (end_in x) in
    let k = calls_turn false ms (end_in x) y to_y to_x j (are_calls false ms (end_in x) y to_y to_x j h.listed) in
    turned true y (with_backend b z) to_x to_y (alike true y z to_x to_y b (turned false z y to_y to_x k) h.endpoint)

joined_behind : (events : Bool) (ms : List Sent) (x : StoredEnd) (b : BackendView) (y : End) (to_y to_x : Piece) → HasSentAll events ms (end_in x) b →
    Joined events (end_in x) y to_y to_x → Joined events (end_in (having_sent_all events ms b x)) y to_y to_x
joined_behind events ms x b y to_y to_x h j = subst (λ (e : End). Joined events e y to_y to_x) (end_is events ms x b h) (joined_calls events ms x b y to_y to_x h j)

pub server_world : (ms : List Sent) (w : WorldView) (b : BackendView) → w.spent ≡ false → IsWorld w → HasSentAll true ms (end_of side.Server w) b → IsWorld (with_end side.Server (having_sent_all true ms b w.server) w)
server_world ms w b whole kept h =
    world_back w.client (having_sent_all true ms b w.server) w.to_client w.to_server w.spent
    (joined_behind true ms w.server b (end_in w.client) w.to_client w.to_server h (back w whole kept))

pub client_world : (ms : List Sent) (w : WorldView) (b : BackendView) → w.spent ≡ false → IsWorld w → HasSentAll false ms (end_of side.Client w) b → IsWorld (with_end side.Client (having_sent_all false ms b w.client) w)
client_world ms w b whole kept h =
    world_of (having_sent_all false ms b w.client) w.server w.to_client w.to_server w.spent
    (joined_behind false ms w.client b (end_in w.server) w.to_server w.to_client h (ahead w whole kept))
