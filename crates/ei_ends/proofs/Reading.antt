-- What the next message is, and that taking it keeps what ties two ends.
use Rattle.std.proofs.Common.{◌≡◌, ℕ, ◌<◌, ◌≤◌, Bool, true, false, ◌||◌, ◌⊎◌, inl, inr, List, [], ◌∷◌, ◌++◌, length, map, Option, Some, None, Ok, refl, sym, ap}
use Rattle.std.proofs.Common.{subst, ◌∙◌, length-append, arith}
use Rattle.std.specs.List.{flat_map}
use Rattle.std.proofs.lemmas.Bool.{cases_lt, cases_Bool}
use Rattle.ei_spec.specs.Value.{Kind, Value, written, handles_of}
use Rattle.ei_spec.specs.Interface.{Known, ObjectView}
use Rattle.ei_spec.specs.Rows.{Row, Announces, Nothing, Fixed, Named}
use Rattle.ei_spec.specs.Message.{Raw, IsLawful, message, bytes_of, size, Short, front}
use Rattle.ei_spec.specs.Piece.{Piece}
use Rattle.ei_backend.specs.Table.{TableView, found, own_limit, peer_end}
use Rattle.ei_backend.specs.Message.{announce, with_new}
use Rattle.ei_backend.specs.Step.{reading}
use Rattle.ei_backend.proofs.FoundAfter.{accepts}
use Rattle.ei_backend.proofs.NextIs.{reads as next_reads, gone as next_gone, waits as next_waits}
use Rattle.ei_backend.specs.Backend.{BackendView, Gone, Message, next, unsent_of}
use Rattle.ei_ends.specs.Sent.{other, Sent, Took, Missed, New, new_by, new_in, new_of, row_of, IsCall, handles_in, bytes_in, raw_of, spelled, bare}
use Rattle.ei_ends.specs.Announced.{destroyed, next_own, counts}
use Rattle.ei_ends.specs.Way.{gone, onto, HasNextId, MaySend, AllSent, needed, Way, End, Cut, Tied, unread_of}
use Rattle.ei_spec.specs.Arguments.{AreOf}
use Rattle.ei_ends.proofs.ReadsNext.{Misses, Takes, Reads}
use Rattle.ei_ends.proofs.Splits.{split_long, split_short}
use Rattle.ei_spec.proofs.Cuts.{cut_short, front_none}
use Rattle.ei_ends.proofs.Keeping.{ranges}
use Rattle.ei_ends.proofs.Known.{Rising, rising_onto, Apart, new_unheard, next_more, next_onto, all_sent_more, all_sent_onto}
use Rattle.ei_ends.proofs.Objects.{Hears, took_keeps, missed_keeps}
use Rattle.ei_ends.proofs.Agreeing.{agree_next, times_next, known_across, dropped_now}
use Rattle.ei_ends.proofs.Refilled.{Refilled, refilled, bare_same}
use Rattle.ei_ends.proofs.InTime.{needed_fits, bytes_length}
use Rattle.ei_spec.proofs.RowHandles.{new_or_handle}
use Rattle.ei_ends.proofs.Flowing.{took_flows, missed_flows}

-- ---- what is announced is accepted

hears : (o : Option New) (t : TableView) (next : ℕ) → HasNextId next o → t.next_peer ≤ next → ((n : New) → o ≡ Some n → next < peer_end t) → (u : TableView) × Hears o t u
unfolding Hears
hears None t next fresh low high = (t, refl)
hears (Some n) t next fresh low high =
    let a = accepts t n.id n.version n.interface (omega (arith, fresh)) (let lt = high n refl in omega (arith, lt, fresh)) in
    (a.0, (a.1, a.2))

announce_ok : (a : Announces) (kinds : List Kind) (values : List Value) (t u : TableView) → Hears (new_by a kinds values) t u → announce a kinds values t ≡ Ok u
unfolding Hears
announce_ok Nothing kinds values t u h = ap Ok (sym h)
announce_ok (Fixed k) kinds values t u h = ap with_new h.1
announce_ok Named kinds values t u h = ap with_new h.1

-- ---- a message at the front

lawful : (events : Bool) (m : Sent) (r : Row) → IsCall events m r → IsLawful (raw_of m)
lawful events m r call = record { id = call.target; opcode = call.opcode; size = call.short }

message_alike : (m : Sent) (values : List Value) → flat_map written values ≡ flat_map written m.values → message m.target m.opcode values ≡ raw_of m
message_alike m values e = rw e refl

read_next : (events : Bool) (m : Sent) (r : Row) (target : ObjectView) (values : List Value) (left : Piece) (u : TableView) (b : BackendView) → IsCall events m r → AreOf r.kinds values → flat_map written values ≡ flat_map written m.values → b.unread ≡ bytes_in m ++ left.bytes → b.handles ≡ flat_map handles_of values ++ left.handles →
    found b.table m.target ≡ Some target → target.interface ≡ Known m.interface → announce r.announces r.kinds values b.table ≡ Ok u →
    next events b ≡ (Message target m.opcode values, reading left.bytes left.handles u b)
unfolding bytes_in row_of
read_next events m r target values left u b call are same bytes handles live is_one accepted =
    let alike = message_alike m values same in
    next_reads events m.interface m.opcode r target m.target values left u b
    (record { row = call.row; kinds = are; lawful = subst (λ (k : Raw). IsLawful k) (sym alike) (lawful events m r call) })
    (record { bytes = bytes ∙ ap (λ (k : Raw). bytes_of k ++ left.bytes) (sym alike); handles = handles; live = live; is_one = is_one; accepted = accepted })

gone_next : (events : Bool) (m : Sent) (r : Row) (left : List ℕ) (b : BackendView) → IsCall events m r → b.unread ≡ bytes_in m ++ left → found b.table m.target ≡ None → next events b ≡ (Gone m.target, record b { unread = left })
unfolding bytes_in
gone_next events m r left b call bytes none = next_gone events (raw_of m) left b (lawful events m r call) bytes none

-- ---- the next message

-- the messages that were taken and the reader's own keep to their ranges
past_apart : (events : Bool) (sent past flight own : List Sent) → Apart events sent own → sent ≡ onto flight past → Apart events past own
past_apart events sent past flight own h is = record {
  sent_rises = rising_onto events flight past (subst (λ l. Rising events l) is h.sent_rises);
  own_rises = h.own_rises;
  sent_ends = omega (arith, h.sent_ends, next_onto events flight past, ap (next_own events) is);
  own_ends = h.own_ends;
}

counts_some : (o : Option New) (n : New) → o ≡ Some n → counts o ≡ 1
counts_some o n e = rw e refl

-- a new object on its way is below the end of the sender's ids
next_below : (events : Bool) (m : Sent) (ms past sent own : List Sent) (n : New) → Apart events sent own → sent ≡ onto (m ∷ ms) past → new_of events m ≡ Some n → next_own events past < own_limit (other events)
next_below events m ms past sent own n h is e =
    omega (arith, h.sent_ends, next_onto events ms (m ∷ past), next_more events m past, counts_some (new_of events m) n e, ap (next_own events) is)

peer_limit : (events : Bool) (t : TableView) → t.client ≡ events → peer_end t ≡ own_limit (other events)
peer_limit true t e = rw e refl
peer_limit false t e = rw e refl

handle_or_new : (events : Bool) (m : Sent) (r : Row) → IsCall events m r → (length (handles_in m) ≡ 0) ⊎ (r.announces ≡ Nothing)
unfolding row_of
handle_or_new events m r h = new_or_handle events m.interface m.opcode r m.values h.row h.kinds

-- what the message announces is what is announced with other handles
pub new_alike : (events : Bool) (m : Sent) (r : Row) (values : List Value) → IsCall events m r → map bare values ≡ map bare m.values → new_by r.announces r.kinds values ≡ new_of events m
new_alike events m r values call alike =
    let is : new_of events m ≡ new_by r.announces r.kinds m.values = ap (λ o. new_in o m.values) call.row in
    elim (handle_or_new events m r call) [
      | inl none ↦ ap (new_by r.announces r.kinds) (bare_same values m.values alike none) ∙ sym is
      | inr nothing ↦ ap (λ a. new_by a r.kinds values) nothing ∙ sym (is ∙ ap (λ a. new_by a r.kinds m.values) nothing)
    ]

-- the head of what is on its way was one that might be sent
head_may : (events : Bool) (m : Sent) (ms past sent theirs : List Sent) → sent ≡ onto (m ∷ ms) past → AllSent events sent theirs → MaySend events past theirs m
unfolding AllSent
head_may events m ms past sent theirs is h = (all_sent_onto events ms (m ∷ past) theirs (subst (λ l. AllSent events l theirs) is h)).0

flight_is : (events : Bool) (x y : End) (to_y to_x : Piece) (cx cy : Cut) (flight : List Sent) → cx.flight ≡ flight → Tied events x y to_y to_x cx cy → Tied events x y to_y to_x (record { past = cx.past; flight = flight; rest = cx.rest }) cy
flight_is events x y to_y to_x cx cy flight e h = record {
  there = subst (λ f. Way events x.sent (unsent_of x.backend) to_y y.sent y.backend y.taken cx.past f cx.rest) e h.there;
  back = h.back;
  says = h.says;
  answers = h.answers;
}

missed : (events : Bool) (x y : End) (to_y to_x rest : Piece) (past ms : List Sent) (cy : Cut) (m : Sent) (left : List ℕ) → Tied events x y to_y to_x (record { past = past; flight = m ∷ ms; rest = rest }) cy →
    y.backend.unread ≡ bytes_in m ++ left → (destroyed (other events) y.sent m.target || gone events past y.taken m.target) ≡ true →
    Misses events x y to_y to_x (record { past = past; flight = m ∷ ms; rest = rest }) cy
missed events x y to_y to_x rest past ms cy m left h bytes out =
    let b = y.backend in
    let may = head_may events m ms past x.sent cy.past h.there.sent_is h.says in
    let r = ranges events x y to_y to_x (record { past = past; flight = m ∷ ms; rest = rest }) cy h in
    let near = past_apart events x.sent past (m ∷ ms) y.sent r h.there.sent_is in
    let none : found b.table m.target ≡ None = h.there.objects.objects m.target ∙ rw out refl in
    let after : BackendView = record b { unread = left } in
    record {
      message = m;
      flight = ms;
      after = after;
      first = refl;
      next_is = gone_next events m may.row left b may.call bytes none;
      tied = record {
        there = record {
          sent_is = h.there.sent_is;
          agree = agree_next events y.sent past y.taken m (Missed m.target (length y.sent)) (omega arith, dropped_now events y.sent past y.taken m.target h.there.agree ∙ out, refl) h.there.agree;
          times = times_next (length y.sent) (Missed m.target (length y.sent)) y.taken refl h.there.times;
          flows = missed_flows b.closed (unread_of b) to_y (unsent_of x.backend) x.sent ms y.taken rest m m.target (length y.sent) left bytes h.there.flows;
          objects = missed_keeps events m m.target (length y.sent) y.sent past y.taken b.table h.there.objects may.fresh (λ n e. new_unheard events past y.sent near (next_below events m ms past x.sent y.sent n r h.there.sent_is e));
        };
        back = h.back;
        says = h.says;
        answers = all_sent_more (other events) y.sent m past h.answers;
      };
    }

handles_there : (events : Bool) (m : Sent) (ms : List Sent) (b : BackendView) (left : List ℕ) → needed (length b.unread) (m ∷ ms) ≤ length b.handles → b.unread ≡ bytes_in m ++ left → length (handles_in m) ≤ length b.handles
handles_there events m ms b left in_time bytes =
    let fits = needed_fits (length b.unread) m ms (omega (arith, ap length bytes, length-append (bytes_in m) left, bytes_length m)) in
    omega (arith, fits, in_time)

took : (events : Bool) (x y : End) (to_y to_x rest : Piece) (past ms : List Sent) (cy : Cut) (m : Sent) (left : List ℕ) → Tied events x y to_y to_x (record { past = past; flight = m ∷ ms; rest = rest }) cy →
    y.backend.unread ≡ bytes_in m ++ left → (destroyed (other events) y.sent m.target || gone events past y.taken m.target) ≡ false →
    Takes events x y to_y to_x (record { past = past; flight = m ∷ ms; rest = rest }) cy
took events x y to_y to_x rest past ms cy m left h bytes in_table =
    let b = y.backend in
    let may = head_may events m ms past x.sent cy.past h.there.sent_is h.says in
    let r = ranges events x y to_y to_x (record { past = past; flight = m ∷ ms; rest = rest }) cy h in
    let near = past_apart events x.sent past (m ∷ ms) y.sent r h.there.sent_is in
    let known = known_across events past cy.past cy.flight y.sent m.target _ near h.back.sent_is may.knows in
    let target : ObjectView = record { id = m.target; interface = Known m.interface; version = m.version; client_side = events } in
    let live : found b.table m.target ≡ Some target = h.there.objects.objects m.target ∙ rw (in_table, known) refl in
    let re : Refilled may.row.kinds m.values b.handles = refilled may.row.kinds m.values b.handles may.call.kinds (handles_there events m ms b left h.there.flows.in_time bytes) in
    let heard = hears (new_of events m) b.table (next_own events past) may.fresh h.there.objects.peer (λ n e. rw (peer_limit events b.table h.there.objects.client_is) (next_below events m ms past x.sent y.sent n r h.there.sent_is e)) in
    let same = new_alike events m may.row re.read may.call re.alike in
    let accepted : announce may.row.announces may.row.kinds re.read b.table ≡ Ok heard.0 = announce_ok may.row.announces may.row.kinds re.read b.table heard.0 (subst (λ o. Hears o b.table heard.0) (sym same) heard.1) in
    let read : Sent = record { target = m.target; interface = m.interface; version = m.version; opcode = m.opcode; values = re.read } in
    let after : BackendView = reading left re.more heard.0 b in
    record {
      message = m;
      flight = ms;
      read = read;
      target = target;
      after = after;
      first = refl;
      alike = record { target = refl; interface = refl; version = refl; opcode = refl; values = re.alike };
      target_is = refl;
      next_is = read_next events m may.row target re.read (record { bytes = left; handles = re.more }) heard.0 b may.call re.are re.bytes bytes re.handles live refl accepted;
      tied = record {
        there = record {
          sent_is = h.there.sent_is;
          agree = agree_next events y.sent past y.taken m (Took read (length y.sent)) (omega arith, dropped_now events y.sent past y.taken m.target h.there.agree ∙ in_table, record { target = refl; interface = refl; version = refl; opcode = refl; values = re.alike }) h.there.agree;
          times = times_next (length y.sent) (Took read (length y.sent)) y.taken refl h.there.times;
          flows = took_flows b.closed (unread_of b) to_y (unsent_of x.backend) x.sent ms y.taken rest m read (length y.sent) (record { bytes = left; handles = re.more }) bytes re.handles re.count h.there.flows;
          objects = took_keeps events m read (length y.sent) y.sent past y.taken b.table heard.0 h.there.objects h.answers may.fresh (λ n e. new_unheard events past y.sent near (next_below events m ms past x.sent y.sent n r h.there.sent_is e)) heard.1;
        };
        back = h.back;
        says = h.says;
        answers = all_sent_more (other events) y.sent m past h.answers;
      };
    }

waits : (events : Bool) (x y : End) (to_y to_x : Piece) (cx cy : Cut) → front y.backend.unread ≡ Short → Reads events x y to_y to_x cx cy
waits events x y to_y to_x cx cy short = inl (next_waits events y.backend short)

no_front : (a b : List ℕ) → a ++ b ≡ [] → a ≡ []
no_front [] b e = refl
no_front (x ∷ a) b e = absurd cc

is_short : (m : Sent) (r : Row) {events : Bool} (part more : List ℕ) → IsCall events m r → bytes_in m ≡ part ++ more → length part < size (raw_of m) → front part ≡ Short
unfolding bytes_in
is_short m r part more call e lt = cut_short (raw_of m) part more (record { id = call.target; opcode = call.opcode; size = call.short }) e lt

whole_at : (events : Bool) (x y : End) (to_y to_x rest : Piece) (past ms : List Sent) (cy : Cut) (m : Sent) → Tied events x y to_y to_x (record { past = past; flight = m ∷ ms; rest = rest }) cy → size (raw_of m) ≤ length y.backend.unread →
    Misses events x y to_y to_x (record { past = past; flight = m ∷ ms; rest = rest }) cy ⊎ Takes events x y to_y to_x (record { past = past; flight = m ∷ ms; rest = rest }) cy
whole_at events x y to_y to_x rest past ms cy m h le =
    let left = split_long y.backend.unread rest.bytes (bytes_in m) (spelled ms) h.there.flows.bytes (omega (arith, le, bytes_length m)) in
    elim (cases_Bool (destroyed (other events) y.sent m.target || gone events past y.taken m.target)) [
      | inl out ↦ inl (missed events x y to_y to_x rest past ms cy m left.0 h left.1 out)
      | inr there ↦ inr (took events x y to_y to_x rest past ms cy m left.0 h left.1 there)
    ]

-- a whole message is dropped or read
pub reads_whole : (events : Bool) (x y : End) (to_y to_x : Piece) (cx cy : Cut) (m : Sent) (ms : List Sent) → Tied events x y to_y to_x cx cy → cx.flight ≡ m ∷ ms → size (raw_of m) ≤ length y.backend.unread → Misses events x y to_y to_x cx cy ⊎ Takes events x y to_y to_x cx cy
reads_whole events x y to_y to_x cx cy m ms h is le =
    let at : Cut = record { past = cx.past; flight = m ∷ ms; rest = cx.rest } in
    let same : at ≡ cx = ap (λ (f : List Sent). let c : Cut = record { past = cx.past; flight = f; rest = cx.rest } in c) (sym is) in
    subst (λ (c : Cut). Misses events x y to_y to_x c cy ⊎ Takes events x y to_y to_x c cy) same (whole_at events x y to_y to_x cx.rest cx.past ms cy m (flight_is events x y to_y to_x cx cy (m ∷ ms) is h) le)

reads_at : (events : Bool) (x y : End) (to_y to_x rest : Piece) (past flight : List Sent) (cy : Cut) → Tied events x y to_y to_x (record { past = past; flight = flight; rest = rest }) cy → Reads events x y to_y to_x (record { past = past; flight = flight; rest = rest }) cy
reads_at events x y to_y to_x rest past [] cy h =
    let none : y.backend.unread ≡ [] = no_front y.backend.unread rest.bytes h.there.flows.bytes in
    waits events x y to_y to_x (record { past = past; flight = []; rest = rest }) cy (ap front none ∙ front_none)
reads_at events x y to_y to_x rest past (m ∷ ms) cy h =
    let cut : Cut = record { past = past; flight = m ∷ ms; rest = rest } in
    let l = bytes_length m in
    let may = head_may events m ms past x.sent cy.past h.there.sent_is h.says in
    elim (cases_lt (length y.backend.unread) (size (raw_of m))) [
      | inl lt ↦
          let part = split_short y.backend.unread rest.bytes (bytes_in m) (spelled ms) h.there.flows.bytes (omega (arith, lt, l)) in
          waits events x y to_y to_x cut cy (is_short m may.row y.backend.unread part.0 may.call part.1 lt)
      | inr le ↦ inr (whole_at events x y to_y to_x rest past ms cy m h le)
    ]

pub reads : (events : Bool) (x y : End) (to_y to_x : Piece) (cx cy : Cut) → Tied events x y to_y to_x cx cy → Reads events x y to_y to_x cx cy
reads events x y to_y to_x cx cy h = reads_at events x y to_y to_x cx.rest cx.past cx.flight cy h
