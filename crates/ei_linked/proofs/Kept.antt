-- What each call keeps: the two ends are joined, and what follows of that.
use Rattle.std.proofs.Common.{◌≡◌, ℕ, ◌+◌, ◌≤◌, Bool, true, false, List, [], ◌∷◌, map, length, Option, Some, None, IfSome, Result, Ok, Err, inl, inr, refl, sym, ap, subst, ◌∙◌, arith}
use Rattle.std.specs.Prelude.{IsSome, IsErrOf, OnOk, OnErr}
use Rattle.ei_spec.specs.Value.{Value}
use Rattle.ei_spec.specs.Reading.{Fault}
use Rattle.ei_spec.specs.Interface.{Known, ObjectView}
use Rattle.ei_spec.specs.Message.{size}
use Rattle.ei_spec.specs.Piece.{Piece}
use Rattle.ei_spec.specs.declared.limits.TheConstants.{MOST_UNREAD_HANDLES, MOST_MESSAGE_BYTES}
use Rattle.ei_wire.specs.Gives.{fault_of}
use Rattle.ei_wire.specs.declared.error.SendError.{SendError}
use Rattle.ei_wire.specs.declared.error.SendError.TheVariants as send_error
use Rattle.ei_wire.specs.declared.error.ReadError.{ReadError}
use Rattle.ei_wire.specs.declared.error.ReadError.TheVariants as read_error
use Rattle.ei_backend.specs.Backend.{BackendView, FrontAnswer, Waits, Refused, Gone, Message, next, unsent_of, Answers}
use Rattle.ei_backend.specs.Ring.{grown}
use Rattle.ei_backend.specs.declared.message.PendingRequestResult.{PendingRequestResult}
use Rattle.ei_backend.specs.declared.message.PendingRequestResult.TheVariants as pending
use Rattle.ei_ends.specs.Sent.{Sent, Got, Took, Missed, new_of, raw_of}
use Rattle.ei_ends.specs.Agree.{handles_sent}
use Rattle.ei_ends.specs.Way.{End, seen_by}
use Rattle.ei_ends.specs.Joined.{Joined, IsCallOf, AllDelivered, acquainted}
use Rattle.ei_ends.specs.Steps.{handed, left_over, behind, ringed, with_taken, stored, HasId, no_piece}
use Rattle.ei_ends.proofs.JoinedSteps.{begins, times_are, equal, handles_in_order, handed_is, all_of_it, reads_nothing, reads_gone, reads_message, never_refused, agrees, turned, call, flush, deliver, close, ring, few_handles}
use Rattle.std.proofs.lemmas.Bool.{cases_lt}
use Rattle.std.proofs.lemmas.List.{length-map}
use Rattle.ei_linked.specs.declared.record.Record.{Record}
use Rattle.ei_linked.specs.declared.record.Got.TheVariants as got
use Rattle.ei_linked.specs.Stored.{StoredEnd, end_in, sent_view, got_view, with_endpoint, with_got, having_read, answered_so, read_as, as_known}
use Rattle.ei_linked.specs.Asked.{IsSendable, IsTooLong, Sends}
use Rattle.ei_linked.specs.declared.side.Side.TheVariants as side
use Rattle.ei_linked.specs.Ends.{EndsView, world_in, IsNewEnds}
use Rattle.ei_linked.specs.Delivered.{Delivers, delivered_end, rest_of, limited_end, OverflowsAt}
use Rattle.ei_linked.specs.TwoEnds.{WorldView, IsWorld, IsPrefix, IsRead, ReadsRows, StoresAnswer, NotRefused, flushed_end, Calls, DeliversAt, new_stored}
use Rattle.ei_linked.proofs.ReadRows.{reads_rows, read_view}

-- what follows of two ends that are joined, over the lists alone
prefix_of : (events : Bool) (x y : End) (to_y to_x : Piece) → Joined events x y to_y to_x → IsPrefix events y.sent x.sent y.taken
prefix_of events x y to_y to_x j = record {
  few = (agrees events x y to_y to_x j).0;
  agrees = (agrees events x y to_y to_x j).1;
  times = times_are events x y to_y to_x j;
  equal = λ a b c d. equal events x y to_y to_x a b c d j;
  handles = handles_in_order events x y to_y to_x j;
}

abbrev pub world : StoredEnd → StoredEnd → Piece → Piece → Bool → WorldView
world c s to_c to_s spent = record { client = c; server = s; to_client = to_c; to_server = to_s; spent = spent }

-- two ends that are joined, seen from the client and from the server
pub world_of : (c s : StoredEnd) (to_c to_s : Piece) (spent : Bool) → Joined false (end_in c) (end_in s) to_s to_c → IsWorld (world c s to_c to_s spent)
world_of c s to_c to_s spent j = record {
  joined = λ _. j;
  server_agrees = prefix_of false (end_in c) (end_in s) to_s to_c j;
  client_agrees = prefix_of true (end_in s) (end_in c) to_c to_s (turned false (end_in c) (end_in s) to_s to_c j);
}

pub world_back : (c s : StoredEnd) (to_c to_s : Piece) (spent : Bool) → Joined true (end_in s) (end_in c) to_c to_s → IsWorld (world c s to_c to_s spent)
world_back c s to_c to_s spent j = world_of c s to_c to_s spent (turned true (end_in s) (end_in c) to_c to_s j)

pub ahead : (w : WorldView) → w.spent ≡ false → IsWorld w → Joined false (end_in w.client) (end_in w.server) w.to_server w.to_client
ahead w whole kept = kept.joined whole

pub back : (w : WorldView) → w.spent ≡ false → IsWorld w → Joined true (end_in w.server) (end_in w.client) w.to_client w.to_server
back w whole kept = turned false (end_in w.client) (end_in w.server) w.to_server w.to_client (kept.joined whole)

-- a spent world keeps what holds of the lists
same_prefix : (events : Bool) (own own2 theirs theirs2 : List Sent) (taken taken2 : List Got) → own ≡ own2 → theirs ≡ theirs2 → taken ≡ taken2 → IsPrefix events own theirs taken → IsPrefix events own2 theirs2 taken2
same_prefix events own own2 theirs theirs2 taken taken2 a b c h =
    subst (λ o. IsPrefix events o theirs2 taken2) a (subst (λ t. IsPrefix events own t taken2) b (subst (λ t. IsPrefix events own theirs t) c h))

-- ---- a read

no_fault : (o : Option Fault) (P : Fault → Type 0) → IfSome o P → IsSome o → ((f : Fault) → P f → ⊥) → ⊥
no_fault None P h s never = cc
no_fault (Some f) P h s never = never f h

answer_is : (events : Bool) (y : StoredEnd) (a : FrontAnswer) (b : BackendView) → next events y.backend ≡ (a, b) → having_read events y ≡ answered_so events a b y
unfolding having_read
answer_is events y a b e = rw e refl

-- what was read is what comes next
pub read_is : {M : Type 0} (target : M → ObjectView) (code : M → ℕ) (values : M → List Value) (events : Bool) (answer : Option (PendingRequestResult M)) (y z : StoredEnd) → StoresAnswer target code values events answer y z → z ≡ having_read events y
read_is target code values events None y z h = h.1 ∙ sym (answer_is events y Waits z.backend h.0)
read_is target code values events (Some (pending.Request m)) y z h = h.1 ∙ sym (answer_is events y (Message (target m) (code m) (values m)) z.backend h.0)
read_is target code values events (Some (pending.InvalidObject id)) y z h = h.1 ∙ sym (answer_is events y (Gone id) z.backend h.0)
read_is target code values events (Some (pending.ParseError e)) y z h = by (fault_of e) h.0 (h.1, h.2)
  where
    by : (o : Option Fault) → IfSome o (λ f. next events y.backend ≡ (Refused f, z.backend)) → IsSome o × (z ≡ with_endpoint z.backend y) → z ≡ having_read events y
    by None is rest = let some = rest.0 in absurd cc
    by (Some f) is rest = rest.1 ∙ sym (answer_is events y (Refused f) z.backend is)

-- one more was taken, with the number of messages that were sent
took : (b : BackendView) (y : StoredEnd) (m : Sent) (r : Record) → sent_view r ≡ m → with_taken b (Took m (length (end_in y).sent)) (end_in y) ≡ end_in (with_got b (got.Message r (length y.sent)) y)
took b y m r same =
    ap (λ (n : ℕ). with_taken b (Took m n) (end_in y)) (length-map y.sent sent_view)
    ∙ ap (λ (s : Sent). with_taken b (Took s (length y.sent)) (end_in y)) (sym same)

missed : (b : BackendView) (y : StoredEnd) (id : ℕ) → with_taken b (Missed id (length (end_in y).sent)) (end_in y) ≡ end_in (with_got b (got.InvalidObject id (length y.sent)) y)
missed b y id = ap (λ (n : ℕ). with_taken b (Missed id n) (end_in y)) (length-map y.sent sent_view)

-- two ends stay joined where the second read
pub read_joined : {M : Type 0} (target : M → ObjectView) (code : M → ℕ) (values : M → List Value) (events : Bool) (answer : Option (PendingRequestResult M)) (x : End) (y z : StoredEnd) (to_y to_x : Piece) →
    StoresAnswer target code values events answer y z → Joined events x (end_in y) to_y to_x → Joined events x (end_in z) to_y to_x
read_joined target code values events None x y z to_y to_x h j =
    let same : z.backend ≡ y.backend = reads_nothing events x (end_in y) to_y to_x z.backend j h.0 in
    let is : y ≡ z = ap (λ (b : BackendView). with_endpoint b y) (sym same) ∙ sym h.1 in
    subst (λ (e : StoredEnd). Joined events x (end_in e) to_y to_x) is j
read_joined target code values events (Some (pending.Request m)) x y z to_y to_x h j =
    let row = reads_rows events x y to_y to_x j (target m) (code m) (values m) z.backend h.0 in
    let read = reads_message events x (end_in y) to_y to_x (target m) (as_known (target m).interface) (code m) (values m) z.backend j h.0 row.known in
    let record_is : Record = read_as events (target m) (code m) (values m) in
    let same = took z.backend y (stored (target m) (as_known (target m).interface) (code m) (values m)) record_is (read_view events (target m) (code m) (values m) row) in
    subst (λ (e : StoredEnd). Joined events x (end_in e) to_y to_x) (sym h.1) (subst (λ (e : End). Joined events x e to_y to_x) same read)
read_joined target code values events (Some (pending.InvalidObject id)) x y z to_y to_x h j =
    subst (λ (e : StoredEnd). Joined events x (end_in e) to_y to_x) (sym h.1)
    (subst (λ (e : End). Joined events x e to_y to_x) (missed z.backend y id) (reads_gone events x (end_in y) to_y to_x id z.backend j h.0))
read_joined target code values events (Some (pending.ParseError e)) x y z to_y to_x h j =
    absurd (no_fault (fault_of e) (λ f. next events y.backend ≡ (Refused f, z.backend)) h.0 h.1 (λ f r. never_refused events x (end_in y) to_y to_x f z.backend j r))

-- a message that is read is never refused
pub read_never : {M : Type 0} (target : M → ObjectView) (code : M → ℕ) (values : M → List Value) (events : Bool) (answer : Option (PendingRequestResult M)) (x : End) (y z : StoredEnd) (to_y to_x : Piece) →
    StoresAnswer target code values events answer y z → Joined events x (end_in y) to_y to_x → NotRefused answer
read_never target code values events None x y z to_y to_x h j = tt
read_never target code values events (Some (pending.Request m)) x y z to_y to_x h j = tt
read_never target code values events (Some (pending.InvalidObject id)) x y z to_y to_x h j = tt
read_never target code values events (Some (pending.ParseError e)) x y z to_y to_x h j =
    no_fault (fault_of e) (λ f. next events y.backend ≡ (Refused f, z.backend)) h.0 h.1 (λ f r. never_refused events x (end_in y) to_y to_x f z.backend j r)

-- where nothing is read and nothing is on its way, all was taken
pub read_all : (events : Bool) (x : End) (y : StoredEnd) (to_y to_x : Piece) (b : BackendView) → next events y.backend ≡ (Waits, b) → Joined events x (end_in y) to_y to_x → AllDelivered x (end_in y) to_y → length (end_in y).taken ≡ length x.sent
read_all events x y to_y to_x b e j all =
    let same : b ≡ y.backend = reads_nothing events x (end_in y) to_y to_x b j e in
    all_of_it events x (end_in y) to_y to_x j all (e ∙ ap (λ (c : BackendView). let r : FrontAnswer × BackendView = (Waits, c) in r) same)

-- what was answered is what the endpoint answers
pub answers_of : {M : Type 0} (target : M → ObjectView) (code : M → ℕ) (values : M → List Value) (events : Bool) (answer : Option (PendingRequestResult M)) (y z : StoredEnd) → StoresAnswer target code values events answer y z → Answers target code values answer z.backend (next events y.backend)
answers_of target code values events None y z h = h.0
answers_of target code values events (Some (pending.Request m)) y z h = h.0
answers_of target code values events (Some (pending.InvalidObject id)) y z h = h.0
answers_of target code values events (Some (pending.ParseError e)) y z h = (h.0, h.1)

pub waits_of : {M E : Type 0} (target : M → ObjectView) (code : M → ℕ) (values : M → List Value) (events : Bool) (answer : Option (PendingRequestResult M)) (y z : StoredEnd) → ◌≡◌ {A = Result (Option (PendingRequestResult M)) E} (Ok answer) (Ok None) → StoresAnswer target code values events answer y z → next events y.backend ≡ (Waits, z.backend)
waits_of target code values events None y z e h = h.0
waits_of target code values events (Some a) y z e h = absurd cc

-- a message that was read is one of its row
pub request_row : {M : Type 0} (target : M → ObjectView) (code : M → ℕ) (values : M → List Value) (events side : Bool) (answer : Option (PendingRequestResult M)) (y : StoredEnd) (b : BackendView) (r : PendingRequestResult M) (m : M) →
    answer ≡ Some r → r ≡ pending.Request m → side ≡ events → Answers target code values answer b (next side y.backend) → ReadsRows events y → IsRead events (target m) (code m) (values m)
request_row {M} target code values events side answer y b r m some is same h rows =
    let of_request : Answers target code values (Some (pending.Request m)) b (next side y.backend) = subst (λ (a : Option (PendingRequestResult M)). Answers target code values a b (next side y.backend)) (some ∙ ap (λ (p : PendingRequestResult M). let o : Option (PendingRequestResult M) = Some p in o) is) h in
    rows (target m) (code m) (values m) b (ap (λ (s : Bool). next s y.backend) (sym same) ∙ of_request)

-- ---- a delivery

-- two ends stay joined where a delivery came to the second
hands_joined : (bytes : List ℕ) (n : ℕ) (events : Bool) (x : End) (y z : StoredEnd) (to_y to_x left : Piece) → n ≤ 1536 → y.backend.closed ≡ false → z ≡ delivered_end n bytes to_y y → left ≡ rest_of n bytes to_y → Joined events x (end_in y) to_y to_x → Joined events x (end_in z) left to_x
hands_joined [] n events x y z to_y to_x left most opened e f j = subst (λ (p : Piece). Joined events x (end_in z) p to_x) (sym f) (subst (λ (s : StoredEnd). Joined events x (end_in s) to_y to_x) (sym e) j)
hands_joined (b ∷ bytes) n events x y z to_y to_x left most opened e f j =
    subst (λ (p : Piece). Joined events x (end_in z) p to_x) (sym f)
    (subst (λ (s : StoredEnd). Joined events x (end_in s) (left_over n to_y) to_x) (sym e) (deliver events x (end_in y) to_y to_x (handed n to_y) (left_over n to_y) j opened (handed_is n to_y most)))

pub deliver_joined : (n : ℕ) (result : Result ℕ ReadError) (events : Bool) (x : End) (y z : StoredEnd) (to_y to_x left : Piece) → n ≤ 1536 → Delivers n result y to_y z left → Joined events x (end_in y) to_y to_x → Joined events x (end_in z) left to_x
deliver_joined n (Ok k) events x y z to_y to_x left most h j = hands_joined to_y.bytes n events x y z to_y to_x left most h.0 h.3 h.4 j
deliver_joined n (Err read_error.UnexpectedEof) events x y z to_y to_x left most h j = subst (λ (p : Piece). Joined events x (end_in z) p to_x) (sym h.2) (subst (λ (s : StoredEnd). Joined events x (end_in s) to_y to_x) (sym h.1) j)
deliver_joined n (Err read_error.HandleLimit) events x y z to_y to_x left most h j =
    let capacity : ℕ = grown (length y.backend.unread) y.backend.capacity in
    subst (λ (p : Piece). Joined events x (end_in z) p to_x) (sym h.3)
    (subst (λ (s : StoredEnd). Joined events x (end_in s) (left_over n to_y) to_x) (sym h.2) (close events x (ringed capacity (end_in y)) to_y to_x (left_over n to_y) (ring events x (end_in y) to_y to_x capacity j)))
deliver_joined n (Err read_error.NoMemory) events x y z to_y to_x left most h j = subst (λ (p : Piece). Joined events x (end_in z) p to_x) (sym h.2) (subst (λ (s : StoredEnd). Joined events x (end_in s) to_y to_x) (sym h.1) j)
deliver_joined n (Err read_error.ReadFault) events x y z to_y to_x left most h j = absurd h

no_overflow : (bytes : List ℕ) (n : ℕ) (link : Piece) (b : BackendView) → length b.handles + length (handed n link).handles ≤ MOST_UNREAD_HANDLES → OverflowsAt n bytes link b → ⊥
no_overflow [] n link b few h = h
no_overflow (x ∷ bytes) n link b few h = omega (arith, few, h)

-- few handles that were sent never close an end
pub never_closes : (n : ℕ) (result : Result ℕ ReadError) (events : Bool) (x : End) (y z : StoredEnd) (to_y to_x left : Piece) → n ≤ 1536 → Delivers n result y to_y z left → Joined events x (end_in y) to_y to_x → length (handles_sent x.sent) ≤ MOST_UNREAD_HANDLES → IsErrOf result read_error.HandleLimit → ⊥
never_closes n (Ok k) events x y z to_y to_x left most h j few e = absurd cc
never_closes n (Err read_error.UnexpectedEof) events x y z to_y to_x left most h j few e = absurd cc
never_closes n (Err read_error.HandleLimit) events x y z to_y to_x left most h j few e =
    let limit = few_handles events x (end_in y) to_y to_x (handed n to_y) (left_over n to_y) j h.0 (handed_is n to_y most) few in
    no_overflow to_y.bytes n to_y y.backend limit h.1
never_closes n (Err read_error.NoMemory) events x y z to_y to_x left most h j few e = absurd cc
never_closes n (Err read_error.ReadFault) events x y z to_y to_x left most h j few e = absurd cc

-- ---- a call

short_of : (m : Record) → (IsTooLong m → ⊥) → size (raw_of (sent_view m)) ≤ MOST_MESSAGE_BYTES
short_of m short = elim (cases_lt MOST_MESSAGE_BYTES (size (raw_of (sent_view m)))) [
  | inl lt ↦ absurd (short lt)
  | inr le ↦ le
]

call_of : (events : Bool) (x : StoredEnd) (m : Record) → acquainted events (end_in x).sent (end_in x).taken m.target ≡ Some (record { id = m.target; interface = Known m.interface; version = m.version }) →
    HasId (new_of events (sent_view m)) x.backend.table → (IsTooLong m → ⊥) → (s : IsSendable events x.backend.table.next_own (sent_view m)) → IsCallOf events (end_in x) (sent_view m) s.row
call_of events x m met has short s = record {
  call = record { row = s.is_row; kinds = s.kinds; target = s.target; opcode = s.opcode; short = short_of m short };
  target = met;
  next = s.fresh;
  left = has;
}

-- two ends stay joined where the first was asked for a message
pub call_joined : (result : Result (Option ObjectView) SendError) (events : Bool) (x z : StoredEnd) (y : End) (to_y to_x : Piece) (m : Record) →
    acquainted events (end_in x).sent (end_in x).taken m.target ≡ Some (record { id = m.target; interface = Known m.interface; version = m.version }) →
    Sends events m result x z → OnOk result (IsSendable events x.backend.table.next_own (sent_view m)) → Joined events (end_in x) y to_y to_x → Joined events (end_in z) y to_y to_x
call_joined (Ok o) events x z y to_y to_x m met h sends j =
    subst (λ (s : StoredEnd). Joined events (end_in s) y to_y to_x) (sym h.2) (call events (sent_view m) sends.row (end_in x) y to_y to_x j (call_of events x m met h.0 h.1 sends))
call_joined (Err send_error.IdsExhausted) events x z y to_y to_x m met h sends j = subst (λ (s : StoredEnd). Joined events (end_in s) y to_y to_x) (sym h.1) j
call_joined (Err send_error.MessageTooLong) events x z y to_y to_x m met h sends j = subst (λ (s : StoredEnd). Joined events (end_in s) y to_y to_x) (sym h.2) j
call_joined (Err send_error.NoMemory) events x z y to_y to_x m met h sends j = subst (λ (s : StoredEnd). Joined events (end_in s) y to_y to_x) (sym h) j

-- the ends of a world are a client and a server
client_is : (w : WorldView) → w.spent ≡ false → IsWorld w → w.client.backend.table.client ≡ true
client_is w whole kept = (kept.joined whole).tied.back.objects.client_is

server_is : (w : WorldView) → w.spent ≡ false → IsWorld w → w.server.backend.table.client ≡ false
server_is w whole kept = (kept.joined whole).tied.there.objects.client_is

pub client_calls : (result : Result (Option ObjectView) SendError) (w : WorldView) (x : StoredEnd) (m : Record) → w.spent ≡ false → IsWorld w → Sends false m result w.client x → Calls side.Client m result w (world x w.server w.to_client w.to_server w.spent)
client_calls (Ok o) w x m whole kept h = (h.0, h.1, ap (λ (s : StoredEnd). world s w.server w.to_client w.to_server w.spent) h.2, h.3 ∙ ap (λ (b : Bool). seen_by b (new_of false (sent_view m))) (client_is w whole kept))
client_calls (Err send_error.IdsExhausted) w x m whole kept h = (h.0, ap (λ (s : StoredEnd). world s w.server w.to_client w.to_server w.spent) h.1)
client_calls (Err send_error.MessageTooLong) w x m whole kept h = (h.0, h.1, ap (λ (s : StoredEnd). world s w.server w.to_client w.to_server w.spent) h.2)
client_calls (Err send_error.NoMemory) w x m whole kept h = ap (λ (s : StoredEnd). world s w.server w.to_client w.to_server w.spent) h

pub server_calls : (result : Result (Option ObjectView) SendError) (w : WorldView) (x : StoredEnd) (m : Record) → w.spent ≡ false → IsWorld w → Sends true m result w.server x → Calls side.Server m result w (world w.client x w.to_client w.to_server w.spent)
server_calls (Ok o) w x m whole kept h = (h.0, h.1, ap (λ (s : StoredEnd). world w.client s w.to_client w.to_server w.spent) h.2, h.3 ∙ ap (λ (b : Bool). seen_by b (new_of true (sent_view m))) (server_is w whole kept))
server_calls (Err send_error.IdsExhausted) w x m whole kept h = (h.0, ap (λ (s : StoredEnd). world w.client s w.to_client w.to_server w.spent) h.1)
server_calls (Err send_error.MessageTooLong) w x m whole kept h = (h.0, h.1, ap (λ (s : StoredEnd). world w.client s w.to_client w.to_server w.spent) h.2)
server_calls (Err send_error.NoMemory) w x m whole kept h = ap (λ (s : StoredEnd). world w.client s w.to_client w.to_server w.spent) h

-- ---- a flush

pub flush_joined : {T E : Type 0} (result : Result T E) (events : Bool) (x z : StoredEnd) (y : End) (to_y to_x left : Piece) →
    OnOk result (z ≡ flushed_end x) → OnOk result (left ≡ behind to_y (unsent_of x.backend)) → OnErr result (z ≡ x) → OnErr result (left ≡ to_y) → Joined events (end_in x) y to_y to_x → Joined events (end_in z) y left to_x
flush_joined (Ok t) events x z y to_y to_x left ok link err link_err j =
    subst (λ (p : Piece). Joined events (end_in z) y p to_x) (sym link)
    (subst (λ (s : StoredEnd). Joined events (end_in s) y (behind to_y (unsent_of x.backend)) to_x) (sym ok) (flush events (end_in x) y to_y to_x j))
flush_joined (Err e) events x z y to_y to_x left ok link err link_err j =
    subst (λ (p : Piece). Joined events (end_in z) y p to_x) (sym link_err) (subst (λ (s : StoredEnd). Joined events (end_in s) y to_y to_x) (sym err) j)

-- ---- what a delivery did to the world

both_client : (w : WorldView) (x y : StoredEnd) (p q : Piece) → x ≡ y → p ≡ q → world x w.server p w.to_server w.spent ≡ world y w.server q w.to_server w.spent
both_client w x y p q e f = ap (λ (s : StoredEnd). world s w.server p w.to_server w.spent) e ∙ ap (λ (l : Piece). world y w.server l w.to_server w.spent) f

both_server : (w : WorldView) (x y : StoredEnd) (p q : Piece) → x ≡ y → p ≡ q → world w.client x w.to_client p w.spent ≡ world w.client y w.to_client q w.spent
both_server w x y p q e f = ap (λ (s : StoredEnd). world w.client s w.to_client p w.spent) e ∙ ap (λ (l : Piece). world w.client y w.to_client l w.spent) f

pub client_delivers : (n : ℕ) (result : Result ℕ ReadError) (w : WorldView) (x : StoredEnd) (left : Piece) → Delivers n result w.client w.to_client x left → DeliversAt side.Client n result w (world x w.server left w.to_server w.spent)
client_delivers n (Ok k) w x left h = (h.0, h.1, h.2, both_client w x _ left _ h.3 h.4)
client_delivers n (Err read_error.UnexpectedEof) w x left h = (h.0, both_client w x w.client left w.to_client h.1 h.2)
client_delivers n (Err read_error.HandleLimit) w x left h = (h.0, h.1, both_client w x (limited_end w.client) left (left_over n w.to_client) h.2 h.3)
client_delivers n (Err read_error.NoMemory) w x left h = (h.0, both_client w x w.client left w.to_client h.1 h.2)
client_delivers n (Err read_error.ReadFault) w x left h = h

pub server_delivers : (n : ℕ) (result : Result ℕ ReadError) (w : WorldView) (x : StoredEnd) (left : Piece) → Delivers n result w.server w.to_server x left → DeliversAt side.Server n result w (world w.client x w.to_client left w.spent)
server_delivers n (Ok k) w x left h = (h.0, h.1, h.2, both_server w x _ left _ h.3 h.4)
server_delivers n (Err read_error.UnexpectedEof) w x left h = (h.0, both_server w x w.server left w.to_server h.1 h.2)
server_delivers n (Err read_error.HandleLimit) w x left h = (h.0, h.1, both_server w x (limited_end w.server) left (left_over n w.to_server) h.2 h.3)
server_delivers n (Err read_error.NoMemory) w x left h = (h.0, both_server w x w.server left w.to_server h.1 h.2)
server_delivers n (Err read_error.ReadFault) w x left h = h

-- two new ends
pub new_kept : (c s : StoredEnd) (p q : Piece) → c ≡ new_stored true → s ≡ new_stored false → p ≡ no_piece → q ≡ no_piece → IsWorld (world c s p q false)
new_kept c s p q ce se pe qe =
    subst (λ (x : StoredEnd). IsWorld (world x s p q false)) (sym ce)
    (subst (λ (y : StoredEnd). IsWorld (world (new_stored true) y p q false)) (sym se)
    (subst (λ (l : Piece). IsWorld (world (new_stored true) (new_stored false) l q false)) (sym pe)
    (subst (λ (l : Piece). IsWorld (world (new_stored true) (new_stored false) no_piece l false)) (sym qe)
    (world_of (new_stored true) (new_stored false) no_piece no_piece false (begins false)))))

pub new_ends_kept : {S : Type 0} (seen : S → BackendView) (client : BackendView) (server : S) (e : EndsView S) → client ≡ (new_stored true).backend → seen server ≡ (new_stored false).backend → IsNewEnds client server e → IsWorld (world_in seen e)
new_ends_kept {S} seen client server e ce se is =
    let end : BackendView → StoredEnd = λ b. record { backend = b; sent = []; taken = [] } in
    subst (λ (v : EndsView S). IsWorld (world_in seen v)) (sym is) (new_kept (end client) (end (seen server)) no_piece no_piece (ap end ce) (ap end se) refl refl)

-- a spent world keeps what holds of the lists
pub spent_kept : (w : WorldView) (c s : StoredEnd) (p q : Piece) → c.sent ≡ w.client.sent → c.taken ≡ w.client.taken → s.sent ≡ w.server.sent → s.taken ≡ w.server.taken → IsWorld w → IsWorld (world c s p q true)
spent_kept w c s p q a b d e kept =
    let ca = sym (ap (map sent_view) a) in
    let cb = sym (ap (map got_view) b) in
    let sa = sym (ap (map sent_view) d) in
    let sb = sym (ap (map got_view) e) in
    record {
      joined = λ f. absurd cc;
      server_agrees = same_prefix false (end_in w.server).sent (end_in s).sent (end_in w.client).sent (end_in c).sent (end_in w.server).taken (end_in s).taken sa ca sb kept.server_agrees;
      client_agrees = same_prefix true (end_in w.client).sent (end_in c).sent (end_in w.server).sent (end_in s).sent (end_in w.client).taken (end_in c).taken ca sa cb kept.client_agrees;
    }
