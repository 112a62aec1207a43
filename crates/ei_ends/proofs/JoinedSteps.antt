-- The laws of two ends that are joined.
use Rattle.ei_backend.specs.Table.{found}
use Rattle.ei_spec.specs.declared.handle.Handle.{Handle}
use Rattle.std.proofs.lemmas.List.{take-append-drop, length-take, length-drop}
use Rattle.std.proofs.lemmas.Bool.{cases_lt}
use Rattle.std.specs.Prelude.{if◌then◌else◌}
use Rattle.std.proofs.Common.{◌≡◌, ℕ, ◌+◌, ◌≤◌, Bool, true, false, inl, inr, List, [], ◌++◌, length, Some, None, refl, sym, ap, subst, ◌∙◌, arith, append_assoc}
use Rattle.std.proofs.Common.{append-nil, map, ◌∷◌, ◌⊎◌, take, drop}
use Rattle.ei_spec.specs.declared.interface.KnownInterface.{KnownInterface}
use Rattle.ei_spec.specs.Value.{Kind, Value}
use Rattle.ei_spec.specs.Reading.{Fault}
use Rattle.ei_spec.specs.Interface.{Known, ObjectView, Interface, named}
use Rattle.ei_spec.specs.Rows.{Row, Announces, Nothing, Fixed, Named, version_of, name_in}
use Rattle.ei_spec.specs.Piece.{Piece}
use Rattle.ei_spec.specs.Message.{all_bytes}
use Rattle.ei_backend.specs.Backend.{BackendView, FrontAnswer, Waits, Refused, Gone, Message, next, unsent_of, after_row, with_announced, with_object}
use Rattle.ei_backend.specs.Backend.{without_target, sent, sent_new, removed}
use Rattle.ei_ends.specs.Sent.{other, Sent, Got, Took, Missed, New, new_by, new_in, new_of, row_of, destroys, ends_target, bytes_in, handles_in, raw_of}
use Rattle.ei_ends.specs.Announced.{next_own}
use Rattle.ei_ends.specs.Agree.{oldest, handles_sent, KeepsHandles, AllEqual, handles_got, AreTimes}
use Rattle.ei_ends.specs.Way.{HasNextId, MaySend, End, Cut, Tied, alive}
use Rattle.ei_ends.specs.Steps.{behind, no_piece, table_after, table_with, called, after_call, flushed, delivered, closed_end, with_taken, ringed, roomy}
use Rattle.ei_ends.specs.Steps.{IsPiece, stored, after_calls, with_sent, having_read, having_answered, after_read, handed, left_over}
use Rattle.ei_ends.specs.Joined.{new_end, Joined, AllDelivered, IsCallOf, AgreeSoFar, AreCalls, ArePlain}
use Rattle.ei_ends.proofs.ReadsNext.{Misses, Takes, cut_shorter}
use Rattle.ei_ends.proofs.Begins.{start}
use Rattle.ei_ends.proofs.Turned.{swap}
use Rattle.ei_ends.proofs.EqualHandles.{no_limit, equal_until, nothing}
use Rattle.ei_ends.proofs.NothingLeft.{all_taken, pair_first, pair_second}
use Rattle.ei_ends.proofs.Keeping.{call_step, flush_step, deliver_step, close_step}
use Rattle.ei_ends.proofs.Agreeing.{twice, agree_length}
use Rattle.ei_ends.proofs.Reading.{reads}
use Rattle.ei_ends.proofs.Knowing.{knows, oldest_onto, onto_length}

pub begins : (events : Bool) → Joined events (new_end (other events)) (new_end events) no_piece no_piece
begins events = record { there = _; back = _; tied = start events }

pub turned : (events : Bool) (x y : End) (to_y to_x : Piece) → Joined events x y to_y to_x → Joined (other events) y x to_x to_y
turned events x y to_y to_x j = record { there = j.back; back = j.there; tied = swap events x y to_y to_x j.there j.back j.tied }

-- ---- the steps

may_send : (events : Bool) (x y : End) (to_y to_x : Piece) (cx cy : Cut) (m : Sent) (r : Row) → Tied events x y to_y to_x cx cy → IsCallOf events x m r → MaySend events x.sent cy.past m
may_send events x y to_y to_x cx cy m r h c = record {
  row = r;
  call = c.call;
  knows = knows events x y to_y to_x cx cy m.target _ h c.target;
  fresh = subst (λ n. HasNextId n (new_of events m)) (h.back.objects.next ∙ ap (λ b. next_own b x.sent) (twice events)) c.next;
}

pub call : (events : Bool) (m : Sent) (r : Row) (x y : End) (to_y to_x : Piece) → Joined events x y to_y to_x → IsCallOf events x m r → Joined events (after_call events m x) y to_y to_x
call events m r x y to_y to_x j c = record { there = _; back = _; tied = call_step events m x y to_y to_x j.there j.back j.tied (may_send events x y to_y to_x j.there j.back m r j.tied c) c.left }

pub flush : (events : Bool) (x y : End) (to_y to_x : Piece) → Joined events x y to_y to_x → Joined events (flushed x) y (behind to_y (unsent_of x.backend)) to_x
flush events x y to_y to_x j = record { there = _; back = _; tied = flush_step events x y to_y to_x j.there j.back j.tied }

pub deliver : (events : Bool) (x y : End) (to_y to_x p left : Piece) → Joined events x y to_y to_x → y.backend.closed ≡ false → IsPiece p left to_y → Joined events x (delivered p y) left to_x
deliver events x y to_y to_x p left j opened is = record { there = _; back = _; tied = deliver_step events x y to_y to_x p left j.there j.back j.tied opened is }

pub close : (events : Bool) (x y : End) (to_y to_x left : Piece) → Joined events x y to_y to_x → Joined events x (closed_end y) left to_x
close events x y to_y to_x left j = record { there = _; back = _; tied = close_step events x y to_y to_x left j.there j.back j.tied }

-- ---- what is read

miss_is : (events : Bool) (x y : End) (to_y to_x : Piece) (cx cy : Cut) (id : ℕ) (b : BackendView) → Misses events x y to_y to_x cx cy → next events y.backend ≡ (Gone id, b) → Joined events x (with_taken b (Missed id (length y.sent)) y) to_y to_x
miss_is events x y to_y to_x cx cy id b miss e =
    let both : ◌≡◌ {A = FrontAnswer × BackendView} (Gone miss.message.target, miss.after) (Gone id, b) = sym miss.next_is ∙ e in
    let same : miss.message.target ≡ id = let g = pair_first (Gone miss.message.target) (Gone id) miss.after b both in cc in
    let after : miss.after ≡ b = pair_second (Gone miss.message.target) (Gone id) miss.after b both in
    subst (λ (i : ℕ). Joined events x (with_taken b (Missed i (length y.sent)) y) to_y to_x) same
    (subst (λ (a : BackendView). Joined events x (with_taken a (Missed miss.message.target (length y.sent)) y) to_y to_x) after
    (record { there = cut_shorter miss.message miss.flight cx; back = cy; tied = miss.tied }))

take_is : (events : Bool) (x y : End) (to_y to_x : Piece) (cx cy : Cut) (target : ObjectView) (interface : KnownInterface) (opcode : ℕ) (values : List Value) (b : BackendView) → Takes events x y to_y to_x cx cy → next events y.backend ≡ (Message target opcode values, b) → target.interface ≡ Known interface →
    Joined events x (with_taken b (Took (stored target interface opcode values) (length y.sent)) y) to_y to_x
take_is events x y to_y to_x cx cy target interface opcode values b take e known =
    let both : ◌≡◌ {A = FrontAnswer × BackendView} (Message take.target take.read.opcode take.read.values, take.after) (Message target opcode values, b) = sym take.next_is ∙ e in
    let m = pair_first (Message take.target take.read.opcode take.read.values) (Message target opcode values) take.after b both in
    let after : take.after ≡ b = pair_second (Message take.target take.read.opcode take.read.values) (Message target opcode values) take.after b both in
    let target_same : take.target ≡ target = cc in
    let opcode_same : take.read.opcode ≡ opcode = cc in
    let values_same : take.read.values ≡ values = cc in
    let object = sym target_same ∙ take.target_is in
    let interface_same : interface ≡ take.read.interface = let k : Known interface ≡ Known take.read.interface = sym known ∙ ap (λ (o : ObjectView). o.interface) object in cc in
    let read : take.read ≡ stored target interface opcode values = rw (object, sym opcode_same, sym values_same, interface_same) refl in
    subst (λ (s : Sent). Joined events x (with_taken b (Took s (length y.sent)) y) to_y to_x) read
    (subst (λ (a : BackendView). Joined events x (with_taken a (Took take.read (length y.sent)) y) to_y to_x) after
    (record { there = cut_shorter take.message take.flight cx; back = cy; tied = take.tied }))

pub reads_gone : (events : Bool) (x y : End) (to_y to_x : Piece) (id : ℕ) (b : BackendView) → Joined events x y to_y to_x → next events y.backend ≡ (Gone id, b) → Joined events x (with_taken b (Missed id (length y.sent)) y) to_y to_x
reads_gone events x y to_y to_x id b j e = elim (reads events x y to_y to_x j.there j.back j.tied) [
  | inl w ↦ let f = pair_first Waits (Gone id) y.backend b (sym w ∙ e) in cc
  | inr m ↦ elim m [
    | inl miss ↦ miss_is events x y to_y to_x j.there j.back id b miss e
    | inr take ↦ let f = pair_first (Message take.target take.read.opcode take.read.values) (Gone id) take.after b (sym take.next_is ∙ e) in cc
  ]
]

pub reads_message : (events : Bool) (x y : End) (to_y to_x : Piece) (target : ObjectView) (interface : KnownInterface) (opcode : ℕ) (values : List Value) (b : BackendView) → Joined events x y to_y to_x → next events y.backend ≡ (Message target opcode values, b) → target.interface ≡ Known interface →
    Joined events x (with_taken b (Took (stored target interface opcode values) (length y.sent)) y) to_y to_x
reads_message events x y to_y to_x target interface opcode values b j e known = elim (reads events x y to_y to_x j.there j.back j.tied) [
  | inl w ↦ let f = pair_first Waits (Message target opcode values) y.backend b (sym w ∙ e) in cc
  | inr m ↦ elim m [
    | inl miss ↦ let f = pair_first (Gone miss.message.target) (Message target opcode values) miss.after b (sym miss.next_is ∙ e) in cc
    | inr take ↦ take_is events x y to_y to_x j.there j.back target interface opcode values b take e known
  ]
]

pub reads_nothing : (events : Bool) (x y : End) (to_y to_x : Piece) (b : BackendView) → Joined events x y to_y to_x → next events y.backend ≡ (Waits, b) → b ≡ y.backend
reads_nothing events x y to_y to_x b j e = elim (reads events x y to_y to_x j.there j.back j.tied) [
  | inl w ↦ pair_second Waits Waits b y.backend (sym e ∙ w)
  | inr m ↦ elim m [
    | inl miss ↦ let f = pair_first (Gone miss.message.target) Waits miss.after b (sym miss.next_is ∙ e) in cc
    | inr take ↦ let f = pair_first (Message take.target take.read.opcode take.read.values) Waits take.after b (sym take.next_is ∙ e) in cc
  ]
]

-- there is never a parse error
pub never_refused : (events : Bool) (x y : End) (to_y to_x : Piece) (f : Fault) (b : BackendView) → Joined events x y to_y to_x → next events y.backend ≡ (Refused f, b) → ⊥
never_refused events x y to_y to_x f b j e = elim (reads events x y to_y to_x j.there j.back j.tied) [
  | inl w ↦ let g = pair_first Waits (Refused f) y.backend b (sym w ∙ e) in cc
  | inr m ↦ elim m [
    | inl miss ↦ let g = pair_first (Gone miss.message.target) (Refused f) miss.after b (sym miss.next_is ∙ e) in cc
    | inr take ↦ let g = pair_first (Message take.target take.read.opcode take.read.values) (Refused f) take.after b (sym take.next_is ∙ e) in cc
  ]
]

-- the next message is taken, if there is one
pub same_answer : (events : Bool) (y : End) (a : FrontAnswer) (b : BackendView) → next events y.backend ≡ (a, b) → after_read events y ≡ having_answered a b y
unfolding after_read
same_answer events y a b e = rw e refl

pub same_read : (target : ObjectView) (interface : Interface) (k : KnownInterface) (opcode : ℕ) (values : List Value) (b : BackendView) (y : End) → interface ≡ Known k → having_read target interface opcode values b y ≡ with_taken b (Took (stored target k opcode values) (length y.sent)) y
same_read target interface k opcode values b y e = rw e refl

take_read : (events : Bool) (x y : End) (to_y to_x : Piece) (cx cy : Cut) → Takes events x y to_y to_x cx cy → Joined events x (after_read events y) to_y to_x
take_read events x y to_y to_x cx cy take =
    let is : take.target.interface ≡ Known take.read.interface = ap (λ (o : ObjectView). o.interface) take.target_is in
    let read = take_is events x y to_y to_x cx cy take.target take.read.interface take.read.opcode take.read.values take.after take take.next_is is in
    let same = same_answer events y (Message take.target take.read.opcode take.read.values) take.after take.next_is ∙ same_read take.target take.target.interface take.read.interface take.read.opcode take.read.values take.after y is in
    subst (λ (z : End). Joined events x z to_y to_x) (sym same) read

pub read_next : (events : Bool) (x y : End) (to_y to_x : Piece) → Joined events x y to_y to_x → Joined events x (after_read events y) to_y to_x
read_next events x y to_y to_x j = elim (reads events x y to_y to_x j.there j.back j.tied) [
  | inl w ↦ subst (λ (z : End). Joined events x z to_y to_x) (sym (same_answer events y Waits y.backend w)) j
  | inr m ↦ elim m [
    | inl miss ↦ subst (λ (z : End). Joined events x z to_y to_x) (sym (same_answer events y (Gone miss.message.target) miss.after miss.next_is)) (miss_is events x y to_y to_x j.there j.back miss.message.target miss.after miss miss.next_is)
    | inr take ↦ take_read events x y to_y to_x j.there j.back take
  ]
]

-- ---- what follows

-- what was taken is the oldest of what was sent
pub past_is : (events : Bool) (x y : End) (to_y to_x : Piece) (j : Joined events x y to_y to_x) → oldest (length y.taken) x.sent ≡ j.there.past
past_is events x y to_y to_x j =
    let way = j.tied.there in
    ap (λ n. oldest n x.sent) (agree_length events y.sent j.there.past y.taken way.agree) ∙ ap (λ s. oldest (length j.there.past) s) way.sent_is ∙ oldest_onto j.there.flight j.there.past

pub agrees : (events : Bool) (x y : End) (to_y to_x : Piece) → Joined events x y to_y to_x → AgreeSoFar events x y
agrees events x y to_y to_x j =
    let way = j.tied.there in
    let l = agree_length events y.sent j.there.past y.taken way.agree in
    let past = past_is events x y to_y to_x j in
    (omega (arith, l, ap length way.sent_is, onto_length j.there.flight j.there.past), rw past way.agree)

pub all_of_it : (events : Bool) (x y : End) (to_y to_x : Piece) → Joined events x y to_y to_x → AllDelivered x y to_y → next events y.backend ≡ (Waits, y.backend) → length y.taken ≡ length x.sent
all_of_it events x y to_y to_x j all w = all_taken events x y to_y to_x j.there j.back j.tied all.opened all.none all.unsent w

pub few_handles : (events : Bool) (x y : End) (to_y to_x p left : Piece) → Joined events x y to_y to_x → y.backend.closed ≡ false → IsPiece p left to_y → length (handles_sent x.sent) ≤ 4096 → length y.backend.handles + length p.handles ≤ 4096
few_handles events x y to_y to_x p left j opened is few = no_limit events x y to_y to_x p left j.there j.back j.tied opened is few

-- when it was taken
pub times_are : (events : Bool) (x y : End) (to_y to_x : Piece) → Joined events x y to_y to_x → AreTimes (length y.sent) y.taken
times_are events x y to_y to_x j = j.tied.there.times

-- the handles that were taken are the first that were sent
pub handles_in_order : (events : Bool) (x y : End) (to_y to_x : Piece) → Joined events x y to_y to_x → (rest : List Handle) × (handles_sent x.sent ≡ handles_got y.taken ++ rest)
handles_in_order events x y to_y to_x j = (y.backend.handles ++ j.there.rest.handles, sym j.tied.there.flows.handles)

-- the objects of an end
pub objects_are : (events : Bool) (x y : End) (to_y to_x : Piece) (id : ℕ) → Joined events x y to_y to_x → found y.backend.table id ≡ alive events y.sent (oldest (length y.taken) x.sent) y.taken id
objects_are events x y to_y to_x id j = rw (past_is events x y to_y to_x j) (j.tied.there.objects.objects id)

pub next_id_is : (events : Bool) (x y : End) (to_y to_x : Piece) → Joined events x y to_y to_x → x.backend.table.next_own ≡ next_own events x.sent
next_id_is events x y to_y to_x j = j.tied.back.objects.next ∙ ap (λ b. next_own b x.sent) (twice events)

-- ---- what a delivery hands over

first_many : {A : Type 0} (n : ℕ) (l : List A) → (length (take n l) ≡ n) ⊎ (drop n l ≡ [])
first_many n l = elim (cases_lt (length l) n) [
  | inl lt ↦ inr (nothing (drop n l) (omega (arith, lt, length-drop n l)))
  | inr le ↦ inl (omega (arith, le, length-take n l))
]

pub handed_is : (n : ℕ) (link : Piece) → n ≤ 1536 → IsPiece (handed n link) (left_over n link) link
handed_is n link le = record {
  bytes = sym (take-append-drop n link.bytes);
  handles = sym (take-append-drop 64 link.handles);
  most = omega (arith, le, length-take n link.bytes);
  enough = first_many 64 link.handles;
}

-- ---- a call of a proxy

-- the endpoint with what a row announces is the one with the new object
announced_at : (a : Announces) (kinds : List Kind) (values : List Value) (b : BackendView) → with_announced a values b ≡ record b { table = table_with (new_by a kinds values) b.table }
unfolding table_with
announced_at Nothing kinds values b = refl
announced_at (Fixed k) kinds values b = refl
announced_at Named kinds values b = refl

-- the endpoint without the target that a row destroys
destroyed_at : (d : Bool) (r : Row) (target : ObjectView) (b : BackendView) → r.destroys ≡ d → without_target r target b ≡ record b { table = table_after d target.id b.table }
unfolding table_after
destroyed_at true r target b e = rw e refl
destroyed_at false r target b e = rw e refl

pub row_called : (events : Bool) (m : Sent) (r : Row) (target : ObjectView) (b : BackendView) → row_of events m ≡ Some r → target.id ≡ m.target → after_row (Some (m.opcode, r)) target m.values b ≡ called events m b
unfolding bytes_in
row_called events m r target b row t =
    let d : destroys events m ≡ r.destroys = ap ends_target row in
    let n : new_of events m ≡ new_by r.announces r.kinds m.values = ap (λ o. new_in o m.values) row in
    let before = sent b target.id m.opcode m.values in
    destroyed_at r.destroys r target (with_announced r.announces m.values before) refl
    ∙ ap (λ (x : BackendView). record x { table = table_after r.destroys target.id x.table }) (announced_at r.announces r.kinds m.values before)
    ∙ rw (d, n, t) refl

-- ---- a call by the kind of its row

-- some object with that id
abbrev target_of : Sent → ObjectView
target_of m = record { id = m.target; interface = Known m.interface; version = m.version; client_side = true }

row_by : (d : Bool) (m : Sent) (r : Row) (b : BackendView) → r.announces ≡ Nothing → r.destroys ≡ d → after_row (Some (m.opcode, r)) (target_of m) m.values b ≡ (if d then removed (sent b m.target m.opcode m.values) m.target else sent b m.target m.opcode m.values)
row_by d m r b none e = rw (none, e) refl

-- the endpoint with what is announced has that object
new_is : (a : Announces) (kinds : List Kind) (values : List Value) (n : New) (b : BackendView) → new_by a kinds values ≡ Some n → with_announced a values b ≡ with_object b n.interface n.version
new_is Nothing kinds values n b e = absurd cc
new_is (Fixed k) kinds values n b e =
    let i : Known k ≡ n.interface = cc in
    let v : version_of values ≡ n.version = cc in
    rw (i, v) refl
new_is Named kinds values n b e =
    let i : named (name_in values) ≡ n.interface = cc in
    let v : version_of values ≡ n.version = cc in
    rw (i, v) refl

new_by_row : (d : Bool) (events : Bool) (m : Sent) (r : Row) (n : New) (b : BackendView) → row_of events m ≡ Some r → new_of events m ≡ Some n → r.destroys ≡ d →
    after_row (Some (m.opcode, r)) (target_of m) m.values b ≡ (if d then removed (sent_new b m.target m.opcode m.values n.interface n.version) m.target else sent_new b m.target m.opcode m.values n.interface n.version)
new_by_row d events m r n b row new e =
    let made : new_by r.announces r.kinds m.values ≡ Some n = sym (ap (λ o. new_in o m.values) row) ∙ new in
    rw (new_is r.announces r.kinds m.values n (sent b m.target m.opcode m.values) made, e) refl

call_row : (d events : Bool) (m : Sent) (r : Row) (x y : End) (to_y to_x : Piece) → Joined events x y to_y to_x → IsCallOf events x m r → r.announces ≡ Nothing → r.destroys ≡ d →
    Joined events (with_sent (if d then removed (sent x.backend m.target m.opcode m.values) m.target else sent x.backend m.target m.opcode m.values) m x) y to_y to_x
call_row d events m r x y to_y to_x j c none e =
    let same = sym (row_called events m r (target_of m) x.backend c.call.row refl) ∙ row_by d m r x.backend none e in
    subst (λ (b : BackendView). Joined events (with_sent b m x) y to_y to_x) same (call events m r x y to_y to_x j c)

call_new : (d events : Bool) (m : Sent) (r : Row) (n : New) (x y : End) (to_y to_x : Piece) → Joined events x y to_y to_x → IsCallOf events x m r → new_of events m ≡ Some n → r.destroys ≡ d →
    Joined events (with_sent (if d then removed (sent_new x.backend m.target m.opcode m.values n.interface n.version) m.target else sent_new x.backend m.target m.opcode m.values n.interface n.version) m x) y to_y to_x
call_new d events m r n x y to_y to_x j c new e =
    let same = sym (row_called events m r (target_of m) x.backend c.call.row refl) ∙ new_by_row d events m r n x.backend c.call.row new e in
    subst (λ (b : BackendView). Joined events (with_sent b m x) y to_y to_x) same (call events m r x y to_y to_x j c)

pub call_ordinary : (events : Bool) (m : Sent) (r : Row) (x y : End) (to_y to_x : Piece) → Joined events x y to_y to_x → IsCallOf events x m r → r.announces ≡ Nothing → r.destroys ≡ false →
    Joined events (with_sent (sent x.backend m.target m.opcode m.values) m x) y to_y to_x
call_ordinary events m r x y to_y to_x j c none e = call_row false events m r x y to_y to_x j c none e

pub call_destructor : (events : Bool) (m : Sent) (r : Row) (x y : End) (to_y to_x : Piece) → Joined events x y to_y to_x → IsCallOf events x m r → r.announces ≡ Nothing → r.destroys ≡ true →
    Joined events (with_sent (removed (sent x.backend m.target m.opcode m.values) m.target) m x) y to_y to_x
call_destructor events m r x y to_y to_x j c none e = call_row true events m r x y to_y to_x j c none e

pub call_announcing : (events : Bool) (m : Sent) (r : Row) (n : New) (x y : End) (to_y to_x : Piece) → Joined events x y to_y to_x → IsCallOf events x m r → new_of events m ≡ Some n → r.destroys ≡ false →
    Joined events (with_sent (sent_new x.backend m.target m.opcode m.values n.interface n.version) m x) y to_y to_x
call_announcing events m r n x y to_y to_x j c new e = call_new false events m r n x y to_y to_x j c new e

pub call_handing_over : (events : Bool) (m : Sent) (r : Row) (n : New) (x y : End) (to_y to_x : Piece) → Joined events x y to_y to_x → IsCallOf events x m r → new_of events m ≡ Some n → r.destroys ≡ true →
    Joined events (with_sent (removed (sent_new x.backend m.target m.opcode m.values n.interface n.version) m.target) m x) y to_y to_x
call_handing_over events m r n x y to_y to_x j c new e = call_new true events m r n x y to_y to_x j c new e

-- what was taken up to a place before which no message with a handle was dropped
pub equal : (events : Bool) (x y : End) (to_y to_x : Piece) (a b : List Sent) (c d : List Got) → Joined events x y to_y to_x → oldest (length y.taken) x.sent ≡ a ++ b → y.taken ≡ c ++ d → length a ≡ length c → KeepsHandles b d → AllEqual b d
equal events x y to_y to_x a b c d j is was same k =
    let past = past_is events x y to_y to_x j in
    equal_until events x y to_y to_x j.there j.back a b c d j.tied (sym past ∙ is) was same k

-- ---- what two ends don't depend on

-- the bytes that the ring holds
pub ring : (events : Bool) (x y : End) (to_y to_x : Piece) (capacity : ℕ) → Joined events x y to_y to_x → Joined events x (ringed capacity y) to_y to_x
ring events x y to_y to_x capacity j =
    let h = j.tied in
    record {
      there = j.there;
      back = j.back;
      tied = record {
        there = record { sent_is = h.there.sent_is; agree = h.there.agree; times = h.there.times; flows = h.there.flows; objects = h.there.objects };
        back = record { sent_is = h.back.sent_is; agree = h.back.agree; times = h.back.times; flows = h.back.flows; objects = h.back.objects };
        says = h.says;
        answers = h.answers;
      };
    }

-- how much may wait
pub room : (events : Bool) (x y : End) (to_y to_x : Piece) (bytes handles objects : ℕ) → Joined events x y to_y to_x → Joined events x (roomy bytes handles objects y) to_y to_x
room events x y to_y to_x bytes handles objects j =
    let h = j.tied in
    let o = h.there.objects in
    record {
      there = j.there;
      back = j.back;
      tied = record {
        there = record { sent_is = h.there.sent_is; agree = h.there.agree; times = h.there.times; flows = h.there.flows; objects = record { client_is = o.client_is; objects = o.objects; next = o.next; ends = o.ends; peer = o.peer } };
        back = record { sent_is = h.back.sent_is; agree = h.back.agree; times = h.back.times; flows = h.back.flows; objects = h.back.objects };
        says = h.says;
        answers = h.answers;
      };
    }

-- ---- several messages in turn

pub calls_turn : (events : Bool) (ms : List Sent) (x y : End) (to_y to_x : Piece) → Joined events x y to_y to_x → AreCalls events ms x → Joined events (after_calls events ms x) y to_y to_x
calls_turn events [] x y to_y to_x j h = j
calls_turn events (m ∷ ms) x y to_y to_x j h = calls_turn events ms (after_call events m x) y to_y to_x (call events m h.0 x y to_y to_x j h.1) h.2

plain_called : (events : Bool) (m : Sent) (b : BackendView) → new_of events m ≡ None → destroys events m ≡ false → handles_in m ≡ [] → called events m b ≡ record b { unsent = b.unsent ++ bytes_in m }
unfolding table_after table_with
plain_called events m b new d none = rw (new, d, none, append-nil b.unsent_handles) refl

-- messages that are plain: their bytes alone are added
pub plain_all : (events : Bool) (ms : List Sent) (x : End) → ArePlain events ms → (after_calls events ms x).backend ≡ record x.backend { unsent = x.backend.unsent ++ all_bytes (map raw_of ms) }
unfolding bytes_in
plain_all events [] x h = ap (λ (u : List ℕ). let b : BackendView = record x.backend { unsent = u } in b) (sym (append-nil x.backend.unsent))
plain_all events (m ∷ ms) x h =
    let one = plain_called events m x.backend h.0 h.1 h.2 in
    plain_all events ms (after_call events m x) h.3
    ∙ ap (λ (b : BackendView). let c : BackendView = record b { unsent = b.unsent ++ all_bytes (map raw_of ms) } in c) one
    ∙ ap (λ (u : List ℕ). let c : BackendView = record x.backend { unsent = u } in c) (append_assoc x.backend.unsent (bytes_in m) (all_bytes (map raw_of ms)))
