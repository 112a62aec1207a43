-- The messages of a server's acts may be sent.
use Rattle.std.proofs.Common.{◌≡◌, ℕ, ◌+◌, ◌<◌, ◌≤◌, ◌^◌, Bool, true, false, cond, List, [], ◌∷◌, ◌++◌, Option, Some, None, refl, sym, ap, subst, ◌∙◌, append-nil, arith, lit≤}
use Rattle.std.specs.Prelude.{codes}
use Rattle.ei_spec.specs.declared.interface.KnownInterface.{KnownInterface}
use Rattle.ei_spec.specs.declared.interface.KnownInterface.TheVariants as known
use Rattle.ei_spec.specs.declared.limits.TheConstants.{MOST_MESSAGE_BYTES, FIRST_SERVER_ID}
use Rattle.ei_spec.specs.Arguments.{AreOf}
use Rattle.ei_spec.specs.Interface.{Known, ObjectView}
use Rattle.ei_spec.specs.Message.{size}
use Rattle.ei_spec.specs.Rows.{Row}
use Rattle.ei_spec.specs.Value.{Word, Long}
use Rattle.ei_backend.specs.Table.{TableView, own_limit, own_end}
use Rattle.ei_ends.specs.Sent.{Sent, Got, New, new_of, row_of, raw_of}
use Rattle.ei_ends.specs.Announced.{first, announced, next_own, counts}
use Rattle.ei_ends.specs.Way.{onto, HasNextId, End}
use Rattle.ei_ends.specs.Joined.{IsListedCall, AreListedCalls}
use Rattle.ei_ends.proofs.Known.{Rising, rising, announced_more, next_more, in_range, not_zero}
use Rattle.ei_request.specs.Connection.{ConnectionView, next_serial}
use Rattle.ei_acts.specs.Events as event
use Rattle.ei_acts.specs.Acts.{resumed, paused, start_emulating, stop_emulating, frame, invalid_object, destroyed_all, gone}
use Rattle.ei_acts.specs.Holding.{is_destroyed}
use Rattle.ei_acts.specs.There.{IsThere}
use Rattle.ei_acts.specs.Sendable.{Announces, AnnouncesIt, IsEndOf}
use Rattle.ei_acts.proofs.Steadying.{destroyed_is}

-- ---- messages of a row

-- a message of the row, with its arguments, which isn't too long
pub record Fine (m : Sent) (r : Row) : Type 0 where
  pub row : row_of true m ≡ Some r
  pub kinds : AreOf r.kinds m.values
  pub opcode : m.opcode < 2 ^ 32
  pub short : size (raw_of m) ≤ MOST_MESSAGE_BYTES

-- ids rose, and none is past the last one
pub record Rose (sent : List Sent) : Type 0 where
  pub rises : Rising true sent
  pub ends : next_own true sent ≤ own_limit false

-- the target was announced as what the message says
abbrev pub GoesTo : List Sent → Sent → Type 0
GoesTo sent m = announced true sent m.target ≡ Some (record { id = m.target; interface = Known m.interface; version = m.version })

own_is_not_first : (sent : List Sent) (id : ℕ) (n : New) → Rising true sent → announced true sent id ≡ Some n → (first id ≡ None) × (id < next_own true sent)
own_is_not_first sent id n h e = let r = in_range true sent id n h e in let low = r.low in (not_zero id (omega (arith, low)), r.high)

pub listed : (sent : List Sent) (taken : List Got) (m : Sent) (r : Row) → Rose sent → Fine m r → GoesTo sent m → HasNextId (next_own true sent) (new_of true m) → next_own true (m ∷ sent) ≤ own_limit false → IsListedCall true sent taken m r
listed sent taken m r h f to next left =
    let n : New = record { id = m.target; interface = Known m.interface; version = m.version } in
    let o = own_is_not_first sent m.target n h.rises to in
    let below = o.1 in let ends = h.ends in
    record {
      call = record { row = f.row; kinds = f.kinds; target = omega (arith, below, ends); opcode = f.opcode; short = f.short };
      target = rw (o.0, to) refl;
      next = next;
      left = left;
    }

pub rose_more : (sent : List Sent) (m : Sent) → Rose sent → HasNextId (next_own true sent) (new_of true m) → next_own true (m ∷ sent) ≤ own_limit false → Rose (m ∷ sent)
rose_more sent m h next left = record { rises = (next, h.rises); ends = left }

-- ---- messages that announce nothing, in turn

abbrev pub IsOrdinary : List Sent → Sent → Type 0
IsOrdinary sent m = (r : Row) × Fine m r × GoesTo sent m × (new_of true m ≡ None)

abbrev pub AreOrdinary : List Sent → List Sent → Type 0
AreOrdinary sent [] = Unit {0}
AreOrdinary sent (m ∷ ms) = IsOrdinary sent m × AreOrdinary sent ms

pub ordinary_more : (sent : List Sent) (n : Sent) (ms : List Sent) → AreOrdinary sent ms → AreOrdinary (n ∷ sent) ms
ordinary_more sent n [] h = tt
ordinary_more sent n (m ∷ ms) h = ((h.0.0, h.0.1, announced_more true n sent m.target _ h.0.2, h.0.3), ordinary_more sent n ms h.1)

pub ordinary_both : (sent ms more : List Sent) → AreOrdinary sent ms → AreOrdinary sent more → AreOrdinary sent (ms ++ more)
ordinary_both sent [] more h k = k
ordinary_both sent (m ∷ ms) more h k = (h.0, ordinary_both sent ms more h.1 k)

pub in_turn : (ms more sent : List Sent) (taken : List Got) → Rose sent → AreOrdinary sent ms → (Rose (onto ms sent) → AreListedCalls true more (onto ms sent) taken) → AreListedCalls true (ms ++ more) sent taken
in_turn [] more sent taken h are rest = rest h
in_turn (m ∷ ms) more sent taken h are rest =
    let none : HasNextId (next_own true sent) (new_of true m) = subst (HasNextId (next_own true sent)) (sym are.0.3) tt in
    let same : next_own true (m ∷ sent) ≡ next_own true sent + 0 = next_more true m sent ∙ ap (λ (o : Option New). next_own true sent + counts o) are.0.3 in
    let ends = h.ends in
    let left : next_own true (m ∷ sent) ≤ own_limit false = omega (arith, same, ends) in
    (are.0.0, listed sent taken m are.0.0 h are.0.1 are.0.2 none left, in_turn ms more (m ∷ sent) taken (rose_more sent m h none left) (ordinary_more sent m ms are.1) rest)

pub alone : (ms sent : List Sent) (taken : List Got) → Rose sent → AreOrdinary sent ms → AreListedCalls true ms sent taken
alone ms sent taken h are = subst (λ (l : List Sent). AreListedCalls true l sent taken) (append-nil ms) (in_turn ms [] sent taken h are (λ r. tt))

-- ---- an end of a connection

pub rose : (x : End) (c : ConnectionView) → IsEndOf x c → Rose x.sent
rose x c e =
    let t = e.joined.tied in
    let o = t.back.objects in
    let ends = o.ends in let next = o.next in
    let client : own_end x.backend.table ≡ own_limit false = ap (λ (b : Bool). cond b FIRST_SERVER_ID 18446744073709551615) o.client_is in
    record { rises = rising true x.sent e.joined.back.past t.says; ends = omega (arith, ends, next, client) }

-- ---- single events

next_small : (serial : ℕ) → next_serial serial < 2 ^ 32
next_small serial = omega arith

tell_fine : (v id serial : ℕ) → serial < 2 ^ 32 → ((r : Row) × Fine (event.to_device v id (codes "resumed") (Word serial ∷ [])) r) × ((r : Row) × Fine (event.to_device v id (codes "paused") (Word serial ∷ [])) r) × ((r : Row) × Fine (event.to_device v id (codes "stop_emulating") (Word serial ∷ [])) r)
unfolding row_of
tell_fine v id serial lt = (
  (_, record { row = refl; kinds = (lt, tt); opcode = omega arith; short = lit≤ tt }),
  (_, record { row = refl; kinds = (lt, tt); opcode = omega arith; short = lit≤ tt }),
  (_, record { row = refl; kinds = (lt, tt); opcode = omega arith; short = lit≤ tt }),
)

start_fine : (v id serial sequence : ℕ) → serial < 2 ^ 32 → sequence < 2 ^ 32 → (r : Row) × Fine (event.to_device v id (codes "start_emulating") (Word serial ∷ Word sequence ∷ [])) r
unfolding row_of
start_fine v id serial sequence lt s = (_, record { row = refl; kinds = (lt, (s, tt)); opcode = omega arith; short = lit≤ tt })

frame_fine : (v id serial time : ℕ) → serial < 2 ^ 32 → time < 2 ^ 64 → (r : Row) × Fine (event.to_device v id (codes "frame") (Word serial ∷ Long time ∷ [])) r
unfolding row_of
frame_fine v id serial time lt s = (_, record { row = refl; kinds = (lt, (s, tt)); opcode = omega arith; short = lit≤ tt })

module _ (x : End) (c : ConnectionView) (e : IsEndOf x c) (device : ObjectView) (d : AnnouncesIt x.sent known.Device device) where
  pub resumed_may : AreListedCalls true (resumed c device) x.sent x.taken
  unfolding row_of
  resumed_may = let f = (tell_fine device.version device.id (next_serial c.last_serial) (next_small c.last_serial)).0 in alone (resumed c device) x.sent x.taken (rose x c e) ((f.0, f.1, d, refl), tt)

  pub paused_may : AreListedCalls true (paused c device) x.sent x.taken
  unfolding row_of
  paused_may = let f = (tell_fine device.version device.id (next_serial c.last_serial) (next_small c.last_serial)).1 in alone (paused c device) x.sent x.taken (rose x c e) ((f.0, f.1, d, refl), tt)

  pub stop_may : AreListedCalls true (stop_emulating c device) x.sent x.taken
  unfolding row_of
  stop_may = let f = (tell_fine device.version device.id (next_serial c.last_serial) (next_small c.last_serial)).2 in alone (stop_emulating c device) x.sent x.taken (rose x c e) ((f.0, f.1, d, refl), tt)

  pub start_may : (sequence : ℕ) → sequence < 2 ^ 32 → AreListedCalls true (start_emulating c device sequence) x.sent x.taken
  unfolding row_of
  start_may sequence s = let f = start_fine device.version device.id (next_serial c.last_serial) sequence (next_small c.last_serial) s in alone (start_emulating c device sequence) x.sent x.taken (rose x c e) ((f.0, f.1, d, refl), tt)

  pub frame_may : (time : ℕ) → time < 2 ^ 64 → AreListedCalls true (frame c device time) x.sent x.taken
  unfolding row_of
  frame_may time s = let f = frame_fine device.version device.id (next_serial c.last_serial) time (next_small c.last_serial) s in alone (frame c device time) x.sent x.taken (rose x c e) ((f.0, f.1, d, refl), tt)

no_object_fine : (o : ObjectView) (serial id : ℕ) → serial < 2 ^ 32 → id < 2 ^ 64 → (r : Row) × Fine (event.no_object o serial id) r
unfolding row_of
no_object_fine o serial id lt s = (_, record { row = refl; kinds = (lt, (s, tt)); opcode = omega arith; short = lit≤ tt })

pub invalid_may : (x : End) (c : ConnectionView) → IsEndOf x c → AnnouncesIt x.sent known.Connection c.proxy → (id : ℕ) → c.last_serial < 2 ^ 32 → id < 2 ^ 64 → AreListedCalls true (invalid_object c id) x.sent x.taken
unfolding row_of
invalid_may x c e d id lt s = let f = no_object_fine c.proxy c.last_serial id lt s in alone (invalid_object c id) x.sent x.taken (rose x c e) ((f.0, f.1, d, refl), tt)

-- ---- objects go

-- each of these ids was announced as what the table says, and the table has it
abbrev pub AllAnnounced : TableView → List Sent → List ℕ → Type 0
AllAnnounced t sent [] = Unit {0}
AllAnnounced t sent (id ∷ ids) =
    ((interface : KnownInterface) × (is_destroyed interface ≡ true) × ((there : IsThere t id interface) × Announces sent id interface there.object.version))
    × AllAnnounced t sent ids

pub goes_fine : (k : KnownInterface) (v id serial : ℕ) → is_destroyed k ≡ true → serial < 2 ^ 32 → ((r : Row) × Fine (event.event_to k v id (codes "destroyed") (Word serial ∷ [])) r) × (new_of true (event.event_to k v id (codes "destroyed") (Word serial ∷ [])) ≡ None)
unfolding row_of
goes_fine known.Handshake v id serial h lt = absurd cc
goes_fine known.Connection v id serial h lt = absurd cc
goes_fine known.Callback v id serial h lt = absurd cc
goes_fine known.Pingpong v id serial h lt = absurd cc
goes_fine k v id serial h lt = ((_, record { row = refl; kinds = (lt, tt); opcode = omega arith; short = lit≤ tt }), refl)

pub all_go_may : (t : TableView) (sent : List Sent) (serial : ℕ) (ids : List ℕ) → AllAnnounced t sent ids → AreOrdinary sent (destroyed_all t serial ids)
all_go_may t sent serial [] h = tt
all_go_may t sent serial (id ∷ ids) h =
    let k : KnownInterface = h.0.0 in let there = h.0.2.0 in
    let f = goes_fine k there.object.version id (next_serial serial) h.0.1 (next_small serial) in
    let ordinary : IsOrdinary sent (event.event_to k there.object.version id (codes "destroyed") (Word (next_serial serial) ∷ [])) = (f.0.0, f.0.1, h.0.2.1, f.1) in
    (subst (IsOrdinary sent) (sym (destroyed_is t id (next_serial serial) k there)) ordinary, all_go_may t sent (next_serial serial) ids h.1)

pub gone_may : (x : End) (c : ConnectionView) (ids : List ℕ) → IsEndOf x c → AllAnnounced c.ctx.table x.sent ids → AreListedCalls true (gone c ids) x.sent x.taken
gone_may x c ids e h = alone (gone c ids) x.sent x.taken (rose x c e) (all_go_may c.ctx.table x.sent c.last_serial ids h)
