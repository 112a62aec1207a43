-- The messages that an end wrote are stored, one behind another.
use Rattle.std.proofs.Common.{◌≡◌, ℕ, ◌+◌, ◌<◌, ◌≤◌, Bool, List, [], ◌∷◌, ◌++◌, map, take, drop, length, Some, Result, Ok, Err, refl, sym, ap, subst, ◌∙◌, append_assoc, arith}
use Rattle.std.specs.List.{flat_map}
use Rattle.std.specs.Prelude.{reverse, OnErr}
use Rattle.std.proofs.Math.Seq.{take-append_seam}
use Rattle.std.proofs.lemmas.List.{drop-drop, drop_at, length-drop, reverse-append, reverse-reverse}
use Rattle.ei_linked.specs.declared.record.Got.{Got as StoredGot}
use Rattle.ei_spec.specs.declared.handle.Handle.{Handle}
use Rattle.ei_spec.specs.Value.{Kind, Value}
use Rattle.ei_spec.specs.Message.{size}
use Rattle.ei_spec.specs.Rows.{Row, row_at}
use Rattle.ei_spec.specs.Table.{table}
use Rattle.ei_backend.specs.Backend.{BackendView}
use Rattle.ei_ends.specs.Sent.{Sent, IsCall, row_of, raw_of, bytes_in, spelled, handles_in}
use Rattle.ei_ends.specs.Joined.{AreListedCalls}
use Rattle.ei_ends.proofs.InTime.{bytes_length}
use Rattle.ei_values.specs.Stored.{value_view, all_stored}
use Rattle.ei_linked.specs.declared.record.Record.{Record}
use Rattle.ei_linked.specs.declared.written.Unsent.{Unsent}
use Rattle.ei_linked.specs.declared.written.StoreError.{StoreError}
use Rattle.ei_linked.specs.declared.written.StoreError.TheVariants as store_error
use Rattle.ei_linked.specs.Stored.{StoredEnd, sent_view, got_view, kinds_in}
use Rattle.ei_linked.specs.Held.{Held, stored_by}
use Rattle.ei_linked.specs.Written.{AreWritten, record_as, stored_onto, behind_message, Stores, StoresNext, HasMore, ReadsBack}
use Rattle.ei_linked.proofs.TableNews.{none_long}
use Rattle.ei_linked.proofs.ReadRows.{all_values}
use Rattle.ei_linked.proofs.WrittenAt.{there}

-- ---- what is stored is the message

sent_of : Sent → List Value → Sent
sent_of m values = record { target = m.target; interface = m.interface; version = m.version; opcode = m.opcode; values = values }

pub sent_again : (events : Bool) (m : Sent) (r : Row) → IsCall events m r → sent_view (record_as events m) ≡ m
unfolding row_of sent_of
sent_again events m r call =
    let row : row_at m.opcode (table events m.interface) ≡ Some r = call.row in
    let kinds : kinds_in (row_at m.opcode (table events m.interface)) ≡ r.kinds = ap kinds_in row in
    let same : map value_view (all_stored (kinds_in (row_at m.opcode (table events m.interface))) m.values) ≡ m.values =
    ap (λ (ks : List Kind). map value_view (all_stored ks m.values)) kinds ∙ all_values r.kinds m.values (none_long events m.interface m.opcode r row) call.kinds in
    ap (sent_of m) same

-- ---- behind one of them

behind_bytes : (m : Sent) (ms : List Sent) (at : ℕ) (unsent : List ℕ) → drop at unsent ≡ spelled (m ∷ ms) → drop (at + size (raw_of m)) unsent ≡ spelled ms
behind_bytes m ms at unsent e = sym (drop-drop (size (raw_of m)) at unsent) ∙ ap (λ (l : List ℕ). drop (size (raw_of m)) l) e ∙ drop_at (bytes_in m) (spelled ms) (size (raw_of m)) (bytes_length m)

behind_handles : (m : Sent) (ms : List Sent) (at : ℕ) (unsent : List Handle) → drop at unsent ≡ flat_map handles_in (m ∷ ms) → drop (at + length (handles_in m)) unsent ≡ flat_map handles_in ms
behind_handles m ms at unsent e = sym (drop-drop (length (handles_in m)) at unsent) ∙ ap (λ (l : List Handle). drop (length (handles_in m)) l) e ∙ drop_at (handles_in m) (flat_map handles_in ms) (length (handles_in m)) refl

end_with : BackendView → List Record → StoredEnd → StoredEnd
end_with b sent x = record { backend = b; sent = sent; taken = x.taken }

pub written_behind : (events : Bool) (at : Unsent) (m : Sent) (ms : List Sent) (x : StoredEnd) → AreWritten events at (m ∷ ms) x → AreWritten events (behind_message at m) ms (record { backend = x.backend; sent = record_as events m ∷ x.sent; taken = x.taken })
written_behind events at m ms x w = record {
  calls = subst (λ (s : Sent). AreListedCalls events ms (s ∷ map sent_view x.sent) (map got_view x.taken)) (sym (sent_again events m w.calls.0 w.calls.1.call)) w.calls.2;
  bytes = behind_bytes m ms at.bytes x.backend.unsent w.bytes;
  handles = behind_handles m ms at.handles x.backend.unsent_handles w.handles;
}

-- ---- one is stored

pub next_stored : {C : Type 0} (events : Bool) (at : Unsent) (m : Sent) (old new : Held C) (r : Record × Unsent) → ReadsBack events at m (Ok r) → new ≡ record old { sent = r.0 ∷ old.sent } → StoresNext events at m old (Ok r.1) new
next_stored {C} events at m old new r h e = (h.1, e ∙ ap (λ (x : Record). let n : Held C = record old { sent = x ∷ old.sent } in n) h.0)

pub next_stops : {C : Type 0} (events : Bool) (at : Unsent) (m : Sent) (old new : Held C) (r : Result Unsent StoreError) (q : Result (Record × Unsent) StoreError) (e : StoreError) → r ≡ Err e → q ≡ Err e → ReadsBack events at m q → StoresNext events at m old r new
next_stops {C} events at m old new r q store_error.NoMemory is was h = subst (λ (x : Result Unsent StoreError). StoresNext events at m old x new) (sym is) tt
next_stops events at m old new r q store_error.Unwritten is was h = absurd (subst (λ (x : Result (Record × Unsent) StoreError). ReadsBack events at m x) was h)

-- ---- all are stored

-- so many are stored; these are left
pub record Going {C : Type 0} (seen : C → BackendView) (events : Bool) (before at : Unsent) (i : ℕ) (ms : List Sent) (old now : Held C) : Type 0 where
  pub rest : List Sent
  pub left : AreWritten events at rest (stored_by seen now)
  pub so_far : stored_onto events ms old.sent ≡ stored_onto events rest now.sent
  pub far : i + before.bytes ≤ at.bytes

-- a message is left, or none is
pub data Goes {C : Type 0} (seen : C → BackendView) (events : Bool) (at : Unsent) (i : ℕ) (ms : List Sent) (old now : Held C) : Type 0 where
  Done : stored_onto events ms old.sent ≡ now.sent → length (seen now.context).unsent ≤ at.bytes → Goes seen events at i ms old now
  More : (m : Sent) → (rest : List Sent) → AreWritten events at (m ∷ rest) (stored_by seen now) → stored_onto events ms old.sent ≡ stored_onto events rest (record_as events m ∷ now.sent) → Goes seen events at i ms old now

nothing : (m : ℕ) (xs : List ℕ) → drop m xs ≡ [] → length xs ≤ m
nothing m xs e = omega (arith, length-drop m xs, ap length e)

goes_by : {C : Type 0} (seen : C → BackendView) (events : Bool) (at : Unsent) (i : ℕ) (ms rest : List Sent) (old now : Held C) → AreWritten events at rest (stored_by seen now) → stored_onto events ms old.sent ≡ stored_onto events rest now.sent → Goes seen events at i ms old now
goes_by seen events at i ms [] old now left so_far = Done so_far (nothing at.bytes (seen now.context).unsent left.bytes)
goes_by seen events at i ms (m ∷ rest) old now left so_far = More m rest left so_far

pub goes : {C : Type 0} (seen : C → BackendView) (events : Bool) (before at : Unsent) (i : ℕ) (ms : List Sent) (old now : Held C) → Going seen events before at i ms old now → Goes seen events at i ms old now
goes seen events before at i ms old now g = goes_by seen events at i ms g.rest old now g.left g.so_far

pub more_twice : {C : Type 0} (old now new : Held C) → HasMore old now → HasMore now new → HasMore old new
more_twice {C} old now new (a, e) (b, f) =
    (b ++ a, f ∙ ap (λ (h : Held C). let n : Held C = record h { sent = b ++ h.sent } in n) e ∙ ap (λ (l : List Record). let n : Held C = record old { sent = l } in n) (sym (append_assoc b a old.sent)))

same_context : {C : Type 0} (old now : Held C) → HasMore old now → now.context ≡ old.context
same_context {C} old now (a, e) = ap (λ (h : Held C). h.context) e

still : {C : Type 0} (seen : C → BackendView) (old now : Held C) (end : ℕ) → HasMore old now → end ≡ length (seen old.context).unsent → length (seen now.context).unsent ≡ end
still {C} seen old now end more is = ap (λ (x : C). length (seen x).unsent) (same_context old now more) ∙ sym is

all_by : {C : Type 0} (seen : C → BackendView) (events : Bool) (at : Unsent) (i : ℕ) (ms : List Sent) (old now : Held C) → Goes seen events at i ms old now → HasMore old now → length (seen now.context).unsent ≤ at.bytes → now ≡ record old { sent = stored_onto events ms old.sent }
all_by {C} seen events at i ms old now (Done so_far le) (a, e) end =
    e ∙ ap (λ (l : List Record). let n : Held C = record old { sent = l } in n) (sym (ap (λ (h : Held C). h.sent) e) ∙ sym so_far)
all_by seen events at i ms old now (More m rest w so_far) more end = absurd (there events at m rest (stored_by seen now) w end)

-- at the end all are stored
pub all_stored_at : {C : Type 0} (seen : C → BackendView) (events : Bool) (before at : Unsent) (i end : ℕ) (ms : List Sent) (old now : Held C) → Going seen events before at i ms old now → HasMore old now → end ≡ length (seen old.context).unsent → end ≤ at.bytes → now ≡ record old { sent = stored_onto events ms old.sent }
all_stored_at seen events before at i end ms old now g more is le = all_by seen events at i ms old now (goes seen events before at i ms old now g) more (omega (arith, still seen old now end more is, le))

stops_by : {C : Type 0} (seen : C → BackendView) (events : Bool) (at : Unsent) (i : ℕ) (ms : List Sent) (old now new : Held C) (r : Result (Unit {0}) StoreError) (q : Result Unsent StoreError) (e : StoreError) → Goes seen events at i ms old now → at.bytes < length (seen now.context).unsent →
    ((m : Sent) → (rest : List Sent) → AreWritten events at (m ∷ rest) (stored_by seen now) → StoresNext events at m now q new) → r ≡ Err e → q ≡ Err e → Stores events ms old r new
stops_by seen events at i ms old now new r q e (Done so_far le) lt next is was = absurd (omega (arith, le, lt))
stops_by seen events at i ms old now new r q store_error.NoMemory (More m rest w so_far) lt next is was = subst (λ (x : Result (Unit {0}) StoreError). Stores events ms old x new) (sym is) tt
stops_by seen events at i ms old now new r q store_error.Unwritten (More m rest w so_far) lt next is was = absurd (subst (λ (x : Result Unsent StoreError). StoresNext events at m now x new) was (next m rest w))

-- where one isn't stored, memory ran out
pub one_stops : {C : Type 0} (seen : C → BackendView) (events : Bool) (before at : Unsent) (i end : ℕ) (ms : List Sent) (old now new : Held C) (r : Result (Unit {0}) StoreError) (q : Result Unsent StoreError) (e : StoreError) → Going seen events before at i ms old now → HasMore old now → end ≡ length (seen old.context).unsent → at.bytes < end →
    ((m : Sent) → (rest : List Sent) → AreWritten events at (m ∷ rest) (stored_by seen now) → StoresNext events at m now q new) → r ≡ Err e → q ≡ Err e → Stores events ms old r new
one_stops seen events before at i end ms old now new r q e g more is lt next = stops_by seen events at i ms old now new r q e (goes seen events before at i ms old now g) (omega (arith, still seen old now end more is, lt)) next

goes_on_by : {C : Type 0} (seen : C → BackendView) (events : Bool) (before at behind : Unsent) (i : ℕ) (ms : List Sent) (old now new : Held C) → Goes seen events at i ms old now → i + before.bytes ≤ at.bytes → at.bytes < length (seen now.context).unsent →
    ((m : Sent) → (rest : List Sent) → AreWritten events at (m ∷ rest) (stored_by seen now) → StoresNext events at m now (Ok behind) new) → Going seen events before behind (i + 1) ms old new
goes_on_by seen events before at behind i ms old now new (Done so_far le) far lt next = absurd (omega (arith, le, lt))
goes_on_by {C} seen events before at behind i ms old now new (More m rest w so_far) far lt next =
    let s = next m rest w in
    record {
      rest = rest;
      left = subst (λ (b : Unsent). AreWritten events b rest (stored_by seen new)) (sym s.0) (subst (λ (h : Held C). AreWritten events (behind_message at m) rest (stored_by seen h)) (sym s.1) (written_behind events at m rest (stored_by seen now) w));
      so_far = so_far ∙ ap (λ (h : Held C). stored_onto events rest h.sent) (sym s.1);
      far = omega (arith, far, ap (λ (b : Unsent). b.bytes) s.0);
    }

-- one more is stored
pub goes_on : {C : Type 0} (seen : C → BackendView) (events : Bool) (before at behind : Unsent) (i end : ℕ) (ms : List Sent) (old now new : Held C) → (g : Going seen events before at i ms old now) → HasMore old now → end ≡ length (seen old.context).unsent → at.bytes < end →
    ((m : Sent) → (rest : List Sent) → AreWritten events at (m ∷ rest) (stored_by seen now) → StoresNext events at m now (Ok behind) new) → Going seen events before behind (i + 1) ms old new
goes_on seen events before at behind i end ms old now new g more is lt next = goes_on_by seen events before at behind i ms old now new (goes seen events before at i ms old now g) g.far (omega (arith, still seen old now end more is, lt)) next

-- ---- none is stored

cut_back : (old new more : List Record) (n : ℕ) → n ≡ length old → reverse new ≡ more ++ reverse old → take n new ≡ old
cut_back old new more n e is =
    let items : new ≡ old ++ reverse more = sym (reverse-reverse new) ∙ ap (λ (l : List Record). reverse l) is ∙ reverse-append more (reverse old) ∙ ap (λ (l : List Record). l ++ reverse more) (reverse-reverse old) in
    ap (λ (k : ℕ). take k new) e ∙ ap (λ (l : List Record). take (length old) l) items ∙ take-append_seam old (reverse more)

held : {C : Type 0} → C → List Record → List StoredGot → Held C
held context sent taken = record { context = context; sent = sent; taken = taken }

pub cut_is : {C : Type 0} {T E : Type 0} (r : Result T E) (before after : Held C) (old new kept : List Record) (n : ℕ) → reverse old ≡ before.sent → reverse new ≡ after.sent → n ≡ length old → HasMore before after → kept ≡ take n new →
    OnErr r (◌≡◌ {A = Held C} (record { context = after.context; sent = reverse kept; taken = after.taken }) before)
unfolding held
cut_is (Ok t) before after old new kept n a b e more k = tt
cut_is {C} (Err f) before after old new kept n a b e (more, is) k =
    let back : take n new ≡ old = cut_back old new more n e (b ∙ ap (λ (h : Held C). h.sent) is ∙ ap (λ (l : List Record). more ++ l) (sym a)) in
    let sent : reverse kept ≡ before.sent = ap (λ (l : List Record). reverse l) (k ∙ back) ∙ a in
    ap (λ (h : Held C). held h.context (reverse kept) h.taken) is ∙ ap (λ (l : List Record). held before.context l before.taken) sent
