-- Messages are stored as they were sent.
use Rattle.std.proofs.Common.{◌≡◌, ℕ, Bool, true, false, cond, eqb, List, [], ◌∷◌, map, Some, refl, sym, ap, ◌∙◌}
use Rattle.std.specs.Prelude.{not}
use Rattle.std.specs.List.{list_any, list_all}
use Rattle.std.proofs.lemmas.Bool.{or_parts, and_parts}
use Rattle.std.proofs.lemmas.Option.{same_Some}
use Rattle.ei_spec.specs.declared.interface.KnownInterface.{KnownInterface}
use Rattle.ei_spec.specs.Rows.{Row, row_at}
use Rattle.ei_spec.specs.Table.{table}
use Rattle.ei_spec.specs.Value.{Kind, I64, Float, Value, Word, Long, Signed, SignedLong, Letters, Null, Fd, IsOf}
use Rattle.ei_spec.specs.Arguments.{AreOf}
use Rattle.ei_spec.proofs.EachInterface.{of_each}
use Rattle.ei_ends.specs.Sent.{Sent, Got, row_of}
use Rattle.ei_backend.specs.Backend.{BackendView}
use Rattle.ei_ends.specs.Way.{onto, End}
use Rattle.ei_ends.specs.Joined.{AreListedCalls}
use Rattle.ei_values.specs.Stored.{value_view, word_as, stored_as, all_stored}
use Rattle.ei_linked.specs.declared.record.Record.{Record}
use Rattle.ei_linked.specs.Stored.{StoredEnd, end_in, sent_view, kinds_in}
use Rattle.ei_linked.specs.Written.{record_as, stored_onto}
use Rattle.ei_promises.specs.Pair.{having_sent_all}

-- no signed number of 64 bits
abbrev is_long : Kind → Bool
is_long I64 = true
is_long k = false

abbrev none_is_long : ℕ × Row → Bool
none_is_long r = not (list_any is_long r.1.kinds)

not_true : (b : Bool) → not b ≡ true → b ≡ false
not_true true e = absurd cc
not_true false e = refl

in_rows : (opcode : ℕ) (r : Row) (rows : List (ℕ × Row)) → list_all none_is_long rows ≡ true → row_at opcode rows ≡ Some r → list_any is_long r.kinds ≡ false
in_rows opcode r [] h e = absurd cc
in_rows opcode r (x ∷ xs) h e =
    let parts = and_parts (none_is_long x) (list_all none_is_long xs) h in
    by (eqb opcode x.0) e parts.0 (in_rows opcode r xs parts.1)
  where
    by : (b : Bool) → cond b (Some x.1) (row_at opcode xs) ≡ Some r → none_is_long x ≡ true → (row_at opcode xs ≡ Some r → list_any is_long r.kinds ≡ false) → list_any is_long r.kinds ≡ false
    by true f g next = ap (λ (y : Row). list_any is_long y.kinds) (sym (same_Some x.1 r f)) ∙ not_true (list_any is_long x.1.kinds) g
    by false f g next = next f

all_rows : (events : Bool) (k : KnownInterface) → list_all none_is_long (table events k) ≡ true
all_rows true k = of_each (λ (i : KnownInterface). list_all none_is_long (table true i)) refl k
all_rows false k = of_each (λ (i : KnownInterface). list_all none_is_long (table false i)) refl k

word_is : (k : Kind) (n : ℕ) → value_view (word_as k n) ≡ Word n
word_is Float n = refl
word_is k n = refl

one_value : (k : Kind) (v : Value) → is_long k ≡ false → IsOf k v → value_view (stored_as k v) ≡ v
one_value k (Word n) short is = word_is k n
one_value k (Long n) short is = refl
one_value k (Signed z) short is = refl
one_value I64 (SignedLong z) short is = absurd cc
one_value k (SignedLong z) short is = absurd is
one_value k (Letters t) short is = refl
one_value k Null short is = refl
one_value k (Fd h) short is = refl

all_values : (kinds : List Kind) (values : List Value) → list_any is_long kinds ≡ false → AreOf kinds values → map value_view (all_stored kinds values) ≡ values
all_values [] [] short are = refl
all_values [] (v ∷ vs) short are = absurd are
all_values (k ∷ ks) [] short are = absurd are
all_values (k ∷ ks) (v ∷ vs) short are =
    let parts = or_parts (is_long k) (list_any is_long ks) short in
    rw (one_value k v parts.0 are.0, all_values ks vs parts.1 are.1) refl

pub stored_as_sent : (events : Bool) (m : Sent) (r : Row) → row_of events m ≡ Some r → AreOf r.kinds m.values → sent_view (record_as events m) ≡ m
unfolding row_of
stored_as_sent events m r e are =
    let kinds : kinds_in (row_at m.opcode (table events m.interface)) ≡ r.kinds = ap kinds_in e in
    let short = in_rows m.opcode r (table events m.interface) (all_rows events m.interface) e in
    let same : map value_view (all_stored (kinds_in (row_at m.opcode (table events m.interface))) m.values) ≡ m.values =
    ap (λ (ks : List Kind). map value_view (all_stored ks m.values)) kinds ∙ all_values r.kinds m.values short are in
    ap (λ (vs : List Value). let s : Sent = record { target = m.target; interface = m.interface; version = m.version; opcode = m.opcode; values = vs } in s) same

-- ---- several

pub stored_behind : (events : Bool) (ms : List Sent) (past : List Record) (sent : List Sent) (taken : List Got) → map sent_view past ≡ sent → AreListedCalls events ms sent taken → map sent_view (stored_onto events ms past) ≡ onto ms sent
stored_behind events [] past sent taken e h = e
stored_behind events (m ∷ ms) past sent taken e h =
    stored_behind events ms (record_as events m ∷ past) (m ∷ sent) taken
    (ap (λ (x : Sent). x ∷ map sent_view past) (stored_as_sent events m h.0 h.1.call.row h.1.call.kinds) ∙ ap (λ (l : List Sent). m ∷ l) e) h.2

-- the end that sent them
pub sent_end : (events : Bool) (ms : List Sent) (b : BackendView) (x : StoredEnd) → AreListedCalls events ms (end_in x).sent (end_in x).taken →
    end_in (having_sent_all events ms b x) ≡ (let e : End = record { backend = b; sent = onto ms (end_in x).sent; taken = (end_in x).taken } in e)
sent_end events ms b x h = ap (λ (l : List Sent). let e : End = record { backend = b; sent = l; taken = (end_in x).taken } in e) (stored_behind events ms x.sent (end_in x).sent (end_in x).taken refl h)
