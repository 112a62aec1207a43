-- The message that stands there in what an end wrote.
use Rattle.std.proofs.Common.{◌≡◌, ℕ, ◌+◌, ◌-◌, ◌<◌, ◌≤◌, inl, inr, Bool, List, [], ◌∷◌, ◌++◌, take, drop, length, Option, Some, None, Result, Ok, Err, sym, ap, subst, ◌∙◌, length-append, arith}
use Rattle.std.specs.List.{flat_map}
use Rattle.std.specs.Prelude.{min}
use Rattle.std.proofs.lemmas.Bool.{cases_lt}
use Rattle.std.proofs.lemmas.List.{take_all, drop_all, length-drop}
use Rattle.ei_spec.specs.declared.handle.Handle.{Handle}
use Rattle.ei_spec.specs.declared.interface.KnownInterface.{KnownInterface}
use Rattle.ei_spec.specs.declared.interface.KnownInterface.TheVariants as known
use Rattle.ei_spec.specs.Value.{Kind, Value, written}
use Rattle.ei_values.specs.declared.value.Value.{Value as StoredValue}
use Rattle.ei_values.specs.Stored.{all_stored}
use Rattle.ei_spec.specs.Interface.{Known}
use Rattle.ei_spec.specs.Message.{IsLawful, bytes_of, size}
use Rattle.ei_spec.specs.Reading.{Unread, all_at}
use Rattle.ei_spec.specs.Arguments.{before_values, behind_values}
use Rattle.ei_spec.specs.Rows.{row_at}
use Rattle.ei_spec.specs.Table.{table}
use Rattle.ei_spec.proofs.Cuts.{size_is}
use Rattle.ei_spec.proofs.WrittenRows.{values_read}
use Rattle.ei_wire.specs.declared.header.Header.{Header}
use Rattle.ei_ends.specs.Sent.{Sent, New, row_of, raw_of, bytes_in, spelled, handles_in}
use Rattle.ei_ends.specs.Joined.{acquainted}
use Rattle.ei_linked.specs.declared.record.Target.{Target}
use Rattle.ei_linked.specs.declared.written.Unsent.{Unsent}
use Rattle.ei_linked.specs.Asked.{IsTarget}
use Rattle.ei_linked.specs.Stored.{StoredEnd, end_in, as_known, kinds_in}
use Rattle.ei_linked.specs.declared.record.Record.{Record}
use Rattle.ei_linked.specs.declared.written.StoreError.{StoreError}
use Rattle.ei_linked.specs.declared.written.StoreError.TheVariants as store_error
use Rattle.ei_linked.specs.Written.{AreWritten, IsFirst, TakesAll, ReadsBack, record_as, behind_message}

pub lawful : (events : Bool) (at : Unsent) (m : Sent) (ms : List Sent) (x : StoredEnd) → AreWritten events at (m ∷ ms) x → IsLawful (raw_of m)
lawful events at m ms x w = let call = w.calls.1.call in record { id = call.target; opcode = call.opcode; size = call.short }

pub front_is : (events : Bool) (at : Unsent) (m : Sent) (ms : List Sent) (x : StoredEnd) → AreWritten events at (m ∷ ms) x → drop at.bytes x.backend.unsent ≡ bytes_of (raw_of m) ++ spelled ms
unfolding bytes_in
front_is events at m ms x w = w.bytes

-- the message has bytes, so there are some
pub there : (events : Bool) (at : Unsent) (m : Sent) (ms : List Sent) (x : StoredEnd) → AreWritten events at (m ∷ ms) x → length x.backend.unsent ≤ at.bytes → ⊥
there events at m ms x w le =
    let none : drop at.bytes x.backend.unsent ≡ [] = drop_all at.bytes x.backend.unsent le in
    let long : length (bytes_of (raw_of m) ++ spelled ms) ≡ 0 = ap length (sym (front_is events at m ms x w) ∙ none) in
    omega (arith, long, length-append (bytes_of (raw_of m)) (spelled ms), size_is (raw_of m))

-- ---- slices

pub rest_of : {A : Type 0} (xs : List A) (i : ℕ) → take (length xs - i) (drop i xs) ≡ drop i xs
rest_of xs i = take_all (length xs - i) (drop i xs) (omega (arith, length-drop i xs))

pub rest_at_most : {A : Type 0} (xs : List A) (i k : ℕ) → k ≡ min i (length xs) → take (length xs - k) (drop k xs) ≡ drop i xs
rest_at_most xs i k e = elim (cases_lt (length xs) i) [
  | inl lt ↦
      let same : k ≡ length xs = omega (arith, e, lt) in
      rest_of xs k ∙ drop_all k xs (omega (arith, same)) ∙ sym (drop_all i xs (omega (arith, lt)))
  | inr le ↦ let same : k ≡ i = omega (arith, e, le) in rest_of xs k ∙ ap (λ (n : ℕ). drop n xs) same
]

-- a sum of handles fits
pub count_fits : (i n : ℕ) (hs first more : List Handle) → drop i hs ≡ first ++ more → n ≡ length first → i < 18446744073709551616 → length hs < 18446744073709551616 → i + n < 18446744073709551616
count_fits i n hs first more e is lt few =
    let long = length-drop i hs in
    omega (arith, is, lt, few, long, ap length e, length-append first more)

-- ---- its target

abbrev interface_in : Option New → KnownInterface
interface_in None = known.Handshake
interface_in (Some n) = as_known n.interface

abbrev version_in : Option New → ℕ
version_in None = 0
version_in (Some n) = n.version

abbrev named : ℕ → KnownInterface → ℕ → Option New
named id interface version = Some (record { id = id; interface = Known interface; version = version })

module _ (events : Bool) (at : Unsent) (m : Sent) (ms : List Sent) (x : StoredEnd) (w : AreWritten events at (m ∷ ms) x) (header : Header) (body : List ℕ) (f : IsFirst (raw_of m) header body) where
  abbrev met : ℕ → Option New
  met id = acquainted events (end_in x).sent (end_in x).taken id

  -- the target was met
  pub target_met : met header.object_id ≡ named header.object_id m.interface m.version
  target_met = ap met f.id ∙ w.calls.1.target ∙ ap (λ (id : ℕ). named id m.interface m.version) (sym f.id)

  pub no_target : IsTarget None header.object_id (met header.object_id) → ⊥
  no_target h = h m.interface m.version target_met

  pub interface_is : (t : Target) → IsTarget (Some t) header.object_id (met header.object_id) → t.interface ≡ m.interface
  interface_is t h = ap interface_in (sym h.1 ∙ target_met)

  pub version_is : (t : Target) → IsTarget (Some t) header.object_id (met header.object_id) → t.version ≡ m.version
  version_is t h = ap version_in (sym h.1 ∙ target_met)

  pub id_is : (t : Target) → IsTarget (Some t) header.object_id (met header.object_id) → t.id ≡ m.target
  id_is t h = h.0 ∙ f.id

  -- ---- its row

  pub row_is : (t : Target) → IsTarget (Some t) header.object_id (met header.object_id) → row_at header.opcode (table events t.interface) ≡ Some w.calls.0
  unfolding row_of
  row_is t h = ap (λ (k : KnownInterface). row_at header.opcode (table events k)) (interface_is t h) ∙ ap (λ (n : ℕ). row_at n (table events m.interface)) f.opcode ∙ w.calls.1.call.row

  pub kinds_are : kinds_in (row_at m.opcode (table events m.interface)) ≡ w.calls.0.kinds
  unfolding row_of
  kinds_are = ap kinds_in w.calls.1.call.row

  -- ---- its values

  pub values_are : (hs : List Handle) (s : Unread) → hs ≡ drop at.handles x.backend.unsent_handles → s ≡ record { bytes = body; handles = hs; taken = 0 } → all_at w.calls.0.kinds s ≡ Ok (m.values, behind_values hs 0 m.values)
  values_are hs s e is =
      let call = w.calls.1.call in
      let short : length (flat_map written m.values) ≤ 1048576 = omega (arith, call.short) in
      let same : s ≡ before_values hs 0 m.values = is ∙ ap (λ (b : List ℕ). let u : Unread = record { bytes = b; handles = hs; taken = 0 } in u) f.body in
      ap (all_at w.calls.0.kinds) same ∙ values_read w.calls.0.kinds m.values hs (flat_map handles_in ms) 0 call.kinds short (e ∙ w.handles)

-- ---- what was read back

pub stops : (events : Bool) (at : Unsent) (m : Sent) (kinds : List Kind) (vs : List Value) (left now : Unread) (r : Result (Record × Unsent) StoreError) (q : Result (List StoredValue) StoreError) (e : StoreError) → r ≡ Err e → q ≡ Err e → TakesAll kinds vs left q now → ReadsBack events at m r
stops events at m kinds vs left now r q store_error.NoMemory is was h = subst (λ (x : Result (Record × Unsent) StoreError). ReadsBack events at m x) (sym is) tt
stops events at m kinds vs left now r q store_error.Unwritten is was h = absurd (subst (λ (x : Result (List StoredValue) StoreError). TakesAll kinds vs left x now) was h)

record_of : ℕ → KnownInterface → ℕ → ℕ → List StoredValue → Record
record_of id interface version opcode values = record { target = id; interface = interface; version = version; opcode = opcode; values = values }

pub record_is : (events : Bool) (m : Sent) (id version opcode : ℕ) (interface : KnownInterface) (kinds : List Kind) (values : List StoredValue) → id ≡ m.target → interface ≡ m.interface → version ≡ m.version → opcode ≡ m.opcode →
    kinds_in (row_at m.opcode (table events m.interface)) ≡ kinds → values ≡ all_stored kinds m.values → ◌≡◌ {A = Record} (record { target = id; interface = interface; version = version; opcode = opcode; values = values }) (record_as events m)
unfolding record_of
record_is events m id version opcode interface kinds values a b c d k v =
    ap (λ (i : ℕ). record_of i interface version opcode values) a
    ∙ ap (λ (n : KnownInterface). record_of m.target n version opcode values) b
    ∙ ap (λ (i : ℕ). record_of m.target m.interface i opcode values) c
    ∙ ap (λ (i : ℕ). record_of m.target m.interface m.version i values) d
    ∙ ap (λ (l : List StoredValue). record_of m.target m.interface m.version m.opcode l) (v ∙ ap (λ (ks : List Kind). all_stored ks m.values) (sym k))

unsent : ℕ → ℕ → Unsent
unsent bytes handles = record { bytes = bytes; handles = handles }

pub behind_is : (at : Unsent) (m : Sent) (bytes handles : ℕ) → bytes ≡ at.bytes + size (raw_of m) → handles ≡ at.handles + length (handles_in m) → ◌≡◌ {A = Unsent} (record { bytes = bytes; handles = handles }) (behind_message at m)
unfolding unsent
behind_is at m bytes handles a b = ap (λ (n : ℕ). unsent n handles) a ∙ ap (λ (n : ℕ). unsent (at.bytes + size (raw_of m)) n) b
