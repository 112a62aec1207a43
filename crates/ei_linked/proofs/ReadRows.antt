-- What an end reads that is joined with another: each message is one of its row, and is stored as it was read.
use Rattle.std.proofs.Common.{◌≡◌, ℕ, Bool, false, inl, inr, ◌⊎◌, List, [], ◌∷◌, map, Some, None, refl, sym, ap, subst, ◌∙◌}
use Rattle.std.specs.List.{list_any}
use Rattle.std.proofs.lemmas.Bool.{or_parts}
use Rattle.std.proofs.lemmas.Option.{same_Some}
use Rattle.ei_spec.specs.declared.handle.Handle.{Handle as Descriptor}
use Rattle.ei_spec.specs.declared.interface.KnownInterface.{KnownInterface}
use Rattle.ei_spec.specs.Interface.{Known, ObjectView}
use Rattle.ei_spec.specs.Piece.{Piece}
use Rattle.ei_spec.specs.Rows.{Row, row_at}
use Rattle.ei_spec.specs.Table.{table}
use Rattle.ei_spec.specs.Value.{Kind, U32, I32, U64, I64, Float, Text, Nullable, Handle, New, Choice, OpenChoice}
use Rattle.ei_spec.specs.Value.{Value, Word, Long, Signed, SignedLong, Letters, Null, Fd, IsOf}
use Rattle.ei_spec.specs.Arguments.{AreOf}
use Rattle.ei_backend.specs.Backend.{BackendView, FrontAnswer, Waits, Gone, Message, next}
use Rattle.ei_ends.specs.Sent.{Sent, row_of, bare}
use Rattle.ei_ends.specs.Way.{End, Cut, Tied, MaySend, AllSent, onto}
use Rattle.ei_ends.specs.Steps.{stored}
use Rattle.ei_ends.specs.Joined.{Joined}
use Rattle.ei_ends.proofs.Known.{all_sent_onto}
use Rattle.ei_ends.proofs.NothingLeft.{pair_first}
use Rattle.ei_ends.proofs.Reading.{reads}
use Rattle.ei_ends.proofs.ReadsNext.{Takes}
use Rattle.ei_values.specs.Stored.{value_view, word_as, stored_as, all_stored}
use Rattle.ei_linked.specs.Stored.{StoredEnd, end_in, sent_view, read_as, as_known, kinds_in}
use Rattle.ei_linked.specs.TwoEnds.{IsRead, ReadsRows}
use Rattle.ei_linked.proofs.TableNews.{is_long, none_long}

-- ---- values alike but for handles

any_handle : (k : Kind) (g h : Descriptor) → IsOf k (Fd h) → IsOf k (Fd g)
any_handle U32 g h x = x
any_handle I32 g h x = x
any_handle U64 g h x = x
any_handle I64 g h x = x
any_handle Float g h x = x
any_handle Text g h x = x
any_handle Nullable g h x = x
any_handle Handle g h x = x
any_handle New g h x = x
any_handle (Choice n vs) g h x = x
any_handle OpenChoice g h x = x

bare_is : (v : Value) → (bare v ≡ Some v) ⊎ ((h : Descriptor) × (v ≡ Fd h))
bare_is (Word n) = inl refl
bare_is (Long n) = inl refl
bare_is (Signed z) = inl refl
bare_is (SignedLong z) = inl refl
bare_is (Letters t) = inl refl
bare_is Null = inl refl
bare_is (Fd h) = inr (h, refl)

alike_one : (k : Kind) (v r : Value) → bare r ≡ bare v → IsOf k v → IsOf k r
alike_one k v r e is = elim (bare_is v) [
  | inl s ↦ elim (bare_is r) [
    | inl t ↦ subst (IsOf k) (same_Some v r (sym s ∙ sym e ∙ t)) is
    | inr g ↦ let none : Some v ≡ None = sym s ∙ sym e ∙ ap bare g.1 in absurd cc
  ]
  | inr h ↦ elim (bare_is r) [
    | inl t ↦ let none : Some r ≡ None = sym t ∙ e ∙ ap bare h.1 in absurd cc
    | inr g ↦ subst (IsOf k) (sym g.1) (any_handle k g.0 h.0 (subst (IsOf k) h.1 is))
  ]
]

alike_all : (kinds : List Kind) (values read : List Value) → map bare read ≡ map bare values → AreOf kinds values → AreOf kinds read
alike_all [] [] [] e are = tt
alike_all [] [] (r ∷ rs) e are = absurd cc
alike_all [] (v ∷ vs) rs e are = absurd are
alike_all (k ∷ ks) [] rs e are = absurd are
alike_all (k ∷ ks) (v ∷ vs) [] e are = absurd cc
alike_all (k ∷ ks) (v ∷ vs) (r ∷ rs) e are =
    let first : bare r ≡ bare v = cc in
    let rest : map bare rs ≡ map bare vs = cc in
    (alike_one k v r first are.0, alike_all ks vs rs rest are.1)

-- ---- a message that is read is one of its row

head_may : (events : Bool) (m : Sent) (ms past sent theirs : List Sent) → sent ≡ onto (m ∷ ms) past → AllSent events sent theirs → MaySend events past theirs m
unfolding AllSent
head_may events m ms past sent theirs is h = (all_sent_onto events ms (m ∷ past) theirs (subst (λ l. AllSent events l theirs) is h)).0

rows_by : (events : Bool) (m : Sent) (o : ObjectView) (r : Row) (read : Sent) (target : ObjectView) (opcode : ℕ) (values : List Value) →
    row_of events m ≡ Some r → AreOf r.kinds m.values → read.interface ≡ m.interface → read.opcode ≡ m.opcode → map bare read.values ≡ map bare m.values →
    target.interface ≡ Known read.interface → read.opcode ≡ opcode → read.values ≡ values → IsRead events target opcode values
unfolding row_of
rows_by events m o r read target opcode values is_row kinds interface code alike known opcode_is values_is =
    let same : as_known target.interface ≡ read.interface = ap as_known known in
    record {
      known = known ∙ ap Known (sym same);
      row = r;
      is_row = ap (λ (k : KnownInterface). row_at opcode (table events k)) (same ∙ interface) ∙ ap (λ (n : ℕ). row_at n (table events m.interface)) (sym opcode_is ∙ code) ∙ is_row;
      kinds = subst (λ (vs : List Value). AreOf r.kinds vs) values_is (alike_all r.kinds m.values read.values alike kinds);
    }

takes_row : (events : Bool) (x y : End) (to_y to_x : Piece) (cx cy : Cut) (target : ObjectView) (opcode : ℕ) (values : List Value) (b : BackendView) → Tied events x y to_y to_x cx cy → Takes events x y to_y to_x cx cy →
    next events y.backend ≡ (Message target opcode values, b) → IsRead events target opcode values
takes_row events x y to_y to_x cx cy target opcode values b tied take e =
    let both : ◌≡◌ {A = FrontAnswer × BackendView} (Message take.target take.read.opcode take.read.values, take.after) (Message target opcode values, b) = sym take.next_is ∙ e in
    let m = pair_first (Message take.target take.read.opcode take.read.values) (Message target opcode values) take.after b both in
    let target_same : take.target ≡ target = cc in
    let opcode_same : take.read.opcode ≡ opcode = cc in
    let values_same : take.read.values ≡ values = cc in
    let may = head_may events take.message take.flight cx.past x.sent cy.past (tied.there.sent_is ∙ ap (λ (l : List Sent). onto l cx.past) take.first) tied.says in
    let known : target.interface ≡ Known take.read.interface = ap (λ (o : ObjectView). o.interface) (sym target_same ∙ take.target_is) in
    rows_by events take.message target may.row take.read target opcode values may.call.row may.call.kinds take.alike.interface take.alike.opcode take.alike.values known opcode_same values_same

pub reads_rows : (events : Bool) (x : End) (y : StoredEnd) (to_y to_x : Piece) → Joined events x (end_in y) to_y to_x → ReadsRows events y
reads_rows events x y to_y to_x j = λ target opcode values b e. elim (reads events x (end_in y) to_y to_x j.there j.back j.tied) [
  | inl w ↦ let f = pair_first Waits (Message target opcode values) y.backend b (sym w ∙ e) in absurd cc
  | inr m ↦ elim m [
    | inl miss ↦ let f = pair_first (Gone miss.message.target) (Message target opcode values) miss.after b (sym miss.next_is ∙ e) in absurd cc
    | inr take ↦ takes_row events x (end_in y) to_y to_x j.there j.back target opcode values b j.tied take e
  ]
]

-- ---- it is stored as it was read

word_is : (k : Kind) (n : ℕ) → value_view (word_as k n) ≡ Word n
word_is Float n = refl
word_is k n = refl

one_value : (k : Kind) (v : Value) → is_long k ≡ false → IsOf k v → value_view (stored_as k v) ≡ v
one_value k (Word n) short is = word_is k n
one_value k (Long n) short is = refl
one_value k (Signed z) short is = refl
one_value I64 (SignedLong z) short is = absurd cc
one_value k (SignedLong z) short is = absurd is
one_value k (Letters t) short is = refl
one_value k Null short is = refl
one_value k (Fd h) short is = refl

pub all_values : (kinds : List Kind) (values : List Value) → list_any is_long kinds ≡ false → AreOf kinds values → map value_view (all_stored kinds values) ≡ values
all_values [] [] short are = refl
all_values [] (v ∷ vs) short are = absurd are
all_values (k ∷ ks) [] short are = absurd are
all_values (k ∷ ks) (v ∷ vs) short are =
    let parts = or_parts (is_long k) (list_any is_long ks) short in
    rw (one_value k v parts.0 are.0, all_values ks vs parts.1 are.1) refl

pub read_view : (events : Bool) (target : ObjectView) (opcode : ℕ) (values : List Value) → IsRead events target opcode values → sent_view (read_as events target opcode values) ≡ stored target (as_known target.interface) opcode values
read_view events target opcode values h =
    let kinds : kinds_in (row_at opcode (table events (as_known target.interface))) ≡ h.row.kinds = ap kinds_in h.is_row in
    let same : map value_view (all_stored (kinds_in (row_at opcode (table events (as_known target.interface)))) values) ≡ values =
    ap (λ (ks : List Kind). map value_view (all_stored ks values)) kinds ∙ all_values h.row.kinds values (none_long events (as_known target.interface) opcode h.row h.is_row) h.kinds in
    ap (λ (vs : List Value). let s : Sent = record { target = target.id; interface = as_known target.interface; version = target.version; opcode = opcode; values = vs } in s) same
