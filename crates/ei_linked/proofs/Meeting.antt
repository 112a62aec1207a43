-- The object that a message announces, and the objects that an end made or read.
use Rattle.std.proofs.Common.{◌≡◌, ℕ, ◌+◌, ◌<◌, Bool, true, false, ◌==◌, if◌then◌else◌, List, [], ◌∷◌, ◌++◌, map, take, drop, length, get_or, Option, Some, None, refl, sym, ap, subst, ◌∙◌, arith}
use Rattle.std.specs.Prelude.{reverse, not}
use Rattle.std.specs.Option.{option_map}
use Rattle.std.proofs.lemmas.Option.{same_Some}
use Rattle.std.proofs.lemmas.Bool.Decides.{nat_tests}
use Rattle.std.proofs.lemmas.List.{take_more, take-append-drop, reverse-append, map-append}
use Rattle.ei_spec.specs.declared.interface.KnownInterface.{KnownInterface}
use Rattle.ei_spec.specs.Interface.{named_as, known_of}
use Rattle.ei_spec.specs.Rows.{Row, Announces, new_id, version_of, name_in, row_at}
use Rattle.ei_spec.specs.Table.{table}
use Rattle.ei_backend.specs.Announcement.{known_in}
use Rattle.ei_ends.specs.Sent.{Sent, Got, Took, Missed, New, new_of, new_in, new_by, row_of, other, ends_target}
use Rattle.ei_ends.specs.Announced.{announced, or_else, if_named, first_new}
use Rattle.ei_ends.specs.Joined.{heard, acquainted}
use Rattle.ei_ends.proofs.Known.{announced_more}
use Rattle.ei_rows.specs.declared.table.Row.{Row as CodeRow}
use Rattle.ei_rows.specs.declared.table.Announcing.{Announcing}
use Rattle.ei_rows.specs.declared.table.Announcing.TheVariants as announcing
use Rattle.ei_rows.specs.Parts.{Parts, parts, seen, announcing_view, kind_view}
use Rattle.ei_linked.specs.declared.record.Record.{Record}
use Rattle.ei_linked.specs.declared.record.Got.{Got as StoredGot}
use Rattle.ei_linked.specs.declared.record.Got.TheVariants as got
use Rattle.ei_linked.specs.declared.record.Announced.{Announced}
use Rattle.ei_linked.specs.Stored.{sent_view, got_view}
use Rattle.ei_linked.specs.Asked.{IsNew, AreNew}

-- ---- what a message announces

row_is : (o : Option Row) (r : CodeRow) (res : Option CodeRow) → res ≡ Some r → option_map seen res ≡ option_map parts o → (q : Row) × (o ≡ Some q) × (seen r ≡ parts q)
row_is o r res is e = by o (sym (ap (option_map seen) is) ∙ e)
  where
    by : (o : Option Row) → option_map seen (Some r) ≡ option_map parts o → (q : Row) × (o ≡ Some q) × (seen r ≡ parts q)
    by None h = absurd cc
    by (Some q) h = (q, refl, same_Some (seen r) (parts q) h)

row_none : (o : Option Row) (res : Option CodeRow) → res ≡ None → option_map seen res ≡ option_map parts o → o ≡ None
row_none None res is e = refl
row_none (Some q) res is e = let h = sym (ap (option_map seen) is) ∙ e in absurd cc

-- the kinds of the code's row are those of the table's
pub code_kinds : (o : Option Row) (r : CodeRow) (res : Option CodeRow) (q : Row) → res ≡ Some r → option_map seen res ≡ option_map parts o → o ≡ Some q → map kind_view r.kinds.now ≡ q.kinds
code_kinds o r res q is e there =
    let s = row_is o r res is e in
    let same : s.0 ≡ q = same_Some s.0 q (sym s.1 ∙ there) in
    ap (λ (p : Parts). p.kinds) s.2 ∙ ap (λ (p : Row). p.kinds) same

pub code_row : (o : Option Row) (res : Option CodeRow) (q : Row) → res ≡ None → option_map seen res ≡ option_map parts o → o ≡ Some q → ⊥
code_row o res q is e there = let none : Some q ≡ None = sym there ∙ row_none o res is e in cc

pub no_row : (events : Bool) (m : Sent) (res : Option CodeRow) → res ≡ None → option_map seen res ≡ option_map parts (row_at m.opcode (table events m.interface)) → AreNew None (new_of events m)
unfolding row_of
no_row events m res is e = subst (λ (o : Option New). AreNew None o) (sym (ap (λ (o : Option Row). new_in o m.values) (row_none (row_at m.opcode (table events m.interface)) res is e))) tt

-- what is announced, by the code's row
new_is : (events : Bool) (m : Sent) (r : CodeRow) (res : Option CodeRow) → res ≡ Some r → option_map seen res ≡ option_map parts (row_at m.opcode (table events m.interface)) → new_of events m ≡ new_by (announcing_view r.announces) (map kind_view r.kinds.now) m.values
unfolding row_of
new_is events m r res is e =
    let q = row_is (row_at m.opcode (table events m.interface)) r res is e in
    ap (λ (o : Option Row). new_in o m.values) q.1
    ∙ ap (λ (a : Announces). new_by a q.0.kinds m.values) (sym (ap (λ (p : Parts). p.announces) q.2))
    ∙ ap (λ ks. new_by (announcing_view r.announces) ks m.values) (sym (ap (λ (p : Parts). p.kinds) q.2))

pub announces_nothing : (events : Bool) (m : Sent) (r : CodeRow) (res : Option CodeRow) → res ≡ Some r → option_map seen res ≡ option_map parts (row_at m.opcode (table events m.interface)) → r.announces ≡ announcing.Nothing → AreNew None (new_of events m)
announces_nothing events m r res is e none =
    subst (λ (o : Option New). AreNew None o) (sym (new_is events m r res is e ∙ ap (λ (a : Announcing). new_by (announcing_view a) (map kind_view r.kinds.now) m.values) none)) tt

pub announces_fixed : (events : Bool) (m : Sent) (r : CodeRow) (res : Option CodeRow) (k : KnownInterface) (a : Announced) → res ≡ Some r → option_map seen res ≡ option_map parts (row_at m.opcode (table events m.interface)) → r.announces ≡ announcing.Fixed k →
    a.id ≡ new_id (map kind_view r.kinds.now) m.values → a.interface ≡ Some k → a.version ≡ version_of m.values → AreNew (Some a) (new_of events m)
announces_fixed events m r res k a is e fixed id interface version =
    subst (λ (o : Option New). AreNew (Some a) o) (sym (new_is events m r res is e ∙ ap (λ (b : Announcing). new_by (announcing_view b) (map kind_view r.kinds.now) m.values) fixed)) (record { id = id; interface = interface; version = version })

known_named : (name : List ℕ) (o : Option KnownInterface) → o ≡ known_in (named_as name o)
known_named name None = refl
known_named name (Some k) = refl

pub announces_named : (events : Bool) (m : Sent) (r : CodeRow) (res : Option CodeRow) (a : Announced) → res ≡ Some r → option_map seen res ≡ option_map parts (row_at m.opcode (table events m.interface)) → r.announces ≡ announcing.Named →
    a.id ≡ new_id (map kind_view r.kinds.now) m.values → a.interface ≡ known_of (name_in m.values) → a.version ≡ version_of m.values → AreNew (Some a) (new_of events m)
announces_named events m r res a is e by_name id interface version =
    subst (λ (o : Option New). AreNew (Some a) o) (sym (new_is events m r res is e ∙ ap (λ (b : Announcing). new_by (announcing_view b) (map kind_view r.kinds.now) m.values) by_name))
    (record { id = id; interface = interface ∙ known_named (name_in m.values) (known_of (name_in m.values)); version = version })

-- ---- the object of an id

none_is : (o : Option New) → AreNew None o → o ≡ None
none_is None h = refl
none_is (Some n) h = absurd h

some_is : (a : Announced) (o : Option New) → AreNew (Some a) o → (n : New) × (o ≡ Some n) × IsNew a n
some_is a None h = absurd h
some_is a (Some n) h = (n, refl, h)

pub none_named : (o : Option New) (id : ℕ) → AreNew None o → AreNew None (if_named id o)
none_named None id h = tt
none_named (Some n) id h = absurd h

chosen_new : (b : Bool) (n : New) (a : Announced) → IsNew a n → (b ≡ true → AreNew (Some a) (if b then Some n else None)) × (b ≡ false → AreNew None (if b then Some n else None))
chosen_new true n a h = (λ _. h, λ e. absurd cc)
chosen_new false n a h = (λ e. absurd cc, λ _. tt)

turn_eq : (i j : ℕ) (b : Bool) → (i == j) ≡ b → (j == i) ≡ b
turn_eq i j b e = grind (arith, nat_tests)

pub is_named : (a : Announced) (o : Option New) (id : ℕ) → AreNew (Some a) o → (a.id == id) ≡ true → AreNew (Some a) (if_named id o)
is_named a None id h e = absurd h
is_named a (Some n) id h e = (chosen_new (id == n.id) n a h).0 (turn_eq n.id id true (ap (λ (i : ℕ). i == id) (sym h.id) ∙ e))

pub other_named : (a : Announced) (o : Option New) (id : ℕ) → AreNew (Some a) o → (a.id == id) ≡ false → AreNew None (if_named id o)
other_named a None id h e = absurd h
other_named a (Some n) id h e = (chosen_new (id == n.id) n a h).1 (turn_eq n.id id false (ap (λ (i : ℕ). i == id) (sym h.id) ∙ e))

-- ---- among what was sent

-- the newest first, one more and all
reversed_more : {A : Type 0} (xs : List A) (i : ℕ) (d : A) → i < length xs → reverse (take (i + 1) xs) ≡ get_or xs i d ∷ reverse (take i xs)
reversed_more xs i d lt = ap reverse (take_more xs i d lt) ∙ reverse-append (take i xs) (get_or xs i d ∷ [])

reversed_all : {A : Type 0} (xs : List A) (i : ℕ) → reverse xs ≡ reverse (drop i xs) ++ reverse (take i xs)
reversed_all xs i = ap reverse (sym (take-append-drop i xs)) ∙ reverse-append (take i xs) (drop i xs)

sents : (xs : List Record) → List Sent
sents xs = map sent_view (reverse xs)

announced_before : (events : Bool) (ms past : List Sent) (id : ℕ) (n : New) → announced events past id ≡ Some n → announced events (ms ++ past) id ≡ Some n
announced_before events [] past id n e = e
announced_before events (m ∷ ms) past id n e = announced_more events m (ms ++ past) id n (announced_before events ms past id n e)

one_more : (events : Bool) (m : Sent) (past : List Sent) (id : ℕ) → announced events past id ≡ None → announced events (m ∷ past) id ≡ if_named id (new_of events m)
unfolding announced
one_more events m past id e = ap (λ (o : Option New). or_else o (if_named id (new_of events m))) e

pub sent_none : (events : Bool) (xs : List Record) (i : ℕ) (d : Record) (id : ℕ) → i < length xs → announced events (map sent_view (reverse (take i xs))) id ≡ None → AreNew None (if_named id (new_of events (sent_view (get_or xs i d)))) →
    announced events (map sent_view (reverse (take (i + 1) xs))) id ≡ None
sent_none events xs i d id lt before none =
    ap (λ (l : List Record). announced events (map sent_view l) id) (reversed_more xs i d lt)
    ∙ one_more events (sent_view (get_or xs i d)) (map sent_view (reverse (take i xs))) id before ∙ none_is _ none

pub sent_some : (events : Bool) (xs : List Record) (i : ℕ) (d : Record) (id : ℕ) (a : Announced) → i < length xs → announced events (map sent_view (reverse (take i xs))) id ≡ None → AreNew (Some a) (if_named id (new_of events (sent_view (get_or xs i d)))) →
    AreNew (Some a) (announced events (map sent_view (reverse xs)) id)
sent_some events xs i d id a lt before found =
    let s = some_is a (if_named id (new_of events (sent_view (get_or xs i d)))) found in
    let here : announced events (map sent_view (reverse (take (i + 1) xs))) id ≡ Some s.0 =
    ap (λ (l : List Record). announced events (map sent_view l) id) (reversed_more xs i d lt)
    ∙ one_more events (sent_view (get_or xs i d)) (map sent_view (reverse (take i xs))) id before ∙ s.1 in
    let all : announced events (map sent_view (reverse xs)) id ≡ Some s.0 =
    ap (λ (l : List Record). announced events (map sent_view l) id) (reversed_all xs (i + 1))
    ∙ ap (λ (l : List Sent). announced events l id) (map-append sent_view (reverse (drop (i + 1) xs)) (reverse (take (i + 1) xs)))
    ∙ announced_before events (map sent_view (reverse (drop (i + 1) xs))) (map sent_view (reverse (take (i + 1) xs))) id s.0 here in
    subst (λ (o : Option New). AreNew (Some a) o) (sym all) s.2

-- ---- among what was taken

-- what a message that was taken announces under that id
abbrev pub new_in_got : Bool → ℕ → StoredGot → Option New
new_in_got events id (got.Message message after) = if_named id (new_of events (sent_view message))
new_in_got events id (got.InvalidObject x after) = None

heard_one : (events : Bool) (g : StoredGot) (past : List Got) (id : ℕ) → heard events past id ≡ None → heard events (got_view g ∷ past) id ≡ new_in_got events id g
unfolding heard
heard_one events (got.Message message after) past id e = ap (λ (o : Option New). or_else o (if_named id (new_of events (sent_view message)))) e
heard_one events (got.InvalidObject x after) past id e = e

else_first : (o : Option New) (p : Option New) (n : New) → o ≡ Some n → or_else o p ≡ Some n
else_first None p n e = absurd cc
else_first (Some m) p n e = e

heard_more : (events : Bool) (g : Got) (past : List Got) (id : ℕ) (n : New) → heard events past id ≡ Some n → heard events (g ∷ past) id ≡ Some n
unfolding heard
heard_more events (Took r after) past id n e = else_first (heard events past id) (if_named id (new_of events r)) n e
heard_more events (Missed x after) past id n e = e

heard_before : (events : Bool) (gs past : List Got) (id : ℕ) (n : New) → heard events past id ≡ Some n → heard events (gs ++ past) id ≡ Some n
heard_before events [] past id n e = e
heard_before events (g ∷ gs) past id n e = heard_more events g (gs ++ past) id n (heard_before events gs past id n e)

pub taken_none : (events : Bool) (xs : List StoredGot) (i : ℕ) (d : StoredGot) (id : ℕ) → i < length xs → heard events (map got_view (reverse (take i xs))) id ≡ None → AreNew None (new_in_got events id (get_or xs i d)) →
    heard events (map got_view (reverse (take (i + 1) xs))) id ≡ None
taken_none events xs i d id lt before none =
    ap (λ (l : List StoredGot). heard events (map got_view l) id) (reversed_more xs i d lt)
    ∙ heard_one events (get_or xs i d) (map got_view (reverse (take i xs))) id before ∙ none_is _ none

pub taken_some : (events : Bool) (xs : List StoredGot) (i : ℕ) (d : StoredGot) (id : ℕ) (a : Announced) → i < length xs → heard events (map got_view (reverse (take i xs))) id ≡ None → AreNew (Some a) (new_in_got events id (get_or xs i d)) →
    AreNew (Some a) (heard events (map got_view (reverse xs)) id)
taken_some events xs i d id a lt before found =
    let s = some_is a (new_in_got events id (get_or xs i d)) found in
    let here : heard events (map got_view (reverse (take (i + 1) xs))) id ≡ Some s.0 =
    ap (λ (l : List StoredGot). heard events (map got_view l) id) (reversed_more xs i d lt)
    ∙ heard_one events (get_or xs i d) (map got_view (reverse (take i xs))) id before ∙ s.1 in
    let all : heard events (map got_view (reverse xs)) id ≡ Some s.0 =
    ap (λ (l : List StoredGot). heard events (map got_view l) id) (reversed_all xs (i + 1))
    ∙ ap (λ (l : List Got). heard events l id) (map-append got_view (reverse (drop (i + 1) xs)) (reverse (take (i + 1) xs)))
    ∙ heard_before events (map got_view (reverse (drop (i + 1) xs))) (map got_view (reverse (take (i + 1) xs))) id s.0 here in
    subst (λ (o : Option New). AreNew (Some a) o) (sym all) s.2

-- ---- among both

pub met_first : (events : Bool) (sent : List Sent) (taken : List Got) (id : ℕ) (a : Announced) → (id == 0) ≡ true → IsNew a first_new → AreNew (Some a) (acquainted events sent taken id)
met_first events sent taken id a e new = at (id == 0) e
  where
    at : (b : Bool) → b ≡ true → AreNew (Some a) (or_else (if b then Some first_new else None) (or_else (announced events sent id) (heard (other events) taken id)))
    at true is = new
    at false is = absurd cc

pub met_later : (events : Bool) (sent : List Sent) (taken : List Got) (id : ℕ) (r : Option Announced) → (id == 0) ≡ false → AreNew r (or_else (announced events sent id) (heard (other events) taken id)) → AreNew r (acquainted events sent taken id)
met_later events sent taken id r e new = at (id == 0) e
  where
    at : (b : Bool) → b ≡ false → AreNew r (or_else (if b then Some first_new else None) (or_else (announced events sent id) (heard (other events) taken id)))
    at true is = absurd cc
    at false is = new

pub first_of : (o p : Option New) (a : Announced) → AreNew (Some a) o → AreNew (Some a) (or_else o p)
first_of None p a h = absurd h
first_of (Some n) p a h = h

pub second_of : (o p : Option New) (r : Option Announced) → AreNew None o → AreNew r p → AreNew r (or_else o p)
second_of None p r h k = k
second_of (Some n) p r h k = absurd h

pub other_is : (events : Bool) → not events ≡ other events
other_is true = refl
other_is false = refl

pub destroys_is : (o : Option Row) (r : CodeRow) (res : Option CodeRow) → res ≡ Some r → option_map seen res ≡ option_map parts o → r.destroys ≡ ends_target o
destroys_is o r res is e =
    let q = row_is o r res is e in
    ap (λ (p : Parts). p.destroys) q.2 ∙ sym (ap ends_target q.1)

pub none_sent : (events : Bool) (id : ℕ) → announced events [] id ≡ None
unfolding announced
none_sent events id = refl

pub none_taken : (events : Bool) (id : ℕ) → heard events [] id ≡ None
unfolding heard
none_taken events id = refl
