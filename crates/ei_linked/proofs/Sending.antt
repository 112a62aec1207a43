-- What an end answers that is asked for a message.
use Rattle.std.proofs.Common.{◌≡◌, ℕ, ◌<◌, ◌≤◌, ◌^◌, Bool, List, Option, Some, None, Result, Ok, Err, refl, sym, ap, subst, ◌∙◌, arith}
use Rattle.std.specs.Prelude.{IsErrOf, OnOk}
use Rattle.ei_spec.specs.declared.interface.KnownInterface.{KnownInterface}
use Rattle.ei_spec.specs.Interface.{Interface, Known, ObjectView}
use Rattle.ei_spec.specs.Rows.{Row}
use Rattle.ei_wire.specs.declared.error.SendError.{SendError}
use Rattle.ei_wire.specs.declared.error.SendError.TheVariants as send_error
use Rattle.ei_backend.specs.Table.{own, own_end}
use Rattle.ei_backend.specs.Announcement.{known_in}
use Rattle.ei_ends.specs.Sent.{New, new_of, new_in, row_of}
use Rattle.ei_ends.specs.Way.{HasNextId, seen_by}
use Rattle.ei_ends.specs.Steps.{HasId}
use Rattle.ei_values.specs.declared.value.Value.{Value as Stored}
use Rattle.ei_values.specs.Stored.{AreLawful}
use Rattle.ei_linked.specs.declared.record.Record.{Record}
use Rattle.ei_linked.specs.declared.record.Announced.{Announced}
use Rattle.ei_linked.specs.Stored.{StoredEnd, sent_view, having_sent}
use Rattle.ei_linked.specs.Asked.{asked, IsOfRow, IsNext, IsTooLong, Sends, IsSendable, AreNew}
use Rattle.ei_linked.proofs.TableNews.{announces_new}
use Rattle.ei_linked.proofs.Filled.{row_of_kinds, next_new}

-- ---- without a new object

nothing_new : (o : Option New) → AreNew None o → o ≡ None
nothing_new None h = refl
nothing_new (Some n) h = absurd h

pub plain : (events : Bool) (m : Record) (res : Option Announced) → res ≡ None → AreNew res (new_of events (sent_view m)) → new_of events (sent_view m) ≡ None
plain events m res is h = nothing_new (new_of events (sent_view m)) (subst (λ (r : Option Announced). AreNew r (new_of events (sent_view m))) is h)

pub plain_ok : (events : Bool) (m : Record) (x y : StoredEnd) → new_of events (sent_view m) ≡ None → (IsTooLong m → ⊥) → y ≡ having_sent events m x → Sends events m (Ok None) x y
unfolding HasId
plain_ok events m x y none short is = (subst (λ (o : Option New). HasId o x.backend.table) (sym none) tt, short, is, sym (ap (seen_by x.backend.table.client) none))

pub plain_err : {T : Type 0} (events : Bool) (m : Record) (x y : StoredEnd) (res : Result T SendError) (e : SendError) → res ≡ Err e → new_of events (sent_view m) ≡ None →
    (IsErrOf res send_error.MessageTooLong → IsTooLong m) → (IsErrOf res send_error.IdsExhausted → ⊥) → y ≡ x → Sends events m (Err e) x y
unfolding HasId
plain_err events m x y res send_error.MessageTooLong is none long never same = (subst (λ (o : Option New). HasId o x.backend.table) (sym none) tt, long is, same)
plain_err events m x y res send_error.IdsExhausted is none long never same = absurd (never is)
plain_err events m x y res send_error.NoMemory is none long never same = same

-- ---- with one

the_new : (next : ℕ) (a : Announced) (k : KnownInterface) (o : Option New) → AreNew (Some a) o → IsNext next o → a.interface ≡ Some k → o ≡ Some (record { id = next; interface = Known k; version = a.version })
the_new next a k None h is e = absurd h
the_new next a k (Some n) h is e =
    let j : KnownInterface = is.1.0 in
    let same : n.interface ≡ Known j = is.1.1 in
    let some : Some k ≡ Some j = sym e ∙ h.interface ∙ ap known_in same in
    let interface : n.interface ≡ Known k = same ∙ (let t : j ≡ k = cc in ap Known t) in
    let make : (i : ℕ) (f : Interface) (v : ℕ) → Option New = λ i f v. Some (record { id = i; interface = f; version = v }) in
    ap (λ (i : ℕ). make i n.interface n.version) is.0 ∙ ap (λ (f : Interface). make next f n.version) interface ∙ ap (λ (v : ℕ). make next (Known k) v) (sym h.version)

pub announced : (events : Bool) (m : Record) (next : ℕ) (res : Option Announced) (a : Announced) (k : KnownInterface) → res ≡ Some a → AreNew res (new_of events (sent_view m)) → IsNext next (new_of events (sent_view m)) → a.interface ≡ Some k →
    new_of events (sent_view m) ≡ Some (record { id = next; interface = Known k; version = a.version })
announced events m next res a k is h fresh e = the_new next a k (new_of events (sent_view m)) (subst (λ (r : Option Announced). AreNew r (new_of events (sent_view m))) is h) fresh e

never_other : (next : ℕ) (a : Announced) (o : Option New) → AreNew (Some a) o → IsNext next o → a.interface ≡ None → ⊥
never_other next a None h is e = h
never_other next a (Some n) h is e = let some : ◌≡◌ {A = Option KnownInterface} None (Some is.1.0) = sym e ∙ h.interface ∙ ap known_in is.1.1 in cc

pub known_new : (events : Bool) (m : Record) (next : ℕ) (res : Option Announced) (a : Announced) → res ≡ Some a → AreNew res (new_of events (sent_view m)) → IsNext next (new_of events (sent_view m)) → a.interface ≡ None → ⊥
known_new events m next res a is h fresh e = never_other next a (new_of events (sent_view m)) (subst (λ (r : Option Announced). AreNew r (new_of events (sent_view m))) is h) fresh e

pub new_ok : (events : Bool) (m : Record) (x y : StoredEnd) (k : KnownInterface) (version : ℕ) (o : ObjectView) → new_of events (sent_view m) ≡ Some (record { id = x.backend.table.next_own; interface = Known k; version = version }) →
    x.backend.table.next_own < own_end x.backend.table → (IsTooLong m → ⊥) → y ≡ having_sent events m x → o ≡ own x.backend.table (Known k) version → Sends events m (Ok (Some o)) x y
unfolding HasId
new_ok events m x y k version o new left short is object =
    (subst (λ (n : Option New). HasId n x.backend.table) (sym new) left, short, is, ap (λ (v : ObjectView). let s : Option ObjectView = Some v in s) object ∙ sym (ap (seen_by x.backend.table.client) new))

pub new_err : {T : Type 0} (events : Bool) (m : Record) (x y : StoredEnd) (k : KnownInterface) (version : ℕ) (res : Result T SendError) (e : SendError) → res ≡ Err e → new_of events (sent_view m) ≡ Some (record { id = x.backend.table.next_own; interface = Known k; version = version }) →
    (IsErrOf res send_error.MessageTooLong → (x.backend.table.next_own < own_end x.backend.table) × IsTooLong m) → (IsErrOf res send_error.IdsExhausted → own_end x.backend.table ≤ x.backend.table.next_own) → y ≡ x → Sends events m (Err e) x y
unfolding HasId
new_err events m x y k version res send_error.MessageTooLong is new long gone same = (subst (λ (n : Option New). HasId n x.backend.table) (sym new) (long is).0, (long is).1, same)
new_err events m x y k version res send_error.IdsExhausted is new long gone same =
    (λ has. let left : x.backend.table.next_own < own_end x.backend.table = subst (λ (n : Option New). HasId n x.backend.table) new has in let none = gone is in omega (arith, left, none), same)
new_err events m x y k version res send_error.NoMemory is new long gone same = same

-- ---- what is asked for

asked_row : (events : Bool) (next id : ℕ) (interface : KnownInterface) (version opcode : ℕ) (values : List Stored) (h : IsOfRow events interface opcode values) → row_of events (sent_view (asked next id interface version opcode values)) ≡ Some h.row
unfolding row_of
asked_row events next id interface version opcode values h = h.is_row

has_next : (next : ℕ) (o : Option New) → IsNext next o → HasNextId next o
has_next next None h = tt
has_next next (Some n) h = h.0

pub asked_next : (events : Bool) (next id : ℕ) (interface : KnownInterface) (version opcode : ℕ) (values : List Stored) → next < 2 ^ 64 → AreLawful values → IsOfRow events interface opcode values →
    IsNext next (new_of events (sent_view (asked next id interface version opcode values)))
asked_next events next id interface version opcode values lt law h =
    let row = asked_row events next id interface version opcode values h in
    subst (λ (o : Option New). IsNext next o) (sym (ap (λ (r : Option Row). new_in r (sent_view (asked next id interface version opcode values)).values) row))
    (next_new h.row.announces h.row.kinds values next lt law (announces_new events interface opcode h.row h.is_row) h.fit)

pub asked_sendable : (events : Bool) (next id : ℕ) (interface : KnownInterface) (version opcode : ℕ) (values : List Stored) → next < 2 ^ 64 → id < 2 ^ 64 → opcode < 2 ^ 32 → AreLawful values → IsOfRow events interface opcode values →
    IsSendable events next (sent_view (asked next id interface version opcode values))
asked_sendable events next id interface version opcode values lt id_lt op_lt law h = record {
  row = h.row;
  is_row = asked_row events next id interface version opcode values h;
  kinds = row_of_kinds h.row.announces h.row.kinds values next lt law (announces_new events interface opcode h.row h.is_row) h.fit;
  target = id_lt;
  opcode = op_lt;
  fresh = has_next next _ (asked_next events next id interface version opcode values lt law h);
}

pub same_sends : (events : Bool) (m n : Record) (result : Result (Option ObjectView) SendError) (x y : StoredEnd) → m ≡ n → Sends events m result x y → Sends events n result x y
same_sends events m n result x y e h = subst (λ (r : Record). Sends events r result x y) e h

pub on_ok : {T E : Type 0} (r : Result T E) (P : Type 0) → P → OnOk r P
on_ok (Ok x) P h = h
on_ok (Err e) P h = tt
