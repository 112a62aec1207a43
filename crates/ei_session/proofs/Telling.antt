-- One more event, for a client who reads events.
use Rattle.std.proofs.Common.{◌≡◌, ℕ, suc, ◌+◌, ◌-◌, ◌<◌, ◌≤◌, ◌%◌, ◌^◌, Bool, true, false, cond, ◌&&◌, ◌||◌, eqb, List, [], ◌∷◌, ◌++◌, reverse, length, Option}
use Rattle.std.proofs.Common.{Some, None, refl, sym, ap, subst, ◌∙◌, arith, append_assoc, eq-eqb, ◌⊎◌, inl, inr}
use Rattle.std.specs.Prelude.{is_some, unwrap_or, nat_eq, slice_get}
use Rattle.std.specs.Option.{option_or}
use Rattle.std.specs.List.{list_any}
use Rattle.std.proofs.lemmas.Bool.{eqb-true, cases_lt}
use Rattle.std.proofs.lemmas.Bool.Decides.{nat_tests}
use Rattle.std.proofs.lemmas.List.{reverse-append, append-nil}
use Rattle.ei_spec.specs.declared.interface.KnownInterface.{KnownInterface}
use Rattle.ei_spec.specs.declared.interface.KnownInterface.TheVariants as known
use Rattle.ei_spec.specs.Interface.{name_of}
use Rattle.ei_spec.specs.Value.{Value, Word, Long, Letters}
use Rattle.ei_spec.specs.Rows.{Nothing, Row, new_id}
use Rattle.ei_spec.specs.Table.{destroyed}
use Rattle.ei_spec.specs.Message.{Raw}
use Rattle.ei_spec.specs.History.{occurs}
use Rattle.ei_spec.proofs.HistoryLaws.{occurs_or}
use Rattle.ei_session.specs.Setup.{Setup}
use Rattle.ei_session.specs.Events.{interface_event, interface_events, destroyed_event, destroyed_events}
use Rattle.ei_session.specs.Told.{row_of, told_as, told_by, tells, told, interface_of, has_mark, destroys, ReadsAs, Calls, IsAnnounced, HasTarget}
use Rattle.ei_session.proofs.Choices.{turned, none_some, and_false, not_both}
use Rattle.ei_spec.proofs.NameLaws.{known_again}
use Rattle.ei_session.proofs.EventRows.{interface_row, reads_interface, is_mortal, reads_destroyed}

-- ---- one event

pub or_nothing : {A : Type 0} (o : Option A) → option_or o None ≡ o
or_nothing None = refl
or_nothing (Some a) = refl

pub or_assoc : {A : Type 0} (a b c : Option A) → option_or a (option_or b c) ≡ option_or (option_or a b) c
or_assoc None b c = refl
or_assoc (Some x) b c = refl

no_choice : (b : Bool) (o : Option KnownInterface) → o ≡ None → cond b o None ≡ None
no_choice true o e = e
no_choice false o e = refl

pub announced_nothing : (id : ℕ) (row : Row) (values : List Value) → row.announces ≡ Nothing → told_by id (Some row) (Some values) ≡ None
announced_nothing id row values n = no_choice (eqb (new_id row.kinds values) id) (told_as row.announces values) (rw n refl)

pub announces_by : (k : KnownInterface) (event : Raw) (row : Row) (values : List Value) (id : ℕ) → ReadsAs k event row values → tells k event id ≡ told_by id (Some row) (Some values)
announces_by k event row values id r = rw (r.is_row, r.reads) refl

pub told_more : (earlier : List Raw) (event : Raw) (k : KnownInterface) (row : Row) (values : List Value) (id : ℕ) → interface_of earlier event ≡ k → ReadsAs k event row values →
    told (event ∷ earlier) id ≡ option_or (told_by id (Some row) (Some values)) (told earlier id)
unfolding told
told_more earlier event k row values id at r =
    ap (λ (x : KnownInterface). option_or (tells x event id) (told earlier id)) at ∙ ap (λ (o : Option KnownInterface). option_or o (told earlier id)) (announces_by k event row values id r)

pub gone_more : (earlier : List Raw) (event : Raw) (k : KnownInterface) (row : Row) (values : List Value) (id : ℕ) → interface_of earlier event ≡ k → ReadsAs k event row values →
    occurs (destroys id) (event ∷ earlier) ≡ ((eqb event.id id && row.destroys) || occurs (destroys id) earlier)
unfolding destroys
gone_more earlier event k row values id at r =
    let mark : has_mark (row_of (interface_of earlier event) event) ≡ row.destroys = ap (λ (x : KnownInterface). has_mark (row_of x event)) at ∙ ap has_mark r.is_row in
    occurs_or (destroys id) earlier event ∙ ap (λ (b : Bool). (eqb event.id id && b) || occurs (destroys id) earlier) mark

pub interface_at : (earlier : List Raw) (event : Raw) (t : ℕ) (k : KnownInterface) → event.id ≡ t → told earlier t ≡ Some k → interface_of earlier event ≡ k
interface_at earlier event t k at h = ap (λ (n : ℕ). unwrap_or (told earlier n) known.Callback) at ∙ ap (λ (o : Option KnownInterface). unwrap_or o known.Callback) h

-- what holds of an event behind the earlier ones: it has a target, which no earlier event destroyed, what it announces is new, and it reads as a row
pub record IsTold (setup : Setup) (past earlier : List Raw) (event : Raw) : Type 0 where
  pub target : HasTarget setup past earlier event
  pub there : occurs (destroys event.id) earlier ≡ false
  pub new : (id : ℕ) (k : KnownInterface) → tells (interface_of earlier event) event id ≡ Some k → told earlier id ≡ None
  pub row : Row
  pub values : List Value
  pub reads : ReadsAs (interface_of earlier event) event row values

later_announced : (x : Raw) (earlier : List Raw) (id : ℕ) → IsAnnounced earlier id → IsAnnounced (x ∷ earlier) id
later_announced x earlier id a = record { later = x ∷ a.later; event = a.event; before = a.before; place = ap (λ (l : List Raw). x ∷ l) a.place; announced = a.announced }

told_step : (x : Raw) (earlier : List Raw) (id : ℕ) (o : Option KnownInterface) → tells (interface_of earlier x) x id ≡ o → is_some (option_or o (told earlier id)) ≡ true → (is_some (told earlier id) ≡ true → (id ≡ 0) ⊎ IsAnnounced earlier id) → (id ≡ 0) ⊎ IsAnnounced (x ∷ earlier) id
told_step x earlier id (Some k) e h next = inr (record { later = []; event = x; before = earlier; place = refl; announced = ap is_some e })
told_step x earlier id None e h next = elim (next h) [ inl z ↦ inl z | inr a ↦ inr (later_announced x earlier id a) ]

-- what the client is told of is object 0, or an event announced it
pub told_announced : (earlier : List Raw) (id : ℕ) → is_some (told earlier id) ≡ true → (id ≡ 0) ⊎ IsAnnounced earlier id
unfolding told
told_announced [] id h = by (eqb id 0) refl h
  where
    by : (b : Bool) → eqb id 0 ≡ b → is_some (cond b (Some known.Handshake) None) ≡ true → (id ≡ 0) ⊎ IsAnnounced [] id
    by true e h = inl (eqb-true id 0 e)
    by false e h = absurd cc
told_announced (x ∷ earlier) id h = told_step x earlier id (tells (interface_of earlier x) x id) refl h (told_announced earlier id)

target_by : (setup : Setup) (past earlier : List Raw) (event : Raw) → (event.id ≡ 0) ⊎ IsAnnounced earlier event.id → HasTarget setup past earlier event
target_by setup past earlier event (inl z) = inl z
target_by setup past earlier event (inr a) = inr (inl a)

-- what the row announces by the arguments wasn't told before
abbrev pub IsNewBy : List Raw → Row → List Value → Type 0
IsNewBy earlier row values = (id : ℕ) (k : KnownInterface) → told_by id (Some row) (Some values) ≡ Some k → told earlier id ≡ None

new_nothing : (earlier : List Raw) (row : Row) (values : List Value) → row.announces ≡ Nothing → IsNewBy earlier row values
new_nothing earlier row values n id k h = absurd (none_some k (sym (announced_nothing id row values n) ∙ h))

-- an event to what is told and isn't gone, which announces what wasn't told
pub is_told : (setup : Setup) (past earlier : List Raw) (event : Raw) (t : ℕ) (k : KnownInterface) (row : Row) (values : List Value) → event.id ≡ t → told earlier t ≡ Some k → occurs (destroys t) earlier ≡ false → IsNewBy earlier row values → ReadsAs k event row values → IsTold setup past earlier event
is_told setup past earlier event t k row values at h d new r =
    let reads = subst (λ x. ReadsAs x event row values) (sym (interface_at earlier event t k at h)) r in
    record {
      target = target_by setup past earlier event (told_announced earlier event.id (ap (λ (n : ℕ). is_some (told earlier n)) at ∙ ap is_some h));
      there = ap (λ (n : ℕ). occurs (destroys n) earlier) at ∙ d;
      new = λ id i q. new id i (sym (announces_by (interface_of earlier event) event row values id reads) ∙ q);
      row = row;
      values = values;
      reads = reads;
    }

-- ---- several events

-- the events come one after another, the oldest first, behind the earlier ones
abbrev pub onto : List Raw → List Raw → List Raw
onto [] earlier = earlier
onto (x ∷ xs) earlier = onto xs (x ∷ earlier)

pub onto_append : (xs ys earlier : List Raw) → onto (xs ++ ys) earlier ≡ onto ys (onto xs earlier)
onto_append [] ys earlier = refl
onto_append (x ∷ xs) ys earlier = onto_append xs ys (x ∷ earlier)

onto_reverse : (xs earlier : List Raw) → onto xs earlier ≡ reverse xs ++ earlier
onto_reverse [] earlier = refl
onto_reverse (x ∷ xs) earlier =
    onto_reverse xs (x ∷ earlier) ∙ sym (append_assoc (reverse xs) (x ∷ []) earlier) ∙ ap (λ (l : List Raw). l ++ earlier) (sym (reverse-append (x ∷ []) xs))

pub onto_nothing : (xs : List Raw) → onto xs [] ≡ reverse xs
onto_nothing xs = onto_reverse xs [] ∙ append-nil (reverse xs)

-- each of the events is one to a target, and reads as its row
abbrev pub AreTold : Setup → List Raw → List Raw → List Raw → Type 0
AreTold setup past earlier [] = Unit {0}
AreTold setup past earlier (x ∷ xs) = IsTold setup past earlier x × AreTold setup past (x ∷ earlier) xs

pub both_told : (setup : Setup) (past : List Raw) (xs ys earlier : List Raw) → AreTold setup past earlier xs → AreTold setup past (onto xs earlier) ys → AreTold setup past earlier (xs ++ ys)
both_told setup past [] ys earlier a b = b
both_told setup past (x ∷ xs) ys earlier a b = (a.0, both_told setup past xs ys (x ∷ earlier) a.1 b)

pub told_at : (setup : Setup) (past : List Raw) (xs : List Raw) (x : Raw) (ys earlier : List Raw) → AreTold setup past earlier (xs ++ (x ∷ ys)) → IsTold setup past (onto xs earlier) x
told_at setup past [] x ys earlier a = a.0
told_at setup past (y ∷ xs) x ys earlier a = told_at setup past xs x ys (y ∷ earlier) a.1

calls_later : (setup : Setup) (m : Raw) (past earlier : List Raw) (x : Raw) → Calls setup past earlier x → Calls setup (m ∷ past) earlier x
calls_later setup m past earlier x c = record { more = m ∷ c.more; sync = c.sync; before = c.before; place = ap (λ (l : List Raw). m ∷ l) c.place; callback = c.callback; first = c.first }

pub told_later : (setup : Setup) (m : Raw) (past : List Raw) (xs earlier : List Raw) → AreTold setup past earlier xs → AreTold setup (m ∷ past) earlier xs
told_later setup m past [] earlier a = tt
told_later setup m past (x ∷ xs) earlier a = (
  record { target = elim a.0.target [ inl z ↦ inl z | inr o ↦ elim o [ inl s ↦ inr (inl s) | inr c ↦ inr (inr (calls_later setup m past earlier x c)) ] ]; there = a.0.there; new = a.0.new; row = a.0.row; values = a.0.values; reads = a.0.reads },
  told_later setup m past xs (x ∷ earlier) a.1,
)

-- the same is told and gone
pub record Same (a b : List Raw) : Type 0 where
  pub told : (id : ℕ) → told b id ≡ told a id
  pub gone : (id : ℕ) → occurs (destroys id) b ≡ occurs (destroys id) a

pub same_then : (a b c : List Raw) → Same a b → Same b c → Same a c
same_then a b c s t = record { told = λ id. t.told id ∙ s.told id; gone = λ id. t.gone id ∙ s.gone id }

-- an event that announces and destroys nothing
pub record Quiet (k : KnownInterface) (t : ℕ) (event : Raw) : Type 0 where
  pub at : event.id ≡ t
  pub row : Row
  pub values : List Value
  pub reads : ReadsAs k event row values
  pub nothing : row.announces ≡ Nothing
  pub stays : row.destroys ≡ false

abbrev pub AllQuiet : KnownInterface → ℕ → List Raw → Type 0
AllQuiet k t [] = Unit {0}
AllQuiet k t (x ∷ xs) = Quiet k t x × AllQuiet k t xs

quiet_same : (k : KnownInterface) (t : ℕ) (event : Raw) (earlier : List Raw) → Quiet k t event → told earlier t ≡ Some k → Same earlier (event ∷ earlier)
quiet_same k t event earlier q h =
    let at = interface_at earlier event t k q.at h in
    record {
      told = λ id. told_more earlier event k q.row q.values id at q.reads ∙ ap (λ (o : Option KnownInterface). option_or o (told earlier id)) (announced_nothing id q.row q.values q.nothing);
      gone = λ id. gone_more earlier event k q.row q.values id at q.reads ∙ ap (λ (b : Bool). b || occurs (destroys id) earlier) (ap (λ (b : Bool). eqb event.id id && b) q.stays ∙ and_false (eqb event.id id));
    }

pub quiet_told : (setup : Setup) (past : List Raw) (k : KnownInterface) (t : ℕ) (xs earlier : List Raw) → AllQuiet k t xs → told earlier t ≡ Some k → occurs (destroys t) earlier ≡ false →
    AreTold setup past earlier xs × Same earlier (onto xs earlier)
quiet_told setup past k t [] earlier q h d = (tt, record { told = λ id. refl; gone = λ id. refl })
quiet_told setup past k t (x ∷ xs) earlier q h d =
    let s = quiet_same k t x earlier q.0 h in
    let next = quiet_told setup past k t xs (x ∷ earlier) q.1 (s.told t ∙ h) (s.gone t ∙ d) in
    ((is_told setup past earlier x t k q.0.row q.0.values q.0.at h d (new_nothing earlier q.0.row q.0.values q.0.nothing) q.0.reads, next.0), same_then earlier (x ∷ earlier) (onto xs (x ∷ earlier)) s next.1)

-- ---- the interfaces of a device

-- what is at the id, where interfaces have the ids from the first on
abbrev pub parts_at : ℕ → List KnownInterface → ℕ → Option KnownInterface
parts_at start [] id = None
parts_at start (i ∷ is) id = option_or (parts_at (start + 1) is id) (cond (eqb start id) (Some i) None)

pub parts_below : (is : List KnownInterface) (start id : ℕ) → id < start → parts_at start is id ≡ None
parts_below [] start id lt = refl
parts_below (i ∷ is) start id lt =
    let far : eqb start id ≡ false = grind (arith, nat_tests, lt) in
    rw (parts_below is (start + 1) id (omega (arith, lt)), far) refl

pub parts_slot : (is : List KnownInterface) (start id : ℕ) → start ≤ id → parts_at start is id ≡ slice_get is (id - start)
parts_slot [] start id le = refl
parts_slot (i ∷ is) start id le =
    elim (cases_lt start id) [
      | inl lt ↦ let far : eqb start id ≡ false = grind (arith, nat_tests, lt) in
          let place : id - start ≡ suc (id - (start + 1)) = omega (arith, lt) in
          rw (far, place) (or_nothing (parts_at (start + 1) is id) ∙ parts_slot is (start + 1) id (omega (arith, lt)))
      | inr ge ↦ let same : eqb start id ≡ true = grind (arith, nat_tests, ge, le) in
          let place : id - start ≡ 0 = omega (arith, ge) in
          rw (same, place, parts_below is (start + 1) id (omega (arith, ge))) refl
    ]

-- what is told and gone behind the events of interfaces
pub record Parts (a b : List Raw) (start : ℕ) (is : List KnownInterface) : Type 0 where
  pub told : (id : ℕ) → told b id ≡ option_or (parts_at start is id) (told a id)
  pub gone : (id : ℕ) → occurs (destroys id) b ≡ occurs (destroys id) a

-- a new id is that of the row
pub started : (id start : ℕ) (o : Option KnownInterface) (k : KnownInterface) → cond (eqb start id) o None ≡ Some k → start ≡ id
started id start o k h = by (eqb start id) refl h
  where
    by : (b : Bool) → eqb start id ≡ b → cond b o None ≡ Some k → start ≡ id
    by true e h = eqb-true start id e
    by false e h = absurd (none_some k h)

module _ (setup : Setup) (past : List Raw) (versions : KnownInterface → ℕ) (d : ℕ) where
  pub parts_told : ((i : KnownInterface) → versions i < 2 ^ 32) → (is : List KnownInterface) (start : ℕ) (earlier : List Raw) → d < start → start + length is ≤ 2 ^ 64 → told earlier d ≡ Some known.Device → occurs (destroys d) earlier ≡ false → ((id : ℕ) → start ≤ id → told earlier id ≡ None) →
      AreTold setup past earlier (interface_events versions d start is) × Parts earlier (onto (interface_events versions d start is) earlier) start is
  parts_told vs [] start earlier lt le h g free = (tt, record { told = λ id. refl; gone = λ id. refl })
  parts_told vs (i ∷ is) start earlier lt le h g free =
      let x = interface_event d start i (versions i) in
      let r = reads_interface d start i (versions i) (omega (arith, le)) (vs i) in
      let at = interface_at earlier x d known.Device refl h in
      let one : (id : ℕ) → told (x ∷ earlier) id ≡ option_or (cond (eqb start id) (Some i) None) (told earlier id) = λ id. told_more earlier x known.Device interface_row _ id at r ∙ ap (λ (o : Option KnownInterface). option_or (cond (eqb start id) o None) (told earlier id)) (known_again i) in
      let kept : (id : ℕ) → occurs (destroys id) (x ∷ earlier) ≡ occurs (destroys id) earlier = λ id. gone_more earlier x known.Device interface_row _ id at r ∙ ap (λ (b : Bool). b || occurs (destroys id) earlier) (and_false (eqb d id)) in
      let far : eqb start d ≡ false = grind (arith, nat_tests, lt) in
      let still : told (x ∷ earlier) d ≡ Some known.Device = one d ∙ rw far h in
      let new : IsNewBy earlier interface_row (Long start ∷ Letters (name_of i) ∷ Word (versions i) ∷ []) = λ id k q. free id (omega (arith, started id start (Some i) k (sym (ap (λ (o : Option KnownInterface). cond (eqb start id) o None) (known_again i)) ∙ q))) in
      let later : (id : ℕ) → start + 1 ≤ id → told (x ∷ earlier) id ≡ None = λ id above. let other : eqb start id ≡ false = grind (arith, nat_tests, above) in one id ∙ rw other (free id (omega (arith, above))) in
      let next = parts_told vs is (start + 1) (x ∷ earlier) (omega (arith, lt)) (omega (arith, le)) still (kept d ∙ g) later in (
        (is_told setup past earlier x d known.Device interface_row _ refl h g new r, next.0),
        record {
          told = λ id. next.1.told id ∙ ap (λ (o : Option KnownInterface). option_or (parts_at (start + 1) is id) o) (one id) ∙ or_assoc (parts_at (start + 1) is id) (cond (eqb start id) (Some i) None) (told earlier id);
          gone = λ id. next.1.gone id ∙ kept id;
        },
      )

-- ---- objects that go

-- no id stands twice
abbrev pub Differ : List ℕ → Type 0
Differ [] = Unit {0}
Differ (id ∷ ids) = (list_any (nat_eq id) ids ≡ false) × Differ ids

-- the client is told of the object, which may go and isn't gone
pub record Mortal (earlier : List Raw) (id : ℕ) : Type 0 where
  pub kind : KnownInterface
  pub is : told earlier id ≡ Some kind
  pub may : is_mortal kind ≡ true
  pub there : occurs (destroys id) earlier ≡ false

-- what is told and gone behind the events of what goes
pub record Went (a b : List Raw) (ids : List ℕ) : Type 0 where
  pub told : (id : ℕ) → told b id ≡ told a id
  pub gone : (id : ℕ) → occurs (destroys id) b ≡ (list_any (nat_eq id) ids || occurs (destroys id) a)

apart : (id j : ℕ) (ids : List ℕ) → list_any (nat_eq id) ids ≡ false → list_any (nat_eq j) ids ≡ true → eqb id j ≡ false
apart id j ids n y = by (eqb id j) refl
  where
    by : (b : Bool) → eqb id j ≡ b → b ≡ false
    by true e = absurd (not_both _ y (ap (λ (x : ℕ). list_any (nat_eq x) ids) (sym (eqb-true id j e)) ∙ n))
    by false e = refl

went_bools : (a b c : Bool) → (a || ((b && true) || c)) ≡ ((b || a) || c)
went_bools true true c = refl
went_bools true false c = refl
went_bools false true c = refl
went_bools false false c = refl

module _ (setup : Setup) (past : List Raw) where
  pub going_told : (ids : List ℕ) (serial : ℕ) (earlier : List Raw) → Differ ids → ((id : ℕ) → list_any (nat_eq id) ids ≡ true → Mortal earlier id) →
      AreTold setup past earlier (destroyed_events serial ids) × Went earlier (onto (destroyed_events serial ids) earlier) ids
  going_told [] serial earlier differ h = (tt, record { told = λ id. refl; gone = λ id. refl })
  going_told (id ∷ ids) serial earlier differ h =
      let s = (serial + 1) % 2 ^ 32 in
      let x = destroyed_event id s in
      let one = h id (rw (eq-eqb id id refl) refl) in
      let r = reads_destroyed one.kind id s one.may (omega arith) in
      let at = interface_at earlier x id one.kind refl one.is in
      let same : (j : ℕ) → told (x ∷ earlier) j ≡ told earlier j = λ j. told_more earlier x one.kind destroyed _ j at r ∙ ap (λ (o : Option KnownInterface). option_or o (told earlier j)) (announced_nothing j destroyed (Word s ∷ []) refl) in
      let more : (j : ℕ) → occurs (destroys j) (x ∷ earlier) ≡ ((eqb id j && true) || occurs (destroys j) earlier) = λ j. gone_more earlier x one.kind destroyed _ j at r in
      let others : (j : ℕ) → list_any (nat_eq j) ids ≡ true → Mortal (x ∷ earlier) j = λ j y.
      let w = h j (rw y (by (nat_eq j id))) in
      record { kind = w.kind; is = same j ∙ w.is; may = w.may; there = more j ∙ rw (apart id j ids differ.0 y) w.there } in
      let next = going_told ids s (x ∷ earlier) differ.1 others in (
        (is_told setup past earlier x id one.kind destroyed (Word s ∷ []) refl one.is one.there (new_nothing earlier destroyed (Word s ∷ []) refl) r, next.0),
        record {
          told = λ j. next.1.told j ∙ same j;
          gone = λ j. next.1.gone j ∙ ap (λ (b : Bool). list_any (nat_eq j) ids || b) (more j) ∙ went_bools (list_any (nat_eq j) ids) (eqb id j) (occurs (destroys j) earlier) ∙ ap (λ (b : Bool). (b || list_any (nat_eq j) ids) || occurs (destroys j) earlier) (turned id j);
        },
      )
    where
      by : (b : Bool) → (b || true) ≡ true
      by true = refl
      by false = refl
