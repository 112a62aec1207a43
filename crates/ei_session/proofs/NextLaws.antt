-- The ids that are given next, after one more message.
use Rattle.std.proofs.Common.{◌≡◌, ℕ, ◌+◌, ◌<◌, ◌≤◌, max, Bool, true, false, cond, not, ◌&&◌, ◌||◌, eqb, ltb, leb, List, [], ◌∷◌, ◌++◌, length, Option, Some}
use Rattle.std.proofs.Common.{None, Ok, Err, refl, sym, ap, ◌∙◌, arith, inl, inr}
use Rattle.std.specs.Prelude.{codes}
use Rattle.std.specs.Option.{option_to_list}
use Rattle.std.proofs.lemmas.Bool.{eqb-true, cases_lt}
use Rattle.std.proofs.lemmas.Bool.Decides.{nat_tests}
use Rattle.std.proofs.lemmas.List.{append-nil}
use Rattle.ei_spec.specs.declared.interface.KnownInterface.TheVariants as known
use Rattle.ei_spec.specs.Interface.{name_of}
use Rattle.ei_spec.specs.Value.{Value, Word, Long}
use Rattle.ei_spec.specs.Reading.{InvalidId, Unread}
use Rattle.ei_spec.specs.Rows.{row_at}
use Rattle.ei_spec.specs.Table.{table}
use Rattle.ei_spec.specs.Message.{Raw}
use Rattle.ei_spec.specs.History.{occurs, total, joined}
use Rattle.ei_spec.proofs.HistoryLaws.{occurs_or, joined_more}
use Rattle.ei_session.specs.Setup.{Setup, connection_id, seat_id}
use Rattle.ei_session.specs.Arguments.{whole, row_args}
use Rattle.ei_session.specs.Asked.{asked, first}
use Rattle.ei_session.specs.Handshake.{connected, is_the_finish}
use Rattle.ei_session.specs.Devices.{made, interfaces_of, ids_given, next_id, seat_is_open, is_past, exhausts}
use Rattle.ei_session.specs.Objects.{Entry, object}
use Rattle.ei_session.specs.Touches.{input}
use Rattle.ei_session.specs.Refusals.{Parse, InvalidInterfaceVersion, arguments, Arguments, synced, is_at_most, may_give, bad_id, refused_row, refused_at}
use Rattle.ei_session.specs.Refusals.{refusal}
use Rattle.ei_session.specs.Served.{AreUnrefused}
use Rattle.ei_session.specs.NextIds.{next_own, callbacks, greatest, next_peer}
use Rattle.ei_session.proofs.Choices.{chosen, some_is, none_some, and_left, and_right}
use Rattle.ei_session.proofs.ObjectLaws.{made_is, not_finish}
use Rattle.ei_session.proofs.ObjectShape.{at_finish, same_connected, now_connected, next_id_more}
use Rattle.ei_session.proofs.FirstObjects.{shut_makes_nothing, not_the_finish, object_first, object_connection, the_connection}
use Rattle.ei_session.proofs.DeviceRange.{ids_some}
use Rattle.ei_session.proofs.GoneLaws.{all_below}
use Rattle.ei_session.proofs.ItemLaws.{args_are}
use Rattle.ei_session.proofs.NewCallbacks.{sync_row, callback_new}

-- ---- the server's

pub own_first : (before : List Raw) → connected before ≡ false → next_own before ≡ connection_id
unfolding next_own
own_first before off = rw off refl

pub own_connected : (before : List Raw) → connected before ≡ true → next_own before ≡ next_id before
unfolding next_own
own_connected before on = rw on refl

ids_none : (before : List Raw) (m : Raw) → made before m ≡ None → ids_given before m ≡ 0
unfolding ids_given
ids_none before m n = rw n refl

-- no ids are given up to the finish
none_given : (before : List Raw) → connected before ≡ false → next_id before ≡ seat_id + 1
unfolding next_id total
none_given [] off = refl
none_given (m ∷ before) off =
    let two = not_the_finish before m off in
    let n = ids_none before m (shut_makes_nothing before m two.1) in
    let old = none_given before two.1 in
    omega (arith, n, old)

pub own_finish : (before : List Raw) (m : Raw) → is_the_finish before m ≡ true → next_own (m ∷ before) ≡ seat_id + 1
own_finish before m f =
    let off = (at_finish before m f).1 in
    let n = ids_none before m (shut_makes_nothing before m off) in
    own_connected (m ∷ before) (now_connected before m f) ∙ omega (arith, next_id_more before m, n, none_given before off)

made_connected : (before : List Raw) (m : Raw) (mask : ℕ) → made before m ≡ Some mask → connected before ≡ true
unfolding seat_is_open
made_connected before m mask h = and_left (connected before) _ (and_left (seat_is_open before) (eqb m.id seat_id) (made_is before m mask h).0)

made_no_finish : (before : List Raw) (m : Raw) (mask : ℕ) → made before m ≡ Some mask → is_the_finish before m ≡ false
made_no_finish before m mask h =
    let at = eqb-true m.id seat_id (and_right (seat_is_open before) (eqb m.id seat_id) (made_is before m mask h).0) in
    not_finish before m (omega (arith, at))

pub own_made : (before : List Raw) (m : Raw) (mask : ℕ) → made before m ≡ Some mask → next_id before ≡ next_own before
own_made before m mask h = sym (own_connected before (made_connected before m mask h))

pub own_device : (before : List Raw) (m : Raw) (mask : ℕ) → made before m ≡ Some mask → next_own (m ∷ before) ≡ next_own before + (1 + length (interfaces_of mask))
own_device before m mask h =
    let on = same_connected before m (made_no_finish before m mask h) ∙ made_connected before m mask h in
    own_connected (m ∷ before) on ∙ omega (arith, next_id_more before m, ids_some before m mask h, own_made before m mask h)

own_same : (before : List Raw) (m : Raw) (b : Bool) → connected before ≡ b → is_the_finish before m ≡ false → made before m ≡ None → next_own (m ∷ before) ≡ next_own before
own_same before m true on f n = own_connected (m ∷ before) (same_connected before m f ∙ on) ∙ omega (arith, next_id_more before m, ids_none before m n) ∙ sym (own_connected before on)
own_same before m false off f n = own_first (m ∷ before) (same_connected before m f ∙ off) ∙ sym (own_first before off)

pub own_other : (before : List Raw) (m : Raw) → is_the_finish before m ≡ false → made before m ≡ None → next_own (m ∷ before) ≡ next_own before
own_other before m f n = own_same before m (connected before) refl f n

pub own_exhausting : (before : List Raw) (m : Raw) (mask : ℕ) → made before m ≡ Some mask → exhausts before m ≡ leb 0xffffffffffffffff (next_own before + length (interfaces_of mask))
unfolding exhausts
own_exhausting before m mask h = ap (is_past (next_id before)) h ∙ ap (λ (n : ℕ). leb 0xffffffffffffffff (n + length (interfaces_of mask))) (own_made before m mask h)

below_by : (before : List Raw) (id : ℕ) (e : Entry) (b : Bool) → connected before ≡ b → object before id ≡ Some e → id < next_own before
below_by before id e true on k = omega (arith, own_connected before on, all_below before id e k)
below_by before id e false off k =
    elim (chosen (eqb id 0) _ _ _ (sym (object_first before id off) ∙ k)) [
      | inl a ↦ omega (arith, own_first before off, eqb-true id 0 a.0)
      | inr b ↦ absurd (none_some e b.1)
    ]

pub own_below : (before : List Raw) (id : ℕ) (e : Entry) → object before id ≡ Some e → id < next_own before
own_below before id e k = below_by before id e (connected before) refl k

-- ---- the client's

greatest_last : (xs : List ℕ) (n : ℕ) → greatest (xs ++ (n ∷ [])) ≡ max (greatest xs) n
greatest_last [] n = omega arith
greatest_last (x ∷ xs) n = omega (arith, greatest_last xs n)

callbacks_more : (before : List Raw) (m : Raw) → callbacks (m ∷ before) ≡ callbacks before ++ option_to_list (synced before m)
unfolding callbacks
callbacks_more before m = joined_more (λ b m. option_to_list (synced b m)) before m

pub peer_first : next_peer [] ≡ 1
unfolding next_peer callbacks joined
peer_first = refl

greatest_sync : (before : List Raw) (m : Raw) (c : ℕ) → synced before m ≡ Some c → greatest (callbacks (m ∷ before)) ≡ max (greatest (callbacks before)) c
greatest_sync before m c s = ap greatest (callbacks_more before m ∙ ap (λ (o : Option ℕ). callbacks before ++ option_to_list o) s) ∙ greatest_last (callbacks before) c

greatest_other : (before : List Raw) (m : Raw) → synced before m ≡ None → greatest (callbacks (m ∷ before)) ≡ greatest (callbacks before)
greatest_other before m s = ap greatest (callbacks_more before m ∙ ap (λ (o : Option ℕ). callbacks before ++ option_to_list o) s ∙ append-nil (callbacks before))

pub peer_sync : (before : List Raw) (m : Raw) (c : ℕ) → synced before m ≡ Some c → next_peer (m ∷ before) ≡ max (next_peer before) (c + 1)
unfolding next_peer
peer_sync before m c s = omega (arith, greatest_sync before m c s)

pub peer_other : (before : List Raw) (m : Raw) → synced before m ≡ None → next_peer (m ∷ before) ≡ next_peer before
unfolding next_peer
peer_other before m s = omega (arith, greatest_other before m s)

le_max : (id a b : ℕ) → (leb id b || leb id a) ≡ leb id (max a b)
le_max id a b =
    elim (cases_lt b id) [
      | inl x ↦ elim (cases_lt a id) [
        | inl y ↦ let p : leb id b ≡ false = grind (arith, nat_tests, x) in let q : leb id a ≡ false = grind (arith, nat_tests, y) in
            let lt : max a b < id = omega (arith, x, y) in let r : leb id (max a b) ≡ false = grind (arith, nat_tests, lt) in rw (p, q, r) refl
        | inr y ↦ let p : leb id b ≡ false = grind (arith, nat_tests, x) in let q : leb id a ≡ true = grind (arith, nat_tests, y) in
            let le : id ≤ max a b = omega (arith, y) in let r : leb id (max a b) ≡ true = grind (arith, nat_tests, le) in rw (p, q, r) refl
      ]
      | inr x ↦ let p : leb id b ≡ true = grind (arith, nat_tests, x) in
          let le : id ≤ max a b = omega (arith, x) in let r : leb id (max a b) ≡ true = grind (arith, nat_tests, le) in rw (p, r) refl
    ]

-- some callback is at least as high exactly where the greatest is
at_most_at : (before : List Raw) (m : Raw) (id : ℕ) (o : Option ℕ) → occurs (λ b x. is_at_most id (synced b x)) before ≡ leb id (greatest (callbacks before)) → synced before m ≡ o →
    (is_at_most id o || occurs (λ b x. is_at_most id (synced b x)) before) ≡ leb id (greatest (callbacks (m ∷ before)))
at_most_at before m id None next s = next ∙ ap (leb id) (sym (greatest_other before m s))
at_most_at before m id (Some c) next s = ap (λ (b : Bool). leb id c || b) next ∙ le_max id (greatest (callbacks before)) c ∙ ap (leb id) (sym (greatest_sync before m c s))

at_most_greatest : (before : List Raw) (id : ℕ) → 0 < id → occurs (λ b x. is_at_most id (synced b x)) before ≡ leb id (greatest (callbacks before))
unfolding occurs callbacks joined
at_most_greatest [] id low = let r : leb id 0 ≡ false = grind (arith, nat_tests, low) in sym r
at_most_greatest (m ∷ before) id low =
    occurs_or (λ b x. is_at_most id (synced b x)) before m ∙ at_most_at before m id (synced before m) (at_most_greatest before id low) refl

above : (g id : ℕ) → not (leb id g) ≡ leb (g + 1) id
above g id =
    elim (cases_lt g id) [
      | inl x ↦ let p : leb id g ≡ false = grind (arith, nat_tests, x) in let le : g + 1 ≤ id = omega (arith, x) in let q : leb (g + 1) id ≡ true = grind (arith, nat_tests, le) in rw (p, q) refl
      | inr x ↦ let p : leb id g ≡ true = grind (arith, nat_tests, x) in let lt : id < g + 1 = omega (arith, x) in let q : leb (g + 1) id ≡ false = grind (arith, nat_tests, lt) in rw (p, q) refl
    ]

and_turned : (a b : Bool) → (a && b) ≡ (b && a)
and_turned true true = refl
and_turned true false = refl
and_turned false true = refl
and_turned false false = refl

pub may_give_by : (before : List Raw) (id : ℕ) → may_give before id ≡ (leb (next_peer before) id && ltb id connection_id)
unfolding may_give next_peer
may_give_by before id =
    elim (cases_lt 0 id) [
      | inl low ↦ let p : ltb 0 id ≡ true = grind (arith, nat_tests, low) in
          rw p (ap (λ (b : Bool). ltb id connection_id && not b) (at_most_greatest before id low) ∙ ap (λ (b : Bool). ltb id connection_id && b) (above (greatest (callbacks before)) id) ∙ and_turned (ltb id connection_id) (leb (greatest (callbacks before) + 1) id))
      | inr ge ↦ let p : ltb 0 id ≡ false = grind (arith, nat_tests, ge) in
          let lt : id < greatest (callbacks before) + 1 = omega (arith, ge) in
          let q : leb (greatest (callbacks before) + 1) id ≡ false = grind (arith, nat_tests, lt) in
          rw (p, q) refl
    ]

pub bad_id_by : (before : List Raw) (id : ℕ) → bad_id before (Some id) ≡ cond (leb (next_peer before) id && ltb id connection_id) None (Some (Parse (InvalidId id)))
bad_id_by before id = ap (λ (b : Bool). cond b None (Some (Parse (InvalidId id)))) (may_give_by before id)

pub peer_accepted : (setup : Setup) (before : List Raw) (m : Raw) (c : ℕ) → refusal setup before m ≡ None → synced before m ≡ Some c → next_peer (m ∷ before) ≡ c + 1
unfolding next_peer
peer_accepted setup before m c r s =
    let w = callback_new setup before m c r s in
    let q : leb c (greatest (callbacks before)) ≡ false = sym (at_most_greatest before c w.low) ∙ w.fresh in
    let lt : greatest (callbacks before) < c = grind (arith, nat_tests, q) in
    omega (arith, greatest_sync before m c s, lt)

most_at : (setup : Setup) (before : List Raw) (m : Raw) (o : Option ℕ) → refusal setup before m ≡ None → next_peer before ≤ connection_id → synced before m ≡ o → next_peer (m ∷ before) ≤ connection_id
most_at setup before m None r le s = omega (arith, peer_other before m s, le)
most_at setup before m (Some c) r le s = omega (arith, peer_accepted setup before m c r s, (callback_new setup before m c r s).high)

pub peer_most : (setup : Setup) (past : List Raw) → AreUnrefused setup past → next_peer past ≤ connection_id
unfolding AreUnrefused
peer_most setup [] h = omega (arith, peer_first)
peer_most setup (m ∷ before) h = most_at setup before m (synced before m) h.0 (peer_most setup before h.1) refl

-- ---- the refusal of a sync

sync_args : (m : Raw) (args : List Value) → asked known.Connection (codes "sync") m ≡ Some args → (m.opcode ≡ 0) × (row_args (Some sync_row) m ≡ Some args)
unfolding asked
sync_args m args h = args_are 0 sync_row m args h

record IsRead (m : Raw) (args : List Value) : Type 0 where
  pub rest : Unread
  pub read : arguments (Some sync_row) m ≡ Ok (args, rest)
  pub all : eqb (length rest.bytes) 0 ≡ true

is_read_by : (m : Raw) (args : List Value) (r : Arguments) → arguments (Some sync_row) m ≡ r → whole r ≡ Some args → IsRead m args
unfolding whole
is_read_by m args (Ok x) e h =
    elim (chosen (eqb (length x.1.bytes) 0) _ _ _ h) [
      | inl a ↦ record { rest = x.1; read = e ∙ ap (λ (xs : List Value). Ok (xs, x.1)) (some_is x.0 args a.1); all = a.0 }
      | inr b ↦ absurd (none_some args b.1)
    ]
is_read_by m args (Err e) q h = absurd (none_some args h)

is_read : (m : Raw) (args : List Value) → row_args (Some sync_row) m ≡ Some args → IsRead m args
unfolding row_args
is_read m args h = is_read_by m args (arguments (Some sync_row) m) refl h

no_input : (before : List Raw) (m : Raw) → object before m.id ≡ Some the_connection → input before m ≡ None
unfolding input
no_input before m k = rw k refl

-- what the tests of a sync come to
sync_tests : (setup : Setup) (before : List Raw) (m : Raw) (c v : ℕ) (b : Bool) → object before m.id ≡ Some the_connection → asked known.Connection (codes "sync") m ≡ Some (Long c ∷ Word v ∷ []) → may_give before c ≡ b →
    refused_row setup before m the_connection (Some sync_row) ≡ cond b (cond (eqb v 1) None (Some (InvalidInterfaceVersion (name_of known.Callback) v))) (Some (Parse (InvalidId c)))
sync_tests setup before m c v b k h g =
    let a = is_read m (Long c ∷ Word v ∷ []) (sync_args m (Long c ∷ Word v ∷ []) h).1 in
    rw (a.read, a.all, g, h, no_input before m k) (by b (eqb v 1))
  where
    by : (b one : Bool) → first (None ∷ None ∷ cond b None (Some (Parse (InvalidId c))) ∷ None ∷ None ∷ cond one None (Some (InvalidInterfaceVersion (name_of known.Callback) v)) ∷ None ∷ None ∷ None ∷ []) ≡ cond b (cond one None (Some (InvalidInterfaceVersion (name_of known.Callback) v))) (Some (Parse (InvalidId c)))
    by true true = refl
    by true false = refl
    by false one = refl

pub sync_refusal : (setup : Setup) (before : List Raw) (m : Raw) (c v : ℕ) (b : Bool) → connected before ≡ true → m.id ≡ connection_id → asked known.Connection (codes "sync") m ≡ Some (Long c ∷ Word v ∷ []) → (leb (next_peer before) c && ltb c connection_id) ≡ b →
    refusal setup before m ≡ cond b (cond (eqb v 1) None (Some (InvalidInterfaceVersion (name_of known.Callback) v))) (Some (Parse (InvalidId c)))
unfolding refusal
sync_refusal setup before m c v b on at h g =
    let k : object before m.id ≡ Some the_connection = ap (object before) at ∙ object_connection before ∙ rw on refl in
    let row : row_at m.opcode (table false known.Connection) ≡ Some sync_row = ap (λ (n : ℕ). row_at n (table false known.Connection)) (sync_args m (Long c ∷ Word v ∷ []) h).0 in
    ap (refused_at setup before m) k ∙ ap (refused_row setup before m the_connection) row ∙ sync_tests setup before m c v b k h (may_give_by before c ∙ g)
