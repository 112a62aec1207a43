-- Each event that answers a message goes to what the client is told of: message by message, and for a whole stream.
use Rattle.std.proofs.Common.{◌≡◌, ℕ, ◌+◌, ◌-◌, ◌<◌, ◌≤◌, ◌^◌, Bool, true, false, cond, ◌&&◌, ◌||◌, eqb, ltb, leb, List, [], ◌∷◌, ◌++◌, reverse, length, Option}
use Rattle.std.proofs.Common.{Some, None, refl, sym, ap, subst, ◌∙◌, arith, eq-eqb, inl, inr, ◌⊎◌}
use Rattle.std.specs.Prelude.{is_some, unwrap_or, nat_eq, slice_get}
use Rattle.std.specs.Option.{option_or}
use Rattle.std.specs.List.{list_any}
use Rattle.std.proofs.lemmas.Bool.{eqb-true, cases_lt}
use Rattle.std.proofs.lemmas.Bool.Decides.{nat_tests}
use Rattle.std.proofs.lemmas.List.{reverse-reverse}
use Rattle.ei_spec.specs.declared.interface.KnownInterface.{KnownInterface}
use Rattle.ei_spec.specs.declared.interface.KnownInterface.TheVariants as known
use Rattle.ei_spec.specs.Value.{Long}
use Rattle.ei_spec.specs.Message.{Raw, IsBytes}
use Rattle.ei_spec.specs.Stream.{Stop, Waiting, Ended, HeaderLength, Refusal as RefusedStop, AreOpen, StopsSo}
use Rattle.ei_spec.specs.History.{last_said, occurs, joined}
use Rattle.ei_spec.proofs.HistoryLaws.{occurs_or}
use Rattle.ei_spec.proofs.OneReading.{is_reading}
use Rattle.ei_session.specs.Setup.{Setup, connection_id, seat_id}
use Rattle.ei_session.specs.Handshake.{connected, is_the_finish, version}
use Rattle.ei_session.specs.Replies.{finish_events, greeting}
use Rattle.ei_session.specs.Devices.{made, interfaces_of, next_id, exhausts, is_past, seat_is_open}
use Rattle.ei_session.specs.Objects.{Entry, interface_entry, new_device, given, handed_over, introduces, at_first, introduced, is_release, object, gone}
use Rattle.ei_session.specs.Serial.{serial}
use Rattle.ei_session.specs.Refusals.{Refusal, synced, is_at_most, refusal, judge}
use Rattle.ei_session.specs.Events.{invalid_object_event, callback_event, device_event, device_type_event, device_done_event, resumed_event, interface_events}
use Rattle.ei_session.specs.Events.{device_events, destroyed_events, callback_events, reply_by, reply, replies}
use Rattle.ei_session.specs.Served.{reading_of, accepted}
use Rattle.ei_session.specs.Told.{tells, told, interface_of, destroys, ReadsAs, IsReply}
use Rattle.ei_session.proofs.Choices.{not_true, turned, chosen, some_is, none_some, not_both, and_false, and_left, and_right}
use Rattle.ei_session.proofs.AllParts.{replies_more}
use Rattle.ei_session.proofs.ObjectLaws.{object_is_introduced, introduced_before, next_above, given_by, made_is, not_finish}
use Rattle.ei_session.proofs.ObjectShape.{given_range, next_id_more, seat_was_not, at_finish, same_connected, now_connected, seat_was, low_none, object_seat}
use Rattle.ei_session.proofs.FirstObjects.{connection_was, the_connection, handshake_was, object_handshake, object_connection, connection_unreleased}
use Rattle.ei_session.proofs.FirstObjects.{never_released, object_first}
use Rattle.ei_session.proofs.GoneLaws.{handed_low, connected_by, goes, some_entry}
use Rattle.ei_session.proofs.SerialLaws.{gone_plain}
use Rattle.ei_session.proofs.NewCallbacks.{IsNew, callback_new}
use Rattle.ei_session.proofs.AcceptedLaws.{accepted_so, ended_so, no_exhausting}
use Rattle.ei_session.proofs.EventRows.{reads_greeting, reads_invalid, called_row, reads_callback, device_row, reads_device, reads_type, reads_described}
use Rattle.ei_session.proofs.EventRows.{reads_resumed}
use Rattle.ei_session.proofs.Telling.{IsTold, announces_by, started, or_assoc, told_more, gone_more, is_told, onto, onto_append, onto_nothing, AreTold}
use Rattle.ei_session.proofs.Telling.{both_told, told_at, told_later, quiet_told, interface_at, parts_at, parts_below, parts_slot, parts_told, Mortal}
use Rattle.ei_session.proofs.Telling.{going_told, or_nothing, announced_nothing}
use Rattle.ei_session.proofs.TellingReplies.{kind_of, kinds_or, introduced_more, Spent, spent_more, Tells, there_told, there_alive, Step, same_tells, no_events}
use Rattle.ei_session.proofs.TellingReplies.{gives_none, version_small, serial_small, handed_kinds, finish_told}
use Rattle.ei_session.proofs.TellingGone.{gone_differ, gone_mortal}

introduced_kinds : (before : List Raw) (m : Raw) (id : ℕ) → kind_of (introduced (m ∷ before) id) ≡ option_or (kind_of (introduces before m id)) (kind_of (introduced before id))
introduced_kinds before m id = ap kind_of (introduced_more before m id) ∙ kinds_or (introduces before m id) (introduced before id)

-- ---- the finish

handed_by : (before : List Raw) (m : Raw) (id : ℕ) → is_the_finish before m ≡ true → introduces before m id ≡ handed_over before id
unfolding introduces
handed_by before m id f = rw f refl

or_false : (a b : Bool) → b ≡ false → ((a && true) || b) ≡ true → a ≡ true
or_false true b e h = refl
or_false false b e h = absurd (not_both b h e)

finish_step : (setup : Setup) (before : List Raw) (m : Raw) (earlier : List Raw) → setup.serial < 2 ^ 32 → Tells before earlier → is_the_finish before m ≡ true → Step setup before m earlier (finish_events setup before)
finish_step setup before m earlier small t f =
    let off = (at_finish before m f).1 in
    let none : (id : ℕ) → occurs (destroys id) earlier ≡ false = λ id. not_true _ (λ g. not_both (connected before) (t.gone id g).dead.on off) in
    let no_connection : introduced before connection_id ≡ None = connection_was before ∙ rw off refl in
    let fin = finish_told setup (m ∷ before) before earlier small (t.told 0 ∙ ap kind_of (handshake_was before)) none (t.told connection_id ∙ ap kind_of no_connection) (t.told seat_id ∙ ap kind_of (seat_was_not before off)) in
    let zero_spent : Spent (m ∷ before) 0 = record {
      dead = record { on = now_connected before m f; none = object_handshake (m ∷ before) ∙ rw (now_connected before m f) refl; low = omega (arith, next_above (m ∷ before)) };
      was = inl (ap is_some (handshake_was (m ∷ before)));
    } in
    record {
      told = fin.all;
      tells = λ x. record {
        told = λ id. fin.told id ∙ ap (λ (o : Option KnownInterface). option_or o (told earlier id)) (handed_kinds before id ∙ ap kind_of (sym (handed_by before m id f))) ∙ ap (λ (o : Option KnownInterface). option_or (kind_of (introduces before m id)) o) (t.told id) ∙ sym (introduced_kinds before m id);
        gone = λ id g. subst (λ n. Spent (m ∷ before) n) (eqb-true 0 id (or_false (eqb 0 id) _ (none id) (sym (fin.gone id) ∙ g))) zero_spent;
      };
    }

-- ---- a device

kind_entry : (before : List Raw) (d : ℕ) (o : Option KnownInterface) → o ≡ kind_of (interface_entry before d o)
kind_entry before d None = refl
kind_entry before d (Some i) = refl

new_kinds : (before : List Raw) (d : ℕ) (is : List KnownInterface) (id : ℕ) → option_or (parts_at (d + 1) is id) (cond (eqb d id) (Some known.Device) None) ≡ kind_of (new_device before d is id)
unfolding new_device
new_kinds before d is id =
    elim (cases_lt d id) [
      | inl lt ↦ let far : eqb d id ≡ false = grind (arith, nat_tests, lt) in
          let other : eqb id d ≡ false = grind (arith, nat_tests, lt) in
          let above : ltb d id ≡ true = grind (arith, nat_tests, lt) in
          let place : id - (d + 1) ≡ id - d - 1 = omega arith in
          rw (far, other, above) (or_nothing (parts_at (d + 1) is id) ∙ parts_slot is (d + 1) id (omega (arith, lt)) ∙ ap (slice_get is) place ∙ kind_entry before d (slice_get is (id - d - 1)))
      | inr ge ↦ let above : ltb d id ≡ false = grind (arith, nat_tests, ge) in
          rw (parts_below is (d + 1) id (omega (arith, ge)), above, turned d id) (by (eqb id d))
    ]
  where
    by : (b : Bool) → cond b (Some known.Device) None ≡ kind_of (cond b (Some (record { interface = known.Device; version = version before known.Device; device = Some d })) None)
    by true = refl
    by false = refl

below_step : (before : List Raw) (m : Raw) (id : ℕ) (e : Entry) (o : Option Entry) (b : Bool) → (introduced before id ≡ Some e → id < next_id before) → introduces before m id ≡ o → is_the_finish before m ≡ b → introduced (m ∷ before) id ≡ Some e → id < next_id (m ∷ before)
below_step before m id e (Some x) true next q f h = omega (arith, next_above (m ∷ before), handed_low before id x (sym (handed_by before m id f) ∙ q))
below_step before m id e (Some x) false next q f h = omega (arith, next_id_more before m, (given_range before m (made before m) id x refl (sym (given_by before m id f) ∙ q)).1)
below_step before m id e None b next q f h = omega (arith, next_id_more before m, next (sym (introduced_before before m id q) ∙ h))

-- what was introduced has an id below the next
introduced_below : (before : List Raw) (id : ℕ) (e : Entry) → introduced before id ≡ Some e → id < next_id before
unfolding introduced last_said
introduced_below [] id e h =
    elim (chosen (eqb id 0) _ _ _ h) [
      | inl a ↦ omega (arith, next_above [], eqb-true id 0 a.0)
      | inr b ↦ absurd (none_some e b.1)
    ]
introduced_below (m ∷ before) id e h = below_step before m id e (introduces before m id) (is_the_finish before m) (introduced_below before id e) refl refl h

none_above : (before : List Raw) (id : ℕ) → next_id before ≤ id → introduced before id ≡ None
none_above before id le = by (introduced before id) refl
  where
    by : (o : Option Entry) → introduced before id ≡ o → o ≡ None
    by None e = refl
    by (Some x) e = absurd (omega (arith, le, introduced_below before id x e))

room_at : (before : List Raw) (m : Raw) (mask : ℕ) → made before m ≡ Some mask → exhausts before m ≡ false → next_id before + length (interfaces_of mask) < 0xffffffffffffffff
unfolding exhausts
room_at before m mask h x =
    let e : leb 0xffffffffffffffff (next_id before + length (interfaces_of mask)) ≡ false = ap (is_past (next_id before)) (sym h) ∙ x in
    grind (arith, nat_tests, e)

device_step : (setup : Setup) (before : List Raw) (m : Raw) (earlier : List Raw) (mask last : ℕ) → last < 2 ^ 32 → Tells before earlier → made before m ≡ Some mask → exhausts before m ≡ false →
    Step setup before m earlier (device_events (version before) (next_id before) (interfaces_of mask) last)
unfolding device_events seat_is_open
device_step setup before m earlier mask last small t h x =
    let past = m ∷ before in
    let d = next_id before in
    let is = interfaces_of mask in
    let room = room_at before m mask h x in
    let open_seat = (made_is before m mask h).0 in
    let on = and_left (connected before) _ (and_left (seat_is_open before) (eqb m.id seat_id) open_seat) in
    let w = seat_was before on in
    let seat = some_entry (object before seat_id) (object_seat before ∙ and_left (seat_is_open before) (eqb m.id seat_id) open_seat) in
    let h0 : told earlier seat_id ≡ Some known.Seat = t.told seat_id ∙ ap kind_of w.is ∙ ap (λ (k : KnownInterface). Some k) w.kind in
    let g0 = there_alive before earlier seat_id seat.0 t seat.1 in
    let new : occurs (destroys d) earlier ≡ false = not_true _ (λ g. let s = (t.gone d g).dead.low in omega (arith, s)) in
    let v = device_event d (version before known.Device) in
    let r = reads_device d (version before known.Device) (omega (arith, room)) (version_small before known.Device) in
    let at = interface_at earlier v seat_id known.Seat refl h0 in
    let t1 : (id : ℕ) → told (v ∷ earlier) id ≡ option_or (cond (eqb d id) (Some known.Device) None) (told earlier id) = λ id. told_more earlier v known.Seat device_row _ id at r in
    let g1 : (id : ℕ) → occurs (destroys id) (v ∷ earlier) ≡ ((eqb seat_id id && false) || occurs (destroys id) earlier) = λ id. gone_more earlier v known.Seat device_row _ id at r in
    let k1 : (id : ℕ) → occurs (destroys id) (v ∷ earlier) ≡ occurs (destroys id) earlier = λ id. g1 id ∙ ap (λ (b : Bool). b || occurs (destroys id) earlier) (and_false (eqb seat_id id)) in
    let h1 : told (v ∷ earlier) d ≡ Some known.Device = t1 d ∙ rw (eq-eqb d d refl) refl in
    let typed = device_type_event d ∷ [] in
    let y = quiet_told setup past known.Device d typed (v ∷ earlier) (record { at = refl; row = _; values = _; reads = reads_type d; nothing = refl; stays = refl }, tt) h1 (k1 d ∙ new) in
    let e2 = onto typed (v ∷ earlier) in
    let free : (id : ℕ) → d ≤ id → told earlier id ≡ None = λ id le. t.told id ∙ ap kind_of (none_above before id le) in
    let free_later : (id : ℕ) → d + 1 ≤ id → told e2 id ≡ None = λ id le. let other : eqb d id ≡ false = grind (arith, nat_tests, le) in y.1.told id ∙ t1 id ∙ rw other (free id (omega (arith, le))) in
    let parts = interface_events (version before) d (d + 1) is in
    let p = parts_told setup past (version before) d (version_small before) is (d + 1) e2 (omega arith) (omega (arith, room)) (y.1.told d ∙ h1) (y.1.gone d ∙ k1 d ∙ new) free_later in
    let e3 = onto parts e2 in
    let ends = device_done_event d ∷ (resumed_event d last ∷ []) in
    let z = quiet_told setup past known.Device d ends e3 (record { at = refl; row = _; values = _; reads = reads_described d; nothing = refl; stays = refl }, (record { at = refl; row = _; values = _; reads = reads_resumed d last small; nothing = refl; stays = refl }, tt))
    (p.1.told d ∙ rw (parts_below is (d + 1) d (omega arith)) (y.1.told d ∙ h1)) (p.1.gone d ∙ y.1.gone d ∙ k1 d ∙ new) in
    let place : onto (v ∷ (device_type_event d ∷ (parts ++ ends))) earlier ≡ onto ends e3 = onto_append parts ends e2 in
    let here : m.id ≡ seat_id = eqb-true m.id seat_id (and_right (seat_is_open before) (eqb m.id seat_id) open_seat) in
    let f = not_finish before m (omega (arith, here)) in
    record {
      told = (is_told setup past earlier v seat_id known.Seat device_row _ refl h0 g0 (λ id k q. free id (omega (arith, started id d (Some known.Device) k q))) r, (y.0.0, both_told setup past parts ends e2 p.0 z.0));
      tells = λ _. record {
        told = λ id.
            let by_new : introduces before m id ≡ new_device before d is id = given_by before m id f ∙ ap (λ (o : Option ℕ). given before o id) h in
            ap (λ (l : List Raw). told l id) place ∙ z.1.told id ∙ p.1.told id
            ∙ ap (λ (o : Option KnownInterface). option_or (parts_at (d + 1) is id) o) (y.1.told id ∙ t1 id)
            ∙ or_assoc (parts_at (d + 1) is id) (cond (eqb d id) (Some known.Device) None) (told earlier id)
            ∙ ap (λ (o : Option KnownInterface). option_or o (told earlier id)) (new_kinds before d is id ∙ ap kind_of (sym by_new))
            ∙ ap (λ (o : Option KnownInterface). option_or (kind_of (introduces before m id)) o) (t.told id)
            ∙ sym (introduced_kinds before m id);
        gone = λ id g. spent_more before m id (t.gone id (sym (k1 id) ∙ sym (y.1.gone id) ∙ sym (p.1.gone id) ∙ sym (z.1.gone id) ∙ ap (λ (l : List Raw). occurs (destroys id) l) (sym place) ∙ g));
      };
    }

-- ---- what goes

either : (a b : Bool) → (a || b) ≡ true → (a ≡ true) ⊎ (b ≡ true)
either true b h = inl refl
either false b h = inr h

going_step : (setup : Setup) (before : List Raw) (m : Raw) (earlier : List Raw) (last : ℕ) → connected before ≡ true → Tells before earlier → is_the_finish before m ≡ false → made before m ≡ None →
    Step setup before m earlier (destroyed_events last (gone before m))
going_step setup before m earlier last on t f n =
    let none = gives_none before m f n in
    let mortal : (id : ℕ) → list_any (nat_eq id) (gone before m) ≡ true → Mortal earlier id = λ id q.
    let x = some_entry (object before id) (goes before m id q).there in
    record { kind = x.0.interface; is = there_told before earlier id x.0 t x.1; may = gone_mortal before m id x.0 x.1 q; there = there_alive before earlier id x.0 t x.1 } in
    let w = going_told setup (m ∷ before) (gone before m) last earlier (gone_differ before m) mortal in
    let spent : (id : ℕ) → list_any (nat_eq id) (gone before m) ≡ true → Spent (m ∷ before) id = λ id q.
    let x = some_entry (object before id) (goes before m id q).there in
    record { dead = connected_by before m id true on q (same_connected before m f ∙ on); was = inl (ap is_some (introduced_before before m id (none id) ∙ object_is_introduced before id x.0 x.1)) } in
    record {
      told = w.0;
      tells = λ x. record {
        told = λ id. w.1.told id ∙ t.told id ∙ ap kind_of (sym (introduced_before before m id (none id)));
        gone = λ id g. elim (either (list_any (nat_eq id) (gone before m)) (occurs (destroys id) earlier) (sym (w.1.gone id) ∙ g)) [ inl q ↦ spent id q | inr q ↦ spent_more before m id (t.gone id q) ];
      };
    }

-- ---- a callback

-- no id of a client's own is introduced
own_none_at : (before : List Raw) (m : Raw) (c : ℕ) (b : Bool) → 0 < c → c < connection_id → is_the_finish before m ≡ b → introduces before m c ≡ None
unfolding handed_over
own_none_at before m c true low high f =
    let a : eqb c connection_id ≡ false = grind (arith, nat_tests, high) in
    let b : eqb c seat_id ≡ false = grind (arith, nat_tests, high) in
    handed_by before m c f ∙ rw (a, b) refl
own_none_at before m c false low high f = low_none before m c (omega (arith, high)) f

own_none : (before : List Raw) (c : ℕ) → 0 < c → c < connection_id → introduced before c ≡ None
unfolding introduced last_said
own_none [] c low high = let far : eqb c 0 ≡ false = grind (arith, nat_tests, low) in rw far refl
own_none (m ∷ before) c low high = introduced_before before m c (own_none_at before m c (is_the_finish before m) low high refl) ∙ own_none before c low high

own_gone : (before : List Raw) (c : ℕ) → 0 < c → c < connection_id → object before c ≡ None
own_gone before c low high = by (object before c) refl
  where
    by : (o : Option Entry) → object before c ≡ o → o ≡ None
    by None e = refl
    by (Some x) e = absurd (none_some x (sym (own_none before c low high) ∙ object_is_introduced before c x e))

callback_step : (setup : Setup) (before : List Raw) (m : Raw) (earlier : List Raw) (c : ℕ) → reverse earlier ≡ replies setup before → connected before ≡ true → Tells before earlier → is_the_finish before m ≡ false → made before m ≡ None → synced before m ≡ Some c → IsNew before c →
    Step setup before m earlier (callback_event c ∷ [])
callback_step setup before m earlier c place on t f n s new =
    let x = callback_event c in
    let r = reads_callback c in
    let unknown = own_none before c new.low new.high in
    let at : interface_of earlier x ≡ known.Callback = ap (λ (o : Option KnownInterface). unwrap_or o known.Callback) (t.told c ∙ ap kind_of unknown) in
    let fresh : occurs (destroys c) earlier ≡ false = not_true _ (λ g. elim (t.gone c g).was [ inl i ↦ not_both false (sym (ap is_some unknown) ∙ i) refl | inr o ↦ not_both _ o new.fresh ]) in
    let none = gives_none before m f n in
    let spent : Spent (m ∷ before) c = record {
      dead = record { on = same_connected before m f ∙ on; none = own_gone (m ∷ before) c new.low new.high; low = omega (arith, next_above (m ∷ before), new.high) };
      was = inr (occurs_or (λ b x. is_at_most c (synced b x)) before m ∙ rw s (by (leb c c) (grind (arith, nat_tests))));
    } in
    record {
      told = (record { target = inr (inr (record { more = []; sync = m; before = before; place = refl; callback = s; first = place })); there = fresh; new = λ id k q. absurd (none_some k (sym (announced_nothing id called_row (Long 0 ∷ []) refl) ∙ sym (announces_by known.Callback x called_row (Long 0 ∷ []) id r) ∙ ap (λ (i : KnownInterface). tells i x id) (sym at) ∙ q)); row = called_row; values = Long 0 ∷ []; reads = subst (λ k. ReadsAs k x called_row (Long 0 ∷ [])) (sym at) r }, tt);
      tells = λ _. record {
        told = λ id. told_more earlier x known.Callback called_row _ id at r ∙ ap (λ (o : Option KnownInterface). option_or o (told earlier id)) (announced_nothing id called_row (Long 0 ∷ []) refl) ∙ t.told id ∙ ap kind_of (sym (introduced_before before m id (none id)));
        gone = λ id g. elim (either (eqb c id && true) (occurs (destroys id) earlier) (sym (gone_more earlier x known.Callback called_row _ id at r) ∙ g)) [
          | inl q ↦ subst (λ k. Spent (m ∷ before) k) (eqb-true c id (and_left (eqb c id) true q)) spent
          | inr q ↦ spent_more before m id (t.gone id q)
        ];
      };
    }
  where
    by : (b : Bool) → b ≡ true → (b || occurs (λ b x. is_at_most c (synced b x)) before) ≡ true
    by true e = refl
    by false e = absurd cc

-- ---- any message

invalid_step : (setup : Setup) (before : List Raw) (m : Raw) (earlier : List Raw) → m.id < 2 ^ 64 → connected before ≡ true → Tells before earlier → is_the_finish before m ≡ false → made before m ≡ None →
    Step setup before m earlier (invalid_object_event (serial setup before) m.id ∷ [])
invalid_step setup before m earlier lt on t f n =
    let k : object before connection_id ≡ Some the_connection = object_connection before ∙ rw on refl in
    let q = quiet_told setup (m ∷ before) known.Connection connection_id (invalid_object_event (serial setup before) m.id ∷ []) earlier (record { at = refl; row = _; values = _; reads = reads_invalid (serial setup before) m.id (serial_small setup before) lt; nothing = refl; stays = refl }, tt)
    (there_told before earlier connection_id the_connection t k) (there_alive before earlier connection_id the_connection t k) in
    record { told = q.0; tells = λ x. same_tells before m earlier _ (gives_none before m f n) q.1 t }

-- before the connection there is the handshake alone, which isn't released
first_kept : (before : List Raw) (m : Raw) (e : Entry) → connected before ≡ false → object before m.id ≡ Some e → gone before m ≡ []
unfolding is_release
first_kept before m e off k =
    gone_plain before m e k (elim (chosen (eqb m.id 0) _ _ _ (sym (object_first before m.id off) ∙ k)) [
      | inl a ↦ never_released e.interface m (ap (λ (x : Entry). x.interface) (sym (some_is _ e a.1)))
      | inr b ↦ absurd (none_some e b.1)
    ])

early_sync : (before : List Raw) (m : Raw) → connected before ≡ false → synced before m ≡ None
unfolding synced
early_sync before m off = rw off refl

sync_place : (before : List Raw) (m : Raw) (c : ℕ) → synced before m ≡ Some c → m.id ≡ connection_id
unfolding synced
sync_place before m c s =
    elim (chosen (connected before && eqb m.id connection_id) _ _ _ s) [
      | inl a ↦ eqb-true m.id connection_id (and_right (connected before) (eqb m.id connection_id) a.0)
      | inr b ↦ absurd (none_some c b.1)
    ]

sync_kept : (before : List Raw) (m : Raw) (c : ℕ) → connected before ≡ true → synced before m ≡ Some c → gone before m ≡ []
unfolding is_release
sync_kept before m c on s =
    let k : object before m.id ≡ Some the_connection = ap (object before) (sync_place before m c s) ∙ object_connection before ∙ rw on refl in
    gone_plain before m the_connection k (connection_unreleased known.Connection m refl)

known_step : (setup : Setup) (before : List Raw) (m : Raw) (earlier : List Raw) (o : Option ℕ) → reverse earlier ≡ replies setup before → refusal setup before m ≡ None → connected before ≡ true → Tells before earlier → is_the_finish before m ≡ false → made before m ≡ None → synced before m ≡ o →
    Step setup before m earlier (callback_events o ++ destroyed_events (serial setup before) (gone before m))
known_step setup before m earlier None place r on t f n s = going_step setup before m earlier (serial setup before) on t f n
known_step setup before m earlier (Some c) place r on t f n s =
    subst (λ (ids : List ℕ). Step setup before m earlier (callback_events (Some c) ++ destroyed_events (serial setup before) ids)) (sym (sync_kept before m c on s)) (callback_step setup before m earlier c place on t f n s (callback_new setup before m c r s))

early_step : (setup : Setup) (before : List Raw) (m : Raw) (earlier : List Raw) (e : Entry) → connected before ≡ false → object before m.id ≡ Some e → Tells before earlier → is_the_finish before m ≡ false → made before m ≡ None →
    Step setup before m earlier (callback_events (synced before m) ++ destroyed_events (serial setup before) (gone before m))
early_step setup before m earlier e off k t f n =
    rw (early_sync before m off, first_kept before m e off k) (no_events setup before m earlier (gives_none before m f n) t)

module _ (setup : Setup) (before : List Raw) (m : Raw) (earlier : List Raw) (lt : m.id < 2 ^ 64) (r : refusal setup before m ≡ None) (place : reverse earlier ≡ replies setup before) (t : Tells before earlier) where
  by_step : (mask : Option ℕ) (o : Option Entry) → is_the_finish before m ≡ false → made before m ≡ mask → object before m.id ≡ o → Step setup before m earlier (reply_by setup before m mask o)
  by_step (Some mask) o f h k = by (exhausts before m) refl
    where
      by : (b : Bool) → exhausts before m ≡ b → Step setup before m earlier (cond b [] (device_events (version before) (next_id before) (interfaces_of mask) (serial setup (m ∷ before))))
      by true x = record { told = tt; tells = λ y. absurd (not_both _ x y) }
      by false x = device_step setup before m earlier mask (serial setup (m ∷ before)) (serial_small setup (m ∷ before)) t h x
  by_step None None f h k = by (connected before) refl
    where
      by : (b : Bool) → connected before ≡ b → Step setup before m earlier (cond b (invalid_object_event (serial setup before) m.id ∷ []) [])
      by true on = invalid_step setup before m earlier lt on t f h
      by false off = no_events setup before m earlier (gives_none before m f h) t
  by_step None (Some e) f h k = by (connected before) refl
    where
      by : (b : Bool) → connected before ≡ b → Step setup before m earlier (callback_events (synced before m) ++ destroyed_events (serial setup before) (gone before m))
      by true on = known_step setup before m earlier (synced before m) place r on t f h refl
      by false off = early_step setup before m earlier e off k t f h

  reply_step : setup.serial < 2 ^ 32 → Step setup before m earlier (reply setup before m)
  unfolding reply
  reply_step small = by (is_the_finish before m) refl
    where
      by : (b : Bool) → is_the_finish before m ≡ b → Step setup before m earlier (cond b (finish_events setup before) (reply_by setup before m (made before m) (object before m.id)))
      by true f = finish_step setup before m earlier small t f
      by false f = by_step (made before m) (object before m.id) f refl refl

-- ---- all messages

greeting_kinds : (id : ℕ) → cond (eqb id 0) (Some known.Handshake) None ≡ kind_of (at_first id)
greeting_kinds id = by (eqb id 0)
  where
    by : (b : Bool) → cond b (Some known.Handshake) None ≡ kind_of (cond b (Some (record { interface = known.Handshake; version = 1; device = None })) None)
    by true = refl
    by false = refl

-- what holds of the replies to some messages
record Answered (setup : Setup) (past : List Raw) : Type 0 where
  pub all : AreTold setup past [] (replies setup past)
  pub tells : Tells past (onto (replies setup past) [])

nothing_told : (id : ℕ) → told [] id ≡ kind_of (introduced [] id)
unfolding told introduced last_said
nothing_told id = greeting_kinds id

nothing_gone : (id : ℕ) → occurs (destroys id) [] ≡ false
unfolding occurs
nothing_gone id = refl

handshake_told : told [] 0 ≡ Some known.Handshake
unfolding told
handshake_told = refl

greeted : (setup : Setup) → Answered setup []
unfolding replies joined
greeted setup =
    let q = quiet_told setup [] known.Handshake 0 (greeting ∷ []) [] (record { at = refl; row = _; values = _; reads = reads_greeting; nothing = refl; stays = refl }, tt) handshake_told (nothing_gone 0) in
    record { all = q.0; tells = record { told = λ id. q.1.told id ∙ nothing_told id; gone = λ id g. absurd (not_both _ (sym (q.1.gone id) ∙ g) (nothing_gone id)) } }

module _ (setup : Setup) (small : setup.serial < 2 ^ 32) where
  answer_step : (before : List Raw) (m : Raw) → Answered setup before → m.id < 2 ^ 64 → refusal setup before m ≡ None → Step setup before m (onto (replies setup before) []) (reply setup before m)
  answer_step before m a lt r = reply_step setup before m (onto (replies setup before) []) lt r (ap (λ (l : List Raw). reverse l) (onto_nothing (replies setup before)) ∙ reverse-reverse (replies setup before)) a.tells small

  answer_told : (before : List Raw) (m : Raw) → Answered setup before → m.id < 2 ^ 64 → refusal setup before m ≡ None → AreTold setup (m ∷ before) [] (replies setup (m ∷ before))
  answer_told before m a lt r =
      subst (λ l. AreTold setup (m ∷ before) [] l) (sym (replies_more setup before m)) (both_told setup (m ∷ before) (replies setup before) (reply setup before m) [] (told_later setup m before (replies setup before) [] a.all) (answer_step before m a lt r).told)

  open_answered : (past : List Raw) → AreOpen (judge setup) past → Answered setup past
  unfolding AreOpen
  open_answered [] h = greeted setup
  open_answered (m ∷ before) h =
      let a = open_answered before h.2 in
      let r = accepted_so setup before m h.1 in
      let place : onto (replies setup (m ∷ before)) [] ≡ onto (reply setup before m) (onto (replies setup before) []) = ap (λ (l : List Raw). onto l []) (replies_more setup before m) ∙ onto_append (replies setup before) (reply setup before m) [] in
      record { all = answer_told before m a h.0.id r; tells = subst (λ l. Tells (m ∷ before) l) (sym place) ((answer_step before m a h.0.id r).tells (no_exhausting setup before m h.1)) }

  stops_told : (s : Stop Refusal) (past : List Raw) (rest : List ℕ) → StopsSo (judge setup) s past rest → AreTold setup past [] (replies setup past)
  unfolding StopsSo
  stops_told Waiting past rest h = (open_answered past h.0).all
  stops_told Ended [] rest h = absurd h
  stops_told Ended (m ∷ before) rest h = answer_told before m (open_answered before h.2) h.0.id (ended_so setup before m h.1)
  stops_told (HeaderLength n) past rest h = (open_answered past h.0).all
  stops_told (RefusedStop e) past rest h = (open_answered past h.0).all

  accepted_told : (stream : List ℕ) → IsBytes stream → AreTold setup (accepted setup stream) [] (replies setup (accepted setup stream))
  unfolding reading_of
  accepted_told stream h = let r = is_reading (judge setup) stream h in stops_told _ _ _ r.stops

-- an event of the replies to the messages of a stream
pub reply_told : (setup : Setup) (stream : List ℕ) (earlier : List Raw) (event : Raw) → IsReply setup stream earlier event → IsTold setup (accepted setup stream) earlier event
reply_told setup stream earlier event h =
    let all = subst (λ l. AreTold setup (accepted setup stream) [] l) h.place (accepted_told setup h.serial stream h.bytes) in
    let at = told_at setup (accepted setup stream) (reverse earlier) event h.later [] all in
    subst (λ l. IsTold setup (accepted setup stream) l event) (onto_nothing (reverse earlier) ∙ reverse-reverse earlier) at
