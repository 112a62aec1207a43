-- A step of a client that follows the server: what it sent, and what the pair keeps.
use Rattle.std.proofs.Common.{◌≡◌, ℕ, zero, suc, ◌+◌, ◌<◌, ◌≤◌, ◌^◌, ◌⊎◌, Bool, true, false, cond, eqb, ◌||◌, inl, inr, List, [], ◌∷◌, ◌++◌, length, Option, Some, None, Result, Ok, Err, refl, sym, ap, subst, ◌∙◌, arith, lit≤}
use Rattle.std.specs.Prelude.{is_some, codes, nat_eq}
use Rattle.std.specs.List.{Contains, list_any}
use Rattle.std.specs.Ordering.{nat_cmp}
use Rattle.std.specs.FinMap as finite
use Rattle.std.proofs.lemmas.Bool.{eqb-true, ne_eqb, or_cases, or_parts, eq-eqb}
use Rattle.std.proofs.lemmas.Option.{same_Some}
use Rattle.std.proofs.lemmas.List.{map-append}
use Rattle.std.proofs.lemmas.List.Folds.{list_any-append}
use Rattle.std.proofs.lemmas.List.Elements.{Contains-append_cases}
use Rattle.ei_spec.specs.declared.interface.KnownInterface.TheVariants as known
use Rattle.ei_spec.specs.Interface.{Known, ObjectView}
use Rattle.ei_spec.specs.Rows.{destructor}
use Rattle.ei_spec.specs.Value.{U64}
use Rattle.ei_spec.specs.Piece.{Piece}
use Rattle.ei_types.specs.declared.error.Error.{Error}
use Rattle.ei_types.specs.declared.error.Error.TheVariants as error
use Rattle.ei_backend.specs.Backend.{BackendView}
use Rattle.ei_backend.specs.Endpoint.{endpoint_of}
use Rattle.std.specs.Cmp.{nat_cmp_total, unsigned_tied}
use Rattle.ei_backend.specs.declared.message.PendingRequestResult.TheVariants as pending
use Rattle.ei_ends.specs.Sent.{Sent, Got, Took, New, new_of, row_of, IsCall}
use Rattle.ei_ends.specs.Announced.{next_own, counts}
use Rattle.ei_ends.specs.Way.{onto, End, HasNextId}
use Rattle.ei_ends.specs.Steps.{called, with_taken}
use Rattle.ei_ends.specs.Joined.{Joined, heard, acquainted}
use Rattle.ei_ends.proofs.JoinedSteps.{turned, next_id_is, row_called, past_is}
use Rattle.ei_ends.proofs.Known.{next_more, next_onto}
use Rattle.ei_reported.specs.Said.{Said, said}
use Rattle.ei_reported.specs.Changes.{NewIdsDiffer, brings, brought}
use Rattle.ei_reported.proofs.NeverBrought.{brought_more}
use Rattle.ei_told.specs.Told.{event_of, all_said, behind_it, after_connection, messages, NoneMissed}
use Rattle.ei_client.specs.declared.event.Event.{Event}
use Rattle.ei_client.specs.declared.event.Event.TheVariants as event
use Rattle.ei_client.specs.declared.connection.Event.TheVariants as connection
use Rattle.ei_client.specs.declared.callback.Event.TheVariants as callback
use Rattle.ei_client.specs.declared.seat.Event.TheVariants as seat
use Rattle.ei_client.specs.declared.device.Event.TheVariants as device
use Rattle.ei_client.specs.declared.handshake.Event.TheVariants as handshake
use Rattle.ei_client.specs.declared.pointer.Event.TheVariants as pointer
use Rattle.ei_client.specs.declared.pointer_absolute.Event.TheVariants as pointer_absolute
use Rattle.ei_client.specs.declared.scroll.Event.TheVariants as scroll
use Rattle.ei_client.specs.declared.button.Event.TheVariants as button
use Rattle.ei_client.specs.declared.keyboard.Event.TheVariants as keyboard
use Rattle.ei_client.specs.declared.touchscreen.Event.TheVariants as touchscreen
use Rattle.ei_client.specs.declared.text.Event.TheVariants as text
use Rattle.ei_client.specs.declared.gesture.Event.TheVariants as gesture
use Rattle.ei_handler.specs.declared.receipt.Receipt.{Receipt}
use Rattle.ei_handler.specs.Handlers.{Keeps as KeepsReceipt}
use Rattle.ei_linked.specs.declared.side.Side.TheVariants as side
use Rattle.ei_linked.specs.Stored.{StoredEnd, end_in, having_read}
use Rattle.ei_linked.specs.TwoEnds.{WorldView, IsWorld, end_of, with_end, read_world}
use Rattle.ei_linked.proofs.Kept as kept
use Rattle.ei_event.specs.Typed.{heard as heard_as, said_of, IsLawfulReason}
use Rattle.ei_reported.specs.Reported.{refusal}
use Rattle.ei_event.specs.Connection.{ConnectionView}
use Rattle.ei_event.specs.Kept.{KeptView, new_kept}
use Rattle.ei_event.specs.Core.{core_of}
use Rattle.ei_event.specs.Converter.{ConverterView as ClientConverter, answered, ping_in, callback_in, Ended, Receives, without_called}
use Rattle.ei_event.specs.Handles.{Handles as HandlesTold}
use Rattle.ei_following.specs.Core.{refused, used_by, closed_group}
use Rattle.ei_heeding.specs.Heeding.{Heeds, HeedsBy, IsHeard}
use Rattle.ei_acts.specs.There.{IdsDiffer}
use Rattle.ei_promises.specs.Pair.{having_sent_all}
use Rattle.ei_promises.specs.Stepping.{ReadsEvent, pong, ponged, ponged_on, answered_on_event, as_step, or_wanted, wants_memory}
use Rattle.ei_promises.specs.Keeping.{HasSentAll, Listens, WasTaken, called_ids, KeepsHandlers, IsFollowing}
use Rattle.ei_promises.proofs.Lists.{not_both}
use Rattle.ei_promises.proofs.Takes.{taken_are}
use Rattle.ei_promises.proofs.Taking.{TookOne, took_one, new_is_next, new_acquainted, before_is, heard_still}
use Rattle.ei_promises.proofs.Storing.{sent_end}
use Rattle.ei_promises.proofs.Received.{event_taken, event_joined}
use Rattle.ei_promises.proofs.Events.{message_of}
use Rattle.ei_promises.proofs.Staying.{connection_kept}

-- ---- what the laws of a converter say, as the proofs here take it

pub record FollowingLaws : Type 0 where
  pub says : (e : Event) → IsLawfulReason e → said (heard_as e) ≡ said_of e
  pub handled : (start : ℕ) (before : List Said) (readings : List ℕ) (c new : KeptView) (e : Event) (told now : Option (List ℕ)) (result : Result Unit Error) →
      Heeds start before readings c → NewIdsDiffer (said_of e ∷ before) → HandlesTold c e told now result new → IsHeard result → HeedsBy start before e readings told now c new
  pub refusals : (start : ℕ) (before : List Said) (readings : List ℕ) (c : KeptView) (e : Event) → Heeds start before readings c → refused (core_of c) (said_of e) ≡ refusal before (said_of e)
  pub first : (c : ConnectionView) → Heeds c.serial [] [] (new_kept c)

-- ---- what a typed event announces and ends

ping_new : (e : Event) (ping : ObjectView) → ping_in e ≡ Some ping → new_of true (message_of e) ≡ Some (record { id = ping.id; interface = Known known.Pingpong; version = ping.version })
unfolding row_of
ping_new (event.Connection target (connection.Ping p)) ping e =
    ap (λ (o : ObjectView). let n : Option New = Some (record { id = o.id; interface = Known known.Pingpong; version = o.version }) in n) (same_Some p ping e)
ping_new f ping e = absurd cc

callback_target : (e : Event) (c : Ended) → callback_in e ≡ Some c → (message_of e).target ≡ c.id
callback_target (event.Callback target m) c e = ap (λ (d : Ended). d.id) (same_Some _ c e)
callback_target f c e = absurd cc

-- an event that brings an id announces the object of it
record Announces (e : Event) (id : ℕ) : Type 0 where
  new : New
  announces : new_of true (message_of e) ≡ Some new
  same : new.id ≡ id

brings_new : (e : Event) (id : ℕ) → brings id (said_of e) ≡ true → Announces e id
unfolding row_of
brings_new (event.Handshake proxy (handshake.HandshakeVersion version)) id b = absurd cc
brings_new (event.Handshake proxy (handshake.InterfaceVersion name version)) id b = absurd cc
brings_new (event.Handshake proxy (handshake.Connection serial connection)) id b = absurd cc
brings_new (event.Connection proxy (connection.Disconnected last_serial reason explanation)) id b = absurd cc
brings_new (event.Connection proxy (connection.Seat new)) id b = record { new = _; announces = refl; same = eqb-true new.id id b }
brings_new (event.Connection proxy (connection.InvalidObject last_serial invalid_id)) id b = absurd cc
brings_new (event.Connection proxy (connection.Ping ping)) id b = absurd cc
brings_new (event.Callback proxy (callback.Done callback_data)) id b = absurd cc
brings_new (event.Seat proxy (seat.Destroyed serial)) id b = absurd cc
brings_new (event.Seat proxy (seat.Name name)) id b = absurd cc
brings_new (event.Seat proxy (seat.Capability mask interface)) id b = absurd cc
brings_new (event.Seat proxy seat.Done) id b = absurd cc
brings_new (event.Seat proxy (seat.Device new)) id b = record { new = _; announces = refl; same = eqb-true new.id id b }
brings_new (event.Device proxy (device.Destroyed serial)) id b = absurd cc
brings_new (event.Device proxy (device.Name name)) id b = absurd cc
brings_new (event.Device proxy (device.DeviceType device_type)) id b = absurd cc
brings_new (event.Device proxy (device.Dimensions width height)) id b = absurd cc
brings_new (event.Device proxy (device.Region offset_x offset_y width hight scale)) id b = absurd cc
brings_new (event.Device proxy (device.Interface new)) id b = record { new = _; announces = refl; same = eqb-true new.id id b }
brings_new (event.Device proxy device.Done) id b = absurd cc
brings_new (event.Device proxy (device.Resumed serial)) id b = absurd cc
brings_new (event.Device proxy (device.Paused serial)) id b = absurd cc
brings_new (event.Device proxy (device.StartEmulating serial sequence)) id b = absurd cc
brings_new (event.Device proxy (device.StopEmulating serial)) id b = absurd cc
brings_new (event.Device proxy (device.Frame serial timestamp)) id b = absurd cc
brings_new (event.Device proxy (device.RegionMappingId mapping_id)) id b = absurd cc
brings_new (event.Pointer proxy (pointer.Destroyed serial)) id b = absurd cc
brings_new (event.Pointer proxy (pointer.MotionRelative x y)) id b = absurd cc
brings_new (event.PointerAbsolute proxy (pointer_absolute.Destroyed serial)) id b = absurd cc
brings_new (event.PointerAbsolute proxy (pointer_absolute.MotionAbsolute x y)) id b = absurd cc
brings_new (event.Scroll proxy (scroll.Destroyed serial)) id b = absurd cc
brings_new (event.Scroll proxy (scroll.Scroll x y)) id b = absurd cc
brings_new (event.Scroll proxy (scroll.ScrollDiscrete x y)) id b = absurd cc
brings_new (event.Scroll proxy (scroll.ScrollStop x y is_cancel)) id b = absurd cc
brings_new (event.Button proxy (button.Destroyed serial)) id b = absurd cc
brings_new (event.Button proxy (button.Button button state)) id b = absurd cc
brings_new (event.Keyboard proxy (keyboard.Destroyed serial)) id b = absurd cc
brings_new (event.Keyboard proxy (keyboard.Keymap keymap_type size keymap)) id b = absurd cc
brings_new (event.Keyboard proxy (keyboard.Key key state)) id b = absurd cc
brings_new (event.Keyboard proxy (keyboard.Modifiers serial depressed locked latched group)) id b = absurd cc
brings_new (event.Touchscreen proxy (touchscreen.Destroyed serial)) id b = absurd cc
brings_new (event.Touchscreen proxy (touchscreen.Down touchid x y)) id b = absurd cc
brings_new (event.Touchscreen proxy (touchscreen.Motion touchid x y)) id b = absurd cc
brings_new (event.Touchscreen proxy (touchscreen.Up touchid)) id b = absurd cc
brings_new (event.Touchscreen proxy (touchscreen.Cancel touchid)) id b = absurd cc
brings_new (event.Text proxy (text.Destroyed serial)) id b = absurd cc
brings_new (event.Text proxy (text.Keysym keysym state)) id b = absurd cc
brings_new (event.Text proxy (text.Utf8 text)) id b = absurd cc
brings_new (event.Gesture proxy (gesture.Destroyed serial)) id b = absurd cc
brings_new (event.Gesture proxy (gesture.Swipe fingers x y)) id b = absurd cc
brings_new (event.Gesture proxy (gesture.Pinch scale)) id b = absurd cc

-- ---- ids

contains_one : (x r : Receipt) → Contains (x ∷ []) r → r ≡ x
contains_one x r (zero, lt, c) = sym c
contains_one x r (suc n, lt, c) = absurd (omega (arith, lt))

ids_last : (ids : List ℕ) (id : ℕ) → IdsDiffer ids → list_any (nat_eq id) ids ≡ false → IdsDiffer (ids ++ (id ∷ []))
ids_last [] id d n = (refl, tt)
ids_last (i ∷ ids) id d n =
    let parts = or_parts (eqb id i) (list_any (nat_eq id) ids) n in (
      list_any-append (nat_eq i) ids (id ∷ []) ∙ rw (d.0) (last i id parts.0),
      ids_last ids id d.1 parts.1,
    )
  where
    last : (a b : ℕ) → eqb b a ≡ false → (eqb a b || false) ≡ false
    last a b f = ap (λ (t : Bool). t || false) (ne_eqb a b (λ e. not_both (eqb b a) (eq-eqb b a (sym e)) f))

-- ---- handlers

later_taken : (id : ℕ) (g : Got) (taken : List Got) → WasTaken id taken → WasTaken id (g ∷ taken)
later_taken id g taken t = record { message = t.message; after = t.after; newer = g ∷ t.newer; older = t.older; is = ap (λ (l : List Got). g ∷ l) t.is; target = t.target }

pub handlers_more : {H : Type 0} (f left : ClientConverter H) (own own_then : ℕ) (g : Got) (taken : List Got) → own ≤ own_then → KeepsHandlers own taken f → left.receipts ≡ f.receipts →
    ((id : ℕ) → is_some (finite.get left.waiting id) ≡ true → is_some (finite.get f.waiting id) ≡ true) → KeepsHandlers own_then (g ∷ taken) left
handlers_more f left own own_then g taken le k same sub = record {
  ended = λ r c. let e = k.ended r (subst (λ (l : List Receipt). Contains l r) same c) in let lt = e.1 in (later_taken r.callback g taken e.0, omega (arith, le, lt));
  waits = λ id s. let w = k.waits id (sub id s) in let lt = w.0 in (omega (arith, le, lt), ap (λ (l : List Receipt). list_any (nat_eq id) (called_ids l)) same ∙ w.1);
  once = subst (λ (l : List Receipt). IdsDiffer (called_ids l)) (sym same) k.once;
}

got_without : {H : Type 0} (m : finite.FinMap nat_cmp H) (k q : ℕ) → finite.get (finite.remove m k) q ≡ cond (eqb q k) None (finite.get m q)
got_without {H} m k q = finite.get-remove nat_cmp_total m k q ∙ ap (λ (b : Bool). cond b None (finite.get m q)) (unsigned_tied q k)

still_there : {H : Type 0} (m : finite.FinMap nat_cmp H) (k q : ℕ) → is_some (finite.get (finite.remove m k) q) ≡ true → (eqb q k ≡ false) × (is_some (finite.get m q) ≡ true)
still_there {H} m k q s = by (eqb q k) refl (sym (ap is_some (got_without m k q)) ∙ s)
  where
    by : (b : Bool) → eqb q k ≡ b → is_some (cond b None (finite.get m q)) ≡ true → (eqb q k ≡ false) × (is_some (finite.get m q) ≡ true)
    by true e f = absurd cc
    by false e f = (e, f)

module _ {H : Type 0} (may : H → ℕ → ℕ → Type 0) (e : Event) (f left : ClientConverter H) (own own_then n : ℕ) (taken : List Got) (le : own ≤ own_then) (k : KeepsHandlers own taken f) where
  unchanged : left.receipts ≡ f.receipts → left.waiting ≡ f.waiting → KeepsHandlers own_then (Took (message_of e) n ∷ taken) left
  unchanged same waiting = handlers_more f left own own_then (Took (message_of e) n) taken le k same (λ id s. subst (λ (w : finite.FinMap nat_cmp H). is_some (finite.get w id) ≡ true) waiting s)

  module _ (c : Ended) (is : callback_in e ≡ Some c) (waiting : left.waiting ≡ finite.remove f.waiting c.id) where
    sub : (id : ℕ) → is_some (finite.get left.waiting id) ≡ true → (eqb id c.id ≡ false) × (is_some (finite.get f.waiting id) ≡ true)
    sub id s = still_there f.waiting c.id id (subst (λ (w : finite.FinMap nat_cmp H). is_some (finite.get w id) ≡ true) waiting s)

    none_called : left.receipts ≡ f.receipts → KeepsHandlers own_then (Took (message_of e) n ∷ taken) left
    none_called same = handlers_more f left own own_then (Took (message_of e) n) taken le k same (λ id s. (sub id s).1)

    one_called : (answer : ℕ) → is_some (finite.get f.waiting c.id) ≡ true → left.receipts ≡ f.receipts ++ (record { callback = c.id; value = c.value; answer = answer } ∷ []) → KeepsHandlers own_then (Took (message_of e) n ∷ taken) left
    one_called answer there same =
        let one : Receipt = record { callback = c.id; value = c.value; answer = answer } in
        let ids : called_ids left.receipts ≡ called_ids f.receipts ++ (c.id ∷ []) = ap called_ids same ∙ map-append (λ (r : Receipt). r.callback) f.receipts (one ∷ []) in
        let mine = k.waits c.id there in
        let mine_lt = mine.0 in
        record {
          ended = λ r h. by r one refl (Contains-append_cases f.receipts (one ∷ []) r (subst (λ (l : List Receipt). Contains l r) same h));
          waits = λ id s. let p = sub id s in let w = k.waits id p.1 in let lt = w.0 in (
            omega (arith, le, lt),
            ap (list_any (nat_eq id)) ids ∙ list_any-append (nat_eq id) (called_ids f.receipts) (c.id ∷ []) ∙ rw (w.1, p.0) refl,
          );
          once = subst IdsDiffer (sym ids) (ids_last (called_ids f.receipts) c.id k.once mine.1);
        }
      where
        by : (r one : Receipt) → one.callback ≡ c.id → Contains f.receipts r ⊎ Contains (one ∷ []) r → WasTaken r.callback (Took (message_of e) n ∷ taken) × (r.callback < own_then)
        by r one m (inl h) = let t = k.ended r h in let lt = t.1 in (later_taken r.callback (Took (message_of e) n) taken t.0, omega (arith, le, lt))
        by r one m (inr h) =
            let id : r.callback ≡ c.id = ap (λ (q : Receipt). q.callback) (contains_one one r h) ∙ m in
            let lt = (k.waits c.id there).0 in (
              record { message = message_of e; after = n; newer = []; older = taken; is = refl; target = callback_target e c is ∙ sym id },
              omega (arith, le, lt, id),
            )

    kept_receipt : (o : Option H) → finite.get f.waiting c.id ≡ o → KeepsReceipt may o c.id c.value f.receipts left.receipts → KeepsHandlers own_then (Took (message_of e) n ∷ taken) left
    kept_receipt None g r = none_called r
    kept_receipt (Some h) g r = one_called r.0 (ap is_some g) r.2

  pub handlers_then : (answer : Result Unit Error) → Receives may (callback_in e) answer f.waiting f.receipts left.receipts → left.waiting ≡ without_called (callback_in e) answer f.waiting → KeepsHandlers own_then (Took (message_of e) n ∷ taken) left
  handlers_then answer r w = by (callback_in e) answer refl r w
    where
      by : (o : Option Ended) (answer : Result Unit Error) → callback_in e ≡ o → Receives may o answer f.waiting f.receipts left.receipts → left.waiting ≡ without_called o answer f.waiting → KeepsHandlers own_then (Took (message_of e) n ∷ taken) left
      by None answer is r w = unchanged r w
      by (Some c) (Ok t) is r w = kept_receipt c is w (finite.get f.waiting c.id) refl r
      by (Some c) (Err why) is r w = unchanged r w

-- ---- new ids

brings_or : (id : ℕ) (s : Said) (before : List Said) → brought (s ∷ before) id ≡ true → (brings id s ≡ true) ⊎ (brought before id ≡ true)
brings_or id s before e = or_cases (brings id s) (brought before id) (sym (brought_more before s id) ∙ e)

heard_by : (answer : Result Unit Error) (c new : KeptView) (e : Event) (told now : Option (List ℕ)) → HandlesTold c e told now answer new → (answer ≡ Err error.NoMemory → ⊥) → IsHeard answer
heard_by (Ok t) c new e told now h n = tt
heard_by (Err (error.Event why)) c new e told now h n = tt
heard_by (Err error.NoMemory) c new e told now h n = absurd (n refl)
heard_by (Err why) c new e told now h n = absurd h.ends

module _ (laws : FollowingLaws) (x y0 y : End) (to_client to_server : Piece) (e : Event) (n : ℕ) (lawful : IsLawfulReason e) (j0 : Joined true x y0 to_client to_server) (j : Joined true x y to_client to_server) (taken_is : y.taken ≡ Took (message_of e) n ∷ y0.taken) where
  abbrev m : Sent
  m = message_of e

  one : TookOne true x y m n y0.taken
  one = took_one true x y to_client to_server m n y0.taken j taken_is

  says_it : said (event_of m) ≡ said_of e
  says_it = laws.says e lawful

  -- what was taken before is what was sent before
  past_of : NoneMissed y0.taken → messages y0.taken ≡ one.past
  past_of none = taken_are true x y0 to_client to_server j0 none ∙ past_is true x y0 to_client to_server j0 ∙ before_is true x y y0 to_client to_server m n one j0

  module _ (none : NoneMissed y0.taken) (c new : KeptView) (l : Listens (messages y0.taken) c) where
    new_is : (id : ℕ) → brings id (said_of e) ≡ true → id ≡ next_own true (messages y0.taken)
    new_is id b =
        let a = brings_new e id b in
        sym a.same ∙ (new_is_next true x y m n y0.taken one a.new a.announces).0 ∙ ap (next_own true) (sym (past_of none))

    counts_one : (id : ℕ) → brings id (said_of e) ≡ true → counts (new_of true m) ≡ 1
    counts_one id b = let a = brings_new e id b in ap counts a.announces

    differ : NewIdsDiffer (said_of e ∷ all_said l.said)
    differ = ((λ id b. by id b (brought (all_said l.said) id) refl), l.heeds.follows.differ)
      where
        by : (id : ℕ) → brings id (said_of e) ≡ true → (t : Bool) → brought (all_said l.said) id ≡ t → brought (all_said l.said) id ≡ false
        by id b true f = absurd (let lt = l.below id f in let is = new_is id b in omega (arith, lt, is))
        by id b false f = f

    listens_then : (told now : Option (List ℕ)) (answer : Result Unit Error) → HandlesTold c e told now answer new → (answer ≡ Err error.NoMemory → ⊥) → Listens (m ∷ messages y0.taken) new
    unfolding after_connection
    listens_then told now answer d unwanted =
        let h = laws.handled l.start (all_said l.said) l.readings c new e told now answer l.heeds differ d (heard_by answer c new e told now d unwanted) in
        record {
          said = m ∷ l.said;
          behind = ap (behind_it m) l.behind;
          start = l.start;
          readings = l.readings ++ used_by (closed_group (core_of c) (said_of e)) h.time;
          heeds = subst (λ (s : Said). Heeds l.start (s ∷ all_said l.said) (l.readings ++ used_by (closed_group (core_of c) (said_of e)) h.time) new) (sym says_it) h.one.heeds;
          below = λ id f. let more = next_more true m (messages y0.taken) in by id more (brings_or id (said_of e) (all_said l.said) (ap (λ (s : Said). brought (s ∷ all_said l.said) id) (sym says_it) ∙ f));
        }
      where
        by : (id : ℕ) → next_own true (m ∷ messages y0.taken) ≡ next_own true (messages y0.taken) + counts (new_of true m) → (brings id (said_of e) ≡ true) ⊎ (brought (all_said l.said) id ≡ true) → id < next_own true (m ∷ messages y0.taken)
        by id more (inl b) = let is = new_is id b in let count = counts_one id b in omega (arith, is, count, more)
        by id more (inr b) = let lt = l.below id b in omega (arith, lt, more)

-- ---- the answer to a ping

pong_row : (ping : ObjectView) → row_of false (pong ping) ≡ Some (destructor (codes "done") (U64 ∷ []))
unfolding row_of
pong_row ping = refl

pong_quiet : (ping : ObjectView) → new_of false (pong ping) ≡ None
unfolding row_of
pong_quiet ping = refl

pong_call : (ping : ObjectView) → ping.id < 2 ^ 64 → IsCall false (pong ping) (destructor (codes "done") (U64 ∷ []))
pong_call ping lt = record { row = pong_row ping; kinds = (omega arith, tt); target = lt; opcode = omega arith; short = lit≤ tt }

pong_left : (ping : ObjectView) (b : BackendView) → answered (Some ping) b ≡ called false (pong ping) b
pong_left ping b = row_called false (pong ping) (destructor (codes "done") (U64 ∷ [])) ping b (pong_row ping) refl

module _ (x y0 y : End) (to_client to_server : Piece) (e : Event) (n : ℕ) (j : Joined true x y to_client to_server) (taken_is : y.taken ≡ Took (message_of e) n ∷ y0.taken) where
  pong_sent : (ping : ObjectView) → ping_in e ≡ Some ping → HasSentAll false (pong ping ∷ []) y (answered (Some ping) y.backend)
  pong_sent ping is =
      let k : New = record { id = ping.id; interface = Known known.Pingpong; version = ping.version } in
      let news = ping_new e ping is in
      let t : TookOne true x y (message_of e) n y0.taken = took_one true x y to_client to_server (message_of e) n y0.taken j taken_is in
      let small = (new_is_next true x y (message_of e) n y0.taken t k news).1 in
      let knows = ap (λ (l : List Got). acquainted false y.sent l ping.id) taken_is ∙ new_acquainted true x y (message_of e) n y0.taken t k news in
      let ends = t.ranges.own_ends in
      let more = next_more false (pong ping) y.sent in
      let quiet = ap counts (pong_quiet ping) in
      record {
        endpoint = ap endpoint_of (pong_left ping y.backend);
        listed = (
          destructor (codes "done") (U64 ∷ []),
          record { call = pong_call ping (omega (arith, small)); target = knows; next = subst (HasNextId (next_own false y.sent)) (sym (pong_quiet ping)) tt; left = omega (arith, ends, more, quiet) },
          tt,
        );
      }

  pub follows_sent : (answer : Result Unit Error) → HasSentAll false (ponged_on answer e) y (answered_on_event answer e y.backend)
  follows_sent (Err why) = record { endpoint = refl; listed = tt }
  follows_sent (Ok t) = by (ping_in e) refl
    where
      by : (o : Option ObjectView) → ping_in e ≡ o → HasSentAll false (ponged (ping_in e)) y (answered (ping_in e) y.backend)
      by None is = subst (λ (o : Option ObjectView). HasSentAll false (ponged o) y (answered o y.backend)) (sym is) (record { endpoint = refl; listed = tt })
      by (Some ping) is = subst (λ (o : Option ObjectView). HasSentAll false (ponged o) y (answered o y.backend)) (sym is) (pong_sent ping is)

-- ---- what stands behind it

wants_not : (cw : Bool) (answer : Result Unit Error) → or_wanted cw (as_step answer) ≡ false → (cw ≡ false) × (answer ≡ Err error.NoMemory → ⊥)
wants_not true answer e = absurd cc
wants_not false answer e = (refl, λ f. let both : wants_memory (as_step answer) ≡ true = ap (λ (a : Result Unit Error). wants_memory (as_step a)) f in not_both (wants_memory (as_step answer)) both e)

module _ (laws : FollowingLaws) {H : Type 0} (may : H → ℕ → ℕ → Type 0) (w : WorldView) (f : ClientConverter H) (cw : Bool) (whole : w.spent ≡ false) (world : IsWorld w) (follows : IsFollowing f (end_in w.client) cw) (e : Event) (lawful : IsLawfulReason e)
    (reads : ReadsEvent (Some (pending.Request e)) w (read_world side.Client w)) (told now : Option (List ℕ)) (answer : Result Unit Error) (left : ClientConverter H) where
  abbrev pub x : End
  x = end_in w.server

  abbrev pub y : End
  y = end_in w.client

  abbrev pub z : StoredEnd
  z = having_read true w.client

  unread : Joined true x y w.to_client w.to_server
  unread = kept.back w whole world

  pub took : end_in z ≡ with_taken z.backend (Took (message_of e) (length w.client.sent)) y
  took = event_taken e w.client reads

  pub read : Joined true x (end_in z) w.to_client w.to_server
  read = event_joined e w.client reads x w.to_client w.to_server unread

  pub taken_is : (end_in z).taken ≡ Took (message_of e) (length w.client.sent) ∷ y.taken
  taken_is = ap (λ (q : End). q.taken) took

  same_sent : (end_in z).sent ≡ y.sent
  same_sent = ap (λ (q : End). q.sent) took

  pub sent_so : HasSentAll false (ponged_on answer e) (end_in z) (answered_on_event answer e z.backend)
  sent_so = follows_sent x y (end_in z) w.to_client w.to_server e (length w.client.sent) read taken_is answer

  abbrev pub then : WorldView
  then = with_end side.Client (having_sent_all false (ponged_on answer e) (answered_on_event answer e z.backend) z) (read_world side.Client w)

  end_then : end_of side.Client then ≡ (let q : End = record { backend = answered_on_event answer e z.backend; sent = onto (ponged_on answer e) y.sent; taken = Took (message_of e) (length w.client.sent) ∷ y.taken } in q)
  end_then =
      sent_end false (ponged_on answer e) (answered_on_event answer e z.backend) z sent_so.listed
      ∙ ap (λ (t : List Sent). let q : End = record { backend = answered_on_event answer e z.backend; sent = onto (ponged_on answer e) t; taken = (end_in z).taken } in q) same_sent
      ∙ ap (λ (t : List Got). let q : End = record { backend = answered_on_event answer e z.backend; sent = onto (ponged_on answer e) y.sent; taken = t } in q) taken_is

  taken_then : (end_of side.Client then).taken ≡ Took (message_of e) (length w.client.sent) ∷ y.taken
  taken_then = ap (λ (q : End). q.taken) end_then

  own_grows : Joined true x (end_of side.Client then) w.to_client w.to_server → y.backend.table.next_own ≤ (end_of side.Client then).backend.table.next_own
  own_grows j =
      let before = next_id_is false y x w.to_server w.to_client (turned true x y w.to_client w.to_server unread) in
      let after = next_id_is false (end_of side.Client then) x w.to_server w.to_client (turned true x (end_of side.Client then) w.to_client w.to_server j) in
      let sent = ap (λ (q : End). next_own false q.sent) end_then in
      let grows = next_onto false (ponged_on answer e) y.sent in
      omega (arith, before, after, sent, grows)

  pub follows_then : Joined true x (end_of side.Client then) w.to_client w.to_server → HandlesTold f.kept e told now answer left.kept → Receives may (callback_in e) answer f.waiting f.receipts left.receipts → left.waiting ≡ without_called (callback_in e) answer f.waiting →
      IsFollowing left (end_of side.Client then) (or_wanted cw (as_step answer))
  follows_then j d receives waiting =
      let same = connection_kept f.kept left.kept e told now answer d in
      record {
        connection = subst (λ (o : ObjectView). heard true (end_of side.Client then).taken o.id ≡ Some (record { id = o.id; interface = Known known.Connection; version = o.version })) (sym same.0)
            (subst (λ (l : List Got). heard true l f.kept.proxy.id ≡ Some (record { id = f.kept.proxy.id; interface = Known known.Connection; version = f.kept.proxy.version })) (sym taken_then)
            (heard_still true (message_of e) (length w.client.sent) y.taken f.kept.proxy.id _ follows.connection));
        listens = λ want miss.
            let p = wants_not cw answer want in
            let none : NoneMissed y.taken = subst NoneMissed taken_then miss in
            subst (λ (l : List Got). Listens (messages l) left.kept) (sym taken_then)
            (listens_then laws x y (end_in z) w.to_client w.to_server e (length w.client.sent) lawful unread read taken_is none f.kept left.kept (follows.listens p.0 none) told now answer d p.1);
        handlers = subst (λ (l : List Got). KeepsHandlers (end_of side.Client then).backend.table.next_own l left) (sym taken_then)
            (handlers_then may e f left y.backend.table.next_own (end_of side.Client then).backend.table.next_own (length w.client.sent) y.taken (own_grows j) follows.handlers answer receives waiting);
      }
