-- What the replies announce has rising ids.
use Rattle.std.proofs.Common.{◌≡◌, ℕ, ◌+◌, ◌<◌, ◌≤◌, ◌%◌, ◌^◌, Bool, true, false, cond, ◌&&◌, leb, List, [], ◌∷◌, ◌++◌, length, Option, Some, None}
use Rattle.std.proofs.Common.{option_map, refl, sym, ap, subst, ◌∙◌, arith}
use Rattle.std.specs.Prelude.{is_some}
use Rattle.std.specs.List.{filter_map}
use Rattle.std.proofs.lemmas.Bool.Decides.{nat_tests}
use Rattle.ei_spec.specs.declared.interface.KnownInterface.{KnownInterface}
use Rattle.ei_spec.specs.declared.interface.KnownInterface.TheVariants as known
use Rattle.ei_spec.specs.Interface.{name_of, known_of, the_settled}
use Rattle.ei_spec.specs.Value.{Kind, Value, Word, Long, Letters}
use Rattle.ei_spec.specs.Rows.{Row, Announces, Nothing, Fixed, Named, row_at, new_id, name_in}
use Rattle.ei_spec.specs.Table.{table}
use Rattle.ei_spec.specs.Message.{Raw}
use Rattle.ei_spec.specs.History.{occurs, joined}
use Rattle.ei_types.specs.Capability.{capabilities, has_bit}
use Rattle.ei_session.specs.Setup.{Setup, connection_id, seat_id}
use Rattle.ei_session.specs.Arguments.{whole, row_args}
use Rattle.ei_session.specs.Handshake.{connected, is_the_finish, settled, version}
use Rattle.ei_session.specs.Replies.{greeting, settled_event, connection_event, seat_event, capability_event, done_event, settled_events}
use Rattle.ei_session.specs.Replies.{capability_events, finish_events}
use Rattle.ei_session.specs.Devices.{interfaces_of, made, next_id, is_past, exhausts}
use Rattle.ei_session.specs.Objects.{Entry, object, gone}
use Rattle.ei_session.specs.Serial.{serial}
use Rattle.ei_session.specs.Refusals.{synced}
use Rattle.ei_session.specs.Events.{invalid_object_event, callback_event, device_event, device_type_event, interface_event, interface_events}
use Rattle.ei_session.specs.Events.{device_done_event, resumed_event, device_events}
use Rattle.ei_session.specs.Events.{destroyed_event, destroyed_events, callback_events, reply_by, reply, replies}
use Rattle.ei_session.specs.NextIds.{next_own}
use Rattle.ei_session.specs.Told.{row_of, ReadsAs}
use Rattle.ei_spec.proofs.NameLaws.{known_again}
use Rattle.ei_spec.proofs.QuietRows.{announces_at, quiet_row}
use Rattle.std.specs.Prelude.{not, ◌&&◌}
use Rattle.std.specs.List.{list_all}
use Rattle.ei_session.proofs.Choices.{some_is, none_some}
use Rattle.ei_session.proofs.AllParts.{replies_more}
use Rattle.ei_session.proofs.ObjectShape.{at_finish}
use Rattle.ei_session.proofs.NextLaws.{own_first, own_finish, own_made, own_device, own_other}
use Rattle.ei_session.proofs.EventRows.{connection_row, reads_connection, seat_row, reads_seat, device_row, reads_device, interface_row}
use Rattle.ei_session.proofs.EventRows.{reads_interface}
use Rattle.ei_session.proofs.TellingReplies.{version_small}

-- ---- what an event announces

abbrev pub is_handshake : KnownInterface → Bool
is_handshake known.Handshake = true
is_handshake interface = false

-- the id lies from one number on and below another, and a peer may give it
pub record LiesIn (from id to : ℕ) : Type 0 where
  pub low : from ≤ id
  pub high : id < to
  pub most : id < 18446744073709551615

-- what a row announces by these values has an id in the range, and is no handshake; the range may be empty
abbrev pub RisesBy : Announces → ℕ → List Kind → List Value → ℕ → Type 0
RisesBy Nothing from kinds values to = from ≤ to
RisesBy (Fixed k) from kinds values to = LiesIn from (new_id kinds values) to × (is_handshake k ≡ false)
RisesBy Named from kinds values to = LiesIn from (new_id kinds values) to × ((k : KnownInterface) × (known_of (name_in values) ≡ Some k) × (is_handshake k ≡ false))

abbrev pub Rises : ℕ → Row → List Value → ℕ → Type 0
Rises from row values to = RisesBy row.announces from row.kinds values to

-- what the event announces does, as it is read to an object which is that of the handshake exactly where its id is 0
pub record Climbs (from : ℕ) (event : Raw) (to : ℕ) : Type 0 where
  pub opcode : event.opcode < 2 ^ 32
  pub rises : (k : KnownInterface) (row : Row) (values : List Value) → (event.id ≡ 0 → k ≡ known.Handshake) → (k ≡ known.Handshake → event.id ≡ 0) → ReadsAs k event row values → Rises from row values to

-- so do several events, each above the one before
abbrev pub AllClimb : ℕ → List Raw → ℕ → Type 0
AllClimb from [] to = from ≤ to
AllClimb from (x ∷ xs) to = (mid : ℕ) × Climbs from x mid × AllClimb mid xs to

lies_lower : (low from id to : ℕ) → low ≤ from → LiesIn from id to → LiesIn low id to
lies_lower low from id to le h = record { low = omega (arith, le, h.low); high = h.high; most = h.most }

rises_lower : (a : Announces) (low from to : ℕ) (kinds : List Kind) (values : List Value) → low ≤ from → RisesBy a from kinds values to → RisesBy a low kinds values to
rises_lower Nothing low from to kinds values le h = omega (arith, le, h)
rises_lower (Fixed k) low from to kinds values le h = (lies_lower low from _ to le h.0, h.1)
rises_lower Named low from to kinds values le h = (lies_lower low from _ to le h.0, h.1)

climb_lower : (low from to : ℕ) (xs : List Raw) → low ≤ from → AllClimb from xs to → AllClimb low xs to
climb_lower low from to [] le h = omega (arith, le, h)
climb_lower low from to (x ∷ xs) le h = (h.0, record { opcode = h.1.opcode; rises = λ k row values a b r. rises_lower row.announces low from h.0 row.kinds values le (h.1.rises k row values a b r) }, h.2)

both_climb : (from mid to : ℕ) (xs ys : List Raw) → AllClimb from xs mid → AllClimb mid ys to → AllClimb from (xs ++ ys) to
both_climb from mid to [] ys a b = climb_lower from mid to ys a b
both_climb from mid to (x ∷ xs) ys a b = (a.0, a.1, both_climb a.0 mid to xs ys a.2 b)

one_climbs : (from to : ℕ) (x : Raw) → Climbs from x to → AllClimb from (x ∷ []) to
one_climbs from to x h = (to, h, omega arith)

-- ---- events that announce nothing

abbrev IsPlain : Option Row → Type 0
IsPlain None = Unit {0}
IsPlain (Some row) = row.announces ≡ Nothing

plain_row : (o : Option Row) (row : Row) → IsPlain o → o ≡ Some row → row.announces ≡ Nothing
plain_row None row h e = absurd (none_some row e)
plain_row (Some r) row h e = ap (λ (x : Row). x.announces) (sym (some_is r row e)) ∙ h

rises_plain : (from : ℕ) (o : Option Row) (row : Row) (values : List Value) → IsPlain o → o ≡ Some row → Rises from row values from
rises_plain from o row values h e = subst (λ (a : Announces). RisesBy a from row.kinds values from) (sym (plain_row o row h e)) (omega arith)

rises_over : (from to : ℕ) (o : Option Row) (row : Row) (values : List Value) → from ≤ to → IsPlain o → o ≡ Some row → Rises from row values to
rises_over from to o row values le h e = subst (λ (a : Announces). RisesBy a from row.kinds values to) (sym (plain_row o row h e)) le

plain_0 : (k : KnownInterface) → IsPlain (row_at 0 (table true k))
plain_0 known.Pingpong = tt
plain_0 k = refl

is_plain : (k : KnownInterface) (n : ℕ) (o : Option Row) → announces_at true k n ≡ false → row_at n (table true k) ≡ o → IsPlain o
is_plain k n None quiet e = tt
is_plain k n (Some row) quiet e = quiet_row true k n row quiet e

quiet_2 : (k : KnownInterface) → (k ≡ known.Handshake → ⊥) → announces_at true k 2 ≡ false
quiet_2 known.Handshake plain = absurd (plain refl)
quiet_2 k plain = refl

plain_2 : (k : KnownInterface) → (k ≡ known.Handshake → ⊥) → IsPlain (row_at 2 (table true k))
plain_2 k plain = is_plain k 2 (row_at 2 (table true k)) (quiet_2 k plain) refl

plain_6 : (k : KnownInterface) → IsPlain (row_at 6 (table true k))
plain_6 known.Device = refl
plain_6 k = tt

plain_7 : (k : KnownInterface) → IsPlain (row_at 7 (table true k))
plain_7 known.Device = refl
plain_7 k = tt

first_opcode : (from : ℕ) (x : Raw) → x.opcode ≡ 0 → Climbs from x from
first_opcode from x at = record {
  opcode = omega (arith, at);
  rises = λ k row values a b r. rises_plain from (row_at 0 (table true k)) row values (plain_0 k) (ap (λ (n : ℕ). row_at n (table true k)) (sym at) ∙ r.is_row);
}

third_opcode : (from : ℕ) (x : Raw) → x.opcode ≡ 2 → 0 < x.id → Climbs from x from
third_opcode from x at some = record {
  opcode = omega (arith, at);
  rises = λ k row values a b r. rises_plain from (row_at 2 (table true k)) row values (plain_2 k (λ e. omega (arith, some, b e))) (ap (λ (n : ℕ). row_at n (table true k)) (sym at) ∙ r.is_row);
}

settled_climbs : (from : ℕ) (i : KnownInterface) (v : ℕ) → Climbs from (settled_event 0 i v) from
settled_climbs from i v = record {
  opcode = omega arith;
  rises = λ k row values a b r. rises_plain from (row_at 1 (table true known.Handshake)) row values refl (ap (λ (k : KnownInterface). row_at 1 (table true k)) (sym (a refl)) ∙ r.is_row);
}

described_climbs : (from d : ℕ) → Climbs from (device_done_event d) from
described_climbs from d = record { opcode = omega arith; rises = λ k row values a b r. rises_plain from (row_at 6 (table true k)) row values (plain_6 k) r.is_row }

resumed_climbs : (from d serial : ℕ) → Climbs from (resumed_event d serial) from
resumed_climbs from d serial = record { opcode = omega arith; rises = λ k row values a b r. rises_plain from (row_at 7 (table true k)) row values (plain_7 k) r.is_row }

-- a ping would have a new id
no_ping : row_args (row_of known.Connection (done_event seat_id)) (done_event seat_id) ≡ None
unfolding row_args whole
no_ping = refl

done_rises : (from : ℕ) (k : KnownInterface) (row : Row) (values : List Value) → ReadsAs k (done_event seat_id) row values → Rises from row values from
done_rises from known.Connection row values r = absurd (none_some values (sym no_ping ∙ ap (λ (o : Option Row). row_args o (done_event seat_id)) r.is_row ∙ r.reads))
done_rises from known.Seat row values r = rises_plain from (row_at 3 (table true known.Seat)) row values refl r.is_row
done_rises from known.Device row values r = rises_plain from (row_at 3 (table true known.Device)) row values refl r.is_row
done_rises from known.Scroll row values r = rises_plain from (row_at 3 (table true known.Scroll)) row values refl r.is_row
done_rises from known.Keyboard row values r = rises_plain from (row_at 3 (table true known.Keyboard)) row values refl r.is_row
done_rises from known.Touchscreen row values r = rises_plain from (row_at 3 (table true known.Touchscreen)) row values refl r.is_row
done_rises from k row values r = absurd (none_some row r.is_row)

done_climbs : (from : ℕ) → Climbs from (done_event seat_id) from
done_climbs from = record { opcode = omega arith; rises = λ k row values a b r. done_rises from k row values r }

-- ---- events that announce an object

rises_as : (k : KnownInterface) (event : Raw) (from to : ℕ) (row was : Row) (values old : List Value) → ReadsAs k event row values → ReadsAs k event was old → Rises from was old to → Rises from row values to
rises_as k event from to row was values old r w h =
    let same : was ≡ row = some_is was row (sym w.is_row ∙ r.is_row) in
    let also : old ≡ values = some_is old values (sym w.reads ∙ ap (λ (x : Row). row_args (Some x) event) same ∙ r.reads) in
    subst (λ (x : Row). Rises from x values to) same (subst (λ (v : List Value). Rises from was v to) also h)

connection_climbs : (serial : ℕ) → serial < 2 ^ 32 → Climbs connection_id (connection_event 0 serial connection_id) seat_id
connection_climbs serial lt = record {
  opcode = omega arith;
  rises = λ k row values a b r. rises_as known.Handshake (connection_event 0 serial connection_id) connection_id seat_id row connection_row values (Word serial ∷ Long connection_id ∷ Word 1 ∷ [])
      (subst (λ (k : KnownInterface). ReadsAs k (connection_event 0 serial connection_id) row values) (a refl) r) (reads_connection serial lt)
      (record { low = omega arith; high = omega arith; most = omega arith }, refl);
}

seat_rises : (v : ℕ) → v < 2 ^ 32 → (k : KnownInterface) (row : Row) (values : List Value) → ReadsAs k (seat_event connection_id seat_id v) row values → Rises seat_id row values (seat_id + 1)
seat_rises v lt known.Connection row values r =
    rises_as known.Connection (seat_event connection_id seat_id v) seat_id (seat_id + 1) row seat_row values (Long seat_id ∷ Word v ∷ []) r (reads_seat v lt) (record { low = omega arith; high = omega arith; most = omega arith }, refl)
seat_rises v lt known.Callback row values r = absurd (none_some row r.is_row)
seat_rises v lt known.Pingpong row values r = absurd (none_some row r.is_row)
seat_rises v lt k row values r = rises_over seat_id (seat_id + 1) (row_at 1 (table true k)) row values (omega arith) refl r.is_row

seat_climbs : (v : ℕ) → v < 2 ^ 32 → Climbs seat_id (seat_event connection_id seat_id v) (seat_id + 1)
seat_climbs v lt = record { opcode = omega arith; rises = λ k row values a b r. seat_rises v lt k row values r }

device_rises : (d v : ℕ) → d < 18446744073709551615 → v < 2 ^ 32 → (k : KnownInterface) (row : Row) (values : List Value) → ReadsAs k (device_event d v) row values → Rises d row values (d + 1)
device_rises d v lt small known.Seat row values r =
    rises_as known.Seat (device_event d v) d (d + 1) row device_row values (Long d ∷ Word v ∷ []) r (reads_device d v (omega (arith, lt)) small) (record { low = omega arith; high = omega arith; most = lt }, refl)
device_rises d v lt small known.Device row values r = rises_over d (d + 1) (row_at 4 (table true known.Device)) row values (omega arith) refl r.is_row
device_rises d v lt small known.Touchscreen row values r = rises_over d (d + 1) (row_at 4 (table true known.Touchscreen)) row values (omega arith) refl r.is_row
device_rises d v lt small k row values r = absurd (none_some row r.is_row)

device_climbs : (d v : ℕ) → d < 18446744073709551615 → v < 2 ^ 32 → Climbs d (device_event d v) (d + 1)
device_climbs d v lt small = record { opcode = omega arith; rises = λ k row values a b r. device_rises d v lt small k row values r }

interface_rises : (d id : ℕ) (i : KnownInterface) (v : ℕ) → id < 18446744073709551615 → v < 2 ^ 32 → is_handshake i ≡ false → (k : KnownInterface) (row : Row) (values : List Value) → ReadsAs k (interface_event d id i v) row values → Rises id row values (id + 1)
interface_rises d id i v lt small plain known.Device row values r =
    rises_as known.Device (interface_event d id i v) id (id + 1) row interface_row values (Long id ∷ Letters (name_of i) ∷ Word v ∷ []) r (reads_interface d id i v (omega (arith, lt)) small)
    (record { low = omega arith; high = omega arith; most = lt }, (i, known_again i, plain))
interface_rises d id i v lt small plain k row values r = absurd (none_some row r.is_row)

interface_climbs : (d id : ℕ) (i : KnownInterface) (v : ℕ) → id < 18446744073709551615 → v < 2 ^ 32 → is_handshake i ≡ false → Climbs id (interface_event d id i v) (id + 1)
interface_climbs d id i v lt small plain = record { opcode = omega arith; rises = λ k row values a b r. interface_rises d id i v lt small plain k row values r }

-- ---- several events

chosen_climb : {A : Type 0} (f : A → Option Raw) (n : ℕ) → ((a : A) (r : Raw) → f a ≡ Some r → Climbs n r n) → (xs : List A) → AllClimb n (filter_map f xs) n
chosen_climb f n h [] = omega arith
chosen_climb f n h (x ∷ xs) = by (f x) refl (chosen_climb f n h xs)
  where
    by : (o : Option Raw) → f x ≡ o → AllClimb n (filter_map f xs) n → AllClimb n (filter_map f (x ∷ xs)) n
    by None e next = rw e next
    by (Some r) e next = rw e (n, h x r e, next)

settled_at : (n : ℕ) (i : KnownInterface) (o : Option ℕ) (r : Raw) → option_map (settled_event 0 i) o ≡ Some r → Climbs n r n
settled_at n i None r e = absurd (none_some r e)
settled_at n i (Some v) r e = subst (λ (x : Raw). Climbs n x n) (some_is (settled_event 0 i v) r e) (settled_climbs n i v)

settled_climb : (n : ℕ) (before : List Raw) → AllClimb n (settled_events 0 (settled before)) n
unfolding settled_events
settled_climb n before = chosen_climb (λ i. option_map (settled_event 0 i) (settled before i)) n (λ i r e. settled_at n i (settled before i) r e) the_settled

capability_at : (n : ℕ) (b : Bool) (c : ℕ × KnownInterface) (r : Raw) → cond b (Some (capability_event seat_id c)) None ≡ Some r → Climbs n r n
capability_at n true c r e = subst (λ (x : Raw). Climbs n x n) (some_is (capability_event seat_id c) r e) (third_opcode n (capability_event seat_id c) refl (omega arith))
capability_at n false c r e = absurd (none_some r e)

capabilities_climb : (n mask : ℕ) (is_settled : KnownInterface → Bool) → AllClimb n (capability_events seat_id mask is_settled) n
unfolding capability_events
capabilities_climb n mask is_settled =
    chosen_climb (λ c. cond (has_bit mask c.0 && is_settled c.1) (Some (capability_event seat_id c)) None) n (λ c r e. capability_at n (has_bit mask c.0 && is_settled c.1) c r e) capabilities

finish_climb : (setup : Setup) (before : List Raw) → setup.serial < 2 ^ 32 → AllClimb connection_id (finish_events setup before) (seat_id + 1)
unfolding finish_events
finish_climb setup before small =
    let n = seat_id + 1 in
    both_climb connection_id connection_id n (settled_events 0 (settled before)) _ (settled_climb connection_id before) (
      seat_id,
      connection_climbs setup.serial small,
      (
        n,
        seat_climbs (version before known.Seat) (version_small before known.Seat),
        both_climb n n n (capability_events seat_id setup.capabilities (λ interface. is_some (settled before interface))) (done_event seat_id ∷ [])
            (capabilities_climb n setup.capabilities (λ interface. is_some (settled before interface))) (one_climbs n n (done_event seat_id) (done_climbs n)),
      ),
    )

abbrev NoHandshake : List KnownInterface → Type 0
NoHandshake [] = Unit {0}
NoHandshake (i ∷ is) = (is_handshake i ≡ false) × NoHandshake is

abbrev NoHandshakes : List (ℕ × KnownInterface) → Type 0
NoHandshakes [] = Unit {0}
NoHandshakes (c ∷ cs) = (is_handshake c.1 ≡ false) × NoHandshakes cs

masked : (mask : ℕ) (cs : List (ℕ × KnownInterface)) → NoHandshakes cs → NoHandshake (filter_map (λ c. cond (has_bit mask c.0) (Some c.1) None) cs)
masked mask [] h = tt
masked mask (c ∷ cs) h = by (has_bit mask c.0) refl (masked mask cs h.1)
  where
    by : (b : Bool) → has_bit mask c.0 ≡ b → NoHandshake (filter_map (λ c. cond (has_bit mask c.0) (Some c.1) None) cs) → NoHandshake (filter_map (λ c. cond (has_bit mask c.0) (Some c.1) None) (c ∷ cs))
    by true e next = rw e (h.0, next)
    by false e next = rw e next

both_so : (b rest : Bool) → (not b && rest) ≡ true → (b ≡ false) × (rest ≡ true)
both_so false true e = (refl, refl)
both_so false false e = absurd cc
both_so true rest e = absurd cc

no_handshakes : (cs : List (ℕ × KnownInterface)) → list_all (λ c. not (is_handshake c.1)) cs ≡ true → NoHandshakes cs
no_handshakes [] e = tt
no_handshakes (c ∷ cs) e = let h = both_so (is_handshake c.1) (list_all (λ (c : ℕ × KnownInterface). not (is_handshake c.1)) cs) e in (h.0, no_handshakes cs h.1)

interfaces_no : (mask : ℕ) → NoHandshake (interfaces_of mask)
unfolding interfaces_of
interfaces_no mask = masked mask capabilities (no_handshakes capabilities refl)

parts_climb : (before : List Raw) (d : ℕ) (is : List KnownInterface) (start : ℕ) → start + length is ≤ 18446744073709551615 → NoHandshake is → AllClimb start (interface_events (version before) d start is) (start + length is)
parts_climb before d [] start le plain = omega arith
parts_climb before d (i ∷ is) start le plain = (
  start + 1,
  interface_climbs d start i (version before i) (omega (arith, le)) (version_small before i) plain.0,
  subst (λ (n : ℕ). AllClimb (start + 1) (interface_events (version before) d (start + 1) is) n) (omega arith) (parts_climb before d is (start + 1) (omega (arith, le)) plain.1),
)

devices_climb : (before : List Raw) (d last : ℕ) (is : List KnownInterface) → 0 < d → d + length is < 0xffffffffffffffff → NoHandshake is → AllClimb d (device_events (version before) d is last) (d + (1 + length is))
unfolding device_events
devices_climb before d last is some lt plain =
    let n = d + (1 + length is) in (
      d + 1,
      device_climbs d (version before known.Device) (omega (arith, lt)) (version_small before known.Device),
      (
        d + 1,
        third_opcode (d + 1) (device_type_event d) refl some,
        both_climb (d + 1) n n (interface_events (version before) d (d + 1) is) _
            (subst (λ (k : ℕ). AllClimb (d + 1) (interface_events (version before) d (d + 1) is) k) (omega arith) (parts_climb before d is (d + 1) (omega (arith, lt)) plain))
            (n, described_climbs n d, one_climbs n n (resumed_event d last) (resumed_climbs n d last)),
      ),
    )

going_climb : (n last : ℕ) (ids : List ℕ) → AllClimb n (destroyed_events last ids) n
going_climb n last [] = omega arith
going_climb n last (id ∷ ids) = (n, first_opcode n (destroyed_event id ((last + 1) % 2 ^ 32)) refl, going_climb n ((last + 1) % 2 ^ 32) ids)

callbacks_climb : (n : ℕ) (o : Option ℕ) → AllClimb n (callback_events o) n
callbacks_climb n None = omega arith
callbacks_climb n (Some c) = one_climbs n n (callback_event c) (first_opcode n (callback_event c) refl)

-- ---- the replies

room_at : (before : List Raw) (m : Raw) (mask : ℕ) → made before m ≡ Some mask → exhausts before m ≡ false → next_id before + length (interfaces_of mask) < 0xffffffffffffffff
unfolding exhausts
room_at before m mask h x =
    let e : leb 0xffffffffffffffff (next_id before + length (interfaces_of mask)) ≡ false = ap (is_past (next_id before)) (sym h) ∙ x in
    grind (arith, nat_tests, e)

some_id : (before : List Raw) → 0 < next_id before
unfolding next_id
some_id before = omega arith

module _ (setup : Setup) (before : List Raw) (m : Raw) where
  made_climb : (mask : ℕ) (b : Bool) → made before m ≡ Some mask → exhausts before m ≡ b →
      AllClimb (next_own before) (cond b [] (device_events (version before) (next_id before) (interfaces_of mask) (serial setup (m ∷ before)))) (next_own (m ∷ before))
  made_climb mask true h x = omega (arith, own_device before m mask h)
  made_climb mask false h x =
      let d = next_id before in
      let is = interfaces_of mask in
      let c = devices_climb before d (serial setup (m ∷ before)) is (some_id before) (room_at before m mask h x) (interfaces_no mask) in
      let same : d ≡ next_own before = own_made before m mask h in
      let end : d + (1 + length is) ≡ next_own (m ∷ before) = ap (λ (n : ℕ). n + (1 + length is)) same ∙ sym (own_device before m mask h) in
      climb_lower (next_own before) d (next_own (m ∷ before)) _ (omega (arith, same)) (subst (λ (n : ℕ). AllClimb d (device_events (version before) d is (serial setup (m ∷ before))) n) end c)

  other_climb : (mask : Option ℕ) (o : Option Entry) → is_the_finish before m ≡ false → made before m ≡ mask → AllClimb (next_own before) (reply_by setup before m mask o) (next_own (m ∷ before))
  other_climb (Some mask) o f h = made_climb mask (exhausts before m) h refl
  other_climb None o f h =
      let same : next_own (m ∷ before) ≡ next_own before = own_other before m f h in
      subst (λ (n : ℕ). AllClimb (next_own before) (reply_by setup before m None o) n) (sym same) (by o (next_own before))
    where
      unknown : (b : Bool) (n : ℕ) → AllClimb n (cond b (invalid_object_event (serial setup before) m.id ∷ []) []) n
      unknown true n = one_climbs n n (invalid_object_event (serial setup before) m.id) (third_opcode n (invalid_object_event (serial setup before) m.id) refl (omega arith))
      unknown false n = omega arith

      by : (o : Option Entry) (n : ℕ) → AllClimb n (reply_by setup before m None o) n
      by None n = unknown (connected before) n
      by (Some e) n = both_climb n n n (callback_events (synced before m)) (destroyed_events (serial setup before) (gone before m)) (callbacks_climb n (synced before m)) (going_climb n (serial setup before) (gone before m))

  finish_at : (b : Bool) → is_the_finish before m ≡ b → setup.serial < 2 ^ 32 → AllClimb (next_own before) (cond b (finish_events setup before) (reply_by setup before m (made before m) (object before m.id))) (next_own (m ∷ before))
  finish_at true f small =
      let from : next_own before ≡ connection_id = own_first before (at_finish before m f).1 in
      let to : next_own (m ∷ before) ≡ seat_id + 1 = own_finish before m f in
      rw (from, to) (finish_climb setup before small)
  finish_at false f small = other_climb (made before m) (object before m.id) f refl

  reply_climb : setup.serial < 2 ^ 32 → AllClimb (next_own before) (reply setup before m) (next_own (m ∷ before))
  unfolding reply
  reply_climb small = finish_at (is_the_finish before m) refl small

first_own : next_own [] ≡ connection_id
unfolding next_own connected occurs
first_own = refl

greeting_climbs : AllClimb connection_id (greeting ∷ []) (next_own [])
greeting_climbs = rw first_own (one_climbs connection_id connection_id greeting (first_opcode connection_id greeting refl))

first_replies : (setup : Setup) → replies setup [] ≡ greeting ∷ []
unfolding replies joined
first_replies setup = refl

pub replies_climb : (setup : Setup) → setup.serial < 2 ^ 32 → (past : List Raw) → AllClimb connection_id (replies setup past) (next_own past)
replies_climb setup small [] = rw (first_replies setup) greeting_climbs
replies_climb setup small (m ∷ before) =
    rw (replies_more setup before m) (both_climb connection_id (next_own before) (next_own (m ∷ before)) (replies setup before) (reply setup before m) (replies_climb setup small before) (reply_climb setup before m small))
