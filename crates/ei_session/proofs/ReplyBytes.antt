-- How many bytes answer a message.
use Rattle.std.proofs.Common.{◌≡◌, ℕ, eqb, ◌%◌, ◌^◌, ◌+◌, ◌*◌, ◌≤◌, Bool, true, false, cond, ◌&&◌, List, [], ◌∷◌, ◌++◌, length, Option, Some, None, refl, sym}
use Rattle.std.proofs.Common.{ap, ◌∙◌, arith}
use Rattle.std.specs.Prelude.{is_some, unwrap_or}
use Rattle.std.specs.Option.{option_map}
use Rattle.std.specs.List.{filter, filter_map, range_with_len}
use Rattle.std.proofs.lemmas.List.{length-append}
use Rattle.std.proofs.lemmas.List.FromFn.{length-range_with_len}
use Rattle.ei_spec.specs.declared.interface.KnownInterface.{KnownInterface}
use Rattle.ei_spec.specs.declared.interface.KnownInterface.TheVariants as known
use Rattle.ei_spec.specs.Interface.{the_settled}
use Rattle.ei_spec.specs.Message.{Raw, le4, le8, header, bytes_of, all_bytes}
use Rattle.ei_types.specs.Capability.{capabilities, has_bit}
use Rattle.ei_session.specs.Setup.{Setup, connection_id, seat_id}
use Rattle.ei_session.specs.Handshake.{connected, is_the_finish, settled, version}
use Rattle.ei_session.specs.Replies.{settled_event, capability_event, connection_event, seat_event, done_event, settled_events, capability_events}
use Rattle.ei_session.specs.Replies.{finish_events}
use Rattle.ei_session.specs.Events.{invalid_object_event, callback_event, device_event, device_type_event, interface_event, device_done_event, resumed_event}
use Rattle.ei_session.specs.Events.{destroyed_event, interface_events, device_events, destroyed_events, callback_events, reply_by, reply}
use Rattle.ei_spec.specs.History.{last_said}
use Rattle.ei_spec.proofs.HistoryLaws.{said_now, said_before}
use Rattle.ei_session.specs.Devices.{interfaces_of, made, next_id, exhausts, if_same, makes, device_interfaces}
use Rattle.ei_session.specs.Objects.{Entry, is_release, object, interfaces_left, going, gone_with, gone}
use Rattle.ei_session.specs.Serial.{serial}
use Rattle.ei_session.specs.Longest.{event_bytes, sum_of, most_settled, handed_over_bytes, most_offered, most_interfaces, most_described, longest_reply}
use Rattle.ei_spec.specs.declared.limits.TheConstants.{CAPABILITIES}
use Rattle.ei_session.specs.Refusals.{synced}
use Rattle.ei_session.proofs.Choices.{some_is, none_some}

-- ---- single events

pub settled_length : (i : KnownInterface) (v : ℕ) → length (bytes_of (settled_event 0 i v)) ≡ length (bytes_of (settled_event 0 i 0))
unfolding bytes_of header le4 le8
settled_length known.Handshake v = refl
settled_length i v = refl

-- the bytes of some events
abbrev bytes : List Raw → ℕ
bytes events = length (all_bytes events)

bytes_cons : (r : Raw) (rs : List Raw) → bytes (r ∷ rs) ≡ length (bytes_of r) + bytes rs
bytes_cons r rs = length-append (bytes_of r) (all_bytes rs)

bytes_append : (xs ys : List Raw) → bytes (xs ++ ys) ≡ bytes xs + bytes ys
bytes_append [] ys = omega arith
bytes_append (x ∷ xs) ys = omega (arith, bytes_cons x (xs ++ ys), bytes_cons x xs, bytes_append xs ys)

-- those that are chosen among some have no more bytes than all
chosen_bytes : {A : Type 0} (f : A → Option Raw) (weight : A → ℕ) → ((a : A) (r : Raw) → f a ≡ Some r → length (bytes_of r) ≤ weight a) → (xs : List A) → bytes (filter_map f xs) ≤ sum_of weight xs
chosen_bytes f weight h [] = omega arith
chosen_bytes f weight h (x ∷ xs) = by (f x) refl (chosen_bytes f weight h xs)
  where
    by : (o : Option Raw) → f x ≡ o → bytes (filter_map f xs) ≤ sum_of weight xs → bytes (filter_map f (x ∷ xs)) ≤ sum_of weight (x ∷ xs)
    by None e le = rw e (omega (arith, le))
    by (Some r) e le = rw e (omega (arith, le, h x r e, bytes_cons r (filter_map f xs)))

-- ---- the finish

abbrev settled_weight : KnownInterface → ℕ
settled_weight i = event_bytes (settled_event 0 i 0)

settled_by : (i : KnownInterface) (o : Option ℕ) (r : Raw) → option_map (settled_event 0 i) o ≡ Some r → length (bytes_of r) ≤ settled_weight i
settled_by i None r e = absurd (none_some r e)
settled_by i (Some v) r e = let same = some_is (settled_event 0 i v) r e in omega (arith, settled_length i v, ap (λ (x : Raw). length (bytes_of x)) same)

settled_bytes : (settled : KnownInterface → Option ℕ) → bytes (settled_events 0 settled) ≤ most_settled
unfolding settled_events most_settled
settled_bytes settled = chosen_bytes (λ i. option_map (settled_event 0 i) (settled i)) settled_weight (λ i r e. settled_by i (settled i) r e) the_settled

abbrev capability_weight : ℕ × KnownInterface → ℕ
capability_weight c = event_bytes (capability_event seat_id c)

capability_by : (b : Bool) (c : ℕ × KnownInterface) (r : Raw) → cond b (Some (capability_event seat_id c)) None ≡ Some r → length (bytes_of r) ≤ capability_weight c
capability_by true c r e = let same = some_is (capability_event seat_id c) r e in omega (arith, ap (λ (x : Raw). length (bytes_of x)) same)
capability_by false c r e = absurd (none_some r e)

capability_bytes : (mask : ℕ) (is_settled : KnownInterface → Bool) → bytes (capability_events seat_id mask is_settled) ≤ most_offered
unfolding capability_events most_offered
capability_bytes mask is_settled = chosen_bytes (λ c. cond (has_bit mask c.0 && is_settled c.1) (Some (capability_event seat_id c)) None) capability_weight (λ c r e. capability_by (has_bit mask c.0 && is_settled c.1) c r e) capabilities

handed_bytes : (serial v : ℕ) → length (bytes_of (connection_event 0 serial connection_id)) + (length (bytes_of (seat_event connection_id seat_id v)) + length (bytes_of (done_event seat_id))) ≡ handed_over_bytes
unfolding handed_over_bytes bytes_of header le4 le8
handed_bytes serial v = refl

pub finish_bytes : (setup : Setup) (before : List Raw) → length (all_bytes (finish_events setup before)) ≤ longest_reply
unfolding finish_events longest_reply
finish_bytes setup before =
    let v = version before known.Seat in
    let told = settled_events 0 (settled before) in
    let mask = capability_events seat_id setup.capabilities (λ interface. is_some (settled before interface)) in
    let done = done_event seat_id ∷ [] in
    let c = connection_event 0 setup.serial connection_id in
    let s = seat_event connection_id seat_id v in
    omega (
      arith,
      settled_bytes (settled before),
      capability_bytes setup.capabilities (λ interface. is_some (settled before interface)),
      handed_bytes setup.serial v,
      bytes_append told (c ∷ (s ∷ (mask ++ done))),
      bytes_cons c (s ∷ (mask ++ done)),
      bytes_cons s (mask ++ done),
      bytes_append mask done,
      bytes_cons (done_event seat_id) [],
    )

-- ---- a device

abbrev interface_weight : KnownInterface → ℕ
interface_weight i = event_bytes (interface_event 0 0 i 0)

interface_length : (device id : ℕ) (i : KnownInterface) (v : ℕ) → length (bytes_of (interface_event device id i v)) ≡ interface_weight i
unfolding bytes_of header le4 le8
interface_length device id known.Handshake v = refl
interface_length device id i v = refl

interface_bytes : (versions : KnownInterface → ℕ) (device id : ℕ) (is : List KnownInterface) → bytes (interface_events versions device id is) ≤ sum_of interface_weight is
interface_bytes versions device id [] = omega arith
interface_bytes versions device id (i ∷ is) = omega (arith, interface_length device id i (versions i), interface_bytes versions device (id + 1) is, bytes_cons (interface_event device id i (versions i)) (interface_events versions device (id + 1) is))

-- the interfaces of a mask weigh no more than all
masked : (mask : ℕ) (weight : KnownInterface → ℕ) (cs : List (ℕ × KnownInterface)) → sum_of weight (filter_map (λ c. cond (has_bit mask c.0) (Some c.1) None) cs) ≤ sum_of (λ c. weight c.1) cs
masked mask weight [] = omega arith
masked mask weight (c ∷ cs) = by (has_bit mask c.0) refl (masked mask weight cs)
  where
    by : (b : Bool) → has_bit mask c.0 ≡ b → sum_of weight (filter_map (λ c. cond (has_bit mask c.0) (Some c.1) None) cs) ≤ sum_of (λ c. weight c.1) cs →
        sum_of weight (filter_map (λ c. cond (has_bit mask c.0) (Some c.1) None) (c ∷ cs)) ≤ sum_of (λ c. weight c.1) (c ∷ cs)
    by true e le = rw e (omega (arith, le))
    by false e le = rw e (omega (arith, le))

mask_bytes : (versions : KnownInterface → ℕ) (device id mask : ℕ) → bytes (interface_events versions device id (interfaces_of mask)) ≤ most_interfaces
unfolding interfaces_of most_interfaces
mask_bytes versions device id mask = omega (arith, masked mask interface_weight capabilities, interface_bytes versions device id (interfaces_of mask))

device_parts : (device v serial : ℕ) → length (bytes_of (device_event device v)) + (length (bytes_of (device_type_event device)) + (length (bytes_of (device_done_event device)) + length (bytes_of (resumed_event device serial))))
    ≡ event_bytes (device_event 0 0) + (event_bytes (device_type_event 0) + (event_bytes (device_done_event 0) + event_bytes (resumed_event 0 0)))
unfolding bytes_of header le4 le8
device_parts device v serial = refl

pub device_bytes : (versions : KnownInterface → ℕ) (device mask serial : ℕ) → length (all_bytes (device_events versions device (interfaces_of mask) serial)) ≤ most_described
unfolding device_events most_described
device_bytes versions device mask serial =
    let a = device_event device (versions known.Device) in
    let b = device_type_event device in
    let is = interface_events versions device (device + 1) (interfaces_of mask) in
    let c = device_done_event device in
    let d = resumed_event device serial in
    omega (
      arith,
      device_parts device (versions known.Device) serial,
      mask_bytes versions device (device + 1) mask,
      bytes_cons a (b ∷ (is ++ (c ∷ (d ∷ [])))),
      bytes_cons b (is ++ (c ∷ (d ∷ []))),
      bytes_append is (c ∷ (d ∷ [])),
      bytes_cons c (d ∷ []),
      bytes_cons d [],
    )

-- ---- what goes

destroyed_length : (id serial : ℕ) → length (bytes_of (destroyed_event id serial)) ≡ 20
unfolding bytes_of header le4 le8
destroyed_length id serial = refl

destroyed_bytes : (serial : ℕ) (ids : List ℕ) → bytes (destroyed_events serial ids) ≡ 20 * length ids
destroyed_bytes serial [] = omega arith
destroyed_bytes serial (id ∷ ids) =
    let next = (serial + 1) % 2 ^ 32 in
    omega (arith, destroyed_length id next, destroyed_bytes next ids, bytes_cons (destroyed_event id next) (destroyed_events next ids))

masked_count : (mask : ℕ) (cs : List (ℕ × KnownInterface)) → length (filter_map (λ c. cond (has_bit mask c.0) (Some c.1) None) cs) ≤ length cs
masked_count mask [] = omega arith
masked_count mask (c ∷ cs) = by (has_bit mask c.0) refl (masked_count mask cs)
  where
    by : (b : Bool) → has_bit mask c.0 ≡ b → length (filter_map (λ c. cond (has_bit mask c.0) (Some c.1) None) cs) ≤ length cs → length (filter_map (λ c. cond (has_bit mask c.0) (Some c.1) None) (c ∷ cs)) ≤ length (c ∷ cs)
    by true e le = rw e (omega (arith, le))
    by false e le = rw e (omega (arith, le))

pub few_interfaces : (mask : ℕ) → length (interfaces_of mask) ≤ CAPABILITIES
unfolding interfaces_of
few_interfaces mask = masked_count mask capabilities

makes_of : (device next : ℕ) (o : Option ℕ) (is : List KnownInterface) → if_same device next o ≡ Some is → length is ≤ CAPABILITIES
makes_of device next None is e = absurd (none_some is e)
makes_of device next (Some mask) is e = by (eqb next device) e
  where
    by : (b : Bool) → cond b (Some (interfaces_of mask)) None ≡ Some is → length is ≤ CAPABILITIES
    by true e = let same = some_is (interfaces_of mask) is e in omega (arith, few_interfaces mask, ap (λ (x : List KnownInterface). length x) same)
    by false e = absurd (none_some is e)

-- what a history says, some position said
said_at : {A : Type 0} (P : A → Type 0) (says : List Raw → Raw → Option A) → ((b : List Raw) (m : Raw) (a : A) → says b m ≡ Some a → P a) → (before : List Raw) (m : Raw) (a : A) (o : Option A) → (last_said says before ≡ Some a → P a) → says before m ≡ o → last_said says (m ∷ before) ≡ Some a → P a
said_at P says h before m a None next q e = next (sym (said_before says before m q) ∙ e)
said_at P says h before m a (Some x) next q e = h before m a (q ∙ sym (said_now says before m x q) ∙ e)

said_some : {A : Type 0} (P : A → Type 0) (says : List Raw → Raw → Option A) → ((b : List Raw) (m : Raw) (a : A) → says b m ≡ Some a → P a) → (before : List Raw) (a : A) → last_said says before ≡ Some a → P a
unfolding last_said
said_some P says h [] a e = absurd (none_some a e)
said_some P says h (m ∷ before) a e = said_at P says h before m a (says before m) (said_some P says h before a) refl e

makes_few : (device : ℕ) (b : List Raw) (m : Raw) (is : List KnownInterface) → makes device b m ≡ Some is → length is ≤ CAPABILITIES
unfolding makes
makes_few device b m is h = makes_of device (next_id b) (made b m) is h

few_made : (before : List Raw) (device : ℕ) → length (device_interfaces before device) ≤ CAPABILITIES
unfolding device_interfaces
few_made before device = by (last_said (makes device) before) refl
  where
    by : (o : Option (List KnownInterface)) → last_said (makes device) before ≡ o → length (unwrap_or (last_said (makes device) before) []) ≤ CAPABILITIES
    by None e = rw e (omega arith)
    by (Some is) e = rw e (said_some (λ (is : List KnownInterface). length is ≤ CAPABILITIES) (makes device) (makes_few device) before is e)

fewer : (p : ℕ → Bool) (xs : List ℕ) → length (filter p xs) ≤ length xs
fewer p [] = omega arith
fewer p (x ∷ xs) = by (p x) refl (fewer p xs)
  where
    by : (b : Bool) → p x ≡ b → length (filter p xs) ≤ length xs → length (filter p (x ∷ xs)) ≤ length (x ∷ xs)
    by true e le = rw e (omega (arith, le))
    by false e le = rw e (omega (arith, le))

few_left : (before : List Raw) (device : ℕ) → length (interfaces_left before device) ≤ CAPABILITIES
unfolding interfaces_left
few_left before device =
    let n = length (device_interfaces before device) in
    omega (arith, fewer (λ id. is_some (object before id)) (range_with_len (device + 1) n), length-range_with_len (device + 1) n, few_made before device)

few_going : (before : List Raw) (id : ℕ) (k : KnownInterface) → length (going before id k) ≤ CAPABILITIES + 1
few_going before id known.Device = omega (arith, few_left before id, length-append (interfaces_left before id) (id ∷ []))
few_going before id k = omega arith

few_gone_at : (before : List Raw) (m : Raw) (o : Option Entry) → length (gone_with before m o) ≤ CAPABILITIES + 1
few_gone_at before m None = omega arith
few_gone_at before m (Some e) = by (is_release (Some e) m) refl
  where
    by : (b : Bool) → is_release (Some e) m ≡ b → length (cond (is_release (Some e) m) (going before m.id e.interface) []) ≤ CAPABILITIES + 1
    by true q = rw q (few_going before m.id e.interface)
    by false q = rw q (omega arith)

-- with one message a device goes at most, and its interfaces
pub few_gone : (before : List Raw) (m : Raw) → length (gone before m) ≤ CAPABILITIES + 1
unfolding gone
few_gone before m = few_gone_at before m (object before m.id)

-- ---- any message

callback_length : (callback : ℕ) → length (bytes_of (callback_event callback)) ≡ 24
unfolding bytes_of header le4 le8
callback_length callback = refl

callback_bytes : (o : Option ℕ) → bytes (callback_events o) ≤ 24
callback_bytes None = omega arith
callback_bytes (Some c) = omega (arith, callback_length c, bytes_cons (callback_event c) [])

invalid_length : (serial id : ℕ) → length (bytes_of (invalid_object_event serial id)) ≡ 28
unfolding bytes_of header le4 le8
invalid_length serial id = refl

device_less : most_described ≤ longest_reply
unfolding most_described longest_reply most_settled handed_over_bytes most_offered most_interfaces bytes_of header le4 le8
device_less = omega arith

gone_less : 28 + 20 * (CAPABILITIES + 1) ≤ longest_reply
unfolding longest_reply most_settled handed_over_bytes most_offered bytes_of header le4 le8
gone_less = omega arith

-- by hand: 480 bytes of versions, 332 of capabilities, and 76 of the connection, its seat and the end of its description
pub longest_is : longest_reply ≡ 480 + 332 + 76
unfolding longest_reply most_settled handed_over_bytes most_offered bytes_of header le4 le8
longest_is = refl

reply_by_bytes : (setup : Setup) (before : List Raw) (m : Raw) (mask : Option ℕ) (o : Option Entry) → bytes (reply_by setup before m mask o) ≤ longest_reply
reply_by_bytes setup before m (Some mask) o = by (exhausts before m)
  where
    by : (b : Bool) → bytes (cond b [] (device_events (version before) (next_id before) (interfaces_of mask) (serial setup (m ∷ before)))) ≤ longest_reply
    by true = omega arith
    by false = omega (arith, device_less, device_bytes (version before) (next_id before) mask (serial setup (m ∷ before)))
reply_by_bytes setup before m None None = by (connected before)
  where
    by : (b : Bool) → bytes (cond b (invalid_object_event (serial setup before) m.id ∷ []) []) ≤ longest_reply
    by true = omega (arith, gone_less, invalid_length (serial setup before) m.id, bytes_cons (invalid_object_event (serial setup before) m.id) [])
    by false = omega arith
reply_by_bytes setup before m None (Some e) =
    let ids = gone before m in
    omega (arith, gone_less, callback_bytes (synced before m), destroyed_bytes (serial setup before) ids, few_gone before m, bytes_append (callback_events (synced before m)) (destroyed_events (serial setup before) ids))

pub reply_bytes : (setup : Setup) (before : List Raw) (m : Raw) → length (all_bytes (reply setup before m)) ≤ longest_reply
unfolding reply
reply_bytes setup before m = by (is_the_finish before m)
  where
    by : (b : Bool) → bytes (cond b (finish_events setup before) (reply_by setup before m (made before m) (object before m.id))) ≤ longest_reply
    by true = finish_bytes setup before
    by false = reply_by_bytes setup before m (made before m) (object before m.id)
