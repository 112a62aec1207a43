-- Each object that a server has was announced.
use Rattle.std.proofs.Common.{◌≡◌, ◌≢◌, ℕ, zero, suc, ◌+◌, ◌-◌, Bool, true, false, not, ltb, eqb, List, [], ◌∷◌, ◌++◌, Option, Some, None, refl, sym, ap, subst}
use Rattle.std.proofs.Common.{◌∙◌, arith, inl, inr}
use Rattle.std.specs.Prelude.{slice_get, is_some}
use Rattle.std.specs.List.{list_any}
use Rattle.std.proofs.lemmas.Bool.{eqb-true, ltb-true}
use Rattle.ei_spec.specs.declared.interface.KnownInterface.{KnownInterface}
use Rattle.ei_spec.specs.declared.interface.KnownInterface.TheVariants as known
use Rattle.ei_spec.specs.Message.{Raw}
use Rattle.ei_spec.specs.History.{last_said, occurs}
use Rattle.ei_spec.proofs.HistoryLaws.{occurs_or}
use Rattle.ei_types.specs.Capability.{capabilities}
use Rattle.ei_session.specs.Setup.{Setup, connection_id, seat_id}
use Rattle.ei_session.specs.Handshake.{is_the_finish, settled, version}
use Rattle.ei_session.specs.Replies.{greeting, settled_events, connection_event, seat_event, finish_events}
use Rattle.ei_session.specs.Devices.{made, interfaces_of, next_id, exhausts}
use Rattle.ei_session.specs.Objects.{Entry, interface_entry, new_device, given, handed_over, introduces, introduced, object}
use Rattle.ei_session.specs.Kept.{is_bare, home}
use Rattle.ei_session.specs.Serial.{serial}
use Rattle.ei_session.specs.Events.{device_event, interface_event, interface_events, device_events, reply, replies, announced_as, announcement, IsAmong, IsSaid}
use Rattle.ei_session.proofs.Choices.{chosen, some_is, none_some, or_none}
use Rattle.ei_session.proofs.MaskLaws.{masked_none, place_none}
use Rattle.ei_session.proofs.Placed.{object_placed}
use Rattle.ei_session.proofs.AllParts.{replies_more}
use Rattle.ei_session.proofs.ObjectLaws.{object_is_introduced, introduced_now, introduced_before}
use Rattle.ei_session.proofs.ReplyLaws.{reply_finish, reply_made}

-- the event of an object, where the greeting stands for none
abbrev event_as : Setup → ℕ → ℕ → Option ℕ → KnownInterface → Raw
event_as setup id v device known.Connection = connection_event 0 setup.serial id
event_as setup id v device known.Seat = seat_event connection_id id v
event_as setup id v device known.Device = device_event id v
event_as setup id v (Some device) interface = interface_event device id interface v
event_as setup id v None interface = greeting

abbrev event_of : Setup → ℕ → Entry → Raw
event_of setup id e = event_as setup id e.version e.device e.interface

among_left : (r : Raw) (xs ys : List Raw) → IsAmong r xs → IsAmong r (xs ++ ys)
among_left r [] ys h = absurd h
among_left r (x ∷ xs) ys (inl e) = inl e
among_left r (x ∷ xs) ys (inr h) = inr (among_left r xs ys h)

among_right : (r : Raw) (xs ys : List Raw) → IsAmong r ys → IsAmong r (xs ++ ys)
among_right r [] ys h = h
among_right r (x ∷ xs) ys h = inr (among_right r xs ys h)

same_event : (setup : Setup) (id : ℕ) (x e : Entry) → Some x ≡ Some e → event_of setup id x ≡ event_of setup id e
same_event setup id x e h = ap (event_of setup id) (some_is x e h)

-- ---- the finish

connection_told : (setup : Setup) (before : List Raw) → IsAmong (connection_event 0 setup.serial connection_id) (finish_events setup before)
unfolding finish_events
connection_told setup before = among_right _ (settled_events 0 (settled before)) _ (inl refl)

seat_told : (setup : Setup) (before : List Raw) → IsAmong (seat_event connection_id seat_id (version before known.Seat)) (finish_events setup before)
unfolding finish_events
seat_told setup before = among_right _ (settled_events 0 (settled before)) _ (inr (inl refl))

handed_told : (setup : Setup) (before : List Raw) (id : ℕ) (e : Entry) → handed_over before id ≡ Some e → IsAmong (event_of setup id e) (finish_events setup before)
unfolding handed_over
handed_told setup before id e h =
    elim (chosen (eqb id connection_id) _ _ _ h) [
      | inl a ↦ let at : connection_id ≡ id = sym (eqb-true id connection_id a.0) in subst (λ r. IsAmong r (finish_events setup before)) (ap (λ (n : ℕ). connection_event 0 setup.serial n) at ∙ same_event setup id _ e a.1) (connection_told setup before)
      | inr b ↦ elim (chosen (eqb id seat_id) _ _ _ b.1) [
        | inl a ↦ let at : seat_id ≡ id = sym (eqb-true id seat_id a.0) in subst (λ r. IsAmong r (finish_events setup before)) (ap (λ (n : ℕ). seat_event connection_id n (version before known.Seat)) at ∙ same_event setup id _ e a.1) (seat_told setup before)
        | inr z ↦ absurd (none_some e z.1)
      ]
    ]

-- ---- a device

-- an interface of a device is one that devices may have
abbrev is_part : KnownInterface → Bool
is_part known.Connection = false
is_part known.Seat = false
is_part known.Device = false
is_part interface = true

abbrev no_part : KnownInterface → Bool
no_part interface = not (is_part interface)

mask_parts : (mask : ℕ) → list_any no_part (interfaces_of mask) ≡ false
unfolding interfaces_of
mask_parts mask = masked_none no_part mask capabilities refl

as_part : (setup : Setup) (id v d : ℕ) (i : KnownInterface) → no_part i ≡ false → event_as setup id v (Some d) i ≡ interface_event d id i v
as_part setup id v d known.Connection h = absurd cc
as_part setup id v d known.Seat h = absurd cc
as_part setup id v d known.Device h = absurd cc
as_part setup id v d i h = refl

-- the interface at a place is announced with the id of that place
interface_told : (versions : KnownInterface → ℕ) (device start : ℕ) (is : List KnownInterface) (k : ℕ) (i : KnownInterface) → slice_get is k ≡ Some i → IsAmong (interface_event device (start + k) i (versions i)) (interface_events versions device start is)
interface_told versions device start [] k i h = absurd cc
interface_told versions device start (x ∷ xs) zero i h =
    let same : x ≡ i = one x i h in
    let at : start ≡ start + 0 = omega arith in
    inl (ap (λ (y : KnownInterface). interface_event device start y (versions y)) same ∙ ap (λ (n : ℕ). interface_event device n i (versions i)) at)
  where
    one : (a b : KnownInterface) → Some a ≡ Some b → a ≡ b
    one a b e = cc
interface_told versions device start (x ∷ xs) (suc k) i h =
    let at : start + 1 + k ≡ start + suc k = omega arith in
    inr (subst (λ n. IsAmong (interface_event device n i (versions i)) (interface_events versions device (start + 1) xs)) at (interface_told versions device (start + 1) xs k i h))

part_told : (setup : Setup) (before : List Raw) (device id k : ℕ) (is : List KnownInterface) (o : Option KnownInterface) (e : Entry) → device + 1 + k ≡ id → list_any no_part is ≡ false → slice_get is k ≡ o → interface_entry before device o ≡ Some e →
    IsAmong (event_of setup id e) (interface_events (version before) device (device + 1) is)
part_told setup before device id k is None e at plain q h = absurd (none_some e h)
part_told setup before device id k is (Some i) e at plain q h =
    let told = interface_told (version before) device (device + 1) is k i q in
    let how = sym (as_part setup id (version before i) device i (place_none no_part is k i plain q)) in
    subst (λ r. IsAmong r (interface_events (version before) device (device + 1) is)) (ap (λ (n : ℕ). interface_event device n i (version before i)) at ∙ how ∙ same_event setup id _ e h) told

device_told : (setup : Setup) (before : List Raw) (device serial id : ℕ) (is : List KnownInterface) (e : Entry) → list_any no_part is ≡ false → new_device before device is id ≡ Some e → IsAmong (event_of setup id e) (device_events (version before) device is serial)
unfolding device_events new_device
device_told setup before device serial id is e plain h =
    elim (chosen (eqb id device) _ _ _ h) [
      | inl a ↦ let at : device ≡ id = sym (eqb-true id device a.0) in inl (ap (λ (n : ℕ). device_event n (version before known.Device)) at ∙ same_event setup id _ e a.1)
      | inr b ↦ elim (chosen (ltb device id) _ _ _ b.1) [
        | inl c ↦ inr (inr (among_left _ (interface_events (version before) device (device + 1) is) _ (part_told setup before device id (id - device - 1) is (slice_get is (id - device - 1)) e (omega (arith, ltb-true device id c.0)) plain refl c.1)))
        | inr x ↦ absurd (none_some e x.1)
      ]
    ]

made_told : (setup : Setup) (before : List Raw) (m : Raw) (id : ℕ) (e : Entry) (mask : Option ℕ) → exhausts before m ≡ false → made before m ≡ mask → given before mask id ≡ Some e → IsAmong (event_of setup id e) (reply setup before m)
made_told setup before m id e None x n h = absurd (none_some e h)
made_told setup before m id e (Some mask) x n h =
    subst (λ rs. IsAmong (event_of setup id e) rs) (sym (reply_made setup before m mask n x)) (device_told setup before (next_id before) (serial setup (m ∷ before)) id (interfaces_of mask) e (mask_parts mask) h)

-- ---- any message

introduces_told : (setup : Setup) (before : List Raw) (m : Raw) (id : ℕ) (e : Entry) → exhausts before m ≡ false → introduces before m id ≡ Some e → IsAmong (event_of setup id e) (reply setup before m)
unfolding introduces
introduces_told setup before m id e x h =
    elim (chosen (is_the_finish before m) _ _ _ h) [
      | inl a ↦ subst (λ rs. IsAmong (event_of setup id e) rs) (sym (reply_finish setup before m a.0)) (handed_told setup before id e a.1)
      | inr b ↦ made_told setup before m id e (made before m) x refl b.1
    ]

told_at : (setup : Setup) (before : List Raw) (m : Raw) (id : ℕ) (e : Entry) (i : Option Entry) → exhausts before m ≡ false → (introduced before id ≡ Some e → IsAmong (event_of setup id e) (replies setup before)) → introduces before m id ≡ i → introduced (m ∷ before) id ≡ Some e → IsAmong (event_of setup id e) (replies setup (m ∷ before))
told_at setup before m id e (Some y) x next q h =
    subst (λ rs. IsAmong (event_of setup id e) rs) (sym (replies_more setup before m)) (among_right _ (replies setup before) _ (introduces_told setup before m id e x (q ∙ sym (introduced_now before m id y q) ∙ h)))
told_at setup before m id e None x next q h =
    subst (λ rs. IsAmong (event_of setup id e) rs) (sym (replies_more setup before m)) (among_left _ (replies setup before) _ (next (sym (introduced_before before m id q) ∙ h)))

introduced_told : (setup : Setup) (before : List Raw) (id : ℕ) (e : Entry) → occurs exhausts before ≡ false → id ≢ 0 → introduced before id ≡ Some e → IsAmong (event_of setup id e) (replies setup before)
unfolding introduced last_said
introduced_told setup [] id e x far h =
    elim (chosen (eqb id 0) _ _ _ h) [
      | inl a ↦ absurd (far (eqb-true id 0 a.0))
      | inr b ↦ absurd (none_some e b.1)
    ]
introduced_told setup (m ∷ before) id e x far h =
    let two = or_none (exhausts before m) (occurs exhausts before) (sym (occurs_or exhausts before m) ∙ x) in
    told_at setup before m id e (introduces before m id) two.0 (λ q. introduced_told setup before id e two.1 far q) refl h

-- an object of a device, the connection and the seat have such an event, and there is no other object
said : (setup : Setup) (id v : ℕ) (device : Option ℕ) (i : KnownInterface) (events : List Raw) → id ≢ 0 → (is_bare i ≡ true → home i ≡ Some id) → is_some device ≡ not (is_bare i) → IsAmong (event_as setup id v device i) events → IsSaid (announced_as setup id v device i) events
said setup id v device known.Handshake events far at owned h = absurd (far (sym (some_is 0 id (at refl))))
said setup id v device known.Connection events far at owned h = h
said setup id v device known.Callback events far at owned h = absurd (none_some id (at refl))
said setup id v device known.Pingpong events far at owned h = absurd (none_some id (at refl))
said setup id v device known.Seat events far at owned h = h
said setup id v device known.Device events far at owned h = h
said setup id v (Some d) i events far at owned h = h
said setup id v None i events far at owned h = absurd cc

-- each object but the handshake's was announced by an event
pub object_told : (setup : Setup) (before : List Raw) (id : ℕ) (e : Entry) → occurs exhausts before ≡ false → id ≢ 0 → object before id ≡ Some e → IsSaid (announcement setup id e) (replies setup before)
object_told setup before id e x far k =
    let placed = object_placed before id e k in
    said setup id e.version e.device e.interface (replies setup before) far placed.at_home placed.owned (introduced_told setup before id e x far (object_is_introduced before id e k))
