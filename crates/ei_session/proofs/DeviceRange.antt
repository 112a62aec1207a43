-- The ids of a device's interfaces, and that none comes back.
use Rattle.std.proofs.Common.{◌≡◌, ◌≢◌, ℕ, zero, suc, ◌+◌, ◌-◌, ◌<◌, ◌≤◌, Bool, true, false, cond, not, ◌&&◌, eqb, List, [], ◌∷◌, length, Option, Some, None}
use Rattle.std.proofs.Common.{refl, sym, ap, ◌∙◌, arith, eq-eqb}
use Rattle.std.specs.Prelude.{is_some, slice_get}
use Rattle.std.specs.List.{filter, range_with_len}
use Rattle.std.proofs.lemmas.Bool.{eqb-true, lt-ltb}
use Rattle.std.proofs.lemmas.Bool.Decides.{nat_tests}
use Rattle.ei_spec.specs.declared.interface.KnownInterface.{KnownInterface}
use Rattle.ei_spec.specs.declared.interface.KnownInterface.TheVariants as known
use Rattle.ei_spec.specs.Message.{Raw}
use Rattle.ei_spec.specs.History.{last_said}
use Rattle.ei_spec.proofs.HistoryLaws.{said_now, said_before}
use Rattle.ei_session.specs.Setup.{seat_id}
use Rattle.ei_session.specs.Handshake.{is_the_finish, version}
use Rattle.ei_session.specs.Devices.{seat_is_open, made, interfaces_of, ids_given, next_id, makes, device_interfaces}
use Rattle.ei_session.specs.Objects.{Entry, new_device, given, introduces, introduced, is_release, is_device, is_of, object, interfaces_left}
use Rattle.ei_session.proofs.Choices.{some_is, and_right}
use Rattle.ei_session.proofs.ObjectLaws.{object_is_introduced, introduced_now, introduced_before, next_above, given_by, not_finish, made_is, object_new}
use Rattle.ei_session.proofs.ObjectLaws.{object_interface_release, object_device_left}
use Rattle.ei_session.proofs.ObjectShape.{high_none, given_range, next_id_more, of_is}

-- ---- what a device was made with, after one more message

pub interfaces_kept : (before : List Raw) (m : Raw) (d : ℕ) → made before m ≡ None → device_interfaces (m ∷ before) d ≡ device_interfaces before d
unfolding device_interfaces makes
interfaces_kept before m d n = rw (said_before (makes d) before m (rw (n, makes) refl), device_interfaces) refl

pub interfaces_new : (before : List Raw) (m : Raw) (mask : ℕ) → made before m ≡ Some mask → device_interfaces (m ∷ before) (next_id before) ≡ interfaces_of mask
unfolding device_interfaces makes
interfaces_new before m mask n = rw (said_now (makes (next_id before)) before m (interfaces_of mask) (rw (n, makes, eq-eqb (next_id before) (next_id before) refl) refl), device_interfaces) refl

pub interfaces_other : (before : List Raw) (m : Raw) (mask d : ℕ) → made before m ≡ Some mask → eqb (next_id before) d ≡ false → device_interfaces (m ∷ before) d ≡ device_interfaces before d
unfolding device_interfaces makes
interfaces_other before m mask d n e = rw (said_before (makes d) before m (rw (n, makes, e) refl), device_interfaces) refl

pub ids_some : (before : List Raw) (m : Raw) (mask : ℕ) → made before m ≡ Some mask → ids_given before m ≡ 1 + length (interfaces_of mask)
unfolding ids_given
ids_some before m mask n = rw (n, ids_given) refl

-- ---- where the ids lie

-- the device was made, above the seat, and its ids are below the next
pub record Lies (before : List Raw) (d : ℕ) : Type 0 where
  pub low : seat_id < d
  pub high : d + length (device_interfaces before d) < next_id before

lies_at : (before : List Raw) (m : Raw) (d : ℕ) (o : Option ℕ) (b : Bool) → (0 < length (device_interfaces before d) → Lies before d) → made before m ≡ o → eqb (next_id before) d ≡ b → 0 < length (device_interfaces (m ∷ before) d) → Lies (m ∷ before) d
lies_at before m d None b next n e some =
    let same = ap (λ (x : List KnownInterface). length x) (interfaces_kept before m d n) in
    let old = next (omega (arith, same, some)) in
    record { low = old.low; high = omega (arith, same, old.high, next_id_more before m) }
lies_at before m d (Some mask) true next n e some =
    let at : next_id before ≡ d = eqb-true (next_id before) d e in
    let same : length (device_interfaces (m ∷ before) d) ≡ length (interfaces_of mask) = ap (λ (x : ℕ). length (device_interfaces (m ∷ before) x)) (sym at) ∙ ap (λ (x : List KnownInterface). length x) (interfaces_new before m mask n) in
    record { low = omega (arith, next_above before, at); high = omega (arith, same, at, next_id_more before m, ids_some before m mask n) }
lies_at before m d (Some mask) false next n e some =
    let same = ap (λ (x : List KnownInterface). length x) (interfaces_other before m mask d n e) in
    let old = next (omega (arith, same, some)) in
    record { low = old.low; high = omega (arith, same, old.high, next_id_more before m) }

pub lies : (before : List Raw) (d : ℕ) → 0 < length (device_interfaces before d) → Lies before d
unfolding device_interfaces last_said
lies [] d some = absurd (omega (arith, some))
lies (m ∷ before) d some = lies_at before m d (made before m) (eqb (next_id before) d) (lies before d) refl refl some

place_some : (is : List KnownInterface) (k : ℕ) → k < length is → (i : KnownInterface) × (slice_get is k ≡ Some i)
place_some [] k lt = absurd (omega arith)
place_some (i ∷ is) zero lt = (i, refl)
place_some (i ∷ is) (suc k) lt = place_some is k (omega arith)

-- what is at an id of the range of a new device
new_in_range : (before : List Raw) (d : ℕ) (is : List KnownInterface) (id : ℕ) → d < id → id ≤ d + length is → (x : Entry) × (new_device before d is id ≡ Some x) × (x.device ≡ Some d)
unfolding new_device
new_in_range before d is id low high =
    let p = place_some is (id - d - 1) (omega arith) in
    let far : eqb id d ≡ false = grind (arith, nat_tests) in
    (record { interface = p.0; version = version before p.0; device = Some d }, rw (far, new_device, lt-ltb d id low, p.1) refl, refl)

-- nothing is introduced below the next id but by the finish, and nothing above the seat by that
pub none_below : (before : List Raw) (m : Raw) (id : ℕ) (o : Option Entry) → id < next_id before → is_the_finish before m ≡ false → introduces before m id ≡ o → introduces before m id ≡ None
none_below before m id None lt f e = e
none_below before m id (Some x) lt f e =
    let r = given_range before m (made before m) id x refl (sym (given_by before m id f) ∙ e) in
    absurd (omega (arith, r.0, lt))

not_given : (before : List Raw) (m : Raw) (id : ℕ) (b : Bool) → seat_id < id → id < next_id before → is_the_finish before m ≡ b → introduces before m id ≡ None
not_given before m id true low lt f = high_none before m id low f
not_given before m id false low lt f = none_below before m id (introduces before m id) lt f refl

owner_step : (before : List Raw) (m : Raw) (d id : ℕ) (e : Entry) (o : Option ℕ) (b : Bool) →
    (id ≤ d + length (device_interfaces before d) → introduced before id ≡ Some e → e.device ≡ Some d) →
    made before m ≡ o → eqb (next_id before) d ≡ b → d < id → id ≤ d + length (device_interfaces (m ∷ before) d) → introduced (m ∷ before) id ≡ Some e → e.device ≡ Some d
owner_step before m d id e (Some mask) true next n q low high h =
    let at : next_id before ≡ d = eqb-true (next_id before) d q in
    let same : length (device_interfaces (m ∷ before) d) ≡ length (interfaces_of mask) = ap (λ (x : ℕ). length (device_interfaces (m ∷ before) x)) (sym at) ∙ ap (λ (x : List KnownInterface). length x) (interfaces_new before m mask n) in
    let w = new_in_range before (next_id before) (interfaces_of mask) id (omega (arith, at, low)) (omega (arith, at, same, high)) in
    let here : m.id ≡ seat_id = eqb-true m.id seat_id (and_right (seat_is_open before) (eqb m.id seat_id) (made_is before m mask n).0) in
    let f = not_finish before m (omega (arith, here)) in
    let i : introduces before m id ≡ Some w.0 = given_by before m id f ∙ ap (λ (x : Option ℕ). given before x id) n ∙ w.1 in
    let is : w.0 ≡ e = some_is w.0 e (sym (introduced_now before m id w.0 i) ∙ h) in
    ap (λ (x : Entry). x.device) (sym is) ∙ w.2 ∙ ap (λ (x : ℕ). Some x) at
owner_step before m d id e (Some mask) false next n q low high h =
    let same = ap (λ (x : List KnownInterface). length x) (interfaces_other before m mask d n q) in
    let l = lies before d (omega (arith, same, low, high)) in
    let none = not_given before m id (is_the_finish before m) (omega (arith, l.low, low)) (omega (arith, l.high, same, high)) refl in
    next (omega (arith, same, high)) (sym (introduced_before before m id none) ∙ h)
owner_step before m d id e None b next n q low high h =
    let same = ap (λ (x : List KnownInterface). length x) (interfaces_kept before m d n) in
    let l = lies before d (omega (arith, same, low, high)) in
    let none = not_given before m id (is_the_finish before m) (omega (arith, l.low, low)) (omega (arith, l.high, same, high)) refl in
    next (omega (arith, same, high)) (sym (introduced_before before m id none) ∙ h)

-- what has an id of the range of a device is of that device
pub range_owner : (before : List Raw) (d id : ℕ) (e : Entry) → d < id → id ≤ d + length (device_interfaces before d) → introduced before id ≡ Some e → e.device ≡ Some d
unfolding device_interfaces last_said
range_owner [] d id e low high h = absurd (omega (arith, low, high))
range_owner (m ∷ before) d id e low high h = owner_step before m d id e (made before m) (eqb (next_id before) d) (λ a b. range_owner before d id e low a b) refl refl low high h

-- ---- the interfaces that are left

filter_on : (p q : ℕ → Bool) (a n : ℕ) → ((x : ℕ) → a ≤ x → x < a + n → p x ≡ q x) → filter p (range_with_len a n) ≡ filter q (range_with_len a n)
filter_on p q a zero h = refl
filter_on p q a (suc n) h =
    let next = filter_on p q (a + 1) n (λ x low high. h x (omega (arith, low)) (omega (arith, high))) in
    rw (h a (omega arith) (omega arith), next) refl

filter_all : (p : ℕ → Bool) (a n : ℕ) → ((x : ℕ) → a ≤ x → x < a + n → p x ≡ true) → filter p (range_with_len a n) ≡ range_with_len a n
filter_all p a zero h = refl
filter_all p a (suc n) h =
    let next = filter_all p (a + 1) n (λ x low high. h x (omega (arith, low)) (omega (arith, high))) in
    rw (h a (omega arith) (omega arith), next) refl

filter_none : (p : ℕ → Bool) (a n : ℕ) → ((x : ℕ) → a ≤ x → x < a + n → p x ≡ false) → filter p (range_with_len a n) ≡ []
filter_none p a zero h = refl
filter_none p a (suc n) h =
    let next = filter_none p (a + 1) n (λ x low high. h x (omega (arith, low)) (omega (arith, high))) in
    rw (h a (omega arith) (omega arith), next) refl

filtered_twice : (p q r : ℕ → Bool) → ((x : ℕ) → r x ≡ (q x && p x)) → (xs : List ℕ) → filter r xs ≡ filter p (filter q xs)
filtered_twice p q r h [] = refl
filtered_twice p q r h (x ∷ xs) = by (q x) (p x) refl refl (filtered_twice p q r h xs)
  where
    by : (a b : Bool) → q x ≡ a → p x ≡ b → filter r xs ≡ filter p (filter q xs) → filter r (x ∷ xs) ≡ filter p (filter q (x ∷ xs))
    by true true qa pb next = let e : r x ≡ true = h x ∙ rw (qa, pb) refl in rw (e, qa, pb) (ap (λ (ys : List ℕ). x ∷ ys) next)
    by true false qa pb next = let e : r x ≡ false = h x ∙ rw (qa, pb) refl in rw (e, qa, pb) next
    by false b qa pb next = let e : r x ≡ false = h x ∙ rw qa refl in rw (e, qa) next

-- where neither the device's ids nor what is at them changes, the same are left
pub left_same : (before : List Raw) (m : Raw) (d : ℕ) → device_interfaces (m ∷ before) d ≡ device_interfaces before d →
    ((id : ℕ) → d < id → id ≤ d + length (device_interfaces before d) → object (m ∷ before) id ≡ object before id) → interfaces_left (m ∷ before) d ≡ interfaces_left before d
unfolding interfaces_left
left_same before m d same h =
    rw same (filter_on (λ id. is_some (object (m ∷ before) id)) (λ id. is_some (object before id)) (d + 1) (length (device_interfaces before d)) (λ x low high. ap is_some (h x (omega (arith, low)) (omega (arith, high)))))

-- a message that makes nothing and changes no object leaves all
pub left_plain : (before : List Raw) (m : Raw) (d : ℕ) → made before m ≡ None → ((id : ℕ) → object (m ∷ before) id ≡ object before id) → interfaces_left (m ∷ before) d ≡ interfaces_left before d
left_plain before m d n h = left_same before m d (interfaces_kept before m d n) (λ id low high. h id)

some_kept : (b : Bool) (o : Option Entry) → is_some (cond b None o) ≡ (is_some o && not b)
some_kept true None = refl
some_kept true (Some e) = refl
some_kept false None = refl
some_kept false (Some e) = refl

-- a released interface is left no more
pub left_release : (before : List Raw) (m : Raw) (e : Entry) (d device : ℕ) → made before m ≡ None → object before m.id ≡ Some e → e.device ≡ Some d → is_device e.interface ≡ false → is_release (Some e) m ≡ true →
    interfaces_left (m ∷ before) device ≡ filter (λ id. not (eqb m.id id)) (interfaces_left before device)
unfolding interfaces_left
left_release before m e d device n k p i r =
    let each : (x : ℕ) → is_some (object (m ∷ before) x) ≡ (is_some (object before x) && not (eqb m.id x)) = λ x. ap is_some (object_interface_release before m e d x k p i r) ∙ some_kept (eqb m.id x) (object before x) in
    rw (interfaces_kept before m device n) (filtered_twice (λ id. not (eqb m.id id)) (λ id. is_some (object before id)) (λ id. is_some (object (m ∷ before) id)) each (range_with_len (device + 1) (length (device_interfaces before device))))

-- a new device has all of its interfaces
pub left_new : (before : List Raw) (m : Raw) (mask : ℕ) → made before m ≡ Some mask → interfaces_left (m ∷ before) (next_id before) ≡ range_with_len (next_id before + 1) (length (interfaces_of mask))
unfolding interfaces_left
left_new before m mask n =
    rw (interfaces_new before m mask n) (filter_all (λ id. is_some (object (m ∷ before) id)) (next_id before + 1) (length (interfaces_of mask)) (λ x low high.
    let w = new_in_range before (next_id before) (interfaces_of mask) x (omega (arith, low)) (omega (arith, high)) in
    ap is_some (object_new before m mask x n) ∙ rw w.1 refl))

-- and changes none of another
pub left_other : (before : List Raw) (m : Raw) (mask d : ℕ) → made before m ≡ Some mask → next_id before ≢ d → interfaces_left (m ∷ before) d ≡ interfaces_left before d
left_other before m mask d n far =
    let here : m.id ≡ seat_id = eqb-true m.id seat_id (and_right (seat_is_open before) (eqb m.id seat_id) (made_is before m mask n).0) in
    let f = not_finish before m (omega (arith, here)) in
    let e : eqb (next_id before) d ≡ false = grind (arith, nat_tests, far) in
    left_same before m d (interfaces_other before m mask d n e) (λ id low high.
    let l = lies before d (omega (arith, low, high)) in
    let none = none_below before m id (introduces before m id) (omega (arith, high, l.high)) f refl in
    let same : new_device before (next_id before) (interfaces_of mask) id ≡ None = sym (given_by before m id f ∙ ap (λ (x : Option ℕ). given before x id) n) ∙ none in
    object_new before m mask id n ∙ rw same refl)

pub of_device : (before : List Raw) (d x id : ℕ) (o : Option Entry) → d < id → id ≤ d + length (device_interfaces before d) → object before id ≡ o → is_of x (object before id) ≡ (is_some o && eqb d x)
unfolding is_of
of_device before d x id None low high k = rw (k, is_of) refl
of_device before d x id (Some e) low high k = rw k (of_is x e d (range_owner before d id e low high (object_is_introduced before id e k)))

-- the release of a device changes none of another
pub left_device_release : (before : List Raw) (m : Raw) (e : Entry) (d : ℕ) → made before m ≡ None → object before m.id ≡ Some e → e.device ≡ Some m.id → e.interface ≡ known.Device → is_release (Some e) m ≡ true → d ≢ m.id → interfaces_left (m ∷ before) d ≡ interfaces_left before d
left_device_release before m e d n k p i r far =
    let other : eqb d m.id ≡ false = grind (arith, nat_tests, far) in
    left_same before m d (interfaces_kept before m d n) (λ id low high.
    object_device_left before m e id k p i r (of_device before d m.id id (object before id) low high refl ∙ rw other (by (is_some (object before id)))))
  where
    by : (b : Bool) → (b && false) ≡ false
    by true = refl
    by false = refl
