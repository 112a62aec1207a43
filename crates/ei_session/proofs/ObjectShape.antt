-- What the objects of a server are like, whatever was sent.
use Rattle.std.proofs.Common.{◌≡◌, ℕ, zero, suc, ◌+◌, ◌-◌, ◌<◌, ◌≤◌, Bool, true, false, cond, not, ◌&&◌, ◌||◌, ltb, eqb, List, [], ◌∷◌, length, Option, Some}
use Rattle.std.proofs.Common.{None, refl, sym, ap, ◌∙◌, arith, eq-eqb, inl, inr}
use Rattle.std.specs.Prelude.{is_some, slice_get, codes}
use Rattle.std.proofs.lemmas.Bool.{eqb-true, ltb-true}
use Rattle.std.proofs.lemmas.Bool.Decides.{nat_tests}
use Rattle.ei_spec.specs.declared.interface.KnownInterface.{KnownInterface}
use Rattle.ei_spec.specs.declared.interface.KnownInterface.TheVariants as known
use Rattle.ei_spec.specs.Message.{Raw}
use Rattle.ei_spec.specs.History.{last_said, occurs, total}
use Rattle.ei_spec.proofs.HistoryLaws.{occurs_or}
use Rattle.ei_session.specs.Setup.{connection_id, seat_id}
use Rattle.ei_session.specs.Asked.{asks}
use Rattle.ei_session.specs.Handshake.{is_finish, connected, is_the_finish, version}
use Rattle.ei_session.specs.Devices.{releases_seat, seat_is_open, made, interfaces_of, ids_given, next_id}
use Rattle.ei_session.specs.Objects.{Entry, interface_entry, new_device, given, handed_over, introduces, introduced, is_release, was_device, is_of, removes}
use Rattle.ei_session.specs.Objects.{object}
use Rattle.ei_session.proofs.OneMore.{connected_more}
use Rattle.ei_session.proofs.Choices.{chosen, some_is, none_some, and_false, not_both, or_none}
use Rattle.ei_session.proofs.ObjectLaws.{changed, object_at, object_more, introduced_now, introduced_before, object_is_introduced, next_above, no_device}
use Rattle.ei_session.proofs.ObjectLaws.{given_above, by_making, given_by, not_finish, nothing_left, if_removed, object_finish, made_is}
use Rattle.ei_session.proofs.Opcodes.{mask_no_release}

-- ---- the finish

pub at_finish : (before : List Raw) (m : Raw) → is_the_finish before m ≡ true → (is_finish m ≡ true) × (connected before ≡ false)
unfolding is_the_finish
at_finish before m f = by (is_finish m) (connected before) f
  where
    by : (a b : Bool) → (a && not b) ≡ true → (a ≡ true) × (b ≡ false)
    by true true e = absurd cc
    by true false e = (refl, refl)
    by false b e = absurd cc

-- a message that isn't the finish leaves it open whether the finish came
pub same_connected : (before : List Raw) (m : Raw) → is_the_finish before m ≡ false → connected (m ∷ before) ≡ connected before
unfolding is_the_finish
same_connected before m f = connected_more before m ∙ by (is_finish m) (connected before) f
  where
    by : (a b : Bool) → (a && not b) ≡ false → (a || b) ≡ b
    by true true e = refl
    by true false e = absurd cc
    by false b e = refl

pub now_connected : (before : List Raw) (m : Raw) → is_the_finish before m ≡ true → connected (m ∷ before) ≡ true
now_connected before m f = connected_more before m ∙ rw (at_finish before m f).0 refl

-- ---- the seat

given_none : (before : List Raw) (id : ℕ) (mask : Option ℕ) (o : Option Entry) → id ≤ seat_id → given before mask id ≡ o → given before mask id ≡ None
given_none before id mask None le e = e
given_none before id mask (Some x) le e = let up = given_above before mask id x e in absurd (omega arith)

-- nothing is given an id up to the seat's but by the finish
pub low_none : (before : List Raw) (m : Raw) (id : ℕ) → id ≤ seat_id → is_the_finish before m ≡ false → introduces before m id ≡ None
low_none before m id le f = given_by before m id f ∙ given_none before id (made before m) (given before (made before m) id) le refl

pub record IsSeat (o : Option Entry) : Type 0 where
  pub entry : Entry
  pub is : o ≡ Some entry
  pub kind : entry.interface ≡ known.Seat
  pub bare : entry.device ≡ None

seat_handed : (before : List Raw) (m : Raw) → is_the_finish before m ≡ true → introduces before m seat_id ≡ Some (record { interface = known.Seat; version = version before known.Seat; device = None })
unfolding introduces handed_over
seat_handed before m f = rw (f, introduces) refl

seat_was_at : (before : List Raw) (m : Raw) (b : Bool) → (connected before ≡ true → IsSeat (introduced before seat_id)) → is_the_finish before m ≡ b → connected (m ∷ before) ≡ true → IsSeat (introduced (m ∷ before) seat_id)
seat_was_at before m true next f on = record { entry = record { interface = known.Seat; version = version before known.Seat; device = None }; is = introduced_now before m seat_id _ (seat_handed before m f); kind = refl; bare = refl }
seat_was_at before m false next f on =
    let old = next (sym (same_connected before m f) ∙ on) in
    record { entry = old.entry; is = introduced_before before m seat_id (low_none before m seat_id (omega arith) f) ∙ old.is; kind = old.kind; bare = old.bare }

-- after the finish the seat's id was given to a seat
pub seat_was : (before : List Raw) → connected before ≡ true → IsSeat (introduced before seat_id)
unfolding connected occurs
seat_was [] on = absurd cc
seat_was (m ∷ before) on = seat_was_at before m (is_the_finish before m) (seat_was before) refl on

seat_was_not_at : (before : List Raw) (m : Raw) (b : Bool) → (connected before ≡ false → introduced before seat_id ≡ None) → is_the_finish before m ≡ b → connected (m ∷ before) ≡ false → introduced (m ∷ before) seat_id ≡ None
seat_was_not_at before m true next f off = absurd (not_both _ (now_connected before m f) off)
seat_was_not_at before m false next f off = introduced_before before m seat_id (low_none before m seat_id (omega arith) f) ∙ next (sym (same_connected before m f) ∙ off)

pub seat_was_not : (before : List Raw) → connected before ≡ false → introduced before seat_id ≡ None
unfolding introduced last_said
seat_was_not [] off = refl
seat_was_not (m ∷ before) off = seat_was_not_at before m (is_the_finish before m) (seat_was_not before) refl off

-- it is of no device
seat_of_none : (before : List Raw) (d : ℕ) (b : Bool) → connected before ≡ b → is_of d (introduced before seat_id) ≡ false
unfolding is_of
seat_of_none before d true on = let s = seat_was before on in rw (s.is, is_of, s.bare) refl
seat_of_none before d false off = rw (seat_was_not before off, is_of) refl

seat_release_is : (before : List Raw) (m : Raw) (b : Bool) → connected before ≡ b → m.id ≡ seat_id → is_release (introduced before m.id) m ≡ (connected before && asks known.Seat (codes "release") m)
unfolding is_release
seat_release_is before m true on at = let s = seat_was before on in ap (λ (n : ℕ). is_release (introduced before n) m) at ∙ rw (s.is, is_release, s.kind, on) refl
seat_release_is before m false off at = ap (λ (n : ℕ). is_release (introduced before n) m) at ∙ rw (seat_was_not before off, is_release, off) refl

seat_removed_at : (before : List Raw) (m : Raw) (b : Bool) → eqb m.id seat_id ≡ b → (is_release (introduced before m.id) m && eqb m.id seat_id) ≡ releases_seat before m
unfolding releases_seat
seat_removed_at before m true e = rw (e, seat_release_is before m (connected before) refl (eqb-true m.id seat_id e)) (by (connected before) (asks known.Seat (codes "release") m))
  where
    by : (a b : Bool) → ((a && b) && true) ≡ (a && b)
    by true true = refl
    by true false = refl
    by false b = refl
seat_removed_at before m false e = rw (e, and_false (is_release (introduced before m.id) m), and_false (connected before)) refl

seat_removed : (before : List Raw) (m : Raw) → is_the_finish before m ≡ false → removes before m seat_id ≡ releases_seat before m
unfolding removes
seat_removed before m f =
    rw (f, seat_of_none before m.id (connected before) refl) (by (is_release (introduced before m.id) m) (eqb m.id seat_id) (was_device (introduced before m.id))) ∙ seat_removed_at before m (eqb m.id seat_id) refl
  where
    by : (r same was : Bool) → (r && (same || (was && false))) ≡ (r && same)
    by r true was = refl
    by r false true = refl
    by r false false = refl

quiet : (m : Raw) (before : List Raw) → connected before ≡ false → (releases_seat before m || false) ≡ false
unfolding releases_seat
quiet m before e = rw e refl

-- before the finish no seat is released
no_release_before : (before : List Raw) → connected before ≡ false → occurs releases_seat before ≡ false
unfolding occurs
no_release_before [] e = refl
no_release_before (m ∷ before) e =
    let two = or_none (is_finish m) (connected before) (sym (connected_more before m) ∙ e) in
    occurs_or releases_seat before m ∙ rw (no_release_before before two.1) (quiet m before two.1)

open_more : (before : List Raw) (m : Raw) → seat_is_open (m ∷ before) ≡ (connected (m ∷ before) && not (releases_seat before m || occurs releases_seat before))
unfolding seat_is_open
open_more before m = rw (occurs_or releases_seat before m) refl

open_bools : (on rel past : Bool) (o : Option Entry) → is_some o ≡ (on && not past) → is_some (changed None rel o) ≡ (on && not (rel || past))
open_bools true true past o e = refl
open_bools false true past o e = refl
open_bools true false past o e = e
open_bools false false past o e = e

seat_at : (before : List Raw) (m : Raw) (b : Bool) → is_some (object before seat_id) ≡ seat_is_open before → is_the_finish before m ≡ b → is_some (object (m ∷ before) seat_id) ≡ seat_is_open (m ∷ before)
unfolding releases_seat seat_is_open
seat_at before m true next f =
    let two = at_finish before m f in
    let left : is_some (object (m ∷ before) seat_id) ≡ true = ap is_some (object_finish before m seat_id f) in
    let quiet : releases_seat before m ≡ false = rw (two.1, releases_seat) refl in
    let right : seat_is_open (m ∷ before) ≡ true = open_more before m ∙ rw (now_connected before m f, quiet, no_release_before before two.1) refl in
    left ∙ sym right
seat_at before m false next f =
    let left : is_some (object (m ∷ before) seat_id) ≡ is_some (changed None (releases_seat before m) (object before seat_id)) = ap is_some (object_at before m seat_id None (releases_seat before m) (low_none before m seat_id (omega arith) f) (seat_removed before m f)) in
    left ∙ open_bools (connected before) (releases_seat before m) (occurs releases_seat before) (object before seat_id) next ∙ sym (open_more before m ∙ rw (same_connected before m f) refl)

-- the seat is there exactly while it is open
pub object_seat : (before : List Raw) → is_some (object before seat_id) ≡ seat_is_open before
unfolding object last_said seat_is_open connected occurs
object_seat [] = refl
object_seat (m ∷ before) = seat_at before m (is_the_finish before m) (object_seat before) refl

-- a release makes no device
pub release_makes_nothing : (before : List Raw) (m : Raw) (k : KnownInterface) → asks k (codes "release") m ≡ true → made before m ≡ None
release_makes_nothing before m k r = by (made before m) refl
  where
    by : (o : Option ℕ) → made before m ≡ o → made before m ≡ None
    by None e = e
    by (Some mask) e = absurd (not_both _ r (mask_no_release m mask k (made_is before m mask e).1))

-- the release of the seat takes it alone
pub object_seat_release : (before : List Raw) (m : Raw) (id : ℕ) → connected before ≡ true → m.id ≡ seat_id → asks known.Seat (codes "release") m ≡ true → object (m ∷ before) id ≡ cond (eqb m.id id) None (object before id)
unfolding removes was_device is_release
object_seat_release before m id on at r =
    let s = seat_was before on in
    let f = not_finish before m (omega (arith, at)) in
    let i : introduced before m.id ≡ Some s.entry = ap (introduced before) at ∙ s.is in
    let is : removes before m id ≡ eqb m.id id = rw (f, i, removes, is_release, was_device, s.kind, r) (by (eqb m.id id)) in
    object_at before m id None (eqb m.id id) (given_by before m id f ∙ ap (λ (x : Option ℕ). given before x id) (release_makes_nothing before m known.Seat r)) is ∙ if_removed (eqb m.id id) (object before id)
  where
    by : (b : Bool) → (true && (b || (false && is_of m.id (introduced before id)))) ≡ b
    by true = refl
    by false = refl

-- ---- the device of what is there is there, as a device of its own

pub record IsDevice (o : Option Entry) (d : ℕ) : Type 0 where
  pub entry : Entry
  pub is : o ≡ Some entry
  pub kind : entry.interface ≡ known.Device
  pub own : entry.device ≡ Some d
  pub above : seat_id < d

same_number : (x y : ℕ) → Some x ≡ Some y → x ≡ y
same_number x y e = cc

device_same : (x e : Entry) (d y : ℕ) → x.device ≡ Some y → Some x ≡ Some e → e.device ≡ Some d → d ≡ y
device_same x e d y n h p =
    let same : x.device ≡ e.device = ap (λ (z : Entry). z.device) (some_is x e h) in
    same_number d y (sym p ∙ sym same ∙ n)

own_device : (before : List Raw) (device : ℕ) (is : List KnownInterface) → seat_id < device → IsDevice (new_device before device is device) device
unfolding new_device
own_device before device is le = record { entry = record { interface = known.Device; version = version before known.Device; device = Some device }; is = rw (eq-eqb device device refl) refl; kind = refl; own = refl; above = le }

entry_owner : (before : List Raw) (device : ℕ) (o : Option KnownInterface) (e : Entry) (d : ℕ) → interface_entry before device o ≡ Some e → e.device ≡ Some d → d ≡ device
entry_owner before device None e d h p = absurd (none_some e h)
entry_owner before device (Some i) e d h p = device_same _ e d device refl h p

entry_below : (before : List Raw) (device : ℕ) (is : List KnownInterface) (k : ℕ) (e : Entry) → interface_entry before device (slice_get is k) ≡ Some e → k < length is
entry_below before device [] k e h = absurd (none_some e h)
entry_below before device (i ∷ is) zero e h = omega arith
entry_below before device (i ∷ is) (suc k) e h = omega (arith, entry_below before device is k e h)

new_device_owner : (before : List Raw) (device : ℕ) (is : List KnownInterface) (id : ℕ) (e : Entry) (d : ℕ) → new_device before device is id ≡ Some e → e.device ≡ Some d → d ≡ device
unfolding new_device
new_device_owner before device is id e d h p =
    elim (chosen (eqb id device) _ _ _ h) [
      | inl a ↦ device_same _ e d device refl a.1 p
      | inr b ↦ elim (chosen (ltb device id) _ _ _ b.1) [
        | inl c ↦ entry_owner before device (slice_get is (id - device - 1)) e d c.1 p
        | inr x ↦ absurd (none_some e x.1)
      ]
    ]

new_device_range : (before : List Raw) (device : ℕ) (is : List KnownInterface) (id : ℕ) (e : Entry) → new_device before device is id ≡ Some e → (device ≤ id) × (id < device + (1 + length is))
unfolding new_device
new_device_range before device is id e h =
    elim (chosen (eqb id device) _ _ _ h) [
      | inl a ↦ let q : id ≡ device = eqb-true id device a.0 in (omega arith, omega arith)
      | inr b ↦ elim (chosen (ltb device id) _ _ _ b.1) [
        | inl c ↦ let q : device < id = ltb-true device id c.0 in let r = entry_below before device is (id - device - 1) e c.1 in (omega arith, omega (arith, r))
        | inr x ↦ absurd (none_some e x.1)
      ]
    ]

given_of : (before : List Raw) (mask : Option ℕ) (id : ℕ) (e : Entry) (d : ℕ) → given before mask id ≡ Some e → e.device ≡ Some d → IsDevice (given before mask d) d
given_of before None id e d h p = absurd (none_some e h)
given_of before (Some mask) id e d h p =
    let q = new_device_owner before (next_id before) (interfaces_of mask) id e d h p in
    rw q (own_device before (next_id before) (interfaces_of mask) (next_above before))

-- what a position gives has the next ids
pub given_range : (before : List Raw) (m : Raw) (mask : Option ℕ) (id : ℕ) (e : Entry) → made before m ≡ mask → given before mask id ≡ Some e → (next_id before ≤ id) × (id < next_id before + ids_given before m)
unfolding ids_given
given_range before m None id e q h = absurd (none_some e h)
given_range before m (Some mask) id e q h = let r = new_device_range before (next_id before) (interfaces_of mask) id e h in (r.0, rw (q, ids_given) r.1)

pub next_id_more : (before : List Raw) (m : Raw) → next_id (m ∷ before) ≡ next_id before + ids_given before m
unfolding next_id total
next_id_more before m = omega arith

below_at : (before : List Raw) (m : Raw) (id : ℕ) (e : Entry) (d : ℕ) (i : Option Entry) (r : Bool) → (object before id ≡ Some e → id < next_id before) → introduces before m id ≡ i → changed i r (object before id) ≡ Some e → e.device ≡ Some d → id < next_id before + ids_given before m
below_at before m id e d (Some x) r next q h p = (given_range before m (made before m) id e refl (by_making before m id e d (q ∙ h) p).1).1
below_at before m id e d None true next q h p = absurd (none_some e h)
below_at before m id e d None false next q h p = omega (arith, next h)

-- an id of a device, or of an interface of one, is below the next
pub object_below : (before : List Raw) (id : ℕ) (e : Entry) (d : ℕ) → object before id ≡ Some e → e.device ≡ Some d → id < next_id before
unfolding object last_said
object_below [] id e d h p =
    elim (chosen (eqb id 0) _ _ _ h) [
      | inl x ↦ absurd (no_device _ e d refl x.1 p)
      | inr y ↦ absurd (none_some e y.1)
    ]
object_below (m ∷ before) id e d h p = rw next_id_more (below_at before m id e d (introduces before m id) (removes before m id) (λ q. object_below before id e d q p) refl (sym (object_more before m id) ∙ h) p)

device_is : (o : Option Entry) (d : ℕ) (w : IsDevice o d) (p : Option Entry) → p ≡ o → IsDevice p d
device_is o d w p q = record { entry = w.entry; is = q ∙ w.is; kind = w.kind; own = w.own; above = w.above }

-- no later position gives the id of a device again
no_second : (before : List Raw) (m : Raw) (d : ℕ) (o : Option Entry) → IsDevice (object before d) d → is_the_finish before m ≡ false → introduces before m d ≡ o → introduces before m d ≡ None
no_second before m d None w f q = q
no_second before m d (Some y) w f q =
    let low = object_below before d w.entry d w.is w.own in
    let high = (given_range before m (made before m) d y refl (sym (given_by before m d f) ∙ q)).0 in
    absurd (omega arith)

pub of_is : (device : ℕ) (e : Entry) (d : ℕ) → e.device ≡ Some d → is_of device (Some e) ≡ eqb d device
unfolding is_of
of_is device e d p = rw (p, is_of) refl

was_one : (e : Entry) (o : Option Entry) → o ≡ Some e → e.interface ≡ known.Device → was_device o ≡ true
unfolding was_device
was_one e o q k = rw (q, was_device, k) refl

-- what takes the device takes each of its ids
goes_bools : (r same was own : Bool) → (own ≡ true → was ≡ true) → (r && (same || (was && own))) ≡ false → (r && (own || (was && own))) ≡ false
goes_bools false same was own t e = refl
goes_bools true true was own t e = absurd cc
goes_bools true false true own t e = by own e
  where
    by : (b : Bool) → b ≡ false → (b || b) ≡ false
    by true e = e
    by false e = refl
goes_bools true false false true t e = absurd (not_both true refl (sym (t refl)))
goes_bools true false false false t e = refl

goes_with : (before : List Raw) (m : Raw) (id : ℕ) (e : Entry) (d : ℕ) (b : Bool) → is_the_finish before m ≡ b → IsDevice (object before d) d → object before id ≡ Some e → e.device ≡ Some d → removes before m id ≡ false → removes before m d ≡ false
unfolding removes
goes_with before m id e d true f w k p r =
    let far : eqb d 0 ≡ false = let le = w.above in grind (arith, nat_tests) in
    rw (f, far) refl
goes_with before m id e d false f w k p r =
    let i = object_is_introduced before id e k in
    let j = object_is_introduced before d w.entry w.is in
    let r2 : (is_release (introduced before m.id) m && (eqb m.id id || (was_device (introduced before m.id) && is_of m.id (Some e)))) ≡ false = rw (f, i) at r in
    let a : is_of m.id (Some e) ≡ eqb d m.id = of_is m.id e d p in
    let b : is_of m.id (Some w.entry) ≡ eqb d m.id = of_is m.id w.entry d w.own in
    let c : eqb m.id d ≡ eqb d m.id = grind (arith, nat_tests) in
    let t : eqb d m.id ≡ true → was_device (introduced before m.id) ≡ true = λ q. let same : introduced before m.id ≡ Some w.entry = ap (introduced before) (sym (eqb-true d m.id q)) ∙ j in was_one w.entry (introduced before m.id) same w.kind in
    rw (f, j, b, c) (goes_bools (is_release (introduced before m.id) m) (eqb m.id id) (was_device (introduced before m.id)) (eqb d m.id) t (rw a at r2))

-- the finish gives no id above the seat
pub high_none : (before : List Raw) (m : Raw) (d : ℕ) → seat_id < d → is_the_finish before m ≡ true → introduces before m d ≡ None
unfolding introduces handed_over
high_none before m d le f =
    let far : eqb d connection_id ≡ false = grind (arith, nat_tests) in
    let other : eqb d seat_id ≡ false = grind (arith, nat_tests) in
    rw (f, introduces, handed_over, far, other) refl

owner_stays : (before : List Raw) (m : Raw) (d : ℕ) → IsDevice (object before d) d → (b : Bool) → is_the_finish before m ≡ b → removes before m d ≡ false → IsDevice (object (m ∷ before) d) d
owner_stays before m d w true f g = device_is (object before d) d w (object (m ∷ before) d) (object_at before m d None false (high_none before m d w.above f) g)
owner_stays before m d w false f g =
    let n = no_second before m d (introduces before m d) w f refl in
    device_is (object before d) d w (object (m ∷ before) d) (object_at before m d None false n g)

owner_at : (before : List Raw) (m : Raw) (id : ℕ) (e : Entry) (d : ℕ) (i : Option Entry) (r : Bool) → ((x : Entry) → object before id ≡ Some x → x.device ≡ Some d → IsDevice (object before d) d) → introduces before m id ≡ i → removes before m id ≡ r → object (m ∷ before) id ≡ Some e → e.device ≡ Some d → IsDevice (object (m ∷ before) d) d
owner_at before m id e d (Some x) r next q s h p =
    let x-is : introduces before m id ≡ Some e = q ∙ sym (object_at before m id (Some x) r q s) ∙ h in
    let g = by_making before m id e d x-is p in
    let w = device_is (given before (made before m) d) d (given_of before (made before m) id e d g.1 p) (introduces before m d) (given_by before m d g.0) in
    device_is (Some w.entry) d (record { entry = w.entry; is = refl; kind = w.kind; own = w.own; above = w.above }) (object (m ∷ before) d) (object_at before m d (Some w.entry) (removes before m d) w.is refl)
owner_at before m id e d None true next q s h p = absurd (none_some e (sym (object_at before m id None true q s) ∙ h))
owner_at before m id e d None false next q s h p =
    let k : object before id ≡ Some e = sym (object_at before m id None false q s) ∙ h in
    let w = next e k p in
    let g = goes_with before m id e d (is_the_finish before m) refl w k p s in
    owner_stays before m d w (is_the_finish before m) refl g

pub object_owner : (before : List Raw) (id : ℕ) (e : Entry) (d : ℕ) → object before id ≡ Some e → e.device ≡ Some d → IsDevice (object before d) d
unfolding object last_said
object_owner [] id e d h p =
    elim (chosen (eqb id 0) _ _ _ h) [
      | inl x ↦ absurd (no_device _ e d refl x.1 p)
      | inr y ↦ absurd (none_some e y.1)
    ]
object_owner (m ∷ before) id e d h p = owner_at before m id e d (introduces before m id) (removes before m id) (λ x a b. object_owner before id x d a b) refl refl h p

-- ---- a message to an unknown target changes nothing

makes_not : (before : List Raw) (m : Raw) (b : Bool) → (eqb m.id seat_id ≡ true → seat_is_open before ≡ false) → eqb m.id seat_id ≡ b → made before m ≡ None
unfolding made
makes_not before m true shut e = rw (shut e) refl
makes_not before m false shut e = rw (e, and_false (seat_is_open before)) refl

pub unknown_makes_nothing : (before : List Raw) (m : Raw) → object before m.id ≡ None → made before m ≡ None
unknown_makes_nothing before m h =
    makes_not before m (eqb m.id seat_id) (λ q. let k : object before seat_id ≡ None = ap (object before) (sym (eqb-true m.id seat_id q)) ∙ h in sym (object_seat before) ∙ rw k refl) refl

not_own : (before : List Raw) (id k : ℕ) (e : Entry) (o : Option ℕ) (b : Bool) → object before id ≡ Some e → object before k ≡ None → e.device ≡ o → is_of k (Some e) ≡ b → is_of k (Some e) ≡ false
unfolding is_of
not_own before id k e None b i n p q = rw (p, is_of) refl
not_own before id k e (Some d) false i n p q = q
not_own before id k e (Some d) true i n p q =
    let same : d ≡ k = eqb-true d k (sym (of_is k e d p) ∙ q) in
    let w = object_owner before id e d i p in
    absurd (none_some w.entry (sym n ∙ ap (object before) (sym same) ∙ w.is))

not_same : (before : List Raw) (m : Raw) (id : ℕ) (e : Entry) (b : Bool) → object before id ≡ Some e → object before m.id ≡ None → eqb m.id id ≡ b → eqb m.id id ≡ false
not_same before m id e true i n q = absurd (none_some e (sym n ∙ ap (object before) (eqb-true m.id id q) ∙ i))
not_same before m id e false i n q = q

unknown_removes : (before : List Raw) (m : Raw) (id : ℕ) (e : Entry) → is_the_finish before m ≡ false → object before m.id ≡ None → object before id ≡ Some e → removes before m id ≡ false
unfolding removes
unknown_removes before m id e f n i =
    let j = object_is_introduced before id e i in
    let a = not_same before m id e (eqb m.id id) i n refl in
    let b = not_own before id m.id e e.device (is_of m.id (Some e)) i n refl refl in
    rw (f, j, a, b) (by (is_release (introduced before m.id) m) (was_device (introduced before m.id)))
  where
    by : (r was : Bool) → (r && (false || (was && false))) ≡ false
    by r true = and_false r
    by r false = and_false r

unknown_at : (before : List Raw) (m : Raw) (id : ℕ) (o : Option Entry) → is_the_finish before m ≡ false → object before m.id ≡ None → object before id ≡ o → object (m ∷ before) id ≡ object before id
unknown_at before m id None f n q =
    let i : introduces before m id ≡ None = given_by before m id f ∙ ap (λ (x : Option ℕ). given before x id) (unknown_makes_nothing before m n) in
    object_at before m id None (removes before m id) i refl ∙ rw q (nothing_left (removes before m id))
unknown_at before m id (Some e) f n q =
    let i : introduces before m id ≡ None = given_by before m id f ∙ ap (λ (x : Option ℕ). given before x id) (unknown_makes_nothing before m n) in
    object_at before m id None false i (unknown_removes before m id e f n q)

pub object_unknown : (before : List Raw) (m : Raw) (id : ℕ) → is_the_finish before m ≡ false → object before m.id ≡ None → object (m ∷ before) id ≡ object before id
object_unknown before m id f n = unknown_at before m id (object before id) f n refl
