-- Devices of which some go and the others stay.
use Rattle.std.proofs.Common.{◌≡◌, ℕ, Bool, true, false, cond, eqb, ◌||◌, inl, inr, List, [], ◌∷◌, map, Option, Some, None, refl, sym, ap, subst, ◌∙◌}
use Rattle.std.specs.Prelude.{is_some, find, not}
use Rattle.std.specs.List.{list_any, filter}
use Rattle.std.proofs.lemmas.Option.{same_Some}
use Rattle.std.proofs.lemmas.Bool.{or_parts, and_parts, eqb-true, eq-eqb}
use Rattle.ei_spec.specs.Interface.{ObjectView}
use Rattle.ei_request.specs.Keys.{DeviceKey}
use Rattle.ei_request.specs.Held.{DeviceView, is_device, is_of_key, has_interface, without_first}
use Rattle.ei_acts.specs.Holding.{device_id}
use Rattle.ei_acts.specs.There.{IdsDiffer, device_ids, interface_ids}
use Rattle.ei_acts.proofs.Parts.{or_first, or_last, any_in_both, apart_from, none_in_both, not_both, eqb_turned, IsPart, part_same, part_none, part_both, part_any, differ_last, differ_apart}
use Rattle.ei_acts.proofs.Holds.{owner, all_interfaces, has_by_ids}

-- ---- who has what

-- each of these interfaces is that device's
abbrev pub EachOwned : (ℕ → Option ℕ) → ℕ → List ObjectView → Type 0
EachOwned owns device [] = Unit {0}
EachOwned owns device (o ∷ os) = (owns o.id ≡ Some device) × EachOwned owns device os

abbrev pub AllOwn : (ℕ → Option ℕ) → List DeviceView → Type 0
AllOwn owns [] = Unit {0}
AllOwn owns (d ∷ ds) = EachOwned owns d.device.proxy.id d.interfaces × AllOwn owns ds

pub owned_so : (owns more : ℕ → Option ℕ) (device : ℕ) (os : List ObjectView) → ((n : ℕ) → list_any (eqb n) (map (λ (o : ObjectView). o.id) os) ≡ true → owns n ≡ Some device → more n ≡ Some device) → EachOwned owns device os → EachOwned more device os
owned_so owns more device [] h e = tt
owned_so owns more device (o ∷ os) h e = (
  h o.id (ap (λ (c : Bool). c || list_any (eqb o.id) (map (λ (p : ObjectView). p.id) os)) (eq-eqb o.id o.id refl)) e.0,
  owned_so owns more device os (λ n f. h n (or_last (eqb n o.id) (list_any (eqb n) (map (λ (p : ObjectView). p.id) os)) f)) e.1,
)

pub all_owned_so : (owns more : ℕ → Option ℕ) (ds : List DeviceView) → ((n device : ℕ) → list_any (eqb n) (all_interfaces ds) ≡ true → list_any (eqb device) (device_ids ds) ≡ true → owns n ≡ Some device → more n ≡ Some device) → AllOwn owns ds → AllOwn more ds
all_owned_so owns more [] h e = tt
all_owned_so owns more (d ∷ ds) h e = (
  owned_so owns more d.device.proxy.id d.interfaces (λ n f. h n d.device.proxy.id (any_in_both n (interface_ids d) (all_interfaces ds) (inl f)) (or_first (eqb d.device.proxy.id d.device.proxy.id) (list_any (eqb d.device.proxy.id) (device_ids ds)) (eq-eqb d.device.proxy.id d.device.proxy.id refl))) e.0,
  all_owned_so owns more ds (λ n device f g. h n device (any_in_both n (interface_ids d) (all_interfaces ds) (inr f)) (or_last (eqb device d.device.proxy.id) (list_any (eqb device) (device_ids ds)) g)) e.1,
)

-- ---- what is not in the first is found in the others

-- an interface of the others
owner_behind_first : (d : DeviceView) (ds : List DeviceView) (n device : ℕ) → has_interface n d ≡ false → owner n ds ≡ Some device → owner n (d ∷ ds) ≡ Some device
owner_behind_first d ds n device h e = ap (λ (c : Bool). device_id (cond c (Some d) (find (has_interface n) ds))) h ∙ e

-- a device that has an interface, and the interface
none_some : (a : ℕ) → ◌≡◌ {A = Option ℕ} None (Some a) → ⊥
none_some a h = absurd cc

same_number : (a b : ℕ) → ◌≡◌ {A = Option ℕ} (Some a) (Some b) → a ≡ b
same_number a b h = cc

owner_in : (n device : ℕ) (ds : List DeviceView) → owner n ds ≡ Some device → (list_any (eqb n) (all_interfaces ds) ≡ true) × (list_any (eqb device) (device_ids ds) ≡ true)
owner_in n device [] e = absurd (none_some device e)
owner_in n device (d ∷ ds) e = by (has_interface n d) refl e (owner_in n device ds)
  where
    by : (b : Bool) → has_interface n d ≡ b → device_id (cond b (Some d) (find (has_interface n) ds)) ≡ Some device → (owner n ds ≡ Some device → (list_any (eqb n) (all_interfaces ds) ≡ true) × (list_any (eqb device) (device_ids ds) ≡ true)) →
        (list_any (eqb n) (all_interfaces (d ∷ ds)) ≡ true) × (list_any (eqb device) (device_ids (d ∷ ds)) ≡ true)
    by true h f next = (
      any_in_both n (interface_ids d) (all_interfaces ds) (inl (sym (has_by_ids n d.interfaces) ∙ h)),
      or_first (eqb device d.device.proxy.id) (list_any (eqb device) (device_ids ds)) (eq-eqb device d.device.proxy.id (sym (same_number d.device.proxy.id device f))),
    )
    by false h f next = let r = next f in (any_in_both n (interface_ids d) (all_interfaces ds) (inr r.0), or_last (eqb device d.device.proxy.id) (list_any (eqb device) (device_ids ds)) r.1)

found_in : (n : ℕ) (ds : List DeviceView) → is_some (find (is_device n) ds) ≡ true → list_any (eqb n) (device_ids ds) ≡ true
found_in n [] h = absurd cc
found_in n (d ∷ ds) h = by (eqb n d.device.proxy.id) (eqb_turned d.device.proxy.id n) h (found_in n ds)
  where
    by : (b : Bool) → eqb d.device.proxy.id n ≡ b → is_some (cond (eqb d.device.proxy.id n) (Some d) (find (is_device n) ds)) ≡ true → (is_some (find (is_device n) ds) ≡ true → list_any (eqb n) (device_ids ds) ≡ true) → (b || list_any (eqb n) (device_ids ds)) ≡ true
    by true e f next = refl
    by false e f next = next (sym (ap (λ (c : Bool). is_some (cond c (Some d) (find (is_device n) ds))) e) ∙ f)

-- ---- some that go, and the others

pub record Splits (all goes stays : List DeviceView) : Type 0 where
  pub own : AllOwn (λ n. owner n all) goes
  pub going_ids : IsPart (device_ids goes) (device_ids all)
  pub going_interfaces : IsPart (all_interfaces goes) (all_interfaces all)
  pub staying_ids : IsPart (device_ids stays) (device_ids all)
  pub staying_interfaces : IsPart (all_interfaces stays) (all_interfaces all)
  pub devices : (id : ℕ) → is_some (find (is_device id) stays) ≡ true → (is_some (find (is_device id) all) ≡ true) × (list_any (eqb id) (device_ids goes) ≡ false)
  pub owners : (id device : ℕ) → owner id stays ≡ Some device → (owner id all ≡ Some device) × (list_any (eqb id) (all_interfaces goes) ≡ false) × (list_any (eqb device) (device_ids goes) ≡ false)

own_itself : (d : DeviceView) (ds : List DeviceView) (os : List ObjectView) → ((n : ℕ) → list_any (eqb n) (map (λ (o : ObjectView). o.id) os) ≡ true → has_interface n d ≡ true) → EachOwned (λ n. owner n (d ∷ ds)) d.device.proxy.id os
own_itself d ds [] h = tt
own_itself d ds (o ∷ os) h = (
  ap (λ (c : Bool). device_id (cond c (Some d) (find (has_interface o.id) ds))) (h o.id (or_first (eqb o.id o.id) (list_any (eqb o.id) (map (λ (p : ObjectView). p.id) os)) (eq-eqb o.id o.id refl))),
  own_itself d ds os (λ n f. h n (or_last (eqb n o.id) (list_any (eqb n) (map (λ (p : ObjectView). p.id) os)) f)),
)

module _ (d : DeviceView) (ds goes stays : List DeviceView) (ids : IdsDiffer (device_ids (d ∷ ds))) (interfaces : IdsDiffer (all_interfaces (d ∷ ds))) (s : Splits ds goes stays) where
  -- an interface of another isn't the first's
  not_its : (n : ℕ) → list_any (eqb n) (all_interfaces ds) ≡ true → has_interface n d ≡ false
  not_its n h = has_by_ids n d.interfaces ∙ apart_from n (interface_ids d) (all_interfaces ds) interfaces h

  -- what is not in all of them is not in those that go
  owned_still : AllOwn (λ n. owner n (d ∷ ds)) goes
  owned_still = all_owned_so (λ n. owner n ds) (λ n. owner n (d ∷ ds)) goes (λ n device f g e. let r = owner_in n device ds e in owner_behind_first d ds n device (not_its n r.0) e) s.own

  found_still : (id : ℕ) → is_some (find (is_device id) ds) ≡ true → is_some (find (is_device id) (d ∷ ds)) ≡ true
  found_still id h = by (is_device id d)
    where
      by : (b : Bool) → is_some (cond b (Some d) (find (is_device id) ds)) ≡ true
      by true = refl
      by false = h

  pub first_goes : Splits (d ∷ ds) (d ∷ goes) stays
  first_goes = record {
    own = (own_itself d ds d.interfaces (λ n h. has_by_ids n d.interfaces ∙ h), owned_still);
    going_ids = inr (device_ids goes, refl, s.going_ids);
    going_interfaces = part_both (interface_ids d) (interface_ids d) (all_interfaces goes) (all_interfaces ds) (part_same (interface_ids d)) s.going_interfaces;
    staying_ids = inl s.staying_ids;
    staying_interfaces = part_both [] (interface_ids d) (all_interfaces stays) (all_interfaces ds) (part_none (interface_ids d)) s.staying_interfaces;
    devices = λ id h. let r = s.devices id h in (found_still id r.0, other_id id r.0 r.1);
    owners = λ id device h.
        let r = s.owners id device h in let i = owner_in id device ds r.0 in
        (owner_behind_first d ds id device (not_its id i.0) r.0, other_interface id i.0 r.1, other_device device i.1 r.2);
  }
    where
      other_device : (id : ℕ) → list_any (eqb id) (device_ids ds) ≡ true → list_any (eqb id) (device_ids goes) ≡ false → list_any (eqb id) (device_ids (d ∷ goes)) ≡ false
      other_device id h g = ap (λ (c : Bool). c || list_any (eqb id) (device_ids goes)) (or_parts (eqb id d.device.proxy.id) false (apart_from id (d.device.proxy.id ∷ []) (device_ids ds) ids h)).0 ∙ g

      other_id : (id : ℕ) → is_some (find (is_device id) ds) ≡ true → list_any (eqb id) (device_ids goes) ≡ false → list_any (eqb id) (device_ids (d ∷ goes)) ≡ false
      other_id id h g = other_device id (found_in id ds h) g

      other_interface : (id : ℕ) → list_any (eqb id) (all_interfaces ds) ≡ true → list_any (eqb id) (all_interfaces goes) ≡ false → list_any (eqb id) (all_interfaces (d ∷ goes)) ≡ false
      other_interface id h g = none_in_both id (interface_ids d) (all_interfaces goes) (apart_from id (interface_ids d) (all_interfaces ds) interfaces h) g

  pub first_stays : Splits (d ∷ ds) goes (d ∷ stays)
  first_stays = record {
    own = owned_still;
    going_ids = inl s.going_ids;
    going_interfaces = part_both [] (interface_ids d) (all_interfaces goes) (all_interfaces ds) (part_none (interface_ids d)) s.going_interfaces;
    staying_ids = inr (device_ids stays, refl, s.staying_ids);
    staying_interfaces = part_both (interface_ids d) (interface_ids d) (all_interfaces stays) (all_interfaces ds) (part_same (interface_ids d)) s.staying_interfaces;
    devices = λ id h. of_id id (is_device id d) refl h;
    owners = λ id device h. of_owner id device (has_interface id d) refl h;
  }
    where
      of_id : (id : ℕ) (b : Bool) → is_device id d ≡ b → is_some (cond b (Some d) (find (is_device id) stays)) ≡ true → (is_some (find (is_device id) (d ∷ ds)) ≡ true) × (list_any (eqb id) (device_ids goes) ≡ false)
      of_id id true e h = (
        ap (λ (c : Bool). is_some (cond c (Some d) (find (is_device id) ds))) e,
        subst (λ (k : ℕ). list_any (eqb k) (device_ids goes) ≡ false) (eqb-true d.device.proxy.id id e) (part_any d.device.proxy.id (device_ids goes) (device_ids ds) s.going_ids ids.0),
      )
      of_id id false e h = let r = s.devices id h in (found_still id r.0, r.1)

      of_owner : (id device : ℕ) (b : Bool) → has_interface id d ≡ b → device_id (cond b (Some d) (find (has_interface id) stays)) ≡ Some device →
          (owner id (d ∷ ds) ≡ Some device) × (list_any (eqb id) (all_interfaces goes) ≡ false) × (list_any (eqb device) (device_ids goes) ≡ false)
      of_owner id device true e h = (
        ap (λ (c : Bool). device_id (cond c (Some d) (find (has_interface id) ds))) e ∙ h,
        part_any id (all_interfaces goes) (all_interfaces ds) s.going_interfaces (differ_apart id (interface_ids d) (all_interfaces ds) interfaces (sym (has_by_ids id d.interfaces) ∙ e)),
        subst (λ (k : ℕ). list_any (eqb k) (device_ids goes) ≡ false) (same_number d.device.proxy.id device h) (part_any d.device.proxy.id (device_ids goes) (device_ids ds) s.going_ids ids.0),
      )
      of_owner id device false e h = let r = s.owners id device h in (owner_behind_first d ds id device e r.0, r.1, r.2)

pub by_test : (test : DeviceView → Bool) (ds : List DeviceView) → IdsDiffer (device_ids ds) → IdsDiffer (all_interfaces ds) → Splits ds (filter test ds) (filter (λ d. not (test d)) ds)
by_test test [] ids interfaces = record {
  own = tt;
  going_ids = refl;
  going_interfaces = refl;
  staying_ids = refl;
  staying_interfaces = refl;
  devices = λ id h. absurd cc;
  owners = λ id device h. absurd (none_some device h);
}
by_test test (d ∷ ds) ids interfaces = by (test d) (by_test test ds ids.1 (differ_last (interface_ids d) (all_interfaces ds) interfaces))
  where
    by : (b : Bool) → Splits ds (filter test ds) (filter (λ x. not (test x)) ds) → Splits (d ∷ ds) (cond b (d ∷ filter test ds) (filter test ds)) (cond (not b) (d ∷ filter (λ x. not (test x)) ds) (filter (λ x. not (test x)) ds))
    by true s = first_goes d ds (filter test ds) (filter (λ x. not (test x)) ds) ids interfaces s
    by false s = first_stays d ds (filter test ds) (filter (λ x. not (test x)) ds) ids interfaces s

nothing_found : (d : DeviceView) → ◌≡◌ {A = Option DeviceView} None (Some d) → ⊥
nothing_found d h = absurd cc

some_same : (x d : DeviceView) → ◌≡◌ {A = Option DeviceView} (Some x) (Some d) → x ≡ d
some_same x d h = same_Some x d h

-- ---- one that goes

none_of_key : (key : DeviceKey) (ds : List DeviceView) → list_any (eqb key.proxy.id) (device_ids ds) ≡ false → (filter (is_of_key key) ds ≡ []) × (filter (λ d. not (is_of_key key d)) ds ≡ ds)
none_of_key key [] h = (refl, refl)
none_of_key key (d ∷ ds) h =
    let parts = or_parts (eqb key.proxy.id d.device.proxy.id) (list_any (eqb key.proxy.id) (device_ids ds)) h in
    by (is_of_key key d) refl parts.0 (none_of_key key ds parts.1)
  where
    by : (b : Bool) → is_of_key key d ≡ b → eqb key.proxy.id d.device.proxy.id ≡ false → (filter (is_of_key key) ds ≡ []) × (filter (λ x. not (is_of_key key x)) ds ≡ ds) →
        (cond b (d ∷ filter (is_of_key key) ds) (filter (is_of_key key) ds) ≡ []) × (cond (not b) (d ∷ filter (λ x. not (is_of_key key x)) ds) (filter (λ x. not (is_of_key key x)) ds) ≡ d ∷ ds)
    by true e n next = absurd (not_both (eqb key.proxy.id d.device.proxy.id) (eqb_turned key.proxy.id d.device.proxy.id ∙ (and_parts (eqb d.device.seat.id key.seat.id) (eqb d.device.proxy.id key.proxy.id) e).1) n)
    by false e n next = (next.0, ap (λ (l : List DeviceView). d ∷ l) next.1)

pub one_goes : (key : DeviceKey) (d : DeviceView) (ds : List DeviceView) → IdsDiffer (device_ids ds) → find (is_of_key key) ds ≡ Some d → (filter (is_of_key key) ds ≡ d ∷ []) × (filter (λ x. not (is_of_key key x)) ds ≡ without_first (is_of_key key) ds)
one_goes key d [] differ h = absurd (nothing_found d h)
one_goes key d (x ∷ ds) differ h = by (is_of_key key x) refl h (one_goes key d ds differ.1)
  where
    by : (b : Bool) → is_of_key key x ≡ b → cond b (Some x) (find (is_of_key key) ds) ≡ Some d → (find (is_of_key key) ds ≡ Some d → (filter (is_of_key key) ds ≡ d ∷ []) × (filter (λ y. not (is_of_key key y)) ds ≡ without_first (is_of_key key) ds)) →
        (cond b (x ∷ filter (is_of_key key) ds) (filter (is_of_key key) ds) ≡ d ∷ []) × (cond (not b) (x ∷ filter (λ y. not (is_of_key key y)) ds) (filter (λ y. not (is_of_key key y)) ds) ≡ cond b ds (x ∷ without_first (is_of_key key) ds))
    by true e f next =
        let its : eqb x.device.proxy.id key.proxy.id ≡ true = (and_parts (eqb x.device.seat.id key.seat.id) (eqb x.device.proxy.id key.proxy.id) e).1 in
        let none = none_of_key key ds (subst (λ (k : ℕ). list_any (eqb k) (device_ids ds) ≡ false) (eqb-true x.device.proxy.id key.proxy.id its) differ.0) in
        let same : x ≡ d = some_same x d f in
        (ap (λ (l : List DeviceView). x ∷ l) none.0 ∙ ap (λ (y : DeviceView). y ∷ []) same, none.1)
    by false e f next = let r = next f in (r.0, ap (λ (l : List DeviceView). x ∷ l) r.1)
