-- The devices of a script by their numbers, with one step more.
use Rattle.std.proofs.Common.{◌≡◌, ℕ, zero, suc, ◌+◌, ◌<◌, ◌≤◌, Bool, true, false, eqb, ◌&&◌, ◌||◌, List, [], ◌∷◌, ◌++◌, length, set, Option, Some, None, refl, sym, ap, subst, ◌∙◌, arith}
use Rattle.std.specs.Prelude.{not, is_some}
use Rattle.std.proofs.lemmas.Bool.{eqb-true, eq-eqb}
use Rattle.std.proofs.lemmas.List.{length-append, length-set}
use Rattle.ei_spec.specs.History.{last_said, occurs, total}
use Rattle.ei_spec.proofs.HistoryLaws.{occurs_or}
use Rattle.ei_session.specs.Setup.{seat_id}
use Rattle.ei_emitting.specs.Emitted.{Step, Add, Remove, count, next_device, added, removes, is_held, is_bad, id_in}
use Rattle.ei_request.specs.Keys.{DeviceKey}
use Rattle.ei_emitting.proofs.Histories.{added_now, added_before}
use Rattle.ei_emit.specs.Held.{held_at}
use Rattle.ei_emit.specs.Stands.{IsHeldAs, NoneBad, AreDevices}

-- ---- what a list of devices holds

abbrev Devices : Type 0
Devices = List (Option DeviceKey)

held_at_set : (ds : Devices) (n m : ℕ) → eqb n m ≡ false → held_at (set ds n None) m ≡ held_at ds m
held_at_set [] n m e = refl
held_at_set (d ∷ ds) zero zero e = absurd cc
held_at_set (d ∷ ds) zero (suc m) e = refl
held_at_set (d ∷ ds) (suc n) zero e = refl
held_at_set (d ∷ ds) (suc n) (suc m) e = held_at_set ds n m (by (eqb n m) refl)
  where
    by : (b : Bool) → eqb n m ≡ b → eqb n m ≡ false
    by true f = let same = eqb-true n m f in let both : true ≡ false = sym (eq-eqb (suc n) (suc m) (ap suc same)) ∙ e in absurd cc
    by false f = f

none_at_set : (ds : Devices) (n : ℕ) → held_at (set ds n None) n ≡ None
none_at_set [] n = refl
none_at_set (d ∷ ds) zero = refl
none_at_set (d ∷ ds) (suc n) = none_at_set ds n

held_at_more : (ds : Devices) (new : Option DeviceKey) (m : ℕ) → eqb (length ds) m ≡ false → held_at (ds ++ new ∷ []) m ≡ held_at ds m
held_at_more [] new zero e = absurd cc
held_at_more [] new (suc m) e = refl
held_at_more (d ∷ ds) new zero e = refl
held_at_more (d ∷ ds) new (suc m) e = held_at_more ds new m (by (eqb (length ds) m) refl)
  where
    by : (b : Bool) → eqb (length ds) m ≡ b → eqb (length ds) m ≡ false
    by true f = let same = eqb-true (length ds) m f in let both : true ≡ false = sym (eq-eqb (suc (length ds)) (suc m) (ap suc same)) ∙ e in absurd cc
    by false f = f

new_at_more : (ds : Devices) (new : Option DeviceKey) → held_at (ds ++ new ∷ []) (length ds) ≡ new
new_at_more [] None = refl
new_at_more [] (Some key) = refl
new_at_more (d ∷ ds) new = new_at_more ds new

-- ---- how many were added

count_more : (before : List Step) (mask : ℕ) → count (Add mask ∷ before) ≡ count before + 1
unfolding count total
count_more before mask = refl

added_below : (before : List Step) (number : ℕ) (d : ℕ × ℕ) → added before number ≡ Some d → number < count before
unfolding added last_said count total
added_below [] number d h = absurd cc
added_below (Add mask ∷ before) number d h = by (eqb (count before) number) refl (added_below before number d)
  where
    by : (b : Bool) → eqb (count before) number ≡ b → (added before number ≡ Some d → number < count before) → number < count (Add mask ∷ before)
    by true e next = let same = eqb-true (count before) number e in let more = count_more before mask in omega (arith, same, more)
    by false e next = let low = next (sym (added_before before mask number e) ∙ h) in let more = count_more before mask in omega (arith, low, more)
added_below (step ∷ before) number d h = let low = added_below before number d h in omega (arith, low)

unadded : (before : List Step) (number : ℕ) → count before ≤ number → added before number ≡ None
unadded before number le = by (added before number) refl
  where
    by : (o : Option (ℕ × ℕ)) → added before number ≡ o → added before number ≡ None
    by None e = e
    by (Some d) e = absurd (let low = added_below before number d e in omega (arith, low, le))

-- ---- what is held

last_false : (a b : Bool) → b ≡ false → (a && b) ≡ false
last_false true b e = e
last_false false b e = refl

-- whether the device of that number was removed
abbrev was_removed : List Step → ℕ → Bool
was_removed before number = occurs (λ b s. removes number s) before

held_by : (before : List Step) (number : ℕ) → is_held before number ≡ is_some (added before number) && not (was_removed before number)
unfolding is_held
held_by before number = refl

unheld : (before : List Step) (number : ℕ) → count before ≤ number → is_held before number ≡ false
unheld before number le = held_by before number ∙ ap (λ (o : Option (ℕ × ℕ)). is_some o && not (was_removed before number)) (unadded before number le)

not_bad : (b : Bool) → not b ≡ false → b ≡ true
not_bad true e = refl
not_bad false e = absurd cc

-- none was removed before it was added
in_turn : (before : List Step) (number : ℕ) → NoneBad before → count before ≤ number → was_removed before number ≡ false
unfolding occurs count total is_bad
in_turn [] number g le = refl
in_turn (Add mask ∷ before) number g le = in_turn before number g.1 (omega (arith, le))
in_turn (Remove device ∷ before) number g le =
    by (eqb device number) refl (in_turn before number g.1 (omega (arith, le))) (not_bad (is_held before device) g.0) (λ (same : device ≡ number). unheld before device (omega (arith, le, same)))
  where
    by : (b : Bool) → eqb device number ≡ b → was_removed before number ≡ false → is_held before device ≡ true → (device ≡ number → is_held before device ≡ false) →
        elim b [ true ↦ true | false ↦ was_removed before number ] ≡ false
    by true e next held un = let f = un (eqb-true device number e) in absurd cc
    by false e next held un = next
in_turn (step ∷ before) number g le = in_turn before number g.1 (omega (arith, le))

-- ---- one step more

held_as : (old new : List Step) (number : ℕ) (o : Option DeviceKey) → is_held new number ≡ is_held old number → added new number ≡ added old number → IsHeldAs old number o → IsHeldAs new number o
held_as old new number None h a i = h ∙ i
held_as old new number (Some key) h a i = (h ∙ i.0, record { seat = i.1.seat; device = i.1.device ∙ ap id_in (sym a) })

-- which adds and removes nothing
abbrev pub changes_none : Step → Bool
changes_none (Add mask) = false
changes_none (Remove device) = false
changes_none step = true

pub still : (before : List Step) (step : Step) (ds : Devices) → changes_none step ≡ true → is_bad before step ≡ false → AreDevices before ds → AreDevices (step ∷ before) ds
unfolding is_held added last_said occurs count total
still before (Add mask) ds t b a = absurd cc
still before (Remove device) ds t b a = absurd cc
still before step ds t b a = record {
  good = (b, a.good);
  counted = let many = a.counted in omega (arith, many);
  held = λ number. held_as before (step ∷ before) number (held_at ds number) refl refl (a.held number);
}

removed_by : (before : List Step) (device number : ℕ) → was_removed (Remove device ∷ before) number ≡ eqb device number || was_removed before number
removed_by before device number = occurs_or (λ b s. removes number s) before (Remove device)

-- which removes a device
pub without : (before : List Step) (device : ℕ) (ds : Devices) → is_bad before (Remove device) ≡ false → AreDevices before ds → AreDevices (Remove device ∷ before) (set ds device None)
unfolding is_held added last_said occurs count total
without before device ds b a = record {
  good = (b, a.good);
  counted = let many = a.counted in omega (arith, many, length-set ds device None);
  held = λ number. by number (eqb device number) refl;
}
  where
    ours : was_removed (Remove device ∷ before) device ≡ true
    ours = removed_by before device device ∙ ap (λ (b : Bool). b || was_removed before device) (eq-eqb device device refl)

    by : (number : ℕ) (b : Bool) → eqb device number ≡ b → IsHeldAs (Remove device ∷ before) number (held_at (set ds device None) number)
    by number true e =
        let none : is_held (Remove device ∷ before) device ≡ false =
        held_by (Remove device ∷ before) device ∙ last_false (is_some (added before device)) (not (was_removed (Remove device ∷ before) device)) (ap not ours) in
        subst (λ (n : ℕ). IsHeldAs (Remove device ∷ before) n (held_at (set ds device None) n)) (eqb-true device number e)
        (subst (IsHeldAs (Remove device ∷ before) device) (sym (none_at_set ds device)) none)
    by number false e =
        let same : is_held (Remove device ∷ before) number ≡ is_held before number =
        ap (λ (w : Bool). is_some (added before number) && not w) (removed_by before device number ∙ ap (λ (b : Bool). b || was_removed before number) e) in
        subst (IsHeldAs (Remove device ∷ before) number) (sym (held_at_set ds device number e)) (held_as before (Remove device ∷ before) number (held_at ds number) same refl (a.held number))

removed_more : (before : List Step) (mask number : ℕ) → was_removed (Add mask ∷ before) number ≡ was_removed before number
unfolding occurs
removed_more before mask number = refl

-- which adds one
pub with_one : (before : List Step) (mask : ℕ) (ds : Devices) (key : DeviceKey) → key.seat.id ≡ seat_id → key.proxy.id ≡ next_device before → is_bad before (Add mask) ≡ false → AreDevices before ds →
    AreDevices (Add mask ∷ before) (ds ++ Some key ∷ [])
with_one before mask ds key seat id b a = record {
  good = (b, a.good);
  counted = let many = a.counted in let more = count_more before mask in omega (arith, many, more, length-append ds (Some key ∷ []));
  held = λ number. by number (eqb (length ds) number) refl;
}
  where
    same_count : (number : ℕ) → eqb (count before) number ≡ eqb (length ds) number
    same_count number = ap (λ (n : ℕ). eqb n number) (sym a.counted)

    new : is_held (Add mask ∷ before) (length ds) ≡ true
    new =
        held_by (Add mask ∷ before) (length ds)
        ∙ ap (λ (o : Option (ℕ × ℕ)). is_some o && not (was_removed (Add mask ∷ before) (length ds))) (added_now before mask (length ds) (eq-eqb (count before) (length ds) (sym a.counted)))
        ∙ ap not (removed_more before mask (length ds) ∙ in_turn before (length ds) a.good (let many = a.counted in omega (arith, many)))

    id_is : key.proxy.id ≡ id_in (added (Add mask ∷ before) (length ds))
    id_is = id ∙ ap id_in (sym (added_now before mask (length ds) (eq-eqb (count before) (length ds) (sym a.counted))))

    by : (number : ℕ) (b : Bool) → eqb (length ds) number ≡ b → IsHeldAs (Add mask ∷ before) number (held_at (ds ++ Some key ∷ []) number)
    by number true e = subst (λ (n : ℕ). IsHeldAs (Add mask ∷ before) n (held_at (ds ++ Some key ∷ []) n)) (eqb-true (length ds) number e)
        (subst (IsHeldAs (Add mask ∷ before) (length ds)) (sym (new_at_more ds (Some key))) (new, record { seat = seat; device = id_is }))
    by number false e =
        let earlier : added (Add mask ∷ before) number ≡ added before number = added_before before mask number (same_count number ∙ e) in
        let same : is_held (Add mask ∷ before) number ≡ is_held before number =
        held_by (Add mask ∷ before) number ∙ ap (λ (o : Option (ℕ × ℕ)). is_some o && not (was_removed (Add mask ∷ before) number)) earlier
        ∙ ap (λ (w : Bool). is_some (added before number) && not w) (removed_more before mask number) ∙ sym (held_by before number) in
        subst (IsHeldAs (Add mask ∷ before) number) (sym (held_at_more ds (Some key) number e)) (held_as before (Add mask ∷ before) number (held_at ds number) same earlier (a.held number))
