-- What is there is what was introduced and not removed: no id is introduced twice, and none is removed before.
use Rattle.std.proofs.Common.{◌≡◌, ℕ, ◌+◌, ◌<◌, ◌≤◌, Bool, true, false, cond, ◌&&◌, ◌||◌, eqb, List, [], ◌∷◌, Option, Some, None, refl, sym, ap, ◌∙◌, arith}
use Rattle.std.proofs.Common.{inl, inr}
use Rattle.std.specs.Prelude.{is_some}
use Rattle.std.proofs.lemmas.Bool.{eqb-true}
use Rattle.std.proofs.lemmas.Bool.Decides.{nat_tests}
use Rattle.ei_spec.specs.declared.interface.KnownInterface.TheVariants as known
use Rattle.ei_spec.specs.Message.{Raw}
use Rattle.ei_spec.specs.History.{last_said, occurs}
use Rattle.ei_spec.proofs.HistoryLaws.{occurs_or}
use Rattle.ei_session.specs.Setup.{connection_id, seat_id}
use Rattle.ei_session.specs.Handshake.{is_the_finish}
use Rattle.ei_session.specs.Devices.{made, ids_given, next_id}
use Rattle.ei_session.specs.Objects.{Entry, handed_over, introduces, at_first, introduced, is_release, was_device, is_of, removes, object}
use Rattle.ei_session.specs.Kept.{is_removed}
use Rattle.ei_session.proofs.Choices.{chosen, none_some, and_false}
use Rattle.ei_session.proofs.ObjectLaws.{object_more, introduced_now, introduced_before, next_above, given_by}
use Rattle.ei_session.proofs.ObjectShape.{at_finish, given_range, next_id_more}
use Rattle.ei_session.proofs.FirstObjects.{handshake_was, introduced_first}

-- ---- ids that were introduced are below the next

handed_ids : (before : List Raw) (id : ℕ) (e : Entry) → handed_over before id ≡ Some e → (connection_id ≤ id) × (id ≤ seat_id)
unfolding handed_over
handed_ids before id e h =
    elim (chosen (eqb id connection_id) _ _ _ h) [
      | inl x ↦ let q = eqb-true id connection_id x.0 in (omega (arith, q), omega (arith, q))
      | inr y ↦ elim (chosen (eqb id seat_id) _ _ _ y.1) [
        | inl x ↦ let q = eqb-true id seat_id x.0 in (omega (arith, q), omega (arith, q))
        | inr z ↦ absurd (none_some e z.1)
      ]
    ]

by_finish : (before : List Raw) (m : Raw) (id : ℕ) (e : Entry) → is_the_finish before m ≡ true → introduces before m id ≡ Some e → handed_over before id ≡ Some e
unfolding introduces
by_finish before m id e f h = sym (rw (f, introduces) refl) ∙ h

below_so : (before : List Raw) (m : Raw) (id : ℕ) (e : Entry) (b : Bool) → is_the_finish before m ≡ b → introduces before m id ≡ Some e → id < next_id before + ids_given before m
below_so before m id e true f h = let r = handed_ids before id e (by_finish before m id e f h) in omega (arith, r.1, next_above before)
below_so before m id e false f h = let r = given_range before m (made before m) id e refl (sym (given_by before m id f) ∙ h) in omega (arith, r.1)

below_at : (before : List Raw) (m : Raw) (id : ℕ) (e : Entry) (i : Option Entry) → (introduced before id ≡ Some e → id < next_id before) → introduces before m id ≡ i → introduced (m ∷ before) id ≡ Some e → id < next_id (m ∷ before)
below_at before m id e (Some x) next q h = omega (arith, next_id_more before m, below_so before m id x (is_the_finish before m) refl q)
below_at before m id e None next q h = omega (arith, next_id_more before m, next (sym (introduced_before before m id q) ∙ h))

pub introduced_below : (before : List Raw) (id : ℕ) (e : Entry) → introduced before id ≡ Some e → id < next_id before
unfolding introduced last_said
introduced_below [] id e h = by (eqb id 0) refl h
  where
    by : (b : Bool) → eqb id 0 ≡ b → cond b (Some (record { interface = known.Handshake; version = 1; device = None })) None ≡ Some e → id < next_id []
    by true q h = omega (arith, eqb-true id 0 q, next_above [])
    by false q h = absurd (none_some e h)
introduced_below (m ∷ before) id e h = below_at before m id e (introduces before m id) (λ q. introduced_below before id e q) refl h

-- ---- no id is introduced twice

first_none : (id : ℕ) → connection_id ≤ id → at_first id ≡ None
first_none id le = let other : eqb id 0 ≡ false = grind (arith, nat_tests) in rw other refl

none_yet : (before : List Raw) (id : ℕ) (o : Option Entry) → next_id before ≤ id → introduced before id ≡ o → introduced before id ≡ None
none_yet before id None le h = h
none_yet before id (Some e) le h = absurd (omega (arith, introduced_below before id e h))

new_by : (before : List Raw) (m : Raw) (id : ℕ) (e : Entry) (b : Bool) → is_the_finish before m ≡ b → introduces before m id ≡ Some e → introduced before id ≡ None
new_by before m id e true f h =
    let r = handed_ids before id e (by_finish before m id e f h) in
    introduced_first before id (at_finish before m f).1 ∙ first_none id r.0
new_by before m id e false f h =
    let r = given_range before m (made before m) id e refl (sym (given_by before m id f) ∙ h) in
    none_yet before id (introduced before id) r.0 refl

pub introduced_once : (before : List Raw) (m : Raw) (id : ℕ) (e : Entry) → introduces before m id ≡ Some e → introduced before id ≡ None
introduced_once before m id e h = new_by before m id e (is_the_finish before m) refl h

-- ---- nothing is removed before it was introduced, nor with it

release_none : (o : Option Entry) (m : Raw) → o ≡ None → is_release o m ≡ false
unfolding is_release
release_none o m n = rw (n, is_release) refl

of_none : (device : ℕ) (o : Option Entry) → o ≡ None → is_of device o ≡ false
unfolding is_of
of_none device o n = rw (n, is_of) refl

unintroduced_at : (before : List Raw) (m : Raw) (id : ℕ) (b : Bool) → is_the_finish before m ≡ b → introduced before id ≡ None → removes before m id ≡ false
unfolding removes
unintroduced_at before m id true f n = rw (f, removes) (by (eqb id 0) refl)
  where
    by : (b : Bool) → eqb id 0 ≡ b → b ≡ false
    by true q = absurd (none_some _ (sym n ∙ ap (introduced before) (eqb-true id 0 q) ∙ handshake_was before))
    by false q = refl
unintroduced_at before m id false f n = rw (f, removes, of_none m.id (introduced before id) n) (by (eqb m.id id) refl)
  where
    by : (b : Bool) → eqb m.id id ≡ b → (is_release (introduced before m.id) m && (b || (was_device (introduced before m.id) && false))) ≡ false
    by true q = rw (release_none (introduced before m.id) m (ap (introduced before) (eqb-true m.id id q) ∙ n)) refl
    by false q = rw (and_false (was_device (introduced before m.id)), and_false (is_release (introduced before m.id) m)) refl

pub unintroduced : (before : List Raw) (m : Raw) (id : ℕ) → introduced before id ≡ None → removes before m id ≡ false
unintroduced before m id n = unintroduced_at before m id (is_the_finish before m) refl n

-- what is removed was introduced
pub removed_was : (before : List Raw) (m : Raw) (id : ℕ) → removes before m id ≡ true → is_some (introduced before id) ≡ true
removed_was before m id r = by (introduced before id) refl
  where
    by : (o : Option Entry) → introduced before id ≡ o → is_some o ≡ true
    by (Some e) q = refl
    by None q = absurd (let no : true ≡ false = sym r ∙ unintroduced before m id q in cc)

never_at : (before : List Raw) (m : Raw) (id : ℕ) (i : Option Entry) → (introduced before id ≡ None → is_removed before id ≡ false) → introduces before m id ≡ i → introduced (m ∷ before) id ≡ None → is_removed (m ∷ before) id ≡ false
never_at before m id (Some x) next q n = absurd (none_some x (sym n ∙ introduced_now before m id x q))
never_at before m id None next q n =
    let old : introduced before id ≡ None = sym (introduced_before before m id q) ∙ n in
    occurs_or (λ b x. removes b x id) before m ∙ rw (unintroduced before m id old, next old) refl

never_removed : (before : List Raw) (id : ℕ) → introduced before id ≡ None → is_removed before id ≡ false
unfolding occurs
never_removed [] id n = refl
never_removed (m ∷ before) id n = never_at before m id (introduces before m id) (never_removed before id) refl n

-- ---- what is there

there_at : (before : List Raw) (m : Raw) (id : ℕ) (i : Option Entry) (r : Bool) → object before id ≡ cond (is_removed before id) None (introduced before id) → introduces before m id ≡ i → removes before m id ≡ r →
    object (m ∷ before) id ≡ cond (is_removed (m ∷ before) id) None (introduced (m ∷ before) id)
there_at before m id (Some e) r next q s =
    let new = introduced_once before m id e q in
    let removed : is_removed (m ∷ before) id ≡ false = occurs_or (λ b x. removes b x id) before m ∙ rw (unintroduced before m id new, never_removed before id new) refl in
    object_more before m id ∙ rw (q, removed, introduced_now before m id e q) refl
there_at before m id None true next q s =
    let removed : is_removed (m ∷ before) id ≡ true = occurs_or (λ b x. removes b x id) before m ∙ rw s refl in
    object_more before m id ∙ rw (q, s, removed) refl
there_at before m id None false next q s =
    let removed : is_removed (m ∷ before) id ≡ is_removed before id = occurs_or (λ b x. removes b x id) before m ∙ rw s refl in
    object_more before m id ∙ rw (q, s, removed, introduced_before before m id q) next

pub object_introduced : (before : List Raw) (id : ℕ) → object before id ≡ cond (is_removed before id) None (introduced before id)
unfolding object introduced last_said occurs
object_introduced [] id = refl
object_introduced (m ∷ before) id = there_at before m id (introduces before m id) (removes before m id) (object_introduced before id) refl refl
