-- The objects that come with a new device, by their ids.
use Rattle.std.proofs.Common.{◌≡◌, ℕ, ◌+◌, ◌-◌, ◌<◌, true, false, eqb, ltb, List, ◌∷◌, Option, Some, None, refl, ◌∙◌, arith, eq-eqb}
use Rattle.std.specs.Prelude.{slice_get}
use Rattle.std.specs.Option.{option_or}
use Rattle.std.proofs.lemmas.Bool.Decides.{nat_tests}
use Rattle.ei_spec.specs.declared.interface.KnownInterface.{KnownInterface}
use Rattle.ei_spec.specs.declared.interface.KnownInterface.TheVariants as known
use Rattle.ei_spec.specs.Message.{Raw}
use Rattle.ei_session.specs.Handshake.{version}
use Rattle.ei_session.specs.Devices.{made, interfaces_of, next_id}
use Rattle.ei_session.specs.Objects.{Entry, new_device, object}
use Rattle.ei_session.proofs.ObjectLaws.{object_new}
use Rattle.ei_session.proofs.ObjectShape.{given_range}

module _ (before : List Raw) (m : Raw) (mask : ℕ) (h : made before m ≡ Some mask) where
  pub new_device_is : object (m ∷ before) (next_id before) ≡ Some (record { interface = known.Device; version = version before known.Device; device = Some (next_id before) })
  unfolding new_device
  new_device_is = let here : eqb (next_id before) (next_id before) ≡ true = eq-eqb (next_id before) (next_id before) refl in rw (object_new before m mask (next_id before) h, new_device, here) refl

  pub new_interface_is : (k : ℕ) (i : KnownInterface) → slice_get (interfaces_of mask) k ≡ Some i → object (m ∷ before) (next_id before + 1 + k) ≡ Some (record { interface = i; version = version before i; device = Some (next_id before) })
  unfolding new_device
  new_interface_is k i e =
      let other : eqb (next_id before + 1 + k) (next_id before) ≡ false = grind (arith, nat_tests) in
      let above : ltb (next_id before) (next_id before + 1 + k) ≡ true = grind (arith, nat_tests) in
      let place : next_id before + 1 + k - next_id before - 1 ≡ k = omega arith in
      rw (object_new before m mask (next_id before + 1 + k) h, new_device, other, above, place, e) refl

  older : (id : ℕ) (o : Option Entry) → new_device before (next_id before) (interfaces_of mask) id ≡ o → id < next_id before → option_or o (object before id) ≡ object before id
  older id None e lt = refl
  older id (Some x) e lt = let r = given_range before m (Some mask) id x h e in absurd (omega (arith, r.0))

  -- the ids that were given before are as they were
  pub older_same : (id : ℕ) → id < next_id before → object (m ∷ before) id ≡ object before id
  older_same id lt = object_new before m mask id h ∙ older id (new_device before (next_id before) (interfaces_of mask) id) refl lt
