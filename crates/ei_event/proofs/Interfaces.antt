-- A device's interface, as it is found.
use Rattle.std.proofs.Common.{◌≡◌, ℕ, Bool, true, false, ◌&&◌, eqb, Option, Some, None, refl, sym, ap, ◌∙◌, subst, arith, Bor}
use Rattle.std.specs.Prelude.{is_some, ◌↔◌, IsTrue}
use Rattle.std.specs.Option.{option_map, option_copied}
use Rattle.std.specs.FinMap.{get}
use Rattle.std.proofs.lemmas.Bool.{eqb-true}
use Rattle.std.proofs.lemmas.Bool.Decides.{nat_tests}
use Rattle.ei_spec.specs.declared.interface.KnownInterface.{KnownInterface}
use Rattle.ei_spec.specs.Interface.{ObjectView, Known}
use Rattle.ei_backend.specs.Object.{same_name, same_name_equiv}
use Rattle.ei_backend.proofs.Equal.{one_interface}
use Rattle.ei_by_id.specs.ById.{passes, Finds}
use Rattle.ei_event.specs.Keys.{DeviceKey}
use Rattle.ei_event.specs.Kept.{InterfaceView, KeptView, is_interface_of}
use Rattle.ei_event.specs.Items.{device_in, HasInterface, IsInterfaceOf}

both : (a b : Bool) → (a && b) ≡ true → (a ≡ true) × (b ≡ true)
both true true e = (refl, refl)
both true false e = absurd cc
both false b e = absurd cc

same_id : (n : ℕ) → eqb n n ≡ true
same_id n = grind (arith, nat_tests)

-- what a device has passes the test
passes_of : (c : KeptView) (key : DeviceKey) (interface : KnownInterface) (object : ObjectView) (h : HasInterface c key interface object) →
    passes (is_interface_of key.proxy.id interface) (get c.interfaces h.id) ≡ true
passes_of c key interface object h =
    ap (passes (is_interface_of key.proxy.id interface)) h.kept
    ∙ ap (λ (b : Bool). b && same_name object.interface (Known interface)) (same_id key.proxy.id)
    ∙ ap (λ (i : _). same_name i (Known interface)) h.is
    ∙ same_name_equiv.refl (Known interface)

pub interface_found : (c : KeptView) (key : DeviceKey) (interface : KnownInterface) → is_some (device_in c key) ≡ true → (o : Option InterfaceView) →
    Finds (is_interface_of key.proxy.id interface) c.interfaces o → IsInterfaceOf c key interface (option_map (λ i. i.object) o)
interface_found c key interface added None none = λ object h. (let t = passes_of c key interface object h in let f = none h.id in cc)
interface_found c key interface added (Some i) found =
    let halves = both (eqb key.proxy.id i.device) (same_name i.object.interface (Known interface)) found.2 in
    record {
      added = added;
      id = found.0;
      kept = found.1 ∙ ap (λ (n : ℕ). Some (record { device = n; object = i.object })) (sym (eqb-true key.proxy.id i.device halves.0));
      is = one_interface i.object.interface (Known interface) halves.1;
    }

pub interface_missing : (c : KeptView) (key : DeviceKey) (interface : KnownInterface) → device_in c key ≡ None → IsInterfaceOf c key interface None
interface_missing c key interface none = λ object h. (let t = h.added in let f = ap is_some none in cc)

-- the same of the object that was found
pub interface_is : (c : KeptView) (key : DeviceKey) (interface : KnownInterface) (o : Option InterfaceView) (object : ObjectView) →
    option_map (λ i. i.object) o ≡ Some object → IsInterfaceOf c key interface (option_map (λ i. i.object) o) → HasInterface c key interface object
interface_is c key interface o object is found = subst (IsInterfaceOf c key interface) is found

-- something is found exactly where the device has the interface
pub interface_there : (c : KeptView) (key : DeviceKey) (interface : KnownInterface) (o : Option (Bor ObjectView)) → IsInterfaceOf c key interface (option_copied o) →
    IsTrue (is_some o) ↔ ((object : ObjectView) × HasInterface c key interface object)
interface_there c key interface None none = (λ t. (let f : false ≡ true = t in cc), λ h. absurd (none h.0 h.1))
interface_there c key interface (Some object) has = (λ t. (object.now, has), λ h. refl)
