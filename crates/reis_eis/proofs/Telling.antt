-- Why a call on a device is refused for its client or for an interface, and what it tells by the device's key and by its id.
use Rattle.std.proofs.Common.{◌≡◌, ℕ, Bool, true, false, List, Option, Some, None, refl, sym, ap, subst, ◌∙◌}
use Rattle.std.specs.Prelude.{find}
use Rattle.ei_spec.specs.declared.interface.KnownInterface.{KnownInterface}
use Rattle.ei_spec.specs.Interface.{ObjectView}
use Rattle.ei_spec.specs.Message.{Raw}
use Rattle.ei_request.specs.Keys.{DeviceKey}
use Rattle.ei_request.specs.Held.{DeviceView, is_device, is_of_key}
use Rattle.ei_request.specs.Connection.{ConnectionView}
use Rattle.ei_request.specs.Reading.{interface_in}
use Rattle.ei_request.specs.Sending.{tells}
use Rattle.reis_eis.specs.declared.call_error.CallError.TheVariants as call_error
use Rattle.reis_eis.specs.Keys.{HasKeys}
use Rattle.reis_eis.specs.Refusals.{receives, on_device, on_receiver, object_at, on_interface}
use Rattle.reis_eis.specs.Acting.{TellsOf}
use Rattle.reis_eis.proofs.HeldKeys.{IsOf, key_found}

-- ---- who receives

-- whether the client of a connection receives, as it was asked
pub role : (h lent : ConnectionView) (r b : Bool) → lent ≡ h → r ≡ receives lent.context_type → r ≡ b → receives h.context_type ≡ b
role h lent r b same asked is = ap (λ (x : ConnectionView). receives x.context_type) (sym same) ∙ sym asked ∙ is

-- a client that doesn't is refused
pub sends_only : (h lent : ConnectionView) (id : ℕ) (r : Bool) → lent ≡ h → r ≡ receives lent.context_type → r ≡ false → on_receiver id h ≡ Some call_error.WrongRole
sends_only h lent id r same asked is = rw (role h lent r false same asked is) refl

-- at one that does the device decides
pub by_device : (h lent : ConnectionView) (id : ℕ) (r : Bool) → lent ≡ h → r ≡ receives lent.context_type → r ≡ true → on_receiver id h ≡ on_device id h
by_device h lent id r same asked is = rw (role h lent r true same asked is) refl

-- ---- events

-- an event by the key is the event by the id
pub told_by_id : (h lent new : ConnectionView) (id : ℕ) (k : DeviceKey) (event : ℕ → ℕ → Raw) → lent ≡ h → k.proxy.id ≡ id → new ≡ tells lent (event k.proxy.id) → new ≡ tells h (event id)
told_by_id h lent new id k event same is told = told ∙ ap (λ (n : ℕ). tells lent (event n)) is ∙ ap (λ (x : ConnectionView). tells x (event id)) same

-- an event of an object that is there
pub told_of : (o : Option ObjectView) (object : ObjectView) → o ≡ Some object → (event : ℕ → ℕ → Raw) (h lent new : ConnectionView) → lent ≡ h → new ≡ tells lent (event object.id) → TellsOf o event h new
told_of o object is event h lent new same told =
    subst (λ (x : Option ObjectView). TellsOf x event h new) (sym is) (told ∙ ap (λ (x : ConnectionView). tells x (event object.id)) same)

-- ---- interfaces

module _ (interface : KnownInterface) (id : ℕ) (h : ConnectionView) where
  pub of_no_device : on_device id h ≡ Some call_error.Gone → on_interface interface id h ≡ Some call_error.Gone
  of_no_device e = rw e refl

  pub lacks_it : on_device id h ≡ None → object_at interface id h ≡ None → on_interface interface id h ≡ Some call_error.Capabilities
  lacks_it on none = rw (on, none) refl

  pub has_it : on_device id h ≡ None → (o : ObjectView) → object_at interface id h ≡ Some o → on_interface interface id h ≡ None
  has_it on o some = rw (on, some) refl

-- an object by the device's key is the one by its id
module _ (h : ConnectionView) (seats : List ObjectView) (devices : List DeviceKey) (keys : HasKeys h seats devices) (id : ℕ) (k : DeviceKey)
    (there : IsOf (λ (d : DeviceView). d.device) (find (is_device id) h.devices) k) where
  pub object_by_id : (lent : ConnectionView) → lent ≡ h → (interface : KnownInterface) → interface_in interface (find (is_of_key k) lent.devices) ≡ object_at interface id h
  object_by_id lent same interface =
      ap (λ (x : ConnectionView). interface_in interface (find (is_of_key k) x.devices)) same
      ∙ ap (λ (o : Option DeviceView). interface_in interface o) (key_found h seats devices keys id k there ∙ sym there.found)
