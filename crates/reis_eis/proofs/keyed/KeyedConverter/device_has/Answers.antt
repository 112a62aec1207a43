use Rattle.std.proofs.Common.{◌≡◌, List, Option, Some, refl, sym, ap, ◌∙◌}
use Rattle.std.specs.Prelude.{find, is_some}
use Rattle.std.specs.Option.{option_copied}
use Rattle.ei_types.specs.Capability.{interface_of}
use Rattle.ei_request.specs.Keys.{DeviceKey}
use Rattle.ei_request.specs.Held.{DeviceView, is_of_key}
use Rattle.ei_request.specs.Connection.{ConnectionView}
use Rattle.ei_request.specs.Reading.{interface_in}
use Rattle.reis_eis.specs.Keys.{names_device}
use Rattle.reis_eis.proofs.HeldKeys.{no_device_found, device_there, key_found}
use Rattle.reis_eis.proofs.keyed.KeyedConverter.device_has.Goals as goal

pub returns-in_default : goal.returns-in_default
returns-in_default c =
    rw (
      ← c.self.view_is,
      no_device_found c.self.inside.converter.handle c.self.inside.seats.items c.self.inside.devices.items c.self.invariant c.args.id
          (ap (λ (ds : List DeviceKey). find (names_device c.args.id) ds) (sym c.deref.ensures.value) ∙ sym c.find_device.ensures ∙ ap option_copied c.in_default.is),
    ) refl

pub returns : goal.returns
returns c =
    let found : find (names_device c.args.id) c.self.inside.devices.items ≡ Some c.in-Some.device.now =
    ap (λ (ds : List DeviceKey). find (names_device c.args.id) ds) (sym c.deref.ensures.value) ∙ sym c.find_device.ensures ∙ ap option_copied c.in-Some.is in
    let there = device_there c.self.inside.converter.handle c.self.inside.seats.items c.self.inside.devices.items c.self.invariant c.args.id c.in-Some.device.now found in
    let at = key_found c.self.inside.converter.handle c.self.inside.seats.items c.self.inside.devices.items c.self.invariant c.args.id c.in-Some.device.now there in
    rw (← c.self.view_is, there.found) (ap Some (c.has_capability.ensures
    ∙ ap (λ (h : ConnectionView). is_some (interface_in (interface_of c.args.capability) (find (is_of_key c.in-Some.device.now) h.devices))) c.handle.ensures
    ∙ ap (λ (o : Option DeviceView). is_some (interface_in (interface_of c.args.capability) o)) at))
