use Rattle.std.proofs.Common.{◌≡◌, List, Option, Some, None, refl, sym, ap, ◌∙◌}
use Rattle.std.specs.Prelude.{find}
use Rattle.std.specs.Option.{option_copied, option_map}
use Rattle.std.proofs.lemmas.Result.{err_from_is_err_and}
use Rattle.ei_spec.specs.declared.interface.KnownInterface.TheVariants as known
use Rattle.ei_spec.specs.Interface.{ObjectView}
use Rattle.ei_request.specs.Keys.{DeviceKey}
use Rattle.reis_eis.specs.Acting.{modifiers_event}
use Rattle.reis_eis.specs.Keys.{names_device}
use Rattle.reis_eis.specs.Refusals.{object_at}
use Rattle.reis_eis.proofs.Announcing.{wants_now}
use Rattle.reis_eis.proofs.HeldKeys.{no_device, device_there, on_it}
use Rattle.reis_eis.proofs.Telling.{of_no_device, lacks_it, has_it, object_by_id, told_of}
use Rattle.reis_eis.proofs.keyed.KeyedConverter.modifiers.Goals as goal

pub returns-in_default-clause-why : goal.returns-in_default-clause-why
returns-in_default-clause-why c =
    let h = c.self.inside.converter.handle in
    rw (← c.self.view_is) (of_no_device known.Keyboard c.args.id h (no_device h c.self.inside.seats.items c.self.inside.devices.items c.self.invariant c.args.id
    (ap (λ (ds : List DeviceKey). find (names_device c.args.id) ds) (sym c.deref.ensures.value) ∙ sym c.find_device.ensures ∙ ap option_copied c.in_default.is)))

pub returns-in_default-interface-clause-why : goal.returns-in_default-interface-clause-why
returns-in_default-interface-clause-why c =
    let found : find (names_device c.args.id) c.self.inside.devices.items ≡ Some c.in-Some.device.now =
    ap (λ (ds : List DeviceKey). find (names_device c.args.id) ds) (sym c.deref.ensures.value) ∙ sym c.find_device.ensures ∙ ap option_copied c.in-Some.is in
    let h = c.self.inside.converter.handle in
    let there = device_there h c.self.inside.seats.items c.self.inside.devices.items c.self.invariant c.args.id c.in-Some.device.now found in
    let object : object_at known.Keyboard c.args.id h ≡ None =
    sym (object_by_id h c.self.inside.seats.items c.self.inside.devices.items c.self.invariant c.args.id c.in-Some.device.now there c.handle.result.now c.handle.ensures known.Keyboard)
    ∙ sym c.interface.ensures ∙ ap (λ (o : Option ObjectView). option_map (λ p. p) o) c.in_default-interface.is in
    rw (← c.self.view_is) (lacks_it known.Keyboard c.args.id h (on_it h c.self.inside.seats.items c.self.inside.devices.items c.self.invariant c.args.id c.in-Some.device.now there) object)

pub returns-clause-ok : goal.returns-clause-ok
returns-clause-ok c =
    let found : find (names_device c.args.id) c.self.inside.devices.items ≡ Some c.in-Some.device.now =
    ap (λ (ds : List DeviceKey). find (names_device c.args.id) ds) (sym c.deref.ensures.value) ∙ sym c.find_device.ensures ∙ ap option_copied c.in-Some.is in
    let h = c.self.inside.converter.handle in
    let there = device_there h c.self.inside.seats.items c.self.inside.devices.items c.self.invariant c.args.id c.in-Some.device.now found in
    let object : object_at known.Keyboard c.args.id h ≡ Some c.in-Some-interface.keyboard =
    sym (object_by_id h c.self.inside.seats.items c.self.inside.devices.items c.self.invariant c.args.id c.in-Some.device.now there c.handle.result.now c.handle.ensures known.Keyboard)
    ∙ sym c.interface.ensures ∙ ap (λ (o : Option ObjectView). option_map (λ p. p) o) c.in-Some-interface.is in
    rw (← c.self.view_is) (record {
      done = told_of (object_at known.Keyboard c.args.id h) c.in-Some-interface.keyboard object
          (modifiers_event c.args.depressed c.args.locked c.args.latched c.args.group) h c.handle_mut-handle.result.now c.tell_modifiers.new.handle c.handle_mut-handle.ensures.value c.in_ok-tell_modifiers.ensures.ok;
      queue = refl;
    })

pub returns-clause-accepted : goal.returns-clause-accepted
returns-clause-accepted c =
    let found : find (names_device c.args.id) c.self.inside.devices.items ≡ Some c.in-Some.device.now =
    ap (λ (ds : List DeviceKey). find (names_device c.args.id) ds) (sym c.deref.ensures.value) ∙ sym c.find_device.ensures ∙ ap option_copied c.in-Some.is in
    let h = c.self.inside.converter.handle in
    let there = device_there h c.self.inside.seats.items c.self.inside.devices.items c.self.invariant c.args.id c.in-Some.device.now found in
    let object : object_at known.Keyboard c.args.id h ≡ Some c.in-Some-interface.keyboard =
    sym (object_by_id h c.self.inside.seats.items c.self.inside.devices.items c.self.invariant c.args.id c.in-Some.device.now there c.handle.result.now c.handle.ensures known.Keyboard)
    ∙ sym c.interface.ensures ∙ ap (λ (o : Option ObjectView). option_map (λ p. p) o) c.in-Some-interface.is in
    rw (← c.self.view_is) (has_it known.Keyboard c.args.id h (on_it h c.self.inside.seats.items c.self.inside.devices.items c.self.invariant c.args.id c.in-Some.device.now there) c.in-Some-interface.keyboard object)

pub returns-in_err-tell_modifiers-clause-why : goal.returns-in_err-tell_modifiers-clause-why
returns-in_err-tell_modifiers-clause-why c =
    let found : find (names_device c.args.id) c.self.inside.devices.items ≡ Some c.in-Some.device.now =
    ap (λ (ds : List DeviceKey). find (names_device c.args.id) ds) (sym c.deref.ensures.value) ∙ sym c.find_device.ensures ∙ ap option_copied c.in-Some.is in
    let h = c.self.inside.converter.handle in
    let there = device_there h c.self.inside.seats.items c.self.inside.devices.items c.self.invariant c.args.id c.in-Some.device.now found in
    let object : object_at known.Keyboard c.args.id h ≡ Some c.in-Some-interface.keyboard =
    sym (object_by_id h c.self.inside.seats.items c.self.inside.devices.items c.self.invariant c.args.id c.in-Some.device.now there c.handle.result.now c.handle.ensures known.Keyboard)
    ∙ sym c.interface.ensures ∙ ap (λ (o : Option ObjectView). option_map (λ p. p) o) c.in-Some-interface.is in
    let p = err_from_is_err_and c.from_residual.result c.from_residual.ensures.1 in
    rw (← c.self.view_is, p.1, p.2) (wants_now _ _ c.in_err-tell_modifiers.ensures.only
    (has_it known.Keyboard c.args.id h (on_it h c.self.inside.seats.items c.self.inside.devices.items c.self.invariant c.args.id c.in-Some.device.now there) c.in-Some-interface.keyboard object))
