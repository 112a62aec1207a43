use Rattle.std.proofs.Common.{◌≡◌, List, Some, refl, sym, ap, subst, ◌∙◌}
use Rattle.std.specs.Prelude.{find}
use Rattle.std.specs.Option.{option_copied}
use Rattle.ei_request.specs.Keys.{DeviceKey}
use Rattle.ei_request.specs.Connection.{ConnectionView}
use Rattle.ei_request.specs.Removing.{RemovesDevice}
use Rattle.reis_eis.specs.Keys.{HasKeys, names_device}
use Rattle.std.proofs.lemmas.Result.{err_from_is_err_and}
use Rattle.reis_eis.proofs.Announcing.{wants_now}
use Rattle.reis_eis.proofs.HeldKeys.{no_device, device_there, on_it, removes_device, keys_without}
use Rattle.reis_eis.proofs.keyed.KeyedConverter.remove_device.Goals as goal

pub returns-in_default-clause-why : goal.returns-in_default-clause-why
returns-in_default-clause-why c =
    rw (← c.self.view_is) (no_device c.self.inside.converter.handle c.self.inside.seats.items c.self.inside.devices.items c.self.invariant c.args.id
    (ap (λ (ds : List DeviceKey). find (names_device c.args.id) ds) (sym c.deref.ensures.value) ∙ sym c.find_device.ensures ∙ ap option_copied c.in_default.is))

pub returns-clause-ok : goal.returns-clause-ok
returns-clause-ok c =
    let found : find (names_device c.args.id) c.self.inside.devices.items ≡ Some c.in-Some.device.now =
    ap (λ (ds : List DeviceKey). find (names_device c.args.id) ds) (sym c.deref.ensures.value) ∙ sym c.find_device.ensures ∙ ap option_copied c.in-Some.is in
    let there = device_there c.self.inside.converter.handle c.self.inside.seats.items c.self.inside.devices.items c.self.invariant c.args.id c.in-Some.device.now found in
    let removed = subst (λ (h : ConnectionView). RemovesDevice h c.in-Some.device.now c.remove.new.conn) c.handle_mut.ensures.value c.in_ok-remove.ensures.ok in
    rw (← c.self.view_is) (record {
      done = removes_device c.self.inside.converter.handle c.self.inside.seats.items c.self.inside.devices.items c.self.invariant c.args.id c.in-Some.device.now there c.remove.new.conn removed;
      queue = refl;
    })

pub returns-clause-accepted : goal.returns-clause-accepted
returns-clause-accepted c =
    let found : find (names_device c.args.id) c.self.inside.devices.items ≡ Some c.in-Some.device.now =
    ap (λ (ds : List DeviceKey). find (names_device c.args.id) ds) (sym c.deref.ensures.value) ∙ sym c.find_device.ensures ∙ ap option_copied c.in-Some.is in
    let there = device_there c.self.inside.converter.handle c.self.inside.seats.items c.self.inside.devices.items c.self.invariant c.args.id c.in-Some.device.now found in
    rw (← c.self.view_is) (on_it c.self.inside.converter.handle c.self.inside.seats.items c.self.inside.devices.items c.self.invariant c.args.id c.in-Some.device.now there)

pub invariant_of-self-2 : goal.invariant_of-self-2
invariant_of-self-2 c =
    let found : find (names_device c.args.id) c.self.inside.devices.items ≡ Some c.in-Some.device.now =
    ap (λ (ds : List DeviceKey). find (names_device c.args.id) ds) (sym c.deref.ensures.value) ∙ sym c.find_device.ensures ∙ ap option_copied c.in-Some.is in
    let there = device_there c.self.inside.converter.handle c.self.inside.seats.items c.self.inside.devices.items c.self.invariant c.args.id c.in-Some.device.now found in
    let removed = subst (λ (h : ConnectionView). RemovesDevice h c.in-Some.device.now c.remove.new.conn) c.handle_mut.ensures.value c.in_ok-remove.ensures.ok in
    subst (λ (ds : List DeviceKey). HasKeys c.remove.new.conn c.self.inside.seats.items ds) (sym c.take_out_device.ensures)
    (keys_without c.self.inside.converter.handle c.self.inside.seats.items c.self.inside.devices.items c.self.invariant c.args.id c.in-Some.device.now there c.remove.new.conn removed)

pub returns-in_err-remove-clause-why : goal.returns-in_err-remove-clause-why
returns-in_err-remove-clause-why c =
    let found : find (names_device c.args.id) c.self.inside.devices.items ≡ Some c.in-Some.device.now =
    ap (λ (ds : List DeviceKey). find (names_device c.args.id) ds) (sym c.deref.ensures.value) ∙ sym c.find_device.ensures ∙ ap option_copied c.in-Some.is in
    let there = device_there c.self.inside.converter.handle c.self.inside.seats.items c.self.inside.devices.items c.self.invariant c.args.id c.in-Some.device.now found in
    let p = err_from_is_err_and c.from_residual.result c.from_residual.ensures.1 in
    rw (← c.self.view_is, p.1, p.2) (wants_now _ _ c.in_err-remove.ensures.only (on_it c.self.inside.converter.handle c.self.inside.seats.items c.self.inside.devices.items c.self.invariant c.args.id c.in-Some.device.now there))
