use Rattle.std.proofs.Common.{◌≡◌, List, Some, true, refl, sym, ap, subst, ◌∙◌}
use Rattle.std.specs.Prelude.{find}
use Rattle.std.specs.Option.{option_copied}
use Rattle.std.proofs.lemmas.Result.{err_from_is_err_and}
use Rattle.ei_request.specs.Keys.{DeviceKey}
use Rattle.ei_request.specs.Connection.{ConnectionView, holds_device}
use Rattle.ei_request.specs.Sending.{stop_emulating_event}
use Rattle.reis_eis.specs.Keys.{names_device}
use Rattle.reis_eis.proofs.Announcing.{wants_now}
use Rattle.reis_eis.proofs.HeldKeys.{no_device, device_there, on_it, id_is, key_held}
use Rattle.reis_eis.proofs.Telling.{sends_only, by_device, told_by_id}
use Rattle.reis_eis.proofs.keyed.KeyedConverter.stop_emulating.Goals as goal

pub returns-then-not-is_receiver-clause-why : goal.returns-then-not-is_receiver-clause-why
returns-then-not-is_receiver-clause-why c =
    rw (← c.self.view_is) (sends_only c.self.inside.converter.handle c.handle.result.now c.args.id c.is_receiver.result c.handle.ensures c.is_receiver.ensures c.if-not-is_receiver.true)

pub returns-in_default-clause-why : goal.returns-in_default-clause-why
returns-in_default-clause-why c =
    let h = c.self.inside.converter.handle in
    rw (← c.self.view_is) (by_device h c.handle.result.now c.args.id c.is_receiver.result c.handle.ensures c.is_receiver.ensures c.if-not-is_receiver.false
    ∙ no_device h c.self.inside.seats.items c.self.inside.devices.items c.self.invariant c.args.id
    (ap (λ (ds : List DeviceKey). find (names_device c.args.id) ds) (sym c.deref.ensures.value) ∙ sym c.find_device.ensures ∙ ap option_copied c.in_default.is))

pub stop_emulating-requires : goal.stop_emulating-requires
stop_emulating-requires c =
    let found : find (names_device c.args.id) c.self.inside.devices.items ≡ Some c.in-Some.device.now =
    ap (λ (ds : List DeviceKey). find (names_device c.args.id) ds) (sym c.deref.ensures.value) ∙ sym c.find_device.ensures ∙ ap option_copied c.in-Some.is in
    let there = device_there c.self.inside.converter.handle c.self.inside.seats.items c.self.inside.devices.items c.self.invariant c.args.id c.in-Some.device.now found in
    record {
      held = subst (λ (h : ConnectionView). holds_device h c.in-Some.device.now ≡ true) (sym c.handle_mut.ensures.value)
          (key_held c.self.inside.converter.handle c.self.inside.seats.items c.self.inside.devices.items c.self.invariant c.args.id c.in-Some.device.now there);
    }

pub returns-clause-ok : goal.returns-clause-ok
returns-clause-ok c =
    let found : find (names_device c.args.id) c.self.inside.devices.items ≡ Some c.in-Some.device.now =
    ap (λ (ds : List DeviceKey). find (names_device c.args.id) ds) (sym c.deref.ensures.value) ∙ sym c.find_device.ensures ∙ ap option_copied c.in-Some.is in
    let h = c.self.inside.converter.handle in
    let there = device_there h c.self.inside.seats.items c.self.inside.devices.items c.self.invariant c.args.id c.in-Some.device.now found in
    let is = id_is h c.self.inside.seats.items c.self.inside.devices.items c.self.invariant c.args.id c.in-Some.device.now there in
    rw (← c.self.view_is) (record {
      done = told_by_id h c.handle_mut.result.now c.stop_emulating.new.conn c.args.id c.in-Some.device.now stop_emulating_event c.handle_mut.ensures.value is c.in_ok-stop_emulating.ensures.sends.ok;
      queue = refl;
    })

pub returns-clause-accepted : goal.returns-clause-accepted
returns-clause-accepted c =
    let found : find (names_device c.args.id) c.self.inside.devices.items ≡ Some c.in-Some.device.now =
    ap (λ (ds : List DeviceKey). find (names_device c.args.id) ds) (sym c.deref.ensures.value) ∙ sym c.find_device.ensures ∙ ap option_copied c.in-Some.is in
    let h = c.self.inside.converter.handle in
    let there = device_there h c.self.inside.seats.items c.self.inside.devices.items c.self.invariant c.args.id c.in-Some.device.now found in
    rw (← c.self.view_is) (by_device h c.handle.result.now c.args.id c.is_receiver.result c.handle.ensures c.is_receiver.ensures c.if-not-is_receiver.false
    ∙ on_it h c.self.inside.seats.items c.self.inside.devices.items c.self.invariant c.args.id c.in-Some.device.now there)

pub returns-in_err-stop_emulating-clause-why : goal.returns-in_err-stop_emulating-clause-why
returns-in_err-stop_emulating-clause-why c =
    let found : find (names_device c.args.id) c.self.inside.devices.items ≡ Some c.in-Some.device.now =
    ap (λ (ds : List DeviceKey). find (names_device c.args.id) ds) (sym c.deref.ensures.value) ∙ sym c.find_device.ensures ∙ ap option_copied c.in-Some.is in
    let h = c.self.inside.converter.handle in
    let there = device_there h c.self.inside.seats.items c.self.inside.devices.items c.self.invariant c.args.id c.in-Some.device.now found in
    let p = err_from_is_err_and c.from_residual.result c.from_residual.ensures.1 in
    rw (← c.self.view_is, p.1, p.2) (wants_now _ _ c.in_err-stop_emulating.ensures.sends.only (by_device h c.handle.result.now c.args.id c.is_receiver.result c.handle.ensures c.is_receiver.ensures c.if-not-is_receiver.false
    ∙ on_it h c.self.inside.seats.items c.self.inside.devices.items c.self.invariant c.args.id c.in-Some.device.now there))
