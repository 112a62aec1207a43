use Rattle.std.proofs.Common.{◌≡◌, true, false, List, Some, refl, sym, ap, ◌∙◌}
use Rattle.std.specs.Prelude.{find, is_some}
use Rattle.std.specs.Option.{option_copied}
use Rattle.std.proofs.lemmas.Result.{err_from_is_err_and}
use Rattle.ei_request.specs.Keys.{DeviceKey}
use Rattle.ei_request.specs.Held.{is_of_key}
use Rattle.ei_request.specs.Reading.{interface_in}
use Rattle.reis_eis.specs.declared.call_error.CallError.TheVariants as call_error
use Rattle.reis_eis.specs.Inputs.{told_by}
use Rattle.reis_eis.specs.Keys.{names_device}
use Rattle.reis_eis.specs.Refusals.{object_at}
use Rattle.reis_eis.proofs.HeldKeys.{no_device, device_there, on_it}
use Rattle.reis_eis.proofs.Telling.{of_no_device}
use Rattle.reis_eis.proofs.TellingInputs.{to_sender, stopped, goes_on, tells_as, isnt_there, is_there, asked_for, held_there, sent_by_id, keys_told}
use Rattle.reis_eis.proofs.keyed.KeyedConverter.send.Goals as goal

pub returns-then-not-is_receiver-clause-why : goal.returns-then-not-is_receiver-clause-why
returns-then-not-is_receiver-clause-why c =
    let h = c.self.inside.converter.handle in
    rw (← c.self.view_is) (to_sender h c.handle.result.now c.args.id c.args.input.now c.is_receiver.result c.handle.ensures c.is_receiver.ensures c.if-not-is_receiver.true)

pub returns-in_default-clause-why : goal.returns-in_default-clause-why
returns-in_default-clause-why c =
    let h = c.self.inside.converter.handle in
    rw (← c.self.view_is) (stopped h c.handle.result.now c.args.id c.args.input.now c.is_receiver.result c.handle.ensures c.is_receiver.ensures c.if-not-is_receiver.false call_error.Gone
    (of_no_device (told_by c.args.input.now).interface c.args.id h (no_device h c.self.inside.seats.items c.self.inside.devices.items c.self.invariant c.args.id
    (ap (λ (ds : List DeviceKey). find (names_device c.args.id) ds) (sym c.deref.ensures.value) ∙ sym c.find_device.ensures ∙ ap option_copied c.in_default.is))))

pub returns-then-not-has_capability-clause-why : goal.returns-then-not-has_capability-clause-why
returns-then-not-has_capability-clause-why c =
    let found : find (names_device c.args.id) c.self.inside.devices.items ≡ Some c.in-Some.device.now =
    ap (λ (ds : List DeviceKey). find (names_device c.args.id) ds) (sym c.deref.ensures.value) ∙ sym c.find_device.ensures ∙ ap option_copied c.in-Some.is in
    let h = c.self.inside.converter.handle in
    let there = device_there h c.self.inside.seats.items c.self.inside.devices.items c.self.invariant c.args.id c.in-Some.device.now found in
    let on = on_it h c.self.inside.seats.items c.self.inside.devices.items c.self.invariant c.args.id c.in-Some.device.now there in
    let has : is_some (object_at (told_by c.args.input.now).interface c.args.id h) ≡ false =
    asked_for h c.self.inside.seats.items c.self.inside.devices.items c.self.invariant c.args.id c.in-Some.device.now there c.handle-2.result.now c.handle-2.ensures
    c.capability.result (told_by c.args.input.now).interface c.capability.ensures c.has_capability.result false c.has_capability.ensures c.if-not-has_capability.true in
    rw (← c.self.view_is) (stopped h c.handle.result.now c.args.id c.args.input.now c.is_receiver.result c.handle.ensures c.is_receiver.ensures c.if-not-is_receiver.false call_error.Capabilities (isnt_there (told_by c.args.input.now).interface c.args.id h on has))

pub tell-requires : goal.tell-requires
tell-requires c =
    let found : find (names_device c.args.id) c.self.inside.devices.items ≡ Some c.in-Some.device.now =
    ap (λ (ds : List DeviceKey). find (names_device c.args.id) ds) (sym c.deref.ensures.value) ∙ sym c.find_device.ensures ∙ ap option_copied c.in-Some.is in
    let h = c.self.inside.converter.handle in
    let there = device_there h c.self.inside.seats.items c.self.inside.devices.items c.self.invariant c.args.id c.in-Some.device.now found in
    let on = on_it h c.self.inside.seats.items c.self.inside.devices.items c.self.invariant c.args.id c.in-Some.device.now there in
    let has : is_some (object_at (told_by c.args.input.now).interface c.args.id h) ≡ true =
    asked_for h c.self.inside.seats.items c.self.inside.devices.items c.self.invariant c.args.id c.in-Some.device.now there c.handle-2.result.now c.handle-2.ensures
    c.capability.result (told_by c.args.input.now).interface c.capability.ensures c.has_capability.result true c.has_capability.ensures c.if-not-has_capability.false in
    held_there h c.self.inside.seats.items c.self.inside.devices.items c.self.invariant c.args.id c.in-Some.device.now there c.handle_mut.result.now c.handle_mut.ensures.value (told_by c.args.input.now).interface has

pub returns-clause-ok : goal.returns-clause-ok
returns-clause-ok c =
    let found : find (names_device c.args.id) c.self.inside.devices.items ≡ Some c.in-Some.device.now =
    ap (λ (ds : List DeviceKey). find (names_device c.args.id) ds) (sym c.deref.ensures.value) ∙ sym c.find_device.ensures ∙ ap option_copied c.in-Some.is in
    let h = c.self.inside.converter.handle in
    let there = device_there h c.self.inside.seats.items c.self.inside.devices.items c.self.invariant c.args.id c.in-Some.device.now found in
    let on = on_it h c.self.inside.seats.items c.self.inside.devices.items c.self.invariant c.args.id c.in-Some.device.now there in
    rw (← c.self.view_is) (record {
      done = sent_by_id h c.self.inside.seats.items c.self.inside.devices.items c.self.invariant c.args.id c.in-Some.device.now there c.handle_mut.result.now c.handle_mut.ensures.value
          c.args.input.now c.tell.new.handle c.in_ok-tell.ensures.ok;
      queue = refl;
    })

pub returns-clause-accepted : goal.returns-clause-accepted
returns-clause-accepted c =
    let found : find (names_device c.args.id) c.self.inside.devices.items ≡ Some c.in-Some.device.now =
    ap (λ (ds : List DeviceKey). find (names_device c.args.id) ds) (sym c.deref.ensures.value) ∙ sym c.find_device.ensures ∙ ap option_copied c.in-Some.is in
    let h = c.self.inside.converter.handle in
    let there = device_there h c.self.inside.seats.items c.self.inside.devices.items c.self.invariant c.args.id c.in-Some.device.now found in
    let on = on_it h c.self.inside.seats.items c.self.inside.devices.items c.self.invariant c.args.id c.in-Some.device.now there in
    let has : is_some (object_at (told_by c.args.input.now).interface c.args.id h) ≡ true =
    asked_for h c.self.inside.seats.items c.self.inside.devices.items c.self.invariant c.args.id c.in-Some.device.now there c.handle-2.result.now c.handle-2.ensures
    c.capability.result (told_by c.args.input.now).interface c.capability.ensures c.has_capability.result true c.has_capability.ensures c.if-not-has_capability.false in
    rw (← c.self.view_is) (goes_on h c.handle.result.now c.args.id c.args.input.now c.is_receiver.result c.handle.ensures c.is_receiver.ensures c.if-not-is_receiver.false (is_there (told_by c.args.input.now).interface c.args.id h on has) ∙ c.in_ok-tell.ensures.fits)

pub returns-in_err-tell-clause-why : goal.returns-in_err-tell-clause-why
returns-in_err-tell-clause-why c =
    let found : find (names_device c.args.id) c.self.inside.devices.items ≡ Some c.in-Some.device.now =
    ap (λ (ds : List DeviceKey). find (names_device c.args.id) ds) (sym c.deref.ensures.value) ∙ sym c.find_device.ensures ∙ ap option_copied c.in-Some.is in
    let h = c.self.inside.converter.handle in
    let there = device_there h c.self.inside.seats.items c.self.inside.devices.items c.self.invariant c.args.id c.in-Some.device.now found in
    let on = on_it h c.self.inside.seats.items c.self.inside.devices.items c.self.invariant c.args.id c.in-Some.device.now there in
    let has : is_some (object_at (told_by c.args.input.now).interface c.args.id h) ≡ true =
    asked_for h c.self.inside.seats.items c.self.inside.devices.items c.self.invariant c.args.id c.in-Some.device.now there c.handle-2.result.now c.handle-2.ensures
    c.capability.result (told_by c.args.input.now).interface c.capability.ensures c.has_capability.result true c.has_capability.ensures c.if-not-has_capability.false in
    let p = err_from_is_err_and c.from_residual.result c.from_residual.ensures.1 in
    rw (← c.self.view_is, p.1, p.2) (tells_as _ _ _ (goes_on h c.handle.result.now c.args.id c.args.input.now c.is_receiver.result c.handle.ensures c.is_receiver.ensures c.if-not-is_receiver.false (is_there (told_by c.args.input.now).interface c.args.id h on has)) c.in_err-tell.ensures.why)

pub invariant_of-self-2 : goal.invariant_of-self-2
invariant_of-self-2 c =
    keys_told (told_by c.args.input.now) (interface_in (told_by c.args.input.now).interface (find (is_of_key c.in-Some.device.now) c.handle_mut.result.now.devices)) c.self.inside.converter.handle c.handle_mut.result.now c.tell.new.handle
    c.self.inside.seats.items c.self.inside.devices.items c.handle_mut.ensures.value c.in_ok-tell.ensures.ok c.self.invariant
