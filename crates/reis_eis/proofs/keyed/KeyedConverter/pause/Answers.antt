use Rattle.std.proofs.Common.{◌≡◌, ℕ, List, Some, true, refl, sym, ap, subst, ◌∙◌}
use Rattle.std.specs.Prelude.{find}
use Rattle.std.specs.Option.{option_copied}
use Rattle.ei_request.specs.Held.{DeviceView, is_of_key, changed_first, untouched}
use Rattle.ei_request.specs.Keys.{DeviceKey}
use Rattle.ei_request.specs.Connection.{ConnectionView, holds_device}
use Rattle.ei_request.specs.Sending.{tells, paused_event}
use Rattle.reis_eis.specs.Keys.{names_device}
use Rattle.std.proofs.lemmas.Result.{err_from_is_err_and}
use Rattle.reis_eis.proofs.Announcing.{wants_now}
use Rattle.reis_eis.proofs.HeldKeys.{no_device, device_there, on_it, id_is, key_held, key_changed, keys_changed}
use Rattle.reis_eis.proofs.keyed.KeyedConverter.pause.Goals as goal

pub returns-in_default-clause-why : goal.returns-in_default-clause-why
returns-in_default-clause-why c =
    rw (← c.self.view_is) (no_device c.self.inside.converter.handle c.self.inside.seats.items c.self.inside.devices.items c.self.invariant c.args.id
    (ap (λ (ds : List DeviceKey). find (names_device c.args.id) ds) (sym c.deref.ensures.value) ∙ sym c.find_device.ensures ∙ ap option_copied c.in_default.is))

pub paused-requires : goal.paused-requires
paused-requires c =
    let found : find (names_device c.args.id) c.self.inside.devices.items ≡ Some c.in-Some.device.now =
    ap (λ (ds : List DeviceKey). find (names_device c.args.id) ds) (sym c.deref.ensures.value) ∙ sym c.find_device.ensures ∙ ap option_copied c.in-Some.is in
    let there = device_there c.self.inside.converter.handle c.self.inside.seats.items c.self.inside.devices.items c.self.invariant c.args.id c.in-Some.device.now found in
    record {
      held = subst (λ (h : ConnectionView). holds_device h c.in-Some.device.now ≡ true) (sym c.handle_mut.ensures.value)
          (key_held c.self.inside.converter.handle c.self.inside.seats.items c.self.inside.devices.items c.self.invariant c.args.id c.in-Some.device.now there);
    }

pub returns-clause-ok : goal.returns-clause-ok
returns-clause-ok c =
    let found : find (names_device c.args.id) c.self.inside.devices.items ≡ Some c.in-Some.device.now =
    ap (λ (ds : List DeviceKey). find (names_device c.args.id) ds) (sym c.deref.ensures.value) ∙ sym c.find_device.ensures ∙ ap option_copied c.in-Some.is in
    let there = device_there c.self.inside.converter.handle c.self.inside.seats.items c.self.inside.devices.items c.self.invariant c.args.id c.in-Some.device.now found in
    let is = id_is c.self.inside.converter.handle c.self.inside.seats.items c.self.inside.devices.items c.self.invariant c.args.id c.in-Some.device.now there in
    let h = c.self.inside.converter.handle in
    let k = c.in-Some.device.now in
    rw (← c.self.view_is) (record {
      done = c.in_ok-paused.ensures.sends.ok ∙ ap (λ (x : ConnectionView). record (tells x (paused_event k.proxy.id)) { devices = changed_first (is_of_key k) untouched x.devices }) c.handle_mut.ensures.value
          ∙ ap (λ (n : ℕ). record (tells h (paused_event n)) { devices = changed_first (is_of_key k) untouched h.devices }) is
          ∙ ap (λ (ds : List DeviceView). record (tells h (paused_event c.args.id)) { devices = ds }) (key_changed h c.self.inside.seats.items c.self.inside.devices.items c.self.invariant c.args.id k there untouched);
      queue = refl;
    })

pub returns-clause-accepted : goal.returns-clause-accepted
returns-clause-accepted c =
    let found : find (names_device c.args.id) c.self.inside.devices.items ≡ Some c.in-Some.device.now =
    ap (λ (ds : List DeviceKey). find (names_device c.args.id) ds) (sym c.deref.ensures.value) ∙ sym c.find_device.ensures ∙ ap option_copied c.in-Some.is in
    let there = device_there c.self.inside.converter.handle c.self.inside.seats.items c.self.inside.devices.items c.self.invariant c.args.id c.in-Some.device.now found in
    rw (← c.self.view_is) (on_it c.self.inside.converter.handle c.self.inside.seats.items c.self.inside.devices.items c.self.invariant c.args.id c.in-Some.device.now there)

pub invariant_of-self-2 : goal.invariant_of-self-2
invariant_of-self-2 c =
    let k = c.in-Some.device.now in
    keys_changed c.self.inside.converter.handle c.self.inside.seats.items c.self.inside.devices.items c.self.invariant c.paused.new.conn (is_of_key k) untouched (λ d. refl)
    (ap (λ (x : ConnectionView). x.seats) c.in_ok-paused.ensures.sends.ok ∙ ap (λ (x : ConnectionView). x.seats) c.handle_mut.ensures.value)
    (ap (λ (x : ConnectionView). x.devices) c.in_ok-paused.ensures.sends.ok ∙ ap (λ (x : ConnectionView). changed_first (is_of_key k) untouched x.devices) c.handle_mut.ensures.value)

pub returns-in_err-paused-clause-why : goal.returns-in_err-paused-clause-why
returns-in_err-paused-clause-why c =
    let found : find (names_device c.args.id) c.self.inside.devices.items ≡ Some c.in-Some.device.now =
    ap (λ (ds : List DeviceKey). find (names_device c.args.id) ds) (sym c.deref.ensures.value) ∙ sym c.find_device.ensures ∙ ap option_copied c.in-Some.is in
    let there = device_there c.self.inside.converter.handle c.self.inside.seats.items c.self.inside.devices.items c.self.invariant c.args.id c.in-Some.device.now found in
    let p = err_from_is_err_and c.from_residual.result c.from_residual.ensures.1 in
    rw (← c.self.view_is, p.1, p.2) (wants_now _ _ c.in_err-paused.ensures.sends.only (on_it c.self.inside.converter.handle c.self.inside.seats.items c.self.inside.devices.items c.self.invariant c.args.id c.in-Some.device.now there))
