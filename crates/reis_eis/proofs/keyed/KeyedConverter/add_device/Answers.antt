use Rattle.std.proofs.Common.{◌≡◌, List, Some, refl, sym, ap, ◌∙◌}
use Rattle.std.specs.Prelude.{find}
use Rattle.std.specs.Option.{option_copied}
use Rattle.std.proofs.lemmas.Result.{err_from_is_err_and}
use Rattle.ei_spec.specs.Interface.{ObjectView}
use Rattle.reis_eis.specs.Keys.{names_seat}
use Rattle.reis_eis.proofs.Announcing.{device_gone, device_undescribed, device_keyboard, device_refused, device_accepted, device_added}
use Rattle.reis_eis.proofs.HeldKeys.{no_seat_found, seat_there, seat_id_is}
use Rattle.reis_eis.proofs.keyed.KeyedConverter.add_device.Goals as goal

pub returns-in_default-clause-why : goal.returns-in_default-clause-why
returns-in_default-clause-why c =
    let h = c.self.inside.converter.handle in
    rw (← c.self.view_is) (device_gone h c.args.seat c.args.seat refl (option_copied c.args.name) c.args.capabilities c.args.setup.now h refl
    (no_seat_found h c.self.inside.seats.items c.self.inside.devices.items c.self.invariant c.args.seat
    (ap (λ (ss : List ObjectView). find (names_seat c.args.seat) ss) (sym c.deref.ensures.value) ∙ sym c.find_seat.ensures ∙ ap option_copied c.in_default.is)))

pub returns-in_err-may_have-clause-why : goal.returns-in_err-may_have-clause-why
returns-in_err-may_have-clause-why c =
    let h = c.self.inside.converter.handle in
    let found : find (names_seat c.args.seat) c.self.inside.seats.items ≡ Some c.in-Some.key.now =
    ap (λ (ss : List ObjectView). find (names_seat c.args.seat) ss) (sym c.deref.ensures.value) ∙ sym c.find_seat.ensures ∙ ap option_copied c.in-Some.is in
    let there = seat_there h c.self.inside.seats.items c.self.inside.devices.items c.self.invariant c.args.seat c.in-Some.key.now found in
    let id = seat_id_is h c.self.inside.seats.items c.self.inside.devices.items c.self.invariant c.args.seat c.in-Some.key.now there in
    let p = err_from_is_err_and c.from_residual.result c.from_residual.ensures.1 in
    rw (← c.self.view_is, p.1, p.2) (device_undescribed h c.in-Some.key.now.id c.args.seat id (option_copied c.args.name) c.args.capabilities c.args.setup.now c.handle.result.now c.handle.ensures
    _ c.in_err-may_have.ensures.why)

pub add_device-requires-clause-keyboard : goal.add_device-requires-clause-keyboard
add_device-requires-clause-keyboard c =
    let h = c.self.inside.converter.handle in
    device_keyboard h c.in-Some.key.now.id c.in-Some.key.now.id refl (option_copied c.args.name) c.args.capabilities c.args.setup.now c.handle.result.now c.handle.ensures
    c.handle_mut-handle.result.now c.handle_mut-handle.ensures.value c.in_ok-may_have.ensures.accepted

pub returns-in_err-device-clause-why : goal.returns-in_err-device-clause-why
returns-in_err-device-clause-why c =
    let h = c.self.inside.converter.handle in
    let found : find (names_seat c.args.seat) c.self.inside.seats.items ≡ Some c.in-Some.key.now =
    ap (λ (ss : List ObjectView). find (names_seat c.args.seat) ss) (sym c.deref.ensures.value) ∙ sym c.find_seat.ensures ∙ ap option_copied c.in-Some.is in
    let there = seat_there h c.self.inside.seats.items c.self.inside.devices.items c.self.invariant c.args.seat c.in-Some.key.now found in
    let id = seat_id_is h c.self.inside.seats.items c.self.inside.devices.items c.self.invariant c.args.seat c.in-Some.key.now there in
    let p = err_from_is_err_and c.from_residual-in_err-device.result c.from_residual-in_err-device.ensures.1 in
    rw (← c.self.view_is, p.1, p.2) (device_refused h c.in-Some.key.now.id c.args.seat id (option_copied c.args.name) c.args.capabilities c.args.setup.now c.handle.result.now c.handle.ensures
    c.handle_mut-handle.result.now c.handle_mut-handle.ensures.value c.in_ok-may_have.ensures.accepted _ c.in_err-device.ensures.exhausted c.in_err-device.ensures.long)

pub returns-clause-ok : goal.returns-clause-ok
returns-clause-ok c =
    let h = c.self.inside.converter.handle in
    let found : find (names_seat c.args.seat) c.self.inside.seats.items ≡ Some c.in-Some.key.now =
    ap (λ (ss : List ObjectView). find (names_seat c.args.seat) ss) (sym c.deref.ensures.value) ∙ sym c.find_seat.ensures ∙ ap option_copied c.in-Some.is in
    let there = seat_there h c.self.inside.seats.items c.self.inside.devices.items c.self.invariant c.args.seat c.in-Some.key.now found in
    rw (← c.self.view_is) (record {
      done = device_added h c.handle_mut-handle.result.now c.add_device.new.conn c.handle_mut-handle.ensures.value c.args.seat c.in-Some.key.now there.it there.found there.is
          (option_copied c.args.name) c.args.device_type c.args.capabilities c.args.setup.now c.device_id-id.result c.in_ok-device.device c.device_id-id.ensures c.in_ok-device.ensures.device c.in_ok-device.ensures.ok;
      queue = refl;
    })

pub returns-clause-accepted : goal.returns-clause-accepted
returns-clause-accepted c =
    let h = c.self.inside.converter.handle in
    let found : find (names_seat c.args.seat) c.self.inside.seats.items ≡ Some c.in-Some.key.now =
    ap (λ (ss : List ObjectView). find (names_seat c.args.seat) ss) (sym c.deref.ensures.value) ∙ sym c.find_seat.ensures ∙ ap option_copied c.in-Some.is in
    let there = seat_there h c.self.inside.seats.items c.self.inside.devices.items c.self.invariant c.args.seat c.in-Some.key.now found in
    let id = seat_id_is h c.self.inside.seats.items c.self.inside.devices.items c.self.invariant c.args.seat c.in-Some.key.now there in
    rw (← c.self.view_is) (device_accepted h c.in-Some.key.now.id c.args.seat id (option_copied c.args.name) c.args.capabilities c.args.setup.now c.handle.result.now c.handle.ensures
    c.handle_mut-handle.result.now c.handle_mut-handle.ensures.value c.in_ok-may_have.ensures.accepted c.in_ok-device.device c.in_ok-device.ensures.exhausted c.in_ok-device.ensures.long)
