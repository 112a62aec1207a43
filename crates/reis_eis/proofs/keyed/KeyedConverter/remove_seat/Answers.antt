use Rattle.std.proofs.Common.{◌≡◌, List, Some, refl, sym, ap, subst, ◌∙◌}
use Rattle.std.specs.Prelude.{find}
use Rattle.std.specs.Option.{option_copied}
use Rattle.std.proofs.lemmas.Result.{err_from_is_err_and}
use Rattle.ei_spec.specs.Interface.{ObjectView}
use Rattle.ei_request.specs.Held.{without_first}
use Rattle.ei_request.specs.Keys.{DeviceKey}
use Rattle.ei_request.specs.Connection.{ConnectionView}
use Rattle.ei_request.specs.Removing.{RemovesSeat}
use Rattle.reis_eis.specs.Keys.{HasKeys, names_seat}
use Rattle.reis_eis.proofs.Announcing.{wants_now}
use Rattle.reis_eis.proofs.HeldKeys.{no_seat, seat_there, on_the_seat, removes_seat, keys_left}
use Rattle.reis_eis.proofs.keyed.KeyedConverter.remove_seat.Goals as goal

pub returns-in_default-clause-why : goal.returns-in_default-clause-why
returns-in_default-clause-why c =
    rw (← c.self.view_is) (no_seat c.self.inside.converter.handle c.self.inside.seats.items c.self.inside.devices.items c.self.invariant c.args.id
    (ap (λ (ss : List ObjectView). find (names_seat c.args.id) ss) (sym c.deref.ensures.value) ∙ sym c.find_seat.ensures ∙ ap option_copied c.in_default.is))

pub returns-in_err-remove-clause-why : goal.returns-in_err-remove-clause-why
returns-in_err-remove-clause-why c =
    let found : find (names_seat c.args.id) c.self.inside.seats.items ≡ Some c.in-Some.seat.now =
    ap (λ (ss : List ObjectView). find (names_seat c.args.id) ss) (sym c.deref.ensures.value) ∙ sym c.find_seat.ensures ∙ ap option_copied c.in-Some.is in
    let there = seat_there c.self.inside.converter.handle c.self.inside.seats.items c.self.inside.devices.items c.self.invariant c.args.id c.in-Some.seat.now found in
    let p = err_from_is_err_and c.from_residual.result c.from_residual.ensures.1 in
    rw (← c.self.view_is, p.1, p.2) (wants_now _ _ c.in_err-remove.ensures.only (on_the_seat c.self.inside.converter.handle c.self.inside.seats.items c.self.inside.devices.items c.self.invariant c.args.id c.in-Some.seat.now there))

pub invariant_of-self-2 : goal.invariant_of-self-2
invariant_of-self-2 c =
    let found : find (names_seat c.args.id) c.self.inside.seats.items ≡ Some c.in-Some.seat.now =
    ap (λ (ss : List ObjectView). find (names_seat c.args.id) ss) (sym c.deref.ensures.value) ∙ sym c.find_seat.ensures ∙ ap option_copied c.in-Some.is in
    let there = seat_there c.self.inside.converter.handle c.self.inside.seats.items c.self.inside.devices.items c.self.invariant c.args.id c.in-Some.seat.now found in
    let removed = subst (λ (h : ConnectionView). RemovesSeat h c.in-Some.seat.now.id c.remove.new.conn) c.handle_mut.ensures.value c.in_ok-remove.ensures.ok in
    let left = keys_left c.self.inside.converter.handle c.self.inside.seats.items c.self.inside.devices.items c.self.invariant c.args.id c.in-Some.seat.now there c.remove.new.conn removed in
    subst (λ (ss : List ObjectView). HasKeys c.remove.new.conn ss c.take_out_devices_of.new.devices.items) (sym c.take_out_seat.ensures)
    (subst (λ (ds : List DeviceKey). HasKeys c.remove.new.conn (without_first (names_seat c.args.id) c.self.inside.seats.items) ds) (sym c.take_out_devices_of.ensures) left)

pub returns-clause-ok : goal.returns-clause-ok
returns-clause-ok c =
    let found : find (names_seat c.args.id) c.self.inside.seats.items ≡ Some c.in-Some.seat.now =
    ap (λ (ss : List ObjectView). find (names_seat c.args.id) ss) (sym c.deref.ensures.value) ∙ sym c.find_seat.ensures ∙ ap option_copied c.in-Some.is in
    let there = seat_there c.self.inside.converter.handle c.self.inside.seats.items c.self.inside.devices.items c.self.invariant c.args.id c.in-Some.seat.now found in
    let removed = subst (λ (h : ConnectionView). RemovesSeat h c.in-Some.seat.now.id c.remove.new.conn) c.handle_mut.ensures.value c.in_ok-remove.ensures.ok in
    rw (← c.self.view_is) (record {
      done = removes_seat c.self.inside.converter.handle c.self.inside.seats.items c.self.inside.devices.items c.self.invariant c.args.id c.in-Some.seat.now there c.remove.new.conn removed;
      queue = refl;
    })

pub returns-clause-accepted : goal.returns-clause-accepted
returns-clause-accepted c =
    let found : find (names_seat c.args.id) c.self.inside.seats.items ≡ Some c.in-Some.seat.now =
    ap (λ (ss : List ObjectView). find (names_seat c.args.id) ss) (sym c.deref.ensures.value) ∙ sym c.find_seat.ensures ∙ ap option_copied c.in-Some.is in
    let there = seat_there c.self.inside.converter.handle c.self.inside.seats.items c.self.inside.devices.items c.self.invariant c.args.id c.in-Some.seat.now found in
    rw (← c.self.view_is) (on_the_seat c.self.inside.converter.handle c.self.inside.seats.items c.self.inside.devices.items c.self.invariant c.args.id c.in-Some.seat.now there)
