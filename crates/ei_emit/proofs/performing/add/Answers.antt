-- A device was added, and takes input.
use Rattle.std.proofs.Common.{◌≡◌, sym, subst, rules}
use Rattle.ei_request.specs.Keys.{DeviceKey}
use Rattle.ei_promises.specs.declared.calls.ServerCall.TheVariants as call
use Rattle.ei_emit.specs.Performing.{MayMake, HasMade}
use Rattle.ei_emit.proofs.Adding.{holds_seat, may_resume, added_it}
use Rattle.ei_emit.proofs.performing.add.Goals as goal

pub add_device-requires : goal.add_device-requires
add_device-requires g c = holds_seat c.requires.script c.args.pair.now c.args.seat.now c.args.devices.now.added.items c.requires.stands

pub tell-requires : goal.tell-requires
tell-requires g c =
    let copy : c.unwrap-key.result ≡ c.in_ok-device.device = search rules in
    subst (λ (k : DeviceKey). MayMake (call.Resumed k) c.add_device.new.pair) (sym copy)
    (may_resume c.requires.script c.args.pair.now c.add_device.new.pair c.args.seat.now c.args.devices.now.added.items c.requires.stands c.args.capabilities
    c.in_ok-device.device c.in_ok-device.ensures)

pub returns : goal.returns
returns g c = λ s stood.
    let copy : c.unwrap-key.result ≡ c.in_ok-device.device = search rules in
    added_it s c.args.pair.now c.add_device.new.pair c.args.seat.now c.args.devices.now.added.items stood c.args.capabilities
    c.in_ok-device.device c.in_ok-device.ensures c.tell.new.pair c.in_ok-tell.field-0
    (subst (λ (k : DeviceKey). HasMade (call.Resumed k) c.add_device.new.pair c.in_ok-tell.field-0 c.tell.new.pair) copy c.in_ok-tell.ensures) c.push.new.self.added.items c.in_ok-push.ensures
