use Rattle.std.proofs.Common.{map, refl, sym, ap, subst, ◌∙◌}
use Rattle.std.specs.Option.{option_copied}
use Rattle.ei_types.specs.declared.enums.DeviceType.{DeviceType}
use Rattle.reis_eis.specs.Acting.{ActsOn, AddsDeviceAs}
use Rattle.reis_c.specs.Describing.{item_of}
use Rattle.reis_c.proofs.Announcing.{device_added, device_refused}
use Rattle.reis_c.proofs.connection.HeldConnection.add_device.Goals as goal

pub returns-in-Ok-add_device-clause-adds : goal.returns-in-Ok-add_device-clause-adds
returns-in-Ok-add_device-clause-adds c =
    device_added c.args.seat c.args.described.now c.args.regions.now c.args.ids.now c.args.name.now (option_copied c.in-Some-text_of.name)
    c.in-Some.capabilities c.deref.result.now c.args.self.now.connection c.add_device.new.self c.args.self.now.handed c.args.self.now.policy c.in-Ok-add_device.id
    (c.in-Some.ensures.known.0 refl) c.in-Some.ensures.value (sym c.is_wrong.ensures ∙ c.if-is_wrong.false) c.in-Some-text_of.ensures.0
    c.in-Some-text_of.ensures.1 (ap (map item_of) c.deref.ensures.value ∙ c.in-Ok.ensures)
    (subst (λ (kind : DeviceType). ActsOn (AddsDeviceAs c.in-Ok-add_device.id c.args.seat (option_copied c.in-Some-text_of.name) kind c.in-Some.capabilities
    c.deref.result.now) c.args.self.now.connection c.add_device.new.self) c.type_of-kind.ensures c.in-Ok-add_device.ensures.adds)
    c.in-Ok-add_device.ensures.accepted

pub returns-clause-adds : goal.returns-clause-adds
returns-clause-adds c =
    rw c.refusal_number.ensures (device_refused c.args.seat c.args.described.now c.args.regions.now c.args.ids.now c.args.name.now
    (option_copied c.in-Some-text_of.name) c.in-Some.capabilities c.deref.result.now c.args.self.now.connection c.add_device.new.self
    c.args.self.now.handed c.args.self.now.policy 0 (c.in-Some.ensures.known.0 refl) c.in-Some.ensures.value (sym c.is_wrong.ensures ∙ c.if-is_wrong.false)
    c.in-Some-text_of.ensures.0 c.in-Some-text_of.ensures.1 (ap (map item_of) c.deref.ensures.value ∙ c.in-Ok.ensures) c.in-Err.refusal
    c.in-Err.ensures.why c.in-Err.ensures.err)
