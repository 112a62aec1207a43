use Rattle.std.proofs.Common.{◌≡◌, true, rules, subst}
use Rattle.std.specs.Prelude.{is_some}
use Rattle.std.specs.Option.{option_copied}
use Rattle.ei_event.specs.Kept.{is_interface_of}
use Rattle.ei_event.specs.Items.{device_in, IsInterfaceOf}
use Rattle.ei_event.proofs.Interfaces.{interface_found, interface_is}
use Rattle.ei_event.proofs.kept.Kept.interface.Goals as goal

pub returns-in_err-kept : goal.returns-in_err-kept
returns-in_err-kept c =
    let added : is_some (device_in c.args.self.now c.args.device.now) ≡ true = search rules in
    let found = c.find.ensures (is_interface_of c.args.device.now.proxy.id c.args.interface) (λ value answer r. search rules) in
    subst (IsInterfaceOf c.args.self.now c.args.device.now c.args.interface) (search rules)
    (interface_found c.args.self.now c.args.device.now c.args.interface added (option_copied c.find.result) (rw (← c.self.view_is) (search rules)))

pub returns : goal.returns
returns c =
    let added : is_some (device_in c.args.self.now c.args.device.now) ≡ true = search rules in
    let found = c.find.ensures (is_interface_of c.args.device.now.proxy.id c.args.interface) (λ value answer r. search rules) in
    interface_is c.args.self.now c.args.device.now c.args.interface (option_copied c.find.result) c.object.result.now (search rules)
    (interface_found c.args.self.now c.args.device.now c.args.interface added (option_copied c.find.result) (rw (← c.self.view_is) (search rules)))
