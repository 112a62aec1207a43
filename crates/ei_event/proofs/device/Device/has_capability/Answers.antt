use Rattle.std.proofs.Common.{rules, Bool, sym, subst}
use Rattle.std.specs.Prelude.{◌↔◌, IsTrue}
use Rattle.std.specs.Option.{option_copied}
use Rattle.ei_spec.specs.Interface.{ObjectView}
use Rattle.ei_types.specs.Capability.{interface_of}
use Rattle.ei_event.specs.Items.{HasInterface, IsInterfaceOf}
use Rattle.ei_event.proofs.Interfaces.{interface_there}
use Rattle.ei_event.proofs.device.Device.has_capability.Goals as goal

pub returns-clause-told : goal.returns-clause-told
returns-clause-told g c =
    let found : IsInterfaceOf c.args.converter.now.kept c.args.self.now (interface_of c.args.capability) (option_copied c.interface-2.result) = search rules in
    subst (λ (b : Bool). IsTrue b ↔ ((object : ObjectView) × HasInterface c.args.converter.now.kept c.args.self.now (interface_of c.args.capability) object)) (sym c.is_some.ensures)
    (interface_there c.args.converter.now.kept c.args.self.now (interface_of c.args.capability) c.interface-2.result found)
