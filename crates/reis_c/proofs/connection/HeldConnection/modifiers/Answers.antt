use Rattle.ei_spec.specs.declared.interface.KnownInterface.TheVariants as known
use Rattle.reis_eis.specs.Refusals.{on_interface}
use Rattle.reis_eis.specs.Acting.{TellsModifiers}
use Rattle.reis_c.proofs.Obliging.{did}
use Rattle.reis_c.proofs.connection.HeldConnection.modifiers.Goals as goal

pub returns : goal.returns
returns c =
    did (on_interface known.Keyboard c.args.device) (TellsModifiers c.args.device c.args.depressed c.args.locked c.args.latched c.args.group) c.args.self.now.connection c.modifiers.new.self c.args.self.now.handed c.args.self.now.policy c.modifiers.result c.outcome_number.result
    c.outcome_number.ensures c.modifiers.ensures.tells c.modifiers.ensures.accepted c.modifiers.ensures.why c.modifiers.ensures.err
