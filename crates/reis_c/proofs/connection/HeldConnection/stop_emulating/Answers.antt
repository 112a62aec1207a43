use Rattle.reis_eis.specs.Refusals.{on_receiver}
use Rattle.reis_eis.specs.Acting.{StopsEmulating}
use Rattle.reis_c.proofs.Obliging.{did}
use Rattle.reis_c.proofs.connection.HeldConnection.stop_emulating.Goals as goal

pub returns : goal.returns
returns c =
    did (on_receiver c.args.device) (StopsEmulating c.args.device) c.args.self.now.connection c.stop_emulating.new.self c.args.self.now.handed c.args.self.now.policy c.stop_emulating.result c.outcome_number.result
    c.outcome_number.ensures c.stop_emulating.ensures.stops c.stop_emulating.ensures.accepted c.stop_emulating.ensures.why c.stop_emulating.ensures.err
