use Rattle.reis_eis.specs.Refusals.{on_receiver}
use Rattle.reis_eis.specs.Acting.{StartsEmulating}
use Rattle.reis_c.proofs.Obliging.{did}
use Rattle.reis_c.proofs.connection.HeldConnection.start_emulating.Goals as goal

pub returns : goal.returns
returns c =
    did (on_receiver c.args.device) (StartsEmulating c.args.device c.args.sequence) c.args.self.now.connection c.start_emulating.new.self c.args.self.now.handed c.args.self.now.policy c.start_emulating.result c.outcome_number.result
    c.outcome_number.ensures c.start_emulating.ensures.starts c.start_emulating.ensures.accepted c.start_emulating.ensures.why c.start_emulating.ensures.err
