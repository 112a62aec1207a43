use Rattle.reis_eis.specs.Refusals.{on_receiver}
use Rattle.reis_eis.specs.Acting.{Frames}
use Rattle.reis_c.proofs.Obliging.{did}
use Rattle.reis_c.proofs.connection.HeldConnection.frame.Goals as goal

pub returns : goal.returns
returns c =
    did (on_receiver c.args.device) (Frames c.args.device c.args.time) c.args.self.now.connection c.frame.new.self c.args.self.now.handed c.args.self.now.policy c.frame.result c.outcome_number.result
    c.outcome_number.ensures c.frame.ensures.frames c.frame.ensures.accepted c.frame.ensures.why c.frame.ensures.err
