use Rattle.reis_eis.specs.Refusals.{on_device}
use Rattle.reis_eis.specs.Acting.{Pauses}
use Rattle.reis_c.specs.Policy.{pausing}
use Rattle.reis_c.proofs.Telling.{told_ok, told_err}
use Rattle.reis_c.proofs.connection.HeldConnection.pause.Goals as goal

pub returns-in-Ok : goal.returns-in-Ok
returns-in-Ok c =
    told_ok (on_device c.args.device) (Pauses c.args.device) (pausing c.args.device) c.args.self.now.connection c.pause.new.self c.args.self.now.handed c.args.self.now.policy
    c.paused.new.policy c.in-Ok.ensures.pauses c.in-Ok.ensures.accepted c.paused.ensures

pub returns-in-Err : goal.returns-in-Err
returns-in-Err c =
    told_err (on_device c.args.device) (Pauses c.args.device) (pausing c.args.device) c.args.self.now.connection c.pause.new.self c.args.self.now.handed c.args.self.now.policy
    c.args.self.now.policy c.in-Err.refusal c.refusal_number.result c.refusal_number.ensures c.in-Err.ensures.why c.in-Err.ensures.err
