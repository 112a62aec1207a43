use Rattle.reis_eis.specs.Refusals.{on_seat}
use Rattle.reis_eis.specs.Acting.{RemovesSeatAt}
use Rattle.reis_c.specs.Policy.{forgetting}
use Rattle.reis_c.proofs.Telling.{told_ok, told_err}
use Rattle.reis_c.proofs.connection.HeldConnection.remove_seat.Goals as goal

pub returns-in-Ok : goal.returns-in-Ok
returns-in-Ok c =
    told_ok (on_seat c.args.seat) (RemovesSeatAt c.args.seat) forgetting c.args.self.now.connection c.remove_seat.new.self c.args.self.now.handed c.args.self.now.policy
    c.forget_gone.new.policy c.in-Ok.ensures.removes c.in-Ok.ensures.accepted c.forget_gone.ensures

pub returns-in-Err : goal.returns-in-Err
returns-in-Err c =
    told_err (on_seat c.args.seat) (RemovesSeatAt c.args.seat) forgetting c.args.self.now.connection c.remove_seat.new.self c.args.self.now.handed c.args.self.now.policy
    c.args.self.now.policy c.in-Err.refusal c.refusal_number.result c.refusal_number.ensures c.in-Err.ensures.why c.in-Err.ensures.err
