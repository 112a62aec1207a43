use Rattle.reis_eis.specs.Refusals.{on_device}
use Rattle.reis_eis.specs.Acting.{refusal}
use Rattle.reis_c.proofs.Telling.{has_room, resumes, unresumed}
use Rattle.reis_c.proofs.connection.HeldConnection.resume.Goals as goal

pub resumed-requires : goal.resumed-requires
resumed-requires c = has_room (refusal (on_device c.args.device) c.args.self.now.connection) c.args.device c.args.self.now.policy c.reserve.new.policy
    c.in-Ok-resume.ensures.accepted c.in-Ok.ensures.ok

pub returns-in-Ok-resume : goal.returns-in-Ok-resume
returns-in-Ok-resume c =
    resumes c.args.device c.args.self.now.connection c.args.self.now.handed c.args.self.now.policy c.resume.new.self c.reserve.new.policy c.resumed.new.policy
    c.in-Ok-resume.ensures.resumes c.in-Ok-resume.ensures.accepted c.in-Ok.ensures.ok c.resumed.ensures

pub returns-in-Err : goal.returns-in-Err
returns-in-Err c =
    unresumed c.args.device c.args.self.now.connection c.args.self.now.handed c.args.self.now.policy c.resume.new.self c.reserve.new.policy c.in-Err.refusal
    c.refusal_number.result c.refusal_number.ensures c.in-Err.ensures.why c.in-Err.ensures.err c.in-Ok.ensures.ok
