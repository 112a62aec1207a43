use Rattle.ei_standing.proofs.SameRefusals.{no_shake, same_refusal, may_be_given, may_not_be_given}
use Rattle.ei_standing.proofs.connections.refusals.Goals as goal

pub returns : goal.returns
returns c = record {
  asked = λ setup past m readings c e x h k. same_refusal setup past m readings c e h k x;
  no_shake = λ setup past m readings c e shake h k a. no_shake setup past m readings c e h k shake a;
  given = λ setup past readings c o table h n. may_be_given past c.handle.ctx.table h.server h.peer table o n;
  not_given = λ setup past readings c id v i f h n. may_not_be_given past c.handle.ctx.table h.server h.peer id v i f n;
}
