use Rattle.std.proofs.Common.{Option, Ok, subst}
use Rattle.ei_request.specs.declared.event.EisRequest.{EisRequest}
use Rattle.reis_c.specs.Policy.{TakesNext}
use Rattle.reis_c.proofs.Handing.{by_some, by_none, by_want}
use Rattle.reis_c.proofs.connection.HeldConnection.next_by_policy.Goals as goal

pub returns-in-Ok-Some-clause-hands : goal.returns-in-Ok-Some-clause-hands
returns-in-Ok-Some-clause-hands c =
    rw c.keep.ensures (by_some c.args.self.now.connection c.next.new.connection c.args.self.now.handed c.args.request.now c.args.self.now.policy
    c.next.new.policy c.in-Ok-Some.next c.flat.result c.flat.ensures
    (subst (λ (o : Option EisRequest). TakesNext c.args.self.now.policy c.args.self.now.connection (Ok o) c.next.new.policy c.next.new.connection)
    c.in-Ok-Some.field-0-is c.in-Ok-Some.ensures))

pub returns-in-Ok-None-clause-hands : goal.returns-in-Ok-None-clause-hands
returns-in-Ok-None-clause-hands c =
    by_none c.args.self.now.connection c.next.new.connection c.args.self.now.handed c.args.request.now c.args.self.now.policy c.next.new.policy
    c.next_notice.result c.next_notice.new.request c.next_notice.new.self
    (subst (λ (o : Option EisRequest). TakesNext c.args.self.now.policy c.args.self.now.connection (Ok o) c.next.new.policy c.next.new.connection)
    c.in-Ok-None.field-0-is c.in-Ok-None.ensures) c.next_notice.ensures.hands

pub returns-in-Err-clause-hands : goal.returns-in-Err-clause-hands
returns-in-Err-clause-hands c =
    by_want c.args.self.now.connection c.next.new.connection c.args.self.now.handed c.args.request.now c.args.self.now.policy c.next.new.policy
    _ c.in-Err.ensures
