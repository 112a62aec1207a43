use Rattle.reis_c.proofs.Handing.{noticed_some, noticed_none}
use Rattle.reis_c.proofs.connection.HeldConnection.next_notice.Goals as goal

pub returns-in-Some-clause-hands : goal.returns-in-Some-clause-hands
returns-in-Some-clause-hands c =
    rw c.forget.ensures (noticed_some c.args.self.now.connection c.next_notice.new.self c.args.self.now.handed c.args.self.now.policy c.args.request.now
    c.in-Some.notice c.of_notice.result c.of_notice.ensures c.in-Some.ensures.first c.in-Some.ensures.rest)

pub returns-in-None-clause-hands : goal.returns-in-None-clause-hands
returns-in-None-clause-hands c =
    noticed_none c.args.self.now.connection c.next_notice.new.self c.args.self.now.handed c.args.self.now.policy c.args.request.now c.in-None.ensures.first
    c.in-None.ensures.rest
