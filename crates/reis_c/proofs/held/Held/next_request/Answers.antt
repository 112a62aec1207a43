use Rattle.reis_c.proofs.Working.{next_some, next_none}
use Rattle.reis_c.proofs.held.Held.next_request.Goals as goal

pub returns-in-Some : goal.returns-in-Some
returns-in-Some c =
    rw c.keep.ensures (next_some c.args.self.now.server c.next_request.new.self c.args.self.now.last c.args.request.now c.in-Some.next
    c.flat.result c.flat.ensures c.in-Some.ensures.next c.in-Some.ensures.kept c.in-Some.ensures.serves)

pub returns-in-None : goal.returns-in-None
returns-in-None c =
    next_none c.args.self.now.server c.next_request.new.self c.args.self.now.last c.args.request.now c.in-None.ensures.next c.in-None.ensures.kept
    c.in-None.ensures.serves
