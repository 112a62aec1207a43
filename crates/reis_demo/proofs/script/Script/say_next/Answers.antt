use Rattle.std.proofs.Common.{◌<◌, true, refl, arith}
use Rattle.reis_demo.proofs.Saying.{end_said, next_said}
use Rattle.reis_demo.proofs.script.Script.say_next.Goals as goal

pub returns-then-self-eq0-clause-said : goal.returns-then-self-eq0-clause-said
returns-then-self-eq0-clause-said c =
    end_said c.args.self.now (record c.args.self.now { ended = true }) c.args.out.now.items c.push_disconnect.new.out.items c.requires.left c.if-self-eq0.true refl c.push_disconnect.ensures.bytes

pub returns-else-self-eq0-clause-said : goal.returns-else-self-eq0-clause-said
returns-else-self-eq0-clause-said c =
    let some : 0 < c.args.self.now.groups = omega arith in
    next_said c.args.self.now _ c.args.out.now.items c.push_group-self.new.out.items c.requires.left some c.requires.left refl refl c.push_group-self.ensures.number c.push_group-self.ensures.bytes
