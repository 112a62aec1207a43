use Rattle.reis_demo.proofs.Saying.{group_said}
use Rattle.reis_demo.proofs.script.push_group.Goals as goal

pub returns-clause-bytes : goal.returns-clause-bytes
returns-clause-bytes c =
    group_said c.args.out.now.items c.push_inputs-last.new.out.items c.push_frame.new.out.items c.args.time c.args.number c.draw-first.result c.group_size.result
    c.draw-first.ensures c.group_size.ensures.size c.push_inputs-last.ensures.bytes c.push_frame.ensures.bytes
