use Rattle.std.proofs.Common.{arith}
use Rattle.reis_demo.proofs.StreamLength.{next_group, no_group_left, left_length, none_left}
use Rattle.reis_demo.proofs.script.Script.bytes_left.Goals as goal

pub returns-then-self-clause-bytes : goal.returns-then-self-clause-bytes
returns-then-self-clause-bytes c = none_left c.args.self.now c.if-self.true

pub loop-group-preserved : goal.loop-group-preserved
loop-group-preserved c = record {
  bytes =
      next_group c.args.self.now.groups c.loop-group._group c.loop-group.number c.draw-number.result c.after_draws-number.result c.loop-group.bytes c.from-bytes-in-loop-group.result _
      c.loop-group-test.true c.draw-number.ensures
      (rw c.group_size-size.ensures.size at c.after_draws-number.ensures)
      (omega (arith, c.from-bytes-in-loop-group.ensures, c.group_size-size.ensures.size)) c.loop-group.invariant.bytes;
  few = omega (arith, c.from-bytes-in-loop-group.ensures, c.group_size-size.ensures.few, c.loop-group.invariant.few);
}

pub returns-clause-bytes : goal.returns-clause-bytes
returns-clause-bytes c =
    let none = no_group_left c.args.self.now.groups c.loop-group._group c.loop-group.number c.loop-group-test.false in
    let all = left_length c.args.self.now c.if-self.false in
    omega (arith, none, all, c.loop-group.invariant.bytes)
