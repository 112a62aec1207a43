use Rattle.std.proofs.Common.{arith}
use Rattle.reis_demo.proofs.Announcing.{short_at, more_announced, all_announced}
use Rattle.reis_demo.proofs.opening.push_announcements.Goals as goal

pub push_announcement-requires : goal.push_announcement-requires
push_announcement-requires c = short_at c.own_interfaces-interfaces.result c.loop-name.name-index _ c.own_interfaces-interfaces.ensures (omega (arith, c.loop-name-test.true)) (omega (arith, c.loop-name-test.true))

pub loop-name-preserved : goal.loop-name-preserved
loop-name-preserved c = record {
  bytes =
      more_announced c.own_interfaces-interfaces.result c.loop-name.name-index _ c.own_interfaces-interfaces.ensures (omega (arith, c.loop-name-test.true)) (omega (arith, c.loop-name-test.true))
      c.args.out.now.items c.loop-name.out.items c.push_announcement.new.out.items c.loop-name.invariant.bytes c.in_ok-push_announcement.ensures.ok;
  capacity = omega (arith, c.in_ok-push_announcement.ensures.capacity, c.loop-name.invariant.capacity);
}

pub returns-clause-ok : goal.returns-clause-ok
returns-clause-ok c = all_announced c.loop-name.name-index c.args.out.now.items c.loop-name.out.items (omega (arith, c.loop-name-test.false, c.loop-name.auto.name-index-end)) c.loop-name.invariant.bytes
