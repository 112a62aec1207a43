-- The events that wait are given one by one.
use Rattle.std.proofs.Common.{sym, ◌∙◌}
use Rattle.ei_emit.proofs.Queues.{none_given, front_given, more_given, fewer_wait, all_given, all_out}
use Rattle.ei_emit.proofs.emitter.report.Goals as goal

pub loop-init : goal.loop-init
loop-init g c = none_given c.args.pair.now c.args.out.now.items

pub loop-preserved : goal.loop-preserved
loop-preserved g c =
    more_given c.args.pair.now c.loop.pair c.next_event.new.self c.args.out.now.items c.loop.out.items c.loop.invariant c.next_event.ensures.rest
    c.next_event.result c.put.new.out.items c.next_event.ensures.first c.in_ok-put.ensures.ok (sym c.in_ok-put.ensures.more ∙ c.if-branch.true)

pub loop-smaller : goal.loop-smaller
loop-smaller g c =
    fewer_wait c.args.pair.now c.loop.pair c.next_event.new.self c.args.out.now.items c.loop.out.items c.loop.invariant c.next_event.ensures.rest
    c.next_event.result c.next_event.ensures.first (sym c.in_ok-put.ensures.more ∙ c.if-branch.true)

pub returns-in_err-put-clause-err : goal.returns-in_err-put-clause-err
returns-in_err-put-clause-err g c = front_given c.args.pair.now c.loop.pair c.args.out.now.items c.loop.out.items c.put.new.out.items c.from_residual.result c.from_residual.ensures.0 c.loop.invariant c.in_err-put.ensures.err

pub returns-clause-ok : goal.returns-clause-ok
returns-clause-ok g c =
    all_given c.args.pair.now c.loop.pair c.next_event.new.self c.args.out.now.items c.loop.out.items c.loop.invariant c.next_event.ensures.rest
    c.next_event.result c.put.new.out.items c.next_event.ensures.first c.in_ok-put.ensures.ok (sym c.in_ok-put.ensures.more ∙ c.if-branch.false)

pub returns-clause-left : goal.returns-clause-left
returns-clause-left g c =
    all_out c.args.pair.now c.loop.pair c.next_event.new.self c.args.out.now.items c.loop.out.items c.loop.invariant c.next_event.ensures.rest
    c.next_event.result c.next_event.ensures.first (sym c.in_ok-put.ensures.more ∙ c.if-branch.false)
