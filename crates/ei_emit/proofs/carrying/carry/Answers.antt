-- Round after round: at the end the side has taken all.
use Rattle.ei_emit.proofs.Going.{began, first_gone, then_gone, carried, as_ok}
use Rattle.ei_emit.proofs.carrying.carry.Goals as goal

pub go_on-requires : goal.go_on-requires
go_on-requires g c = record { whole = c.loop.invariant.whole; unsent = c.loop.invariant.unsent }

pub loop-init : goal.loop-init
loop-init g c =
    let b = began c.args.to c.other.result c.args.pair.now c.flush.new.self c.other.ensures c.in_ok-flush.ensures.ok c.requires.whole in
    record {
      whole = b.whole;
      unsent = b.unsent;
      gone = first_gone c.args.to c.args.pair.now c.flush.new.self (g.C.Clock.view c.args.clock.now).left b c.agree.ensures.kept;
      later = g.met.C.Clock.later_refl c.args.clock.now;
    }

pub loop-preserved : goal.loop-preserved
loop-preserved g c = record {
  whole = c.in_ok-go_on.ensures.whole;
  unsent = c.in_ok-go_on.ensures.unsent;
  gone = then_gone c.args.to _ c.loop.pair c.go_on.new.pair (g.C.Clock.view c.loop.clock).left (g.C.Clock.view c.go_on.new.clock).left c.loop.invariant.gone c.in_ok-go_on.ensures.goes;
  later = g.met.C.Clock.later_trans _ _ _ c.loop.invariant.later c.in_ok-go_on.ensures.clock.later_clock;
}

pub loop-smaller : goal.loop-smaller
loop-smaller g c = c.in_ok-go_on.ensures.less (as_ok c.in_ok-go_on.field-0 _ c.if-branch.true)

pub returns-clause-carried : goal.returns-clause-carried
returns-clause-carried g c =
    carried c.args.to _ c.loop.pair c.go_on.new.pair (g.C.Clock.view c.loop.clock).left (g.C.Clock.view c.go_on.new.clock).left c.loop.invariant.gone c.in_ok-go_on.ensures.goes
    (c.in_ok-go_on.ensures.all (as_ok c.in_ok-go_on.field-0 _ c.if-branch.false))
