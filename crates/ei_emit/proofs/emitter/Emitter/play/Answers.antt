-- The server carries the step out, and what it sent comes to the client.
use Rattle.std.proofs.Common.{refl}
use Rattle.ei_emit.specs.Stands.{emitter}
use Rattle.ei_emit.proofs.ToClient.{plays_one}
use Rattle.ei_emit.proofs.Whole.{performed, was_refused, plays_nothing}
use Rattle.ei_emit.proofs.emitter.Emitter.play.Goals as goal

pub returns-in_err-perform-clause-plays : goal.returns-in_err-perform-clause-plays
returns-in_err-perform-clause-plays g c = λ s stood. plays_nothing s c.args.step.now _ _ _ c.from_residual.result c.from_residual.ensures.0

pub returns-then-not-branch-clause-plays : goal.returns-then-not-branch-clause-plays
returns-then-not-branch-clause-plays g c = λ s stood. (was_refused s c.args.step.now _ _ c.in_ok-perform.field-0 c.if-not-branch.true (c.in_ok-perform.ensures s stood), refl)

pub carry-requires : goal.carry-requires
carry-requires g c = record {
  whole = (performed c.requires.script c.args.step.now _ _ c.in_ok-perform.field-0 c.if-not-branch.false (c.in_ok-perform.ensures c.requires.script c.requires.stands)).served.whole;
}

pub returns-in_err-carry-clause-plays : goal.returns-in_err-carry-clause-plays
returns-in_err-carry-clause-plays g c = λ s stood. plays_nothing s c.args.step.now _ _ _ c.from_residual-in_err-carry.result c.from_residual-in_err-carry.ensures.0

pub returns-clause-plays : goal.returns-clause-plays
returns-clause-plays g c = λ s stood.
    plays_one (record { says = c.events.ensures.said; handled = c.handled.ensures }) c.beginning.ensures.rests s c.args.step.now
    (emitter c.args.self.now.pair c.args.self.now.seat c.args.self.now.devices.added.items)
    (emitter c.perform.new.self.pair c.perform.new.self.seat c.perform.new.self.devices.added.items)
    (emitter c.carry.new.pair c.perform.new.self.seat c.perform.new.self.devices.added.items)
    (g.C.Clock.view c.args.clock.now).left (g.C.Clock.view c.carry.new.clock).left stood
    (performed s c.args.step.now _ _ c.in_ok-perform.field-0 c.if-not-branch.false (c.in_ok-perform.ensures s stood)) c.in_ok-carry.ensures.carried refl refl
