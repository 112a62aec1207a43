use Rattle.std.proofs.Common.{refl, arith}
use Rattle.ei_serve.specs.Causes.{GreetedInPart}
use Rattle.ei_serve.proofs.Standing.{handshake_there}
use Rattle.ei_serve.proofs.Causes.{greets, greeted, greeted_in_part, not_greeted, on_err}
use Rattle.ei_serve.proofs.Reading.{starts}
use Rattle.ei_serve.proofs.phase.Phase.start.Goals as goal

pub new-requires-2 : goal.new-requires-2
new-requires-2 g c = handshake_there _ c.in_ok-context.ensures

-- before the sink was lent
pub returns-in_err-context-clause-greeted_in_part : goal.returns-in_err-context-clause-greeted_in_part
returns-in_err-context-clause-greeted_in_part g c = on_err _ (GreetedInPart _ _) (not_greeted (g.K.Sink.view c.args.sink.now))

pub returns-in-Err-clause-greeted_in_part : goal.returns-in-Err-clause-greeted_in_part
returns-in-Err-clause-greeted_in_part g c = not_greeted (g.K.Sink.view c.args.sink.now)

pub returns-in-Err-flush-clause-greeted_in_part : goal.returns-in-Err-flush-clause-greeted_in_part
returns-in-Err-flush-clause-greeted_in_part g c = greeted_in_part _ _ _ _ _ (greets _ _ c.in_ok-context.ensures c.in-Ok.ensures.greets) c.in-Err-flush.ensures.flushes.went

pub returns-clause-greeted : goal.returns-clause-greeted
returns-clause-greeted g c = greeted _ _ _ _ (greets _ _ c.in_ok-context.ensures c.in-Ok.ensures.greets) c.in_default.ensures.flushes.went c.in_default.ensures.flushes.lent.lent.write_wants

pub returns-clause-stands : goal.returns-clause-stands
returns-clause-stands g c = λ setup lawful same. (refl, starts setup c.args.initial_serial _ _ _ _ c.in_ok-context.ensures c.in-Ok.ensures.greets c.in-Ok.ensures.fresh c.in_default.ensures.flushes.stops c.in_default.ensures.kept lawful same (omega (arith, c.ranges.initial_serial)))
