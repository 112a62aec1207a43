-- Nothing was carried out yet.
use Rattle.std.proofs.Common.{List, Option, sym, subst}
use Rattle.ei_request.specs.Keys.{DeviceKey}
use Rattle.ei_emit.specs.Stands.{Begins, emitter}
use Rattle.ei_emit.proofs.emitter.Emitter.new.Goals as goal

pub returns-in-Ok-clause-begins : goal.returns-in-Ok-clause-begins
returns-in-Ok-clause-begins g c =
    subst (λ (devices : List (Option DeviceKey)). Begins c.args.initial_serial (g.C.Clock.view c.args.clock.now).left (g.C.Clock.view c.settle.new.clock).left (emitter c.settle.new.pair c.in-Ok.seat devices)) (sym c.new-in-Ok.ensures)
    (c.in-Ok.ensures.begins c.args.initial_serial (record { name = c.args.name.now; fits = c.requires; small = c.ranges.initial_serial.fits; new = c.in_ok-pair.ensures }))
