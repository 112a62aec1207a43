use Rattle.std.proofs.Common.{ap}
use Rattle.ei_backend.specs.Backend.{BackendView}
use Rattle.ei_request.specs.Converter.{ConverterView}
use Rattle.reis_eis.specs.declared.phase.Phase.TheVariants as phase
use Rattle.reis_eis.specs.Words.{shaking_with}
use Rattle.reis_eis.proofs.phase.Phase.flush.Goals as goal

pub returns-in-Shaking-clause-flushes : goal.returns-in-Shaking-clause-flushes
returns-in-Shaking-clause-flushes g c =
    rw c.in-Shaking.is (record { left = c.flush.new.self; flushes = c.flush.ensures.flushes; is = ap (λ (b : BackendView). phase.Shaking (shaking_with c.in-Shaking.shaking b)) c.flush.ensures.kept })

pub returns-in-Standing-clause-flushes : goal.returns-in-Standing-clause-flushes
returns-in-Standing-clause-flushes g c =
    rw c.in-Standing.is (record { left = c.flush-in-Standing.new.self.handle.ctx; flushes = c.flush-in-Standing.ensures.flushes; is = ap (λ (x : ConverterView). phase.Standing x) c.flush-in-Standing.ensures.kept })
