use Rattle.std.proofs.Common.{ap, refl}
use Rattle.ei_request.specs.Converter.{ConverterView}
use Rattle.reis_eis.specs.declared.phase.Phase.TheVariants as phase
use Rattle.reis_eis.proofs.phase.Phase.read.Goals as goal

pub returns-in-Shaking-clause-reads : goal.returns-in-Shaking-clause-reads
returns-in-Shaking-clause-reads g c =
    rw c.in-Shaking.is (record { read = c.read.new.self; reads = c.read.ensures.reads; is = refl })

pub returns-in-Standing-clause-reads : goal.returns-in-Standing-clause-reads
returns-in-Standing-clause-reads g c =
    rw c.in-Standing.is (record { read = c.read-in-Standing.new.self.handle.ctx; reads = c.read-in-Standing.ensures.reads; is = ap (λ (x : ConverterView). phase.Standing x) c.read-in-Standing.ensures.kept })
