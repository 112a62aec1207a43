use Rattle.std.proofs.Common.{ap}
use Rattle.reis_strict.specs.declared.device.KnownDevice.{KnownDevice}
use Rattle.reis_strict.proofs.Named.{named_put}
use Rattle.reis_strict.proofs.strict.Strict.reserve.Goals as goal

pub invariant_of-self-2 : goal.invariant_of-self-2
invariant_of-self-2 c =
    named_put c.self.inside.devices c.put.new.self c.args.device c.new-known.result c.put.result c.self.invariant
    (ap (λ (d : KnownDevice). d.id) c.new-known.ensures) c.put.ensures.ok c.put.ensures.err
