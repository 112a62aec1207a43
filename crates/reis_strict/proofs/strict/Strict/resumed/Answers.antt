use Rattle.std.proofs.Common.{sym, ap, ◌∙◌}
use Rattle.std.specs.Option.{option_copied_mut}
use Rattle.reis_strict.specs.declared.device.KnownDevice.{KnownDevice}
use Rattle.reis_strict.proofs.Named.{named_insert, named_put, named_at}
use Rattle.reis_strict.proofs.strict.Strict.resumed.Goals as goal

pub invariant_of-self : goal.invariant_of-self
invariant_of-self c = named_insert c.self.inside.devices c.args.device c.rest.new.self c.self.invariant
    (ap (λ (d : KnownDevice). d.id) c.rest.ensures
    ∙ named_at c.self.inside.devices c.args.device c.in-Some.known.now c.self.invariant (sym c.get_mut.ensures.value ∙ ap option_copied_mut c.in-Some.is))

pub invariant_of-self-2 : goal.invariant_of-self-2
invariant_of-self-2 c =
    named_put c.self.inside.devices c.put.new.self c.args.device c.new-known.result c.put.result c.self.invariant
    (ap (λ (d : KnownDevice). d.id) c.new-known.ensures) c.put.ensures.ok c.put.ensures.err
