use Rattle.std.proofs.Common.{sym, ap, ◌∙◌}
use Rattle.std.specs.Option.{option_copied_mut}
use Rattle.reis_strict.specs.declared.device.KnownDevice.{KnownDevice}
use Rattle.reis_strict.proofs.Named.{named_insert, named_at}
use Rattle.reis_strict.proofs.strict.Strict.paused.Goals as goal
use Rattle.reis_strict.proofs.strict.Strict.paused.Goals.{in-Some, in_default}

pub invariant_of-self : goal.invariant_of-self
invariant_of-self c = elim c.match-get_mut.branch [
  | in-Some w ↦ rw w.self-inside-is (named_insert c.self.inside.devices c.args.device w.rest.new.self c.self.invariant
      (ap (λ (d : KnownDevice). d.id) w.rest.ensures
      ∙ named_at c.self.inside.devices c.args.device w.in-Some.known.now c.self.invariant (sym c.get_mut.ensures.value ∙ ap option_copied_mut w.in-Some.is)))
  | in_default w ↦ rw w.self-inside-is c.self.invariant
]
