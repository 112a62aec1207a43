use Rattle.std.proofs.Common.{rules, sym, ap, subst, ◌∙◌}
use Rattle.reis_strict.specs.Devices.{Devices, AreNamed}
use Rattle.reis_strict.specs.View.{with_devices}
use Rattle.reis_strict.proofs.Named.{stays, kept_held, named_held}
use Rattle.reis_strict.proofs.strict.Strict.forget_gone.Goals as goal

pub retain-requires-clause-decided : goal.retain-requires-clause-decided
retain-requires-clause-decided c = (stays c.args.connection.now.phase, λ value answer r. search rules)

pub invariant_of-self : goal.invariant_of-self
invariant_of-self c =
    let p = c.args.connection.now.phase in
    let held = c.retain.ensures (stays p) (λ value answer r. search rules) ∙ kept_held p c.self.inside.devices c.self.invariant in
    subst AreNamed (sym held) (named_held p c.self.inside.devices c.self.invariant)

pub returns : goal.returns
returns c =
    let p = c.args.connection.now.phase in
    let held = c.retain.ensures (stays p) (λ value answer r. search rules) ∙ kept_held p c.self.inside.devices c.self.invariant in
    rw (← c.self.view_is) (ap (λ (d : Devices). with_devices (record { devices = c.self.inside.devices; held = c.self.inside.held_back }) d) held)
