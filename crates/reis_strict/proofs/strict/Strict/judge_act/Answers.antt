use Rattle.std.proofs.Common.{sym, ap, ◌∙◌}
use Rattle.std.specs.Option.{option_copied_mut}
use Rattle.reis_strict.proofs.Steps.{judged_devices, kept_devices}
use Rattle.reis_strict.proofs.Named.{judged_id, named_insert, named_at}
use Rattle.reis_strict.proofs.strict.Strict.judge_act.Goals as goal

pub returns-in-Some-clause-done : goal.returns-in-Some-clause-done
returns-in-Some-clause-done c = rw (← c.self.view_is) (judged_devices c.args.act (record { devices = c.self.inside.devices; held = c.self.inside.held_back }) c.in-Some.device.now c.judge.new.self
    (sym c.get_mut.ensures.value ∙ ap option_copied_mut c.in-Some.is) c.judge.result c.judge.ensures.done)

pub returns-in-Some-clause-err : goal.returns-in-Some-clause-err
returns-in-Some-clause-err c = rw (← c.self.view_is) (kept_devices c.args.act (record { devices = c.self.inside.devices; held = c.self.inside.held_back }) c.in-Some.device.now c.judge.new.self
    (sym c.get_mut.ensures.value ∙ ap option_copied_mut c.in-Some.is) c.judge.result c.judge.ensures.err)

pub invariant_of-self : goal.invariant_of-self
invariant_of-self c = named_insert c.self.inside.devices c.args.act.device c.judge.new.self c.self.invariant
    (judged_id c.args.act.deed c.in-Some.device.now c.judge.new.self c.judge.result c.judge.ensures.done c.judge.ensures.err
    ∙ named_at c.self.inside.devices c.args.act.device c.in-Some.device.now c.self.invariant (sym c.get_mut.ensures.value ∙ ap option_copied_mut c.in-Some.is))
