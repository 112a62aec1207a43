-- The call of the step was made, or its device isn't held.
use Rattle.std.proofs.Common.{sym, ◌∙◌}
use Rattle.ei_emit.proofs.Telling.{may_tell, bad_told, told}
use Rattle.ei_emit.proofs.performing.tell_of.Goals as goal

pub returns-in_default : goal.returns-in_default
returns-in_default g c = λ seat s stood. bad_told s c.args.pair.now seat c.args.devices.now.added.items stood c.args.step.now c.requires.told cc

pub tell-requires : goal.tell-requires
tell-requires g c =
    may_tell c.requires.stands.1.script c.args.pair.now c.requires.stands.0 c.args.devices.now.added.items c.requires.stands.1.stands c.args.step.now c.in-Some.call (sym c.call_of.ensures ∙ c.in-Some.is)

pub returns : goal.returns
returns g c = λ seat s stood.
    told s c.args.pair.now seat c.args.devices.now.added.items stood c.tell.new.pair c.in-Some.call c.in_ok-tell.field-0 c.in_ok-tell.ensures c.args.step.now (sym c.call_of.ensures ∙ c.in-Some.is)
