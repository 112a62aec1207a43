-- Each step is carried out by its function.
use Rattle.std.proofs.Common.{sym, ap, ◌∙◌}
use Rattle.ei_emit.specs.declared.step.EmitStep.TheVariants as step
use Rattle.ei_emit.proofs.Calling.{for_step}
use Rattle.ei_emit.proofs.performing.carry_out.Goals as goal

pub returns-in-Remove : goal.returns-in-Remove
returns-in-Remove g c = for_step _ _ _ _ _ c.in-Remove.is (c.remove.ensures c.args.seat.now)

pub returns-in-Input : goal.returns-in-Input
returns-in-Input g c = for_step _ _ _ _ _ (c.in-Input.is ∙ ap (λ vs. step.Input c.in-Input.device c.in-Input.interface c.in-Input.opcode vs) (sym c.as_slice.ensures)) (c.send.ensures c.args.seat.now)

pub returns-in_default : goal.returns-in_default
returns-in_default g c = c.tell_of.ensures c.args.seat.now
