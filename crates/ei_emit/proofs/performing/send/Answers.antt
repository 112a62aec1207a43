-- The input was sent, or the step is bad.
use Rattle.std.proofs.Common.{sym, ◌∙◌}
use Rattle.ei_emit.proofs.Sending.{bad_target, bad_event, bad_call, performed}
use Rattle.ei_emit.proofs.performing.send.Goals.{then-not-may_be_input-via-then-not-may_be_input, then-not-may_be_input-via-else-not-may_be_input+then-not-may_call}
use Rattle.ei_emit.proofs.performing.send.Goals as goal

pub returns-in_default : goal.returns-in_default
returns-in_default g c = λ seat s stood. bad_target s c.args.pair.now seat c.args.devices.now.added.items stood c.args.number c.args.interface c.args.opcode c.args.values.now cc

pub returns-then-not-may_be_input : goal.returns-then-not-may_be_input
returns-then-not-may_be_input g c = λ seat s stood. elim c.then-not-may_be_input.branch [
  | then-not-may_be_input-via-then-not-may_be_input w ↦
      bad_event s c.args.pair.now seat c.args.devices.now.added.items stood c.args.number c.args.interface c.args.opcode c.args.values.now (sym c.may_be_input.ensures ∙ w.if-not-may_be_input.true)
  | then-not-may_be_input-via-else-not-may_be_input+then-not-may_call w ↦
      bad_call s c.args.pair.now seat c.args.devices.now.added.items stood c.args.number c.args.interface c.args.opcode c.args.values.now c.in-Some.target
      (sym c.target_of.ensures ∙ c.in-Some.is) c.keep.ensures
      (λ may. let called = w.may_call.ensures.1 may in cc)
]

pub returns : goal.returns
returns g c = λ seat s stood.
    performed s c.args.pair.now seat c.args.devices.now.added.items stood c.args.number c.args.interface c.args.opcode c.args.values.now c.in-Some.target (sym c.target_of.ensures ∙ c.in-Some.is)
    (sym c.may_be_input.ensures ∙ c.if-not-may_be_input.false) (c.may_call.ensures.0 c.if-not-may_call.false) c.input.new.pair c.input.result c.input.ensures
