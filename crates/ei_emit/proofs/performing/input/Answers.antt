-- The input was sent, or its message is too long.
use Rattle.std.proofs.Common.{Err, refl, ap, ◌∙◌}
use Rattle.ei_promises.specs.declared.calls.ServerCall.TheVariants as call
use Rattle.ei_emit.proofs.Input.{was_input, was_long, was_none}
use Rattle.ei_emit.proofs.performing.input.Goals.{in-Ok, in-Err-MessageTooLong, in-Err}
use Rattle.ei_emit.proofs.performing.input.Goals as goal

pub returns : goal.returns
returns g c = elim c.match-server_do.branch [
  | in-Ok w ↦
      was_input c.args.target c.args.opcode c.args.values.now c.args.pair.now c.server_do.new.self c.server_do.result
      (call.Input c.args.target c.args.opcode c.args.values) w.in-Ok.field-0 (refl, refl, refl) w.in-Ok.is
      c.requires.done c.server_do.ensures.does c.server_do.ensures.memory c.server_do.ensures.sends c.server_do.ensures.long c.match-server_do.result w.result-is
  | in-Err-MessageTooLong w ↦
      was_long c.args.target c.args.opcode c.args.values.now c.args.pair.now c.server_do.new.self c.server_do.result
      (call.Input c.args.target c.args.opcode c.args.values) (refl, refl, refl)
      (w.in-Err-MessageTooLong.is ∙ ap (λ e. Err e) w.in-Err-MessageTooLong.field-0-is) c.server_do.ensures.long c.match-server_do.result w.result-is
  | in-Err w ↦ was_none c.args.target c.args.opcode c.args.values.now c.args.pair.now c.server_do.new.self c.server_do.result _ c.match-server_do.result w.result-is
]
