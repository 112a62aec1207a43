use Rattle.std.proofs.Common.{◌++◌, ap, ◌∙◌}
use Rattle.std.specs.String.{string_bytes}
use Rattle.ei_client.specs.Event.{target_of, opcode_of, values_of}
use Rattle.reis_trace.proofs.Shows.{event_pushed}
use Rattle.reis_trace.proofs.reply.push_event.Goals as goal

pub returns : goal.returns
returns c =
    let target = target_of c.args.event.now in
    event_pushed c.args.lines.now.items _ (string_bytes c.in_ok-text.text) c.in_ok-args.args.items target.interface target.id (opcode_of c.args.event.now) (values_of c.args.event.now)
    (rw (c.id.ensures, c.object-object.ensures, c.opcode.ensures, c.deref.ensures.value) at c.in_ok-text.ensures.ok) c.in_ok-args.ensures
    (c.in_ok-extend_from_slice.ensures.items ∙ ap (λ l. c.args.lines.now.items ++ l) c.as_bytes.ensures.value)
