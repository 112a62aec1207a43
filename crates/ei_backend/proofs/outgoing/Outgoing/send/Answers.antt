use Rattle.std.proofs.Common.{arith}
use Rattle.ei_backend.proofs.GoingOut.{message_waits_if}
use Rattle.ei_backend.proofs.outgoing.Outgoing.send.Goals as goal

pub invariant_of-self-in-None : goal.invariant_of-self-in-None
invariant_of-self-in-None c =
    let written = c.write_message.ensures in
    record {
      has_bytes = message_waits_if c.write_message.result _ _ _ _ _ written.bytes written.err written.err_handles c.self.invariant.has_bytes;
      room = omega (arith, c.self.invariant.room, written.capacity);
      handle_room = omega (arith, c.self.invariant.handle_room, written.handle_capacity);
    }
