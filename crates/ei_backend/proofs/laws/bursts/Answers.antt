use Rattle.std.proofs.Common.{arith, length-append}
use Rattle.std.specs.List.{flat_map}
use Rattle.ei_spec.specs.Value.{handles_of}
use Rattle.ei_spec.specs.Message.{message, bytes_of}
use Rattle.ei_backend.proofs.GoingOut.{message_length}
use Rattle.ei_backend.proofs.IdRoom.{lasts}
use Rattle.ei_backend.proofs.laws.bursts.Goals as goal

pub returns : goal.returns
returns c = record {
  made = λ bytes handles objects b. record { spare_bytes = omega arith; spare_handles = omega arith };
  fits = λ bytes handles id opcode values b h. record { spare_bytes = omega (arith, h.spare_bytes); spare_handles = omega (arith, h.spare_handles) };
  left = λ bytes handles id opcode values b h. record {
    spare_bytes = omega (arith, h.spare_bytes, message_length (message id opcode values), length-append b.unsent (bytes_of (message id opcode values)));
    spare_handles = omega (arith, h.spare_handles, length-append b.unsent_handles (flat_map handles_of values));
  };
  objects = λ bytes handles objects steps b more. lasts steps _ objects more (omega arith);
}
