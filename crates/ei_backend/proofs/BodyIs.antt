-- What a body says, where its arguments were read and leave nothing over.
use Rattle.std.proofs.Common.{◌≡◌, ℕ, Bool, List, length, drop, Ok, refl}
use Rattle.ei_spec.specs.declared.handle.Handle.{Handle}
use Rattle.ei_spec.specs.Value.{Value}
use Rattle.ei_spec.specs.Reading.{Unread}
use Rattle.ei_spec.specs.Interface.{ObjectView}
use Rattle.ei_backend.specs.Table.{TableView}
use Rattle.ei_backend.specs.Message.{message_read}
use Rattle.ei_backend.specs.Step.{reading}
use Rattle.ei_backend.specs.Backend.{BackendView, Message, of_outcome, body_read}

pub says : (events : Bool) (target : ObjectView) (opcode : ℕ) (body : List ℕ) (handles : List Handle) (t u : TableView) (values : List Value) (s : Unread) (rest : List ℕ) (b : BackendView) →
    message_read events target.interface opcode (record { bytes = body; handles = handles; taken = 0 }) t ≡ Ok (record { values = values; table = u; unread = s }) → length s.bytes ≡ 0 →
    of_outcome (reading rest handles t b) target opcode rest (body_read events target opcode body handles t) ≡ (Message target opcode values, reading rest (drop s.taken handles) u b)
says events target opcode body handles t u values s rest b read none = rw (read, none) refl
