-- Calls that send within the room that was made.
use Rattle.std.proofs.Common.{◌≡◌, ℕ, ◌≤◌, List, length, Result, Ok, Err, refl, ap, arith}
use Rattle.std.specs.List.{flat_map}
use Rattle.ei_spec.specs.Message.{message, size}
use Rattle.ei_spec.specs.Value.{Value, handles_of}
use Rattle.ei_backend.specs.Backend.{BackendView, unsent_of}
use Rattle.ei_backend.specs.Outgoing.{HasRoomFor}
use Rattle.ei_request.specs.Costs.{Cost, Fits}
use Rattle.std.specs.Prelude.{IsOk, IsErrOf, IfErr}
use Rattle.ei_wire.specs.declared.error.SendError.{SendError}
use Rattle.ei_wire.specs.declared.error.SendError.TheVariants as send_error

-- a call that answers want of memory alone, and not that
pub never : {T : Type 0} (r : Result T SendError) → IfErr r (λ e. e ≡ send_error.NoMemory) → (IsErrOf r send_error.NoMemory → ⊥) → IsOk r
never (Ok x) only not = refl
never (Err e) only not = absurd (not (ap Err only))

-- a call that answers none of the three
pub never_any : {T : Type 0} (r : Result T SendError) → (IsErrOf r send_error.MessageTooLong → ⊥) → (IsErrOf r send_error.IdsExhausted → ⊥) → (IsErrOf r send_error.NoMemory → ⊥) → IsOk r
never_any (Ok x) long ids memory = refl
never_any (Err send_error.MessageTooLong) long ids memory = absurd (long refl)
never_any (Err send_error.IdsExhausted) long ids memory = absurd (ids refl)
never_any (Err send_error.NoMemory) long ids memory = absurd (memory refl)

-- there is room for a message that costs no more than fits
pub has_room : (c : Cost) (b : BackendView) (id opcode : ℕ) (values : List Value) → Fits c b → size (message id opcode values) ≤ c.bytes → length (flat_map handles_of values) ≤ c.handles →
    HasRoomFor id opcode values (unsent_of b) b.room
has_room c b id opcode values f le few = record { spare_bytes = omega (arith, f.bytes, le); spare_handles = omega (arith, f.handles, few) }
