-- An endpoint with a message at the front of what it has not read.
use Rattle.std.specs.Prelude.{◌≡◌, ℕ, Bool, List, ◌++◌, Some, Ok}
use Rattle.std.specs.List.{flat_map}
use Rattle.ei_spec.specs.declared.interface.KnownInterface.{KnownInterface}
use Rattle.ei_spec.specs.Value.{Value, handles_of}
use Rattle.ei_spec.specs.Arguments.{AreOf}
use Rattle.ei_spec.specs.Interface.{Known, ObjectView}
use Rattle.ei_spec.specs.Rows.{Row, row_at}
use Rattle.ei_spec.specs.Table.{table}
use Rattle.ei_spec.specs.Message.{IsLawful, message, bytes_of}
use Rattle.ei_spec.specs.Piece.{Piece}
use Rattle.ei_backend.specs.Table.{TableView, found}
use Rattle.ei_backend.specs.Message.{announce}
use Rattle.ei_backend.specs.Backend.{BackendView}

-- the message that these values make by a row, to an object of the interface
pub record IsOfRow (events : Bool) (interface : KnownInterface) (opcode : ℕ) (r : Row) (id : ℕ) (values : List Value) : Type 0 where
  pub row : row_at opcode (table events interface) ≡ Some r
  pub kinds : AreOf r.kinds values
  pub lawful : IsLawful (message id opcode values)

-- An endpoint has the message at the front of what is unread, and the rest behind it. The target is there, an object of
-- that interface, and what the message announces is accepted: that leaves the table `after`.
pub record HasAtFront (interface : KnownInterface) (opcode : ℕ) (r : Row) (target : ObjectView) (id : ℕ) (values : List Value) (rest : Piece)
    (after : TableView) (b : BackendView) : Type 0 where
  pub bytes : b.unread ≡ bytes_of (message id opcode values) ++ rest.bytes
  pub handles : b.handles ≡ flat_map handles_of values ++ rest.handles
  pub live : found b.table id ≡ Some target
  pub is_one : target.interface ≡ Known interface
  pub accepted : announce r.announces r.kinds values b.table ≡ Ok after
