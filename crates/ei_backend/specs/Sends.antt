-- What a call that sends a message of a row does: one word for each kind of row. The row, found by its name, says
-- the opcode, the kinds of the values, what is announced, and whether the target is gone then.
use Rattle.std.specs.Prelude.{◌≡◌, ℕ, ◌<◌, ◌≤◌, ◌↔◌, List, Option, Some, None, Result, OnOk, OnErr, IfOk, IfErr, IsErrOf}
use Rattle.ei_spec.specs.Value.{Value}
use Rattle.ei_spec.specs.Arguments.{AreOf}
use Rattle.ei_spec.specs.Interface.{Known, ObjectView, named}
use Rattle.ei_spec.specs.Rows.{Row, Announces, Nothing, Fixed, Named, version_of, name_in}
use Rattle.ei_spec.specs.Message.{message, size}
use Rattle.ei_wire.specs.declared.error.SendError.{SendError}
use Rattle.ei_wire.specs.declared.error.SendError.TheVariants as send_error
use Rattle.ei_backend.specs.Table.{TableView, own, own_end}
use Rattle.ei_backend.specs.Backend.{BackendView, after_row, FitsRow}
use Rattle.ei_spec.specs.declared.limits.TheConstants.{MOST_MESSAGE_BYTES}

-- there is such a row, and the values are of its kinds
abbrev pub AreOfRow : Option (ℕ × Row) → List Value → Type 0
AreOfRow None values = ⊥
AreOfRow (Some r) values = AreOf r.1.kinds values

-- the size of a message of a row
abbrev pub row_size : Option (ℕ × Row) → ObjectView → List Value → ℕ
row_size None target values = 0
row_size (Some r) target values = size (message target.id r.0 values)

-- the object is the next of this end, as what the values announce
abbrev pub IsAnnounced : Announces → List Value → TableView → ObjectView → Type 0
IsAnnounced Nothing values t o = ⊥
IsAnnounced (Fixed k) values t o = o ≡ own t (Known k) (version_of values)
IsAnnounced Named values t o = o ≡ own t (named (name_in values)) (version_of values)

-- the object is the one that a message of a row announces
abbrev pub IsNew : Option (ℕ × Row) → List Value → TableView → ObjectView → Type 0
IsNew None values t o = ⊥
IsNew (Some r) values t o = IsAnnounced r.1.announces values t o

-- A message of a row without text is sent, or, for want of memory, and never within the room, nothing changes.
pub record Sends {A : Type 0} (r : Option (ℕ × Row)) (target : ObjectView) (values : List Value) (old new : BackendView) (result : Result A SendError) : Type 0 where
  pub kinds : AreOfRow r values
  pub ok : OnOk result (new ≡ after_row r target values old)
  pub err : OnErr result (new ≡ old)
  pub only : IfErr result (λ e. e ≡ send_error.NoMemory)
  pub room : FitsRow r target values old → IsErrOf result send_error.NoMemory → ⊥

-- A message of a row with text is sent, or, exactly where it would be too long, or for want of memory, and never
-- within the room, nothing changes.
pub record SendsText {A : Type 0} (r : Option (ℕ × Row)) (target : ObjectView) (values : List Value) (old new : BackendView) (result : Result A SendError) : Type 0 where
  pub kinds : AreOfRow r values
  pub ok : OnOk result (new ≡ after_row r target values old)
  pub err : OnErr result (new ≡ old)
  pub long : IsErrOf result send_error.MessageTooLong ↔ (MOST_MESSAGE_BYTES < row_size r target values)
  pub not_exhausted : IsErrOf result send_error.IdsExhausted → ⊥
  pub room : FitsRow r target values old → IsErrOf result send_error.NoMemory → ⊥

-- A message of a row that announces an object is sent, and the object is answered, or, exactly where no own id is
-- left, or for want of memory, and never within the room, nothing changes. The object is the one behind what is
-- answered.
pub record SendsNew {A : Type 0} (behind : A → ObjectView) (r : Option (ℕ × Row)) (target : ObjectView) (values : List Value) (old new : BackendView) (result : Result A SendError) : Type 0 where
  pub kinds : AreOfRow r values
  pub ok : OnOk result (new ≡ after_row r target values old)
  pub object : IfOk result (λ p. IsNew r values old.table (behind p))
  pub err : OnErr result (new ≡ old)
  pub exhausted : IsErrOf result send_error.IdsExhausted ↔ (own_end old.table ≤ old.table.next_own)
  pub not_long : IsErrOf result send_error.MessageTooLong → ⊥
  pub room : FitsRow r target values old → old.table.next_own < old.table.room → IsErrOf result send_error.NoMemory → ⊥
