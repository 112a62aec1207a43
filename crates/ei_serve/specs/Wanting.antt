-- What may take memory, and why want of it is answered.
use Rattle.std.specs.Prelude.{◌≡◌, ◌⊎◌, ℕ, Bool, true, false, List, Option, Some, None}
use Rattle.ei_spec.specs.Message.{Raw, Whole, front}
use Rattle.ei_spec.specs.Rows.{row_at}
use Rattle.ei_spec.specs.Stream.{Reading, Refusal as StoppedBy}
use Rattle.ei_spec.specs.Table.{table}
use Rattle.ei_backend.specs.Message.{row_wants}
use Rattle.ei_backend.specs.Outside.{Rose, SinkView}
use Rattle.ei_session.specs.Setup.{Setup}
use Rattle.ei_session.specs.Objects.{Entry, object}
use Rattle.ei_session.specs.Refusals.{Refusal, refusal}

-- whether reading a message of the opcode to what is there may take memory: it has a text, or announces an object
abbrev pub entry_wants : Option Entry → ℕ → Bool
entry_wants None opcode = false
entry_wants (Some e) opcode = row_wants (row_at opcode (table false e.interface))

-- The message at the front may take memory: it isn't refused, or reading it may.
pub record MayWant (setup : Setup) (past : List Raw) (rest : List ℕ) : Type 0 where
  pub m : Raw
  pub after : List ℕ
  pub front_is : front rest ≡ Whole m after
  pub wants : (refusal setup past m ≡ None) ⊎ (entry_wants (object past m.id) m.opcode ≡ true)

-- Reading stopped at a message that is refused, and reading it may take memory.
pub record StopWants (r : Reading Refusal) : Type 0 where
  pub cause : Refusal
  pub stop : r.stop ≡ StoppedBy cause
  pub m : Raw
  pub after : List ℕ
  pub front_is : front r.rest ≡ Whole m after
  pub wants : entry_wants (object r.past m.id) m.opcode ≡ true

-- Why memory is wanted: for a message that isn't refused, where one is left; else the sink wanted it, or reading the refused message
-- may have. So no refusal that takes none is answered by want of memory.
abbrev pub IsWanted : Reading Refusal → List Raw → SinkView → SinkView → Type 0
IsWanted r reached old new = reached ≡ r.past → Rose old.wants new.wants ⊎ StopWants r
