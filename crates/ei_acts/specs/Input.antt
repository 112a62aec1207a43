-- An input that a server sends of a device that it holds.
use Rattle.std.specs.Prelude.{◌≡◌, ℕ, ◌≤◌, Bool, true, false, not, ◌&&◌, ◌==◌, nat_le, List, [], ◌∷◌, None, is_some, find, codes}
use Rattle.ei_spec.specs.declared.interface.KnownInterface.{KnownInterface}
use Rattle.ei_spec.specs.declared.interface.KnownInterface.TheVariants as known
use Rattle.ei_spec.specs.Rows.{row_named}
use Rattle.ei_spec.specs.Table.{table}
use Rattle.ei_session.specs.Inputs.{is_of_device}
use Rattle.ei_reported.specs.Event.{called, opcode_by}
use Rattle.ei_ends.specs.Sent.{Sent}
use Rattle.ei_ends.specs.Steps.{called as having_called}
use Rattle.ei_told.specs.Told.{event_of}
use Rattle.ei_request.specs.Held.{has_interface}
use Rattle.ei_request.specs.Connection.{ConnectionView}

-- the message goes to an interface that a held device has left, and is neither the end of it nor a keymap
pub record IsInput (c : ConnectionView) (m : Sent) : Type 0 where
  pub held : is_some (find (has_interface m.target) c.devices) ≡ true
  pub of_device : is_of_device m.interface ≡ true
  pub from_one : 1 ≤ m.opcode
  pub no_keymap : called (event_of m) (codes "keymap") ≡ None

-- the message alone
abbrev pub input : Sent → List Sent
input m = m ∷ []

-- the connection once it was sent
abbrev pub having_sent : ConnectionView → Sent → ConnectionView
having_sent c m = record c { ctx = having_called true m c.ctx }

-- ---- the same as a test

-- whether a message to an object of the interface is a keymap
abbrev pub is_keymap : KnownInterface → ℕ → Bool
is_keymap known.Keyboard opcode = opcode == opcode_by (row_named (codes "keymap") (table true known.Keyboard))
is_keymap interface opcode = false

abbrev pub is_input : ConnectionView → ℕ → KnownInterface → ℕ → Bool
is_input c target interface opcode =
    is_some (find (has_interface target) c.devices) && (is_of_device interface && (nat_le 1 opcode && not (is_keymap interface opcode)))
