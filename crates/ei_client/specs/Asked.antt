-- What a lawful event is read as.
use Rattle.std.specs.Prelude.{◌≡◌, true, None}
use Rattle.ei_spec.specs.Interface.{Known}
use Rattle.ei_spec.specs.Reading.{Unread}
use Rattle.ei_backend.specs.Message.{ReadsWhole}
use Rattle.ei_client.specs.declared.event.Event.{Event}
use Rattle.ei_client.specs.declared.event.Asked.{Asked}
use Rattle.ei_client.specs.Event.{target_of, opcode_of, values_of, announced_of}

-- the object is of that interface
abbrev pub IsToKnown : Asked → Type 0
IsToKnown asked = asked.object.now.interface ≡ Known asked.known

-- the message is what was asked, and its arguments are all that stood there
pub record IsAsked (asked : Asked) (old new : Unread) (m : Event) : Type 0 where
  pub read : ReadsWhole true asked.object.now.interface asked.opcode (values_of m) old new
  pub target : target_of m ≡ asked.object.now
  pub code : opcode_of m ≡ asked.opcode
  pub announced : announced_of m ≡ None
