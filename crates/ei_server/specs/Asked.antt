-- What a lawful request is read as.
use Rattle.std.specs.Prelude.{◌≡◌, false, None}
use Rattle.ei_spec.specs.Interface.{Known}
use Rattle.ei_spec.specs.Reading.{Unread}
use Rattle.ei_backend.specs.Message.{ReadsWhole}
use Rattle.ei_server.specs.declared.request.Request.{Request}
use Rattle.ei_server.specs.declared.request.Asked.{Asked}
use Rattle.ei_server.specs.Request.{target_of, opcode_of, values_of, announced_of}

-- the object is of that interface
abbrev pub IsToKnown : Asked → Type 0
IsToKnown asked = asked.object.now.interface ≡ Known asked.known

-- the message is what was asked, and its arguments are all that stood there
pub record IsAsked (asked : Asked) (old new : Unread) (m : Request) : Type 0 where
  pub read : ReadsWhole false asked.object.now.interface asked.opcode (values_of m) old new
  pub target : target_of m ≡ asked.object.now
  pub code : opcode_of m ≡ asked.opcode
  pub announced : announced_of m ≡ None
