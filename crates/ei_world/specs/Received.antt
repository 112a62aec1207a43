-- What a read of a side answers.
use Rattle.std.specs.Prelude.{true, false, Option, Some, None}
use Rattle.ei_backend.specs.Backend.{Answers, next}
use Rattle.ei_backend.specs.declared.message.PendingRequestResult.{PendingRequestResult}
use Rattle.ei_client.specs.declared.event.Event.{Event}
use Rattle.ei_client.specs.Event.{target_of as event_target, opcode_of as event_code, values_of as event_values}
use Rattle.ei_server.specs.declared.request.Request.{Request}
use Rattle.ei_server.specs.Request.{target_of as request_target, opcode_of as request_code, values_of as request_values}
use Rattle.ei_world.specs.declared.received.Received.{Received}
use Rattle.ei_world.specs.declared.received.Received.TheVariants as received
use Rattle.ei_linked.specs.declared.side.Side.{Side}
use Rattle.ei_linked.specs.declared.side.Side.TheVariants as side
use Rattle.ei_linked.specs.TwoEnds.{WorldView, NotRefused}

-- the client was answered what its endpoint reads next
abbrev pub ReadsEvent : Option (PendingRequestResult Event) → WorldView → WorldView → Type 0
ReadsEvent answer old new = Answers event_target event_code event_values answer new.client.backend (next true old.client.backend)

-- the server was
abbrev pub ReadsRequest : Option (PendingRequestResult Request) → WorldView → WorldView → Type 0
ReadsRequest answer old new = Answers request_target request_code request_values answer new.server.backend (next false old.server.backend)

-- a side was answered what its endpoint reads next: a message of the other side, or none
abbrev pub ReceivesAt : Side → Option Received → WorldView → WorldView → Type 0
ReceivesAt side.Client None old new = ReadsEvent None old new
ReceivesAt side.Client (Some (received.Client a)) old new = ReadsEvent (Some a) old new
ReceivesAt side.Server None old new = ReadsRequest None old new
ReceivesAt side.Server (Some (received.Server a)) old new = ReadsRequest (Some a) old new
ReceivesAt side answer old new = ⊥

-- the answer isn't that a message is refused
abbrev pub IsNeverRefused : Option Received → Type 0
IsNeverRefused None = Unit {0}
IsNeverRefused (Some (received.Client a)) = NotRefused (Some a)
IsNeverRefused (Some (received.Server a)) = NotRefused (Some a)
