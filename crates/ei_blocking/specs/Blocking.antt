-- What a client's handshake that blocks answers, sends and leaves.
use Rattle.std.specs.Prelude.{◌≡◌, ◌≤◌, ◌<◌, ◌⊎◌, ℕ, ◌-◌, List, [], ◌∷◌, ◌++◌, take, length, Option, Some, None, IsSome, Result, Ok, Err, IsErrOf}
use Rattle.ei_spec.specs.Message.{Raw}
use Rattle.ei_spec.specs.Piece.{Piece}
use Rattle.ei_spec.specs.Reading.{Fault}
use Rattle.ei_spec.specs.Stream.{Waiting}
use Rattle.ei_types.specs.declared.error.Error.{Error}
use Rattle.ei_types.specs.declared.error.Error.TheVariants as error
use Rattle.ei_types.specs.Decided.{IsDecided, IsCutShort}
use Rattle.ei_wire.specs.Gives.{fault_of}
use Rattle.ei_backend.specs.Outside.{SinkView}
use Rattle.ei_backend.specs.Pieces.{TookPieces}
use Rattle.ei_backend.specs.Table.{found}
use Rattle.ei_backend.specs.Backend.{BackendView}
use Rattle.ei_greeting.specs.Shaking.{Greeter, Trouble, Parse, Handshake, MessageTooLong}
use Rattle.ei_greeting.specs.Opening.{Ending, Connected, UnexpectedEof, PieceLimit, HandleLimit, Refused, opening, reading_of, stopped_at, connected_at, with_piece}
use Rattle.ei_handshake.specs.declared.client.HandshakeResp.{HandshakeResp}
use Rattle.ei_blocking.specs.Sending.{SentAll, SentFront, sent_bytes}
use Rattle.ei_blocking.specs.Still.{still}

-- ---- the answer

abbrev pub parse_trouble : Option Fault → Option Trouble
parse_trouble None = None
parse_trouble (Some f) = Some (Parse f)

-- the trouble that an error tells
abbrev pub trouble_of : Error → Option Trouble
trouble_of (error.Parse e) = parse_trouble (fault_of e)
trouble_of (error.Handshake e) = Some (Handshake e)
trouble_of error.MessageTooLong = Some MessageTooLong
trouble_of e = None

-- the handshake ends by that trouble
abbrev pub IsTrouble : Option Trouble → Ending → Type 0
IsTrouble None ending = ⊥
IsTrouble (Some t) ending = ending ≡ Refused t

-- it hands over what is answered
abbrev pub HandsOver : Ending → HandshakeResp → Type 0
HandsOver (Connected h) resp = (resp.connection ≡ h.connection) × (resp.serial ≡ h.serial) × (resp.negotiated_interfaces ≡ h.versions)
HandsOver ending resp = ⊥

-- the result is how the handshake ends; a fault and want of memory may come in its place
abbrev pub EndsAs : Ending → Result HandshakeResp Error → Type 0
EndsAs ending (Ok resp) = HandsOver ending resp
EndsAs ending (Err error.UnexpectedEof) = ending ≡ UnexpectedEof
EndsAs ending (Err error.PieceLimit) = ending ≡ PieceLimit
EndsAs ending (Err error.HandleLimit) = ending ≡ HandleLimit
EndsAs ending (Err error.ReadFault) = Unit {0}
EndsAs ending (Err error.WriteFault) = Unit {0}
EndsAs ending (Err error.NoMemory) = Unit {0}
EndsAs ending (Err e) = IsTrouble (trouble_of e) ending

-- an error that a handshake may answer
abbrev pub IsOfOpening : Error → Type 0
IsOfOpening error.UnexpectedEof = Unit {0}
IsOfOpening error.PieceLimit = Unit {0}
IsOfOpening error.HandleLimit = Unit {0}
IsOfOpening error.ReadFault = Unit {0}
IsOfOpening error.WriteFault = Unit {0}
IsOfOpening error.NoMemory = Unit {0}
IsOfOpening e = IsSome (trouble_of e)

-- ---- all of it

-- the endpoint with these pieces behind what is unread
abbrev pub with_pieces : BackendView → List Piece → BackendView
with_pieces b [] = b
with_pieces b (p ∷ ps) = with_pieces (with_piece b p) ps

-- the messages that are handled of what the endpoint has, the newest first
abbrev pub handled_of : Greeter → BackendView → List Raw
handled_of g b = (reading_of g (found b.table) b).past

-- an endpoint, and what a sink says of itself
pub record Around : Type 0 where
  pub endpoint : BackendView
  pub sink : SinkView

abbrev pub around : BackendView → SinkView → Around
around endpoint sink = record { endpoint = endpoint; sink = sink }

-- Where the source failed, so many pieces were taken, their messages were handled and answered, and no whole one is left.
pub record HandledAll (g : Greeter) (told : List Piece) (left : Option (List Piece)) (old new : Around) : Type 0 where
  pub k : ℕ
  pub took : TookPieces told left k
  pub waits : (reading_of g (found old.endpoint.table) (with_pieces old.endpoint (take k told))).stop ≡ Waiting
  pub stands : still new.endpoint ≡ still (stopped_at (with_pieces old.endpoint (take k told)) (reading_of g (found old.endpoint.table) (with_pieces old.endpoint (take k told))).rest)
  pub sends : SentAll g old.endpoint (reading_of g (found old.endpoint.table) (with_pieces old.endpoint (take k told))).past old.sink new.sink new.endpoint

-- after these messages the rest is unread, and nothing else of the endpoint changed, but for the connection, where it came
abbrev pub StandsAfter : BackendView → List Raw → BackendView → Type 0
StandsAfter b reached now = (still now ≡ still (stopped_at b now.unread)) ⊎ (still now ≡ still (connected_at (found b.table) 0 b reached now.unread).left)

-- Cut short, with so many pieces taken, the first messages of the handshake were handled, among them all of the pieces before the
-- last; of what is to be sent for them a front went out, among it all that answers the pieces before the last.
pub record CutShort (g : Greeter) (most : ℕ) (told : List Piece) (left : Option (List Piece)) (old new : Around) : Type 0 where
  pub k : ℕ
  pub took : TookPieces told left k
  pub reached : List Raw
  pub ahead : (more : List Raw) × ((opening g most old.endpoint told).past ≡ more ++ reached)
  pub owed : 0 < k → (done : List Raw) × (reached ≡ done ++ handled_of g (with_pieces old.endpoint (take (k - 1) told)))
  pub n : ℕ
  pub sends : SentFront g old.endpoint reached n old.sink new.sink new.endpoint
  pub least : 0 < k → sent_bytes g old.endpoint (handled_of g (with_pieces old.endpoint (take (k - 1) told))) ≤ n
  pub stands : StandsAfter (with_pieces old.endpoint (take k told)) reached new.endpoint

-- Where the sink failed it was asked behind a message that was handled just before: one of the last piece, or where none came one that
-- was unread. All that answers the messages before it went out, and of what is to be sent some is unsent.
pub record FailsToSend (g : Greeter) (most : ℕ) (told : List Piece) (left : Option (List Piece)) (old new : Around) : Type 0 where
  pub short : CutShort g most told left old new
  pub newest : Raw
  pub before : List Raw
  pub reached : short.reached ≡ newest ∷ before
  pub owed : 0 < short.k → (done : List Raw) × (before ≡ done ++ handled_of g (with_pieces old.endpoint (take (short.k - 1) told)))
  pub least : sent_bytes g old.endpoint before ≤ short.n
  pub unsent : 0 < length new.endpoint.unsent

-- Over these pieces, of which those are left, the handshake did what the definitions say.
pub record Opens (g : Greeter) (most : ℕ) (told : List Piece) (left : Option (List Piece)) (result : Result HandshakeResp Error) (old new : Around) : Type 0 where
  pub answer : EndsAs (opening g most old.endpoint told).ending result
  pub stands : IsDecided result → still new.endpoint ≡ still (opening g most old.endpoint told).left
  pub sends : IsDecided result → SentAll g old.endpoint (opening g most old.endpoint told).past old.sink new.sink new.endpoint
  pub taken : IsDecided result → TookPieces told left (opening g most old.endpoint told).taken
  pub pieces : (k : ℕ) × (k ≤ most) × TookPieces told left k
  pub read_fault : IsErrOf result error.ReadFault → HandledAll g told left old new
  pub cut_short : IsCutShort result → CutShort g most told left old new
  pub write_fault : IsErrOf result error.WriteFault → FailsToSend g most told left old new
