-- What becomes of the message at the front.
use Rattle.std.specs.Prelude.{◌≡◌, ◌⊎◌, ℕ, ◌+◌, Bool, true, false, ◌<◌, ◌≤◌, ◌^◌, List, [], ◌∷◌, ◌++◌, take, map, length, codes, is_some, Option, Some}
use Rattle.std.specs.Prelude.{None, Result, Ok, Err}
use Rattle.std.specs.List.{All}
use Rattle.ei_spec.specs.declared.handle.Handle.{Handle}
use Rattle.ei_spec.specs.Interface.{ObjectView}
use Rattle.ei_spec.specs.Message.{Raw, Short, Unlawful, Whole, front, all_bytes}
use Rattle.ei_types.specs.Capability.{all_bits}
use Rattle.ei_spec.specs.Piece.{Piece}
use Rattle.ei_spec.specs.History.{each}
use Rattle.ei_spec.specs.Groups.{frames_made}
use Rattle.ei_spec.specs.declared.interface.KnownInterface.{KnownInterface}
use Rattle.ei_spec.specs.Stream.{Accepted, Final, Refused, read}
use Rattle.ei_session.specs.Setup.{Setup, connection_id}
use Rattle.ei_session.specs.Handshake.{connected, version, is_finish, settled}
use Rattle.ei_session.specs.Devices.{exhausts}
use Rattle.ei_session.specs.SettledMap.{settled_map}
use Rattle.ei_session.specs.Refusals.{Refusal, came, judge, verdict}
use Rattle.ei_session.specs.Meaning.{Finishes}
use Rattle.ei_session.specs.ByMeaning.{shake_refusal}
use Rattle.ei_session.specs.Requests.{framed, slot, Request as Asked}
use Rattle.ei_session.specs.Replies.{finish_events, settled_events, connection_event}
use Rattle.ei_session.specs.Events.{reply, replies}
use Rattle.ei_backend.specs.Outside.{Rose, SinkView, with_more}
use Rattle.ei_backend.specs.Outgoing.{IsLeftOf, IsPutOf}
use Rattle.ei_backend.specs.Endpoint.{Endpoint, endpoint_of}
use Rattle.ei_backend.specs.Backend.{BackendView}
use Rattle.ei_handshake.specs.Handshaker.{HandshakerView}
use Rattle.ei_handshake.specs.declared.server.EisHandshakeResp.{EisHandshakeResp}
use Rattle.ei_request.specs.Converter.{ConverterView}
use Rattle.ei_request.specs.declared.event.EisRequest.{EisRequest}
use Rattle.ei_standing.specs.Standing.{handed_as}
use Rattle.ei_types.specs.declared.error.Error.{Error}
use Rattle.ei_types.specs.declared.error.Error.TheVariants as error
use Rattle.ei_wire.specs.declared.error.ParseError.TheVariants as parse_error
use Rattle.ei_serve.specs.declared.handshaking.Shaken.{Shaken}
use Rattle.ei_serve.specs.declared.handshaking.Shaken.TheVariants as shaken
use Rattle.ei_serve.specs.declared.phase.Phase.{Phase}
use Rattle.ei_serve.specs.declared.phase.Phase.TheVariants as phase
use Rattle.ei_serve.specs.declared.phase.Rejected.{Rejected}
use Rattle.ei_serve.specs.declared.phase.Step.{Step}
use Rattle.ei_serve.specs.declared.phase.Step.TheVariants as step
use Rattle.ei_serve.specs.Refusing.{refusal_of}
use Rattle.ei_serve.specs.Wanting.{MayWant, IsWanted}
use Rattle.ei_serve.specs.Around.{Around, around, no_source, AreDrawn, LeavesReadings}
use Rattle.ei_serve.specs.Standing.{StandsAt, ShakesHands, IsConnected, most_capacity, quiet, connection_object, connection_table}

-- ---- what a session gives and answers

-- the versions of these messages, once the connection stands
abbrev pub AreVersions : List Raw → (KnownInterface → ℕ) → Type 0
AreVersions reached versions = connected reached ≡ true → (interface : KnownInterface) → version reached interface ≡ versions interface

-- The requests grew by those that the messages reached give beyond those before, with these readings and any that follow them.
pub record GivesOut (setup : Setup) (before reached : List Raw) (times used : List ℕ) (old new : List EisRequest) : Type 0 where
  pub more : List Asked
  pub grown : (versions : KnownInterface → ℕ) → AreVersions reached versions → new ≡ old ++ map (handed_as versions) more
  pub framed_is : (later : List ℕ) → framed setup ((times ++ used) ++ later) reached ≡ framed setup ((times ++ used) ++ later) before ++ more

-- these bytes, and no handle
abbrev pub bytes_only : List ℕ → Piece
bytes_only bytes = record { bytes = bytes; handles = [] }

-- A sink that told what it held has these messages behind that. At each call it was put what was left of them. Its count of wants
-- has not fallen.
pub record IsTold (messages : List Raw) (old new : SinkView) : Type 0 where
  pub told : (held : Piece) → old.taken ≡ Some held → new.taken ≡ Some (with_more (all_bytes messages) [] held)
  pub puts : IsPutOf (bytes_only (all_bytes messages)) old.puts new.puts
  pub wants : old.wants ≤ new.wants

-- or only a front of their bytes
pub record IsToldInPart (messages : List Raw) (old new : SinkView) : Type 0 where
  pub told : (held : Piece) → old.taken ≡ Some held → (n : ℕ) × (new.taken ≡ Some (with_more (take n (all_bytes messages)) [] held))
  pub puts : IsPutOf (bytes_only (all_bytes messages)) old.puts new.puts

-- What is put is left of what answers one message on the way from some to others: of its answer alone, and at least one byte.
pub record IsLeftOfAnswer (setup : Setup) (before reached : List Raw) (put : Piece) : Type 0 where
  pub past : List Raw
  pub m : Raw
  pub behind : (done : List Raw) × (past ≡ done ++ before)
  pub ahead : (more : List Raw) × (reached ≡ more ++ m ∷ past)
  pub left : IsLeftOf (bytes_only (all_bytes (reply setup past m))) put

-- where a sink told what was put to it, it was put what was left of one answer at each call
pub record PutsOne (setup : Setup) (before reached : List Raw) (puts : List Piece) (new : Option (List Piece)) : Type 0 where
  pub more : List Piece
  pub grown : new ≡ Some (puts ++ more)
  pub each : All (IsLeftOfAnswer setup before reached) more

abbrev pub PutsAnswers : Setup → List Raw → List Raw → Option (List Piece) → Option (List Piece) → Type 0
PutsAnswers setup before reached old new = (puts : List Piece) → old ≡ Some puts → PutsOne setup before reached puts new

-- a sink that told what it held has the further replies behind that, and each was put for itself
pub record Replies (setup : Setup) (before reached : List Raw) (old new : SinkView) : Type 0 where
  pub told : (held : Piece) → old.taken ≡ Some held → (more : List Raw) × (replies setup reached ≡ replies setup before ++ more) × (new.taken ≡ Some (with_more (all_bytes more) [] held))
  pub puts : PutsAnswers setup before reached old.puts new.puts
  pub wants : old.wants ≤ new.wants

-- or only a front of their bytes
pub record RepliesInPart (setup : Setup) (before reached : List Raw) (old new : SinkView) : Type 0 where
  pub told : (held : Piece) → old.taken ≡ Some held → (more : List Raw) × (n : ℕ) × (replies setup reached ≡ replies setup before ++ more) × (new.taken ≡ Some (with_more (take n (all_bytes more)) [] held))
  pub puts : PutsAnswers setup before reached old.puts new.puts

-- what was given and answered on the way from some messages to others, and the readings used
pub record Goes (setup : Setup) (before reached : List Raw) (times used : List ℕ) (old new : Around) : Type 0 where
  pub behind : (done : List Raw) × (reached ≡ done ++ before)
  pub gives : GivesOut setup before reached times used old.out new.out
  pub replies : Replies setup before reached old.sink new.sink
  pub drawn : AreDrawn used old.readings
  pub leaves : LeavesReadings used old.readings new.readings
  pub frames : length used + frames_made (each (slot setup) before) ≡ frames_made (each (slot setup) reached)

-- The same, broken off: the messages reached lie between those before and the last ones, and the sink may
-- have taken only a front of the further replies. A reading more may be used than their frames took.
pub record GoesInPart (setup : Setup) (before last : List Raw) (times : List ℕ) (old new : Around) : Type 0 where
  pub reached : List Raw
  pub used : List ℕ
  pub behind : (done : List Raw) × (reached ≡ done ++ before)
  pub ahead : (more : List Raw) × (last ≡ more ++ reached)
  pub gives : GivesOut setup before reached times used old.out new.out
  pub replies : RepliesInPart setup before reached old.sink new.sink
  pub drawn : AreDrawn used old.readings
  pub leaves : LeavesReadings used old.readings new.readings
  pub least : frames_made (each (slot setup) reached) ≤ length used + frames_made (each (slot setup) before)
  pub most : length used + frames_made (each (slot setup) before) ≤ frames_made (each (slot setup) reached) + 1

-- broken off on the way to the last message of these bytes that can be handled
abbrev pub Breaks : Setup → List Raw → List ℕ → List ℕ → Around → Around → Type 0
Breaks setup before times rest old new = GoesInPart setup before (read (judge setup) before rest).past times old new

-- the same, for want of memory
pub record BreaksFull (setup : Setup) (before : List Raw) (times rest : List ℕ) (old new : Around) : Type 0 where
  pub breaks : Breaks setup before times rest old new
  pub wanted : IsWanted (read (judge setup) before rest) breaks.reached old.sink new.sink

-- ---- one message

-- what was answered, where why the message is refused stands beside the answer
abbrev pub told : {T : Type 0} → Result T Rejected → Error → Result T Error
told (Ok x) why = Ok x
told (Err r) why = Err why

-- the message at the front is whole, and refused so
abbrev pub RefusesFront : Setup → List Raw → List ℕ → Option Refusal → Type 0
RefusesFront setup past rest None = ⊥
RefusesFront setup past rest (Some refusal) = (m : Raw) × (after : List ℕ) × (front rest ≡ Whole m after) × (judge setup past m ≡ Refused refusal)

-- how the message at the front is refused
abbrev pub Refuses : Setup → List Raw → List ℕ → Error → Type 0
Refuses setup past rest (error.Parse (parse_error.HeaderLength n)) = front rest ≡ Unlawful n
Refuses setup past rest error.NoMemory = MayWant setup past rest
Refuses setup past rest e = RefusesFront setup past rest (refusal_of e)

-- an endpoint that has nothing but these messages to send
abbrev pub with_unsent : List Raw → Endpoint → Endpoint
with_unsent messages e = record e { unsent = all_bytes messages }

-- what the handshake answers at a finish that is taken: the connection, and the events that hand it over
pub record HandsOver (setup : Setup) (before : List Raw) (after : List ℕ) (handles : List Handle) (resp : EisHandshakeResp) (b : BackendView) : Type 0 where
  pub connection : resp.connection ≡ connection_object
  pub name : is_some resp.name ≡ came (codes "name") before
  pub versions : resp.negotiated_interfaces ≡ settled_map before
  pub lawful : setup.capabilities ≤ all_bits
  pub in_range : setup.serial < 2 ^ 32
  pub ring : b.capacity ≤ most_capacity
  pub endpoint : endpoint_of b ≡ with_unsent (settled_events 0 (settled before) ++ connection_event 0 setup.serial connection_id ∷ []) (quiet connection_table after handles)

-- The message at the front was the finish: it was taken out, and nothing is done of it yet. What was announced before says
-- whether it is accepted.
pub record AsksToFinish (setup : Setup) (past : List Raw) (rest : List ℕ) (handles : List Handle) (proxy : ObjectView) (b : BackendView) (h : HandshakerView) : Type 0 where
  pub m : Raw
  pub after : List ℕ
  pub front_is : front rest ≡ Whole m after
  pub finish_is : is_finish m ≡ true
  pub judged : judge setup past m ≡ verdict (shake_refusal past Finishes) false
  pub id_is : proxy.id ≡ 0
  pub stands : ShakesHands setup past after handles b h

-- what becomes of the message at the front during the handshake
abbrev pub Shakes : Setup → List Raw → List ℕ → List Handle → Result Shaken Error → BackendView → HandshakerView → Type 0
Shakes setup past rest handles (Ok shaken.Waiting) b h = (front rest ≡ Short) × ShakesHands setup past rest handles b h
Shakes setup past rest handles (Ok shaken.Handled) b h = (m : Raw) × (after : List ℕ) × (front rest ≡ Whole m after) × (judge setup past m ≡ Accepted) × (is_finish m ≡ false) × ShakesHands setup (m ∷ past) after handles b h
Shakes setup past rest handles (Ok (shaken.Finish proxy)) b h = AsksToFinish setup past rest handles proxy b h
Shakes setup past rest handles (Err e) b h = Refuses setup past rest e

-- the sink took all the events that answer the finish, or a front of them
abbrev pub TellsFinish : Setup → List Raw → SinkView → SinkView → Type 0
TellsFinish setup before old new = IsTold (finish_events setup before) old new

abbrev pub TellsFinishInPart : Setup → List Raw → SinkView → SinkView → Type 0
TellsFinishInPart setup before old new = IsToldInPart (finish_events setup before) old new

-- how the sink isn't told all of them: it was cut off, or there was no memory before the first
abbrev pub CutsOff : Setup → List Raw → Error → SinkView → SinkView → Type 0
CutsOff setup before error.WriteFault old new = TellsFinishInPart setup before old new
CutsOff setup before error.NoMemory old new = (new ≡ old) ⊎ (Rose old.wants new.wants × TellsFinishInPart setup before old new)
CutsOff setup before e old new = ⊥

-- the connection stands and the sink was told, or it wasn't told all
abbrev pub Connects : Setup → List Raw → Raw → List ℕ → List Handle → Result ConverterView Error → SinkView → SinkView → Type 0
Connects setup before finish after handles (Ok c) old new = IsConnected setup (finish ∷ before) [] after handles c × TellsFinish setup before old new
Connects setup before finish after handles (Err e) old new = CutsOff setup before e old new

-- the same of a phase that shakes hands still
abbrev pub HandsOverIn : Setup → List Raw → List ℕ → List Handle → EisHandshakeResp → Phase → Type 0
HandsOverIn setup before after handles resp (phase.Handshake b h) = HandsOver setup before after handles resp b
HandsOverIn setup before after handles resp (phase.Connected c) = ⊥
HandsOverIn setup before after handles resp phase.Over = ⊥

abbrev pub ConnectsPhase : Setup → List Raw → Raw → List ℕ → List Handle → Result Unit Error → Phase → SinkView → SinkView → Type 0
ConnectsPhase setup before finish after handles (Ok x) p old new = StandsAt setup (finish ∷ before) [] after handles p × TellsFinish setup before old new
ConnectsPhase setup before finish after handles (Err e) p old new = CutsOff setup before e old new

-- the finish was at the front of a phase that shakes hands still, before which no reading is used
abbrev pub AsksToFinishIn : Setup → List Raw → List ℕ → List ℕ → List Handle → ObjectView → Phase → Type 0
AsksToFinishIn setup past times rest handles proxy (phase.Handshake b h) = (times ≡ []) × AsksToFinish setup past rest handles proxy b h
AsksToFinishIn setup past times rest handles proxy (phase.Connected c) = ⊥
AsksToFinishIn setup past times rest handles proxy phase.Over = ⊥

-- ---- a step, in either phase

-- there was no whole message
pub record Waits (setup : Setup) (past : List Raw) (times rest : List ℕ) (handles : List Handle) (p : Phase) (old new : Around) : Type 0 where
  pub short : front rest ≡ Short
  pub stands : StandsAt setup past times rest handles p
  pub goes : Goes setup past past times [] old new

-- the message at the front was handled, and the phase stands for it
pub record HandlesOne (setup : Setup) (past : List Raw) (times rest : List ℕ) (handles : List Handle) (p : Phase) (old new : Around) : Type 0 where
  pub m : Raw
  pub after : List ℕ
  pub front_is : front rest ≡ Whole m after
  pub accepted : judge setup past m ≡ Accepted
  pub used : List ℕ
  pub stands : StandsAt setup (m ∷ past) (times ++ used) after handles p
  pub goes : Goes setup past (m ∷ past) times used old new

-- the message at the front is the last: the client disconnected, or the ids ran out
pub record EndsWith (setup : Setup) (past : List Raw) (times rest : List ℕ) (exhausted : Bool) (old new : Around) : Type 0 where
  pub m : Raw
  pub after : List ℕ
  pub front_is : front rest ≡ Whole m after
  pub final : judge setup past m ≡ Final
  pub exhausts_is : exhausts past m ≡ exhausted
  pub goes : Goes setup past (m ∷ past) times [] old new

-- how a step is refused
abbrev pub RefusesStep : Setup → List Raw → List ℕ → List ℕ → Error → Around → Around → Type 0
RefusesStep setup past times rest error.WriteFault old new = Breaks setup past times rest old new
RefusesStep setup past times rest error.NoMemory old new = BreaksFull setup past times rest old new
RefusesStep setup past times rest error.IdsExhausted old new = EndsWith setup past times rest true old new
RefusesStep setup past times rest e old new = Refuses setup past rest e × Goes setup past past times [] old new

-- what becomes of the message at the front
abbrev pub Steps : Setup → List Raw → List ℕ → List ℕ → List Handle → Result Step Error → Phase → Around → Around → Type 0
Steps setup past times rest handles (Ok step.Waiting) p old new = Waits setup past times rest handles p old new
Steps setup past times rest handles (Ok step.Handled) p old new = HandlesOne setup past times rest handles p old new
Steps setup past times rest handles (Ok step.Disconnect) p old new = EndsWith setup past times rest false old new
Steps setup past times rest handles (Err e) p old new = RefusesStep setup past times rest e old new

-- the same during the handshake: nothing is handed out and no reading is taken, whatever was handed out and is left to read
abbrev pub StepsInHandshake : Setup → List Raw → List ℕ → List ℕ → List Handle → Result Step Error → Phase → SinkView → SinkView → Type 0
StepsInHandshake setup past times rest handles r p old new = (out : List EisRequest) (readings : Option (List ℕ)) →
    Steps setup past times rest handles r p (around no_source out old readings) (around no_source out new readings)
