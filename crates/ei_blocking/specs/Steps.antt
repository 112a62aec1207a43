-- What becomes of one message more of a handshake, and of all that are whole.
use Rattle.std.specs.Prelude.{◌≡◌, ◌≤◌, ◌<◌, ℕ, List, ◌∷◌, ◌++◌, length, Option, Some, None, IsSome, Result, Ok, Err}
use Rattle.ei_spec.specs.Message.{Raw}
use Rattle.ei_spec.specs.Reading.{HeaderLength as LengthFault}
use Rattle.ei_spec.specs.Stream.{Stop, Waiting, Ended, HeaderLength, Refusal, reading, read}
use Rattle.ei_types.specs.declared.error.Error.{Error}
use Rattle.ei_types.specs.declared.error.Error.TheVariants as error
use Rattle.ei_backend.specs.Outside.{SinkView}
use Rattle.ei_backend.specs.Table.{found}
use Rattle.ei_backend.specs.Backend.{BackendView}
use Rattle.ei_greeting.specs.Shaking.{Greeter, Trouble, Parse, judge, versions_told}
use Rattle.ei_greeting.specs.Opening.{reading_of, stopped_at, connected_at, refused_at}
use Rattle.ei_handshake.specs.Client.{ClientView}
use Rattle.ei_handshake.specs.declared.client.HandshakeResp.{HandshakeResp}
use Rattle.ei_blocking.specs.declared.messages.Shaken.{Shaken}
use Rattle.ei_blocking.specs.declared.messages.Shaken.TheVariants as shaken
use Rattle.ei_blocking.specs.Still.{still}
use Rattle.ei_blocking.specs.Sending.{SentAll, SentFront, sent_bytes}
use Rattle.ei_blocking.specs.Blocking.{HandsOver, StandsAfter, trouble_of}

-- After these messages of an endpoint, the newest first, the handshaker was told their versions, and the endpoint has the rest unread,
-- from which the reading goes on.
pub record Shakes (g : Greeter) (b : BackendView) (past : List Raw) (h : ClientView) (now : BackendView) : Type 0 where
  pub told : h ≡ record { greeter = g; versions = versions_told (found b.table) b past }
  pub stands : still now ≡ still (stopped_at b now.unread)
  pub goes_on : reading_of g (found b.table) b ≡ read (judge g (found b.table) b) past now.unread

-- no more messages are whole
pub record Waits (g : Greeter) (b : BackendView) (past : List Raw) (h : ClientView) (now : BackendView) : Type 0 where
  pub shakes : Shakes g b past h now
  pub stops : reading_of g (found b.table) b ≡ reading past now.unread Waiting

-- the newest of these messages handed the connection over
pub record Connects (g : Greeter) (b : BackendView) (past : List Raw) (resp : HandshakeResp) (now : BackendView) : Type 0 where
  pub stops : reading_of g (found b.table) b ≡ reading past now.unread Ended
  pub hands : HandsOver (connected_at (found b.table) 0 b past now.unread).ending resp
  pub stands : still now ≡ still (connected_at (found b.table) 0 b past now.unread).left

-- how the reading stops where a message is refused for that trouble: for its length, or for what it says
abbrev pub StopsAt : Stop Trouble → Trouble → Type 0
StopsAt (HeaderLength n) t = t ≡ Parse (LengthFault n)
StopsAt (Refusal e) t = t ≡ e
StopsAt stop t = ⊥

-- the message behind these is refused
pub record Refuses (g : Greeter) (b : BackendView) (past : List Raw) (e : Error) (now : BackendView) : Type 0 where
  pub trouble : Trouble
  pub is : trouble_of e ≡ Some trouble
  pub rest : List ℕ
  pub stop : Stop Trouble
  pub stops : reading_of g (found b.table) b ≡ reading past rest stop
  pub so : StopsAt stop trouble
  pub stands : still now ≡ still (refused_at 0 b past rest trouble).left

-- these messages are the first of those that are handled
pub record Reaches (g : Greeter) (b : BackendView) (past : List Raw) : Type 0 where
  pub more : List Raw
  pub handled : (reading_of g (found b.table) b).past ≡ more ++ past

-- the sink failed, or memory ran out: these messages were handled, or the first that follow them too, and a front of what is to be sent was
pub record Breaks (g : Greeter) (b : BackendView) (past : List Raw) (old new : SinkView) (now : BackendView) : Type 0 where
  pub behind : List Raw
  pub reaches : Reaches g b (behind ++ past)
  pub n : ℕ
  pub sends : SentFront g b (behind ++ past) n old new now
  pub least : sent_bytes g b past ≤ n
  pub stands : StandsAfter b (behind ++ past) now

-- the sink failed: the message that follows these was handled, a front of what is to be sent was sent, with all before it, and some is unsent
pub record Fails (g : Greeter) (b : BackendView) (past : List Raw) (old new : SinkView) (now : BackendView) : Type 0 where
  pub newest : Raw
  pub reaches : Reaches g b (newest ∷ past)
  pub n : ℕ
  pub sends : SentFront g b (newest ∷ past) n old new now
  pub least : sent_bytes g b past ≤ n
  pub unsent : 0 < length now.unsent
  pub stands : StandsAfter b (newest ∷ past) now

-- what became of the message at the front, where the sink said this when the handshake began
abbrev pub Steps : Greeter → BackendView → List Raw → Result Shaken Error → ClientView → SinkView → SinkView → BackendView → Type 0
Steps g b past (Ok shaken.Waiting) h old new now = Waits g b past h now × SentAll g b past old new now
Steps g b past (Ok shaken.Handled) h old new now = (m : Raw) × Shakes g b (m ∷ past) h now × SentAll g b (m ∷ past) old new now
Steps g b past (Ok (shaken.Connected resp)) h old new now = (m : Raw) × Connects g b (m ∷ past) resp now × SentAll g b (m ∷ past) old new now
Steps g b past (Err error.WriteFault) h old new now = Fails g b past old new now
Steps g b past (Err error.NoMemory) h old new now = Breaks g b past old new now
Steps g b past (Err e) h old new now = Refuses g b past e now × SentAll g b past old new now

-- what became of all messages that are whole: these are handled
abbrev pub StepsOn : Greeter → BackendView → List Raw → Result (Option HandshakeResp) Error → ClientView → SinkView → SinkView → BackendView → Type 0
StepsOn g b past (Ok None) h old new now = Waits g b past h now × SentAll g b past old new now
StepsOn g b past (Ok (Some resp)) h old new now = Connects g b past resp now × SentAll g b past old new now
StepsOn g b past (Err error.WriteFault) h old new now = Fails g b past old new now
StepsOn g b past (Err error.NoMemory) h old new now = Breaks g b past old new now
StepsOn g b past (Err e) h old new now = Refuses g b past e now × SentAll g b past old new now

-- an error that a message may bring
abbrev pub IsOfMessages : Error → Type 0
IsOfMessages error.WriteFault = Unit {0}
IsOfMessages error.NoMemory = Unit {0}
IsOfMessages e = IsSome (trouble_of e)
