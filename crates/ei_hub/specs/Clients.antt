-- The clients of a hub, as contracts speak of them.
use Rattle.std.specs.Prelude.{◌≡◌, ℕ, ◌+◌, ◌<◌, List, length, slice_get, Option, Some, None, Result, Err}
use Rattle.ei_backend.specs.Outside.{SourceView, SinkView}
use Rattle.ei_backend.specs.Lent.{LentSink}
use Rattle.ei_session.specs.Setup.{Setup}
use Rattle.ei_types.specs.declared.error.Error.{Error}
use Rattle.ei_serve.specs.Causes.{GreetedInPart}
use Rattle.ei_serve.specs.declared.session.Ended.{Ended as HowEnded}
use Rattle.ei_serve.specs.Serving.{IsSourceEnd}
use Rattle.ei_serve.specs.Standing.{setup_of}
use Rattle.ei_hub.specs.declared.client.Client.{Client}
use Rattle.ei_hub.specs.declared.hub.Hub.{Hub}
use Rattle.ei_hub.specs.declared.join.JoinError.{JoinError}
use Rattle.ei_hub.specs.declared.join.JoinCause.TheVariants as cause
use Rattle.ei_hub.specs.declared.hub.TheConstants.{MOST_CLIENTS}
use Rattle.ei_hub.specs.Alone.{ClientView}

-- what a client shows
abbrev pub seen : {S K : Type 0} → (S → SourceView) → (K → SinkView) → Client S K → ClientView
seen source_view sink_view c = record {
  session = c.session;
  source = source_view c.source;
  requests = c.requests.items;
  sink = sink_view c.sink;
  answer = c.end;
}

-- the clients, by the order in which they joined
abbrev pub clients_of : {S K : Type 0} → Hub S K → List (Client S K)
clients_of hub = hub.clients.items

-- how many there are
abbrev pub count_of : {S K : Type 0} → Hub S K → ℕ
count_of hub = length (clients_of hub)

-- the setup of every session
abbrev pub started_by : {S K : Type 0} → Hub S K → Setup
started_by hub = setup_of hub.setup

-- what is so of the client of that number
abbrev pub ForClient : {S K : Type 0} → ℕ → Hub S K → (Client S K → Type 0) → Type 0
ForClient {S = S} {K = K} n hub P = (c : Client S K) → slice_get (clients_of hub) n ≡ Some c → P c

-- what is so of the client of that number, before and after a call
abbrev pub ForBoth : {S K : Type 0} → ℕ → Hub S K → Hub S K → (Client S K → Client S K → Type 0) → Type 0
ForBoth {S = S} {K = K} n old new P = (c d : Client S K) → slice_get (clients_of old) n ≡ Some c → slice_get (clients_of new) n ≡ Some d → P c d

-- a client of another number is as it was
abbrev pub SameOthers : {S K : Type 0} → ℕ → Hub S K → Hub S K → Type 0
SameOthers n old new = (k : ℕ) → (k ≡ n → ⊥) → slice_get (clients_of new) k ≡ slice_get (clients_of old) k

-- as many clients as before, and the same setup
pub record SameHub {S K : Type 0} (old new : Hub S K) : Type 0 where
  pub count : count_of new ≡ count_of old
  pub setup : started_by new ≡ started_by old

-- one client more, whose number is the count of those before it; these are as they were
pub record OneMore {S K : Type 0} (n : ℕ) (old new : Hub S K) : Type 0 where
  pub number : n ≡ count_of old
  pub room : count_of old < MOST_CLIENTS
  pub count : count_of new ≡ count_of old + 1
  pub others : (k : ℕ) → k < count_of old → slice_get (clients_of new) k ≡ slice_get (clients_of old) k

-- what comes back to a client that could not join: its source as it was, and its sink, with a front of the greeting
pub record ComesBack {S K : Type 0} (view : K → SinkView) (later : K → K → Type 0) (source : S) (sink : K) (e : JoinError S K) : Type 0 where
  pub source_is : e.source ≡ source
  pub greeted_in_part : GreetedInPart (view sink) (view e.sink)
  pub sink_is : LentSink view later (e.cause ≡ cause.WriteFault) sink e.sink

-- the client's end is this error
abbrev pub IsEndOf : Option (Result HowEnded Error) → Error → Type 0
IsEndOf answer e = answer ≡ Some (Err e)

-- the client's end is that of its source
abbrev pub IsInputEnd : Option (Result HowEnded Error) → Type 0
IsInputEnd None = ⊥
IsInputEnd (Some answer) = IsSourceEnd answer
