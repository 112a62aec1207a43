-- What each call does to the session behind the word.
use Rattle.std.specs.Prelude.{◌≡◌, ◌≢◌, ℕ, ◌++◌, List, [], ◌∷◌, length, take, map, Option, Some, None, is_some, unwrap_or}
use Rattle.std.specs.Option.{option_and_then}
use Rattle.ei_spec.specs.Piece.{Piece}
use Rattle.ei_session.specs.Setup.{Setup}
use Rattle.ei_backend.specs.Outside.{with_more}
use Rattle.ei_request.specs.declared.event.EisRequest.{EisRequest}
use Rattle.reis_server.specs.Fed.{Fed, fed_of}
use Rattle.reis_server.specs.Serving.{IsServing, nothing, IsInputEnd, IsNoInputEnd, feed_answer, end_answer, sent_answer, unsent_after}
use Rattle.ei_request.specs.Connection.{ConnectionView}
use Rattle.ei_types.specs.Enums.{context_type_number}
use Rattle.reis_c.specs.Answers.{answer_number, WritesText, WritesNone}
use Rattle.reis_c.specs.Ending.{end_text}
use Rattle.reis_c.specs.Flat.{flat, text_in}
use Rattle.reis_c.specs.Handles.{handle_of}
use Rattle.reis_c.specs.declared.flat.ReisRequest.{ReisRequest}
use Rattle.reis_c.specs.declared.held.Held.{Held}
use Rattle.reis_c.specs.Numbers.{OK, NO_SESSION, NOTHING}

-- A call works on the session or the connection that is behind the word, and leaves one; where there is none it answers so, and leaves none.
abbrev pub OnWord : {A : Type 0} → Option A → ℕ → Option A → (A → A → Type 0) → Type 0
OnWord None answer None Works = answer ≡ NO_SESSION
OnWord (Some old) answer (Some new) Works = Works old new
OnWord old answer new Works = ⊥

-- A call reads what is behind the word, and leaves it as it is.
abbrev pub ReadsWord : {A : Type 0} → Option A → ℕ → Option A → (A → Type 0) → Type 0
ReadsWord old answer new Says = OnWord old answer new (λ a b. (b ≡ a) × Says a)

-- the text of the request that was handed out last, where it has one
abbrev pub text_of_last : Option EisRequest → Option (List ℕ)
text_of_last last = option_and_then text_in last

-- the text of the error that ended it, where one did
abbrev pub ending_text : Held → Option (List ℕ)
ending_text held = end_text held.server.answer

-- it was started with the setup: nothing was fed to it, nothing taken from it, and it goes on
pub record IsStarted (setup : Setup) (held : Held) : Type 0 where
  pub serves : IsServing setup [] nothing [] held.server
  pub goes_on : held.server.answer ≡ None
  pub none_handed : held.last ≡ None

-- It takes a piece, or answers why not and is as it was. What was handed out last stays.
pub record Feeds (bytes handles : List ℕ) (time answer : ℕ) (old new : Held) : Type 0 where
  pub answers : answer ≡ answer_number (feed_answer (is_some old.server.answer) (length bytes) (length handles))
  pub kept : answer ≢ OK → new ≡ old
  pub serves : answer ≡ OK → (setup : Setup) (fed : List Fed) (sent : Piece) (given : List EisRequest) →
      IsServing setup fed sent given old.server → IsServing setup (fed_of bytes (map handle_of handles) time ∷ fed) sent given new.server
  pub no_end : answer ≡ OK → IsNoInputEnd new.server.answer
  pub last : new.last ≡ old.last

-- It takes the end of the input, or answers that it is over and is as it was.
pub record TakesEnd (answer : ℕ) (old new : Held) : Type 0 where
  pub answers : answer ≡ answer_number (end_answer (is_some old.server.answer))
  pub kept : answer ≢ OK → new ≡ old
  pub serves : answer ≡ OK → (setup : Setup) (fed : List Fed) (sent : Piece) (given : List EisRequest) →
      IsServing setup fed sent given old.server → IsServing setup fed sent given new.server
  pub ends : answer ≡ OK → IsInputEnd new.server.answer
  pub last : new.last ≡ old.last

-- So many of the bytes and handles that wait were sent, and all else stays; or so many don't wait, and all is as it was.
pub record Sends (bytes handles answer : ℕ) (old new : Held) : Type 0 where
  pub answers : answer ≡ answer_number (sent_answer bytes handles old.server.unsent)
  pub kept : answer ≢ OK → new ≡ old
  pub dropped : answer ≡ OK → new ≡ record old { server = record old.server { unsent = unsent_after bytes handles old.server.unsent } }
  pub serves : answer ≡ OK → (setup : Setup) (fed : List Fed) (sent : Piece) (given : List EisRequest) → IsServing setup fed sent given old.server →
      IsServing setup fed (with_more (take bytes old.server.unsent.bytes) (take handles old.server.unsent.handles) sent) given new.server

-- the first of these requests is written, waits no more and is the last one; or there is none, and all is as it was
abbrev pub WritesFirst : List EisRequest → ReisRequest → ℕ → ReisRequest → Held → Held → Type 0
WritesFirst [] room answer request old new = (answer ≡ NOTHING) × (request ≡ room) × (new ≡ old)
WritesFirst (r ∷ rest) room answer request old new =
    (answer ≡ OK) × (request ≡ flat r) × (new ≡ record { server = record old.server { requests = rest }; last = Some r })

-- It hands out the next request: that was taken.
pub record HandsRequest (room : ReisRequest) (answer : ℕ) (request : ReisRequest) (old new : Held) : Type 0 where
  pub next : WritesFirst old.server.requests room answer request old new
  pub serves : (setup : Setup) (fed : List Fed) (sent : Piece) (given : List EisRequest) → IsServing setup fed sent given old.server →
      IsServing setup fed sent (given ++ take 1 old.server.requests) new.server

-- The context type is told by its number, and the name is written, with none of its bytes where the client told none; or no
-- connection stands.
abbrev pub TellsClient : Option ConnectionView → List ℕ → ℕ → ℕ → ℕ → List ℕ → Type 0
TellsClient None old answer context size new = (context ≡ 0) × WritesNone old answer size new
TellsClient (Some c) old answer context size new = (context ≡ context_type_number c.context_type) × WritesText (unwrap_or c.name []) old answer size new
