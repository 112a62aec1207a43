-- What comes of a program of the fixed policy: what it hands out and writes is what a session hands out and replies.
use Rattle.std.specs.Prelude.{◌≡◌, ◌⊎◌, ℕ, List, [], ◌∷◌, ◌++◌, length, map, Some, None, Err}
use Rattle.ei_spec.specs.Message.{Raw, all_bytes}
use Rattle.ei_spec.specs.History.{each}
use Rattle.ei_spec.specs.Groups.{frames_made, gives}
use Rattle.ei_spec.specs.Piece.{Piece}
use Rattle.ei_session.specs.Setup.{Setup}
use Rattle.ei_session.specs.Requests.{slot}
use Rattle.ei_session.specs.Events.{reply, replies}
use Rattle.ei_session.specs.Served.{Answer, Disconnect, End, session}
use Rattle.ei_request.specs.declared.event.EisRequest.{EisRequest}
use Rattle.ei_standing.specs.Standing.{request_in_code}
use Rattle.ei_serve.specs.Serving.{AnswersAs, HandsOut}
use Rattle.ei_serve.specs.Taking.{with_next}
use Rattle.reis_eis.specs.declared.ending.Ending.{Ending}
use Rattle.reis_eis.specs.declared.ending.Ending.TheVariants as ending
use Rattle.reis_eis.specs.View.{EisView}
use Rattle.reis_eis.specs.Words.{unsent_in}
use Rattle.reis_eis.specs.Starting.{started}
use Rattle.reis_alike.specs.Standing.{StandsFor}
use Rattle.reis_alike.specs.Program.{Came, unread_with, HasOneAtMost, Turns, WritesAll, WritesBehind}

-- ---- a turn

-- a message takes its own time as a reading of the clock, where it makes a frame, and else none
abbrev pub IsReadAt : ℕ → List ℕ → Type 0
IsReadAt time used = (used ≡ []) ⊎ (used ≡ time ∷ [])

-- One more message was taken and answered. The connection stands for it, with the readings used; what it gives was
-- handed out, for any readings that go on with these; and what waits to be written grew by what answers it.
pub record TakesMessage (setup : Setup) (past : List Raw) (m : Raw) (readings : List ℕ) (time : ℕ) (old : EisView)
    (handed : List EisRequest) (new : EisView) : Type 0 where
  pub used : List ℕ
  pub read : IsReadAt time used
  pub stands : StandsFor setup (m ∷ past) (readings ++ used) new.phase
  pub requests : (later : List ℕ) →
      handed
      ≡ map (request_in_code past) (gives ((readings ++ used) ++ later) (each (slot setup) past) (slot setup past m))
  pub replies : (unsent_in new.phase).bytes ≡ (unsent_in old.phase).bytes ++ all_bytes (reply setup past m)

-- ---- a run

-- It began: the greeting was written.
pub record Begins (setup : Setup) (out : List EisRequest) (written : List ℕ) (new : EisView) : Type 0 where
  pub none : out ≡ []
  pub writes : WritesAll written (started setup.serial) new

-- It went on by one turn: a piece came that makes at most one message whole, and behind the turn it wrote.
pub record RunsOn (setup : Setup) (before : List EisRequest → List ℕ → EisView → Type 0) (c : Came)
    (out : List EisRequest) (written : List ℕ) (new : EisView) : Type 0 where
  pub out_before : List EisRequest
  pub written_before : List ℕ
  pub old : EisView
  pub runs : before out_before written_before old
  pub going : old.ending ≡ None
  pub one : HasOneAtMost (unread_with old c)
  pub handed : List EisRequest
  pub turned : EisView
  pub turns : Turns setup c old handed turned
  pub more : List ℕ
  pub writes : WritesBehind turned.ending more turned new
  pub out_is : out ≡ out_before ++ handed
  pub written_is : written ≡ written_before ++ more

-- what it handed out and wrote, where these pieces came, of which the newest stands first
abbrev pub Runs : Setup → List Came → List EisRequest → List ℕ → EisView → Type 0
Runs setup [] out written new = Begins setup out written new
Runs setup (c ∷ before) out written new = RunsOn setup (Runs setup before) c out written new

-- the pieces in the order in which they came
abbrev pub pieces_of : List Came → List Piece
pieces_of [] = []
pieces_of (c ∷ before) = with_next (pieces_of before) c.piece

-- these are times of the pieces, in their order
abbrev pub AreTimes : List Came → List ℕ → Type 0
AreTimes [] readings = readings ≡ []
AreTimes (c ∷ before) readings =
    (earlier : List ℕ) × (used : List ℕ) × AreTimes before earlier × IsReadAt c.time used × (readings ≡ earlier ++ used)

-- What was handed out and written is what a session hands out and replies over these pieces, with some of their times
-- as the readings of its clock: one for each frame that it makes.
pub record ServesAlike (setup : Setup) (came : List Came) (out : List EisRequest) (written : List ℕ) : Type 0 where
  pub readings : List ℕ
  pub times : AreTimes came readings
  pub frames : length readings ≡ frames_made (each (slot setup) (session setup (pieces_of came)).handled)
  pub requests : HandsOut setup (session setup (pieces_of came)).handled (Some readings) [] out
  pub replies : written ≡ all_bytes (replies setup (session setup (pieces_of came)).handled)

-- how the connection ended is what the session answers; the fixed policy never tells its client that it ends
abbrev pub EndsAs : Answer → Ending → Type 0
EndsAs a ending.Disconnected = a ≡ Disconnect
EndsAs a ending.End = a ≡ End
EndsAs a ending.Told = ⊥
EndsAs a (ending.Refused e) = AnswersAs a (Err e)
