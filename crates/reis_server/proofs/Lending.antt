-- A turn over what was lent.
use Rattle.std.proofs.Common.{◌≡◌, ℕ, ◌≤◌, List, [], ◌∷◌, ◌++◌, length, Option, Some, None, Result, Ok, Err, refl, ap, sym, subst, ◌∙◌, arith}
use Rattle.std.specs.Prelude.{replicate, IsErrOf}
use Rattle.ei_spec.specs.declared.handle.Handle.{Handle}
use Rattle.ei_spec.specs.Message.{Raw}
use Rattle.ei_spec.specs.Piece.{Piece, stream}
use Rattle.ei_session.specs.Setup.{Setup}
use Rattle.ei_session.specs.Served.{reading_of, accepted}
use Rattle.ei_backend.specs.Outside.{SourceView, Rose}
use Rattle.ei_backend.specs.declared.outside.LastAnswer.{LastAnswer}
use Rattle.ei_request.specs.declared.event.EisRequest.{EisRequest}
use Rattle.ei_types.specs.declared.error.Error.{Error}
use Rattle.ei_types.specs.declared.error.Error.TheVariants as error
use Rattle.ei_serve.specs.declared.session.Session.{Session}
use Rattle.ei_serve.specs.declared.session.Turn.{Turn}
use Rattle.ei_serve.specs.declared.session.Ended.{Ended}
use Rattle.ei_serve.specs.Around.{around}
use Rattle.ei_serve.specs.Causes.{NoFault}
use Rattle.ei_serve.specs.Standing.{Stands, StandsAt, IsOver}
use Rattle.ei_serve.specs.declared.phase.Phase.{Phase}
use Rattle.ei_serve.specs.declared.phase.Phase.TheVariants as phase
use Rattle.ei_serve.specs.Turning.{Turns}
use Rattle.reis_server.specs.Lent.{lent, lent_view, replies_view}
use Rattle.ei_serve.specs.EndedBy.{ended_by}
use Rattle.reis_server.specs.Fed.{Fed, pieces_of, readings_of}
use Rattle.reis_server.specs.View.{ServerView}
use Rattle.reis_server.specs.Serving.{GoesOn, StandsWith, IsServing, HasServed, TakesLent, EndsLent}
use Rattle.reis_server.proofs.Feeding.{took_one, took_none}

-- a count that stays didn't rise
pub never_rose : {P : Type 0} → Rose 0 0 → P
never_rose h = absurd (omega (arith, h))

pub no_fault : (r : Result Turn Error) → (IsErrOf r error.ReadFault → ⊥) → (IsErrOf r error.WriteFault → ⊥) → NoFault r
no_fault (Ok x) read write = tt
no_fault (Err error.ReadFault) read write = read refl
no_fault (Err error.WriteFault) read write = write refl
no_fault (Err e) read write = tt

-- what a turn makes of the piece that was lent, or of none
module _ (ready coming : List EisRequest) (s : Session) (unsent : Piece) (k time : ℕ) (t : Session) (new : Piece) (coming_new : List EisRequest) (had : List Piece) (was : LastAnswer) (source_new : SourceView) (readings_new : Option (List ℕ))
    (turned : Result Turn Error) (enough : 4294967296 ≤ k) (ok : NoFault turned) (setup : Setup) (fed : List Fed) (sent : Piece) (given : List EisRequest)
    (on : GoesOn setup fed sent given (record { session = s; unsent = unsent; requests = ready ++ coming; answer = None })) where
  abbrev after : ServerView
  after = record { session = t; unsent = new; requests = ready ++ coming_new; answer = ended_by turned }

  abbrev TurnsOver : List Piece → Type 0
  TurnsOver left = Turns setup (pieces_of fed) (readings_of setup fed) turned t (around (lent_view left had was) coming (replies_view unsent) (Some (replicate k time))) (around source_new coming_new (replies_view new) readings_new)

  abbrev Takes : List Piece → Type 0
  Takes left = TakesLent setup fed sent given left time after × EndsLent left (ended_by turned)

  pub lent_taken : (bytes : List ℕ) (handles : List Handle) → length bytes ≤ 65536 → TurnsOver (lent bytes handles) → Takes (lent bytes handles)
  lent_taken [] handles short h = took_none setup fed sent given ready coming s unsent on k time t new coming_new had was source_new readings_new turned ok h
  lent_taken (b ∷ bytes) handles short h =
      took_one setup fed sent given ready coming s unsent on k time (record { bytes = b ∷ bytes; handles = handles }) short enough t new coming_new had was source_new readings_new turned ok h

-- a session that stands for its pieces isn't over
over_stands : (setup : Setup) (past : List Raw) (times rest : List ℕ) (handles : List Handle) (p : Phase) → p ≡ phase.Over → StandsAt setup past times rest handles p → ⊥
over_stands setup past times rest handles p e h = let P : Phase → Type 0 = λ q. StandsAt setup past times rest handles q in subst P e h

not_over : (setup : Setup) (pieces : List Piece) (times : List ℕ) (s : Session) → Stands setup pieces times s → IsOver s → ⊥
not_over setup pieces times s h over = over_stands setup (accepted setup (stream pieces)) times (reading_of setup (stream pieces)).rest h.unread s.phase over h.phase

-- it stands for some history then
served_lent : (setup : Setup) (fed : List Fed) (sent : Piece) (given : List EisRequest) (left : List Piece) (time : ℕ) (v : ServerView) → TakesLent setup fed sent given left time v → HasServed v
served_lent setup fed sent given [] time v h = record { setup = setup; fed = fed; sent = sent; given = given; serving = h }
served_lent setup fed sent given (piece ∷ left) time v h = record { setup = setup; fed = record { piece = piece; time = time } ∷ fed; sent = sent; given = given; serving = h }

-- the same of a server as its contract shows it
module _ (ready coming queue : List EisRequest) (was_queued : queue ≡ ready ++ coming) (s : Session) (unsent : Piece) (old_answer : Option (Result Ended Error)) (v : ServerView)
    (view_is : record { session = s; unsent = unsent; requests = queue; answer = old_answer } ≡ v) (none : v.answer ≡ None) where
  abbrev shown : Option (Result Ended Error) → ServerView
  shown answer = record { session = s; unsent = unsent; requests = queue; answer = answer }

  old_none : old_answer ≡ None
  old_none = ap (λ (w : ServerView). w.answer) view_is ∙ none

  pub goes_on : (setup : Setup) (fed : List Fed) (sent : Piece) (given : List EisRequest) → IsServing setup fed sent given v → GoesOn setup fed sent given (shown None)
  goes_on setup fed sent given h =
      subst (λ (a : Option (Result Ended Error)). StandsWith setup fed a sent given (shown a)) old_none (subst (λ (w : ServerView). IsServing setup fed sent given w) (sym view_is) h)

  pub still_on : HasServed (shown old_answer) → IsOver s → ⊥
  still_on h =
      let w = subst HasServed view_is h in
      not_over w.setup (pieces_of w.fed) (readings_of w.setup w.fed) s (goes_on w.setup w.fed w.sent w.given w.serving).stands

  module _ (k time_read time : ℕ) (time_is : time_read ≡ time) (t : Session) (new : Piece) (coming_new queue_new : List EisRequest) (queued : queue_new ≡ ready ++ coming_new) (had : List Piece) (was : LastAnswer) (source_new : SourceView) (readings_new : Option (List ℕ))
      (turned : Result Turn Error) (answer : Option (Result Ended Error)) (answer_is : answer ≡ ended_by turned) (enough : 4294967296 ≤ k) (ok : NoFault turned)
      (bytes_lent bytes : List ℕ) (bytes_are : bytes_lent ≡ bytes) (handles_lent handles : List Handle) (handles_are : handles_lent ≡ handles) (short : length bytes ≤ 65536)
      (turns : (setup : Setup) (pieces : List Piece) (times : List ℕ) → Stands setup pieces times s →
      Turns setup pieces times turned t (around (lent_view (lent bytes_lent handles_lent) had was) coming (replies_view unsent) (Some (replicate k time_read))) (around source_new coming_new (replies_view new) readings_new)) where
    abbrev later : ServerView
    later = record { session = t; unsent = new; requests = queue_new; answer = answer }

    took_lent : (setup : Setup) (fed : List Fed) (sent : Piece) (given : List EisRequest) → IsServing setup fed sent given v → TakesLent setup fed sent given (lent bytes handles) time later × EndsLent (lent bytes handles) answer
    took_lent setup fed sent given h =
        let on = subst (λ (r : List EisRequest). GoesOn setup fed sent given (record { session = s; unsent = unsent; requests = r; answer = None })) was_queued (goes_on setup fed sent given h) in
        let turn = turns setup (pieces_of fed) (readings_of setup fed) on.stands in
        let x = lent_taken ready coming s unsent k time_read t new coming_new had was source_new readings_new turned enough ok setup fed sent given on bytes_lent handles_lent (subst (λ (b : List ℕ). length b ≤ 65536) (sym bytes_are) short) turn in
        rw (answer_is, queued, ← time_is, ← bytes_are, ← handles_are) x

    pub took : (setup : Setup) (fed : List Fed) (sent : Piece) (given : List EisRequest) → IsServing setup fed sent given v → TakesLent setup fed sent given (lent bytes handles) time later
    took setup fed sent given h = (took_lent setup fed sent given h).0

    abbrev served_so : HasServed (shown old_answer) → HasServed v
    served_so h = subst HasServed view_is h

    pub ends_so : HasServed (shown old_answer) → EndsLent (lent bytes handles) answer
    ends_so h = let w = served_so h in (took_lent w.setup w.fed w.sent w.given w.serving).1

    pub serves_on : HasServed (shown old_answer) → HasServed later
    serves_on h = let w = served_so h in served_lent w.setup w.fed w.sent w.given (lent bytes handles) time later (took w.setup w.fed w.sent w.given w.serving)
