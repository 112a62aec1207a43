-- What a server knows of its client.
use Rattle.std.proofs.Common.{◌≡◌, ℕ, List, Option, None, Result, ap, sym, subst, ◌∙◌}
use Rattle.ei_spec.specs.Message.{Raw}
use Rattle.ei_spec.specs.Piece.{Piece, stream}
use Rattle.ei_session.specs.Setup.{Setup}
use Rattle.ei_session.specs.Served.{accepted}
use Rattle.ei_request.specs.Connection.{ConnectionView}
use Rattle.ei_request.specs.declared.event.EisRequest.{EisRequest}
use Rattle.ei_types.specs.declared.error.Error.{Error}
use Rattle.ei_serve.specs.declared.session.Ended.{Ended}
use Rattle.ei_serve.specs.Standing.{Stands, IsClientAfter}
use Rattle.reis_server.specs.Fed.{Fed, pieces_of, readings_of, handled}
use Rattle.reis_server.specs.View.{ServerView}
use Rattle.reis_server.specs.Serving.{GoesOn, StandsWith, IsServing}
use Rattle.reis_server.proofs.Feeding.{handled_is}

-- what the session knows after the pieces that were fed
pub client_told : (setup : Setup) (fed : List Fed) (sent : Piece) (given : List EisRequest) (v : ServerView) (shown : Option ConnectionView) → v.answer ≡ None
    → ((pieces : List Piece) (times : List ℕ) → Stands setup pieces times v.session → IsClientAfter (accepted setup (stream pieces)) shown)
    → IsServing setup fed sent given v → IsClientAfter (handled setup fed) shown
client_told setup fed sent given v shown none knows h =
    let on : GoesOn setup fed sent given v = subst (λ (a : Option (Result Ended Error)). StandsWith setup fed a sent given v) none h in
    subst (λ (past : List Raw). IsClientAfter past shown) (sym (handled_is setup fed on.stands.goes_on)) (knows (pieces_of fed) (readings_of setup fed) on.stands)

-- the same of a server as its contract shows it
pub client_shown : (setup : Setup) (fed : List Fed) (sent : Piece) (given : List EisRequest) (v w : ServerView) (shown : Option ConnectionView) → w ≡ v → v.answer ≡ None
    → ((pieces : List Piece) (times : List ℕ) → Stands setup pieces times w.session → IsClientAfter (accepted setup (stream pieces)) shown)
    → IsServing setup fed sent given v → IsClientAfter (handled setup fed) shown
client_shown setup fed sent given v w shown e none knows h =
    client_told setup fed sent given w shown (ap (λ (x : ServerView). x.answer) e ∙ none) knows (subst (λ (x : ServerView). IsServing setup fed sent given x) (sym e) h)
