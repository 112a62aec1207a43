-- What a server shows.
use Rattle.std.specs.Prelude.{◌≡◌, ◌⊎◌, List, Option, Result, Ok, Err, refl}
use Rattle.std.proofs.Common.{inl, inr}
use Rattle.std.specs.Coded.{Coded, code_by, coded×, coded⊎, coded_list, coded_option}
use Rattle.ei_spec.specs.Piece.{Piece}
use Rattle.ei_backend.specs.Codes.{piece_code}
use Rattle.ei_request.specs.declared.event.EisRequest.{EisRequest}
use Rattle.ei_request.specs.contracts.event.EisRequest as requests
use Rattle.ei_types.specs.declared.error.Error.{Error}
use Rattle.ei_types.specs.contracts.error.Error as errors
use Rattle.ei_serve.specs.declared.session.Session.{Session}
use Rattle.ei_serve.specs.contracts.session.Session as sessions
use Rattle.ei_serve.specs.declared.session.Ended.{Ended}
use Rattle.ei_serve.specs.contracts.session.Ended as ends

-- The session; the replies and the requests that weren't taken yet; and how the session ended, where it did.
pub record ServerView : Type 0 where
  pub session : Session
  pub unsent : Piece
  pub requests : List EisRequest
  pub answer : Option (Result Ended Error)

-- ---- as values are told apart

abbrev pub end_or_error : Result Ended Error → Ended ⊎ Error
end_or_error (Ok x) = inl x
end_or_error (Err e) = inr e

abbrev pub of_end_or_error : Ended ⊎ Error → Result Ended Error
of_end_or_error (inl x) = Ok x
of_end_or_error (inr e) = Err e

abbrev pub same_end : (r : Result Ended Error) → of_end_or_error (end_or_error r) ≡ r
same_end (Ok x) = refl
same_end (Err e) = refl

abbrev pub answer_code : Coded (Result Ended Error)
answer_code = code_by (Ended ⊎ Error) (coded⊎ ends.the_row.coded errors.the_row.coded) end_or_error of_end_or_error same_end

abbrev pub server_code : Coded ServerView
server_code = code_by (Session × (Piece × (List EisRequest × Option (Result Ended Error))))
    (coded× sessions.the_row.coded (coded× piece_code (coded× (coded_list requests.the_row.coded) (coded_option answer_code))))
    (λ s. (s.session, (s.unsent, (s.requests, s.answer)))) (λ p. record { session = p.0; unsent = p.1.0; requests = p.1.1.0; answer = p.1.1.1 }) (λ _. refl)
