-- A request that was taken, before what is done behind it, and where that can't be done.
use Rattle.std.specs.Prelude.{◌≡◌, ℕ, List, [], ◌++◌, take, Option, Ok}
use Rattle.ei_spec.specs.declared.handle.Handle.{Handle}
use Rattle.ei_spec.specs.Message.{Raw}
use Rattle.ei_wire.specs.declared.error.SendError.{SendError}
use Rattle.ei_wire.specs.declared.error.SendError.TheVariants as send_error
use Rattle.ei_server.specs.declared.request.Request.{Request}
use Rattle.ei_session.specs.Setup.{Setup}
use Rattle.ei_request.specs.Converter.{ConverterView}
use Rattle.ei_request.specs.Handling.{Handles}
use Rattle.ei_request.specs.declared.event.EisRequest.{EisRequest}
use Rattle.ei_serve.specs.AtFront.{IsAsked}
use Rattle.ei_serve.specs.Policy.{policy_behind}

-- The request at the front was taken by a converter that stood for the messages before it, and all that this queued was handed
-- out: what is done behind is that of the last request that was handed out.
pub record IsHandedOut (setup : Setup) (past : List Raw) (times rest : List ℕ) (handles : List Handle) (out given : List EisRequest) (before after : Option (List ℕ)) (now : ConverterView) : Type 0 where
  pub request : Request
  pub old : ConverterView
  pub taken : ConverterView
  pub asked : IsAsked setup past times rest handles request old
  pub takes : Handles old request before (Ok tt) after taken
  pub grown : given ≡ out ++ taken.queue
  pub last : policy_behind given ≡ policy_behind taken.queue
  pub emptied : now ≡ record taken { queue = [] }

-- what stays handed out where what answers it can't be sent: the first so many where memory ran out, and else all
abbrev pub handed_at : SendError → ℕ → List EisRequest → List EisRequest
handed_at send_error.NoMemory handed out = take handed out
handed_at e handed out = out
