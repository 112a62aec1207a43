-- What a read of an end of a pair took.
use Rattle.std.proofs.Common.{◌≡◌, ℕ, Bool, true, false, length, Some, refl, ap, ◌∙◌}
use Rattle.ei_spec.specs.Piece.{Piece}
use Rattle.ei_backend.specs.Backend.{BackendView, FrontAnswer, Waits, Gone, Message, next, Answers}
use Rattle.ei_backend.specs.declared.message.PendingRequestResult.TheVariants as pending
use Rattle.ei_ends.specs.Sent.{Sent, Took, Missed}
use Rattle.ei_ends.specs.Way.{End}
use Rattle.ei_ends.specs.Steps.{with_taken}
use Rattle.ei_ends.specs.Joined.{Joined}
use Rattle.ei_client.specs.declared.event.Event.{Event}
use Rattle.ei_client.specs.Event as event
use Rattle.ei_server.specs.declared.request.Request.{Request}
use Rattle.ei_server.specs.Request as request
use Rattle.ei_linked.specs.declared.record.Got.TheVariants as got
use Rattle.ei_linked.specs.Stored.{StoredEnd, end_in, with_endpoint, with_got, having_read, answered_so, read_as}
use Rattle.ei_linked.proofs.Kept.{read_joined}
use Rattle.ei_promises.proofs.Requests as requests
use Rattle.ei_promises.proofs.Events as events_as

answer_is : (events : Bool) (y : StoredEnd) (a : FrontAnswer) (b : BackendView) → next events y.backend ≡ (a, b) → having_read events y ≡ answered_so events a b y
unfolding having_read
answer_is events y a b e = rw e refl

-- a request
module _ (r : Request) (y : StoredEnd) (h : Answers request.target_of request.opcode_of request.values_of (Some (pending.Request r)) (having_read false y).backend (next false y.backend)) where
  request_stored : having_read false y ≡ with_got (having_read false y).backend (got.Message (read_as false (request.target_of r) (request.opcode_of r) (request.values_of r)) (length y.sent)) y
  request_stored = answer_is false y (Message (request.target_of r) (request.opcode_of r) (request.values_of r)) (having_read false y).backend h

  pub request_taken : end_in (having_read false y) ≡ with_taken (having_read false y).backend (Took (requests.message_of r) (length y.sent)) (end_in y)
  request_taken = ap end_in request_stored ∙ ap (λ (s : Sent). with_taken (having_read false y).backend (Took s (length y.sent)) (end_in y)) (requests.stored_so r)

  pub request_joined : (x : End) (to_y to_x : Piece) → Joined false x (end_in y) to_y to_x → Joined false x (end_in (having_read false y)) to_y to_x
  request_joined x to_y to_x j = read_joined request.target_of request.opcode_of request.values_of false (Some (pending.Request r)) x y (having_read false y) to_y to_x (h, request_stored) j

-- an event
module _ (e : Event) (y : StoredEnd) (h : Answers event.target_of event.opcode_of event.values_of (Some (pending.Request e)) (having_read true y).backend (next true y.backend)) where
  event_stored : having_read true y ≡ with_got (having_read true y).backend (got.Message (read_as true (event.target_of e) (event.opcode_of e) (event.values_of e)) (length y.sent)) y
  event_stored = answer_is true y (Message (event.target_of e) (event.opcode_of e) (event.values_of e)) (having_read true y).backend h

  pub event_taken : end_in (having_read true y) ≡ with_taken (having_read true y).backend (Took (events_as.message_of e) (length y.sent)) (end_in y)
  event_taken = ap end_in event_stored ∙ ap (λ (s : Sent). with_taken (having_read true y).backend (Took s (length y.sent)) (end_in y)) (events_as.stored_so e)

  pub event_joined : (x : End) (to_y to_x : Piece) → Joined true x (end_in y) to_y to_x → Joined true x (end_in (having_read true y)) to_y to_x
  event_joined x to_y to_x j = read_joined event.target_of event.opcode_of event.values_of true (Some (pending.Request e)) x y (having_read true y) to_y to_x (h, event_stored) j

-- an id of which no object is there: nothing but that is taken
pub gone_taken : (events : Bool) (id : ℕ) (y : StoredEnd) → next events y.backend ≡ (Gone id, (having_read events y).backend) → end_in (having_read events y) ≡ with_taken (having_read events y).backend (Missed id (length y.sent)) (end_in y)
gone_taken events id y h = ap end_in (answer_is events y (Gone id) (having_read events y).backend h)

-- nothing
pub nothing_taken : (events : Bool) (y : StoredEnd) → next events y.backend ≡ (Waits, (having_read events y).backend) → having_read events y ≡ with_endpoint (having_read events y).backend y
nothing_taken events y h = answer_is events y Waits (having_read events y).backend h
