-- A step of reading: what stood at the front, and what it took.
use Rattle.std.specs.Prelude.{◌≡◌, ℕ, ◌<◌, Bool, true, List, drop, Option, Some, None, Result, IfOk, OnErr}
use Rattle.ei_spec.specs.declared.handle.Handle.{Handle}
use Rattle.ei_spec.specs.Interface.{ObjectView}
use Rattle.ei_spec.specs.Value.{Value}
use Rattle.ei_wire.specs.declared.error.NoMemory.{NoMemory}
use Rattle.ei_wire.specs.declared.error.ParseError.TheVariants as error
use Rattle.ei_spec.specs.Message.{front}
use Rattle.ei_backend.specs.Table.{TableView}
use Rattle.ei_backend.specs.Message.{front_wants}
use Rattle.ei_backend.specs.Incoming.{IncomingView}
use Rattle.ei_backend.specs.Backend.{BackendView, next, Answers, Brings, Shortens}
use Rattle.ei_backend.specs.declared.reading.Step.{Step}
use Rattle.ei_backend.specs.declared.message.PendingRequestResult.{PendingRequestResult}
use Rattle.ei_backend.specs.declared.message.PendingRequestResult.TheVariants as pending

-- the endpoint with this unread and these objects
abbrev pub reading : List ℕ → List Handle → TableView → BackendView → BackendView
reading bytes handles table b = record b { table = table; unread = bytes; handles = handles }

-- the same with the ring
abbrev pub holding : IncomingView → TableView → BackendView → BackendView
holding i table b = record b { table = table; unread = i.bytes; handles = i.handles; capacity = i.capacity }

-- nothing was taken
abbrev pub no_step : Step
no_step = record { bytes = 0; handles = 0 }

-- an answer took at least one byte, unless there was none or its length is unlawful
abbrev pub TakesSome : {M : Type 0} → Option (PendingRequestResult M) → ℕ → Type 0
TakesSome None n = Unit {0}
TakesSome (Some (pending.ParseError (error.HeaderLength len))) n = Unit {0}
TakesSome (Some answer) n = 0 < n

-- what a call for the next message did to what is unread and to the table, and what it answered
pub record TakesNext {M : Type 0} (target : M → ObjectView) (code : M → ℕ) (values : M → List Value) (announced : M → Option ObjectView) (events : Bool)
    (old new : IncomingView) (told tnew : TableView) (answer : Result (Option (PendingRequestResult M)) NoMemory) : Type 0 where
  pub ok : (b : BackendView) → IfOk answer (λ said. Answers target code values said (holding new tnew b) (next events (holding old told b)))
  pub brings : IfOk answer (λ said. Brings announced said told tnew)
  pub shorter : IfOk answer (λ said. Shortens old.bytes new.bytes said)
  pub err : OnErr answer (new ≡ old)
  pub err_table : OnErr answer (tnew ≡ told)
  pub memory : OnErr answer (front_wants events told (front old.bytes) ≡ true)

-- what reading the message at the front of this unread did to the table, with the step that it takes and what it answered
pub record Steps {M : Type 0} (target : M → ObjectView) (code : M → ℕ) (values : M → List Value) (announced : M → Option ObjectView) (events : Bool)
    (bytes : List ℕ) (handles : List Handle) (old new : TableView) (step : Step) (answer : Result (Option (PendingRequestResult M)) NoMemory) : Type 0 where
  pub ok : (b : BackendView) → IfOk answer (λ said. Answers target code values said
      (reading (drop step.bytes bytes) (drop step.handles handles) new b) (next events (reading bytes handles old b)))
  pub brings : IfOk answer (λ said. Brings announced said old new)
  pub shorter : IfOk answer (λ said. TakesSome said step.bytes)
  pub err : OnErr answer (new ≡ old)
  pub err_step : OnErr answer (step ≡ no_step)
  pub memory : OnErr answer (front_wants events old (front bytes) ≡ true)
