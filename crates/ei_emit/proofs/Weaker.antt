-- A step of a client, whatever the handlers answer.
use Rattle.std.proofs.Common.{ℕ, Bool, inl, inr, List, Option, Some, None, Result, Ok, Err}
use Rattle.std.specs.Ordering.{nat_cmp}
use Rattle.std.specs.FinMap as finite
use Rattle.ei_types.specs.declared.error.Error.{Error}
use Rattle.ei_backend.specs.declared.message.PendingRequestResult.{PendingRequestResult}
use Rattle.ei_backend.specs.declared.message.PendingRequestResult.TheVariants as pending
use Rattle.ei_client.specs.declared.event.Event.{Event}
use Rattle.ei_handler.specs.declared.receipt.Receipt.{Receipt}
use Rattle.ei_handler.specs.Handlers.{Keeps}
use Rattle.ei_event.specs.Converter.{Ended, Receives}
use Rattle.ei_promises.specs.Pair.{ClientStage, Asks, Follows, PairView}
use Rattle.ei_promises.specs.Stepping.{HandsEvent, ClientSteps, StepsClient, client_taken}
use Rattle.ei_emit.specs.Carried.{AnyAnswer}

module _ {H : Type 0} (may : H → ℕ → ℕ → Type 0) where
  receives : (c : Option Ended) (answer : Result Unit Error) (waiting : finite.FinMap nat_cmp H) (old new : List Receipt) → Receives may c answer waiting old new → Receives AnyAnswer c answer waiting old new
  receives None answer waiting old new r = r
  receives (Some c) (Err e) waiting old new r = r
  receives (Some c) (Ok t) waiting old new r = by (finite.get waiting c.id) r
    where
      by : (h : Option H) → Keeps may h c.id c.value old new → Keeps AnyAnswer h c.id c.value old new
      by None k = k
      by (Some h) k = (k.0, tt, k.2)

  hands : (k : ClientStage H) (e : Event) (before after : Option (List ℕ)) (taken : PairView H) (result : Result Bool Error) (new : PairView H) → HandsEvent may k e before after taken result new → HandsEvent AnyAnswer k e before after taken result new
  hands (Asks h) e before after taken result new s = s
  hands (Follows c) e before after taken result new s = record {
    answer = s.answer;
    left = s.left;
    handles = s.handles;
    receipts = receives _ s.answer c.waiting c.receipts s.left.receipts s.receipts;
    handlers = s.handlers;
    answers = s.answers;
    leaves = s.leaves;
  }

  steps : (answer : Option (PendingRequestResult Event)) (before after : Option (List ℕ)) (old taken : PairView H) (result : Result Bool Error) (new : PairView H) → ClientSteps may answer before after old taken result new → ClientSteps AnyAnswer answer before after old taken result new
  steps None before after old taken result new s = s
  steps (Some (pending.InvalidObject id)) before after old taken result new s = s
  steps (Some (pending.Request e)) before after old taken result new s = hands taken.client e before after taken result new s
  steps (Some (pending.ParseError f)) before after old taken result new s = s

  pub any_answer : (old new : PairView H) (before after : Option (List ℕ)) (result : Result Bool Error) → StepsClient may old before after result new → StepsClient AnyAnswer old before after result new
  any_answer old new before after result (inl h) = inl (record {
    answer = h.answer;
    reason = h.reason;
    reads = h.reads;
    steps = steps h.answer before after old (client_taken old) result new h.steps;
  })
  any_answer old new before after result (inr w) = inr w
