-- A step that found no message took all that was sent, where nothing is on its way.
use Rattle.std.proofs.Common.{◌≡◌, ℕ, Bool, true, false, inl, inr, List, Option, Some, None, Result, Ok, Err, sym, ◌∙◌}
use Rattle.ei_types.specs.declared.error.Error.{Error}
use Rattle.ei_backend.specs.declared.message.PendingRequestResult.{PendingRequestResult}
use Rattle.ei_backend.specs.declared.message.PendingRequestResult.TheVariants as pending
use Rattle.ei_client.specs.declared.event.Event.{Event}
use Rattle.ei_server.specs.declared.request.Request.{Request}
use Rattle.ei_linked.specs.declared.side.Side.TheVariants as side
use Rattle.ei_linked.specs.Stored.{end_in}
use Rattle.ei_linked.specs.TwoEnds.{read_world, AllDeliveredAt, HasTakenAll}
use Rattle.ei_linked.proofs.Kept as kept
use Rattle.ei_promises.specs.Pair.{ClientStage, Asks, Follows, ServerStage, Shakes, Serves, PairView, IsPair}
use Rattle.ei_promises.specs.Stepping.{as_step, ReadsRequest, ReadsEvent, MissesRequest, HandsRequest, MissesEvent, HandsEvent, ServerSteps, ClientSteps, StepsServer, StepsClient}
use Rattle.ei_promises.specs.Promises.{TakesAll}

-- what was handed on isn't nothing
not_false : {A : Type 0} (answer : Result A Error) (result : Result Bool Error) → result ≡ as_step answer → result ≡ Ok false → ⊥
not_false (Ok a) result is e = let both : ◌≡◌ {A = Result Bool Error} (Ok true) (Ok false) = sym is ∙ e in cc
not_false (Err why) result is e = let both : ◌≡◌ {A = Result Bool Error} (Err why) (Ok false) = sym is ∙ e in cc

other_than : (a result : Result Bool Error) → result ≡ a → (a ≡ Ok false → ⊥) → result ≡ Ok false → ⊥
other_than a result is far e = far (sym is ∙ e)

missed_request : {H : Type 0} (s : ServerStage) (id : ℕ) (taken : PairView H) (result : Result Bool Error) (new : PairView H) → MissesRequest s id taken result new → result ≡ Ok false → ⊥
missed_request (Shakes h) id taken result new m e = other_than _ result m.0 (λ f. cc) e
missed_request (Serves c) id taken result new m e = other_than _ result m.0 (λ f. cc) e

handed_request : {H : Type 0} (s : ServerStage) (r : Request) (before after : Option (List ℕ)) (taken : PairView H) (result : Result Bool Error) (new : PairView H) → HandsRequest s r before after taken result new → result ≡ Ok false → ⊥
handed_request (Shakes h) r before after taken result new m e = not_false m.0.answer result m.0.answers e
handed_request (Serves c) r before after taken result new m e = not_false m.answer result m.answers e

missed_event : {H : Type 0} (k : ClientStage H) (id : ℕ) (taken : PairView H) (result : Result Bool Error) (new : PairView H) → MissesEvent k id taken result new → result ≡ Ok false → ⊥
missed_event (Asks h) id taken result new m e = other_than _ result m.0 (λ f. cc) e
missed_event (Follows c) id taken result new m e = other_than _ result m.0 (λ f. cc) e

handed_event : {H : Type 0} (may : H → ℕ → ℕ → Type 0) (k : ClientStage H) (v : Event) (before after : Option (List ℕ)) (taken : PairView H) (result : Result Bool Error) (new : PairView H) → HandsEvent may k v before after taken result new → result ≡ Ok false → ⊥
handed_event may (Asks h) v before after taken result new m e = not_false m.0.answer result m.0.answers e
handed_event may (Follows c) v before after taken result new m e = not_false m.answer result m.answers e

server_takes : {H : Type 0} (answer : Option (PendingRequestResult Request)) (before after : Option (List ℕ)) (old taken : PairView H) (result : Result Bool Error) (new : PairView H) → old.ends.spent ≡ false → IsPair old →
    ReadsRequest answer old.ends (read_world side.Server old.ends) → ServerSteps answer before after old taken result new → result ≡ Ok false → AllDeliveredAt side.Server old.ends → HasTakenAll side.Server old.ends
server_takes None before after old taken result new whole ok reads s e all = kept.read_all false (end_in old.ends.client) old.ends.server old.ends.to_server old.ends.to_client _ reads (kept.ahead old.ends whole ok.world) all
server_takes (Some (pending.InvalidObject id)) before after old taken result new whole ok reads s e all = absurd (missed_request taken.server id taken result new s.0 e)
server_takes (Some (pending.Request r)) before after old taken result new whole ok reads s e all = absurd (handed_request taken.server r before after taken result new s e)
server_takes (Some (pending.ParseError f)) before after old taken result new whole ok reads s e all = absurd s

client_takes : {H : Type 0} (may : H → ℕ → ℕ → Type 0) (answer : Option (PendingRequestResult Event)) (before after : Option (List ℕ)) (old taken : PairView H) (result : Result Bool Error) (new : PairView H) → old.ends.spent ≡ false → IsPair old →
    ReadsEvent answer old.ends (read_world side.Client old.ends) → ClientSteps may answer before after old taken result new → result ≡ Ok false → AllDeliveredAt side.Client old.ends → HasTakenAll side.Client old.ends
client_takes may None before after old taken result new whole ok reads s e all = kept.read_all true (end_in old.ends.server) old.ends.client old.ends.to_client old.ends.to_server _ reads (kept.back old.ends whole ok.world) all
client_takes may (Some (pending.InvalidObject id)) before after old taken result new whole ok reads s e all = absurd (missed_event taken.client id taken result new s.0 e)
client_takes may (Some (pending.Request v)) before after old taken result new whole ok reads s e all = absurd (handed_event may taken.client v before after taken result new s e)
client_takes may (Some (pending.ParseError f)) before after old taken result new whole ok reads s e all = absurd s

pub server_all : {H : Type 0} (p new : PairView H) (before after : Option (List ℕ)) (result : Result Bool Error) → p.ends.spent ≡ false → IsPair p → StepsServer p before after result new → TakesAll side.Server p result
server_all p new before after result whole ok (inl s) = server_takes s.answer before after p _ result new whole ok s.reads s.steps
server_all p new before after result whole ok (inr s) = λ e all. absurd (other_than _ result s.answers (λ f. cc) e)

pub client_all : {H : Type 0} (may : H → ℕ → ℕ → Type 0) (p new : PairView H) (before after : Option (List ℕ)) (result : Result Bool Error) → p.ends.spent ≡ false → IsPair p → StepsClient may p before after result new → TakesAll side.Client p result
client_all may p new before after result whole ok (inl s) = client_takes may s.answer before after p _ result new whole ok s.reads s.steps
client_all may p new before after result whole ok (inr s) = λ e all. absurd (other_than _ result s.answers (λ f. cc) e)
