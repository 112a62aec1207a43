-- What a step does that answers that a message was taken, or that none was there.
use Rattle.std.proofs.Common.{◌≡◌, ℕ, Bool, true, false, inl, inr, List, Option, Some, None, Result, Ok, Err, sym, ◌∙◌}
use Rattle.ei_types.specs.declared.error.Error.{Error}
use Rattle.ei_types.specs.declared.error.Error.TheVariants as error
use Rattle.ei_backend.specs.declared.message.PendingRequestResult.{PendingRequestResult}
use Rattle.ei_backend.specs.declared.message.PendingRequestResult.TheVariants as pending
use Rattle.ei_client.specs.declared.event.Event.{Event}
use Rattle.ei_server.specs.declared.request.Request.{Request}
use Rattle.ei_promises.specs.Pair.{ClientStage, Asks, Follows, ServerStage, Shakes, Serves, PairView}
use Rattle.ei_promises.specs.Stepping.{as_step, MissesRequest, HandsRequest, MissesEvent, HandsEvent, ServerSteps, ClientSteps, StepsServer, StepsClient, server_taken, client_taken}

-- an answer isn't this, where it is that
other_than : (a b result : Result Bool Error) → result ≡ a → (a ≡ b → ⊥) → result ≡ b → ⊥
other_than a b result is far e = far (sym is ∙ e)

not_false : {A : Type 0} (answer : Result A Error) (result : Result Bool Error) → result ≡ as_step answer → result ≡ Ok false → ⊥
not_false (Ok a) result is e = other_than (Ok true) (Ok false) result is (λ f. cc) e
not_false (Err why) result is e = other_than (Err why) (Ok false) result is (λ f. cc) e

missed_request : {H : Type 0} (s : ServerStage) (id : ℕ) (taken : PairView H) (result : Result Bool Error) (new : PairView H) → MissesRequest s id taken result new → result ≡ Ok false → ⊥
missed_request (Shakes h) id taken result new m e = other_than _ _ result m.0 (λ f. cc) e
missed_request (Serves c) id taken result new m e = other_than _ _ result m.0 (λ f. cc) e

handed_request : {H : Type 0} (s : ServerStage) (r : Request) (before after : Option (List ℕ)) (taken : PairView H) (result : Result Bool Error) (new : PairView H) → HandsRequest s r before after taken result new → result ≡ Ok false → ⊥
handed_request (Shakes h) r before after taken result new m e = not_false m.0.answer result m.0.answers e
handed_request (Serves c) r before after taken result new m e = not_false m.answer result m.answers e

missed_event : {H : Type 0} (k : ClientStage H) (id : ℕ) (taken : PairView H) (result : Result Bool Error) (new : PairView H) → MissesEvent k id taken result new → result ≡ Ok false → ⊥
missed_event (Asks h) id taken result new m e = other_than _ _ result m.0 (λ f. cc) e
missed_event (Follows c) id taken result new m e = other_than _ _ result m.0 (λ f. cc) e

handed_event : {H : Type 0} (may : H → ℕ → ℕ → Type 0) (k : ClientStage H) (v : Event) (before after : Option (List ℕ)) (taken : PairView H) (result : Result Bool Error) (new : PairView H) → HandsEvent may k v before after taken result new → result ≡ Ok false → ⊥
handed_event may (Asks h) v before after taken result new m e = not_false m.0.answer result m.0.answers e
handed_event may (Follows c) v before after taken result new m e = not_false m.answer result m.answers e

-- ---- no message was there: nothing has changed

abbrev Idles : {H : Type 0} → PairView H → PairView H → Option (List ℕ) → Option (List ℕ) → Type 0
Idles old new before after = (new ≡ old) × (after ≡ before)

server_by : {H : Type 0} (answer : Option (PendingRequestResult Request)) (before after : Option (List ℕ)) (old taken : PairView H) (result : Result Bool Error) (new : PairView H) → ServerSteps answer before after old taken result new → result ≡ Ok false → Idles old new before after
server_by None before after old taken result new s e = (s.1, s.2)
server_by (Some (pending.InvalidObject id)) before after old taken result new s e = absurd (missed_request taken.server id taken result new s.0 e)
server_by (Some (pending.Request r)) before after old taken result new s e = absurd (handed_request taken.server r before after taken result new s e)
server_by (Some (pending.ParseError f)) before after old taken result new s e = absurd s

client_by : {H : Type 0} (may : H → ℕ → ℕ → Type 0) (answer : Option (PendingRequestResult Event)) (before after : Option (List ℕ)) (old taken : PairView H) (result : Result Bool Error) (new : PairView H) → ClientSteps may answer before after old taken result new → result ≡ Ok false → Idles old new before after
client_by may None before after old taken result new s e = (s.1, s.2)
client_by may (Some (pending.InvalidObject id)) before after old taken result new s e = absurd (missed_event taken.client id taken result new s.0 e)
client_by may (Some (pending.Request v)) before after old taken result new s e = absurd (handed_event may taken.client v before after taken result new s e)
client_by may (Some (pending.ParseError f)) before after old taken result new s e = absurd s

pub server_idle : {H : Type 0} (old new : PairView H) (before after : Option (List ℕ)) (result : Result Bool Error) → StepsServer old before after result new → result ≡ Ok false → Idles old new before after
server_idle old new before after result (inl h) e = server_by h.answer before after old (server_taken old) result new h.steps e
server_idle old new before after result (inr w) e = absurd (other_than (Err error.NoMemory) (Ok false) result w.answers (λ f. cc) e)

pub client_idle : {H : Type 0} (may : H → ℕ → ℕ → Type 0) (old new : PairView H) (before after : Option (List ℕ)) (result : Result Bool Error) → StepsClient may old before after result new → result ≡ Ok false → Idles old new before after
client_idle may old new before after result (inl h) e = client_by may h.answer before after old (client_taken old) result new h.steps e
client_idle may old new before after result (inr w) e = absurd (other_than (Err error.NoMemory) (Ok false) result w.answers (λ f. cc) e)
