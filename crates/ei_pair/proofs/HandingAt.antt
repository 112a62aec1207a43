-- The same of parts that are known by their fields: what handling a message comes to, stored or not.
use Rattle.std.proofs.Common.{◌≡◌, ◌≢◌, ℕ, true, false, List, ◌∷◌, length, Option, Result, subst}
use Rattle.ei_types.specs.declared.error.Error.{Error}
use Rattle.ei_backend.specs.Backend.{BackendView}
use Rattle.ei_client.specs.declared.event.Event.{Event}
use Rattle.ei_server.specs.declared.request.Request.{Request}
use Rattle.ei_ends.specs.Sent.{Sent}
use Rattle.ei_linked.specs.declared.record.Got.{Got}
use Rattle.ei_linked.specs.declared.written.Unsent.{Unsent}
use Rattle.ei_linked.specs.Held.{stored_by}
use Rattle.ei_linked.specs.Written.{AreWritten, unsent_in, stored_onto}
use Rattle.ei_linked.specs.Ends.{EndsView, world_in}
use Rattle.ei_linked.specs.TwoEnds.{IsWorld}
use Rattle.ei_handshake.specs.Client.{ClientView}
use Rattle.ei_handshake.specs.Handshaker.{HandshakerView}
use Rattle.ei_event.specs.Converter.{ConverterView as ClientConverter}
use Rattle.ei_promises.specs.Stepping.{as_step, HandsRequest, HandsEvent}
use Rattle.ei_pair.specs.declared.server_end.ServerEnd.{ServerEnd}
use Rattle.ei_pair.specs.ServerEnd.{endpoint_in}
use Rattle.ei_pair.specs.Parts.{PartsView, pair_in}
use Rattle.ei_pair.specs.Stages.{ObeysEnd, HearsEnd}
use Rattle.ei_pair.specs.Stepped.{TookRequest, TookEvent, server_answered, client_answered}
use Rattle.ei_pair.specs.Spent.{SpendsAtCall}
use Rattle.ei_pair.proofs.Laws.{ServerLaws, ClientLaws}
use Rattle.ei_pair.proofs.Handing.{Handed, handed}
use Rattle.ei_pair.proofs.Hearing.{Heard, heard}
use Rattle.ei_pair.proofs.Stored.{server_ends, client_ends, request_written, request_handed, request_world, request_unstored, request_spent, last_request}
use Rattle.ei_pair.proofs.Stored.{event_written, event_handed, event_world, event_unstored, event_spent, last_event}

-- ---- the server

-- what storing is said to do with messages that are read back
abbrev pub StoresRequests : {H : Type 0} → PartsView H → ServerEnd → Unsent → EndsView ServerEnd → Type 0
StoresRequests p s at e = (ms : List Sent) → AreWritten true at ms (stored_by endpoint_in (record { context = s; sent = p.ends.server.sent; taken = p.ends.server.taken })) → e ≡ server_ends p s (stored_onto true ms p.ends.server.sent) p.ends.server.taken p.ends.spent

module _ {H : Type 0} (laws : ServerLaws H) (v p : PartsView H) (is : v ≡ p) (r : Request) (before after : Option (List ℕ)) (result : Result (Unit {0}) Error) (left : HandshakerView) (s : ServerEnd)
    (obeys : ObeysEnd v.ends.server.context v.tells r before after result left s) (at : Unsent) (at_is : at ≡ unsent_in (endpoint_in v.ends.server.context)) (e : EndsView ServerEnd) where
  at_handed : (t : TookRequest r (pair_in v)) → Handed v r before after result left s
  at_handed t = handed laws v r before after result left s t obeys

  stored_here : StoresRequests v s at e → (t : TookRequest r (pair_in v)) → e ≡ server_ends v s (stored_onto true (at_handed t).ms v.ends.server.sent) v.ends.server.taken v.ends.spent
  stored_here stores t = stores (at_handed t).ms (request_written v r before after result left s t (at_handed t) at at_is)

  pub request_hands : StoresRequests v s at e → TookRequest r (pair_in p) → HandsRequest (pair_in p).server r before after (pair_in p) (as_step result) (server_answered (as_step result) (pair_in (record v { ends = e; tells = left })))
  request_hands stores = subst (λ (x : PartsView H). TookRequest r (pair_in x) → HandsRequest (pair_in x).server r before after (pair_in x) (as_step result) (server_answered (as_step result) (pair_in (record v { ends = e; tells = left })))) is
      (λ t. request_handed v r before after result left s t (at_handed t) e (stored_here stores t))

  pub request_keeps : StoresRequests v s at e → TookRequest r (pair_in p) → IsWorld (world_in endpoint_in e)
  request_keeps stores = subst (λ (x : PartsView H). TookRequest r (pair_in x) → IsWorld (world_in endpoint_in e)) is
      (λ t. request_world v r before after result left s t (at_handed t) e (stored_here stores t))

  pub request_spends : ((last : Got) (past : List Got) → v.ends.server.taken ≡ last ∷ past → e ≡ server_ends v s v.ends.server.sent past true) → (t : TookRequest r (pair_in p)) → SpendsAtCall t.old (pair_in (record v { ends = e; tells = left }))
  request_spends untakes = subst (λ (x : PartsView H). (t : TookRequest r (pair_in x)) → SpendsAtCall t.old (pair_in (record v { ends = e; tells = left }))) is
      (λ t. request_unstored v r before after result left s t (at_handed t) e (untakes _ _ (last_request v r t)))

  pub request_spent_world : ((last : Got) (past : List Got) → v.ends.server.taken ≡ last ∷ past → e ≡ server_ends v s v.ends.server.sent past true) → TookRequest r (pair_in p) → IsWorld (world_in endpoint_in e)
  request_spent_world untakes t = request_spent p r t (pair_in (record v { ends = e; tells = left })) (request_spends untakes t).lists

-- ---- the client

abbrev pub StoresEvents : {H : Type 0} → PartsView H → BackendView → Unsent → EndsView ServerEnd → Type 0
StoresEvents p b at e = (ms : List Sent) → AreWritten false at ms (stored_by (λ x. x) (record { context = b; sent = p.ends.client.sent; taken = p.ends.client.taken })) → e ≡ client_ends p b (stored_onto false ms p.ends.client.sent) p.ends.client.taken p.ends.spent

module _ {H : Type 0} (laws : ClientLaws H) (may : H → ℕ → ℕ → Type 0) (v p : PartsView H) (is : v ≡ p) (m : Event) (before after : Option (List ℕ)) (result : Result (Unit {0}) Error) (left : ClientView) (b : BackendView) (c : Option (ClientConverter H))
    (hears : HearsEnd may v.converter v.asks v.ends.client.context m before after result left b c) (at : Unsent) (at_is : at ≡ unsent_in v.ends.client.context) (e : EndsView ServerEnd) where
  at_heard : (t : TookEvent m (pair_in v)) → Heard may v m before after result left b c
  at_heard t = heard laws may v m before after result left b c t hears

  stored_there : StoresEvents v b at e → (t : TookEvent m (pair_in v)) → e ≡ client_ends v b (stored_onto false (at_heard t).ms v.ends.client.sent) v.ends.client.taken v.ends.spent
  stored_there stores t = stores (at_heard t).ms (event_written may v m before after result left b c t (at_heard t) at at_is)

  pub event_hands : StoresEvents v b at e → TookEvent m (pair_in p) → HandsEvent may (pair_in p).client m before after (pair_in p) (as_step result) (client_answered (as_step result) (pair_in (record v { ends = e; asks = left; converter = c })))
  event_hands stores = subst (λ (x : PartsView H). TookEvent m (pair_in x) → HandsEvent may (pair_in x).client m before after (pair_in x) (as_step result) (client_answered (as_step result) (pair_in (record v { ends = e; asks = left; converter = c })))) is
      (λ t. event_handed may v m before after result left b c t (at_heard t) e (stored_there stores t))

  pub event_keeps : StoresEvents v b at e → TookEvent m (pair_in p) → IsWorld (world_in endpoint_in e)
  event_keeps stores = subst (λ (x : PartsView H). TookEvent m (pair_in x) → IsWorld (world_in endpoint_in e)) is
      (λ t. event_world may v m before after result left b c t (at_heard t) e (stored_there stores t))

  pub event_spends : length b.unsent ≢ length v.ends.client.context.unsent → ((last : Got) (past : List Got) → v.ends.client.taken ≡ last ∷ past → e ≡ client_ends v b v.ends.client.sent past true) → (t : TookEvent m (pair_in p)) → SpendsAtCall t.old (pair_in (record v { ends = e; asks = left; converter = c }))
  event_spends more untakes = subst (λ (x : PartsView H). (t : TookEvent m (pair_in x)) → SpendsAtCall t.old (pair_in (record v { ends = e; asks = left; converter = c }))) is
      (λ t. event_unstored may v m before after result left b c t (at_heard t) e more (untakes _ _ (last_event v m t)))

  pub event_spent_world : length b.unsent ≢ length v.ends.client.context.unsent → ((last : Got) (past : List Got) → v.ends.client.taken ≡ last ∷ past → e ≡ client_ends v b v.ends.client.sent past true) → TookEvent m (pair_in p) → IsWorld (world_in endpoint_in e)
  event_spent_world more untakes t = event_spent p m t (pair_in (record v { ends = e; asks = left; converter = c })) (event_spends more untakes t).lists
