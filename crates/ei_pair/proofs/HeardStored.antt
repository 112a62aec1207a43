-- A client heard an event, and what it sent for it is stored, or the event is off its list again.
use Rattle.std.proofs.Common.{◌≡◌, ◌≢◌, ℕ, Bool, true, false, List, ◌∷◌, length, Option, Result, sym, ap, subst, ◌∙◌}
use Rattle.ei_types.specs.declared.error.Error.{Error}
use Rattle.ei_backend.specs.Backend.{BackendView}
use Rattle.ei_client.specs.declared.event.Event.{Event}
use Rattle.ei_ends.specs.Sent.{Sent}
use Rattle.ei_linked.specs.declared.record.Got.{Got}
use Rattle.ei_linked.specs.declared.written.Unsent.{Unsent}
use Rattle.ei_linked.specs.Held.{stored_by}
use Rattle.ei_linked.specs.Written.{AreWritten, unsent_in, stored_onto}
use Rattle.ei_linked.specs.Ends.{EndsView, world_in}
use Rattle.ei_linked.specs.TwoEnds.{IsWorld}
use Rattle.ei_handshake.specs.Client.{ClientView}
use Rattle.ei_event.specs.Converter.{ConverterView as ClientConverter}
use Rattle.ei_promises.specs.Pair.{PairView, ClientStage, Asks, Follows}
use Rattle.ei_promises.specs.Stepping.{as_step, HandsEvent}
use Rattle.ei_pair.specs.declared.server_end.ServerEnd.{ServerEnd}
use Rattle.ei_pair.specs.ServerEnd.{endpoint_in}
use Rattle.ei_pair.specs.Parts.{PartsView, pair_in}
use Rattle.ei_pair.specs.Stages.{HearsEnd}
use Rattle.ei_pair.specs.Stepped.{TookEvent, client_answered}
use Rattle.ei_pair.specs.Spent.{SpendsAtCall}
use Rattle.ei_pair.proofs.Laws.{ClientLaws}
use Rattle.ei_pair.proofs.Stored.{client_ends}
use Rattle.ei_pair.proofs.HandingAt.{StoresEvents, event_hands, event_keeps, event_spends, event_spent_world}

-- both ends, of which the client's endpoint is this
abbrev pub on_client : {H : Type 0} → PartsView H → BackendView → EndsView ServerEnd
on_client p b = record p.ends { client = record p.ends.client { context = b } }

-- what storing does with messages that are read back
abbrev pub StoresHere : EndsView ServerEnd → Unsent → EndsView ServerEnd → Type 0
StoresHere x at e = (ms : List Sent) → AreWritten false at ms (stored_by (λ b. b) x.client) → e ≡ record x { client = record x.client { sent = stored_onto false ms x.client.sent } }

-- what it does where memory is wanted
abbrev pub UntakesHere : EndsView ServerEnd → EndsView ServerEnd → Type 0
UntakesHere x e = (last : Got) (past : List Got) → x.client.taken ≡ last ∷ past → e ≡ record x { client = record x.client { taken = past }; spent = true }

-- the ends are as whole as the pair that took the event
hands_whole : {H : Type 0} (may : H → ℕ → ℕ → Type 0) (s : ClientStage H) (m : Event) (before after : Option (List ℕ)) (taken : PairView H) (result : Result Bool Error) (new : PairView H) →
    HandsEvent may s m before after taken result new → new.ends.spent ≡ taken.ends.spent
hands_whole {H} may (Asks h) m before after taken result new x = ap (λ (v : PairView H). v.ends.spent) x.0.leaves
hands_whole {H} may (Follows c) m before after taken result new x = ap (λ (v : PairView H). v.ends.spent) x.leaves

took_whole : {H : Type 0} (m : Event) (p : PairView H) → TookEvent m p → p.ends.spent ≡ false
took_whole {H} m p t = ap (λ (v : PairView H). v.ends.spent) t.is ∙ t.whole

module _ {H : Type 0} (laws : ClientLaws H) (may : H → ℕ → ℕ → Type 0) (v p : PartsView H) (is : v ≡ p) (m : Event) (before after : Option (List ℕ)) (result : Result (Unit {0}) Error) (left : ClientView) (c : Option (ClientConverter H))
    (x : EndsView ServerEnd) (kept : x ≡ on_client v x.client.context) (hears : HearsEnd may v.converter v.asks v.ends.client.context m before after result left x.client.context c) (at : Unsent) (at_is : at ≡ unsent_in v.ends.client.context) (e : EndsView ServerEnd) where
  stores_on : StoresHere x at e → StoresEvents v x.client.context at e
  stores_on = subst (λ (y : EndsView ServerEnd). StoresHere y at e → StoresEvents v x.client.context at e) (sym kept) (λ stores. stores)

  untakes_on : UntakesHere x e → (last : Got) (past : List Got) → v.ends.client.taken ≡ last ∷ past → e ≡ client_ends v x.client.context v.ends.client.sent past true
  untakes_on = subst (λ (y : EndsView ServerEnd). UntakesHere y e → (last : Got) (past : List Got) → v.ends.client.taken ≡ last ∷ past → e ≡ client_ends v x.client.context v.ends.client.sent past true) (sym kept) (λ untakes. untakes)

  more_on : (length x.client.context.unsent ≢ at.bytes) → length x.client.context.unsent ≢ length v.ends.client.context.unsent
  more_on more = λ same. more (same ∙ ap (λ (u : Unsent). u.bytes) (sym at_is))

  -- it is stored
  pub heard_hands : StoresHere x at e → TookEvent m (pair_in p) → HandsEvent may (pair_in p).client m before after (pair_in p) (as_step result) (client_answered (as_step result) (pair_in (record v { ends = e; asks = left; converter = c })))
  heard_hands stores = event_hands laws may v p is m before after result left x.client.context c hears at at_is e (stores_on stores)

  pub heard_world : StoresHere x at e → TookEvent m (pair_in p) → IsWorld (world_in endpoint_in e)
  heard_world stores = event_keeps laws may v p is m before after result left x.client.context c hears at at_is e (stores_on stores)

  pub heard_whole : StoresHere x at e → TookEvent m (pair_in p) → e.spent ≡ false
  heard_whole stores t =
      hands_whole may (pair_in p).client m before after (pair_in p) (as_step result) (client_answered (as_step result) (pair_in (record v { ends = e; asks = left; converter = c }))) (heard_hands stores t)
      ∙ took_whole m (pair_in p) t

  -- it isn't
  pub unheard_spent : (length x.client.context.unsent ≢ at.bytes) → UntakesHere x e → (t : TookEvent m (pair_in p)) → SpendsAtCall t.old (pair_in (record v { ends = e; asks = left; converter = c }))
  unheard_spent more untakes = event_spends laws may v p is m before after result left x.client.context c hears at at_is e (more_on more) (untakes_on untakes)

  pub unheard_world : (length x.client.context.unsent ≢ at.bytes) → UntakesHere x e → TookEvent m (pair_in p) → IsWorld (world_in endpoint_in e)
  unheard_world more untakes = event_spent_world laws may v p is m before after result left x.client.context c hears at at_is e (more_on more) (untakes_on untakes)
