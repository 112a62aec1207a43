-- A side took its next message, or none, by the fields of the parts.
use Rattle.std.proofs.Common.{◌≡◌, ◌⊎◌, ℕ, Bool, true, false, List, Option, Some, None, Result, Ok, Err, inl, inr, sym, ap, subst, ◌∙◌}
use Rattle.std.specs.Prelude.{is_some}
use Rattle.ei_types.specs.declared.error.Error.{Error}
use Rattle.ei_types.specs.declared.error.Error.TheVariants as error
use Rattle.ei_types.specs.declared.error.HandshakeError.TheVariants as handshake_error
use Rattle.ei_backend.specs.declared.message.PendingRequestResult.TheVariants as pending
use Rattle.ei_client.specs.declared.event.Event.{Event}
use Rattle.ei_server.specs.declared.request.Request.{Request}
use Rattle.ei_linked.specs.declared.side.Side.TheVariants as side
use Rattle.ei_linked.specs.Held.{Held, Keeps}
use Rattle.ei_linked.specs.Ends.{EndsView, world_in}
use Rattle.ei_linked.specs.TwoEnds.{WorldView, IsWorld, read_world, spent_world}
use Rattle.ei_event.specs.Typed.{IsLawfulReason}
use Rattle.ei_promises.specs.Pair.{PairView, converter_in, connection_in}
use Rattle.ei_promises.specs.Stepping.{ReadsRequest, ReadsEvent, HandsRequest, HandsEvent, StepsServer, StepsClient}
use Rattle.ei_pair.specs.declared.server_end.ServerEnd.{ServerEnd}
use Rattle.ei_pair.specs.ServerEnd.{endpoint_in, with_endpoint_in, same_endpoint}
use Rattle.ei_pair.specs.Parts.{PartsView, pair_in}
use Rattle.ei_pair.specs.Stepped.{IsSound, TookRequest, TookEvent, server_answered, client_answered}
use Rattle.ei_pair.specs.Spent.{SpendsAtCall}
use Rattle.ei_pair.proofs.Steps as of_server
use Rattle.ei_pair.proofs.StepsClient as of_client

-- ---- the server

module _ {H : Type 0} (v p : PartsView H) (is : v ≡ p) (e : EndsView ServerEnd) (clock now : Option (List ℕ)) (keeps : Keeps endpoint_in with_endpoint_in v.ends.server e.server) (sound : IsSound p) (whole : p.ends.spent ≡ false) where
  kept_here : IsSound v
  kept_here = subst (λ (x : PartsView H). IsSound x) (sym is) sound

  whole_here : v.ends.spent ≡ false
  whole_here = ap (λ (x : PartsView H). x.ends.spent) is ∙ whole

  -- memory was wanted, before or behind it
  pub request_wants : (world_in endpoint_in e ≡ world_in endpoint_in v.ends) ⊎ (world_in endpoint_in e ≡ spent_world side.Server (world_in endpoint_in v.ends)) → now ≡ clock → e.spent ≡ false →
      StepsServer (pair_in p) clock now (Err error.NoMemory) (server_answered (Err error.NoMemory) (pair_in (record v { ends = e })))
  request_wants (inl same) unread whole_now = subst (λ (x : PartsView H). StepsServer (pair_in x) clock now (Err error.NoMemory) (server_answered (Err error.NoMemory) (pair_in (record v { ends = e })))) is (of_server.wants_first v e clock now same keeps unread)
  request_wants (inr spent) unread whole_now = let gone : e.spent ≡ true = ap (λ (w : WorldView). w.spent) spent in absurd cc

  pub request_lost : (world_in endpoint_in e ≡ world_in endpoint_in v.ends) ⊎ (world_in endpoint_in e ≡ spent_world side.Server (world_in endpoint_in v.ends)) → e.spent ≡ true → SpendsAtCall (pair_in p) (pair_in (record v { ends = e }))
  request_lost (inl same) gone = let whole_now : e.spent ≡ false = ap (λ (w : WorldView). w.spent) same ∙ whole_here in absurd cc
  request_lost (inr spent) gone = subst (λ (x : PartsView H). SpendsAtCall (pair_in x) (pair_in (record v { ends = e }))) is (of_server.spent_first v e spent keeps)

  module _ (read : world_in endpoint_in e ≡ read_world side.Server (world_in endpoint_in v.ends)) where
    pub request_none : ReadsRequest None (pair_in v).ends (world_in endpoint_in e) → now ≡ clock → StepsServer (pair_in p) clock now (Ok false) (server_answered (Ok false) (pair_in (record v { ends = e })))
    request_none reads unread = subst (λ (x : PartsView H). StepsServer (pair_in x) clock now (Ok false) (server_answered (Ok false) (pair_in (record v { ends = e })))) is
        (of_server.steps_none v e clock now read keeps whole_here kept_here.kept.pair.world reads unread)

    pub request_gone_shaking : (id : ℕ) → ReadsRequest (Some (pending.InvalidObject id)) (pair_in v).ends (world_in endpoint_in e) → now ≡ clock → is_some (connection_in (pair_in (record v { ends = e })).server) ≡ false →
        StepsServer (pair_in p) clock now (Err (error.Handshake (handshake_error.InvalidObject id))) (server_answered (Err (error.Handshake (handshake_error.InvalidObject id))) (pair_in (record v { ends = e })))
    request_gone_shaking id reads unread none = let result : Result Bool Error = Err (error.Handshake (handshake_error.InvalidObject id)) in
        subst (λ (x : PartsView H). StepsServer (pair_in x) clock now result (server_answered result (pair_in (record v { ends = e })))) is
        (of_server.steps_gone v e clock now read keeps id result reads unread (of_server.misses_shaking (pair_in (record v { ends = e })).server id (pair_in (record v { ends = e })) none))

    pub request_gone_serving : (id : ℕ) → ReadsRequest (Some (pending.InvalidObject id)) (pair_in v).ends (world_in endpoint_in e) → now ≡ clock → is_some (connection_in (pair_in (record v { ends = e })).server) ≡ true →
        StepsServer (pair_in p) clock now (Ok true) (server_answered (Ok true) (pair_in (record v { ends = e })))
    request_gone_serving id reads unread some = subst (λ (x : PartsView H). StepsServer (pair_in x) clock now (Ok true) (server_answered (Ok true) (pair_in (record v { ends = e })))) is
        (of_server.steps_gone v e clock now read keeps id (Ok true) reads unread (of_server.misses_serving (pair_in (record v { ends = e })).server id (pair_in (record v { ends = e })) some))

    pub request_took : (r : Request) → IsWorld (world_in endpoint_in e) → ReadsRequest (Some (pending.Request r)) (pair_in v).ends (world_in endpoint_in e) → TookRequest r (pair_in (record v { ends = e }))
    request_took r world reads = of_server.took v e clock now read keeps r world kept_here.kept whole_here reads

    pub request_steps : (r : Request) (result : Result Bool Error) (new : PairView H) → ReadsRequest (Some (pending.Request r)) (pair_in v).ends (world_in endpoint_in e) →
        HandsRequest (pair_in (record v { ends = e })).server r clock now (pair_in (record v { ends = e })) result new → StepsServer (pair_in p) clock now result new
    request_steps r result new reads hands = subst (λ (x : PartsView H). StepsServer (pair_in x) clock now result new) is (of_server.steps_took v e clock now read keeps r result new reads hands)

-- what was spent of the parts by their fields is spent of them
pub spent_of : {H : Type 0} (v p : PartsView H) (new : PairView H) → v ≡ p → SpendsAtCall (pair_in v) new → SpendsAtCall (pair_in p) new
spent_of {H} v p new is = subst (λ (x : PartsView H). SpendsAtCall (pair_in x) new) is

-- ---- the client

keeps_same : (a b : Held ServerEnd) → b ≡ a → Keeps endpoint_in with_endpoint_in a b
keeps_same a b same = subst (λ (h : Held ServerEnd). Keeps endpoint_in with_endpoint_in a h) (sym same) (sym (same_endpoint a.context))

module _ {H : Type 0} (may : H → ℕ → ℕ → Type 0) (v p : PartsView H) (is : v ≡ p) (e : EndsView ServerEnd) (clock now : Option (List ℕ)) (server_is : e.server ≡ v.ends.server) (sound : IsSound p) (whole : p.ends.spent ≡ false) where
  keeps_there : Keeps endpoint_in with_endpoint_in v.ends.server e.server
  keeps_there = keeps_same v.ends.server e.server server_is

  kept_there : IsSound v
  kept_there = subst (λ (x : PartsView H). IsSound x) (sym is) sound

  whole_there : v.ends.spent ≡ false
  whole_there = ap (λ (x : PartsView H). x.ends.spent) is ∙ whole

  pub event_wants : (world_in endpoint_in e ≡ world_in endpoint_in v.ends) ⊎ (world_in endpoint_in e ≡ spent_world side.Client (world_in endpoint_in v.ends)) → now ≡ clock → e.spent ≡ false →
      StepsClient may (pair_in p) clock now (Err error.NoMemory) (client_answered (Err error.NoMemory) (pair_in (record v { ends = e })))
  event_wants (inl same) unread whole_now = subst (λ (x : PartsView H). StepsClient may (pair_in x) clock now (Err error.NoMemory) (client_answered (Err error.NoMemory) (pair_in (record v { ends = e })))) is (of_client.wants_first may v e clock now same keeps_there unread)
  event_wants (inr spent) unread whole_now = let gone : e.spent ≡ true = ap (λ (w : WorldView). w.spent) spent in absurd cc

  pub event_lost : (world_in endpoint_in e ≡ world_in endpoint_in v.ends) ⊎ (world_in endpoint_in e ≡ spent_world side.Client (world_in endpoint_in v.ends)) → e.spent ≡ true → SpendsAtCall (pair_in p) (pair_in (record v { ends = e }))
  event_lost (inl same) gone = let whole_now : e.spent ≡ false = ap (λ (w : WorldView). w.spent) same ∙ whole_there in absurd cc
  event_lost (inr spent) gone = subst (λ (x : PartsView H). SpendsAtCall (pair_in x) (pair_in (record v { ends = e }))) is (of_client.spent_first v e spent keeps_there)

  module _ (read : world_in endpoint_in e ≡ read_world side.Client (world_in endpoint_in v.ends)) where
    pub event_none : ReadsEvent None (pair_in v).ends (world_in endpoint_in e) → now ≡ clock → StepsClient may (pair_in p) clock now (Ok false) (client_answered (Ok false) (pair_in (record v { ends = e })))
    event_none reads unread = subst (λ (x : PartsView H). StepsClient may (pair_in x) clock now (Ok false) (client_answered (Ok false) (pair_in (record v { ends = e })))) is
        (of_client.steps_none may v e clock now read keeps_there whole_there kept_there.kept.pair.world reads unread)

    pub event_gone_asking : (id : ℕ) → ReadsEvent (Some (pending.InvalidObject id)) (pair_in v).ends (world_in endpoint_in e) → now ≡ clock → is_some (converter_in (pair_in (record v { ends = e })).client) ≡ false →
        StepsClient may (pair_in p) clock now (Err (error.Handshake (handshake_error.InvalidObject id))) (client_answered (Err (error.Handshake (handshake_error.InvalidObject id))) (pair_in (record v { ends = e })))
    event_gone_asking id reads unread none = let result : Result Bool Error = Err (error.Handshake (handshake_error.InvalidObject id)) in
        subst (λ (x : PartsView H). StepsClient may (pair_in x) clock now result (client_answered result (pair_in (record v { ends = e })))) is
        (of_client.steps_gone may v e clock now read keeps_there id result reads unread (of_client.misses_shaking (pair_in (record v { ends = e })).client id (pair_in (record v { ends = e })) none))

    pub event_gone_following : (id : ℕ) → ReadsEvent (Some (pending.InvalidObject id)) (pair_in v).ends (world_in endpoint_in e) → now ≡ clock → is_some (converter_in (pair_in (record v { ends = e })).client) ≡ true →
        StepsClient may (pair_in p) clock now (Ok true) (client_answered (Ok true) (pair_in (record v { ends = e })))
    event_gone_following id reads unread some = subst (λ (x : PartsView H). StepsClient may (pair_in x) clock now (Ok true) (client_answered (Ok true) (pair_in (record v { ends = e })))) is
        (of_client.steps_gone may v e clock now read keeps_there id (Ok true) reads unread (of_client.misses_serving (pair_in (record v { ends = e })).client id (pair_in (record v { ends = e })) some))

    pub event_took : (m : Event) → IsLawfulReason m → IsWorld (world_in endpoint_in e) → ReadsEvent (Some (pending.Request m)) (pair_in v).ends (world_in endpoint_in e) → TookEvent m (pair_in (record v { ends = e }))
    event_took m reason world reads = of_client.took may v e clock now read keeps_there m reason world kept_there.kept whole_there reads

    pub event_steps : (m : Event) (result : Result Bool Error) (new : PairView H) → IsLawfulReason m → ReadsEvent (Some (pending.Request m)) (pair_in v).ends (world_in endpoint_in e) →
        HandsEvent may (pair_in (record v { ends = e })).client m clock now (pair_in (record v { ends = e })) result new → StepsClient may (pair_in p) clock now result new
    event_steps m result new reason reads hands = subst (λ (x : PartsView H). StepsClient may (pair_in x) clock now result new) is (of_client.steps_took may v e clock now read keeps_there m result new reason reads hands)
