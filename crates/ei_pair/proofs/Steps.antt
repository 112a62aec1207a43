-- What a step of the server comes to.
use Rattle.std.proofs.Common.{◌≡◌, ℕ, Bool, true, false, List, Option, Some, None, Result, Ok, Err, inl, inr, refl, ap, subst, ◌∙◌}
use Rattle.std.specs.Prelude.{is_some}
use Rattle.ei_types.specs.declared.error.Error.{Error}
use Rattle.ei_types.specs.declared.error.Error.TheVariants as error
use Rattle.ei_types.specs.declared.error.HandshakeError.TheVariants as handshake_error
use Rattle.ei_backend.specs.declared.message.PendingRequestResult.{PendingRequestResult}
use Rattle.ei_backend.specs.declared.message.PendingRequestResult.TheVariants as pending
use Rattle.ei_server.specs.declared.request.Request.{Request}
use Rattle.ei_linked.specs.declared.side.Side.TheVariants as side
use Rattle.ei_linked.specs.Held.{Keeps}
use Rattle.ei_linked.specs.Ends.{EndsView, world_in}
use Rattle.ei_linked.specs.TwoEnds.{WorldView, IsWorld, read_world, spent_world}
use Rattle.ei_promises.specs.Pair.{PairView, ServerStage, Shakes, Serves, connection_in, maps_in}
use Rattle.ei_promises.specs.Stepping.{or_wanted, ReadsRequest, HandsRequest, MissesRequest, server_taken, StepsServer}
use Rattle.ei_pair.specs.declared.server_end.ServerEnd.{ServerEnd}
use Rattle.ei_pair.specs.ServerEnd.{endpoint_in, with_endpoint_in}
use Rattle.ei_pair.specs.Parts.{PartsView, pair_in}
use Rattle.ei_pair.specs.Stepped.{IsKept, TookRequest, server_answered}
use Rattle.ei_pair.specs.Spent.{SpendsAtCall}
use Rattle.ei_pair.proofs.Moved.{moved, moved_to, same_ends}
use Rattle.ei_pair.proofs.Spent.{both_want, both_closed, next_closed}
use Rattle.ei_pair.proofs.Reading.{no_request, same_maps}

-- ---- memory was wanted before

pub wanted_none : (w : Bool) → or_wanted w (Err error.NoMemory) ≡ true
wanted_none true = refl
wanted_none false = refl

pub unwanted : (w : Bool) (b : Bool) → or_wanted w (Ok b) ≡ w
unwanted true b = refl
unwanted false b = refl

pub unrefused : (w : Bool) (id : ℕ) → or_wanted w (Err (error.Handshake (handshake_error.InvalidObject id))) ≡ w
unrefused true id = refl
unrefused false id = refl

-- the ends are as before, and memory was wanted
pub wants_first : {H : Type 0} (p : PartsView H) (e : EndsView ServerEnd) (clock now : Option (List ℕ)) → world_in endpoint_in e ≡ world_in endpoint_in p.ends → Keeps endpoint_in with_endpoint_in p.ends.server e.server → now ≡ clock →
    StepsServer (pair_in p) clock now (Err error.NoMemory) (server_answered (Err error.NoMemory) (pair_in (record p { ends = e })))
wants_first {H} p e clock now same keeps unread =
    let pair : pair_in (record p { ends = e }) ≡ pair_in p = moved_to p e (world_in endpoint_in p.ends) keeps same ∙ same_ends p in
    inr (record {
      answers = refl;
      unread = unread;
      leaves = ap (λ (v : PairView H). server_answered (Err error.NoMemory) v) pair ∙ ap (λ (b : Bool). let v : PairView H = record (pair_in p) { server_wanted = b } in v) (wanted_none p.server_wanted);
    })

-- what was taken isn't stored
pub spent_first : {H : Type 0} (p : PartsView H) (e : EndsView ServerEnd) → world_in endpoint_in e ≡ spent_world side.Server (world_in endpoint_in p.ends) → Keeps endpoint_in with_endpoint_in p.ends.server e.server →
    SpendsAtCall (pair_in p) (pair_in (record p { ends = e }))
spent_first {H} p e is keeps =
    let new : PairView H = pair_in (record p { ends = e }) in
    record {
      lists = record {
        spent = ap (λ (w : WorldView). w.spent) is;
        client_sent = ap (λ (w : WorldView). w.client.sent) is;
        client_taken = ap (λ (w : WorldView). w.client.taken) is;
        server_sent = ap (λ (w : WorldView). w.server.sent) is;
        server_taken = ap (λ (w : WorldView). w.server.taken) is;
        maps = ap (λ (v : PairView H). maps_in v) (moved p e keeps) ∙ same_maps (world_in endpoint_in e) (pair_in p);
        receipts = refl;
      };
      wants = both_want (pair_in p) new refl refl;
      steady = refl;
      closed = both_closed (pair_in p) new
          (λ was. ap (λ (w : WorldView). w.client.backend.closed) is ∙ was)
          (λ was. ap (λ (w : WorldView). w.server.backend.closed) is ∙ next_closed false (endpoint_in p.ends.server.context) ∙ was);
    }

-- ---- a message was taken

module _ {H : Type 0} (p : PartsView H) (e : EndsView ServerEnd) (clock now : Option (List ℕ)) (is : world_in endpoint_in e ≡ read_world side.Server (world_in endpoint_in p.ends)) (keeps : Keeps endpoint_in with_endpoint_in p.ends.server e.server) where
  taken_is : pair_in (record p { ends = e }) ≡ server_taken (pair_in p)
  taken_is = moved_to p e (read_world side.Server (world_in endpoint_in p.ends)) keeps is

  read_so : (answer : Option (PendingRequestResult Request)) → ReadsRequest answer (pair_in p).ends (world_in endpoint_in e) → ReadsRequest answer (pair_in p).ends (server_taken (pair_in p)).ends
  read_so answer reads = subst (λ (w : WorldView). ReadsRequest answer (pair_in p).ends w) is reads

  -- nothing is there
  pub steps_none : (pair_in p).ends.spent ≡ false → IsWorld (pair_in p).ends → ReadsRequest None (pair_in p).ends (world_in endpoint_in e) → now ≡ clock →
      StepsServer (pair_in p) clock now (Ok false) (server_answered (Ok false) (pair_in (record p { ends = e })))
  steps_none whole world reads unread =
      let same : world_in endpoint_in e ≡ world_in endpoint_in p.ends = is ∙ no_request (world_in endpoint_in p.ends) (world_in endpoint_in e) whole world reads in
      let pair : pair_in (record p { ends = e }) ≡ pair_in p = moved_to p e (world_in endpoint_in p.ends) keeps same ∙ same_ends p in
      let all : server_answered (Ok false) (pair_in (record p { ends = e })) ≡ pair_in p = ap (λ (v : PairView H). server_answered (Ok false) v) pair ∙ ap (λ (b : Bool). let v : PairView H = record (pair_in p) { server_wanted = b } in v) (unwanted p.server_wanted false) in
      inl (record { answer = None; reads = read_so None reads; steps = (refl, all, unread) })

  -- it has no target
  pub steps_gone : (id : ℕ) (result : Result Bool Error) → ReadsRequest (Some (pending.InvalidObject id)) (pair_in p).ends (world_in endpoint_in e) → now ≡ clock →
      MissesRequest (pair_in (record p { ends = e })).server id (pair_in (record p { ends = e })) result (server_answered result (pair_in (record p { ends = e }))) →
      StepsServer (pair_in p) clock now result (server_answered result (pair_in (record p { ends = e })))
  steps_gone id result reads unread misses =
      inl (record {
        answer = Some (pending.InvalidObject id);
        reads = read_so (Some (pending.InvalidObject id)) reads;
        steps = (subst (λ (t : PairView H). MissesRequest t.server id t result (server_answered result (pair_in (record p { ends = e })))) taken_is misses, unread);
      })

  -- it is handed on
  pub took : (r : Request) → IsWorld (world_in endpoint_in e) → IsKept (pair_in p) → (pair_in p).ends.spent ≡ false → ReadsRequest (Some (pending.Request r)) (pair_in p).ends (world_in endpoint_in e) → TookRequest r (pair_in (record p { ends = e }))
  took r world kept whole reads = record { world = world; old = pair_in p; kept = kept; whole = whole; reads = reads; is = taken_is }

  pub steps_took : (r : Request) (result : Result Bool Error) (new : PairView H) → ReadsRequest (Some (pending.Request r)) (pair_in p).ends (world_in endpoint_in e) →
      HandsRequest (pair_in (record p { ends = e })).server r clock now (pair_in (record p { ends = e })) result new → StepsServer (pair_in p) clock now result new
  steps_took r result new reads hands =
      inl (record {
        answer = Some (pending.Request r);
        reads = read_so (Some (pending.Request r)) reads;
        steps = subst (λ (t : PairView H). HandsRequest t.server r clock now t result new) taken_is hands;
      })

-- ---- a target that isn't there

pub misses_shaking : {H : Type 0} (s : ServerStage) (id : ℕ) (q : PairView H) → is_some (connection_in s) ≡ false → MissesRequest s id q (Err (error.Handshake (handshake_error.InvalidObject id))) (server_answered (Err (error.Handshake (handshake_error.InvalidObject id))) q)
misses_shaking {H} (Shakes h) id q none = (refl, ap (λ (b : Bool). let v : PairView H = record q { server_wanted = b } in v) (unrefused q.server_wanted id))
misses_shaking (Serves c) id q none = absurd cc

pub misses_serving : {H : Type 0} (s : ServerStage) (id : ℕ) (q : PairView H) → is_some (connection_in s) ≡ true → MissesRequest s id q (Ok true) (server_answered (Ok true) q)
misses_serving (Shakes h) id q some = absurd cc
misses_serving {H} (Serves c) id q some = (refl, ap (λ (b : Bool). let v : PairView H = record q { server_wanted = b } in v) (unwanted q.server_wanted true))
