-- A side handled a message: what it sent is stored, or for want of memory nothing is, and the message isn't either.
use Rattle.std.proofs.Common.{◌≡◌, ◌≢◌, ℕ, Bool, true, false, List, ◌∷◌, length, Option, Result, sym, ap, subst, ◌∙◌}
use Rattle.ei_types.specs.declared.error.Error.{Error}
use Rattle.ei_backend.specs.Backend.{BackendView}
use Rattle.ei_backend.specs.Endpoint.{Endpoint}
use Rattle.ei_client.specs.declared.event.Event.{Event}
use Rattle.ei_server.specs.declared.request.Request.{Request}
use Rattle.ei_linked.specs.declared.record.Record.{Record}
use Rattle.ei_linked.specs.declared.record.Got.{Got}
use Rattle.ei_linked.specs.declared.written.Unsent.{Unsent}
use Rattle.ei_linked.specs.declared.side.Side.TheVariants as side
use Rattle.ei_linked.specs.Held.{stored_by}
use Rattle.ei_linked.specs.Written.{AreWritten, unsent_in, stored_onto}
use Rattle.ei_linked.specs.Ends.{EndsView, world_in}
use Rattle.ei_linked.specs.TwoEnds.{WorldView, IsWorld, read_world, end_of}
use Rattle.ei_linked.proofs.Kept.{world, spent_kept}
use Rattle.ei_handshake.specs.Client.{ClientView}
use Rattle.ei_handshake.specs.Handshaker.{HandshakerView}
use Rattle.ei_event.specs.Converter.{ConverterView as ClientConverter}
use Rattle.ei_promises.specs.Pair.{PairView, maps_in, receipts_in}
use Rattle.ei_promises.specs.Stepping.{as_step, HandsRequest, HandsEvent, IsSpent}
use Rattle.ei_pair.specs.declared.server_end.ServerEnd.{ServerEnd}
use Rattle.ei_pair.specs.ServerEnd.{endpoint_in}
use Rattle.ei_pair.specs.Parts.{PartsView, pair_in}
use Rattle.ei_pair.specs.Stepped.{TookRequest, TookEvent, server_answered, client_answered}
use Rattle.ei_pair.specs.Spent.{SpendsAtCall}
use Rattle.ei_pair.proofs.Spent.{both_want, both_closed}
use Rattle.ei_pair.proofs.Reading.{read_sent, read_closed, got_request, got_event, took_request, took_event, same_maps}
use Rattle.ei_pair.proofs.Written.{written, closed_after, server_world, client_world}
use Rattle.ei_pair.proofs.Handing.{Handed}
use Rattle.ei_pair.proofs.Hearing.{Heard}

-- what holds of the lists of two ends holds once they are spent
pub spent_world : (w v : WorldView) → v.spent ≡ true → v.client.sent ≡ w.client.sent → v.client.taken ≡ w.client.taken → v.server.sent ≡ w.server.sent → v.server.taken ≡ w.server.taken → IsWorld w → IsWorld v
spent_world w v spent a b c d kept = subst (λ (x : Bool). IsWorld (world v.client v.server v.to_client v.to_server x)) (sym spent) (spent_kept w v.client v.server v.to_client v.to_server a b c d kept)

-- ---- the server

-- both ends, of which the server's is this, with these stored as sent, and whether they are spent
abbrev pub server_ends : {H : Type 0} → PartsView H → ServerEnd → List Record → List Got → Bool → EndsView ServerEnd
server_ends p s sent taken spent = record {
  client = p.ends.client;
  server = record { context = s; sent = sent; taken = taken };
  to_client = p.ends.to_client;
  to_server = p.ends.to_server;
  spent = spent;
}

whole_still : {H : Type 0} (r : Request) (p : PairView H) (t : TookRequest r p) → p.ends.spent ≡ false
whole_still {H} r p t = ap (λ (v : PairView H). v.ends.spent) t.is ∙ t.whole

module _ {H : Type 0} (p : PartsView H) (r : Request) (before after : Option (List ℕ)) (result : Result (Unit {0}) Error) (left : HandshakerView) (s : ServerEnd) (t : TookRequest r (pair_in p)) (h : Handed p r before after result left s) where
  -- what it sent is read back
  pub request_written : (at : Unsent) → at ≡ unsent_in (endpoint_in p.ends.server.context) → AreWritten true at h.ms (stored_by endpoint_in (record { context = s; sent = p.ends.server.sent; taken = p.ends.server.taken }))
  request_written at is = subst (λ (u : Unsent). AreWritten true u h.ms (stored_by endpoint_in (record { context = s; sent = p.ends.server.sent; taken = p.ends.server.taken }))) (sym is) (written true h.ms (pair_in p).ends.server (endpoint_in s) h.sent)

  -- where it is stored
  pub request_handed : (e : EndsView ServerEnd) → e ≡ server_ends p s (stored_onto true h.ms p.ends.server.sent) p.ends.server.taken p.ends.spent →
      HandsRequest (pair_in p).server r before after (pair_in p) (as_step result) (server_answered (as_step result) (pair_in (record p { ends = e; tells = left })))
  request_handed e is = subst (λ (x : EndsView ServerEnd). HandsRequest (pair_in p).server r before after (pair_in p) (as_step result) (server_answered (as_step result) (pair_in (record p { ends = x; tells = left })))) (sym is) h.hands

  pub request_world : (e : EndsView ServerEnd) → e ≡ server_ends p s (stored_onto true h.ms p.ends.server.sent) p.ends.server.taken p.ends.spent → IsWorld (world_in endpoint_in e)
  request_world e is = subst (λ (x : EndsView ServerEnd). IsWorld (world_in endpoint_in x)) (sym is) (server_world h.ms (pair_in p).ends (endpoint_in s) (whole_still r (pair_in p) t) t.world h.sent)

  -- where it isn't
  pub request_unstored : (e : EndsView ServerEnd) → e ≡ server_ends p s p.ends.server.sent t.old.ends.server.taken true → SpendsAtCall t.old (pair_in (record p { ends = e; tells = left }))
  request_unstored e is =
      let new : PairView H = pair_in (record p { ends = e; tells = left }) in
      record {
        lists = record {
          spent = ap (λ (x : EndsView ServerEnd). x.spent) is;
          client_sent = ap (λ (x : EndsView ServerEnd). x.client.sent) is ∙ ap (λ (v : PairView H). v.ends.client.sent) t.is;
          client_taken = ap (λ (x : EndsView ServerEnd). x.client.taken) is ∙ ap (λ (v : PairView H). v.ends.client.taken) t.is;
          server_sent = ap (λ (x : EndsView ServerEnd). x.server.sent) is ∙ ap (λ (v : PairView H). v.ends.server.sent) t.is ∙ read_sent false t.old.ends.server;
          server_taken = ap (λ (x : EndsView ServerEnd). x.server.taken) is;
          maps = ap (λ (x : EndsView ServerEnd). maps_in (pair_in (record p { ends = x; tells = left }))) is ∙ h.maps ∙ ap (λ (v : PairView H). maps_in v) t.is ∙ same_maps (read_world side.Server t.old.ends) t.old;
          receipts = ap (λ (v : PairView H). receipts_in v.client) t.is;
        };
        wants = both_want t.old new (ap (λ (v : PairView H). v.client_wanted) t.is) (ap (λ (v : PairView H). v.server_wanted) t.is);
        steady = ap (λ (v : PairView H). v.steady) t.is;
        closed = both_closed t.old new
            (λ was. ap (λ (x : EndsView ServerEnd). x.client.context.closed) is ∙ ap (λ (v : PairView H). v.ends.client.backend.closed) t.is ∙ was)
            (λ was. ap (λ (x : EndsView ServerEnd). (endpoint_in x.server.context).closed) is ∙ ap (λ (x : Endpoint). x.closed) h.sent.endpoint ∙ closed_after true h.ms (end_of side.Server (pair_in p).ends)
            ∙ ap (λ (v : PairView H). v.ends.server.backend.closed) t.is ∙ read_closed false t.old.ends.server ∙ was);
      }

-- the last that was taken is the request
pub last_request : {H : Type 0} (p : PartsView H) (r : Request) (t : TookRequest r (pair_in p)) → p.ends.server.taken ≡ got_request r t.old.ends ∷ t.old.ends.server.taken
last_request {H} p r t = ap (λ (v : PairView H). v.ends.server.taken) t.is ∙ took_request r t.old.ends (pair_in p).ends t.reads

-- so both ends hold what is known of their lists
pub request_spent : {H : Type 0} (p : PartsView H) (r : Request) (t : TookRequest r (pair_in p)) (q : PairView H) → IsSpent t.old q → IsWorld q.ends
request_spent p r t q s = spent_world t.old.ends q.ends s.spent s.client_sent s.client_taken s.server_sent s.server_taken t.kept.pair.world

-- ---- the client

-- both ends, of which the client's is this, with these stored as sent, and whether they are spent
abbrev pub client_ends : {H : Type 0} → PartsView H → BackendView → List Record → List Got → Bool → EndsView ServerEnd
client_ends p b sent taken spent = record {
  client = record { context = b; sent = sent; taken = taken };
  server = p.ends.server;
  to_client = p.ends.to_client;
  to_server = p.ends.to_server;
  spent = spent;
}

whole_yet : {H : Type 0} (e : Event) (p : PairView H) (t : TookEvent e p) → p.ends.spent ≡ false
whole_yet {H} e p t = ap (λ (v : PairView H). v.ends.spent) t.is ∙ t.whole

module _ {H : Type 0} (may : H → ℕ → ℕ → Type 0) (p : PartsView H) (m : Event) (before after : Option (List ℕ)) (result : Result (Unit {0}) Error) (left : ClientView) (b : BackendView) (c : Option (ClientConverter H)) (t : TookEvent m (pair_in p)) (h : Heard may p m before after result left b c) where
  pub event_written : (at : Unsent) → at ≡ unsent_in p.ends.client.context → AreWritten false at h.ms (stored_by (λ x. x) (record { context = b; sent = p.ends.client.sent; taken = p.ends.client.taken }))
  event_written at is = subst (λ (u : Unsent). AreWritten false u h.ms (stored_by (λ x. x) (record { context = b; sent = p.ends.client.sent; taken = p.ends.client.taken }))) (sym is) (written false h.ms (pair_in p).ends.client b h.sent)

  pub event_handed : (e : EndsView ServerEnd) → e ≡ client_ends p b (stored_onto false h.ms p.ends.client.sent) p.ends.client.taken p.ends.spent →
      HandsEvent may (pair_in p).client m before after (pair_in p) (as_step result) (client_answered (as_step result) (pair_in (record p { ends = e; asks = left; converter = c })))
  event_handed e is = subst (λ (x : EndsView ServerEnd). HandsEvent may (pair_in p).client m before after (pair_in p) (as_step result) (client_answered (as_step result) (pair_in (record p { ends = x; asks = left; converter = c })))) (sym is) h.hands

  pub event_world : (e : EndsView ServerEnd) → e ≡ client_ends p b (stored_onto false h.ms p.ends.client.sent) p.ends.client.taken p.ends.spent → IsWorld (world_in endpoint_in e)
  event_world e is = subst (λ (x : EndsView ServerEnd). IsWorld (world_in endpoint_in x)) (sym is) (client_world h.ms (pair_in p).ends b (whole_yet m (pair_in p) t) t.world h.sent)

  pub event_unstored : (e : EndsView ServerEnd) → length b.unsent ≢ length p.ends.client.context.unsent → e ≡ client_ends p b p.ends.client.sent t.old.ends.client.taken true →
      SpendsAtCall t.old (pair_in (record p { ends = e; asks = left; converter = c }))
  event_unstored e more is =
      let new : PairView H = pair_in (record p { ends = e; asks = left; converter = c }) in
      record {
        lists = record {
          spent = ap (λ (x : EndsView ServerEnd). x.spent) is;
          client_sent = ap (λ (x : EndsView ServerEnd). x.client.sent) is ∙ ap (λ (v : PairView H). v.ends.client.sent) t.is ∙ read_sent true t.old.ends.client;
          client_taken = ap (λ (x : EndsView ServerEnd). x.client.taken) is;
          server_sent = ap (λ (x : EndsView ServerEnd). x.server.sent) is ∙ ap (λ (v : PairView H). v.ends.server.sent) t.is;
          server_taken = ap (λ (x : EndsView ServerEnd). x.server.taken) is ∙ ap (λ (v : PairView H). v.ends.server.taken) t.is;
          maps = ap (λ (x : EndsView ServerEnd). maps_in (pair_in (record p { ends = x; asks = left; converter = c }))) is ∙ h.maps more ∙ ap (λ (v : PairView H). maps_in v) t.is ∙ same_maps (read_world side.Client t.old.ends) t.old;
          receipts = h.receipts more ∙ ap (λ (v : PairView H). receipts_in v.client) t.is;
        };
        wants = both_want t.old new (ap (λ (v : PairView H). v.client_wanted) t.is) (ap (λ (v : PairView H). v.server_wanted) t.is);
        steady = ap (λ (v : PairView H). v.steady) t.is;
        closed = both_closed t.old new
            (λ was. ap (λ (x : EndsView ServerEnd). x.client.context.closed) is ∙ ap (λ (x : Endpoint). x.closed) h.sent.endpoint ∙ closed_after false h.ms (end_of side.Client (pair_in p).ends)
            ∙ ap (λ (v : PairView H). v.ends.client.backend.closed) t.is ∙ read_closed true t.old.ends.client ∙ was)
            (λ was. ap (λ (x : EndsView ServerEnd). (endpoint_in x.server.context).closed) is ∙ ap (λ (v : PairView H). v.ends.server.backend.closed) t.is ∙ was);
      }

pub last_event : {H : Type 0} (p : PartsView H) (m : Event) (t : TookEvent m (pair_in p)) → p.ends.client.taken ≡ got_event m t.old.ends ∷ t.old.ends.client.taken
last_event {H} p m t = ap (λ (v : PairView H). v.ends.client.taken) t.is ∙ took_event m t.old.ends (pair_in p).ends t.reads

pub event_spent : {H : Type 0} (p : PartsView H) (m : Event) (t : TookEvent m (pair_in p)) (q : PairView H) → IsSpent t.old q → IsWorld q.ends
event_spent p m t q s = spent_world t.old.ends q.ends s.spent s.client_sent s.client_taken s.server_sent s.server_taken t.kept.pair.world
