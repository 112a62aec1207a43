-- What stays of a pair whose server serves, while its client takes messages.
use Rattle.std.proofs.Common.{◌≡◌, ℕ, ◌⊎◌, Bool, true, false, inl, inr, List, [], ◌∷◌, Option, Some, None, Ok, refl, sym, ap, subst, ◌∙◌}
use Rattle.ei_backend.specs.Backend.{BackendView}
use Rattle.ei_backend.specs.declared.message.PendingRequestResult.{PendingRequestResult}
use Rattle.ei_backend.specs.declared.message.PendingRequestResult.TheVariants as pending
use Rattle.ei_client.specs.declared.event.Event.{Event}
use Rattle.ei_linked.specs.declared.side.Side.TheVariants as side
use Rattle.ei_linked.specs.Stored.{StoredEnd}
use Rattle.ei_request.specs.Converter.{ConverterView as ServerConverter}
use Rattle.ei_promises.specs.Pair.{ClientStage, Asks, Follows, ServerStage, Serves, PairView, on_endpoint}
use Rattle.ei_promises.specs.Stepping.{or_wanted, MissesEvent, HandsEvent, ClientSteps, client_taken}
use Rattle.ei_emit.specs.Carried.{Moment, moment, AnyAnswer, IsMoved, Takes, GoesOn, GoesBy}

-- the connection with another endpoint
abbrev pub serving_on : BackendView → ServerConverter → ServerConverter
serving_on b c = record c { handle = record c.handle { ctx = b } }

-- the server sent nothing and has the same table, and what marks the pair is as before
pub record Rests {H : Type 0} (c : ServerConverter) (old new : PairView H) : Type 0 where
  pub server : new.server ≡ Serves (serving_on new.ends.server.backend c)
  pub sent : new.ends.server.sent ≡ old.ends.server.sent
  pub table : new.ends.server.backend.table ≡ old.ends.server.backend.table
  pub steady : new.steady ≡ old.steady
  pub client_wanted : new.client_wanted ≡ old.client_wanted
  pub server_wanted : new.server_wanted ≡ old.server_wanted

still_wanted : (was : Bool) → or_wanted was (Ok true) ≡ was
still_wanted true = refl
still_wanted false = refl

module _ {H : Type 0} (c : ServerConverter) (first : PairView H) where
  -- where the pair has other ends, of which the server's is the same but for bytes
  on_ends : (old new : PairView H) → new.server ≡ on_endpoint new.ends.server.backend old.server → new.ends.server.sent ≡ old.ends.server.sent → new.ends.server.backend.table ≡ old.ends.server.backend.table →
      new.steady ≡ old.steady → new.client_wanted ≡ old.client_wanted → new.server_wanted ≡ old.server_wanted → Rests c first old → Rests c first new
  on_ends old new server sent table steady cw sw r = record {
    server = server ∙ ap (λ (s : ServerStage). on_endpoint new.ends.server.backend s) r.server;
    sent = sent ∙ r.sent;
    table = table ∙ r.table;
    steady = steady ∙ r.steady;
    client_wanted = cw ∙ r.client_wanted;
    server_wanted = sw ∙ r.server_wanted;
  }

  moved_rests : (old new : PairView H) → IsMoved old new → Rests c first old → Rests c first new
  moved_rests old new m r =
      on_ends old new (ap (λ (p : PairView H). p.server) m.kept) m.same.server_sent m.same.server_table
      (ap (λ (p : PairView H). p.steady) m.kept) (ap (λ (p : PairView H). p.client_wanted) m.kept) (ap (λ (p : PairView H). p.server_wanted) m.kept) r

  -- what a step leaves of what it had taken
  taken_rests : (old new : PairView H) → new.server ≡ (client_taken old).server → new.ends.server ≡ old.ends.server → new.steady ≡ old.steady → new.client_wanted ≡ old.client_wanted → new.server_wanted ≡ old.server_wanted → Rests c first old → Rests c first new
  taken_rests old new server end steady cw sw r =
      on_ends old new (server ∙ ap (λ (x : StoredEnd). on_endpoint x.backend old.server) (sym end)) (ap (λ (x : StoredEnd). x.sent) end) (ap (λ (x : StoredEnd). x.backend.table) end) steady cw sw r

  missed : (k : ClientStage H) (id : ℕ) (old new : PairView H) → MissesEvent k id (client_taken old) (Ok true) new → Rests c first old → Rests c first new
  missed (Asks h) id old new m r = absurd (let e = m.0 in cc)
  missed (Follows f) id old new m r =
      taken_rests old new (ap (λ (p : PairView H). p.server) m.1) (ap (λ (p : PairView H). p.ends.server) m.1) (ap (λ (p : PairView H). p.steady) m.1)
      (ap (λ (p : PairView H). p.client_wanted) m.1) (ap (λ (p : PairView H). p.server_wanted) m.1) r

  handed : (k : ClientStage H) (e : Event) (before after : Option (List ℕ)) (old new : PairView H) → HandsEvent AnyAnswer k e before after (client_taken old) (Ok true) new → Rests c first old → Rests c first new
  handed (Asks h) e before after old new s r =
      taken_rests old new (ap (λ (p : PairView H). p.server) s.0.leaves) (ap (λ (p : PairView H). p.ends.server) s.0.leaves) (ap (λ (p : PairView H). p.steady) s.0.leaves)
      (ap (λ (p : PairView H). p.client_wanted) s.0.leaves ∙ still_wanted old.client_wanted) (ap (λ (p : PairView H). p.server_wanted) s.0.leaves) r
  handed (Follows f) e before after old new s r =
      taken_rests old new (ap (λ (p : PairView H). p.server) s.leaves) (ap (λ (p : PairView H). p.ends.server) s.leaves) (ap (λ (p : PairView H). p.steady) s.leaves)
      (ap (λ (p : PairView H). p.client_wanted) s.leaves ∙ still_wanted old.client_wanted) (ap (λ (p : PairView H). p.server_wanted) s.leaves) r

  by_answer : (answer : Option (PendingRequestResult Event)) (before after : Option (List ℕ)) (old new : PairView H) → ClientSteps AnyAnswer answer before after old (client_taken old) (Ok true) new → Rests c first old → Rests c first new
  by_answer None before after old new s r = absurd (let e = s.0 in cc)
  by_answer (Some (pending.InvalidObject id)) before after old new s r = missed old.client id old new s.0 r
  by_answer (Some (pending.Request e)) before after old new s r = handed old.client e before after old new s r
  by_answer (Some (pending.ParseError e)) before after old new s r = absurd s

  step_rests : (old new : Moment H) → Takes side.Client old new → Rests c first old.pair → Rests c first new.pair
  step_rests old new (inl t) r = by_answer t.answer old.told new.told old.pair new.pair t.steps r
  step_rests old new (inr w) r = absurd (let e = w.answers in cc)

  goes_one : (old new : Moment H) → GoesOn side.Client old new → Rests c first old.pair → Rests c first new.pair
  goes_one old new g r = by g.takes (moved_rests old.pair g.moved g.moves r)
    where
      by : Takes side.Client (moment g.moved old.told) new ⊎ (new ≡ moment g.moved old.told) → Rests c first g.moved → Rests c first new.pair
      by (inl t) k = step_rests (moment g.moved old.told) new t k
      by (inr e) k = subst (λ (m : Moment H). Rests c first m.pair) (sym e) k

-- from where the server's connection has its endpoint
begins : {H : Type 0} (c : ServerConverter) (p : PairView H) → p.server ≡ Serves c → c.handle.ctx ≡ p.ends.server.backend → Rests c p p
begins c p is endpoint = record {
  server = is ∙ ap (λ (b : BackendView). Serves (serving_on b c)) endpoint;
  sent = refl;
  table = refl;
  steady = refl;
  client_wanted = refl;
  server_wanted = refl;
}

pub rests_by : {H : Type 0} (c : ServerConverter) (first : Moment H) → first.pair.server ≡ Serves c → c.handle.ctx ≡ first.pair.ends.server.backend → (between : List (Moment H)) (last : Moment H) → GoesBy side.Client between first last → Rests c first.pair last.pair
rests_by {H} c first is endpoint [] last g = subst (λ (m : Moment H). Rests c first.pair m.pair) (sym g) (begins c first.pair is endpoint)
rests_by c first is endpoint (m ∷ earlier) last g = goes_one c first.pair m last g.0 (rests_by c first is endpoint earlier m g.1)
