-- A server's connection has the first id of a server: it announced nothing before.
use Rattle.std.proofs.Common.{◌≡◌, ℕ, ◌+◌, Bool, true, false, ◌⊎◌, inl, inr, Option, Some, None, Result, List, [], refl, sym, ap, subst, ◌∙◌}
use Rattle.ei_types.specs.declared.error.Error.{Error}
use Rattle.ei_backend.specs.Backend.{BackendView}
use Rattle.ei_backend.specs.Endpoint.{Endpoint}
use Rattle.ei_backend.specs.Table.{first_server_id}
use Rattle.ei_backend.specs.declared.message.PendingRequestResult.{PendingRequestResult}
use Rattle.ei_backend.specs.declared.message.PendingRequestResult.TheVariants as pending
use Rattle.ei_server.specs.declared.request.Request.{Request}
use Rattle.ei_spec.specs.Interface.{ObjectView}
use Rattle.ei_handshake.specs.declared.server.EisHandshakeResp.{EisHandshakeResp}
use Rattle.ei_handshake.specs.Client.{ClientView}
use Rattle.ei_handshake.specs.Handshaker.{HandshakerView, Completes}
use Rattle.ei_linked.specs.declared.side.Side.TheVariants as side
use Rattle.ei_linked.specs.Stored.{having_read, end_in}
use Rattle.ei_linked.specs.TwoEnds.{WorldView, IsWorld, read_world}
use Rattle.ei_request.specs.Connection.{new_connection}
use Rattle.ei_request.specs.Converter.{ConverterView as ServerConverter}
use Rattle.ei_told.specs.Told.{messages}
use Rattle.ei_promises.specs.Pair.{ClientStage, Asks, Follows, ServerStage, Shakes, Serves, PairView, IsPair, on_endpoint, server_done}
use Rattle.ei_promises.specs.Stepping.{ReadsRequest, ServerSteps, StepsServer, server_after}
use Rattle.ei_promises.specs.Keeping.{AreAnswering, AreStuck, Keeps}
use Rattle.ei_promises.proofs.Given.{ShakingLaws}
use Rattle.ei_promises.proofs.Requests.{message_of}
use Rattle.ei_promises.proofs.Shook.{Shook, ToldOne, Finished, Wanted}
use Rattle.ei_promises.proofs.ServerShakes as shakes
use Rattle.ei_promises.proofs.ServerShakes.{pair}
use Rattle.ei_promises.proofs.ServerKeeps.{reads_none, GivesNone}
use Rattle.ei_pair.specs.Done.{HasFirstIds}

-- the ids that a connection has
abbrev pub FirstIds : ServerConverter → Type 0
FirstIds c = (c.handle.proxy.id ≡ first_server_id) × (c.handle.ctx.table.next_own ≡ first_server_id + 1)

not_both : (h : HandshakerView) (c : ServerConverter) (P : Type 0) → Shakes h ≡ Serves c → P
not_both h c P e = cc

-- a server that stands as before has no connection yet
same_none : (h g : HandshakerView) (c : ServerConverter) (s : ServerStage) (P : Type 0) → s ≡ Shakes h → s ≡ Serves c → P
same_none h g c s P a b = not_both h c P (sym a ∙ b)

-- where nothing is read nothing has changed
pub nothing_stepped : {H : Type 0} (answer : Option (PendingRequestResult Request)) (before after : Option (List ℕ)) (old taken : PairView H) (result : Result Bool Error) (new : PairView H) → GivesNone answer → ServerSteps answer before after old taken result new → new ≡ old
nothing_stepped None before after old taken result new g s = s.1
nothing_stepped (Some (pending.Request r)) before after old taken result new g s = absurd g
nothing_stepped (Some (pending.InvalidObject id)) before after old taken result new g s = absurd g
nothing_stepped (Some (pending.ParseError e)) before after old taken result new g s = absurd s

-- the connection that a complete finish hands over
completed : (h left : HandshakerView) (b ctx : BackendView) (resp : EisHandshakeResp) (serial : ℕ) (c : ServerConverter) → b.table.next_own ≡ first_server_id → Completes 0 h b resp left ctx →
    Serves (record { handle = new_connection ctx resp serial; queue = [] }) ≡ Serves c → FirstIds c
completed h left b ctx resp serial c first done is =
    let same : (let d : ServerConverter = record { handle = new_connection ctx resp serial; queue = [] } in d) ≡ c = cc in
    subst FirstIds same (
      ap (λ (o : ObjectView). o.id) done.connection ∙ first,
      ap (λ (e : Endpoint). e.next_own) done.events ∙ ap (λ (n : ℕ). n + 1) first,
    )

module _ (laws : ShakingLaws) {H : Type 0} (w : WorldView) (k : ClientView) (h : HandshakerView) (steady cw sw : Bool) (whole : w.spent ≡ false) (world : IsWorld w)
    (a : AreAnswering {H = H} k (pair w (Asks k) (Shakes h) steady cw sw)) (r : Request) (reads : ReadsRequest (Some (pending.Request r)) w (read_world side.Server w)) where
  -- what a request left of the handshaker
  shaken_first : (answer : Result (Option EisHandshakeResp) Error) (left : HandshakerView) (ctx : BackendView) (c : ServerConverter) → Shook a.serial (messages (end_in w.server).taken) h (having_read false w.server).backend (message_of r) answer left ctx →
      server_after answer left h.serial ctx ≡ Serves c → FirstIds c
  shaken_first answer left ctx c (ToldOne is f t e) s = not_both left c (FirstIds c) (subst (λ (b : Result (Option EisHandshakeResp) Error). server_after b left h.serial ctx ≡ Serves c) is s)
  shaken_first answer left ctx c (Finished resp is f d) s =
      completed h left (having_read false w.server).backend ctx resp h.serial c (shakes.id_is laws {H = H} w k h steady cw sw whole world a r reads) d
      (subst (λ (b : Result (Option EisHandshakeResp) Error). server_after b left h.serial ctx ≡ Serves c) is s)
  shaken_first answer left ctx c (Wanted is f e) s = not_both left c (FirstIds c) (subst (λ (b : Result (Option EisHandshakeResp) Error). server_after b left h.serial ctx ≡ Serves c) is s)

-- by what was read
answering_first : (laws : ShakingLaws) {H : Type 0} (w : WorldView) (k : ClientView) (h : HandshakerView) (steady cw sw : Bool) → w.spent ≡ false → IsWorld w → AreAnswering {H = H} k (pair w (Asks k) (Shakes h) steady cw sw) →
    (before after : Option (List ℕ)) (result : Result Bool Error) (new : PairView H) (c : ServerConverter) (answer : Option (PendingRequestResult Request)) → ReadsRequest answer w (read_world side.Server w) →
    ServerSteps answer before after (pair w (Asks k) (Shakes h) steady cw sw) (pair (read_world side.Server w) (Asks k) (Shakes h) steady cw sw) result new → new.server ≡ Serves c → FirstIds c
answering_first laws {H} w k h steady cw sw whole world a before after result new c None reads s is = same_none h h c new.server (FirstIds c) (ap (λ (p : PairView H). p.server) s.1) is
answering_first laws {H} w k h steady cw sw whole world a before after result new c (Some (pending.InvalidObject id)) reads s is = same_none h h c new.server (FirstIds c) (ap (λ (p : PairView H). p.server) s.0.1) is
answering_first laws {H} w k h steady cw sw whole world a before after result new c (Some (pending.ParseError e)) reads s is = absurd s
answering_first laws {H} w k h steady cw sw whole world a before after result new c (Some (pending.Request r)) reads s is =
    let i = s.0 in
    shaken_first laws {H = H} w k h steady cw sw whole world a r reads i.answer i.left i.ctx c
    (shakes.shakes_so laws {H = H} w k h steady cw sw whole world a r reads i.answer i.left i.ctx i.handles)
    (sym (ap (λ (p : PairView H). p.server) i.leaves) ∙ is)

-- by where both stand
stage_first : (laws : ShakingLaws) {H : Type 0} (w : WorldView) (k : ClientStage H) (h : HandshakerView) (steady cw sw : Bool) → w.spent ≡ false → IsPair (pair w k (Shakes h) steady cw sw) → Keeps (pair w k (Shakes h) steady cw sw) →
    (before after : Option (List ℕ)) (result : Result Bool Error) (new : PairView H) (c : ServerConverter) (answer : Option (PendingRequestResult Request)) → ReadsRequest answer w (read_world side.Server w) →
    ServerSteps answer before after (pair w k (Shakes h) steady cw sw) (pair (read_world side.Server w) k (Shakes h) steady cw sw) result new → new.server ≡ Serves c → FirstIds c
stage_first laws {H} w (Asks k) h steady cw sw whole ok keeps before after result new c answer reads s is = by (keeps.greeting whole).1
  where
    by : AreAnswering {H = H} k (pair w (Asks k) (Shakes h) steady cw sw) ⊎ AreStuck {H = H} (pair w (Asks k) (Shakes h) steady cw sw) → FirstIds c
    by (inl a) = answering_first laws {H = H} w k h steady cw sw whole ok.world a before after result new c answer reads s is
    by (inr a) = same_none h h c new.server (FirstIds c) (ap (λ (p : PairView H). p.server) (nothing_stepped answer before after _ _ result new (reads_none w whole ok.world a.server_waits answer reads) s)) is
stage_first laws {H} w (Follows f) h steady cw sw whole ok keeps before after result new c answer reads s is = let off : server_done (Shakes h) ≡ true = keeps.greeting whole in let both : false ≡ true = off in absurd cc

first_ids_at : (laws : ShakingLaws) {H : Type 0} (p : PairView H) (s : ServerStage) → p.server ≡ s → p.ends.spent ≡ false → IsPair p → Keeps p → (before after : Option (List ℕ)) (result : Result Bool Error) (new : PairView H) (h : HandshakerView) (c : ServerConverter) → s ≡ Shakes h →
    StepsServer p before after result new → new.server ≡ Serves c → FirstIds c
first_ids_at laws {H} p (Serves d) at whole ok keeps before after result new h c is step then = not_both h d (FirstIds c) (sym is)
first_ids_at laws {H} p (Shakes g) at whole ok keeps before after result new h c is (inr s) then = same_none g g c new.server (FirstIds c) (ap (λ (q : PairView H). q.server) s.leaves ∙ at) then
first_ids_at laws {H} p (Shakes g) at whole ok keeps before after result new h c is (inl s) then =
    let was : PairView H = pair p.ends p.client (Shakes g) p.steady p.client_wanted p.server_wanted in
    let same : p ≡ was = ap (λ (t : ServerStage). pair p.ends p.client t p.steady p.client_wanted p.server_wanted) at in
    stage_first laws p.ends p.client g p.steady p.client_wanted p.server_wanted whole (subst IsPair same ok) (subst Keeps same keeps) before after result new c s.answer s.reads
    (subst (λ (t : ServerStage). ServerSteps s.answer before after (pair p.ends p.client t p.steady p.client_wanted p.server_wanted) (pair (read_world side.Server p.ends) p.client (on_endpoint (having_read false p.ends.server).backend t) p.steady p.client_wanted p.server_wanted) result new) at s.steps) then

pub first_ids : (laws : ShakingLaws) {H : Type 0} (p : PairView H) → p.ends.spent ≡ false → IsPair p → Keeps p → (before after : Option (List ℕ)) (result : Result Bool Error) (new : PairView H) → StepsServer p before after result new → HasFirstIds p new
first_ids laws p whole ok keeps before after result new step = λ h c at then. first_ids_at laws p p.server refl whole ok keeps before after result new h c at step then
