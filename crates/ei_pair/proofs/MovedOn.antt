-- Bytes went or came, or what was queued was handed out, by the fields of the parts.
use Rattle.std.proofs.Common.{◌≡◌, ℕ, false, Option, Some, None, Result, refl, sym, ap, subst, ◌∙◌}
use Rattle.std.specs.Prelude.{OnOk, OnErr}
use Rattle.std.proofs.lemmas.Result.{on_ok_weaker, on_err_weaker}
use Rattle.ei_wire.specs.declared.error.ReadError.{ReadError}
use Rattle.ei_backend.specs.Backend.{BackendView}
use Rattle.ei_input.specs.Queue.{first_of, rest_of}
use Rattle.ei_event.specs.declared.event.EiEvent.{EiEvent}
use Rattle.ei_event.specs.Converter.{ConverterView as ClientConverter, with_queue}
use Rattle.ei_request.specs.declared.event.EisRequest.{EisRequest}
use Rattle.ei_linked.specs.declared.side.Side.{Side}
use Rattle.ei_linked.specs.declared.side.Side.TheVariants as side
use Rattle.ei_linked.specs.Held.{Keeps as IsKeptBy}
use Rattle.ei_linked.specs.Ends.{EndsView, world_in}
use Rattle.ei_linked.specs.TwoEnds.{WorldView, IsWorld, Agrees, flushed_world, DeliversAt}
use Rattle.ei_handshake.specs.Handshaker.{HandshakerView}
use Rattle.ei_promises.specs.Pair.{PairView, ServerStage, with_ends}
use Rattle.ei_promises.specs.Keeping.{SameLists}
use Rattle.ei_pair.specs.declared.server_end.ServerEnd.{ServerEnd}
use Rattle.ei_pair.specs.declared.server_end.ServerEnd.TheVariants as end
use Rattle.ei_pair.specs.ServerEnd.{endpoint_in, with_endpoint_in}
use Rattle.ei_pair.specs.Parts.{PartsView, client_in, server_in, pair_in}
use Rattle.ei_pair.specs.Lent.{first_event, without_event, first_request, without_request, first_at, without_first}
use Rattle.ei_pair.specs.Stepped.{IsSound}
use Rattle.ei_pair.proofs.Moved.{moved_to, moved, same_ends}
use Rattle.ei_pair.proofs.Bytes.{MovesSaid, moved_sound, FlushesSaid, flush_same, delivered_whole}
use Rattle.ei_pair.proofs.Queued.{ClientQueueSaid, ServerQueueSaid, client_queue, server_queue}

-- what a side took agrees with what the other sent
pub agrees_at : (s : Side) (w : WorldView) → IsWorld w → Agrees s w
agrees_at side.Client w kept = kept.client_agrees
agrees_at side.Server w kept = kept.server_agrees

-- a side isn't the other
pub not_server : (s : Side) → s ≡ side.Client → s ≡ side.Server → ⊥
not_server s a b = cc

pub not_client : (s : Side) → s ≡ side.Server → s ≡ side.Client → ⊥
not_client s a b = cc

module _ {H : Type 0} (v p : PartsView H) (is : v ≡ p) (e : EndsView ServerEnd) (keeps : IsKeptBy endpoint_in with_endpoint_in v.ends.server e.server) where
  -- ---- they go

  pub went : {T E : Type 0} (s : Side) (result : Result T E) → OnOk result (world_in endpoint_in e ≡ flushed_world s (world_in endpoint_in v.ends)) → OnOk result (pair_in (record v { ends = e }) ≡ with_ends (flushed_world s (pair_in p).ends) (pair_in p))
  went s result ok = subst (λ (x : PartsView H). OnOk result (pair_in (record v { ends = e }) ≡ with_ends (flushed_world s (pair_in x).ends) (pair_in x))) is
      (on_ok_weaker result (λ same. moved_to v e (flushed_world s (world_in endpoint_in v.ends)) keeps same) ok)

  pub stayed : {T E : Type 0} (result : Result T E) → OnErr result (world_in endpoint_in e ≡ world_in endpoint_in v.ends) → OnErr result (pair_in (record v { ends = e }) ≡ pair_in p)
  stayed result err = subst (λ (x : PartsView H). OnErr result (pair_in (record v { ends = e }) ≡ pair_in x)) is
      (on_err_weaker result (λ same. moved_to v e (world_in endpoint_in v.ends) keeps same ∙ same_ends v) err)

  module _ (moves : MovesSaid H) (sound : IsSound p) (whole : p.ends.spent ≡ false) (world : IsWorld (world_in endpoint_in e)) where
    sound_here : IsSound v
    sound_here = subst (λ (x : PartsView H). IsSound x) (sym is) sound

    whole_here : v.ends.spent ≡ false
    whole_here = ap (λ (x : PartsView H). x.ends.spent) is ∙ whole

    pub went_sound : {T E : Type 0} (flushes : FlushesSaid) (s : Side) (result : Result T E) → OnOk result (world_in endpoint_in e ≡ flushed_world s (world_in endpoint_in v.ends)) → OnErr result (world_in endpoint_in e ≡ world_in endpoint_in v.ends) → IsSound (record v { ends = e })
    went_sound flushes s result ok err =
        let same = flush_same flushes s result (world_in endpoint_in v.ends) (world_in endpoint_in e) ok err in
        moved_sound moves v e sound_here keeps world same.0 whole_here (same.1 ∙ whole_here)

    -- ---- they come

    pub came_sound : (s : Side) (n : ℕ) (result : Result ℕ ReadError) → DeliversAt s n result (world_in endpoint_in v.ends) (world_in endpoint_in e) → SameLists (world_in endpoint_in v.ends) (world_in endpoint_in e) → IsSound (record v { ends = e })
    came_sound s n result delivers same = moved_sound moves v e sound_here keeps world same whole_here (delivered_whole s n result (world_in endpoint_in v.ends) (world_in endpoint_in e) delivers ∙ whole_here)

  pub came_at : (s : Side) (n : ℕ) (result : Result ℕ ReadError) → DeliversAt s n result (world_in endpoint_in v.ends) (world_in endpoint_in e) → DeliversAt s n result (pair_in p).ends (pair_in (record v { ends = e })).ends
  came_at s n result = subst (λ (x : PartsView H). DeliversAt s n result (world_in endpoint_in v.ends) (world_in endpoint_in e) → DeliversAt s n result (pair_in x).ends (pair_in (record v { ends = e })).ends) is (λ d. d)

  pub came_kept : pair_in (record v { ends = e }) ≡ with_ends (pair_in (record v { ends = e })).ends (pair_in p)
  came_kept = subst (λ (x : PartsView H). pair_in (record v { ends = e }) ≡ with_ends (pair_in (record v { ends = e })).ends (pair_in x)) is (moved v e keeps)

-- ---- what was queued at the client

module _ {H : Type 0} (v p : PartsView H) (is : v ≡ p) where
  -- no converter is there
  module _ (none : v.converter ≡ None) where
    pub none_first : None ≡ first_event (pair_in p).client
    none_first = subst (λ (x : PartsView H). None ≡ first_event (pair_in x).client) is (ap (λ (o : Option (ClientConverter H)). first_event (client_in v.asks o)) (sym none))

    pub none_rest : pair_in v ≡ record (pair_in p) { client = without_event (pair_in p).client }
    none_rest = subst (λ (x : PartsView H). pair_in v ≡ record (pair_in x) { client = without_event (pair_in x).client }) is
        (ap (λ (o : Option (ClientConverter H)). pair_in (record v { converter = o })) none ∙ ap (λ (o : Option (ClientConverter H)). let q : PairView H = record (pair_in v) { client = without_event (client_in v.asks o) } in q) (sym none))

  module _ (f g : ClientConverter H) (here : v.converter ≡ Some f) where
    pub event_first : (result : Option EiEvent) → result ≡ first_of f.kept.queue → result ≡ first_event (pair_in p).client
    event_first result first = subst (λ (x : PartsView H). result ≡ first_event (pair_in x).client) is (first ∙ ap (λ (o : Option (ClientConverter H)). first_event (client_in v.asks o)) (sym here))

    pub event_rest : g ≡ with_queue (rest_of f.kept.queue) f → pair_in (record v { converter = Some g }) ≡ record (pair_in p) { client = without_event (pair_in p).client }
    event_rest rest = subst (λ (x : PartsView H). pair_in (record v { converter = Some g }) ≡ record (pair_in x) { client = without_event (pair_in x).client }) is
        (ap (λ (c : ClientConverter H). pair_in (record v { converter = Some c })) rest ∙ ap (λ (o : Option (ClientConverter H)). let q : PairView H = record (pair_in v) { client = without_event (client_in v.asks o) } in q) (sym here))

    pub event_sound : ClientQueueSaid H → IsSound p → g ≡ with_queue (rest_of f.kept.queue) f → IsSound (record v { converter = Some g })
    event_sound said sound rest = client_queue said v f g here (subst (λ (x : PartsView H). IsSound x) (sym is) sound) rest

-- ---- what was queued at the server

first_in : (h : HandshakerView) (s : ServerEnd) → first_at s ≡ first_request (server_in h s)
first_in h (end.Shaking b) = refl
first_in h (end.Talking c) = refl

without_in : (h : HandshakerView) (s : ServerEnd) → server_in h (without_first s) ≡ without_request (server_in h s)
without_in h (end.Shaking b) = refl
without_in h (end.Talking c) = refl

same_world : (s : ServerEnd) → endpoint_in (without_first s) ≡ endpoint_in s
same_world (end.Shaking b) = refl
same_world (end.Talking c) = refl

-- both ends, of which this holds the server's endpoint
abbrev pub with_end_of : EndsView ServerEnd → ServerEnd → EndsView ServerEnd
with_end_of e s = record e { server = record e.server { context = s } }

request_kept : {H : Type 0} (v : PartsView H) (s : ServerEnd) → v.ends.server.context ≡ s → ServerQueueSaid H → IsSound v → IsSound (record v { ends = with_end_of v.ends (without_first s) })
request_kept {H} v (end.Shaking b) here said sound = subst (λ (x : ServerEnd). IsSound (record v { ends = with_end_of v.ends x })) here sound
request_kept {H} v (end.Talking c) here said sound = server_queue said v c (record c { queue = rest_of c.queue }) here sound refl

module _ {H : Type 0} (v p : PartsView H) (is : v ≡ p) (e : EndsView ServerEnd) (rest : e ≡ with_end_of v.ends (without_first v.ends.server.context)) where
  pub request_first : (result : Option EisRequest) → result ≡ first_at v.ends.server.context → result ≡ first_request (pair_in p).server
  request_first result first = subst (λ (x : PartsView H). result ≡ first_request (pair_in x).server) is (first ∙ first_in v.tells v.ends.server.context)

  rest_here : pair_in (record v { ends = with_end_of v.ends (without_first v.ends.server.context) }) ≡ record (pair_in v) { server = without_request (pair_in v).server }
  rest_here =
      ap (λ (b : BackendView). let q : PairView H = record (pair_in v) { ends = record (pair_in v).ends { server = record (pair_in v).ends.server { backend = b } }; server = server_in v.tells (without_first v.ends.server.context) } in q) (same_world v.ends.server.context)
      ∙ ap (λ (s : ServerStage). let q : PairView H = record (pair_in v) { server = s } in q) (without_in v.tells v.ends.server.context)

  pub request_rest : pair_in (record v { ends = e }) ≡ record (pair_in p) { server = without_request (pair_in p).server }
  request_rest = subst (λ (x : PartsView H). pair_in (record v { ends = e }) ≡ record (pair_in x) { server = without_request (pair_in x).server }) is
      (ap (λ (x : EndsView ServerEnd). pair_in (record v { ends = x })) rest ∙ rest_here)

  pub request_sound : ServerQueueSaid H → IsSound p → IsSound (record v { ends = e })
  request_sound said sound = subst (λ (x : EndsView ServerEnd). IsSound (record v { ends = x })) (sym rest) (request_kept v v.ends.server.context refl said (subst (λ (x : PartsView H). IsSound x) (sym is) sound))
