-- A client took its next event, or none, as its ends answered: what that comes to.
use Rattle.std.proofs.Common.{◌≡◌, Bool, true, false, Option, Some, None, Result, Ok, Err, refl, sym, ap, subst, ◌∙◌}
use Rattle.std.specs.Prelude.{is_some, not}
use Rattle.ei_types.specs.declared.error.Error.{Error}
use Rattle.ei_wire.specs.declared.error.ParseError.{ParseError}
use Rattle.ei_backend.specs.declared.message.PendingRequestResult.{PendingRequestResult}
use Rattle.ei_backend.specs.declared.message.PendingRequestResult.TheVariants as pending
use Rattle.ei_client.specs.declared.event.Event.{Event}
use Rattle.ei_linked.specs.declared.side.Side.TheVariants as side
use Rattle.ei_linked.specs.Held.{Held, Keeps}
use Rattle.ei_linked.specs.Ends.{EndsView, world_in}
use Rattle.ei_linked.specs.TwoEnds.{WorldView, IsWorld, read_world, NotRefused}
use Rattle.ei_handshake.specs.Client.{ClientView}
use Rattle.ei_event.specs.Typed.{IsLawfulReason}
use Rattle.ei_event.specs.Converter.{ConverterView as ClientConverter}
use Rattle.ei_promises.specs.Pair.{PairView, converter_in}
use Rattle.ei_promises.specs.Stepping.{ReadsEvent}
use Rattle.ei_pair.specs.declared.server_end.ServerEnd.{ServerEnd}
use Rattle.ei_pair.specs.ServerEnd.{endpoint_in, with_endpoint_in, same_endpoint}
use Rattle.ei_pair.specs.Parts.{PartsView, client_in, pair_in}
use Rattle.ei_pair.specs.Stepped.{IsSound, TookEvent}
use Rattle.ei_pair.specs.Spent.{SpendsAtCall}
use Rattle.ei_pair.proofs.Moved.{moved_to}
use Rattle.ei_pair.proofs.TakingAt.{spent_of}

-- no message that is read is refused
pub none_refused : {M : Type 0} (answer : Option (PendingRequestResult M)) (found : PendingRequestResult M) (why : ParseError) → answer ≡ Some found → found ≡ pending.ParseError why → NotRefused answer → ⊥
none_refused {M} answer found why is found_is = subst (λ (a : Option (PendingRequestResult M)). NotRefused a → ⊥) (sym (is ∙ ap (λ (f : PendingRequestResult M). let o : Option (PendingRequestResult M) = Some f in o) found_is)) (λ no. no)

-- the same error of another answer, and none of one that is Ok
pub as_refused : {A B : Type 0} (e f : Error) → ◌≡◌ {A = Result A Error} (Err e) (Err f) → ◌≡◌ {A = Result B Error} (Err e) (Err f)
as_refused {A} {B} e f is = let same : e ≡ f = cc in ap (λ (x : Error). let r : Result B Error = Err x in r) same

pub never_ok : {A : Type 0} (a : A) (e : Error) → ◌≡◌ {A = Result A Error} (Ok a) (Err e) → ⊥
never_ok a e is = cc

-- a client's stage has its converter
pub stage_is : {H : Type 0} (h : ClientView) (o : Option (ClientConverter H)) → o ≡ converter_in (client_in h o)
stage_is h None = refl
stage_is h (Some c) = refl

-- a client without a converter shakes hands still
stage_has : {H : Type 0} (h : ClientView) (o : Option (ClientConverter H)) → is_some (converter_in (client_in h o)) ≡ is_some o
stage_has h None = refl
stage_has h (Some c) = refl

pub asks_yet : {H : Type 0} (h : ClientView) (o : Option (ClientConverter H)) (b : Bool) → is_some o ≡ not b → b ≡ true → is_some (converter_in (client_in h o)) ≡ false
asks_yet h o b is so = stage_has h o ∙ is ∙ ap not so

pub follows_now : {H : Type 0} (h : ClientView) (o : Option (ClientConverter H)) (b : Bool) → is_some o ≡ not b → b ≡ false → is_some (converter_in (client_in h o)) ≡ true
follows_now h o b is so = stage_has h o ∙ is ∙ ap not so

kept_context : (a b : Held ServerEnd) → b ≡ a → Keeps endpoint_in with_endpoint_in a b
kept_context a b same = subst (λ (h : Held ServerEnd). Keeps endpoint_in with_endpoint_in a h) (sym same) (sym (same_endpoint a.context))

module _ {H : Type 0} (v p : PartsView H) (is : v ≡ p) (e : EndsView ServerEnd) (server_is : e.server ≡ v.ends.server) (sound : IsSound p) (whole : p.ends.spent ≡ false) (read : world_in endpoint_in e ≡ read_world side.Client (world_in endpoint_in v.ends)) where
  -- the ends are as whole as they were
  pub whole_yet : e.spent ≡ false
  whole_yet = ap (λ (w : WorldView). w.spent) read ∙ ap (λ (x : PartsView H). x.ends.spent) is ∙ whole

  -- what is spent behind an event is spent of the pair that took it
  pub spent_behind : (m : Event) (new : PairView H) → IsLawfulReason m → IsWorld (world_in endpoint_in e) → ReadsEvent (Some (pending.Request m)) (pair_in v).ends (world_in endpoint_in e) →
      ((t : TookEvent m (pair_in (record v { ends = e }))) → SpendsAtCall t.old new) → SpendsAtCall (pair_in p) new
  spent_behind m new reason world reads spends =
      let here : IsSound v = subst (λ (x : PartsView H). IsSound x) (sym is) sound in
      let took : TookEvent m (pair_in (record v { ends = e })) = record {
        reason = reason;
        world = world;
        old = pair_in v;
        kept = here.kept;
        whole = ap (λ (x : PartsView H). x.ends.spent) is ∙ whole;
        reads = reads;
        is = moved_to v e (read_world side.Client (world_in endpoint_in v.ends)) (kept_context v.ends.server e.server server_is) read;
      } in
      spent_of v p new is (spends took)
