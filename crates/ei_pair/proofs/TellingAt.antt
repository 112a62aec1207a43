-- What a call of a pair's server comes to, of parts that are known by their fields.
use Rattle.std.proofs.Common.{◌≡◌, ℕ, Bool, true, false, List, Option, Result, Ok, Err, refl, sym, ap, subst, ◌∙◌}
use Rattle.std.specs.Prelude.{IsErrOf, ◌↔◌}
use Rattle.std.specs.Borrow.{Bor}
use Rattle.ei_spec.specs.Interface.{ObjectView}
use Rattle.ei_wire.specs.declared.error.SendError.{SendError}
use Rattle.ei_wire.specs.declared.error.SendError.TheVariants as send_error
use Rattle.ei_ends.specs.Sent.{Sent as Message}
use Rattle.ei_values.specs.declared.value.Value.{Value}
use Rattle.ei_linked.specs.declared.record.Target.{Target}
use Rattle.ei_linked.specs.declared.side.Side.{Side}
use Rattle.ei_linked.specs.declared.side.Side.TheVariants as side
use Rattle.ei_linked.specs.declared.written.Unsent.{Unsent}
use Rattle.ei_linked.specs.Stored.{as_known}
use Rattle.ei_linked.specs.Held.{stored_by, Keeps as KeepsHeld}
use Rattle.ei_linked.specs.Ends.{EndsView, world_in}
use Rattle.ei_linked.specs.TwoEnds.{WorldView, IsWorld, MayCall, MayAsk, Calls, asked_of, asked_for}
use Rattle.ei_linked.specs.Written.{AreWritten, unsent_in, stored_onto}
use Rattle.ei_promises.specs.declared.calls.ServerCall.{ServerCall}
use Rattle.ei_promises.specs.declared.calls.ServerCall.TheVariants as call
use Rattle.ei_promises.specs.declared.calls.Made.{Made}
use Rattle.ei_promises.specs.declared.calls.Made.TheVariants as made
use Rattle.ei_promises.specs.Pair.{ServerStage, Shakes, Serves, client_done}
use Rattle.ei_pair.specs.declared.server_end.ServerEnd.{ServerEnd}
use Rattle.ei_pair.specs.ServerEnd.{endpoint_in, with_endpoint_in}
use Rattle.ei_pair.specs.Parts.{PartsView, pair_in}
use Rattle.ei_pair.specs.Stepped.{IsSound}
use Rattle.ei_pair.specs.Calls.{MayMakeAt, IsFitting, LacksIdsAtEnd, IsLongAtEnd, AnswersAt, MeetsAt, ends_on, steady_after, steadied, ServesCall, CallsClient}
use Rattle.ei_pair.proofs.Called.{DoingServer, SpentKeeps, told_err, told_stored, told_unstored}
use Rattle.ei_pair.proofs.Asking.{DoingClient, Sent, sent_ok, sent_err, asked_for as was_asked_for}

pub as_result : {H : Type 0} (s : ServerCall) (p q : PartsView H) (steady : Bool) (r t : Result Made SendError) → r ≡ t → ServesCall s p t (steadied t steady q) → ServesCall s p r (steadied r steady q)
as_result s p q steady r t is serves = subst (λ (x : Result Made SendError). ServesCall s p x (steadied x steady q)) (sym is) serves

-- ---- a call that is no input

module _ {H : Type 0} (v p : PartsView H) (is : v ≡ p) (s : ServerCall) (sound : IsSound p) (whole : p.ends.spent ≡ false) (meets : MayMakeAt s p.ends.server.context) where
  sound_there : IsSound v
  sound_there = subst IsSound (sym is) sound

  whole_there : v.ends.spent ≡ false
  whole_there = ap (λ (x : PartsView H). x.ends.spent) is ∙ whole

  meets_there : MayMakeAt s v.ends.server.context
  meets_there = subst (λ (x : PartsView H). MayMakeAt s x.ends.server.context) (sym is) meets

  -- its connection refused it
  pub refused_at : (ends : EndsView ServerEnd) (e : SendError) → AnswersAt s v.ends.server.context (Err e) ends.server.context → ends ≡ ends_on ends.server.context v.ends → (IsErrOf {T = Made} (Err e) send_error.IdsExhausted ↔ LacksIdsAtEnd s v.ends.server.context) →
      (IsErrOf {T = Made} (Err e) send_error.MessageTooLong ↔ IsLongAtEnd s v.ends.server.context) → ServesCall s p (Err e) (record v { ends = ends })
  refused_at ends e answers kept ids long =
      subst (λ (x : PartsView H). ServesCall s x (Err e) (record v { ends = ends })) is
      (told_err v s sound_there whole_there meets_there (record v { ends = ends }) ends.server.context e answers ids long
      (ap (λ (y : EndsView ServerEnd). let q : PartsView H = record v { ends = y } in q) kept))

  module _ (fit : IsFitting s) (e : EndsView ServerEnd) (m : Made) (answers : AnswersAt s v.ends.server.context (Ok m) e.server.context) (kept : e ≡ ends_on e.server.context v.ends) where
    -- it made it, and what was sent is stored
    pub stored_at : DoingServer H → (ends : EndsView ServerEnd) (before : Unsent) → before ≡ unsent_in (endpoint_in v.ends.server.context) →
        ((ms : List Message) → AreWritten true before ms (stored_by endpoint_in e.server) → ends ≡ record e { server = record e.server { sent = stored_onto true ms e.server.sent } }) →
        ServesCall s p (Ok m) (record v { ends = ends; steady = steady_after p.steady s (pair_in p).server })
    stored_at law ends before at stores =
        subst (λ (x : PartsView H). ServesCall s x (Ok m) (record v { ends = ends; steady = steady_after x.steady s (pair_in x).server })) is
        (told_stored v s sound_there whole_there meets_there fit e.server.context m answers law (record v { ends = ends }) e ends before kept at stores refl)

    -- it made it, and there was no memory to store what was sent
    pub unstored_at : SpentKeeps H → (ends : EndsView ServerEnd) → ends ≡ record e { spent = true } → ServesCall s p (Err send_error.NoMemory) (record v { ends = ends })
    unstored_at law ends spent =
        subst (λ (x : PartsView H). ServesCall s x (Err send_error.NoMemory) (record v { ends = ends })) is
        (told_unstored v s sound_there whole_there meets_there fit e.server.context m answers law (record v { ends = ends }) e ends kept spent refl)

    -- the same, of an answer that is that
    pub stored_as : DoingServer H → (ends : EndsView ServerEnd) (before : Unsent) → before ≡ unsent_in (endpoint_in v.ends.server.context) → (r : Result Made SendError) → r ≡ Ok m →
        ((ms : List Message) → AreWritten true before ms (stored_by endpoint_in e.server) → ends ≡ record e { server = record e.server { sent = stored_onto true ms e.server.sent } }) →
        ServesCall s p r (steadied r (steady_after p.steady s (pair_in p).server) (record v { ends = ends }))
    stored_as law ends before at r same stores = as_result s p (record v { ends = ends }) (steady_after p.steady s (pair_in p).server) r (Ok m) same (stored_at law ends before at stores)

    pub unstored_as : SpentKeeps H → (ends : EndsView ServerEnd) (r : Result Made SendError) → r ≡ Err send_error.NoMemory → ends ≡ record e { spent = true } → ServesCall s p r (steadied r (steady_after p.steady s (pair_in p).server) (record v { ends = ends }))
    unstored_as law ends r same spent = as_result s p (record v { ends = ends }) (steady_after p.steady s (pair_in p).server) r (Err send_error.NoMemory) same (unstored_at law ends spent)

-- ---- an input

-- a server that meets the condition of an input may make the call
pub may_send_at : (target : ObjectView) (opcode : ℕ) (values : Bor (List Value)) (w : WorldView) (t : ServerStage) → MeetsAt (call.Input target opcode values) w t → MayCall side.Server w target opcode values.now
may_send_at target opcode values w (Shakes h) meets = absurd meets
may_send_at target opcode values w (Serves c) meets = meets

-- the message that is asked for names the target by its parts
named_so : (s : Side) (w : WorldView) (target : ObjectView) (t : Target) (opcode : ℕ) (values : List Value) (result : Result (Option ObjectView) SendError) (new : WorldView) → t ≡ record { id = target.id; interface = as_known target.interface; version = target.version } →
    Calls s (asked_for s w t.id t.interface t.version opcode values) result w new → Calls s (asked_of s w target opcode values) result w new
named_so s w target t opcode values result new at calls = subst (λ (x : Target). Calls s (asked_for s w x.id x.interface x.version opcode values) result w new) at calls

-- so what is asked for may be
may_ask_so : (s : Side) (w : WorldView) (target : ObjectView) (t : Target) (opcode : ℕ) (values : List Value) → t ≡ record { id = target.id; interface = as_known target.interface; version = target.version } → MayCall s w target opcode values → MayAsk s w t.id t.interface t.version opcode values
may_ask_so s w target t opcode values at may = subst (λ (x : Target). MayAsk s w x.id x.interface x.version opcode values) (sym at) may.may

module _ {H : Type 0} (v p : PartsView H) (is : v ≡ p) (sound : IsSound p) (whole : p.ends.spent ≡ false) where
  pub world_at : IsWorld (world_in endpoint_in v.ends)
  world_at = subst (λ (x : PartsView H). IsWorld (world_in endpoint_in x.ends)) (sym is) sound.kept.pair.world

  pub whole_at : v.ends.spent ≡ false
  whole_at = ap (λ (x : PartsView H). x.ends.spent) is ∙ whole

  module _ (target : ObjectView) (t : Target) (at : t ≡ record { id = target.id; interface = as_known target.interface; version = target.version }) (opcode : ℕ) (result : Result (Option ObjectView) SendError) (e : EndsView ServerEnd)
      (keeps : KeepsHeld endpoint_in with_endpoint_in v.ends.server e.server) (world : IsWorld (world_in endpoint_in e)) where
    keeps_there : KeepsHeld endpoint_in with_endpoint_in p.ends.server e.server
    keeps_there = subst (λ (x : PartsView H). KeepsHeld endpoint_in with_endpoint_in x.ends.server e.server) is keeps

    calls_there : (s : Side) (values : List Value) → Calls s (asked_for s (world_in endpoint_in v.ends) t.id t.interface t.version opcode values) result (world_in endpoint_in v.ends) (world_in endpoint_in e) →
        Calls s (asked_of s (pair_in p).ends target opcode values) result (world_in endpoint_in p.ends) (world_in endpoint_in e)
    calls_there s values calls = subst (λ (x : PartsView H). Calls s (asked_of s (pair_in x).ends target opcode values) result (world_in endpoint_in x.ends) (world_in endpoint_in e)) is
        (named_so s (world_in endpoint_in v.ends) target t opcode values result (world_in endpoint_in e) at calls)

    then_there : record v { ends = e } ≡ record p { ends = e }
    then_there = ap (λ (x : PartsView H). let q : PartsView H = record x { ends = e } in q) is

    -- what is known of the ends once a server was asked for the message
    pub sent_at : (values : Bor (List Value)) → Calls side.Server (asked_for side.Server (world_in endpoint_in v.ends) t.id t.interface t.version opcode values.now) result (world_in endpoint_in v.ends) (world_in endpoint_in e) →
        MeetsAt (call.Input target opcode values) (pair_in p).ends (pair_in p).server → Sent target opcode values e p result (record v { ends = e })
    sent_at values calls meets = record {
      sound = sound;
      whole = whole;
      meets = meets;
      calls = calls_there side.Server values.now calls;
      keeps = keeps_there;
      world = world;
      is = then_there;
    }

    -- what a client's call comes to
    pub asked_at : DoingClient H → (values : List Value) → client_done (pair_in p).client ≡ true → Calls side.Client (asked_for side.Client (world_in endpoint_in v.ends) t.id t.interface t.version opcode values) result (world_in endpoint_in v.ends) (world_in endpoint_in e) →
        CallsClient target opcode values p result (record v { ends = e })
    asked_at law values done calls = was_asked_for law p sound whole (record v { ends = e }) e target opcode values result done (calls_there side.Client values calls) keeps_there world then_there

  -- what an input comes to, by its answer
  module _ (target : ObjectView) (t : Target) (at : t ≡ record { id = target.id; interface = as_known target.interface; version = target.version }) (opcode : ℕ) (values : Bor (List Value)) (e : EndsView ServerEnd)
      (keeps : KeepsHeld endpoint_in with_endpoint_in v.ends.server e.server) (world : IsWorld (world_in endpoint_in e)) (meets : MeetsAt (call.Input target opcode values) (pair_in p).ends (pair_in p).server) (r : Result Made SendError) where
    abbrev input : ServerCall
    input = call.Input target opcode values

    abbrev CallsSo : Result (Option ObjectView) SendError → Type 0
    CallsSo result = Calls side.Server (asked_for side.Server (world_in endpoint_in v.ends) t.id t.interface t.version opcode values.now) result (world_in endpoint_in v.ends) (world_in endpoint_in e)

    pub sent_as : DoingServer H → (o : Option ObjectView) → r ≡ Ok made.Nothing → CallsSo (Ok o) → ServesCall input p r (steadied r (steady_after p.steady input (pair_in p).server) (record v { ends = e }))
    sent_as law o same calls = as_result input p (record v { ends = e }) (steady_after p.steady input (pair_in p).server) r (Ok made.Nothing) same
        (sent_ok target opcode values e law p (record v { ends = e }) o (sent_at target t at opcode (Ok o) e keeps world values calls meets))

    pub unsent_as : (f : SendError) → r ≡ Err f → CallsSo (Err f) → ServesCall input p r (steadied r (steady_after p.steady input (pair_in p).server) (record v { ends = e }))
    unsent_as f same calls = as_result input p (record v { ends = e }) (steady_after p.steady input (pair_in p).server) r (Err f) same
        (sent_err target opcode values e p (record v { ends = e }) f (sent_at target t at opcode (Err f) e keeps world values calls meets))

  -- what was asked for may be
  pub may_ask_at : (s : Side) (target : ObjectView) (t : Target) (opcode : ℕ) (values : List Value) → t ≡ record { id = target.id; interface = as_known target.interface; version = target.version } → MayCall s (pair_in p).ends target opcode values →
      MayAsk s (world_in endpoint_in v.ends) t.id t.interface t.version opcode values
  may_ask_at s target t opcode values at may = may_ask_so s (world_in endpoint_in v.ends) target t opcode values at (subst (λ (x : PartsView H). MayCall s (world_in endpoint_in x.ends) target opcode values) (sym is) may)

-- ---- how steady the parts are then

pub as_call : {H : Type 0} (s t : ServerCall) (p q : PartsView H) (r : Result Made SendError) → s ≡ t → ServesCall t p r (steadied r (steady_after p.steady t (pair_in p).server) q) → ServesCall s p r (steadied r (steady_after p.steady s (pair_in p).server) q)
as_call s t p q r is serves = subst (λ (x : ServerCall). ServesCall x p r (steadied r (steady_after p.steady x (pair_in p).server) q)) (sym is) serves

pub made_steady : {H : Type 0} (s : ServerCall) (old v new : PartsView H) (m : Made) (steady after : Bool) → v ≡ new → steady ≡ after → ServesCall s old (Ok m) (record new { steady = after }) → ServesCall s old (Ok m) (record v { steady = steady })
made_steady {H} s old v new m steady after is same serves =
    let to : record v { steady = steady } ≡ record new { steady = after } = ap (λ (x : PartsView H). let q : PartsView H = record x { steady = steady } in q) is ∙ ap (λ (b : Bool). let q : PartsView H = record new { steady = b } in q) same in
    subst (λ (x : PartsView H). ServesCall s old (Ok m) x) (sym to) serves
