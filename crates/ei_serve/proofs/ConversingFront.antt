-- What becomes of the message at the front of a connection, by the answer to asking for it.
use Rattle.std.proofs.Common.{◌≡◌, ◌≤◌, inl, ℕ, true, false, List, [], ◌++◌, Option, Some, None, Result, Ok, Err, refl, sym, ap, subst, ◌∙◌}
use Rattle.std.specs.Prelude.{IsErrOf}
use Rattle.std.proofs.lemmas.List.{append-nil}
use Rattle.ei_spec.specs.declared.handle.Handle.{Handle}
use Rattle.ei_spec.specs.Message.{Raw, Whole, front}
use Rattle.ei_spec.specs.Piece.{Piece}
use Rattle.ei_backend.specs.Outside.{Rose, SinkView}
use Rattle.ei_backend.specs.Message.{front_wants}
use Rattle.ei_backend.specs.Outgoing.{Went, nothing}
use Rattle.ei_backend.specs.Backend.{BackendView, Answers, Brings, next, unsent_of, with_unsent}
use Rattle.ei_backend.specs.declared.message.PendingRequestResult.{PendingRequestResult}
use Rattle.ei_backend.specs.declared.message.PendingRequestResult.TheVariants as pending
use Rattle.ei_wire.specs.declared.error.FlushError.{FlushError}
use Rattle.ei_wire.specs.declared.error.FlushError.TheVariants as flush_error
use Rattle.ei_wire.specs.declared.error.ParseError.{ParseError}
use Rattle.ei_wire.specs.declared.error.SendError.{SendError}
use Rattle.ei_wire.specs.declared.error.SendError.TheVariants as send_error
use Rattle.ei_types.specs.Errors.{error_of_flush, error_of_send}
use Rattle.ei_types.specs.declared.error.Error.{Error}
use Rattle.ei_types.specs.declared.error.Error.TheVariants as error
use Rattle.ei_server.specs.declared.request.Request.{Request}
use Rattle.ei_server.specs.Request.{target_of, opcode_of, values_of, announced_of}
use Rattle.ei_session.specs.Setup.{Setup}
use Rattle.ei_session.specs.Objects.{object}
use Rattle.ei_session.proofs.JudgedMeans.{judge_unknown}
use Rattle.ei_session.proofs.RefusalLaws.{refused_never}
use Rattle.ei_request.specs.declared.event.EisRequest.{EisRequest}
use Rattle.ei_request.specs.Connection.{ConnectionView}
use Rattle.ei_request.specs.Converter.{ConverterView}
use Rattle.ei_request.specs.Sending.{says, no_object_event}
use Rattle.ei_standing.specs.Standing.{TookOne, tells_no_object}
use Rattle.ei_standing.proofs.ConnectionMessages.{after_unknown}
use Rattle.ei_serve.specs.declared.phase.Phase.{Phase}
use Rattle.ei_serve.specs.declared.phase.Phase.TheVariants as phase
use Rattle.ei_serve.specs.declared.phase.Step.{Step}
use Rattle.ei_serve.specs.declared.phase.Step.TheVariants as step
use Rattle.ei_serve.specs.Around.{Around, around, no_source}
use Rattle.ei_serve.specs.AtFront.{IsAsked}
use Rattle.ei_serve.specs.Standing.{IsConnected}
use Rattle.ei_serve.specs.Steps.{Steps}
use Rattle.ei_serve.specs.Wanting.{MayWant}
use Rattle.ei_serve.proofs.Asked.{NoObject, asks_waits, asks_refused, asks_gone, asks_request}
use Rattle.ei_serve.proofs.Going.{goes_none}
use Rattle.ei_serve.proofs.Wanted.{front_may, full_here}
use Rattle.ei_serve.proofs.Stepping.{refused_step}
use Rattle.ei_serve.proofs.TookBehind.{Gave, gave_took, draws_none}
use Rattle.ei_serve.proofs.ConversingSteps.{Taken, cut_off, handles_one}

-- memory ran out before anything changed
pub no_memory : (setup : Setup) (past : List Raw) (times rest : List ℕ) (handles : List Handle) (p : Phase) (d : Error) (x : Around) (result : Result Step Error) → result ≡ Err d → d ≡ error.NoMemory → MayWant setup past rest → Steps setup past times rest handles result p x x
no_memory setup past times rest handles p d x result is d_is w = rw (is, d_is) (full_here setup past rest w times x)

abbrev with_context : ConverterView → ConnectionView → BackendView → ConverterView
with_context old h new = record { handle = record h { ctx = new }; queue = old.queue }

module _ (setup : Setup) (past : List Raw) (times rest : List ℕ) (handles : List Handle) (old : ConverterView) (h : ConnectionView) (b new : BackendView) (stands : IsConnected setup past times rest handles old) (h_is : h ≡ old.handle) (b_is : b ≡ h.ctx) where
  b_now : b ≡ old.handle.ctx
  b_now = b_is ∙ ap (λ (x : ConnectionView). x.ctx) h_is

  said : (answer wanted : Option (PendingRequestResult Request)) → answer ≡ wanted → Answers target_of opcode_of values_of answer new (next false b) → Answers target_of opcode_of values_of wanted new (next false old.handle.ctx)
  said answer wanted same a =
      subst (λ (x : Option (PendingRequestResult Request)). Answers target_of opcode_of values_of x new (next false old.handle.ctx)) same
      (subst (λ (x : BackendView). Answers target_of opcode_of values_of answer new (next false x)) b_now a)

  here : (d : ConverterView) → d ≡ with_context old h new → d ≡ record old { handle = record old.handle { ctx = new } }
  here d d_is = d_is ∙ ap (λ (x : ConnectionView). record { handle = record x { ctx = new }; queue = old.queue }) h_is

  -- reading it took memory
  pub may_want : front_wants false b.table (front b.unread) ≡ true → MayWant setup past rest
  may_want w =
      front_may setup past rest old.handle.ctx.table stands.held.objects
      (subst (λ (u : List ℕ). front_wants false old.handle.ctx.table (front u) ≡ true) stands.unread (subst (λ (x : BackendView). front_wants false x.table (front x.unread) ≡ true) b_now w))

  -- there was no whole message
  pub waits : (answer : Option (PendingRequestResult Request)) → answer ≡ None → Answers target_of opcode_of values_of answer new (next false b) → (d : ConverterView) → d ≡ with_context old h new → (x : Around) →
      Steps setup past times rest handles (Ok step.Waiting) (phase.Connected d) x x
  waits answer none a d d_is x =
      let w = asks_waits setup past times rest handles old new stands (said answer None none a) in
      record {
        short = w.0;
        stands = subst (λ (y : ConverterView). IsConnected setup past times rest handles y) (sym (here d d_is ∙ ap (λ (y : BackendView). record old { handle = record old.handle { ctx = y } }) w.1)) stands;
        goes = goes_none setup past times x;
      }

  module _ (answer : Option (PendingRequestResult Request)) (p : PendingRequestResult Request) (some : answer ≡ Some p) (a : Answers target_of opcode_of values_of answer new (next false b)) where
    -- it can't be read
    pub refused : (e : ParseError) → p ≡ pending.ParseError e → (y : Phase) (x : Around) → Steps setup past times rest handles (Err (error.Parse e)) y x x
    refused e is y x =
        refused_step setup past times rest (error.Parse e) x
        (asks_refused setup past times rest handles old new stands e (said answer (Some (pending.ParseError e)) (some ∙ ap (λ (z : PendingRequestResult Request). Some z) is) a))

    -- it is a request
    pub asked : (r : Request) → p ≡ pending.Request r → Brings announced_of answer b.table new.table → (d : ConverterView) → d ≡ with_context old h new → IsAsked setup past times rest handles r d
    asked r is brings d d_is =
        let same : answer ≡ Some (pending.Request r) = some ∙ ap (λ (z : PendingRequestResult Request). Some z) is in
        let brings_so : Brings announced_of (Some (pending.Request r)) old.handle.ctx.table new.table =
        subst (λ (z : Option (PendingRequestResult Request)). Brings announced_of z old.handle.ctx.table new.table) same (subst (λ (z : BackendView). Brings announced_of answer z.table new.table) b_now brings) in
        subst (λ (y : ConverterView). IsAsked setup past times rest handles r y) (sym (here d d_is)) (asks_request setup past times rest handles old new stands r (said answer (Some (pending.Request r)) same a) brings_so)

    -- it is to no object
    module _ (id : ℕ) (is : p ≡ pending.InvalidObject id) (d : ConverterView) (d_is : d ≡ with_context old h new) (lent : ConnectionView) (lent_is : lent ≡ d.handle) (out : List EisRequest) (readings : Option (List ℕ)) where
      gone : (g : NoObject past old.handle.ctx id new) × (front rest ≡ Whole g.m g.after) × IsConnected setup past times g.after handles (record old { handle = record old.handle { ctx = new } })
      gone = asks_gone setup past times rest handles old new stands id (said answer (Some (pending.InvalidObject id)) (some ∙ ap (λ (z : PendingRequestResult Request). Some z) is) a)

      none : object past gone.0.m.id ≡ None
      none = gone.0.none

      stood : IsConnected setup past times gone.0.after handles d
      stood = subst (λ (y : ConverterView). IsConnected setup past times gone.0.after handles y) (sym (here d d_is)) gone.2

      taken : Taken past rest handles gone.0.m gone.0.after d
      taken = record {
        front_is = gone.1;
        on = stood.held.connected;
        ring = stood.ring;
        unread = stood.unread;
        unread_handles = stood.unread_handles;
        unsent = stood.unsent;
      }

      -- it couldn't be told
      pub untold : (f : SendError) (e : Error) (y : Phase) (took : SinkView) (result : Result Step Error) → f ≡ send_error.NoMemory → result ≡ Err e → e ≡ error_of_send f → Steps setup past times rest handles result y (around no_source out took readings) (around no_source out took readings)
      untold f e y took result f_is is_err e_is = no_memory setup past times rest handles y e (around no_source out took readings) result is_err (e_is ∙ ap error_of_send f_is)
          (record { m = gone.0.m; after = gone.0.after; front_is = gone.1; wants = inl (refused_never setup past gone.0.m stood.held.connected none) })

      module _ (end : ConnectionView) (end_is : end ≡ record lent { ctx = says lent.ctx (no_object_event lent.proxy.id lent.last_serial id) }) where
        told : end ≡ tells_no_object d.handle gone.0.m.id
        told = end_is ∙ ap (λ (x : ConnectionView). tells_no_object x id) lent_is ∙ ap (tells_no_object d.handle) gone.0.id_is

        followed : TookOne setup past gone.0.m times [] d (record d { handle = end })
        followed = subst (λ (x : ConnectionView). TookOne setup past gone.0.m times [] d (record d { handle = x })) (sym told) (after_unknown setup past gone.0.m times d stood.held none)

        same_ring : end.ctx.capacity ≡ d.handle.ctx.capacity
        same_ring = ap (λ (x : ConnectionView). x.ctx.capacity) told

        gave : Gave setup past gone.0.m times [] d.queue
        gave = gave_took setup past gone.0.m times [] d (record d { handle = end }) stood.held.frames stood.queue followed

        grown : out ≡ out ++ d.queue
        grown = sym (append-nil out) ∙ ap (λ (q : List EisRequest). out ++ q) (sym stood.queue)

        -- all was sent
        pub tells : (flushed : ConnectionView) → unsent_of flushed.ctx ≡ nothing → flushed ≡ record end { ctx = with_unsent (unsent_of flushed.ctx) end.ctx } → (before now : SinkView) →
            Went (unsent_of end.ctx) (Ok tt) (unsent_of flushed.ctx) before now → before.wants ≤ now.wants → (z : ConverterView) → z ≡ record { handle = flushed; queue = d.queue } →
            Steps setup past times rest handles (Ok step.Handled) (phase.Connected z) (around no_source out before readings) (around no_source out now readings)
        tells flushed sent kept before now took count z z_is =
            subst (λ (y : ConverterView). Steps setup past times rest handles (Ok step.Handled) (phase.Connected y) (around no_source out before readings) (around no_source out now readings))
            (sym (z_is ∙ ap (λ (q : List EisRequest). record { handle = flushed; queue = q }) stood.queue))
            (handles_one setup past times rest handles gone.0.m gone.0.after [] d taken false (judge_unknown setup past gone.0.m stood.held.connected none) d.queue gave out out grown readings readings (draws_none readings readings refl)
            end (record d { handle = end }) refl followed same_ring flushed sent kept before now took count refl)

        -- or not all
        pub cut : (waiting : Piece) (f : FlushError) (e : Error) (y : Phase) (before now : SinkView) (result : Result Step Error) → result ≡ Err e → e ≡ error_of_flush f → (IsErrOf {T = Unit {0}} (Err f) flush_error.NoMemory → Rose before.wants now.wants) → Went (unsent_of end.ctx) (Err f) waiting before now →
            Steps setup past times rest handles result y (around no_source out before readings) (around no_source out now readings)
        cut waiting f e y before now result is_err e_is want took =
            rw is_err (cut_off setup past times rest handles gone.0.m gone.0.after [] d taken false (judge_unknown setup past gone.0.m stood.held.connected none) d.queue gave out out grown readings readings (draws_none readings readings refl)
            end (record d { handle = end }) refl followed same_ring waiting f e before now e_is want took)
