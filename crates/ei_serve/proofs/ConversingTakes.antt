-- What becomes of a request at the front of a connection.
use Rattle.std.proofs.Common.{◌≡◌, inl, ◌≤◌, ℕ, take, Bool, true, false, cond, ◌||◌, ◌&&◌, ◌==◌, List, [], ◌++◌, length, Option, Some, None, Result}
use Rattle.std.proofs.Common.{Ok, Err, refl, sym, ap, subst, ◌∙◌}
use Rattle.std.specs.Prelude.{IsErrOf, IsSome, ◌↔◌, find, bit_and, nat_eq, nat_le, nat_lt}
use Rattle.std.proofs.Math.Seq.{take-append_seam}
use Rattle.std.specs.List.{list_any}
use Rattle.std.specs.Option.{option_map}
use Rattle.ei_spec.specs.declared.handle.Handle.{Handle}
use Rattle.ei_spec.specs.declared.interface.KnownInterface.TheVariants as known
use Rattle.ei_spec.specs.declared.limits.TheConstants.{MOST_TOUCHES, MOST_TEXT_BYTES}
use Rattle.ei_spec.specs.Interface.{ObjectView, name_of}
use Rattle.ei_spec.specs.Message.{Raw, Whole, front}
use Rattle.ei_spec.specs.Piece.{Piece}
use Rattle.ei_backend.specs.Outside.{Rose, SinkView}
use Rattle.ei_backend.specs.Outgoing.{Went, nothing}
use Rattle.ei_backend.specs.Backend.{unsent_of, with_unsent}
use Rattle.ei_server.specs.declared.request.Request.{Request}
use Rattle.ei_server.specs.Request.{target_of, announced_of}
use Rattle.ei_session.specs.Setup.{Setup}
use Rattle.ei_session.specs.ByMeaning.{callback_in}
use Rattle.ei_session.specs.Devices.{exhausts}
use Rattle.ei_session.specs.Meaning.{Shake, Meaning, Shakes, Syncs, Binds, RequestsDevice, Inputs}
use Rattle.ei_session.specs.Refusals.{InvalidInterfaceVersion, Request as BadRequest, refusal}
use Rattle.ei_types.specs.Capability.{all_bits, bits_of}
use Rattle.ei_types.specs.declared.error.RequestError.TheVariants as request_error
use Rattle.ei_types.specs.Errors.{error_of_flush, error_of_send}
use Rattle.ei_types.specs.declared.error.Error.{Error}
use Rattle.ei_types.specs.declared.error.Error.TheVariants as error
use Rattle.ei_wire.specs.declared.error.FlushError.{FlushError}
use Rattle.ei_wire.specs.declared.error.FlushError.TheVariants as flush_error
use Rattle.ei_wire.specs.declared.error.SendError.{SendError}
use Rattle.ei_wire.specs.declared.error.SendError.TheVariants as send_error
use Rattle.ei_request.specs.declared.event.EisRequest.{EisRequest}
use Rattle.ei_input.specs.declared.input_event.InputEvent.{InputEvent}
use Rattle.ei_input.specs.declared.input_event.InputEvent.TheVariants.{TouchDown, TouchCancel, TextUtf8}
use Rattle.ei_request.specs.Held.{SeatView, DeviceView, is_seat, has_interface}
use Rattle.ei_request.specs.Connection.{ConnectionView}
use Rattle.ei_request.specs.Converter.{ConverterView}
use Rattle.ei_request.specs.Handling.{handled, device_in, is_some_waiting, closes_group, Times, Handles}
use Rattle.ei_request.specs.Refusing.{Reason, OfHandshake, BadVersion, Bad, Tells, mask_refusal, input_refusal, refusal as refused}
use Rattle.ei_request.specs.Typed.{meaning_of}
use Rattle.ei_standing.specs.Standing.{TookOne, with_table, refusal_told}
use Rattle.ei_standing.proofs.SameRefusals.{no_shake}
use Rattle.ei_serve.specs.declared.phase.Phase.{Phase}
use Rattle.ei_serve.specs.declared.phase.Phase.TheVariants as phase
use Rattle.ei_serve.specs.declared.phase.Step.{Step}
use Rattle.ei_serve.specs.declared.phase.Step.TheVariants as step
use Rattle.ei_serve.specs.declared.policy.Policy.{Policy}
use Rattle.ei_serve.specs.declared.policy.Policy.TheVariants as policy
use Rattle.ei_serve.specs.Around.{around, no_source}
use Rattle.ei_serve.specs.AtFront.{IsAsked}
use Rattle.ei_serve.specs.HandedOut.{handed_at}
use Rattle.ei_serve.specs.Policy.{policy_behind, Follows, LacksIds}
use Rattle.ei_serve.specs.Standing.{most_capacity}
use Rattle.ei_serve.specs.Steps.{Refuses as IsRefused, RefusesStep, Steps}
use Rattle.ei_serve.specs.Wanting.{MayWant}
use Rattle.ei_serve.proofs.Asked.{judged_refused}
use Rattle.ei_serve.proofs.AskedMeans.{Kind, IsPlain, IsSync, kind, asks_so, plain_now, sync_announced, refused_so}
use Rattle.ei_serve.proofs.Stepping.{refused_step}
use Rattle.ei_serve.proofs.TookBehind.{Behind, behind, behind_sync, is_end}
use Rattle.ei_serve.proofs.ConversingSteps.{Taken, full_early, cut_off, handles_one, ends_one, runs_out}

-- ---- what the converter refuses

-- it isn't refused as one of the handshake
abbrev NoHandshake : Option Reason → Type 0
NoHandshake (Some OfHandshake) = ⊥
NoHandshake x = Unit {0}

either : (b : Bool) (x y : Option Reason) → NoHandshake x → NoHandshake y → NoHandshake (cond b x y)
either true x y p q = p
either false x y p q = q

no_mask : (mask : ℕ) (o : Option SeatView) → NoHandshake (mask_refusal mask o)
no_mask mask None = tt
no_mask mask (Some s) = either (nat_le mask all_bits && (bit_and (bits_of s.capabilities) mask == mask)) None (Some (Bad request_error.InvalidCapabilities)) tt tt

no_input : (version : ℕ) (i : InputEvent) (o : Option DeviceView) → NoHandshake (input_refusal version i o)
no_input version i None = tt
no_input version (TouchDown touch x y) (Some d) =
    either (nat_le MOST_TOUCHES (length d.touches)) (Some (Bad request_error.TooManyTouches)) (cond (list_any (nat_eq touch) d.touches) (Some (Bad request_error.DuplicatedTouchDown)) None) tt
    (either (list_any (nat_eq touch) d.touches) (Some (Bad request_error.DuplicatedTouchDown)) None tt tt)
no_input version (TouchCancel touch) (Some d) = either (nat_lt version 2) (Some (BadVersion (name_of known.Touchscreen) version)) None tt tt
no_input version (TextUtf8 letters) (Some d) = either ((length letters == 0) || nat_lt MOST_TEXT_BYTES (length letters)) (Some (Bad request_error.InvalidTextLength)) None tt tt
no_input version i (Some d) = tt

no_handshake : (c : ConnectionView) (id version : ℕ) (x : Meaning) → ((shake : Shake) → x ≡ Shakes shake → ⊥) → NoHandshake (refused c id version x)
no_handshake c id version (Shakes shake) g = absurd (g shake refl)
no_handshake c id version (Syncs callback v) g = either (v == 1) None (Some (BadVersion (name_of known.Callback) v)) tt tt
no_handshake c id version (Binds mask) g = no_mask mask (find (is_seat id) c.seats)
no_handshake c id version (RequestsDevice mask) g = no_mask mask (find (is_seat id) c.seats)
no_handshake c id version (Inputs i) g = no_input version i (find (has_interface id) c.devices)
no_handshake c id version x g = tt

not_end : (p : Policy) → (p ≡ policy.End → ⊥) → is_end p ≡ false
not_end policy.Nothing h = refl
not_end (policy.AddDevice seat wanted) h = refl
not_end (policy.RemoveDevice device) h = refl
not_end policy.End h = absurd (h refl)

-- where nothing is done, no ids run out
pub none_lacks : (c : ConnectionView) → IsErrOf {T = Unit {0}} (Ok tt) send_error.IdsExhausted ↔ LacksIds policy.Nothing c
none_lacks c = (λ e. absurd cc, λ l. absurd l)

no_reason : (x : Option Reason) → IsSome x → None ≡ x → ⊥
no_reason None s e = let z : false ≡ true = s in absurd cc
no_reason (Some y) s e = absurd cc

-- an error that tells so is the session's refusal
refuses_as : (setup : Setup) (past : List Raw) (rest : List ℕ) (m : Raw) (after : List ℕ) (x : Option Reason) (e : Error) → front rest ≡ Whole m after → option_map refusal_told x ≡ refusal setup past m → NoHandshake x → Tells x e → IsRefused setup past rest e
refuses_as setup past rest m after x error.NoMemory f t nh h = record { m = m; after = after; front_is = f; wants = inl (sym t ∙ ap (option_map refusal_told) h) }
refuses_as setup past rest m after x error.UnexpectedHandshakeEvent f t nh h = absurd (subst NoHandshake (sym h.1) nh)
refuses_as setup past rest m after x (error.InvalidInterfaceVersion interface v) f t nh h =
    (m, after, f, judged_refused setup past m (InvalidInterfaceVersion interface.now v) (sym t ∙ ap (option_map refusal_told) (sym h.1)))
refuses_as setup past rest m after x (error.Request q) f t nh h = (m, after, f, judged_refused setup past m (BadRequest q) (sym t ∙ ap (option_map refusal_told) (sym h.1)))
refuses_as setup past rest m after x (error.Event q) f t nh h = absurd (no_reason x h.0 h.1)
refuses_as setup past rest m after x (error.Parse q) f t nh h = absurd (no_reason x h.0 h.1)
refuses_as setup past rest m after x (error.Handshake q) f t nh h = absurd (no_reason x h.0 h.1)
refuses_as setup past rest m after x error.UnexpectedEof f t nh h = absurd (no_reason x h.0 h.1)
refuses_as setup past rest m after x error.ReadFault f t nh h = absurd (no_reason x h.0 h.1)
refuses_as setup past rest m after x error.WriteFault f t nh h = absurd (no_reason x h.0 h.1)
refuses_as setup past rest m after x error.HandleLimit f t nh h = absurd (no_reason x h.0 h.1)
refuses_as setup past rest m after x error.IdsExhausted f t nh h = absurd (no_reason x h.0 h.1)
refuses_as setup past rest m after x error.MessageTooLong f t nh h = absurd (no_reason x h.0 h.1)
refuses_as setup past rest m after x error.PieceLimit f t nh h = absurd (no_reason x h.0 h.1)

module _ (setup : Setup) (past : List Raw) (times rest : List ℕ) (handles : List Handle) (r : Request) (c : ConverterView) (a : IsAsked setup past times rest handles r c) where
  no_shaking : (shake : Shake) → meaning_of r ≡ Shakes shake → ⊥
  no_shaking shake is = no_shake setup past a.m times a.stood a.e a.stands.held a.there shake (asks_so setup past times rest handles r c a ∙ ap (λ (x : Meaning). Some x) is)

  -- it is refused, and nothing is done
  pub refuses : (n : ConverterView) (e d : Error) (p : Phase) (out : List EisRequest) (took : SinkView) (before after : Option (List ℕ)) (result : Result Step Error) → result ≡ Err d → d ≡ e →
      Handles c r before (Err e) after n → Steps setup past times rest handles result p (around no_source out took before) (around no_source out took after)
  refuses n e d p out took before after result is d_is h =
      let x : Option Reason = refused c.handle (target_of r).id (target_of r).version (meaning_of r) in
      let so : IsRefused setup past rest e = refuses_as setup past rest a.m a.after x e a.front_is (refused_so setup past times rest handles r c a) (no_handshake c.handle (target_of r).id (target_of r).version (meaning_of r) no_shaking) h.why in
      rw (is, d_is) (subst (λ (z : Option (List ℕ)). RefusesStep setup past times rest e (around no_source out took before) (around no_source out took z)) (sym h.unread) (refused_step setup past times rest e (around no_source out took before) so))

  -- ---- it is taken

  taken : Taken past rest handles a.m a.after c
  taken = record {
    front_is = a.front_is;
    on = a.stands.held.connected;
    ring = subst (λ (d : ConverterView). d.handle.ctx.capacity ≤ most_capacity) (sym a.now) a.stands.ring;
    unread = ap (λ (d : ConverterView). d.handle.ctx.unread) a.now ∙ a.stands.unread;
    unread_handles = ap (λ (d : ConverterView). d.handle.ctx.handles) a.now ∙ a.stands.unread_handles;
    unsent = ap (λ (d : ConverterView). d.handle.ctx.unsent) a.now ∙ a.stands.unsent;
  }

  module _ (n : ConverterView) (before after : Option (List ℕ)) (t : Handles c r before (Ok tt) after n) where
    fine : refusal setup past a.m ≡ None
    fine = sym (refused_so setup past times rest handles r c a) ∙ ap (option_map refusal_told) t.accepted

    plain_behind : announced_of r ≡ None → callback_in (Some (meaning_of r)) ≡ None → Behind setup past a.m times c n before after
    plain_behind none no_callback =
        let x : Meaning = meaning_of r in
        let same : c ≡ a.stood = plain_now setup past times rest handles r c a none in
        let clock : Times (closes_group (meaning_of r)) (is_some_waiting (device_in a.stood a.m.id)) t.time before after =
        subst (λ (d : ConverterView). Times (closes_group (meaning_of r)) (is_some_waiting (device_in d a.m.id)) t.time before after) same
        (subst (λ (o : ObjectView). Times (closes_group (meaning_of r)) (is_some_waiting (device_in c o.id)) t.time before after) a.target t.clock) in
        let n_is : n ≡ handled a.stood a.m.id (meaning_of r) t.time =
        t.does ∙ ap (λ (o : ObjectView). handled c o.id (meaning_of r) t.time) a.target ∙ ap (λ (d : ConverterView). handled d a.m.id (meaning_of r) t.time) same in
        subst (λ (d : ConverterView). Behind setup past a.m times d n before after) (sym same) (subst (λ (y : ConverterView). Behind setup past a.m times a.stood y before after) (sym n_is)
        (behind setup past a.m times a.stood a.e a.stands.held a.there a.stands.queue fine before after (meaning_of r) t.time (asks_so setup past times rest handles r c a) no_callback clock))

    sync_behind : (callback : ObjectView) → announced_of r ≡ Some callback → meaning_of r ≡ Syncs callback.id callback.version → Behind setup past a.m times c n before after
    sync_behind callback announces is =
        let clock : after ≡ before = subst (λ (y : Meaning). Times (closes_group y) (is_some_waiting (device_in c (target_of r).id)) t.time before after) is t.clock in
        let n_is : n ≡ handled (with_table a.stood a.table) a.m.id (Syncs callback.id callback.version) t.time =
        t.does ∙ ap (λ (o : ObjectView). handled c o.id (meaning_of r) t.time) a.target ∙ ap (λ (y : Meaning). handled c a.m.id y t.time) is
        ∙ ap (λ (d : ConverterView). handled d a.m.id (Syncs callback.id callback.version) t.time) a.now in
        subst (λ (d : ConverterView). Behind setup past a.m times d n before after) (sym a.now) (subst (λ (y : ConverterView). Behind setup past a.m times (with_table a.stood a.table) y before after) (sym n_is)
        (behind_sync setup past a.m times a.stood a.e a.stands.held a.there a.stands.queue fine before after callback callback.version t.time a.table
        (asks_so setup past times rest handles r c a ∙ ap (λ (x : Meaning). Some x) is) (sync_announced setup past times rest handles r c a callback announces) clock))

    kind_behind : Kind r → Behind setup past a.m times c n before after
    kind_behind (IsPlain none no_callback) = plain_behind none no_callback
    kind_behind (IsSync callback announces is) = sync_behind callback announces is

    b : Behind setup past a.m times c n before after
    b = kind_behind (kind r)

    may_want : MayWant setup past rest
    may_want = record { m = a.m; after = a.after; front_is = a.front_is; wants = inl fine }

    -- it couldn't be handed out
    pub unqueued : (p : Phase) (d : Error) (out given : List EisRequest) (took : SinkView) (result : Result Step Error) → result ≡ Err d → d ≡ error.NoMemory → given ≡ out → Steps setup past times rest handles result p (around no_source out took before) (around no_source given took after)
    unqueued p d out given took result is d_is same = rw (is, d_is) (full_early setup past times rest b.used out given took before after may_want same b.draws)

    module _ (out given : List EisRequest) (grown : given ≡ out ++ n.queue) (p : Policy) (p_is : p ≡ policy_behind n.queue) (q : ConverterView) (q_is : q ≡ record n { queue = [] }) (lent : ConnectionView) (lent_is : lent ≡ q.handle) where
      lent_now : lent ≡ n.handle
      lent_now = lent_is ∙ ap (λ (d : ConverterView). d.handle) q_is

      lacks_so : LacksIds p lent → LacksIds (policy_behind n.queue) n.handle
      lacks_so l = subst (λ (x : ConnectionView). LacksIds (policy_behind n.queue) x) lent_now (subst (λ (x : Policy). LacksIds x lent) p_is l)

      so_lacks : LacksIds (policy_behind n.queue) n.handle → LacksIds p lent
      so_lacks l = subst (λ (x : Policy). LacksIds x lent) (sym p_is) (subst (λ (x : ConnectionView). LacksIds (policy_behind n.queue) x) (sym lent_now) l)

      taken_back : (handed : ℕ) → handed ≡ length out → take handed given ≡ out
      taken_back handed count = ap (λ (k : ℕ). take k given) count ∙ ap (take (length out)) grown ∙ take-append_seam out n.queue

      -- the policy couldn't be followed
      pub unfollowed : (handed : ℕ) → handed ≡ length out → (left : List EisRequest) (f : SendError) (d : Error) (x : Phase) (took : SinkView) (result : Result Step Error) → left ≡ handed_at f handed given → result ≡ Err d → d ≡ error_of_send f → (IsErrOf {T = Unit {0}} (Err f) send_error.IdsExhausted ↔ LacksIds p lent) →
          (IsErrOf {T = Unit {0}} (Err f) send_error.MessageTooLong → ⊥) → Steps setup past times rest handles result x (around no_source out took before) (around no_source left took after)
      unfollowed handed count left send_error.MessageTooLong d x took result stays is d_is out_of short = absurd (short refl)
      unfollowed handed count left send_error.IdsExhausted d x took result stays is d_is out_of short =
          let l = b.lacks (lacks_so (out_of.0 refl)) in
          rw (stays, is, d_is) (runs_out setup past times rest handles a.m a.after b.used c taken n.queue b.gave out given grown before after b.draws took fine l.0 l.1 l.2)
      unfollowed handed count left send_error.NoMemory d x took result stays is d_is out_of short = rw (is, d_is) (full_early setup past times rest b.used out left took before after may_want (stays ∙ taken_back handed count) b.draws)

      module _ (out_of : IsErrOf {T = Unit {0}} (Ok tt) send_error.IdsExhausted ↔ LacksIds p lent) (end : ConnectionView) (follows : Follows p lent end) (ring : end.ctx.capacity ≡ lent.ctx.capacity) where
        no_lack : LacksIds (policy_behind n.queue) n.handle → ⊥
        no_lack l = let z : ◌≡◌ {A = Result (Unit {0}) SendError} (Ok tt) (Err send_error.IdsExhausted) = out_of.1 (so_lacks l) in absurd cc

        followed : TookOne setup past a.m times b.used c (record n { handle = end })
        followed = b.took no_lack end (subst (λ (x : ConnectionView). Follows (policy_behind n.queue) x end) lent_now (subst (λ (x : Policy). Follows x lent end) p_is follows))

        same_ring : end.ctx.capacity ≡ c.handle.ctx.capacity
        same_ring = ring ∙ ap (λ (x : ConnectionView). x.ctx.capacity) lent_now ∙ b.ring

        plain_end : (last : Bool) → last ≡ b.last → (last || exhausts past a.m) ≡ last
        plain_end true e = refl
        plain_end false e = b.enough no_lack

        -- what answers it couldn't be sent
        pub unflushed : (f : FlushError) (d : Error) (x : Phase) (waiting : Piece) (old new : SinkView) (result : Result Step Error) → result ≡ Err d → d ≡ error_of_flush f → (IsErrOf {T = Unit {0}} (Err f) flush_error.NoMemory → Rose old.wants new.wants) → Went (unsent_of end.ctx) (Err f) waiting old new →
            Steps setup past times rest handles result x (around no_source out old before) (around no_source given new after)
        unflushed f d x waiting old new result is d_is want told =
            rw is (cut_off setup past times rest handles a.m a.after b.used c taken (b.last || exhausts past a.m) b.judged n.queue b.gave out given grown before after b.draws end (record n { handle = end }) refl followed same_ring waiting f d old new d_is want told)

        module _ (flushed : ConnectionView) (none : unsent_of flushed.ctx ≡ nothing) (kept : flushed ≡ record end { ctx = with_unsent (unsent_of flushed.ctx) end.ctx }) (old new : SinkView)
            (told : Went (unsent_of end.ctx) (Ok tt) (unsent_of flushed.ctx) old new) (count : old.wants ≤ new.wants) where
          same_last : is_end p ≡ b.last
          same_last = ap is_end p_is ∙ b.ends

          -- the session goes on
          pub goes_on : (d : ConverterView) → d ≡ record { handle = flushed; queue = q.queue } → is_end p ≡ false → Steps setup past times rest handles (Ok step.Handled) (phase.Connected d) (around no_source out old before) (around no_source given new after)
          goes_on d d_is still =
              let closed : (b.last || exhausts past a.m) ≡ false = plain_end b.last refl ∙ sym same_last ∙ still in
              subst (λ (x : ConverterView). Steps setup past times rest handles (Ok step.Handled) (phase.Connected x) (around no_source out old before) (around no_source given new after))
              (sym (d_is ∙ ap (λ (x : ConverterView). record { handle = flushed; queue = x.queue }) q_is))
              (handles_one setup past times rest handles a.m a.after b.used c taken (b.last || exhausts past a.m) b.judged n.queue b.gave out given grown before after b.draws end (record n { handle = end }) refl followed same_ring flushed none kept old new told count closed)

          -- the client disconnected
          pub ends : (d : ConverterView) → is_end p ≡ true → Steps setup past times rest handles (Ok step.Disconnect) (phase.Connected d) (around no_source out old before) (around no_source given new after)
          ends d over =
              let closed : (b.last || exhausts past a.m) ≡ true = plain_end b.last refl ∙ sym same_last ∙ over in
              ends_one setup past times rest handles a.m a.after b.used c taken (b.last || exhausts past a.m) b.judged n.queue b.gave out given grown before after b.draws end (record n { handle = end }) refl followed same_ring flushed none kept old new told count closed
              (b.enough no_lack) (b.lasts (sym same_last ∙ over))

          -- either, as the policy says
          pub answers_end : (d : ConverterView) (s : Step) → s ≡ step.Disconnect → p ≡ policy.End → Steps setup past times rest handles (Ok s) (phase.Connected d) (around no_source out old before) (around no_source given new after)
          answers_end d s s_is over = rw s_is (ends d (ap is_end over))

          pub answers_on : (d : ConverterView) → d ≡ record { handle = flushed; queue = q.queue } → (s : Step) → s ≡ step.Handled → (p ≡ policy.End → ⊥) → Steps setup past times rest handles (Ok s) (phase.Connected d) (around no_source out old before) (around no_source given new after)
          answers_on d d_is s s_is still = rw s_is (goes_on d d_is (not_end p still))
