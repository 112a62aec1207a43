-- What a server sends when it goes over to the connection, and what stands then.
use Rattle.std.proofs.Common.{◌≡◌, inl, inr, ◌≤◌, ◌<◌, ℕ, zero, suc, true, false, List, [], ◌∷◌, take, Some, None, Result, Ok, Err, refl, sym, ap, subst, ◌∙◌, arith}
use Rattle.std.specs.Prelude.{IsErrOf, ◌↔◌}
use Rattle.ei_spec.specs.declared.handle.Handle.{Handle}
use Rattle.ei_spec.specs.Message.{Raw, all_bytes}
use Rattle.ei_spec.specs.Piece.{Piece}
use Rattle.ei_types.specs.Errors.{error_of_flush, error_of_send}
use Rattle.ei_types.specs.declared.capability.DeviceCapabilities.{DeviceCapabilities}
use Rattle.ei_types.specs.declared.error.Error.{Error}
use Rattle.ei_wire.specs.declared.error.FlushError.{FlushError}
use Rattle.ei_wire.specs.declared.error.FlushError.TheVariants as flush_error
use Rattle.ei_wire.specs.declared.error.SendError.{SendError}
use Rattle.ei_wire.specs.declared.error.SendError.TheVariants as send_error
use Rattle.ei_session.specs.Setup.{Setup}
use Rattle.ei_session.specs.Handshake.{connected, is_finish, is_the_finish}
use Rattle.ei_session.specs.Replies.{name_event, finish_events}
use Rattle.ei_backend.specs.Outside.{Rose, SinkView, with_more}
use Rattle.ei_backend.specs.Outgoing.{IsPutOf, Went, nothing, sent_front}
use Rattle.ei_backend.specs.Table.{TableView, own_end}
use Rattle.ei_backend.specs.Backend.{BackendView, unsent_of, with_unsent}
use Rattle.ei_backend.specs.Endpoint.{Endpoint}
use Rattle.ei_handshake.specs.declared.server.EisHandshakeResp.{EisHandshakeResp}
use Rattle.ei_request.specs.Connection.{ConnectionView, new_connection}
use Rattle.ei_request.specs.Converter.{ConverterView}
use Rattle.ei_request.specs.Handling.{set_of}
use Rattle.ei_request.specs.Making.{AddsSeat, is_long_name}
use Rattle.ei_standing.specs.Standing.{IsHeld, HandedOver}
use Rattle.ei_standing.proofs.FirstHeld.{handed_so, held_first, all_first, unread_first, handles_first}
use Rattle.ei_serve.specs.Standing.{IsConnected, most_capacity}
use Rattle.ei_serve.specs.Steps.{HandsOver, Connects, CutsOff, TellsFinish, TellsFinishInPart}
use Rattle.ei_serve.proofs.Asked.{held_with}

the_finish : (before : List Raw) (m : Raw) → connected before ≡ false → is_finish m ≡ true → is_the_finish before m ≡ true
unfolding is_the_finish
the_finish before m c e = rw (e, c) refl

front_of : (n : ℕ) (bytes : List ℕ) (held : Piece) → sent_front n (record { bytes = bytes; handles = [] }) held ≡ with_more (take n bytes) [] held
front_of zero bytes held = refl
front_of (suc n) bytes held = refl

waiting_is : (b : BackendView) (bytes : List ℕ) → b.unsent ≡ bytes → b.unsent_handles ≡ [] → unsent_of b ≡ record { bytes = bytes; handles = [] }
waiting_is b bytes u h = rw (u, h) refl

-- a sink that was told a front of the events is cut off
cut_so : (setup : Setup) (before : List Raw) (e : FlushError) (old new : SinkView) → (IsErrOf {T = Unit {0}} (Err e) flush_error.NoMemory → Rose old.wants new.wants) → TellsFinishInPart setup before old new → CutsOff setup before (error_of_flush e) old new
cut_so setup before flush_error.WriteFault old new want told = told
cut_so setup before flush_error.NoMemory old new want told = inr (want refl, told)

module _ (setup : Setup) (before : List Raw) (after : List ℕ) (handles : List Handle) (resp : EisHandshakeResp) (context : BackendView) (over : HandsOver setup before after handles resp context) where
  handed : HandedOver before resp context
  handed = handed_so before resp context _ after handles over.connection over.name over.versions over.endpoint

  module _ (finish : Raw) (made : ConverterView) (made_is : made ≡ record { handle = new_connection context resp setup.serial; queue = [] }) (lent : ConnectionView) (lent_is : lent ≡ made.handle) where
    lent_now : lent ≡ new_connection context resp setup.serial
    lent_now = lent_is ∙ ap (λ (x : ConverterView). x.handle) made_is

    ids_left : own_end lent.ctx.table ≤ lent.ctx.table.next_own → ⊥
    ids_left few =
        let same : lent.ctx.table ≡ context.table = ap (λ (x : ConnectionView). x.ctx.table) lent_now in
        let here : own_end context.table ≤ context.table.next_own = subst (λ (t : TableView). own_end t ≤ t.next_own) same few in
        let end_is : own_end context.table ≡ 18446744073709551615 = rw handed.server refl in
        let next_is : context.table.next_own ≡ 0xff00000000000001 = handed.own in
        absurd (omega (arith, here, end_is, next_is))

    -- the seat couldn't be announced
    pub unseated : (T : Type 0) (f : SendError) (d : Error) (took : SinkView) (result : Result ConverterView Error) → result ≡ Err d → d ≡ error_of_send f → (IsErrOf {T = T} (Err f) send_error.IdsExhausted ↔ (own_end lent.ctx.table ≤ lent.ctx.table.next_own)) →
        (IsErrOf {T = T} (Err f) send_error.MessageTooLong ↔ ((lent.ctx.table.next_own < own_end lent.ctx.table) × (is_long_name (name_event lent.ctx.table.next_own) None ≡ true))) →
        Connects setup before finish after handles result took took
    unseated T send_error.MessageTooLong d took result is d_is out_of long = let z : false ≡ true = (long.0 refl).1 in absurd cc
    unseated T send_error.IdsExhausted d took result is d_is out_of long = absurd (ids_left (out_of.0 refl))
    unseated T send_error.NoMemory d took result is d_is out_of long = rw (is, d_is) (inl refl)

    module _ (set : DeviceCapabilities) (set_is : set ≡ set_of setup.capabilities) (seated : ConnectionView) (adds : AddsSeat lent None set seated) (ring : seated.ctx.capacity ≡ lent.ctx.capacity) (b : BackendView) (b_is : b ≡ seated.ctx)
        (off : connected before ≡ false) (is : is_finish finish ≡ true) where
      f : is_the_finish before finish ≡ true
      f = the_finish before finish off is

      added : AddsSeat (new_connection context resp setup.serial) None (set_of setup.capabilities) seated
      added = subst (λ (x : DeviceCapabilities). AddsSeat (new_connection context resp setup.serial) None x seated) set_is (subst (λ (x : ConnectionView). AddsSeat x None set seated) lent_now adds)

      held : IsHeld setup (finish ∷ before) [] (record { handle = seated; queue = [] })
      held = held_first setup before finish context resp f handed seated added over.lawful over.in_range

      to_go : unsent_of b ≡ record { bytes = all_bytes (finish_events setup before); handles = [] }
      to_go =
          ap unsent_of b_is
          ∙ waiting_is seated.ctx (all_bytes (finish_events setup before)) (all_first setup before finish context resp f handed seated added (ap (λ (e : Endpoint). e.unsent) over.endpoint)) held.no_handles

      pub connects : (new : BackendView) (old taken : SinkView) → unsent_of new ≡ nothing → new ≡ with_unsent (unsent_of new) b → Went (unsent_of b) (Ok tt) (unsent_of new) old taken → old.wants ≤ taken.wants →
          IsConnected setup (finish ∷ before) [] after handles (record { handle = record seated { ctx = new }; queue = made.queue }) × TellsFinish setup before old taken
      connects new old taken none kept took count =
          let new_is : new ≡ with_unsent nothing seated.ctx = kept ∙ ap (λ (p : Piece). with_unsent p b) none ∙ ap (λ (x : BackendView). with_unsent nothing x) b_is in
          let capacity : new.capacity ≡ context.capacity = ap (λ (x : BackendView). x.capacity) new_is ∙ ring ∙ ap (λ (x : ConnectionView). x.ctx.capacity) lent_now in (
            record {
              held = held_with setup (finish ∷ before) [] (record { handle = seated; queue = [] }) (record { handle = record seated { ctx = new }; queue = made.queue }) new held (ap (λ (x : BackendView). x.table) new_is)
                  (ap (λ (x : BackendView). x.closed) new_is) (ap (λ (x : BackendView). x.unsent_handles) new_is) refl;
              ring = subst (λ (n : ℕ). n ≤ most_capacity) (sym capacity) over.ring;
              unread = ap (λ (x : BackendView). x.unread) new_is ∙ unread_first setup before finish context resp f handed seated added ∙ ap (λ (e : Endpoint). e.unread) over.endpoint;
              unread_handles = ap (λ (x : BackendView). x.handles) new_is ∙ handles_first setup before finish context resp f handed seated added ∙ ap (λ (e : Endpoint). e.handles) over.endpoint;
              unsent = ap (λ (x : BackendView). x.unsent) new_is;
              queue = ap (λ (x : ConverterView). x.queue) made_is;
            },
            record { told = λ h told. took.took h told ∙ ap (λ (p : Piece). Some (with_more p.bytes p.handles h)) to_go; puts = subst (λ (p : Piece). IsPutOf p old.puts taken.puts) to_go took.puts; wants = count },
          )

      -- the sink was cut off
      pub cuts_off : (waiting : Piece) (e : FlushError) (y : Error) (result : Result ConverterView Error) (old taken : SinkView) → (IsErrOf {T = Unit {0}} (Err e) flush_error.NoMemory → Rose old.wants taken.wants) → Went (unsent_of b) (Err e) waiting old taken → result ≡ Err y → y ≡ error_of_flush e →
          Connects setup before finish after handles result old taken
      cuts_off waiting e y result old taken want took r_is y_is = rw (r_is, y_is) (cut_so setup before e old taken want (record {
        told = λ h told.
            let x = took.took h told in
            (x.0, x.2 ∙ ap (λ (p : Piece). Some (sent_front x.0 p h)) to_go ∙ ap (λ (p : Piece). Some p) (front_of x.0 (all_bytes (finish_events setup before)) h));
        puts = subst (λ (p : Piece). IsPutOf p old.puts taken.puts) to_go took.puts;
      }))
