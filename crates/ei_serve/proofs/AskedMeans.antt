-- What a request at the front asks, and that the converter refuses what the session refuses.
use Rattle.std.proofs.Common.{◌≡◌, ℕ, true, List, Option, Some, None, refl, sym, ap, ◌∙◌, subst}
use Rattle.std.specs.Option.{option_map}
use Rattle.ei_spec.specs.declared.handle.Handle.{Handle}
use Rattle.ei_spec.specs.declared.interface.KnownInterface.{KnownInterface}
use Rattle.ei_spec.specs.Interface.{Known, ObjectView}
use Rattle.ei_spec.specs.Message.{Raw}
use Rattle.ei_backend.specs.Table.{Announced}
use Rattle.ei_server.specs.declared.request.Request.{Request}
use Rattle.ei_server.specs.declared.request.Request.TheVariants as request
use Rattle.ei_server.specs.declared.connection.Request.TheVariants as of_connection
use Rattle.ei_server.specs.declared.pingpong.Request.TheVariants as of_pingpong
use Rattle.ei_server.specs.declared.seat.Request.TheVariants as of_seat
use Rattle.ei_server.specs.declared.device.Request.TheVariants as of_device
use Rattle.ei_server.specs.Request.{target_of, values_of, announced_of}
use Rattle.ei_input.specs.declared.input_event.InputEvent.{InputEvent}
use Rattle.ei_session.specs.Setup.{Setup}
use Rattle.ei_session.specs.Arguments.{request_args}
use Rattle.ei_session.specs.ByMeaning.{callback_in}
use Rattle.ei_session.specs.Meaning.{Meaning, meaning, Syncs}
use Rattle.ei_session.specs.Refusals.{Refusal, may_give, refusal}
use Rattle.ei_session.proofs.RefusedMeans.{refusal_asked}
use Rattle.ei_request.specs.Converter.{ConverterView}
use Rattle.ei_request.specs.Refusing.{refusal as refused}
use Rattle.ei_request.specs.Typed.{interface_asked, input_asked, interface_meaning, meaning_of}
use Rattle.ei_standing.specs.Standing.{with_table, refusal_told}
use Rattle.ei_standing.proofs.SameRefusals.{same_refusal, may_be_given}
use Rattle.ei_standing.proofs.TypedMeanings.{meant}
use Rattle.ei_serve.specs.AtFront.{IsAsked}

-- ---- what announces an object

-- a `sync`, or another request, which announces nothing
pub data Kind (r : Request) : Type 0 where
  IsPlain : announced_of r ≡ None → callback_in (Some (meaning_of r)) ≡ None → Kind r
  IsSync : (callback : ObjectView) → announced_of r ≡ Some callback → meaning_of r ≡ Syncs callback.id callback.version → Kind r

no_callback : (o : Option InputEvent) → callback_in (Some (interface_meaning o)) ≡ None
no_callback None = refl
no_callback (Some i) = refl

pub kind : (r : Request) → Kind r
kind (request.Handshake o a) = IsPlain refl refl
kind (request.Connection o (of_connection.Sync callback)) = IsSync callback refl refl
kind (request.Connection o of_connection.Disconnect) = IsPlain refl refl
kind (request.Pingpong o (of_pingpong.Done n)) = IsPlain refl refl
kind (request.Seat o of_seat.Release) = IsPlain refl refl
kind (request.Seat o (of_seat.Bind mask)) = IsPlain refl refl
kind (request.Seat o (of_seat.RequestDevice mask)) = IsPlain refl refl
kind (request.Device o of_device.Release) = IsPlain refl refl
kind (request.Device o (of_device.StartEmulating s n)) = IsPlain refl refl
kind (request.Device o (of_device.StopEmulating s)) = IsPlain refl refl
kind (request.Device o (of_device.Frame s t)) = IsPlain refl refl
kind (request.Device o of_device.Ready) = IsPlain refl refl
kind r = IsPlain refl (no_callback (input_asked r))

its_target : (r : Request) → (target_of r).interface ≡ Known (interface_asked r)
its_target (request.Handshake o a) = refl
its_target r = refl

-- ---- what it asks, and whether it is refused

same_known : (a b : KnownInterface) → Known a ≡ Known b → a ≡ b
same_known a b e = cc

module _ (setup : Setup) (past : List Raw) (times rest : List ℕ) (handles : List Handle) (r : Request) (c : ConverterView) (a : IsAsked setup past times rest handles r c) where
  same_interface : interface_asked r ≡ a.e.interface
  same_interface = same_known (interface_asked r) a.e.interface (sym (its_target r) ∙ ap (λ (o : ObjectView). o.interface) a.target)

  pub asks_so : meaning a.e.interface a.m ≡ Some (meaning_of r)
  asks_so =
      subst (λ (k : KnownInterface). meaning k a.m ≡ Some (meaning_of r)) same_interface
      (meant a.m r (record { opcode = a.opcode; args = subst (λ (k : KnownInterface). request_args k a.m ≡ Some (values_of r)) (sym same_interface) a.args }))

  -- a converter from which a plain request was taken out stands for the messages before it
  pub plain_now : announced_of r ≡ None → c ≡ a.stood
  plain_now n =
      let same : a.table ≡ a.stood.handle.ctx.table = subst (λ (o : Option ObjectView). Announced o a.stood.handle.ctx.table a.table) n a.announced in
      a.now ∙ ap (with_table a.stood) same

  pub sync_announced : (callback : ObjectView) → announced_of r ≡ Some callback → Announced (Some callback) a.stood.handle.ctx.table a.table
  sync_announced callback n = subst (λ (o : Option ObjectView). Announced o a.stood.handle.ctx.table a.table) n a.announced

  abbrev told : ConverterView → ℕ → ℕ → Meaning → Option Refusal
  told d id version x = option_map refusal_told (refused d.handle id version x)

  refused_plain : announced_of r ≡ None → callback_in (Some (meaning_of r)) ≡ None → told c a.m.id a.e.version (meaning_of r) ≡ refusal setup past a.m
  refused_plain n no_callback =
      ap (λ (d : ConverterView). told d a.m.id a.e.version (meaning_of r)) (plain_now n)
      ∙ same_refusal setup past a.m times a.stood a.e a.stands.held a.there (meaning_of r) asks_so (λ callback g. let z : Some callback ≡ None = sym g ∙ no_callback in absurd cc)
      ∙ sym (refusal_asked setup past a.m a.e (meaning_of r) a.there asks_so)

  refused_sync : (callback : ObjectView) → announced_of r ≡ Some callback → meaning_of r ≡ Syncs callback.id callback.version → told c a.m.id a.e.version (meaning_of r) ≡ refusal setup past a.m
  refused_sync callback n is =
      let x : Meaning = Syncs callback.id callback.version in
      let asks_sync : meaning a.e.interface a.m ≡ Some (Syncs callback.id callback.version) = asks_so ∙ ap (λ (y : Meaning). Some y) is in
      let may : may_give past callback.id ≡ true = may_be_given past a.stood.handle.ctx.table a.stands.held.server a.stands.held.peer a.table callback (sync_announced callback n) in
      ap (told c a.m.id a.e.version) is
      ∙ same_refusal setup past a.m times a.stood a.e a.stands.held a.there (Syncs callback.id callback.version) asks_sync (λ other g. let z : callback.id ≡ other = cc in subst (λ (id : ℕ). may_give past id ≡ true) z may)
      ∙ sym (refusal_asked setup past a.m a.e (Syncs callback.id callback.version) a.there asks_sync)

  refused_kind : Kind r → told c a.m.id a.e.version (meaning_of r) ≡ refusal setup past a.m
  refused_kind (IsPlain n no_callback) = refused_plain n no_callback
  refused_kind (IsSync callback n is) = refused_sync callback n is

  pub refused_so : option_map refusal_told (refused c.handle (target_of r).id (target_of r).version (meaning_of r)) ≡ refusal setup past a.m
  refused_so = ap (λ (o : ObjectView). told c o.id o.version (meaning_of r)) a.target ∙ refused_kind (kind r)
