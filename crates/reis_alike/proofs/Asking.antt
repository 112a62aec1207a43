-- A request at the front of a converter that stands: what it asks, and whether it is refused.
use Rattle.std.proofs.Common.{◌≡◌, ℕ, true, false, List, [], ◌∷◌, Option, Some, None, refl, sym, ap, subst, ◌∙◌}
use Rattle.std.specs.Option.{option_map}
use Rattle.ei_spec.specs.declared.interface.KnownInterface.{KnownInterface}
use Rattle.ei_spec.specs.declared.interface.KnownInterface.TheVariants as known
use Rattle.ei_spec.specs.Value.{Value, Word, Long}
use Rattle.ei_spec.specs.Interface.{Known, ObjectView}
use Rattle.ei_spec.specs.Message.{Raw}
use Rattle.ei_backend.specs.Table.{TableView, Announced, found}
use Rattle.ei_backend.specs.Backend.{BackendView, FrontAnswer, Message, next}
use Rattle.ei_server.specs.declared.request.Request.{Request}
use Rattle.ei_server.specs.declared.request.Request.TheVariants as request
use Rattle.ei_server.specs.declared.connection.Request.TheVariants as of_connection
use Rattle.ei_server.specs.declared.pingpong.Request.TheVariants as of_pingpong
use Rattle.ei_server.specs.declared.seat.Request.TheVariants as of_seat
use Rattle.ei_server.specs.declared.device.Request.TheVariants as of_device
use Rattle.ei_server.specs.Request.{target_of, opcode_of, values_of}
use Rattle.ei_input.specs.declared.input_event.InputEvent.{InputEvent}
use Rattle.ei_session.specs.Setup.{Setup}
use Rattle.ei_session.specs.Arguments.{request_args}
use Rattle.ei_session.specs.ByMeaning.{callback_in}
use Rattle.ei_session.specs.Meaning.{Meaning, meaning, Syncs}
use Rattle.ei_session.specs.Refusals.{Refusal, may_give, refusal}
use Rattle.ei_session.proofs.RefusedMeans.{refusal_asked}
use Rattle.ei_request.specs.Connection.{ConnectionView}
use Rattle.ei_request.specs.Converter.{ConverterView}
use Rattle.ei_request.specs.Refusing.{refusal as refused}
use Rattle.ei_request.specs.Typed.{interface_asked, input_asked, interface_meaning, meaning_of}
use Rattle.ei_standing.specs.Standing.{IsHeld, object_of, refusal_told}
use Rattle.ei_standing.proofs.SameRefusals.{same_refusal, may_be_given}
use Rattle.ei_standing.proofs.TypedMeanings.{meant}
use Rattle.ei_serve.specs.AtFront.{is_sync}
use Rattle.ei_serve.proofs.Asked.{TakenOut, held_with}
use Rattle.ei_serve.proofs.Taking.{next_taken}
use Rattle.reis_eis.specs.Words.{with_ctx}
use Rattle.reis_alike.proofs.Syncing.{CameIn, sync_comes}

-- ---- what announces an object

-- a `sync`, or another request, which announces nothing
pub data Kind (r : Request) : Type 0 where
  IsPlain : is_sync (interface_asked r) (opcode_of r) ≡ false → callback_in (Some (meaning_of r)) ≡ None → Kind r
  IsSync : (id v : ℕ) → interface_asked r ≡ known.Connection → opcode_of r ≡ 0 → values_of r ≡ Long id ∷ Word v ∷ [] → meaning_of r ≡ Syncs id v → Kind r

no_callback : (o : Option InputEvent) → callback_in (Some (interface_meaning o)) ≡ None
no_callback None = refl
no_callback (Some i) = refl

kind : (r : Request) → Kind r
kind (request.Handshake o a) = IsPlain refl refl
kind (request.Connection o (of_connection.Sync callback)) = IsSync callback.id callback.version refl refl refl refl
kind (request.Connection o of_connection.Disconnect) = IsPlain refl refl
kind (request.Pingpong o (of_pingpong.Done n)) = IsPlain refl refl
kind (request.Seat o of_seat.Release) = IsPlain refl refl
kind (request.Seat o (of_seat.Bind mask)) = IsPlain refl refl
kind (request.Seat o (of_seat.RequestDevice mask)) = IsPlain refl refl
kind (request.Device o of_device.Release) = IsPlain refl refl
kind (request.Device o (of_device.StartEmulating s n)) = IsPlain refl refl
kind (request.Device o (of_device.StopEmulating s)) = IsPlain refl refl
kind (request.Device o (of_device.Frame s t)) = IsPlain refl refl
kind (request.Device o of_device.Ready) = IsPlain refl refl
kind r = IsPlain refl (no_callback (input_asked r))

its_target : (r : Request) → (target_of r).interface ≡ Known (interface_asked r)
its_target (request.Handshake o a) = refl
its_target r = refl

same_known : (a b : KnownInterface) → Known a ≡ Known b → a ≡ b
same_known a b e = cc

abbrev backend_of : FrontAnswer × BackendView → BackendView
backend_of p = p.1

-- ---- what was taken out

-- the converter stood for the messages before it with its request out, whose callback, if it is a `sync`, is in the table
pub data Stood (setup : Setup) (past : List Raw) (times : List ℕ) (c : ConverterView) (b : BackendView) (after : List ℕ) (x : Meaning) : Type 0 where
  Plainly : b ≡ record c.handle.ctx { unread = after } → callback_in (Some x) ≡ None → Stood setup past times c b after x
  Syncing : (callback : ObjectView) → (v : ℕ) → (table : TableView) → b ≡ record c.handle.ctx { table = table; unread = after } → Announced (Some callback) c.handle.ctx.table table → x ≡ Syncs callback.id v → Stood setup past times c b after x

-- the same converter, with fewer bytes unread
abbrev pub unread_to : ConverterView → List ℕ → ConverterView
unread_to c after = with_ctx c (record c.handle.ctx { unread = after })

pub held_to : (setup : Setup) (past : List Raw) (times : List ℕ) (c : ConverterView) (after : List ℕ) → IsHeld setup past times c → IsHeld setup past times (unread_to c after)
held_to setup past times c after h = held_with setup past times c (unread_to c after) (record c.handle.ctx { unread = after }) h refl refl h.no_handles refl

module _ (setup : Setup) (past : List Raw) (times : List ℕ) (c : ConverterView) (h : IsHeld setup past times c) (b : BackendView) (r : Request) (t : TakenOut past c.handle.ctx r b)
    (n : next false c.handle.ctx ≡ (Message (target_of r) (opcode_of r) (values_of r), b)) where
  same_interface : interface_asked r ≡ t.e.interface
  same_interface = same_known (interface_asked r) t.e.interface (sym (its_target r) ∙ ap (λ (o : ObjectView). o.interface) t.target)

  pub asks_so : meaning t.e.interface t.m ≡ Some (meaning_of r)
  asks_so =
      subst (λ (k : KnownInterface). meaning k t.m ≡ Some (meaning_of r)) same_interface
      (meant t.m r (record { opcode = t.opcode; args = subst (λ (k : KnownInterface). request_args k t.m ≡ Some (values_of r)) (sym same_interface) t.args }))

  there : found c.handle.ctx.table t.m.id ≡ Some (object_of t.m.id t.e)
  there = h.objects t.m.id ∙ ap (option_map (object_of t.m.id)) t.there

  stood_plainly : is_sync (interface_asked r) (opcode_of r) ≡ false → b ≡ record c.handle.ctx { unread = t.after }
  stood_plainly plain =
      let no_sync : is_sync t.e.interface t.m.opcode ≡ false = ap (λ (k : KnownInterface). is_sync k t.m.opcode) (sym same_interface) ∙ ap (λ (o : ℕ). is_sync (interface_asked r) o) t.opcode ∙ plain in
      sym (ap backend_of n) ∙ (next_taken c.handle.ctx t.m t.after (object_of t.m.id t.e) t.e.interface (values_of r) t.front_is there refl no_sync t.args).1

  stood_synced : (id v : ℕ) → interface_asked r ≡ known.Connection → opcode_of r ≡ 0 → values_of r ≡ Long id ∷ Word v ∷ [] → meaning_of r ≡ Syncs id v → Stood setup past times c b t.after (meaning_of r)
  stood_synced id v i o vs x =
      let came : CameIn id c.handle.ctx.table b.table =
      sync_comes c.handle.ctx b t.m t.after (object_of t.m.id t.e) (target_of r) (opcode_of r) id v t.front_is there (ap Known (sym same_interface ∙ i)) (t.opcode ∙ o)
      (n ∙ ap (λ (ws : List Value). (Message (target_of r) (opcode_of r) ws, b)) vs) in
      Syncing came.callback v b.table (t.now ∙ ap (λ (u : TableView). record c.handle.ctx { table = u; unread = t.after }) (sym (ap (λ (d : BackendView). d.table) t.now)))
      came.announced (x ∙ ap (λ (k : ℕ). Syncs k v) (sym came.id_is))

  stood_by : Kind r → Stood setup past times c b t.after (meaning_of r)
  stood_by (IsPlain plain none) = Plainly (stood_plainly plain) none
  stood_by (IsSync id v i o vs x) = stood_synced id v i o vs x

  pub stood : Stood setup past times c b t.after (meaning_of r)
  stood = stood_by (kind r)

  -- ---- the refusal

  abbrev told : ConnectionView → Meaning → Option Refusal
  told d x = option_map refusal_told (refused d t.m.id t.e.version x)

  told_by : Stood setup past times c b t.after (meaning_of r) → told (record c.handle { ctx = b }) (meaning_of r) ≡ refusal setup past t.m
  told_by (Plainly is none) =
      ap (λ (x : BackendView). told (record c.handle { ctx = x }) (meaning_of r)) is
      ∙ same_refusal setup past t.m times (unread_to c t.after) t.e (held_to setup past times c t.after h) t.there (meaning_of r) asks_so (λ callback g. let z : Some callback ≡ None = sym g ∙ none in absurd cc)
      ∙ sym (refusal_asked setup past t.m t.e (meaning_of r) t.there asks_so)
  told_by (Syncing callback v table is announced x) =
      let asks : meaning t.e.interface t.m ≡ Some (Syncs callback.id v) = asks_so ∙ ap (λ (y : Meaning). Some y) x in
      let may : may_give past callback.id ≡ true = may_be_given past c.handle.ctx.table h.server h.peer table callback announced in
      ap (told (record c.handle { ctx = b })) x
      ∙ same_refusal setup past t.m times c t.e h t.there (Syncs callback.id v) asks (λ other g. let z : callback.id ≡ other = cc in subst (λ (id : ℕ). may_give past id ≡ true) z may)
      ∙ sym (refusal_asked setup past t.m t.e (Syncs callback.id v) t.there asks)

  -- it is refused for the reason for which a session refuses it
  pub refused_so : option_map refusal_told (refused (with_ctx c b).handle (target_of r).id (target_of r).version (meaning_of r)) ≡ refusal setup past t.m
  refused_so = ap (λ (o : ObjectView). option_map refusal_told (refused (with_ctx c b).handle o.id o.version (meaning_of r))) t.target ∙ told_by stood
