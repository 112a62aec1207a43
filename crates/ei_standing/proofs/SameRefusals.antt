-- The converter refuses what the session refuses, and for the same reason.
use Rattle.std.proofs.Common.{◌≡◌, ◌≤◌, ℕ, Bool, true, false, cond, eqb, leb, ltb, List, length, Option, Some, None, Err, refl, sym, ap, ◌∙◌, arith}
use Rattle.std.specs.Prelude.{find, nat_eq, nat_lt, bit_and, ◌||◌, ◌==◌}
use Rattle.std.specs.Option.{option_map}
use Rattle.std.proofs.lemmas.Bool.{eqb-true}
use Rattle.std.proofs.lemmas.Bool.Decides.{nat_tests}
use Rattle.std.proofs.lemmas.Nat.{and_le_r, and_comm}
use Rattle.ei_spec.specs.declared.interface.KnownInterface.{KnownInterface}
use Rattle.ei_spec.specs.declared.interface.KnownInterface.TheVariants as known
use Rattle.ei_spec.specs.declared.limits.TheConstants.{MOST_TEXT_BYTES}
use Rattle.ei_spec.specs.Interface.{Interface, ObjectView, name_of}
use Rattle.ei_spec.specs.Reading.{Fault, InvalidId}
use Rattle.ei_spec.specs.Message.{Raw}
use Rattle.ei_types.specs.Capability.{all_bits}
use Rattle.ei_types.specs.declared.error.RequestError.TheVariants as request_error
use Rattle.ei_backend.specs.Table.{TableView, Announced, accept, peer_end}
use Rattle.ei_backend.proofs.GivenOnce.{accepted_is}
use Rattle.ei_session.specs.Setup.{Setup, connection_id, seat_id}
use Rattle.ei_input.specs.declared.input_event.InputEvent.{InputEvent}
use Rattle.ei_input.specs.declared.input_event.InputEvent.TheVariants.{TouchDown, TouchCancel, TextUtf8}
use Rattle.ei_session.specs.Meaning.{Shake, Meaning, meaning, Shakes, Syncs, Binds, RequestsDevice, Inputs}
use Rattle.ei_session.specs.Objects.{Entry, object}
use Rattle.ei_session.specs.Touches.{touches_down}
use Rattle.ei_session.specs.Refusals.{InvalidInterfaceVersion, Request, may_give, bad_mask}
use Rattle.ei_session.specs.ByMeaning.{callback_in, sync_refusal, input_refusal, refusal_for}
use Rattle.ei_session.specs.NextIds.{next_peer}
use Rattle.ei_session.specs.Kept.{is_bare, home}
use Rattle.ei_session.proofs.Choices.{none_some, some_is, and_false}
use Rattle.ei_session.proofs.AskedByMeaning.{its_interface, its_kind}
use Rattle.ei_session.proofs.FirstObjects.{the_handshake, object_handshake}
use Rattle.ei_session.proofs.NextLaws.{may_give_by}
use Rattle.ei_session.proofs.Placed.{object_placed, object_owned}
use Rattle.ei_session.proofs.TouchCounts.{down_count}
use Rattle.ei_request.specs.Held.{SeatView, DeviceView, is_seat, has_interface}
use Rattle.ei_request.specs.Handling.{set_of}
use Rattle.ei_request.specs.Refusing.{BadVersion, Bad, mask_refusal, refusal}
use Rattle.ei_request.specs.Refusing.{sync_refusal as sync_in_code, input_refusal as input_refused}
use Rattle.ei_request.specs.Converter.{ConverterView}
use Rattle.ei_standing.specs.Standing.{IsDevice, IsHeld, seat_held, refusal_told}
use Rattle.ei_standing.proofs.ToDevices.{held_there}

-- ---- callbacks

told_sync : (past : List Raw) (callback v : ℕ) (b : Bool) → eqb v 1 ≡ b → may_give past callback ≡ true → option_map refusal_told (sync_in_code v) ≡ sync_refusal past callback v
told_sync past callback v true e g = rw (g, e) refl
told_sync past callback v false e g = rw (g, e) refl

-- what the table of a server takes may be given, and nothing else
module _ (past : List Raw) (t : TableView) (server : t.client ≡ false) (peer : t.next_peer ≡ next_peer past) where
  ends : peer_end t ≡ connection_id
  ends = ap (λ (b : Bool). cond b 18446744073709551615 connection_id) server

  pub may_be_given : (u : TableView) (o : ObjectView) → Announced (Some o) t u → may_give past o.id ≡ true
  may_be_given u o n =
      let a = accepted_is t u o.id o.version o.interface o n in
      let low : leb (next_peer past) o.id ≡ true = let le = a.low in grind (arith, nat_tests, le, peer) in
      let high : ltb o.id connection_id ≡ true = let lt = a.high in grind (arith, nat_tests, lt, ends) in
      may_give_by past o.id ∙ rw (low, high) refl

  refused_by : (id v : ℕ) (i : Interface) (f : Fault) (low high : Bool) → ltb id t.next_peer ≡ low → leb (peer_end t) id ≡ high → accept t id i v ≡ Err f → (f ≡ InvalidId id) × (may_give past id ≡ false)
  refused_by id v i f true high l g q =
      let no : leb (next_peer past) id ≡ false = grind (arith, nat_tests, l, peer) in
      (cc (rw l at q), may_give_by past id ∙ rw no refl)
  refused_by id v i f false true l g q =
      let no : ltb id connection_id ≡ false = grind (arith, nat_tests, g, ends) in
      (cc (rw (l, g) at q), may_give_by past id ∙ rw no (and_false (leb (next_peer past) id)))
  refused_by id v i f false false l g q = absurd (cc (rw (l, g) at q))

  pub may_not_be_given : (id v : ℕ) (i : Interface) (f : Fault) → accept t id i v ≡ Err f → (f ≡ InvalidId id) × (may_give past id ≡ false)
  may_not_be_given id v i f q = refused_by id v i f (ltb id t.next_peer) (leb (peer_end t) id) refl refl q

-- ---- masks

-- what is among the capabilities is below them
told_mask : (mask given : ℕ) (s : SeatView) (b : Bool) → given ≤ all_bits → s.capabilities ≡ set_of given → eqb (bit_and mask given) mask ≡ b → option_map refusal_told (mask_refusal mask (Some s)) ≡ bad_mask given (Some mask)
told_mask mask given s true le is e =
    let same : bit_and mask given ≡ mask = eqb-true (bit_and mask given) mask e in
    let below : leb mask all_bits ≡ true = grind (arith, nat_tests, and_le_r mask given) in
    rw (is, and_comm given mask, e, below) refl
told_mask mask given s false le is e = rw (is, and_comm given mask, e, and_false (leb mask all_bits)) refl

-- ---- inputs

told_press : (many down : Bool) →
    option_map refusal_told (cond many (Some (Bad request_error.TooManyTouches)) (cond down (Some (Bad request_error.DuplicatedTouchDown)) None))
    ≡ cond many (Some (Request request_error.TooManyTouches)) (cond down (Some (Request request_error.DuplicatedTouchDown)) None)
told_press true down = refl
told_press false true = refl
told_press false false = refl

told_old : (version : ℕ) (old : Bool) →
    option_map refusal_told (cond old (Some (BadVersion (name_of known.Touchscreen) version)) None) ≡ cond old (Some (InvalidInterfaceVersion (name_of known.Touchscreen) version)) None
told_old version true = refl
told_old version false = refl

told_text : (bad : Bool) → option_map refusal_told (cond bad (Some (Bad request_error.InvalidTextLength)) None) ≡ cond bad (Some (Request request_error.InvalidTextLength)) None
told_text true = refl
told_text false = refl

told_input : (setup : Setup) (past : List Raw) (d : ℕ) (v : DeviceView) → IsDevice setup past d v → (version : ℕ) (i : InputEvent) → option_map refusal_told (input_refused version i (Some v)) ≡ input_refusal past version (Some d) i
told_input setup past d v h version (TouchDown touch x y) =
    let many : length v.touches ≡ length (touches_down past d) = down_count past d v.touches h.once h.touches in
    rw (many, h.touches touch) (told_press _ _)
told_input setup past d v h version (TouchCancel touch) = told_old version (nat_lt version 2)
told_input setup past d v h version (TextUtf8 letters) = told_text ((length letters == 0) || nat_lt MOST_TEXT_BYTES (length letters))
told_input setup past d v h version i = refl

-- ---- any request

module _ (setup : Setup) (past : List Raw) (m : Raw) (readings : List ℕ) (c : ConverterView) (e : Entry) (h : IsHeld setup past readings c) (k : object past m.id ≡ Some e) where
  -- the one id of an interface that has one
  pub at_home : (interface : KnownInterface) (id : ℕ) → e.interface ≡ interface → is_bare interface ≡ true → home interface ≡ Some id → m.id ≡ id
  at_home interface id i b o = sym (some_is id m.id (sym o ∙ ap home (sym i) ∙ (object_placed past m.id e k).at_home (ap is_bare i ∙ b)))

  -- the handshake is over
  no_handshake : e.interface ≡ known.Handshake → ⊥
  no_handshake i =
      let at : m.id ≡ 0 = at_home known.Handshake 0 i refl refl in
      none_some e (sym (ap (object past) at ∙ object_handshake past ∙ ap (λ (b : Bool). cond b None (Some the_handshake)) h.connected) ∙ k)

  pub seat_there : e.interface ≡ known.Seat → find (is_seat m.id) c.handle.seats ≡ Some (seat_held setup past)
  seat_there i =
      let at : m.id ≡ seat_id = at_home known.Seat seat_id i refl refl in
      let here : nat_eq seat_id m.id ≡ true = grind (arith, nat_tests, at) in
      ap (find (is_seat m.id)) h.seats ∙ rw here refl

  mask_told : (mask : ℕ) → e.interface ≡ known.Seat → option_map refusal_told (mask_refusal mask (find (is_seat m.id) c.handle.seats)) ≡ bad_mask setup.capabilities (Some mask)
  mask_told mask i = ap (λ (o : Option SeatView). option_map refusal_told (mask_refusal mask o)) (seat_there i) ∙ told_mask mask setup.capabilities (seat_held setup past) _ h.lawful refl refl

  input_told : (i : InputEvent) → meaning e.interface m ≡ Some (Inputs i) → option_map refusal_told (input_refused e.version i (find (has_interface m.id) c.handle.devices)) ≡ input_refusal past e.version e.device i
  input_told i a =
      let kind = its_kind e.interface m (Inputs i) a refl in
      let owned = object_owned past m.id e k kind.1 in
      let t = held_there setup past c.handle.devices m.id owned.0 e h.devices k owned.1 in
      ap (λ (o : Option DeviceView). option_map refusal_told (input_refused e.version i o)) (h.devices.owners m.id owned.0 e k owned.1 kind.0 ∙ t.found)
      ∙ told_input setup past owned.0 t.device t.is e.version i
      ∙ ap (λ (o : Option ℕ). input_refusal past e.version o i) (sym owned.1)

  pub no_shake : (s : Shake) → meaning e.interface m ≡ Some (Shakes s) → ⊥
  no_shake s a = no_handshake (its_interface e.interface m (Shakes s) known.Handshake a refl)

  pub same_refusal : (x : Meaning) → meaning e.interface m ≡ Some x → ((callback : ℕ) → callback_in (Some x) ≡ Some callback → may_give past callback ≡ true) →
      option_map refusal_told (refusal c.handle m.id e.version x) ≡ refusal_for setup past e x
  same_refusal (Shakes s) a g = absurd (no_shake s a)
  same_refusal (Syncs callback v) a g = told_sync past callback v _ refl (g callback refl)
  same_refusal (Binds mask) a g = mask_told mask (its_interface e.interface m (Binds mask) known.Seat a refl)
  same_refusal (RequestsDevice mask) a g = mask_told mask (its_interface e.interface m (RequestsDevice mask) known.Seat a refl)
  same_refusal (Inputs i) a g = input_told i a
  same_refusal x a g = refl
