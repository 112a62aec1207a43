-- What the event of an input does, by its row: it goes to the object of its interface.
use Rattle.std.proofs.Common.{◌≡◌, ℕ, ◌<◌, Bool, true, false, List, [], ◌++◌, Option, Some, None, Result, Ok, Err, refl, sym, ap, subst, ◌∙◌, arith}
use Rattle.std.specs.Prelude.{◌↔◌, find, is_some, nat_lt, IsErrOf}
use Rattle.std.specs.List.{flat_map}
use Rattle.std.proofs.lemmas.Bool.{lt-ltb}
use Rattle.std.proofs.lemmas.Bool.Decides.{nat_tests}
use Rattle.std.proofs.lemmas.List.{append-nil}
use Rattle.ei_spec.specs.declared.handle.Handle.{Handle}
use Rattle.ei_spec.specs.declared.limits.TheConstants.{MOST_MESSAGE_BYTES}
use Rattle.ei_spec.specs.declared.interface.KnownInterface.{KnownInterface}
use Rattle.ei_spec.specs.Interface.{ObjectView}
use Rattle.ei_spec.specs.Message.{message, bytes_of, size}
use Rattle.ei_spec.specs.Rows.{Row, row_named}
use Rattle.ei_spec.specs.Table.{table}
use Rattle.ei_spec.specs.Value.{Value, handles_of}
use Rattle.ei_wire.specs.declared.error.SendError.{SendError}
use Rattle.ei_wire.specs.declared.error.SendError.TheVariants as send_error
use Rattle.ei_input.specs.declared.input_event.InputEvent.{InputEvent}
use Rattle.ei_backend.specs.Backend.{BackendView, sent, after_row}
use Rattle.ei_backend.specs.Sends.{Sends, SendsText, row_size}
use Rattle.ei_session.specs.Arguments.{opcode_of}
use Rattle.ei_types.specs.Capability.{interface_of}
use Rattle.ei_types.specs.declared.capability.DeviceCapability.{DeviceCapability}
use Rattle.ei_request.specs.Keys.{DeviceKey}
use Rattle.ei_request.specs.Held.{DeviceView, is_device, is_of_key}
use Rattle.ei_request.specs.Connection.{ConnectionView}
use Rattle.ei_request.specs.Reading.{interface_in}
use Rattle.ei_request.specs.Sending.{says}
use Rattle.reis_eis.specs.declared.call_error.CallError.{CallError}
use Rattle.reis_eis.specs.declared.call_error.CallError.TheVariants as call_error
use Rattle.reis_eis.specs.Inputs.{Event, told_by, message_to}
use Rattle.reis_eis.specs.Keys.{HasKeys}
use Rattle.reis_eis.specs.Refusals.{Tells, of_send, first_reason, receives, on_device, object_at, on_interface, too_long, sending}
use Rattle.reis_eis.specs.Acting.{TellsTo, TellsInput, SendsInput}
use Rattle.reis_eis.proofs.HeldKeys.{IsOf, keys_same}
use Rattle.reis_eis.proofs.Telling.{role, object_by_id}

-- the row of an event
abbrev row_of : Event → Option (ℕ × Row)
row_of e = row_named e.name (table true e.interface)

-- a message without handles
plain_sent : (b : BackendView) (id opcode : ℕ) (values : List Value) → flat_map handles_of values ≡ [] → sent b id opcode values ≡ says b (message id opcode values)
plain_sent b id opcode values none =
    ap (λ (hs : List Handle). record b { unsent = b.unsent ++ bytes_of (message id opcode values); unsent_handles = hs })
    (ap (λ (hs : List Handle). b.unsent_handles ++ hs) none ∙ append-nil b.unsent_handles)

module _ (e : Event) (o : ObjectView) (h : ConnectionView) (ctx : BackendView) where
  goes_out : (values : List Value) → values ≡ e.values → ((b : BackendView) → after_row (row_of e) o e.values b ≡ sent b o.id (opcode_of (row_of e)) e.values) → flat_map handles_of e.values ≡ [] →
      ctx ≡ after_row (row_of e) o values h.ctx → TellsTo e (Some o) h (record h { ctx = ctx })
  goes_out values same plain none is =
      ap (λ (b : BackendView). record h { ctx = b }) (is ∙ ap (λ (l : List Value). after_row (row_of e) o l h.ctx) same ∙ plain h.ctx
      ∙ plain_sent h.ctx o.id (opcode_of (row_of e)) e.values none)

fits_below : (a b : ℕ) → (a < b → ⊥) → nat_lt a b ≡ false
fits_below a b h = grind (arith, nat_tests)

only_memory : (e : SendError) (i : InputEvent) → e ≡ send_error.NoMemory → too_long i ≡ None → Tells (too_long i) (of_send e)
only_memory send_error.NoMemory i is none = none
only_memory send_error.MessageTooLong i is none = cc
only_memory send_error.IdsExhausted i is none = cc

module _ (i : InputEvent) (o : ObjectView) (h : ConnectionView) (ctx : BackendView) (values : List Value) (same : values ≡ (told_by i).values)
    (plain : (b : BackendView) → after_row (row_of (told_by i)) o (told_by i).values b ≡ sent b o.id (opcode_of (row_of (told_by i))) (told_by i).values)
    (none : flat_map handles_of (told_by i).values ≡ []) where
  of_row : (r : Result (Unit {0}) SendError) → too_long i ≡ None → Sends (row_of (told_by i)) o values h.ctx ctx r → TellsInput i (Some o) h r (record h { ctx = ctx })
  of_row (Ok x) short s = record { ok = goes_out (told_by i) o h ctx values same plain none s.ok; fits = short; why = tt; err = tt }
  of_row (Err e) short s = record { ok = tt; fits = tt; why = only_memory e i s.only short; err = ap (λ (b : BackendView). record h { ctx = b }) s.err }

  module _ (length_is : row_size (row_of (told_by i)) o values ≡ size (message_to (told_by i) 0)) where
    long_one : MOST_MESSAGE_BYTES < row_size (row_of (told_by i)) o values → too_long i ≡ Some call_error.MessageTooLong
    long_one lt = rw (lt-ltb MOST_MESSAGE_BYTES (size (message_to (told_by i) 0)) (subst (λ (n : ℕ). MOST_MESSAGE_BYTES < n) length_is lt)) refl

    short_one : (MOST_MESSAGE_BYTES < row_size (row_of (told_by i)) o values → ⊥) → too_long i ≡ None
    short_one fits = rw (fits_below MOST_MESSAGE_BYTES (size (message_to (told_by i) 0)) (λ lt. fits (subst (λ (n : ℕ). MOST_MESSAGE_BYTES < n) (sym length_is) lt))) refl

    text_tells : (e : SendError) → (IsErrOf {T = Unit {0}} (Err e) send_error.IdsExhausted → ⊥) →
        (IsErrOf {T = Unit {0}} (Err e) send_error.MessageTooLong ↔ (MOST_MESSAGE_BYTES < row_size (row_of (told_by i)) o values)) → Tells (too_long i) (of_send e)
    text_tells send_error.IdsExhausted left long = absurd (left refl)
    text_tells send_error.MessageTooLong left long = long_one (long.0 refl)
    text_tells send_error.NoMemory left long = short_one (λ lt. let k = long.1 lt in cc)

    of_text : (r : Result (Unit {0}) SendError) → SendsText (row_of (told_by i)) o values h.ctx ctx r → TellsInput i (Some o) h r (record h { ctx = ctx })
    of_text (Ok x) s = record {
      ok = goes_out (told_by i) o h ctx values same plain none s.ok;
      fits = short_one (λ lt. let k = s.long.1 lt in cc);
      why = tt;
      err = tt;
    }
    of_text (Err e) s = record { ok = tt; fits = tt; why = text_tells e s.not_exhausted s.long; err = ap (λ (b : BackendView). record h { ctx = b }) s.err }

-- where the input is known, so is its event
module _ (d : Option DeviceView) (i is_input : InputEvent) (e : i ≡ is_input) where
  module _ (o : ObjectView) (found : interface_in (told_by is_input).interface d ≡ Some o) (h : ConnectionView) (ctx : BackendView) (values : List Value) (same : values ≡ (told_by is_input).values)
      (plain : (b : BackendView) → after_row (row_of (told_by is_input)) o (told_by is_input).values b ≡ sent b o.id (opcode_of (row_of (told_by is_input))) (told_by is_input).values)
      (none : flat_map handles_of (told_by is_input).values ≡ []) (r : Result (Unit {0}) SendError) where
    known_as : TellsInput is_input (Some o) h r (record h { ctx = ctx }) → TellsInput i (interface_in (told_by i).interface d) h r (record h { ctx = ctx })
    known_as t =
        subst (λ (x : InputEvent). TellsInput x (interface_in (told_by x).interface d) h r (record h { ctx = ctx })) (sym e)
        (subst (λ (to : Option ObjectView). TellsInput is_input to h r (record h { ctx = ctx })) (sym found) t)

    pub by_interface : too_long is_input ≡ None → (lent : BackendView) → lent ≡ h.ctx → Sends (row_of (told_by is_input)) o values lent ctx r →
        TellsInput i (interface_in (told_by i).interface d) h r (record h { ctx = ctx })
    by_interface short lent lent_is s =
        known_as (of_row is_input o h ctx values same plain none r short (subst (λ (b : BackendView). Sends (row_of (told_by is_input)) o values b ctx r) lent_is s))

    pub text_by_interface : row_size (row_of (told_by is_input)) o values ≡ size (message_to (told_by is_input) 0) → (lent : BackendView) → lent ≡ h.ctx →
        SendsText (row_of (told_by is_input)) o values lent ctx r → TellsInput i (interface_in (told_by i).interface d) h r (record h { ctx = ctx })
    text_by_interface length_is lent lent_is s =
        known_as (of_text is_input o h ctx values same plain none length_is r (subst (λ (b : BackendView). SendsText (row_of (told_by is_input)) o values b ctx r) lent_is s))

-- ---- why an input is refused

module _ (h lent : ConnectionView) (id : ℕ) (i : InputEvent) (r : Bool) (same : lent ≡ h) (asked : r ≡ receives lent.context_type) where
  pub to_sender : r ≡ false → sending id i h ≡ Some call_error.WrongRole
  to_sender is = rw (role h lent r false same asked is) refl

  to_receiver : r ≡ true → sending id i h ≡ first_reason (on_interface (told_by i).interface id h) (too_long i)
  to_receiver is = rw (role h lent r true same asked is) refl

  pub stopped : r ≡ true → (e : CallError) → on_interface (told_by i).interface id h ≡ Some e → sending id i h ≡ Some e
  stopped is e stops = to_receiver is ∙ ap (λ (o : Option CallError). first_reason o (too_long i)) stops

  pub goes_on : r ≡ true → on_interface (told_by i).interface id h ≡ None → sending id i h ≡ too_long i
  goes_on is none = to_receiver is ∙ ap (λ (o : Option CallError). first_reason o (too_long i)) none

pub tells_as : (reason other : Option CallError) (e : CallError) → reason ≡ other → Tells other e → Tells reason e
tells_as reason other e is t = subst (λ (o : Option CallError). Tells o e) (sym is) t

module _ (interface : KnownInterface) (id : ℕ) (h : ConnectionView) (on : on_device id h ≡ None) where
  pub isnt_there : is_some (object_at interface id h) ≡ false → on_interface interface id h ≡ Some call_error.Capabilities
  isnt_there e = rw (on, e) refl

  pub is_there : is_some (object_at interface id h) ≡ true → on_interface interface id h ≡ None
  is_there e = rw (on, e) refl

-- ---- by the device's key, and by its id

module _ (h : ConnectionView) (seats : List ObjectView) (devices : List DeviceKey) (keys : HasKeys h seats devices) (id : ℕ) (k : DeviceKey)
    (there : IsOf (λ (d : DeviceView). d.device) (find (is_device id) h.devices) k) (lent : ConnectionView) (same : lent ≡ h) where
  pub asked_for : (capability : DeviceCapability) (interface : KnownInterface) → interface_of capability ≡ interface → (r b : Bool) →
      r ≡ is_some (interface_in (interface_of capability) (find (is_of_key k) lent.devices)) → r ≡ b → is_some (object_at interface id h) ≡ b
  asked_for capability interface is r b asked rb =
      ap (λ (x : KnownInterface). is_some (object_at x id h)) (sym is)
      ∙ ap (λ (o : Option ObjectView). is_some o) (sym (object_by_id h seats devices keys id k there lent same (interface_of capability))) ∙ sym asked ∙ rb

  pub held_there : (interface : KnownInterface) → is_some (object_at interface id h) ≡ true → is_some (interface_in interface (find (is_of_key k) lent.devices)) ≡ true
  held_there interface is = ap (λ (o : Option ObjectView). is_some o) (object_by_id h seats devices keys id k there lent same interface) ∙ is

  pub sent_by_id : (i : InputEvent) (new : ConnectionView) → TellsTo (told_by i) (interface_in (told_by i).interface (find (is_of_key k) lent.devices)) lent new → SendsInput id i h new
  sent_by_id i new t =
      subst (λ (x : ConnectionView). TellsTo (told_by i) (object_at (told_by i).interface id h) x new) same
      (subst (λ (o : Option ObjectView). TellsTo (told_by i) o lent new) (object_by_id h seats devices keys id k there lent same (told_by i).interface) t)

-- the keys stay
pub keys_told : (e : Event) (to : Option ObjectView) (h lent new : ConnectionView) (seats : List ObjectView) (devices : List DeviceKey) → lent ≡ h → TellsTo e to lent new → HasKeys h seats devices →
    HasKeys new seats devices
keys_told e None h lent new seats devices same t keys = absurd t
keys_told e (Some o) h lent new seats devices same t keys =
    keys_same h new seats devices (ap (λ (c : ConnectionView). c.seats) t ∙ ap (λ (c : ConnectionView). c.seats) same)
    (ap (λ (c : ConnectionView). c.devices) t ∙ ap (λ (c : ConnectionView). c.devices) same) keys
