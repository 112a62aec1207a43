-- A step that sends an input of a device leaves what holds of the server.
use Rattle.std.proofs.Common.{◌≡◌, ℕ, ◌+◌, ◌%◌, ◌^◌, Bool, true, false, cond, eqb, leb, ◌&&◌, List, [], ◌∷◌, map, length, Option, Some, None, refl, sym, ap, subst, ◌∙◌, arith}
use Rattle.std.specs.Prelude.{is_some, not, find}
use Rattle.std.specs.List.{flat_map}
use Rattle.std.proofs.lemmas.Bool.{and_parts, eqb-true, eq-eqb}
use Rattle.std.proofs.lemmas.Bool.Decides.{nat_tests}
use Rattle.std.proofs.lemmas.Option.{same_Some}
use Rattle.ei_spec.specs.declared.interface.KnownInterface.{KnownInterface}
use Rattle.ei_spec.specs.declared.limits.TheConstants.{MOST_MESSAGE_BYTES}
use Rattle.ei_spec.specs.History.{last_said, occurs, total}
use Rattle.ei_spec.specs.Groups.{Input as Waiting}
use Rattle.ei_spec.specs.Interface.{about}
use Rattle.ei_spec.specs.Rows.{row_at}
use Rattle.ei_spec.specs.Table.{table}
use Rattle.ei_spec.specs.Value.{Value, written}
use Rattle.ei_input.specs.declared.input_event.InputEvent.{InputEvent}
use Rattle.ei_session.specs.Devices.{interfaces_of}
use Rattle.ei_session.specs.Inputs.{is_of_device}
use Rattle.ei_ends.specs.Sent.{Sent}
use Rattle.ei_ends.specs.Steps.{table_after, table_with}
use Rattle.ei_ends.specs.Way.{onto}
use Rattle.ei_reported.specs.Said.{Inputs as Inputting, said}
use Rattle.ei_reported.specs.Standing.{device_added, holder}
use Rattle.ei_reported.specs.Reported.{item, waiting as waiting_of}
use Rattle.ei_reported.specs.Changes.{moves_device, brings}
use Rattle.ei_reported.proofs.HeldByDevices.{holder_held}
use Rattle.ei_reported.proofs.ItemsAndSerials.{item_input}
use Rattle.ei_steady.specs.Steady.{HasLeft}
use Rattle.ei_told.specs.Told.{event_of, all_said}
use Rattle.ei_request.specs.Held.{DeviceView, is_device, has_interface}
use Rattle.ei_request.specs.Connection.{ConnectionView}
use Rattle.ei_acts.specs.Holding.{device_id, held_by}
use Rattle.ei_acts.specs.Input.{IsInput, is_keymap, is_input, having_sent}
use Rattle.ei_acts.specs.Acting.{Makes, sent_by, SendsInput}
use Rattle.ei_acts.proofs.Acting.{act_steady}
use Rattle.ei_acts.proofs.Inputting.{input_plain, input_by_test}
use Rattle.ei_emitting.specs.Emitted.{Step, Inputs, added, is_held, is_bad, has_by, can_send, row_fits, input_of, id_in, mask_in, steps_on, serial, waiting, slot_with, slots_at, slots}
use Rattle.ei_emitting.specs.Emits.{is_connection, is_ping, HoldsDevice, Emits, IsInputOf, interface_id}
use Rattle.ei_emitting.proofs.Agreeing.{Agrees, input}
use Rattle.ei_emitting.proofs.Carrying.{agrees_of, carried, same_found}
use Rattle.ei_emitting.proofs.Inputting.{input_event_of, says_input, no_keymap, in_mask, of_a_device, not_connection, HasObject, object_at, owner_is}

-- ---- an input that isn't bad

-- what that says
pub record IsFit (before : List Step) (number : ℕ) (interface : KnownInterface) (opcode : ℕ) (values : List Value) : Type 0 where
  pub held : is_held before number ≡ true
  pub has : has_by (mask_in (added before number)) (about interface).bit ≡ true
  pub from_one : eqb opcode 0 ≡ false
  pub event : InputEvent
  pub is : input_of interface opcode values ≡ Some event
  pub row : row_fits (row_at opcode (table true interface)) values ≡ true
  pub short : leb (16 + length (flat_map written values)) MOST_MESSAGE_BYTES ≡ true

not_not : (b : Bool) → not b ≡ false → b ≡ true
not_not true h = refl
not_not false h = absurd cc

not_false : (b : Bool) → not b ≡ true → b ≡ false
not_false true h = absurd cc
not_false false h = refl

some_input : (o : Option InputEvent) → is_some o ≡ true → (i : InputEvent) × (o ≡ Some i)
some_input None h = absurd cc
some_input (Some i) h = (i, refl)

pub fit : (before : List Step) (number : ℕ) (k : KnownInterface) (opcode : ℕ) (values : List Value) → is_bad before (Inputs number k opcode values) ≡ false → IsFit before number k opcode values
unfolding is_bad
fit before number k opcode values bad =
    let mask : ℕ = mask_in (added before number) in
    let short : Bool = leb (16 + length (flat_map written values)) MOST_MESSAGE_BYTES in
    let row : Bool = row_fits (row_at opcode (table true k)) values in
    let some : Bool = is_some (input_of k opcode values) in
    let whole = and_parts (is_held before number) (can_send mask k opcode values) (not_not (is_held before number && can_send mask k opcode values) bad) in
    let a = and_parts (has_by mask (about k).bit) (not (eqb opcode 0) && (some && (row && short))) whole.1 in
    let b = and_parts (not (eqb opcode 0)) (some && (row && short)) a.1 in
    let c = and_parts some (row && short) b.1 in
    let d = and_parts row short c.1 in
    let i = some_input (input_of k opcode values) c.0 in
    record { held = whole.0; has = a.0; from_one = not_false (eqb opcode 0) b.0; event = i.0; is = i.1; row = d.0; short = d.1 }

-- ---- its object

module _ (start : ℕ) (before : List Step) (c : ConnectionView) (past : List Sent) (x : Emits start before c past) (number : ℕ) (k : KnownInterface) (opcode : ℕ) (values : List Value)
    (f : IsFit before number k opcode values) where
  abbrev it : ℕ
  it = id_in (added before number)

  abbrev target : ℕ
  target = interface_id before number k

  pub device : HoldsDevice it (mask_in (added before number)) c (all_said past)
  device = x.devices number f.held

  pub object : HasObject c.ctx.table target k device.device.interfaces
  object = object_at c.ctx.table (it + 1) k (interfaces_of (mask_in (added before number))) device.device.interfaces device.interfaces device.there (in_mask (mask_in (added before number)) k f.has)

  has_it : find (has_interface target) c.devices ≡ Some device.device
  has_it = owner_is it target c.devices device.device x.stands.interfaces device.held object.among

  -- the device that was found has the id
  found_id : (ds : List DeviceView) (d : DeviceView) → find (is_device it) ds ≡ Some d → d.device.proxy.id ≡ it
  found_id [] d h = absurd cc
  found_id (y ∷ ds) d h = by (is_device it y) refl h (found_id ds d)
    where
      by : (b : Bool) → is_device it y ≡ b → cond b (Some y) (find (is_device it) ds) ≡ Some d → (find (is_device it) ds ≡ Some d → d.device.proxy.id ≡ it) → d.device.proxy.id ≡ it
      by true e g next = subst (λ (v : DeviceView). v.device.proxy.id ≡ it) (same_Some y d g) (eqb-true y.device.proxy.id it e)
      by false e g next = next g

  owned : (held_by c).interface target ≡ Some it
  owned = ap device_id has_it ∙ ap (λ (n : ℕ). let o : Option ℕ = Some n in o) (found_id c.devices device.device device.held)

  holder_is : holder (all_said past) target ≡ Some it
  holder_is =
      let l : HasLeft (all_said past) c.ctx.table.next_own target it = x.stands.stands.interfaces target it owned in
      holder_held (all_said past) target l.offer l.offered
      ∙ ap (λ (b : Bool). let o : Option ℕ = cond b (Some l.offer.device) None in o) (ap (device_added (all_said past)) l.its ∙ l.added)
      ∙ ap (λ (n : ℕ). let o : Option ℕ = Some n in o) l.its

  -- ---- its test

  both : (a b : Bool) → a ≡ true → b ≡ true → (a && b) ≡ true
  both true true g h = refl
  both true false g h = absurd cc
  both false b g h = absurd cc

  from_one : leb 1 opcode ≡ true
  from_one = by (leb 1 opcode) refl
    where
      by : (b : Bool) → leb 1 opcode ≡ b → leb 1 opcode ≡ true
      by true e = e
      by false e = let zero : opcode ≡ 0 = grind (arith, nat_tests, e) in let no : true ≡ false = sym (eq-eqb opcode 0 zero) ∙ f.from_one in absurd cc

  pub test : is_input c target k opcode ≡ true
  test = both (is_some (find (has_interface target) c.devices)) (is_of_device k && (leb 1 opcode && not (is_keymap k opcode))) (ap is_some has_it)
      (both (is_of_device k) (leb 1 opcode && not (is_keymap k opcode)) (of_a_device (mask_in (added before number)) k f.has)
      (both (leb 1 opcode) (not (is_keymap k opcode)) from_one (no_keymap k opcode values f.event f.is)))

-- ---- the step

no_serial : (start : ℕ) (before : List Step) (step : Step) → steps_on before step ≡ 0 → serial start (step ∷ before) ≡ serial start before
unfolding serial total
no_serial start before step e = ap (λ (k : ℕ). (start + k) % 2 ^ 32) (omega (arith, e))

pub inputs : (start : ℕ) (before : List Step) (c left : ConnectionView) (past : List Sent) (number : ℕ) (k : KnownInterface) (opcode : ℕ) (m : Sent) → Emits start before c past →
    is_bad before (Inputs number k opcode m.values) ≡ false → IsInputOf before number k opcode m → Makes (SendsInput m) c left →
    Emits start (Inputs number k opcode m.values ∷ before) left (onto (sent_by (SendsInput m) c) past)
unfolding is_held added last_said occurs steps_on slots slots_at table_after table_with
inputs start before c left past number k opcode m x bad i made =
    let f : IsFit before number k opcode m.values = fit before number k opcode m.values bad in
    let step : Step = Inputs number k opcode m.values in
    let it : ℕ = id_in (added before number) in
    let target : ℕ = interface_id before number k in
    let n : ℕ = serial start (step ∷ before) in
    let fits : is_input c m.target m.interface m.opcode ≡ true =
    ap (λ (t : ℕ). is_input c t m.interface m.opcode) i.target ∙ ap (λ (j : KnownInterface). is_input c target j m.opcode) i.its ∙ ap (λ (o : ℕ). is_input c target k o) i.code
    ∙ test start before c past x number k opcode m.values f in
    let is : IsInput c m = input_by_test c m fits in
    let plain = input_plain c m is in
    let stays : (having_sent c m).ctx.table ≡ c.ctx.table = rw (plain.0, plain.1) refl in
    let same_table : left.ctx.table ≡ c.ctx.table = ap (λ (l : ConnectionView). l.ctx.table) made ∙ stays in
    let says : said (event_of m) ≡ Inputting target f.event =
    ap (λ (j : KnownInterface). said (input_event_of j m.target m.opcode m.values)) i.its ∙ ap (λ (o : ℕ). said (input_event_of k m.target o m.values)) i.code
    ∙ says_input k m.target opcode m.values f.event f.from_one f.is ∙ ap (λ (t : ℕ). Inputting t f.event) i.target in
    let item_is : item (all_said past) (said (event_of m)) ≡ Some (Waiting it f.event) =
    ap (item (all_said past)) says ∙ item_input (all_said past) target f.event ∙ ap (waiting_of f.event) (holder_is start before c past x number k opcode m.values f) in
    let no_ping : is_ping m ≡ false = ap (λ (j : KnownInterface). is_connection j && eqb m.opcode 3) i.its ∙ ap (λ (b : Bool). b && eqb m.opcode 3) (not_connection (mask_in (added before number)) k f.has) in
    let a : Agrees start (map event_of (m ∷ past)) (slot_with n (Some (Waiting it f.event)) ∷ slots start before) =
    input start (map event_of past) (slots start before) (event_of m) it n f.event item_is (agrees_of start before past x.told) in
    let slot : slots start (step ∷ before) ≡ slot_with n (Some (Waiting it f.event)) ∷ slots start before = ap (λ (o : Option InputEvent). slot_with n (waiting it o) ∷ slots start before) f.is in
    carried start before c left past x step (record { same_held = λ j. refl; same_added = λ j. refl; no_ids = refl }) m
    (same_found c left (ap (λ (l : ConnectionView). l.devices) made)) same_table (ap (λ (l : ConnectionView). l.seats) made) (ap moves_device says) (λ id. ap (brings id) says) no_ping
    (ap (λ (l : ConnectionView). l.last_serial) made ∙ x.serial_is ∙ sym (no_serial start before step refl))
    (act_steady (SendsInput m) c left (record { steady = is; made = made }) (all_said past) x.stands).1
    (subst (Agrees start (map event_of (m ∷ past))) (sym slot) a)
