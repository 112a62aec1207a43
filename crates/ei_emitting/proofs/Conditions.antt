-- What the calls of the steps ask for.
use Rattle.std.proofs.Common.{◌≡◌, ℕ, ◌+◌, ◌*◌, ◌<◌, ◌≤◌, Bool, true, false, cond, List, [], ◌∷◌, length, Option, Some, None, refl, sym, ap, ◌∙◌, arith}
use Rattle.std.specs.Prelude.{is_some, find}
use Rattle.std.specs.List.{flat_map, filter_map}
use Rattle.std.proofs.lemmas.Bool.{leb-true}
use Rattle.ei_spec.specs.declared.interface.KnownInterface.{KnownInterface}
use Rattle.ei_spec.specs.declared.limits.TheConstants.{MOST_MESSAGE_BYTES}
use Rattle.ei_spec.specs.History.{total}
use Rattle.ei_spec.specs.Interface.{Known, ObjectView}
use Rattle.ei_spec.specs.Rows.{Row, row_at}
use Rattle.ei_spec.specs.Table.{table}
use Rattle.ei_spec.specs.Value.{Value, written}
use Rattle.ei_types.specs.Capability.{capabilities, has_bit}
use Rattle.ei_types.specs.declared.capability.DeviceCapabilities.{DeviceCapabilities}
use Rattle.ei_types.specs.declared.enums.DeviceType.{DeviceType}
use Rattle.ei_session.specs.Setup.{seat_id}
use Rattle.ei_session.specs.Devices.{interfaces_of}
use Rattle.ei_backend.specs.Endpoint.{endpoint_of}
use Rattle.ei_backend.specs.Table.{found, own_limit}
use Rattle.ei_ends.specs.Sent.{Sent}
use Rattle.ei_told.specs.Told.{all_said}
use Rattle.ei_request.specs.Keys.{DeviceKey}
use Rattle.ei_request.specs.Held.{DeviceView, is_seat, is_device, is_of_key}
use Rattle.ei_request.specs.Connection.{ConnectionView, holds_device}
use Rattle.ei_request.specs.Making.{new_device, granted_at}
use Rattle.ei_acts.specs.Acting.{Makes, AddsDevice}
use Rattle.ei_acts.specs.Holding.{is_a_seat}
use Rattle.ei_acts.specs.Input.{is_input}
use Rattle.ei_emitting.specs.Emitted.{Step, Add, Inputs, bits_of, takes_ids, next_device, added, is_held, is_bad, row_fits, all_fit, id_in, mask_in}
use Rattle.ei_emitting.specs.Emits.{HoldsDevice, Emits, IsKeyOf, interface_id}
use Rattle.ei_emitting.proofs.Adding.{seat_found, seat_alive}
use Rattle.ei_emitting.proofs.Finding.{of_key, key_found, some_last}
use Rattle.ei_emitting.proofs.Histories.{next_more}
use Rattle.ei_emitting.proofs.Sending.{IsFit, fit, object, test}

-- ---- what is held

pub seat : (start : ℕ) (before : List Step) (c : ConnectionView) (past : List Sent) (id : ℕ) → Emits start before c past → id ≡ seat_id → (is_some (find (is_seat id) c.seats) ≡ true) × (is_a_seat (found c.ctx.table id) ≡ true)
seat start before c past id x e = (
  ap (λ (i : ℕ). is_some (find (is_seat i) c.seats)) e ∙ ap is_some (seat_found c x.seat),
  ap (λ (i : ℕ). is_a_seat (found c.ctx.table i)) e ∙ seat_alive c (all_said past) x.seat x.stands,
)

pub new : (c left : ConnectionView) (wanted : DeviceCapabilities) (kind : DeviceType) (seat_key seat : ObjectView) → Makes (AddsDevice seat_key seat None kind wanted []) c left →
    holds_device left (new_device (endpoint_of c.ctx) c.negotiated seat_key None (granted_at c seat_key.id wanted)).device ≡ true
new c left wanted kind seat_key seat made =
    let it : DeviceView = new_device (endpoint_of c.ctx) c.negotiated seat_key None (granted_at c seat_key.id wanted) in
    ap (λ (l : ConnectionView). is_some (find (is_of_key it.device) l.devices)) made.1.rest ∙ some_last (is_of_key it.device) c.devices it (of_key it.device it refl refl)

pub device : (start : ℕ) (before : List Step) (c : ConnectionView) (past : List Sent) (number : ℕ) (key : DeviceKey) → Emits start before c past → is_held before number ≡ true → IsKeyOf before number key → holds_device c key ≡ true
device start before c past number key x held k =
    let h : HoldsDevice (id_in (added before number)) (mask_in (added before number)) c (all_said past) = x.devices number held in
    ap is_some (key_found key c.devices h.device (h.seat ∙ sym k.seat) (ap (λ (i : ℕ). find (is_device i) c.devices) k.device ∙ h.held))

-- ---- an input

pub input : (start : ℕ) (before : List Step) (c : ConnectionView) (past : List Sent) (number : ℕ) (k : KnownInterface) (opcode : ℕ) (values : List Value) → Emits start before c past →
    is_bad before (Inputs number k opcode values) ≡ false → is_input c (interface_id before number k) k opcode ≡ true
input start before c past number k opcode values x bad = test start before c past x number k opcode values (fit before number k opcode values bad)

pub object_of : (start : ℕ) (before : List Step) (c : ConnectionView) (past : List Sent) (number : ℕ) (k : KnownInterface) (opcode : ℕ) (values : List Value) → Emits start before c past →
    is_bad before (Inputs number k opcode values) ≡ false → (o : ObjectView) × (found c.ctx.table (interface_id before number k) ≡ Some o) × (o.interface ≡ Known k) × (o.id ≡ interface_id before number k)
object_of start before c past number k opcode values x bad =
    let h = object start before c past x number k opcode values (fit before number k opcode values bad) in
    (h.object, h.there, h.is, h.its)

pub row : (before : List Step) (number : ℕ) (k : KnownInterface) (opcode : ℕ) (values : List Value) → is_bad before (Inputs number k opcode values) ≡ false →
    (r : Row) × (row_at opcode (table true k) ≡ Some r) × (all_fit r.kinds values ≡ true) × (16 + length (flat_map written values) ≤ MOST_MESSAGE_BYTES)
row before number k opcode values bad = by (row_at opcode (table true k)) refl f.row
  where
    f : IsFit before number k opcode values
    f = fit before number k opcode values bad

    by : (o : Option Row) → row_at opcode (table true k) ≡ o → row_fits o values ≡ true →
        (r : Row) × (row_at opcode (table true k) ≡ Some r) × (all_fit r.kinds values ≡ true) × (16 + length (flat_map written values) ≤ MOST_MESSAGE_BYTES)
    by None e h = absurd cc
    by (Some r) e h = (r, e, h, leb-true (16 + length (flat_map written values)) MOST_MESSAGE_BYTES f.short)

-- ---- ids

at_most : (mask : ℕ) (cs : List (ℕ × KnownInterface)) → length (filter_map (λ (c : ℕ × KnownInterface). cond (has_bit mask c.0) (Some c.1) None) cs) ≤ length cs
at_most mask [] = omega arith
at_most mask (c ∷ cs) = by (has_bit mask c.0) refl (at_most mask cs)
  where
    by : (b : Bool) → has_bit mask c.0 ≡ b → length (filter_map (λ (d : ℕ × KnownInterface). cond (has_bit mask d.0) (Some d.1) None) cs) ≤ length cs →
        length (filter_map (λ (d : ℕ × KnownInterface). cond (has_bit mask d.0) (Some d.1) None) (c ∷ cs)) ≤ length (c ∷ cs)
    by true e next = rw e (omega (arith, next))
    by false e next = rw e (omega (arith, next))

eight : length capabilities ≡ 8
eight = refl

bits_few : (mask : ℕ) → bits_of mask ≤ 8
unfolding interfaces_of
bits_few mask = let most = at_most mask capabilities in let e = eight in omega (arith, most, e)

takes_few : (step : Step) → takes_ids step ≤ 9
takes_few (Add mask) = let few = bits_few mask in omega (arith, few)
takes_few step = omega arith

first_next : next_device [] ≡ seat_id + 1
unfolding next_device total
first_next = omega arith

ids_bound : (before : List Step) → next_device before ≤ seat_id + 1 + 9 * length before
ids_bound [] = let e = first_next in omega (arith, e)
ids_bound (step ∷ before) = let next = ids_bound before in let more = next_more before step in let few = takes_few step in omega (arith, next, more, few)

pub ids : (before : List Step) → length before < 4294967295 → next_device before + 9 ≤ own_limit false
ids before lt = let b = ids_bound before in omega (arith, b, lt)
