-- Which requests make a device, and what is an input.
use Rattle.std.proofs.Common.{◌≡◌, ℕ, true, false, cond, eqb, List, [], ◌∷◌, Option, Some, None, refl, sym, ap, ◌∙◌, arith}
use Rattle.std.specs.Prelude.{codes}
use Rattle.std.proofs.lemmas.Bool.Decides.{nat_tests}
use Rattle.ei_spec.specs.declared.interface.KnownInterface.{KnownInterface}
use Rattle.ei_spec.specs.declared.interface.KnownInterface.TheVariants as known
use Rattle.ei_spec.specs.Value.{Value, Long}
use Rattle.ei_spec.specs.Rows.{Row, row_named}
use Rattle.ei_spec.specs.Table.{table}
use Rattle.ei_spec.specs.Message.{Raw}
use Rattle.ei_session.specs.Setup.{seat_id}
use Rattle.ei_session.specs.Asked.{args_by, asked}
use Rattle.ei_input.specs.declared.input_event.InputEvent.{InputEvent}
use Rattle.ei_session.specs.Inputs.{input_to, input_of}
use Rattle.ei_session.specs.Devices.{seat_is_open, asked_mask, made}
use Rattle.ei_session.specs.Objects.{Entry, object}
use Rattle.ei_session.specs.Touches.{input}
use Rattle.ei_session.proofs.ItemLaws.{args_are, no_args}
use Rattle.ei_session.proofs.AskedRows.{asked_row}
use Rattle.ei_session.proofs.DeviceInterfaces.{input_at}

-- ---- devices

mask_of_bind : (m : Raw) (mask : ℕ) → asked known.Seat (codes "bind") m ≡ Some (Long mask ∷ []) → asked_mask m ≡ Some mask
unfolding asked_mask
mask_of_bind m mask h = rw (h, asked_mask) refl

bind_none : (m : Raw) (mask : ℕ) → asked known.Seat (codes "request_device") m ≡ Some (Long mask ∷ []) → asked known.Seat (codes "bind") m ≡ None
unfolding asked
bind_none m mask h = no_args 1 2 _ m (args_are 2 _ m _ h).0 refl

mask_of_request : (m : Raw) (mask : ℕ) → asked known.Seat (codes "request_device") m ≡ Some (Long mask ∷ []) → asked_mask m ≡ Some mask
unfolding asked_mask
mask_of_request m mask h = rw (bind_none m mask h, h, asked_mask) refl

made_by : (before : List Raw) (m : Raw) (mask : ℕ) → seat_is_open before ≡ true → m.id ≡ seat_id → asked_mask m ≡ Some mask → made before m ≡ cond (eqb mask 0) None (Some mask)
unfolding made
made_by before m mask on at h = let here : eqb m.id seat_id ≡ true = grind (arith, nat_tests, at) in rw (on, here, h, made) refl

pub made_by_bind : (before : List Raw) (m : Raw) (mask : ℕ) → seat_is_open before ≡ true → m.id ≡ seat_id → asked known.Seat (codes "bind") m ≡ Some (Long mask ∷ []) → made before m ≡ cond (eqb mask 0) None (Some mask)
made_by_bind before m mask on at h = made_by before m mask on at (mask_of_bind m mask h)

pub made_by_request : (before : List Raw) (m : Raw) (mask : ℕ) → seat_is_open before ≡ true → m.id ≡ seat_id → asked known.Seat (codes "request_device") m ≡ Some (Long mask ∷ []) → made before m ≡ cond (eqb mask 0) None (Some mask)
made_by_request before m mask on at h = made_by before m mask on at (mask_of_request m mask h)

pub made_shut : (before : List Raw) (m : Raw) → seat_is_open before ≡ false → made before m ≡ None
unfolding made
made_shut before m off = rw (off, made) refl

-- ---- inputs

pub input_is : (before : List Raw) (m : Raw) (e : Entry) (d : ℕ) (k : KnownInterface) (i : InputEvent) → object before m.id ≡ Some e → e.interface ≡ k → e.device ≡ Some d → input_to k m ≡ Some i → input before m ≡ Some (record { device = d; input = i })
unfolding input
input_is before m e d k i there kind own h = rw (there, input, kind, own, h) refl

-- the arguments of the request of a name say which input it is
pub named_input : (k : KnownInterface) (name : List ℕ) (n : ℕ) (r : Row) (m : Raw) (args : List Value) → asked k name m ≡ Some args → row_named name (table false k) ≡ Some (n, r) → input_to k m ≡ input_of k n args
unfolding asked
named_input k name n r m args h named =
    let is = args_are n r m args (ap (λ (o : Option (ℕ × Row)). args_by o m) (sym named) ∙ h) in
    input_at k m n args is.0 (sym (asked_row k name n r m named is.0) ∙ h)
