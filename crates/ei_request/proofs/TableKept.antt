-- What keeps a table of devices as it is to be.
use Rattle.std.proofs.Common.{◌≡◌, ◌≤◌, ◌+◌, ℕ, Bool, true, false, cond, eqb, List, [], ◌∷◌, ◌++◌, map, length, Option, Some, None, Result, Ok, Err, OnOk, OnErr, refl, sym, ap, ◌∙◌, arith}
use Rattle.std.specs.Prelude.{find, not}
use Rattle.std.specs.List.{filter}
use Rattle.ei_keyed.specs.Keyed.{keyed, with_value, without_key, RiseWithin}
use Rattle.ei_request.specs.Held.{DeviceView, is_of_seat, has_interface, changed_first, without_first, without_interface, has_touch, takes_input, emptied}
use Rattle.ei_request.specs.DeviceTable.{values, number_of, with_first, own_ids, numbered, ids_of, Forgets, ForgetsDevice, stays, IsTable}
use Rattle.ei_input.specs.declared.input_event.InputEvent.{InputEvent}
use Rattle.ei_input.specs.declared.input_event.InputEvent.TheVariants.{TouchMotion, TouchUp, TouchCancel}
use Rattle.ei_request.proofs.NumberedDevices.{rises_written, rises_value, rises_without, rises_filter, rises_push}
use Rattle.ei_request.proofs.DeviceIds.{ids_push, ids_written, ids_with, ids_before, ids_after, ids_gone, all_taken, id_taken, own_without, ids_stay}

-- a device changes, and keeps its ids
pub table_written : (test : DeviceView → Bool) (hs : List (ℕ × DeviceView)) (ids : List (ℕ × ℕ)) (next : ℕ) (exact : Bool) (d w : DeviceView) → IsTable hs ids next exact → find test (values hs) ≡ Some d → own_ids w ≡ own_ids d →
    IsTable (with_first test hs w) ids next exact
table_written test hs ids next exact d w h f e = record {
  numbers = rises_written test hs 0 next w h.numbers;
  known = λ x. h.known x ∙ sym (ids_written test hs d w f e);
}

-- an input changes neither a device's key nor its interfaces
same_where : (b : Bool) (old new : DeviceView) → own_ids new ≡ own_ids old → own_ids (cond b new old) ≡ own_ids old
same_where true old new e = e
same_where false old new e = refl

input_ids : (i : InputEvent) (d : DeviceView) → own_ids (takes_input i d) ≡ own_ids d
input_ids (TouchMotion touch x y) d = same_where (has_touch touch d) d _ refl
input_ids (TouchUp touch) d = same_where (has_touch touch d) d _ refl
input_ids (TouchCancel touch) d = same_where (has_touch touch d) d _ refl
input_ids i d = refl

pub heard_ids : {E : Type 0} (r : Result (Unit {0}) E) (i : InputEvent) (d w : DeviceView) → OnOk r (w ≡ takes_input i d) → OnErr r (w ≡ d) → own_ids w ≡ own_ids d
heard_ids (Ok u) i d w ok err = ap own_ids ok ∙ input_ids i d
heard_ids (Err e) i d w ok err = ap own_ids err

-- what waits is handed out, or nothing happens
pub framed_ids : {E : Type 0} (r : Result (Unit {0}) E) (d w : DeviceView) → OnOk r (w ≡ emptied d) → OnErr r (w ≡ d) → own_ids w ≡ own_ids d
framed_ids (Ok u) d w ok err = ap own_ids ok
framed_ids (Err e) d w ok err = ap own_ids err

-- an interface leaves its device
pub table_given_up : (hs : List (ℕ × DeviceView)) (ids new : List (ℕ × ℕ)) (next n id : ℕ) (exact forgotten after : Bool) (d w : DeviceView) → IsTable hs ids next exact → keyed n hs ≡ Some d → w ≡ without_interface id d →
    (forgotten ≡ true → (eqb id d.device.proxy.id ≡ false) × Forgets n (id ∷ []) ids new) → (after ≡ true → (exact ≡ true) × (forgotten ≡ true)) → IsTable (with_value n hs w) new next after
table_given_up hs ids new next n id exact forgotten after d w h k e f both = record {
  numbers = rises_value n hs 0 next w h.numbers;
  known = λ x.
      (let t = f (both x).1 in
      let is : ids ≡ ids_with n (own_ids d) hs = h.known (both x).0 ∙ ids_before n hs d k in
      let one : without_key id ids ≡ ids_with n (own_ids w) hs =
      ap (without_key id) is ∙ id_taken id n (own_ids d) hs 0 next h.numbers (ap (keyed id) (sym is) ∙ t.1.0)
      ∙ ap (λ (js : List ℕ). ids_with n js hs) (own_without id d t.0 ∙ ap own_ids (sym e)) in
      t.1.1 ∙ one ∙ ids_after n hs w);
}

-- a device goes
pub table_without : (hs : List (ℕ × DeviceView)) (ids new : List (ℕ × ℕ)) (next n : ℕ) (exact forgotten after : Bool) → IsTable hs ids next exact → (forgotten ≡ true → ForgetsDevice n hs ids new) →
    (after ≡ true → (exact ≡ true) × (forgotten ≡ true)) → IsTable (without_key n hs) new next after
table_without hs ids new next n exact forgotten after h f both = record {
  numbers = rises_without n hs 0 next h.numbers;
  known = λ x. (let t = f (both x).1 in all_taken n (own_ids t.0) hs next ids new h.numbers (h.known (both x).0 ∙ ids_before n hs t.0 t.1) t.2 ∙ ids_gone n hs);
}

-- a device comes
pub table_push : (hs : List (ℕ × DeviceView)) (ids : List (ℕ × ℕ)) (next : ℕ) (exact : Bool) (d : DeviceView) → IsTable hs ids next exact → IsTable (hs ++ (next, d) ∷ []) (ids ++ numbered next (own_ids d)) (next + 1) exact
table_push hs ids next exact d h = record {
  numbers = rises_push hs 0 next d h.numbers;
  known = λ x. ap (λ ys. ys ++ numbered next (own_ids d)) (h.known x) ∙ ids_push hs next d;
}

-- the devices of a seat go
pub table_stay : (seat : ℕ) (hs : List (ℕ × DeviceView)) (ids : List (ℕ × ℕ)) (next : ℕ) (exact : Bool) → IsTable hs ids next exact →
    IsTable (filter (λ x. not (is_of_seat seat x.1)) hs) (filter (λ e. stays seat (keyed e.1 hs)) ids) next exact
table_stay seat hs ids next exact h = record {
  numbers = rises_filter (λ x. not (is_of_seat seat x.1)) hs 0 next h.numbers;
  known = λ x. ap (filter (λ e. stays seat (keyed e.1 hs))) (h.known x) ∙ ids_stay seat hs 0 next h.numbers;
}
