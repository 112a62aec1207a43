-- The id of the device that items make next is that of the messages.
use Rattle.std.proofs.Common.{◌≡◌, ℕ, ◌+◌, List, [], ◌∷◌, ◌++◌, Option, Some, None, refl, ap, ◌∙◌, arith}
use Rattle.std.specs.Prelude.{slice_index}
use Rattle.ei_spec.specs.History.{total}
use Rattle.ei_spec.specs.Groups.{Framed, Plain as Given, Slot, Input as Waiting, Frame, Other, Free, group, gives, with_frame, timed, frames_made}
use Rattle.ei_input.specs.declared.input_event.InputEvent.{InputEvent}
use Rattle.ei_session.specs.Devices.{not_empty, ids_of}
use Rattle.ei_session.specs.Requests.{Request, Plain, Asking}
use Rattle.ei_record.specs.Replayable.{mask_of, takes_ids}
use Rattle.ei_record.proofs.Lists.{onto}
use Rattle.ei_record.proofs.Masks.{item_mask}

-- how many ids these items take
abbrev pub ids_in : List Request → ℕ
ids_in [] = 0
ids_in (x ∷ xs) = ids_of (not_empty (mask_of x)) + ids_in xs

one_takes : (before : List Request) (x : Request) → total takes_ids (x ∷ before) ≡ total takes_ids before + ids_of (not_empty (mask_of x))
unfolding total takes_ids
one_takes before x = refl

pub total_onto : (xs before : List Request) → total takes_ids (onto xs before) ≡ total takes_ids before + ids_in xs
total_onto [] before = omega arith
total_onto (x ∷ xs) before = omega (arith, total_onto xs (x ∷ before), one_takes before x)

ids_append : (xs ys : List Request) → ids_in (xs ++ ys) ≡ ids_in xs + ids_in ys
ids_append [] ys = omega arith
ids_append (x ∷ xs) ys = omega (arith, ids_append xs ys)

timed_none : (d t : ℕ) (xs : List InputEvent) → ids_in (timed d t xs) ≡ 0
unfolding timed
timed_none d t [] = refl
timed_none d t (x ∷ xs) = omega (arith, timed_none d t xs)

framed_none : (xs : List InputEvent) (d s t : ℕ) → ids_in (with_frame xs d s t) ≡ 0
unfolding with_frame
framed_none [] d s t = refl
framed_none (x ∷ xs) d s t = omega (arith, ids_append (timed d t (x ∷ xs)) (Framed d s t ∷ []), timed_none d t (x ∷ xs))

free_takes : (y : Plain) → ids_in (Given y ∷ []) ≡ ids_of (not_empty (mask_of (Given y)))
free_takes y = omega arith

-- another item than one of no device takes none
module _ (readings : List ℕ) (slots : List (Slot InputEvent Plain)) (serial : ℕ) where
  abbrev at : Option Asking → Slot InputEvent Plain
  at i = record { item = i; serial = serial }

  pub gives_ids : (i : Option Asking) → ((d : ℕ) (y : Plain) → i ≡ Some (Other d y) → mask_of (Given y) ≡ None) → ids_in (gives readings slots (at i)) ≡ ids_of (not_empty (item_mask i))
  unfolding gives
  gives_ids None quiet = refl
  gives_ids (Some (Waiting d x)) quiet = refl
  gives_ids (Some (Frame d s t)) quiet = framed_none (group d slots) d s t
  gives_ids (Some (Other d y)) quiet =
      ids_append (with_frame (group d slots) d serial (slice_index readings (frames_made slots))) (Given y ∷ [])
      ∙ omega (arith, framed_none (group d slots) d serial (slice_index readings (frames_made slots)), free_takes y, ap (λ (o : Option ℕ). ids_of (not_empty o)) (quiet d y refl))
  gives_ids (Some (Free y)) quiet = free_takes y
