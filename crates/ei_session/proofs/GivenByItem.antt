-- What one more message gives, and how many frames are made, by its item; and what touches an input leaves.
use Rattle.std.proofs.Common.{◌≡◌, ℕ, ◌+◌, Bool, true, false, cond, eqb, List, [], ◌∷◌, ◌++◌, Option, Some, None, refl, ap, ◌∙◌, arith}
use Rattle.std.specs.Prelude.{unwrap_or, slice_index}
use Rattle.ei_spec.specs.Message.{Raw}
use Rattle.ei_spec.specs.History.{each}
use Rattle.ei_spec.specs.Groups.{Input as Waiting, Frame, Other, Free, Plain as Given, group, frames_made, gives, with_frame}
use Rattle.ei_spec.proofs.HistoryLaws.{each_more}
use Rattle.ei_spec.proofs.GroupsLaws.{frames_made_more, made_by}
use Rattle.ei_session.specs.Setup.{Setup}
use Rattle.ei_input.specs.declared.input_event.InputEvent.{InputEvent}
use Rattle.ei_session.specs.Inputs.{DeviceInput}
use Rattle.ei_session.specs.Serial.{serial}
use Rattle.ei_session.specs.Touches.{said_by, said_of, input, touches, is_down}
use Rattle.ei_session.specs.Requests.{Plain, Asking, item, slot}
use Rattle.ei_session.specs.Kept.{frames_for}
use Rattle.ei_session.proofs.SerialLaws.{down_more}

module _ (setup : Setup) (past : List Raw) (m : Raw) where
  frames_by : (o : Option Asking) → item past m ≡ o → frames_made (each (slot setup) (m ∷ past)) ≡ frames_made (each (slot setup) past) + made_by (λ d. group d (each (slot setup) past)) o
  unfolding slot
  frames_by o e =
      ap frames_made (each_more (slot setup) past m) ∙ frames_made_more (each (slot setup) past) (slot setup past m)
      ∙ ap (λ x. frames_made (each (slot setup) past) + made_by (λ d. group d (each (slot setup) past)) x) e

  one_for : (g : List InputEvent) (n : ℕ) → n + elim g [ [] ↦ 0 | _ ∷ _ ↦ 1 ] ≡ n + frames_for g
  one_for [] n = refl
  one_for (x ∷ g) n = refl

  pub frames_other : (d : ℕ) (y : Plain) → item past m ≡ Some (Other d y) → frames_made (each (slot setup) (m ∷ past)) ≡ frames_made (each (slot setup) past) + frames_for (group d (each (slot setup) past))
  frames_other d y e = frames_by (Some (Other d y)) e ∙ one_for (group d (each (slot setup) past)) (frames_made (each (slot setup) past))

  pub frames_input : (d : ℕ) (i : InputEvent) → item past m ≡ Some (Waiting d i) → frames_made (each (slot setup) (m ∷ past)) ≡ frames_made (each (slot setup) past)
  frames_input d i e = frames_by (Some (Waiting d i)) e ∙ omega arith

  pub frames_frame : (d s t : ℕ) → item past m ≡ Some (Frame d s t) → frames_made (each (slot setup) (m ∷ past)) ≡ frames_made (each (slot setup) past)
  frames_frame d s t e = frames_by (Some (Frame d s t)) e ∙ omega arith

  pub frames_free : (y : Plain) → item past m ≡ Some (Free y) → frames_made (each (slot setup) (m ∷ past)) ≡ frames_made (each (slot setup) past)
  frames_free y e = frames_by (Some (Free y)) e ∙ omega arith

  pub frames_none : item past m ≡ None → frames_made (each (slot setup) (m ∷ past)) ≡ frames_made (each (slot setup) past)
  frames_none e = frames_by None e ∙ omega arith

module _ (setup : Setup) (readings : List ℕ) (past : List Raw) (m : Raw) where
  pub gives_input : (d : ℕ) (i : InputEvent) → item past m ≡ Some (Waiting d i) → gives readings (each (slot setup) past) (slot setup past m) ≡ []
  unfolding gives slot
  gives_input d i e = rw e refl

  pub gives_frame : (d s t : ℕ) → item past m ≡ Some (Frame d s t) → gives readings (each (slot setup) past) (slot setup past m) ≡ with_frame (group d (each (slot setup) past)) d s t
  unfolding gives slot
  gives_frame d s t e = rw e refl

  pub gives_other : (d : ℕ) (y : Plain) → item past m ≡ Some (Other d y) →
      gives readings (each (slot setup) past) (slot setup past m) ≡ with_frame (group d (each (slot setup) past)) d (serial setup past) (slice_index readings (frames_made (each (slot setup) past))) ++ (Given y ∷ [])
  unfolding gives slot
  gives_other d y e = rw e refl

  pub gives_free : (y : Plain) → item past m ≡ Some (Free y) → gives readings (each (slot setup) past) (slot setup past m) ≡ Given y ∷ []
  unfolding gives slot
  gives_free y e = rw e refl

  pub gives_none : item past m ≡ None → gives readings (each (slot setup) past) (slot setup past m) ≡ []
  unfolding gives slot
  gives_none e = rw e refl

-- ---- touches

none_chosen : (b : Bool) (o : Option Bool) → o ≡ None → cond b o None ≡ None
none_chosen true o e = e
none_chosen false o e = refl

-- an input that says nothing of touches
pub still_down : (past : List Raw) (m : Raw) (i : DeviceInput) → input past m ≡ Some i → ((t : ℕ) → said_by t i.input ≡ None) → (id t : ℕ) → is_down (m ∷ past) id t ≡ is_down past id t
unfolding touches
still_down past m i e quiet id t =
    let none : touches id t past m ≡ None = ap (said_of id t) e ∙ none_chosen (eqb i.device id) (said_by t i.input) (quiet t) in
    down_more past m id t ∙ ap (λ x. unwrap_or x (is_down past id t)) none
