-- The touches of a device, by the inputs that were heard: which are down, and how many.
use Rattle.std.proofs.Common.{◌≡◌, ℕ, Bool, true, false, cond, eqb, List, [], ◌∷◌, ◌++◌, Option, Some, None, refl, ap, sym, ◌∙◌}
use Rattle.std.specs.Prelude.{nat_eq}
use Rattle.std.specs.List.{filter}
use Rattle.std.specs.Set.{unique_keys}
use Rattle.std.proofs.lemmas.List.{append-nil}
use Rattle.ei_spec.specs.Message.{Raw}
use Rattle.ei_spec.specs.History.{joined}
use Rattle.ei_spec.specs.Groups.{Input as Waiting}
use Rattle.ei_input.specs.declared.input_event.InputEvent.{InputEvent}
use Rattle.ei_input.specs.declared.input_event.InputEvent.TheVariants as input_event
use Rattle.ei_session.specs.Inputs.{DeviceInput}
use Rattle.ei_session.specs.Objects.{object}
use Rattle.ei_session.specs.Touches.{input, put_by, put_of, puts, is_down, touches_down}
use Rattle.ei_session.specs.Requests.{Asking, item, is_heard}
use Rattle.ei_session.proofs.ItemLaws.{item_input}
use Rattle.ei_record.proofs.Touching.{down_in, puts_in, downs_in}
use Rattle.ei_record.proofs.Heard.{heard_front, heard_back, no_input_at, heard_down}

puts_more : {M : Type 0} (gives : List M → M → List ℕ) (before : List M) (m : M) → joined gives (m ∷ before) ≡ joined gives before ++ gives before m
unfolding joined
puts_more gives before m = refl

puts_is : (before : List Raw) (m : Raw) (d : ℕ) (o : Option DeviceInput) → input before m ≡ o → puts d before m ≡ put_of d o
unfolding puts
puts_is before m d o e = ap (put_of d) e

-- an input that isn't heard puts nothing down
puts_none : (before : List Raw) (d : ℕ) (x : InputEvent) → is_heard before d x ≡ false → put_by x ≡ []
puts_none before d (input_event.TouchUp u) h = refl
puts_none before d (input_event.TouchCancel u) h = refl
puts_none before d (input_event.TouchMotion u x y) h = refl
puts_none before d (input_event.TouchDown u x y) h = absurd cc
puts_none before d (input_event.PointerMotion x y) h = refl
puts_none before d (input_event.PointerMotionAbsolute x y) h = refl
puts_none before d (input_event.Button x y) h = refl
puts_none before d (input_event.ScrollDelta x y) h = refl
puts_none before d (input_event.ScrollStop x y) h = refl
puts_none before d (input_event.ScrollCancel x y) h = refl
puts_none before d (input_event.ScrollDiscrete x y) h = refl
puts_none before d (input_event.KeyboardKey x y) h = refl
puts_none before d (input_event.TextKeysym x y) h = refl
puts_none before d (input_event.TextUtf8 x) h = refl
puts_none before d (input_event.GestureSwipe x y z) h = refl
puts_none before d (input_event.GesturePinch x) h = refl

chosen_none : (q : Bool) (l : List ℕ) → l ≡ [] → cond q l [] ≡ []
chosen_none true l e = e
chosen_none false l e = refl

module _ (before : List Raw) (d : ℕ) (l : List ℕ) (hs : List InputEvent) (ih : l ≡ puts_in hs) where
  input_case : (i : DeviceInput) (heard q : Bool) → is_heard before i.device i.input ≡ heard → eqb i.device d ≡ q →
      l ++ cond q (put_by i.input) [] ≡ puts_in (heard_front d hs (cond heard (Some (Waiting i.device i.input)) None))
  input_case i true true h q = ap (λ (k : List ℕ). k ++ put_by i.input) ih ∙ sym (rw q (puts_more (λ b x. put_by x) hs i.input))
  input_case i true false h q = append-nil l ∙ ih ∙ sym (rw q refl)
  input_case i false q h e = ap (λ (k : List ℕ). l ++ k) (chosen_none q (put_by i.input) (puts_none before i.device i.input h)) ∙ append-nil l ∙ ih

by_input : (before : List Raw) (m : Raw) (d : ℕ) (o : Option DeviceInput) → input before m ≡ o → joined (puts d) before ≡ puts_in (heard_back d before) → joined (puts d) before ++ put_of d o ≡ puts_in (heard_front d (heard_back d before) (item before m))
by_input before m d None e ih = append-nil (joined (puts d) before) ∙ ih ∙ sym (ap puts_in (no_input_at before m (object before m.id) (heard_back d before) d refl e))
by_input before m d (Some i) e ih =
    input_case before d (joined (puts d) before) (heard_back d before) ih i (is_heard before i.device i.input) (eqb i.device d) refl refl
    ∙ ap (λ (a : Option Asking). puts_in (heard_front d (heard_back d before) a)) (sym (item_input before m i e))

none_put : (d : ℕ) → joined (puts d) [] ≡ puts_in []
unfolding joined
none_put d = refl

pub heard_puts : (d : ℕ) (past : List Raw) → joined (puts d) past ≡ puts_in (heard_back d past)
heard_puts d [] = none_put d
heard_puts d (m ∷ before) =
    puts_more (puts d) before m
    ∙ ap (λ (k : List ℕ). joined (puts d) before ++ k) (puts_is before m d (input before m) refl)
    ∙ by_input before m d (input before m) refl (heard_puts d before)

all_down : (d : ℕ) (past : List Raw) → is_down past d ≡ down_in (heard_back d past)
all_down d past = λ i touch. heard_down d touch past i

-- the touches that are down are those of the inputs heard
pub heard_downs : (d : ℕ) (past : List Raw) → touches_down past d ≡ downs_in (heard_back d past)
unfolding touches_down
heard_downs d past =
    ap (λ (p : ℕ → Bool). filter p (unique_keys nat_eq (joined (puts d) past))) (all_down d past)
    ∙ ap (λ (l : List ℕ). filter (down_in (heard_back d past)) (unique_keys nat_eq l)) (heard_puts d past)
