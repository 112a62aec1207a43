-- The touches of a device rest on its inputs alone.
use Rattle.std.proofs.Common.{◌≡◌, ℕ, Bool, true, false, cond, eqb, List, [], ◌∷◌, ◌++◌, length, Option, Some, None, refl, ap, sym, ◌∙◌}
use Rattle.std.specs.Prelude.{◌||◌, not, unwrap_or, nat_le, nat_eq}
use Rattle.std.specs.List.{filter}
use Rattle.std.specs.Set.{unique_keys}
use Rattle.std.proofs.lemmas.List.{append-nil}
use Rattle.ei_spec.specs.History.{last_said, joined}
use Rattle.ei_spec.specs.Groups.{Timed, Framed, Plain as Given}
use Rattle.ei_input.specs.declared.input_event.InputEvent.{InputEvent}
use Rattle.ei_input.specs.declared.input_event.InputEvent.TheVariants as input_event
use Rattle.ei_session.specs.Touches.{said_by, put_by}
use Rattle.ei_session.specs.Requests.{Request}
use Rattle.ei_record.specs.Replayable.{says_touch, touch_is_down, puts_touch, touches_before, touches_badly}
use Rattle.ei_record.proofs.Projects.{inputs_of, timed_case}

-- of some inputs, the newest first: whether the touch is down, and those that are
abbrev pub down_in : List InputEvent → ℕ → Bool
down_in xs touch = unwrap_or (last_said (λ b x. said_by touch x) xs) false

abbrev pub puts_in : List InputEvent → List ℕ
puts_in xs = joined (λ b x. put_by x) xs

abbrev pub downs_in : List InputEvent → List ℕ
downs_in xs = filter (down_in xs) (unique_keys nat_eq (puts_in xs))

abbrev or_else : Option Bool → Option Bool → Option Bool
or_else o p = elim o [ Some a ↦ Some a | None ↦ p ]

-- what one item more says, and what it puts down
said_more : {M : Type 0} (says : List M → M → Option Bool) (before : List M) (m : M) → last_said says (m ∷ before) ≡ or_else (says before m) (last_said says before)
unfolding last_said
said_more says before m = refl

put_more : {M : Type 0} (gives : List M → M → List ℕ) (before : List M) (m : M) → joined gives (m ∷ before) ≡ joined gives before ++ gives before m
unfolding joined
put_more gives before m = refl

module _ (d touch : ℕ) where
  abbrev said_in : List InputEvent → Option Bool
  said_in xs = last_said (λ b x. said_by touch x) xs

  says_at : (e t : ℕ) (x : InputEvent) (before : List Request) → says_touch d touch before (Timed e x t) ≡ cond (eqb e d) (said_by touch x) None
  unfolding says_touch
  says_at e t x before = refl

  or_case : (b : Bool) (x : InputEvent) (o : Option Bool) (xs : List InputEvent) → o ≡ said_in xs → or_else (cond b (said_by touch x) None) o ≡ said_in (cond b (x ∷ xs) xs)
  or_case true x o xs e = ap (λ (p : Option Bool). or_else (said_by touch x) p) e ∙ sym (said_more (λ b x. said_by touch x) xs x)
  or_case false x o xs e = e

  said_case : (e t : ℕ) (x : InputEvent) (before : List Request) → last_said (says_touch d touch) before ≡ said_in (inputs_of d before) →
      last_said (says_touch d touch) (Timed e x t ∷ before) ≡ said_in (inputs_of d (Timed e x t ∷ before))
  said_case e t x before ih =
      said_more (says_touch d touch) before (Timed e x t)
      ∙ ap (λ (o : Option Bool). or_else o (last_said (says_touch d touch) before)) (says_at e t x before)
      ∙ or_case (eqb e d) x (last_said (says_touch d touch) before) (inputs_of d before) ih
      ∙ ap said_in (sym (timed_case d e t (eqb e d) x before refl))

  pub said_project : (before : List Request) → last_said (says_touch d touch) before ≡ last_said (λ b x. said_by touch x) (inputs_of d before)
  unfolding last_said says_touch
  said_project [] = refl
  said_project (Timed e x t ∷ before) = said_case e t x before (said_project before)
  said_project (Framed e s t ∷ before) = said_project before
  said_project (Given y ∷ before) = said_project before

  pub down_project : (before : List Request) → touch_is_down before d touch ≡ down_in (inputs_of d before) touch
  unfolding touch_is_down
  down_project before = ap (λ (o : Option Bool). unwrap_or o false) (said_project before)

module _ (d : ℕ) where
  puts_at : (e t : ℕ) (x : InputEvent) (before : List Request) → puts_touch d before (Timed e x t) ≡ cond (eqb e d) (put_by x) []
  unfolding puts_touch
  puts_at e t x before = refl

  put_case : (b : Bool) (x : InputEvent) (l : List ℕ) (xs : List InputEvent) → l ≡ puts_in xs → l ++ cond b (put_by x) [] ≡ puts_in (cond b (x ∷ xs) xs)
  put_case true x l xs e = ap (λ (k : List ℕ). k ++ put_by x) e ∙ sym (put_more (λ b x. put_by x) xs x)
  put_case false x l xs e = append-nil l ∙ e

  puts_case : (e t : ℕ) (x : InputEvent) (before : List Request) → joined (puts_touch d) before ≡ puts_in (inputs_of d before) →
      joined (puts_touch d) (Timed e x t ∷ before) ≡ puts_in (inputs_of d (Timed e x t ∷ before))
  puts_case e t x before ih =
      put_more (puts_touch d) before (Timed e x t)
      ∙ ap (λ (l : List ℕ). joined (puts_touch d) before ++ l) (puts_at e t x before)
      ∙ put_case (eqb e d) x (joined (puts_touch d) before) (inputs_of d before) ih
      ∙ ap puts_in (sym (timed_case d e t (eqb e d) x before refl))

  pub puts_project : (before : List Request) → joined (puts_touch d) before ≡ puts_in (inputs_of d before)
  unfolding joined puts_touch
  puts_project [] = refl
  puts_project (Timed e x t ∷ before) = puts_case e t x before (puts_project before)
  puts_project (Framed e s t ∷ before) = append-nil (joined (puts_touch d) before) ∙ puts_project before
  puts_project (Given y ∷ before) = append-nil (joined (puts_touch d) before) ∙ puts_project before

  all_down : (before : List Request) → touch_is_down before d ≡ down_in (inputs_of d before)
  all_down before = λ i touch. down_project d touch before i

  pub downs_project : (before : List Request) → touches_before before d ≡ downs_in (inputs_of d before)
  unfolding touches_before
  downs_project before = ap (λ (p : ℕ → Bool). filter p (unique_keys nat_eq (joined (puts_touch d) before))) (all_down before) ∙ ap (λ (l : List ℕ). filter (down_in (inputs_of d before)) (unique_keys nat_eq l)) (puts_project before)

-- what is wrong with an input's touch, by the inputs before it
abbrev pub bad_in : List InputEvent → InputEvent → Bool
bad_in xs (input_event.TouchDown touch x y) = nat_le 16 (length (downs_in xs)) || down_in xs touch
bad_in xs (input_event.TouchMotion touch x y) = not (down_in xs touch)
bad_in xs (input_event.TouchUp touch) = not (down_in xs touch)
bad_in xs (input_event.TouchCancel touch) = not (down_in xs touch)
bad_in xs x = false

pub badly_project : (before : List Request) (d : ℕ) (x : InputEvent) → touches_badly before d x ≡ bad_in (inputs_of d before) x
badly_project before d (input_event.TouchDown touch x y) = ap (λ (l : List ℕ). nat_le 16 (length l) || touch_is_down before d touch) (downs_project d before) ∙ ap (λ (b : Bool). nat_le 16 (length (downs_in (inputs_of d before))) || b) (down_project d touch before)
badly_project before d (input_event.TouchMotion touch x y) = ap not (down_project d touch before)
badly_project before d (input_event.TouchUp touch) = ap not (down_project d touch before)
badly_project before d (input_event.TouchCancel touch) = ap not (down_project d touch before)
badly_project before d (input_event.PointerMotion x y) = refl
badly_project before d (input_event.PointerMotionAbsolute x y) = refl
badly_project before d (input_event.Button x y) = refl
badly_project before d (input_event.ScrollDelta x y) = refl
badly_project before d (input_event.ScrollStop x y) = refl
badly_project before d (input_event.ScrollCancel x y) = refl
badly_project before d (input_event.ScrollDiscrete x y) = refl
badly_project before d (input_event.KeyboardKey x y) = refl
badly_project before d (input_event.TextKeysym x y) = refl
badly_project before d (input_event.TextUtf8 x) = refl
badly_project before d (input_event.GestureSwipe x y z) = refl
badly_project before d (input_event.GesturePinch x) = refl
