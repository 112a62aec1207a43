use Rattle.std.proofs.Common.{refl, ap}
use Rattle.ei_types.specs.declared.enums.ButtonState.{ButtonState}
use Rattle.ei_types.specs.declared.enums.KeyState.{KeyState}
use Rattle.ei_input.specs.declared.input_event.InputEvent.TheVariants as input_event
use Rattle.ei_reported.specs.Said.{Inputs}
use Rattle.ei_reported.proofs.AllOpen.{all_open}
use Rattle.ei_reported.proofs.StatesByNumber.{button_again, key_again}
use Rattle.ei_reported.proofs.rows.input_events.Goals as goal

pub returns : goal.returns
unfolding all_open
returns c = record {
  motion_relative = λ id x y. refl;
  motion_absolute = λ id x y. refl;
  scroll = λ id x y. refl;
  scroll_discrete = λ id x y. refl;
  scroll_stop = λ id x y. refl;
  scroll_cancel = λ id x y n e. rw e refl;
  button = λ id code state. ap (λ (x : ButtonState). Inputs id (input_event.Button code x)) (button_again state);
  key = λ id code state. ap (λ (x : KeyState). Inputs id (input_event.KeyboardKey code x)) (key_again state);
  down = λ id touch x y. refl;
  motion = λ id touch x y. refl;
  up = λ id touch. refl;
  cancel = λ id touch. refl;
  keysym = λ id code state. ap (λ (x : KeyState). Inputs id (input_event.TextKeysym code x)) (key_again state);
  utf8 = λ id t. refl;
  swipe = λ id fingers x y. refl;
  pinch = λ id scale. refl;
}
