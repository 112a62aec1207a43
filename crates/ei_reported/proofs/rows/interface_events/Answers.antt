use Rattle.std.proofs.Common.{refl}
use Rattle.ei_reported.proofs.AllOpen.{all_open}
use Rattle.ei_reported.proofs.rows.interface_events.Goals as goal

pub returns : goal.returns
unfolding all_open
returns c = record {
  pointer = λ id serial. refl;
  pointer_absolute = λ id serial. refl;
  scroll = λ id serial. refl;
  button = λ id serial. refl;
  keyboard = λ id serial. refl;
  touchscreen = λ id serial. refl;
  text = λ id serial. refl;
  gesture = λ id serial. refl;
  keymap = λ id type size h. refl;
  modifiers = λ id serial depressed locked latched layout. refl;
}
