use Rattle.std.proofs.Common.{refl}
use Rattle.ei_session.proofs.MadeLaws.{input_is, named_input}
use Rattle.ei_session.proofs.all_requests.inputs.Goals as goal

pub returns : goal.returns
returns c = record {
  there = input_is;
  motion_relative = λ m x y h. named_input _ _ 1 _ m _ h refl;
  motion_absolute = λ m x y h. named_input _ _ 1 _ m _ h refl;
  scroll = λ m x y h. named_input _ _ 1 _ m _ h refl;
  scroll_discrete = λ m x y h. named_input _ _ 2 _ m _ h refl;
  scroll_stop = λ m x y end h. named_input _ _ 3 _ m _ h refl;
  button = λ m x y h. named_input _ _ 1 _ m _ h refl;
  key = λ m x y h. named_input _ _ 1 _ m _ h refl;
  down = λ m t x y h. named_input _ _ 1 _ m _ h refl;
  motion = λ m t x y h. named_input _ _ 2 _ m _ h refl;
  up = λ m t h. named_input _ _ 3 _ m _ h refl;
  cancel = λ m t h. named_input _ _ 4 _ m _ h refl;
  keysym = λ m x y h. named_input _ _ 1 _ m _ h refl;
  utf8 = λ m t h. named_input _ _ 2 _ m _ h refl;
  swipe = λ m f x y h. named_input _ _ 1 _ m _ h refl;
  pinch = λ m s h. named_input _ _ 2 _ m _ h refl;
}
