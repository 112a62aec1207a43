use Rattle.std.proofs.Common.{sym, ap, ◌∙◌, ◌∷◌, List}
use Rattle.ei_ends.specs.Sent.{Got, Took, Missed}
use Rattle.ei_ends.specs.Worked.{keymap}
use Rattle.ei_ends.proofs.DroppedHandle.{is_keyboard, is_keymap, next_gets_it, keymaps_joined}
use Rattle.ei_ends.proofs.worked.a_dropped_handle.Goals as goal

pub returns : goal.returns
returns c = record {
  before = is_keyboard.took_client;
  dropped = λ h. (is_keymap h).took_client ∙ ap (λ (l : List Got). Missed 0xff00000000000006 1 ∷ Missed 0xff00000000000005 1 ∷ Missed 0xff00000000000004 1 ∷ Missed 0xff00000000000000 1 ∷ l) (sym is_keyboard.took_client);
  next_gets_it = λ h next. next_gets_it h next ∙ ap (λ (l : List Got). Took (keymap 0xff00000000000003 h) 1 ∷ l) (sym (is_keymap h).took_client);
  joined = keymaps_joined;
}
