use Rattle.ei_reported.proofs.NoneWaits.{waits_input, waits_modifiers, waits_told, waits_done, waits_goes, waits_free, waits_nothing}
use Rattle.ei_reported.proofs.laws.waiting_after.Goals as goal

pub returns : goal.returns
returns c = record {
  input = waits_input;
  modifiers = waits_modifiers;
  told = waits_told;
  done = waits_done;
  goes = waits_goes;
  free = waits_free;
  nothing = waits_nothing;
}
