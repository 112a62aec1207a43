use Rattle.ei_acts.proofs.Sending.{resumed_sends, paused_sends, start_sends, stop_sends, frame_sends, invalid_sends}
use Rattle.ei_acts.proofs.Inputting.{input_sends}
use Rattle.ei_acts.proofs.laws.telling.Goals as goal

pub returns : goal.returns
returns c = record {
  resumed = resumed_sends;
  paused = paused_sends;
  start_emulating = start_sends;
  stop_emulating = stop_sends;
  frame = frame_sends;
  invalid_object = invalid_sends;
  input = input_sends;
}
