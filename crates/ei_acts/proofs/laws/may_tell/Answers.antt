use Rattle.ei_acts.proofs.MayAct.{resumed_act, paused_act, start_act, stop_act, frame_act, invalid_act, input_act}
use Rattle.ei_acts.proofs.laws.may_tell.Goals as goal

pub returns : goal.returns
returns c = record {
  resumed = resumed_act;
  paused = paused_act;
  start_emulating = start_act;
  stop_emulating = stop_act;
  frame = frame_act;
  invalid_object = invalid_act;
  input = input_act;
}
