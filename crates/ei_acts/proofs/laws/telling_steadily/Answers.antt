use Rattle.ei_acts.proofs.Steadying.{resumed_steady, paused_steady, start_steady, stop_steady, frame_steady, invalid_steady}
use Rattle.ei_acts.proofs.Inputting.{input_steady, input_by_test}
use Rattle.ei_acts.proofs.laws.telling_steadily.Goals as goal

pub returns : goal.returns
returns c = record {
  resumed = resumed_steady;
  paused = paused_steady;
  start_emulating = start_steady;
  stop_emulating = stop_steady;
  frame = frame_steady;
  invalid_object = invalid_steady;
  input = input_steady;
  test = input_by_test;
}
