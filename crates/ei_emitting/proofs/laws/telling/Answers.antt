use Rattle.ei_emitting.proofs.Carrying as carrying
use Rattle.ei_emitting.proofs.Sending.{inputs}
use Rattle.ei_emitting.proofs.laws.telling.Goals as goal

pub returns : goal.returns
returns c = record {
  starts = carrying.starts;
  stops = carrying.stops;
  pauses = carrying.pauses;
  resumes = carrying.resumes;
  frames = carrying.frames;
  inputs = inputs;
}
