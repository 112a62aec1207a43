use Rattle.reis_alike.proofs.RunLaws.{goes_on, ended, input_ends}
use Rattle.reis_alike.proofs.GivingUp.{exhausted}
use Rattle.reis_alike.proofs.laws.runs.Goals as goal

pub returns : goal.returns
returns c = record {
  going = goes_on;
  ended = λ setup came out written e how lawful small room r. ended setup came out written e lawful small room r how;
  exhausted = λ setup came c out handed written e. exhausted setup came c out handed written e;
  input_ends = input_ends;
}
