use Rattle.ei_acts.proofs.Quiet.{reads_quiet, unchanged_quiet}
use Rattle.ei_acts.proofs.laws.resting.Goals as goal

pub returns : goal.returns
returns c = record {
  reads = reads_quiet;
  unchanged = unchanged_quiet;
}
