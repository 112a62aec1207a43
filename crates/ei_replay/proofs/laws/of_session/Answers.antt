use Rattle.std.proofs.Common.{◌∙◌, ap}
use Rattle.ei_record.specs.Replayable.{first_wrong}
use Rattle.ei_record.proofs.Law.{handed_out}
use Rattle.ei_replay.proofs.OfServe.{of_serve}
use Rattle.ei_replay.proofs.laws.of_session.Goals as goal

pub returns : goal.returns
returns c = record {
  asks = of_serve;
  right = λ setup stream readings h. ap (first_wrong setup) (of_serve setup stream readings h) ∙ handed_out setup stream readings h;
}
