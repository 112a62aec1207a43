use Rattle.ei_session.proofs.Completing.{complete_ends, needed_some, needed_all}
use Rattle.ei_session.proofs.completeness.complete_pieces.Goals as goal

pub returns : goal.returns
returns c = record {
  good = λ setup pieces h. (complete_ends setup pieces h).good;
  handled = λ setup pieces h. (complete_ends setup pieces h).handled;
  disconnect = needed_some;
  none = needed_all;
}
