use Rattle.ei_pair.proofs.Done.{new_done}
use Rattle.ei_pair.proofs.DoneCalls.{does_done, asks_done, same_ends_done, event_out_done, request_out_done}
use Rattle.ei_pair.proofs.by_lists.calls_by_lists.Goals as goal

pub returns : goal.returns
returns g c = record {
  begins = λ name kind serial p n. new_done name kind serial p n;
  does = λ p new s result d t. does_done p new s result d t;
  asks = λ p new s result d t. asks_done p new s result d t;
  moves = λ p w same t. same_ends_done p w same t;
  event = λ p t. event_out_done p t;
  request = λ p t. request_out_done p t;
}
