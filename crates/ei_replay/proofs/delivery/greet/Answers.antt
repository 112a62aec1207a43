use Rattle.ei_replay.proofs.Opening.{first_there, greeted}
use Rattle.ei_replay.proofs.delivery.greet.Goals as goal

pub shake_hands-requires : goal.shake_hands-requires
shake_hands-requires c = first_there c.in_ok-client.client c.in_ok-client.ensures

pub returns : goal.returns
returns c = greeted c.in_ok-client.client c.shake_hands.new.client c.in_ok-client.ensures c.in_ok-shake_hands.ensures
