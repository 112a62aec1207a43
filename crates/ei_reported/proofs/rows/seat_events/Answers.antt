use Rattle.std.proofs.Common.{refl}
use Rattle.ei_reported.proofs.AllOpen.{all_open}
use Rattle.ei_reported.proofs.rows.seat_events.Goals as goal

pub returns : goal.returns
unfolding all_open
returns c = record {
  destroyed = λ id serial. refl;
  name = λ id t. refl;
  capability = λ id mask t. refl;
  done = λ id. refl;
  device = λ id device version. refl;
}
