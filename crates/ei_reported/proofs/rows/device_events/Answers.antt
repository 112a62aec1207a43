use Rattle.std.proofs.Common.{refl}
use Rattle.ei_reported.proofs.AllOpen.{all_open}
use Rattle.ei_reported.proofs.rows.device_events.Goals as goal

pub returns : goal.returns
unfolding all_open
returns c = record {
  destroyed = λ id serial. refl;
  name = λ id t. refl;
  device_type = λ id n. refl;
  dimensions = λ id width height. refl;
  region = λ id x y width height scale. refl;
  interface = λ id object version t. refl;
  done = λ id. refl;
  resumed = λ id serial. refl;
  paused = λ id serial. refl;
  start_emulating = λ id serial sequence. refl;
  stop_emulating = λ id serial. refl;
  frame = λ id serial time. refl;
  region_mapping_id = λ id t. refl;
}
