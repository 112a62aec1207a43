use Rattle.ei_steady.proofs.Names.{names_differ}
use Rattle.ei_steady.proofs.Comes.{seat_comes, device_comes}
use Rattle.ei_steady.proofs.laws.coming.Goals as goal

pub returns : goal.returns
returns c = record {
  names = names_differ;
  seat_comes = seat_comes;
  device_comes = device_comes;
}
