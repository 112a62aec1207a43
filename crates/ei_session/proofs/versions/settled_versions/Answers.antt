use Rattle.ei_session.proofs.SettledMapLaws.{get_settled, get_handshake, get_unknown, only_map, first_map, announced_map, handshake_map, unknown_map, other_map}
use Rattle.ei_session.proofs.SettledMapLaws.{connected_map}
use Rattle.ei_session.proofs.versions.settled_versions.Goals as goal

pub returns : goal.returns
returns c = record {
  settled = get_settled;
  handshake = get_handshake;
  unknown = get_unknown;
  only = only_map;
  first = first_map;
  announced = announced_map;
  of_handshake = handshake_map;
  of_unknown = unknown_map;
  other = other_map;
  connected = connected_map;
}
