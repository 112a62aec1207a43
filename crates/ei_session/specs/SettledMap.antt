-- The versions that a handshake settles, as a map.
use Rattle.std.specs.Prelude.{List}
use Rattle.ei_spec.specs.Interface.{the_settled}
use Rattle.ei_spec.specs.NameMap.{NameMap, map_of}
use Rattle.ei_spec.specs.Message.{Raw}
use Rattle.ei_session.specs.Handshake.{settled}

-- versions by the bytes of names
abbrev pub Versions : Type 0
Versions = NameMap

-- the versions that both ends have of the interfaces that a handshake settles; its own isn't one of them, whatever is announced
unfoldable pub settled_map : List Raw → Versions
settled_map before = map_of (settled before) the_settled
