-- The interfaces that a handshake settles, with their versions.
use Rattle.std.specs.Prelude.{ℕ, List, map}
use Rattle.ei_spec.specs.declared.interface.KnownInterface.{KnownInterface}
use Rattle.ei_spec.specs.Interface.{name_of, server_version, the_settled}

-- each with its version, in the order of the list
abbrev pub versions : List (KnownInterface × ℕ)
versions = map (λ interface. (interface, server_version interface)) the_settled

-- their names with their versions, in that order
abbrev pub named_versions : List (List ℕ × ℕ)
named_versions = map (λ interface. (name_of interface, server_version interface)) the_settled
