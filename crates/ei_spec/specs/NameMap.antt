-- What interfaces have, as a map from the bytes of their names.
use Rattle.std.specs.Prelude.{ℕ, List, Option}
use Rattle.std.specs.Option.{option_map}
use Rattle.std.specs.List.{filter_map}
use Rattle.std.specs.Ordering.{nat_cmp}
use Rattle.std.specs.Cmp.Lexicographic.{slice_cmp}
use Rattle.std.specs.FinMap as finite
use Rattle.ei_spec.specs.declared.interface.KnownInterface.{KnownInterface}
use Rattle.ei_spec.specs.Interface.{name_of}

-- numbers by the bytes of names
abbrev pub NameMap : Type 0
NameMap = finite.FinMap (slice_cmp nat_cmp) ℕ

-- the name of an interface and what it has, where it has anything
abbrev pub entry_of : (KnownInterface → Option ℕ) → KnownInterface → Option (List ℕ × ℕ)
entry_of values interface = option_map (λ v. (name_of interface, v)) (values interface)

-- what these interfaces have, by their names
unfoldable pub map_of : (KnownInterface → Option ℕ) → List KnownInterface → NameMap
map_of values interfaces = finite.from_entries (filter_map (entry_of values) interfaces)
