-- The versions of a handshake: a map from the bytes of names.
use Rattle.std.specs.Prelude.{String, ◌≡◌, ℕ, List, [], ◌∷◌, length, map, Option, None, slice_index_or}
use Rattle.std.specs.FinMap as finite
use Rattle.std.specs.Coded.{Coded, coded_ℕ, coded_list}
use Rattle.std.specs.String.{string_bytes}
use Rattle.std.specs.BTreeMap.{BTreeMap, get_by_text}
use Rattle.ei_spec.specs.declared.interface.KnownInterface.{KnownInterface}
use Rattle.ei_spec.specs.declared.limits.TheConstants.{INTERFACES}
use Rattle.ei_spec.specs.Interface.{place_of, name_of, the_interfaces}
use Rattle.ei_spec.specs.NameMap.{NameMap, map_of}

abbrev pub VersionMap : Type 0
VersionMap = NameMap

abbrev pub version_code : Coded VersionMap
version_code = finite.code (coded_list coded_ℕ) coded_ℕ

-- the version of an interface, where versions stand in a row, one for each interface
abbrev pub version_at : List (Option ℕ) → KnownInterface → Option ℕ
version_at versions interface = slice_index_or versions (place_of interface) None

-- the versions by names
abbrev pub by_name : List (Option ℕ) → VersionMap
by_name versions = map_of (version_at versions) the_interfaces

-- the versions of these names, put to others
abbrev pub with_names : {Y : Type 0} → List (String Y × ℕ) → VersionMap → VersionMap
with_names [] versions = versions
with_names (x ∷ xs) versions = finite.insert (with_names xs versions) (string_bytes x.0) x.1

-- a place for each interface, and behind them the versions of other names
pub record IsKept {Y : Type 0} (versions : List (Option ℕ)) (others : BTreeMap (String Y) ℕ) : Type 0 where
  pub places : length versions ≡ INTERFACES
  pub unknown : (i : KnownInterface) → get_by_text others (name_of i) ≡ None
