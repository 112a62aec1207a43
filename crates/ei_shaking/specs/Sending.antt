-- What the versions of a handshake are.
use Rattle.std.specs.Prelude.{◌≡◌, ℕ, ◌<◌, ◌^◌, List, Some}
use Rattle.std.specs.FinMap as finite
use Rattle.ei_spec.specs.NameMap.{NameMap}

-- each version is a number of four bytes
abbrev pub AreVersions : NameMap → Type 0
AreVersions versions = (name : List ℕ) (version : ℕ) → finite.get versions name ≡ Some version → version < 2 ^ 32
