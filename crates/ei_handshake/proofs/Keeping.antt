-- What a handshaker keeps of an announcement.
use Rattle.std.proofs.Common.{◌≡◌, ℕ, min, List, Some, sym, ap, ◌∙◌}
use Rattle.std.specs.FinMap as finite
use Rattle.ei_spec.specs.declared.interface.KnownInterface.{KnownInterface}
use Rattle.ei_spec.specs.Interface.{name_of, known_of}
use Rattle.ei_handshake.specs.Versions.{VersionMap}
use Rattle.ei_handshake.specs.Handshaker.{settled_version, kept_at, kept_of, with_version}
use Rattle.ei_spec.proofs.NameLaws.{called}

-- the smaller version of a name that the handshake settles
pub kept_known : (versions : VersionMap) (name : List ℕ) (version : ℕ) (interface : KnownInterface) (own : ℕ) → known_of name ≡ Some interface → settled_version interface ≡ Some own →
    finite.insert versions (name_of interface) (min own version) ≡ with_version versions name version
kept_known versions name version interface own known settled =
    ap (λ (x : List ℕ). finite.insert versions x (min own version)) (sym (called name interface known))
    ∙ sym (ap (kept_of versions name version) known ∙ ap (kept_at versions name version) settled)
