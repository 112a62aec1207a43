-- What a client's converter keeps, where each device stands under its own id.
use Rattle.std.specs.Prelude.{◌≡◌, ℕ, IfSome}
use Rattle.std.specs.FinMap as finite
use Rattle.ei_event.specs.Kept.{KeptView}

-- each device stands under its own id
abbrev pub IsPlaced : KeptView → Type 0
IsPlaced c = (id : ℕ) → IfSome (finite.get c.devices id) (λ d. d.device.proxy.id ≡ id)
