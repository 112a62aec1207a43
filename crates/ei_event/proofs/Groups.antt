-- A group is its first inputs, its last one, and the frame.
use Rattle.std.proofs.Common.{◌≡◌, ℕ, List, [], ◌∷◌, ◌++◌, refl, ap}
use Rattle.std.specs.Prelude.{map}
use Rattle.ei_input.specs.declared.input_event.InputEvent.{InputEvent}
use Rattle.ei_event.specs.Keys.{DeviceKey}
use Rattle.ei_event.specs.declared.event.EiEvent.{EiEvent}
use Rattle.ei_event.specs.declared.event.EiEvent.TheVariants as told
use Rattle.ei_event.specs.Event.{timed}
use Rattle.ei_event.specs.Handling.{group_events}

ended : (device : DeviceKey) (time : ℕ) (xs : List InputEvent) (i : InputEvent) (e : EiEvent) →
    map (timed device time) (xs ++ i ∷ []) ++ e ∷ [] ≡ map (timed device time) xs ++ (timed device time i ∷ e ∷ [])
ended device time [] i e = refl
ended device time (x ∷ xs) i e = ap (λ (more : List EiEvent). timed device time x ∷ more) (ended device time xs i e)

pub group_ends : (device : DeviceKey) (serial time : ℕ) (xs : List InputEvent) (i : InputEvent) →
    group_events device (xs ++ i ∷ []) serial time
    ≡ map (timed device time) xs ++ (timed device time i ∷ told.Frame (record { device = device; serial = serial; time = time }) ∷ [])
group_ends device serial time [] i = refl
group_ends device serial time (x ∷ xs) i = ended device time (x ∷ xs) i (told.Frame (record { device = device; serial = serial; time = time }))
