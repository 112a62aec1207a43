-- Which touches have begun, among what passed.
use Rattle.std.specs.Prelude.{ℕ, Bool, false, ◌&&◌, List, [], ◌∷◌, ◌++◌, Option, Some, None}
use Rattle.std.specs.Coded.{Coded, coded×, coded_ℕ, coded_bool, coded_list}
use Rattle.ei_keyed.specs.Keyed.{keyed, with_value}
use Rattle.ei_filter.specs.declared.kind.Touch.{Touch}
use Rattle.ei_filter.specs.declared.kind.Touch.TheVariants as touches

abbrev pub touches_code : Coded (List (ℕ × Bool))
touches_code = coded_list (coded× coded_ℕ coded_bool)

abbrev pub or_false : Option Bool → Bool
or_false (Some b) = b
or_false None = false

-- whether the last begin of the touch passed, of the touches of a device
abbrev pub touch_in : ℕ → List (ℕ × Bool) → Bool
touch_in touch ts = or_false (keyed touch ts)

abbrev pub touch_among : ℕ → Option (List (ℕ × Bool)) → Bool
touch_among touch (Some ts) = touch_in touch ts
touch_among touch None = false

-- the same, of a device
abbrev pub begun_in : ℕ → ℕ → List (ℕ × List (ℕ × Bool)) → Bool
begun_in device touch devices = touch_among touch (keyed device devices)

-- whether an input passes that stands in a group, where the rules let it through or not
abbrev pub passes_as : Touch → Bool → (ℕ → Bool) → Bool
passes_as (touches.End touch) is_let begun = begun touch
passes_as (touches.Move touch) is_let begun = begun touch && is_let
passes_as (touches.Begin touch) is_let begun = is_let
passes_as touches.Nothing is_let begun = is_let

-- the touches of a device after a begin
abbrev pub put_touch : ℕ → Bool → Option Bool → List (ℕ × Bool) → List (ℕ × Bool)
put_touch touch passes (Some was) ts = with_value touch ts passes
put_touch touch passes None ts = ts ++ (touch, passes) ∷ []

abbrev pub with_touch : ℕ → Bool → List (ℕ × Bool) → List (ℕ × Bool)
with_touch touch passes ts = put_touch touch passes (keyed touch ts) ts

abbrev pub put_begin :
    ℕ → ℕ → Bool → Option (List (ℕ × Bool)) → List (ℕ × List (ℕ × Bool)) → List (ℕ × List (ℕ × Bool))
put_begin device touch passes (Some ts) devices = with_value device devices (with_touch touch passes ts)
put_begin device touch passes None devices = devices ++ (device, with_touch touch passes []) ∷ []

-- the touches of each device after a begin, and after an input
abbrev pub with_begin : ℕ → ℕ → Bool → List (ℕ × List (ℕ × Bool)) → List (ℕ × List (ℕ × Bool))
with_begin device touch passes devices = put_begin device touch passes (keyed device devices) devices

abbrev pub after_input : ℕ → Touch → Bool → List (ℕ × List (ℕ × Bool)) → List (ℕ × List (ℕ × Bool))
after_input device (touches.Begin touch) passes devices = with_begin device touch passes devices
after_input device touch passes devices = devices
