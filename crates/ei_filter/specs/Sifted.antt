-- What passes a filter.
use Rattle.std.specs.Prelude.{ℕ, ◌+◌, Bool, true, false, ◌&&◌, ◌||◌, List, [], ◌∷◌, ◌==◌, if◌then◌else◌, slice_index}
use Rattle.std.specs.List.{list_all}
use Rattle.ei_spec.specs.Groups.{Timed, Framed, Plain as Given}
use Rattle.ei_input.specs.declared.input_event.InputEvent.{InputEvent}
use Rattle.ei_input.specs.declared.input_event.InputEvent.TheVariants as input_event
use Rattle.ei_session.specs.Requests.{Request}

-- A rule's test of requests, where it is enabled.
abbrev pub Test : Type 0
Test = Request → Bool

-- every enabled rule lets it through
abbrev pub is_let : List Test → Request → Bool
is_let tests item = list_all (λ test. test item) tests

-- ---- groups

-- whether the frame of the group that an input of the device is in comes behind it: nothing but inputs of the device lies between
unfoldable pub is_framed : ℕ → List Request → Bool
is_framed device [] = false
is_framed device (Timed d input time ∷ later) = d == device && is_framed device later
is_framed device (Framed d serial time ∷ later) = d == device
is_framed device (Given y ∷ later) = false

-- ---- what passes

-- whether the item is a begin of that touch of the device
abbrev pub begins : ℕ → ℕ → Request → Bool
begins device touch (Timed d (input_event.TouchDown t x y) time) = d == device && t == touch
begins device touch item = false

-- whether an input passes, where the last begin of its touch passed or not
abbrev pub passes_with : List Test → (ℕ → Bool) → Request → Bool
passes_with tests begun (Timed device (input_event.TouchUp touch) time) = begun touch
passes_with tests begun (Timed device (input_event.TouchCancel touch) time) = begun touch
passes_with tests begun (Timed device (input_event.TouchMotion touch x y) time) = begun touch && is_let tests (Timed device (input_event.TouchMotion touch x y) time)
passes_with tests begun item = is_let tests item

-- A begin is let or not, and stands in a group or not; it doesn't rest on other begins. With what lies before and behind it:
-- the last begin of the touch of the device before an item.
unfoldable pub begun_of : List Test → ℕ → ℕ → List Request → List Request → Bool
begun_of tests device touch [] later = false
begun_of tests device touch (item ∷ before) later =
    if begins device touch item then is_let tests item && is_framed device later else begun_of tests device touch before (item ∷ later)

-- whether an input passes, behind those and before these
unfoldable pub input_passes : List Test → List Request → ℕ → InputEvent → ℕ → List Request → Bool
input_passes tests before device input time later =
    is_framed device later && passes_with tests (λ touch. begun_of tests device touch before (Timed device input time ∷ later)) (Timed device input time)

-- whether an input of the group passes, the newest first; behind them come these
unfoldable pub some_passes : List Test → ℕ → List Request → List Request → Bool
some_passes tests device [] later = false
some_passes tests device (Timed d input time ∷ before) later =
    d == device && (input_passes tests before device input time later || some_passes tests device before (Timed d input time ∷ later))
some_passes tests device (Framed d serial time ∷ before) later = false
some_passes tests device (Given y ∷ before) later = false

-- whether an item passes
unfoldable pub passes : List Test → List Request → Request → List Request → Bool
passes tests before (Timed device input time) later = input_passes tests before device input time later
passes tests before (Framed device serial time) later = some_passes tests device before (Framed device serial time ∷ later)
passes tests before (Given y) later = true

-- ---- times

-- the frame and its inputs bear a new time: the item, at the time of that number
abbrev pub timed_by : List ℕ → ℕ → Request → Request
timed_by times k (Timed device input time) = Timed device input (slice_index times k)
timed_by times k (Framed device serial time) = Framed device serial (slice_index times k)
timed_by times k (Given y) = Given y

-- one more, behind a frame
abbrev pub count_frame : ℕ → Request → ℕ
count_frame k (Framed device serial time) = k + 1
count_frame k item = k

-- the item, where it passes, and those behind it
abbrev pub kept : Bool → Request → List Request → List Request
kept true item items = item ∷ items
kept false item items = items

abbrev pub counted : Bool → ℕ → Request → ℕ
counted true k item = count_frame k item
counted false k item = k

-- the items that pass, where k frames passed before them
unfoldable pub sifted_from : List Test → List ℕ → ℕ → List Request → List Request → List Request
sifted_from tests times k before [] = []
sifted_from tests times k before (item ∷ later) =
    kept (passes tests before item later) (timed_by times k item) (sifted_from tests times (counted (passes tests before item later) k item) (item ∷ before) later)

-- what passes of these items, with these times of the frames that pass
abbrev pub sifted : List Test → List ℕ → List Request → List Request
sifted tests times items = sifted_from tests times 0 [] items
