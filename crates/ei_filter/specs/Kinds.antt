-- What an item is to a filter.
use Rattle.std.specs.Prelude.{ℕ, Bool, false, Option, Some, None, ◌==◌, if◌then◌else◌}
use Rattle.ei_spec.specs.Groups.{Timed, Framed, Plain as Given}
use Rattle.ei_input.specs.declared.input_event.InputEvent.{InputEvent}
use Rattle.ei_input.specs.declared.input_event.InputEvent.TheVariants as input_event
use Rattle.ei_session.specs.Requests.{Request}
use Rattle.ei_filter.specs.declared.kind.Kind.{Kind}
use Rattle.ei_filter.specs.declared.kind.Kind.TheVariants as kinds
use Rattle.ei_filter.specs.declared.kind.Touch.{Touch}
use Rattle.ei_filter.specs.declared.kind.Touch.TheVariants as touches

-- what an input does to a touch
abbrev pub touch_of : InputEvent → Touch
touch_of (input_event.TouchDown touch x y) = touches.Begin touch
touch_of (input_event.TouchMotion touch x y) = touches.Move touch
touch_of (input_event.TouchUp touch) = touches.End touch
touch_of (input_event.TouchCancel touch) = touches.End touch
touch_of input = touches.Nothing

abbrev pub kind_of : Request → Kind
kind_of (Timed device input time) = kinds.Input device (touch_of input)
kind_of (Framed device serial time) = kinds.Frame device time
kind_of (Given y) = kinds.Other

-- the item, at another time where it has one
abbrev pub at_time : ℕ → Request → Request
at_time time (Timed device input was) = Timed device input time
at_time time (Framed device serial was) = Framed device serial time
at_time time (Given y) = Given y

-- whether it is an input of the device
abbrev pub is_input_of : ℕ → Kind → Bool
is_input_of device (kinds.Input d touch) = d == device
is_input_of device kind = false

-- the time of a frame of the device
abbrev pub frame_time : ℕ → Kind → Option ℕ
frame_time device (kinds.Frame d time) = if d == device then Some time else None
frame_time device kind = None
