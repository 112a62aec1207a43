-- What the rules of the tests let through.
use Rattle.std.specs.Prelude.{ℕ, Bool, true, false, not, ◌==◌}
use Rattle.ei_spec.specs.Groups.{Timed}
use Rattle.ei_input.specs.declared.input_event.InputEvent.TheVariants as input_event
use Rattle.ei_session.specs.Requests.{Request}

-- all but the begin of that touch
abbrev pub no_down : ℕ → Request → Bool
no_down touch (Timed device (input_event.TouchDown t x y) time) = not (t == touch)
no_down touch item = true

-- all but the end of any touch
abbrev pub no_up : Request → Bool
no_up (Timed device (input_event.TouchUp touch) time) = false
no_up item = true
