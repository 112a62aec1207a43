-- What the rule of a caller lets through.
use Rattle.std.specs.Prelude.{Bool, true, false}
use Rattle.ei_spec.specs.Groups.{Timed}
use Rattle.ei_input.specs.declared.input_event.InputEvent.TheVariants as input_event
use Rattle.ei_session.specs.Requests.{Request}

-- all but text
abbrev pub no_text : Request → Bool
no_text (Timed device (input_event.TextUtf8 letters) time) = false
no_text (Timed device (input_event.TextKeysym keysym state) time) = false
no_text item = true
