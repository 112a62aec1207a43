-- The input that a flat request says.
use Rattle.std.specs.Prelude.{ℕ, ◌%◌, ◌==◌, Bool, true, false, List, get_or, Option, Some, None, if◌then◌else◌}
use Rattle.std.specs.Option.{option_map}
use Rattle.std.specs.Int.{cast_signed, w32}
use Rattle.std.specs.Str.{is_utf8}
use Rattle.ei_wire.specs.declared.arg.RawFloat.{RawFloat}
use Rattle.ei_types.specs.declared.enums.ButtonState.{ButtonState}
use Rattle.ei_types.specs.declared.enums.ButtonState.TheVariants as button
use Rattle.ei_types.specs.declared.enums.KeyState.{KeyState}
use Rattle.ei_types.specs.declared.enums.KeyState.TheVariants as key
use Rattle.ei_input.specs.declared.input_event.InputEvent.{InputEvent}
use Rattle.ei_input.specs.declared.input_event.InputEvent.TheVariants as input
use Rattle.reis_c.specs.declared.flat.ReisRequest.{ReisRequest}

-- 1 is down and 0 is up; no other number is a state
abbrev pub button_state : ℕ → Option ButtonState
button_state n = if n == 0 then Some button.Released else (if n == 1 then Some button.Press else None)

abbrev pub key_state : ℕ → Option KeyState
key_state n = if n == 0 then Some key.Released else (if n == 1 then Some key.Press else None)

-- 1 is meant and 0 isn't
abbrev pub is_meant : ℕ → Option Bool
is_meant n = if n == 0 then Some false else (if n == 1 then Some true else None)

-- both numbers are such ones
abbrev pub both : {T : Type 0} → (Bool → Bool → T) → Option Bool → Option Bool → Option T
both f (Some x) (Some y) = Some (f x y)
both f x y = None

-- a number of this form
abbrev pub raw : ℕ → RawFloat
raw n = record { 0 = n }

-- the text of some bytes, where it is one
abbrev pub text_input : List ℕ → Option InputEvent
text_input bytes = if is_utf8 bytes then Some (input.TextUtf8 bytes) else None

-- the input of each kind that is one and has no text, of its first three fields
abbrev pub input_of : ℕ → ℕ → ℕ → ℕ → Option InputEvent
input_of kind a b c =
    if kind == 9 then Some (input.PointerMotion (raw a) (raw b))
    else (if kind == 10 then Some (input.PointerMotionAbsolute (raw a) (raw b))
    else (if kind == 11 then option_map (λ s. input.Button a s) (button_state b)
    else (if kind == 12 then Some (input.ScrollDelta (raw a) (raw b))
    else (if kind == 13 then both input.ScrollStop (is_meant a) (is_meant b)
    else (if kind == 14 then both input.ScrollCancel (is_meant a) (is_meant b)
    else (if kind == 15 then Some (input.ScrollDiscrete (cast_signed w32 a) (cast_signed w32 b))
    else (if kind == 16 then option_map (λ s. input.KeyboardKey a s) (key_state b)
    else (if kind == 17 then Some (input.TouchDown a (raw b) (raw c))
    else (if kind == 18 then Some (input.TouchMotion a (raw b) (raw c))
    else (if kind == 19 then Some (input.TouchUp a)
    else (if kind == 20 then Some (input.TouchCancel a)
    else (if kind == 21 then option_map (λ s. input.TextKeysym a s) (key_state b)
    else (if kind == 23 then Some (input.GestureSwipe a (raw b) (raw c))
    else (if kind == 24 then Some (input.GesturePinch (raw a))
    else None))))))))))))))

-- the low four bytes of a field: the other ones aren't read
abbrev pub low : List ℕ → ℕ → ℕ
low fields i = get_or fields i 0 % 4294967296

-- the input that a flat request and its text say
abbrev pub input_in : ReisRequest → List ℕ → Option InputEvent
input_in r text = if r.kind == 22 then text_input text else input_of r.kind (low r.fields 0) (low r.fields 1) (low r.fields 2)
