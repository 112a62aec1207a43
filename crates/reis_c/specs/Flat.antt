-- A request as C reads it.
use Rattle.std.specs.Prelude.{ℕ, Bool, true, false, List, [], ◌∷◌, length, Option, Some, None}
use Rattle.std.specs.Int.{cast_unsigned, w32}
use Rattle.ei_spec.specs.Interface.{ObjectView}
use Rattle.ei_types.specs.declared.capability.DeviceCapabilities.{DeviceCapabilities}
use Rattle.ei_types.specs.Capability.{bits_of}
use Rattle.ei_types.specs.Enums.{button_state_number, key_state_number}
use Rattle.ei_request.specs.Keys.{DeviceKey}
use Rattle.ei_request.specs.declared.event.EisRequest.{EisRequest}
use Rattle.ei_request.specs.declared.event.EisRequest.TheVariants as request
use Rattle.reis_eis.specs.declared.notice.Notice.{Notice}
use Rattle.reis_eis.specs.declared.notice.Notice.TheVariants as notice
use Rattle.reis_c.specs.declared.flat.ReisRequest.{ReisRequest}

-- a request to a seat: its fields are a set of capabilities
abbrev pub of_seat : ℕ → ObjectView → DeviceCapabilities → ReisRequest
of_seat kind seat capabilities =
    record { kind = kind; seat = seat.id; device = 0; time = 0; fields = bits_of capabilities ∷ 0 ∷ 0 ∷ 0 ∷ [] }

-- a request to a device of a seat, with its time and its fields
abbrev pub of_device : ℕ → DeviceKey → ℕ → List ℕ → ReisRequest
of_device kind device time fields =
    record { kind = kind; seat = device.seat.id; device = device.proxy.id; time = time; fields = fields }

-- 1 where it is so
abbrev pub truth : Bool → ℕ
truth true = 1
truth false = 0

-- the fields of a request, and zeros behind them
abbrev pub none : List ℕ
none = 0 ∷ 0 ∷ 0 ∷ 0 ∷ []

abbrev pub one : ℕ → List ℕ
one a = a ∷ 0 ∷ 0 ∷ 0 ∷ []

abbrev pub two : ℕ → ℕ → List ℕ
two a b = a ∷ b ∷ 0 ∷ 0 ∷ []

abbrev pub three : ℕ → ℕ → ℕ → List ℕ
three a b c = a ∷ b ∷ c ∷ 0 ∷ []

-- each request: the number of its kind, what it is about, and its fields in the order of the header
abbrev pub flat : EisRequest → ReisRequest
flat request.Disconnect = record { kind = 1; seat = 0; device = 0; time = 0; fields = none }
flat (request.Bind r) = of_seat 2 r.seat r.capabilities
flat (request.DeviceClosed r) = of_device 3 r.device 0 none
flat (request.RequestDevice r) = of_seat 4 r.seat r.capabilities
flat (request.Frame r) = of_device 5 r.device r.time (one r.last_serial)
flat (request.Ready r) = of_device 6 r.device 0 none
flat (request.DeviceStartEmulating r) = of_device 7 r.device 0 (two r.last_serial r.sequence)
flat (request.DeviceStopEmulating r) = of_device 8 r.device 0 (one r.last_serial)
flat (request.PointerMotion r) = of_device 9 r.device r.time (two r.dx.0 r.dy.0)
flat (request.PointerMotionAbsolute r) = of_device 10 r.device r.time (two r.dx_absolute.0 r.dy_absolute.0)
flat (request.Button r) = of_device 11 r.device r.time (two r.button (button_state_number r.state))
flat (request.ScrollDelta r) = of_device 12 r.device r.time (two r.dx.0 r.dy.0)
flat (request.ScrollStop r) = of_device 13 r.device r.time (two (truth r.x) (truth r.y))
flat (request.ScrollCancel r) = of_device 14 r.device r.time (two (truth r.x) (truth r.y))
flat (request.ScrollDiscrete r) =
    of_device 15 r.device r.time (two (cast_unsigned w32 r.discrete_dx) (cast_unsigned w32 r.discrete_dy))
flat (request.KeyboardKey r) = of_device 16 r.device r.time (two r.key (key_state_number r.state))
flat (request.TouchDown r) = of_device 17 r.device r.time (three r.touch_id r.x.0 r.y.0)
flat (request.TouchMotion r) = of_device 18 r.device r.time (three r.touch_id r.x.0 r.y.0)
flat (request.TouchUp r) = of_device 19 r.device r.time (one r.touch_id)
flat (request.TouchCancel r) = of_device 20 r.device r.time (one r.touch_id)
flat (request.TextKeysym r) = of_device 21 r.device r.time (two r.keysym (key_state_number r.state))
flat (request.TextUtf8 r) = of_device 22 r.device r.time (one (length r.text))
flat (request.GestureSwipe r) = of_device 23 r.device r.time (three r.fingers r.dx.0 r.dy.0)
flat (request.GesturePinch r) = of_device 24 r.device r.time (one r.scale.0)

-- what else a connection hands out: that its handshake is done, and each notice
abbrev pub of_connected : ReisRequest
of_connected = record { kind = 25; seat = 0; device = 0; time = 0; fields = none }

abbrev pub of_notice : Notice → ReisRequest
of_notice (notice.SeatReleased seat) = record { kind = 26; seat = seat; device = 0; time = 0; fields = none }
of_notice (notice.Pong ping callback_data) = record { kind = 27; seat = 0; device = 0; time = 0; fields = two ping callback_data }

-- the text that a request bears, if it bears one
abbrev pub text_in : EisRequest → Option (List ℕ)
text_in (request.TextUtf8 r) = Some r.text
text_in other = None
