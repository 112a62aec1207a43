-- What a request does with the input of a device.
use Rattle.std.specs.Prelude.{Bool, true, false, Option, Some, None}
use Rattle.ei_types.specs.declared.enums.ButtonState.{ButtonState}
use Rattle.ei_types.specs.declared.enums.ButtonState.TheVariants as button_state
use Rattle.ei_types.specs.declared.enums.KeyState.{KeyState}
use Rattle.ei_types.specs.declared.enums.KeyState.TheVariants as key_state
use Rattle.ei_request.specs.Keys.{DeviceKey}
use Rattle.ei_request.specs.Event.{device_in}
use Rattle.ei_request.specs.declared.event.EisRequest.{EisRequest}
use Rattle.ei_request.specs.declared.event.EisRequest.TheVariants as asked
use Rattle.reis_strict.specs.declared.act.Act.{Act}
use Rattle.reis_strict.specs.declared.act.Deed.{Deed}
use Rattle.reis_strict.specs.declared.act.Deed.TheVariants as deed
use Rattle.reis_strict.specs.declared.act.Kind.TheVariants as kind

-- whether it goes down
abbrev pub key_goes_down : KeyState → Bool
key_goes_down key_state.Press = true
key_goes_down key_state.Released = false

abbrev pub button_goes_down : ButtonState → Bool
button_goes_down button_state.Press = true
button_goes_down button_state.Released = false

-- a deed on a device, by its id
abbrev pub act_on : DeviceKey → Deed → Option Act
act_on device what = Some (record { device = device.proxy.id; deed = what })

-- a frame, or an input that is of no key and no button
abbrev pub input_on : Option DeviceKey → Option Act
input_on None = None
input_on (Some device) = act_on device deed.Input

-- what a request does, if it is a start, a stop, a frame or an input; no other does anything
abbrev pub act_of : EisRequest → Option Act
act_of asked.Disconnect = None
act_of (asked.Bind r) = None
act_of (asked.RequestDevice r) = None
act_of (asked.DeviceClosed r) = None
act_of (asked.Ready r) = None
act_of (asked.DeviceStartEmulating r) = act_on r.device deed.Start
act_of (asked.DeviceStopEmulating r) = act_on r.device deed.Stop
act_of (asked.KeyboardKey r) = act_on r.device (deed.Turn (record { kind = kind.Key; code = r.key; down = key_goes_down r.state }))
act_of (asked.Button r) = act_on r.device (deed.Turn (record { kind = kind.Button; code = r.button; down = button_goes_down r.state }))
act_of r = input_on (device_in r)
