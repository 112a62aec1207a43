-- The numbers of the enums on the wire, and their names: that of the type, and that of the value.
use Rattle.std.specs.Prelude.{ℕ, ◌≤◌, ◌<◌, ◌^◌, ◌==◌, if◌then◌else◌, List, codes}
use Rattle.ei_types.specs.declared.enums.ContextType.{ContextType}
use Rattle.ei_types.specs.declared.enums.ContextType.TheVariants as context
use Rattle.ei_types.specs.declared.enums.DisconnectReason.{DisconnectReason}
use Rattle.ei_types.specs.declared.enums.DisconnectReason.TheVariants as reason
use Rattle.ei_types.specs.declared.enums.DeviceType.{DeviceType}
use Rattle.ei_types.specs.declared.enums.DeviceType.TheVariants as device
use Rattle.ei_types.specs.declared.enums.ButtonState.{ButtonState}
use Rattle.ei_types.specs.declared.enums.ButtonState.TheVariants as button
use Rattle.ei_types.specs.declared.enums.KeyState.{KeyState}
use Rattle.ei_types.specs.declared.enums.KeyState.TheVariants as key
use Rattle.ei_types.specs.declared.enums.KeymapType.{KeymapType}
use Rattle.ei_types.specs.declared.enums.KeymapType.TheVariants as keymap

-- the number of a context type
abbrev pub context_type_number : ContextType → ℕ
context_type_number context.Receiver = 1
context_type_number context.Sender = 2

-- the number of a reason to end a connection
abbrev pub disconnect_reason_number : DisconnectReason → ℕ
disconnect_reason_number reason.Disconnected = 0
disconnect_reason_number reason.Error = 1
disconnect_reason_number reason.Mode = 2
disconnect_reason_number reason.Protocol = 3
disconnect_reason_number reason.Value = 4
disconnect_reason_number reason.Transport = 5
disconnect_reason_number (reason.Other number) = number

-- the reason of a number: from 6 on it has no name
abbrev pub reason_of : ℕ → DisconnectReason
reason_of number =
    if number == 0 then reason.Disconnected else
    (if number == 1 then reason.Error else
    (if number == 2 then reason.Mode else
    (if number == 3 then reason.Protocol else
    (if number == 4 then reason.Value else
    (if number == 5 then reason.Transport else reason.Other number)))))

-- a reason without a name has the number of none with a name, and fits on the wire
abbrev pub IsReason : DisconnectReason → Type 0
IsReason (reason.Other number) = (6 ≤ number) × (number < 2 ^ 32)
IsReason named = Unit {0}

-- the number of a device type
abbrev pub device_type_number : DeviceType → ℕ
device_type_number device.Virtual = 1
device_type_number device.Physical = 2

-- the number of a state of a button
abbrev pub button_state_number : ButtonState → ℕ
button_state_number button.Released = 0
button_state_number button.Press = 1

-- the number of a state of a key
abbrev pub key_state_number : KeyState → ℕ
key_state_number key.Released = 0
key_state_number key.Press = 1

-- the number of a form of keymaps
abbrev pub keymap_type_number : KeymapType → ℕ
keymap_type_number keymap.Xkb = 1

-- the names of a context type
abbrev pub context_type_names : ContextType → List ℕ × List ℕ
context_type_names context.Receiver = (codes "context_type", codes "receiver")
context_type_names context.Sender = (codes "context_type", codes "sender")

-- the names of a reason to end a connection
abbrev pub disconnect_reason_names : DisconnectReason → List ℕ × List ℕ
disconnect_reason_names reason.Disconnected = (codes "disconnect_reason", codes "disconnected")
disconnect_reason_names reason.Error = (codes "disconnect_reason", codes "error")
disconnect_reason_names reason.Mode = (codes "disconnect_reason", codes "mode")
disconnect_reason_names reason.Protocol = (codes "disconnect_reason", codes "protocol")
disconnect_reason_names reason.Value = (codes "disconnect_reason", codes "value")
disconnect_reason_names reason.Transport = (codes "disconnect_reason", codes "transport")
disconnect_reason_names (reason.Other number) = (codes "disconnect_reason", codes "other")

-- the names of a device type
abbrev pub device_type_names : DeviceType → List ℕ × List ℕ
device_type_names device.Virtual = (codes "device_type", codes "virtual")
device_type_names device.Physical = (codes "device_type", codes "physical")

-- the names of a state of a button
abbrev pub button_state_names : ButtonState → List ℕ × List ℕ
button_state_names button.Released = (codes "button_state", codes "released")
button_state_names button.Press = (codes "button_state", codes "press")

-- the names of a state of a key
abbrev pub key_state_names : KeyState → List ℕ × List ℕ
key_state_names key.Released = (codes "key_state", codes "released")
key_state_names key.Press = (codes "key_state", codes "press")

-- the names of a form of keymaps
abbrev pub keymap_type_names : KeymapType → List ℕ × List ℕ
keymap_type_names keymap.Xkb = (codes "keymap_type", codes "xkb")
