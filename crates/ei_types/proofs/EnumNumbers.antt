-- An enum is its number: the number tells the value, and is read back.
use Rattle.std.proofs.Common.{◌≡◌, ℕ, ◌<◌, ◌≤◌, ◌^◌, Ok, refl, sym, ap, ◌∙◌, arith}
use Rattle.ei_spec.proofs.KindLaws.{written_again}
use Rattle.ei_spec.specs.Value.{Word, IsOf}
use Rattle.ei_spec.specs.Reading.{Unread, read}
use Rattle.ei_spec.specs.Spelling.{Follows}
use Rattle.ei_spec.specs.Table.{button_state, context_type, device_type, disconnect_reason, key_state, keymap_type}
use Rattle.ei_types.specs.Enums.{button_state_number, context_type_number, device_type_number, disconnect_reason_number, key_state_number, keymap_type_number}
use Rattle.ei_types.specs.Enums.{IsReason, reason_of}
use Rattle.ei_types.specs.declared.enums.ContextType.{ContextType}
use Rattle.ei_types.specs.declared.enums.ContextType.TheVariants as context
use Rattle.ei_types.specs.declared.enums.DisconnectReason.{DisconnectReason}
use Rattle.ei_types.specs.declared.enums.DisconnectReason.TheVariants as reason
use Rattle.ei_types.specs.declared.enums.DeviceType.{DeviceType}
use Rattle.ei_types.specs.declared.enums.DeviceType.TheVariants as device
use Rattle.ei_types.specs.declared.enums.ButtonState.{ButtonState}
use Rattle.ei_types.specs.declared.enums.ButtonState.TheVariants as button
use Rattle.ei_types.specs.declared.enums.KeyState.{KeyState}
use Rattle.ei_types.specs.declared.enums.KeyState.TheVariants as key
use Rattle.ei_types.specs.declared.enums.KeymapType.{KeymapType}
use Rattle.ei_types.specs.declared.enums.KeymapType.TheVariants as keymap

-- ---- the number tells the value

pub context_type_told : (x y : ContextType) → context_type_number x ≡ context_type_number y → x ≡ y
context_type_told context.Receiver context.Receiver e = refl
context_type_told context.Receiver context.Sender e = absurd cc
context_type_told context.Sender context.Receiver e = absurd cc
context_type_told context.Sender context.Sender e = refl

pub device_type_told : (x y : DeviceType) → device_type_number x ≡ device_type_number y → x ≡ y
device_type_told device.Virtual device.Virtual e = refl
device_type_told device.Virtual device.Physical e = absurd cc
device_type_told device.Physical device.Virtual e = absurd cc
device_type_told device.Physical device.Physical e = refl

pub button_state_told : (x y : ButtonState) → button_state_number x ≡ button_state_number y → x ≡ y
button_state_told button.Released button.Released e = refl
button_state_told button.Released button.Press e = absurd cc
button_state_told button.Press button.Released e = absurd cc
button_state_told button.Press button.Press e = refl

pub key_state_told : (x y : KeyState) → key_state_number x ≡ key_state_number y → x ≡ y
key_state_told key.Released key.Released e = refl
key_state_told key.Released key.Press e = absurd cc
key_state_told key.Press key.Released e = absurd cc
key_state_told key.Press key.Press e = refl

pub keymap_type_told : (x y : KeymapType) → keymap_type_number x ≡ keymap_type_number y → x ≡ y
keymap_type_told keymap.Xkb keymap.Xkb e = refl

-- what has no name
unnamed : (number : ℕ) → 6 ≤ number → reason_of number ≡ reason.Other number
unnamed number le = grind arith

pub reason_again : (x : DisconnectReason) → IsReason x → reason_of (disconnect_reason_number x) ≡ x
reason_again reason.Disconnected is = refl
reason_again reason.Error is = refl
reason_again reason.Mode is = refl
reason_again reason.Protocol is = refl
reason_again reason.Value is = refl
reason_again reason.Transport is = refl
reason_again (reason.Other number) is = unnamed number is.0

pub reason_told : (x y : DisconnectReason) → IsReason x → IsReason y → disconnect_reason_number x ≡ disconnect_reason_number y → x ≡ y
reason_told x y is iy e = sym (reason_again x is) ∙ ap reason_of e ∙ reason_again y iy

-- ---- every number has a reason

pub any_reason : (number : ℕ) → number < 2 ^ 32 → IsReason (reason_of number)
any_reason number lt = grind arith

-- ---- the number is read back

context_type_is : (x : ContextType) → IsOf context_type (Word (context_type_number x))
context_type_is context.Receiver = (omega arith, refl)
context_type_is context.Sender = (omega arith, refl)

pub context_type_back : (x : ContextType) (s t : Unread) → Follows (Word (context_type_number x)) s t → read context_type s ≡ Ok (Word (context_type_number x), t)
context_type_back x s t = written_again context_type (Word (context_type_number x)) s t (context_type_is x)

device_type_is : (x : DeviceType) → IsOf device_type (Word (device_type_number x))
device_type_is device.Virtual = (omega arith, refl)
device_type_is device.Physical = (omega arith, refl)

pub device_type_back : (x : DeviceType) (s t : Unread) → Follows (Word (device_type_number x)) s t → read device_type s ≡ Ok (Word (device_type_number x), t)
device_type_back x s t = written_again device_type (Word (device_type_number x)) s t (device_type_is x)

button_state_is : (x : ButtonState) → IsOf button_state (Word (button_state_number x))
button_state_is button.Released = (omega arith, refl)
button_state_is button.Press = (omega arith, refl)

pub button_state_back : (x : ButtonState) (s t : Unread) → Follows (Word (button_state_number x)) s t → read button_state s ≡ Ok (Word (button_state_number x), t)
button_state_back x s t = written_again button_state (Word (button_state_number x)) s t (button_state_is x)

key_state_is : (x : KeyState) → IsOf key_state (Word (key_state_number x))
key_state_is key.Released = (omega arith, refl)
key_state_is key.Press = (omega arith, refl)

pub key_state_back : (x : KeyState) (s t : Unread) → Follows (Word (key_state_number x)) s t → read key_state s ≡ Ok (Word (key_state_number x), t)
key_state_back x s t = written_again key_state (Word (key_state_number x)) s t (key_state_is x)

keymap_type_is : (x : KeymapType) → IsOf keymap_type (Word (keymap_type_number x))
keymap_type_is keymap.Xkb = (omega arith, refl)

pub keymap_type_back : (x : KeymapType) (s t : Unread) → Follows (Word (keymap_type_number x)) s t → read keymap_type s ≡ Ok (Word (keymap_type_number x), t)
keymap_type_back x s t = written_again keymap_type (Word (keymap_type_number x)) s t (keymap_type_is x)

reason_is : (x : DisconnectReason) → IsReason x → IsOf disconnect_reason (Word (disconnect_reason_number x))
reason_is reason.Disconnected is = omega arith
reason_is reason.Error is = omega arith
reason_is reason.Mode is = omega arith
reason_is reason.Protocol is = omega arith
reason_is reason.Value is = omega arith
reason_is reason.Transport is = omega arith
reason_is (reason.Other number) is = is.1

pub reason_back : (x : DisconnectReason) (s t : Unread) → IsReason x → Follows (Word (disconnect_reason_number x)) s t → read disconnect_reason s ≡ Ok (Word (disconnect_reason_number x), t)
reason_back x s t is = written_again disconnect_reason (Word (disconnect_reason_number x)) s t (reason_is x is)
