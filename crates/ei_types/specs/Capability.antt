-- Capabilities: their bits, their interfaces, and sets of them as numbers.
use Rattle.std.specs.Prelude.{ℕ, ◌/◌, ◌%◌, ◌==◌, Bool, List, [], ◌∷◌, Option, Some, None, option_and_then, unwrap_or, map, IsTrue}
use Rattle.ei_spec.specs.declared.interface.KnownInterface.{KnownInterface}
use Rattle.ei_spec.specs.declared.interface.KnownInterface.TheVariants as known
use Rattle.ei_spec.specs.declared.limits.TheConstants.{ALL_CAPABILITIES}
use Rattle.ei_spec.specs.Interface.{about, name_of, known_of}
use Rattle.ei_types.specs.declared.capability.DeviceCapability.{DeviceCapability}
use Rattle.ei_types.specs.declared.capability.DeviceCapability.TheVariants.{Pointer, PointerAbsolute, Keyboard, Touch, Scroll, Button, Text, Gesture}
use Rattle.ei_types.specs.declared.capability.DeviceCapabilities.{DeviceCapabilities}

-- the capabilities by rising bit
abbrev pub capability_list : List DeviceCapability
capability_list = Pointer ∷ PointerAbsolute ∷ Keyboard ∷ Touch ∷ Scroll ∷ Button ∷ Text ∷ Gesture ∷ []

-- the place of a capability in this list
abbrev pub index_of : DeviceCapability → ℕ
index_of Pointer = 0
index_of PointerAbsolute = 1
index_of Keyboard = 2
index_of Touch = 3
index_of Scroll = 4
index_of Button = 5
index_of Text = 6
index_of Gesture = 7

-- the interface that a capability names
abbrev pub interface_of : DeviceCapability → KnownInterface
interface_of Pointer = known.Pointer
interface_of PointerAbsolute = known.PointerAbsolute
interface_of Keyboard = known.Keyboard
interface_of Touch = known.Touchscreen
interface_of Scroll = known.Scroll
interface_of Button = known.Button
interface_of Text = known.Text
interface_of Gesture = known.Gesture

-- its bit: that of its interface
abbrev pub bit_of : DeviceCapability → ℕ
bit_of one = unwrap_or (about (interface_of one)).bit 0

-- the bit and the interface of each capability, by rising bit
abbrev pub capabilities : List (ℕ × KnownInterface)
capabilities = map (λ one. (bit_of one, interface_of one)) capability_list

-- the name of that interface
abbrev pub interface_name_of : DeviceCapability → List ℕ
interface_name_of one = name_of (interface_of one)

-- the capability that names an interface, if there is one
abbrev pub capability_of : KnownInterface → Option DeviceCapability
capability_of known.Pointer = Some Pointer
capability_of known.PointerAbsolute = Some PointerAbsolute
capability_of known.Keyboard = Some Keyboard
capability_of known.Touchscreen = Some Touch
capability_of known.Scroll = Some Scroll
capability_of known.Button = Some Button
capability_of known.Text = Some Text
capability_of known.Gesture = Some Gesture
capability_of interface = None

-- the capability whose interface has a name, if there is one
abbrev pub capability_named : List ℕ → Option DeviceCapability
capability_named name = option_and_then capability_of (known_of name)

-- the bits of a set
abbrev pub bits_of : DeviceCapabilities → ℕ
bits_of set = set.0

-- the bits of all of them; a number is a set of capabilities where it is no larger
abbrev pub all_bits : ℕ
all_bits = ALL_CAPABILITIES

-- whether a set of these bits has this bit
abbrev pub has_bit : ℕ → ℕ → Bool
has_bit mask bit = mask / bit % 2 == 1

-- whether a set has a capability
abbrev pub holds : DeviceCapabilities → DeviceCapability → Bool
holds set one = has_bit (bits_of set) (bit_of one)

-- a set has each capability of another
abbrev pub HoldsEach : DeviceCapabilities → DeviceCapabilities → Type 0
HoldsEach set other = (one : DeviceCapability) → IsTrue (holds other one) → IsTrue (holds set one)
