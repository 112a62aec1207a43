-- The interfaces: their names, their versions, and objects of them.
use Rattle.std.specs.Prelude.{ℕ, Bool, List, [], ◌∷◌, Option, Some, None, codes, length, ◌==◌}
use Rattle.std.specs.Str.{bytes_eq}
use Rattle.std.specs.List.{find, position_or_len}
use Rattle.ei_spec.specs.declared.interface.KnownInterface.{KnownInterface}
use Rattle.ei_spec.specs.declared.interface.KnownInterface.TheVariants.{Handshake, Connection, Callback, Pingpong, Seat, Device, Pointer, PointerAbsolute}
use Rattle.ei_spec.specs.declared.interface.KnownInterface.TheVariants.{Scroll, Button, Keyboard, Touchscreen, Text, Gesture}

-- an interface by its name: one of the protocol, or another
pub data Interface : Type 0 where
  Known : KnownInterface → Interface
  Other : List ℕ → Interface

-- an object: an id, and what it was announced as
pub record ObjectView : Type 0 where
  pub id : ℕ
  pub interface : Interface
  pub version : ℕ
  pub client_side : Bool

-- what an interface is: its name on the wire, the same without `ei_`, the version that both ends speak, and, where a
-- device can have it, the bit that stands for it in a mask of capabilities
pub record InterfaceRow : Type 0 where
  pub name : List ℕ
  pub short : List ℕ
  pub version : ℕ
  pub bit : Option ℕ

abbrev pub plain : List ℕ → List ℕ → ℕ → InterfaceRow
plain name short version = record { name = name; short = short; version = version; bit = None }

abbrev pub capability : List ℕ → List ℕ → ℕ → ℕ → InterfaceRow
capability name short version bit = record { name = name; short = short; version = version; bit = Some bit }

-- the interfaces, a row each
abbrev pub about : KnownInterface → InterfaceRow
about Handshake = plain (codes "ei_handshake") (codes "handshake") 1
about Connection = plain (codes "ei_connection") (codes "connection") 1
about Callback = plain (codes "ei_callback") (codes "callback") 1
about Pingpong = plain (codes "ei_pingpong") (codes "pingpong") 1
about Seat = plain (codes "ei_seat") (codes "seat") 2
about Device = plain (codes "ei_device") (codes "device") 3
about Pointer = capability (codes "ei_pointer") (codes "pointer") 1 1
about PointerAbsolute = capability (codes "ei_pointer_absolute") (codes "pointer_absolute") 1 2
about Scroll = capability (codes "ei_scroll") (codes "scroll") 1 16
about Button = capability (codes "ei_button") (codes "button") 1 32
about Keyboard = capability (codes "ei_keyboard") (codes "keyboard") 1 4
about Touchscreen = capability (codes "ei_touchscreen") (codes "touchscreen") 2 8
about Text = capability (codes "ei_text") (codes "text") 1 64
-- of this library's own
about Gesture = capability (codes "ei_x_gesture") (codes "x_gesture") 1 128

-- the interfaces that a handshake settles, in the order in which they are announced
abbrev pub the_settled : List KnownInterface
the_settled = Connection ∷ Callback ∷ Pingpong ∷ Seat ∷ Device ∷ Pointer ∷ PointerAbsolute ∷ Scroll ∷ Button ∷ Keyboard ∷ Touchscreen ∷ Text ∷ Gesture ∷ []

-- all of them: that of the handshake, and those that it settles
abbrev pub the_interfaces : List KnownInterface
the_interfaces = Handshake ∷ the_settled

-- the name on the wire
abbrev pub name_of : KnownInterface → List ℕ
name_of interface = (about interface).name

-- the name without `ei_`
abbrev pub short_of : KnownInterface → List ℕ
short_of interface = (about interface).short

-- the version that the server has
abbrev pub server_version : KnownInterface → ℕ
server_version interface = (about interface).version

-- whether an interface has that name
abbrev pub is_called : List ℕ → KnownInterface → Bool
is_called name interface = bytes_eq name (name_of interface)

-- the place of an interface in the list of all
abbrev pub place_of : KnownInterface → ℕ
place_of interface = position_or_len (is_called (name_of interface)) the_interfaces

-- whether an interface's name has so many bytes
abbrev pub is_long : ℕ → KnownInterface → Bool
is_long len interface = length (name_of interface) == len

-- the interface of a name
unfoldable pub known_of : List ℕ → Option KnownInterface
known_of name = find (is_called name) the_interfaces

abbrev pub named_as : List ℕ → Option KnownInterface → Interface
named_as n (Some k) = Known k
named_as n None = Other n

-- the interface that a name stands for
abbrev pub named : List ℕ → Interface
named n = named_as n (known_of n)

-- the name of an interface
abbrev pub bytes_of : Interface → List ℕ
bytes_of (Known k) = name_of k
bytes_of (Other n) = n
