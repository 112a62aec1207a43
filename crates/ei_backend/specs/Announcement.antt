-- What objects are announced as, as the definitions see it.
use Rattle.std.specs.Prelude.{ℕ, Bool, Option, Some, None}
use Rattle.ei_spec.specs.Interface.{Interface, Known, Other, ObjectView}
use Rattle.ei_spec.specs.declared.interface.KnownInterface.{KnownInterface}
use Rattle.ei_backend.specs.declared.announcement.Announcement.{Announcement}
use Rattle.ei_backend.specs.declared.announcement.Announcement.TheVariants as announced

-- the interface that was announced
abbrev pub interface_of : Announcement → Interface
interface_of (announced.Known side k version) = Known k
interface_of (announced.Other side version name) = Other name

-- the version that was announced
abbrev pub version_of : Announcement → ℕ
version_of (announced.Known side k version) = version
version_of (announced.Other side version name) = version

-- whether it was announced at a client
abbrev pub side_of : Announcement → Bool
side_of (announced.Known side k version) = side
side_of (announced.Other side version name) = side

-- the object of an id that was announced so
abbrev pub announced_as : ℕ → Announcement → ObjectView
announced_as id a = record { id = id; interface = interface_of a; version = version_of a; client_side = side_of a }

-- the interface, if it is one of the protocol
abbrev pub known_in : Interface → Option KnownInterface
known_in (Known k) = Some k
known_in (Other n) = None
