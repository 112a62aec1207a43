-- What the calls of a device read.
use Rattle.std.specs.Prelude.{ℕ, List, Option, Some, None}
use Rattle.ei_spec.specs.declared.interface.KnownInterface.{KnownInterface}
use Rattle.ei_spec.specs.Interface.{ObjectView}
use Rattle.ei_request.specs.Held.{DeviceView}
use Rattle.ei_request.specs.Making.{object_of}

-- the name of the device, if it is held and has one
abbrev pub name_in : Option DeviceView → Option (List ℕ)
name_in None = None
name_in (Some d) = d.name

-- its object of the interface, if it is held and has it left
abbrev pub interface_in : KnownInterface → Option DeviceView → Option ObjectView
interface_in interface None = None
interface_in interface (Some d) = object_of interface d.interfaces
