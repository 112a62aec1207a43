-- The description of a device, as C gives it.
use Rattle.std.specs.Prelude.{ℕ, ◌+◌, ◌==◌, nat_lt, ◌&&◌, ◌||◌, Bool, not, List, [], ◌∷◌, ◌++◌, length, take, drop, Option, Some, if◌then◌else◌}
use Rattle.std.specs.List.{flat_map, list_any}
use Rattle.std.specs.Str.{is_utf8}
use Rattle.ei_types.specs.declared.enums.DeviceType.{DeviceType}
use Rattle.ei_types.specs.declared.enums.DeviceType.TheVariants as device
use Rattle.ei_types.specs.Enums.{keymap_type_number}
use Rattle.ei_request.specs.declared.making.DeviceSetup.{DeviceSetup}
use Rattle.ei_request.specs.declared.making.DeviceSetup.TheVariants as setup
use Rattle.reis_c.specs.declared.device.ReisDevice.{ReisDevice}
use Rattle.reis_c.specs.declared.device.ReisRegion.{ReisRegion}
use Rattle.reis_c.specs.Given.{text_fault, bits_fault}
use Rattle.reis_c.specs.Numbers.{INVALID}

-- an item of a description, with its text and its numbers
pub data Item : Type 0 where
  Dimensions : ℕ → ℕ → Item
  MappingId : List ℕ → Item
  Region : ℕ → ℕ → ℕ → ℕ → ℕ → Item
  Keymap : ℕ → ℕ → ℕ → Item

abbrev pub item_of : DeviceSetup → Item
item_of (setup.Dimensions width height) = Dimensions width height
item_of (setup.RegionMappingId id) = MappingId id.now
item_of (setup.Region x y width height scale) = Region x y width height scale.0
item_of (setup.Keymap kind size handle) = Keymap (keymap_type_number kind) size handle.0

-- the type of a device by its number: 1 or 2
abbrev pub type_of : ReisDevice → DeviceType
type_of d = if d.device_type == 1 then device.Virtual else device.Physical

-- a width and a height that are both 0 are no size
abbrev pub dimensions_of : ReisDevice → List Item
dimensions_of d = if d.width == 0 && d.height == 0 then [] else Dimensions d.width d.height ∷ []

-- a keymap of the type 0 is none
abbrev pub keymap_of : ReisDevice → List Item
keymap_of d = if d.keymap_type == 0 then [] else Keymap d.keymap_type d.keymap_size d.keymap ∷ []

-- the bytes of the mapping id of a region, among those of all
abbrev pub mapping_id : List ℕ → ReisRegion → List ℕ
mapping_id ids r = take r.mapping_id_length (drop r.mapping_id ids)

-- whether these aren't all there, or are no text
abbrev pub is_bad : List ℕ → ReisRegion → Bool
is_bad ids r = nat_lt (length ids) (r.mapping_id + r.mapping_id_length) || not (is_utf8 (mapping_id ids r))

-- a mapping id without a byte is none
abbrev pub mapping_of : List ℕ → List Item
mapping_of id = if length id == 0 then [] else MappingId id ∷ []

-- a region, behind its mapping id
abbrev pub region_of : List ℕ → ReisRegion → List Item
region_of ids r = mapping_of (mapping_id ids r) ++ (Region r.x r.y r.width r.height r.scale ∷ [])

-- the items of a description: the size, the regions and the keymap
abbrev pub items_of : ReisDevice → List ReisRegion → List ℕ → List Item
items_of d regions ids = dimensions_of d ++ (flat_map (region_of ids) regions ++ keymap_of d)

-- whether a type is no type
abbrev pub is_untyped : ReisDevice → Bool
is_untyped d = d.device_type == 0 || (nat_lt 2 d.device_type || nat_lt 1 d.keymap_type)

-- whether a description says what isn't
abbrev pub is_wrong : ReisDevice → List ReisRegion → List ℕ → Bool
is_wrong d regions ids = is_untyped d || list_any (is_bad ids) regions

-- what is wrong with a description and the bytes of its name
abbrev pub device_fault : ReisDevice → List ReisRegion → List ℕ → List ℕ → Option ℕ
device_fault d regions ids name = bits_fault d.capabilities (if is_wrong d regions ids then Some INVALID else text_fault name)
