use Rattle.std.proofs.Common.{◌≡◌, ◌++◌, map, take}
use Rattle.std.specs.List.{flat_map}
use Rattle.reis_c.specs.Describing.{item_of, region_of}
use Rattle.reis_c.proofs.device.add_regions.Given as goal

abbrev pub invariant-loop-region : goal.invariant-loop-region
invariant-loop-region l = map item_of l.items.items ≡ map item_of l.fn.items.items ++ flat_map (region_of l.ids) (take l.region-index l.regions)
