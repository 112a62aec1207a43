-- A filter, as contracts speak of it.
use Rattle.std.specs.Prelude.{List}
use Rattle.std.specs.Global.{Global}
use Rattle.std.specs.declared.dyn_box.DynBox.{DynBox}
use Rattle.ei_filter.specs.declared.filter.Filter.{Filter}

-- the closure that gives a frame its new time
abbrev pub shift_of : {F I : Type 0} {M : I → Type 0} → Filter F I M → F
shift_of filter = filter.shift

-- the rules, in the order in which they were added
abbrev pub rules_of : {F I : Type 0} {M : I → Type 0} → Filter F I M → List (DynBox I Global M)
rules_of filter = filter.rules.items
