-- Which results rest on what came and went alone.
use Rattle.std.specs.Prelude.{Result, Ok, Err}
use Rattle.ei_types.specs.declared.error.Error.{Error}
use Rattle.ei_types.specs.declared.error.Error.TheVariants as error

-- a result that the pieces decide: no fault, and no want of memory
abbrev pub IsDecided : {T : Type 0} → Result T Error → Type 0
IsDecided (Err error.ReadFault) = ⊥
IsDecided (Err error.WriteFault) = ⊥
IsDecided (Err error.NoMemory) = ⊥
IsDecided r = Unit {0}

-- the sink failed, or memory ran out
abbrev pub IsCutShort : {T : Type 0} → Result T Error → Type 0
IsCutShort (Err error.WriteFault) = Unit {0}
IsCutShort (Err error.NoMemory) = Unit {0}
IsCutShort r = ⊥
