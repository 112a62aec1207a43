-- Words on kinds of arguments.
use Rattle.ei_spec.specs.Value.{Kind, U32, I32, U64, I64, Float, Text, Nullable, Handle, New, Choice, OpenChoice}
use Rattle.ei_wire.specs.declared.arg.Arg.{Arg}
use Rattle.ei_wire.specs.declared.arg.Arg.TheVariants as arg

-- the kind is that of an enum
abbrev pub IsEnum : Kind → Type 0
IsEnum (Choice type_name values) = Unit {0}
IsEnum OpenChoice = Unit {0}
IsEnum k = ⊥

-- The argument is that of the kind. The bytes alone don't say it: a word and a float of the same bits have the same
-- bytes, and are shown differently.
abbrev pub IsArgOf : Kind → Arg → Type 0
IsArgOf U32 (arg.Uint32 n) = Unit {0}
IsArgOf I32 (arg.Int32 z) = Unit {0}
IsArgOf U64 (arg.Uint64 n) = Unit {0}
IsArgOf I64 (arg.Int64 z) = Unit {0}
IsArgOf Float (arg.Float n) = Unit {0}
IsArgOf Text (arg.String t) = Unit {0}
IsArgOf Nullable (arg.String t) = Unit {0}
IsArgOf Handle (arg.Fd h) = Unit {0}
IsArgOf New (arg.NewId n) = Unit {0}
IsArgOf (Choice type_name values) (arg.Uint32 n) = Unit {0}
IsArgOf OpenChoice (arg.Uint32 n) = Unit {0}
IsArgOf k a = ⊥
