-- The letters of a text that is owned, and what stands behind letters that are read.
use Rattle.std.specs.Prelude.{ℕ, ◌+◌, List, length, drop, Result, Ok, Err, nat_lt, if◌then◌else◌}
use Rattle.ei_spec.specs.Reading.{Fault, EndOfMessage}
use Rattle.ei_spec.specs.Value.{padding}
use Rattle.std.specs.Rc.{rc_str_bytes}
use Rattle.ei_spec.specs.Interface.{name_of}
use Rattle.ei_wire.specs.declared.text.Letters.{Letters}
use Rattle.ei_wire.specs.declared.text.Letters.TheVariants as letters

abbrev pub letters_of : Letters → List ℕ
letters_of (letters.Name interface) = name_of interface
letters_of (letters.Other text) = rc_str_bytes text

-- what follows so many letters, their closing byte and the padding
abbrev pub behind_letters : ℕ → List ℕ → Result (List ℕ) Fault
behind_letters n bytes = if nat_lt (length bytes) (n + 1 + padding (n + 1)) then Err EndOfMessage else Ok (drop (n + 1 + padding (n + 1)) bytes)
