-- The words that the program takes.
use Rattle.std.specs.Prelude.{ℕ, ◌+◌, ◌*◌, ◌-◌, ◌==◌, ◌&&◌, not, nat_le, nat_lt, Bool, false, if◌then◌else◌, List, [], ◌∷◌, codes, Option, Some, None}
use Rattle.std.specs.Char.{is_ascii_digit}
use Rattle.std.specs.List.{list_all}
use Rattle.std.specs.Str.{bytes_eq}
use Rattle.ei_spec.specs.declared.limits.TheConstants.{ALL_CAPABILITIES}
use Rattle.reis_run.specs.declared.words.Command.{Command}
use Rattle.reis_run.specs.declared.words.Command.TheVariants.{Serve, Trace, Demo}

-- the number that digits spell behind those of n
abbrev pub decimal_behind : ℕ → List ℕ → ℕ
decimal_behind n [] = n
decimal_behind n (d ∷ ds) = decimal_behind (10 * n + (d - 48)) ds

-- the number that digits spell
abbrev pub decimal_of : List ℕ → ℕ
decimal_of digits = decimal_behind 0 digits

-- a plain decimal: `0`, or a digit 1 to 9 and digits
abbrev pub is_plain : List ℕ → Bool
is_plain [] = false
is_plain (d ∷ []) = is_ascii_digit d
is_plain (d ∷ e ∷ ds) = not (d == 48) && list_all is_ascii_digit (d ∷ e ∷ ds)

-- the number of a plain decimal that is at most the limit
abbrev pub number_of : ℕ → List ℕ → Option ℕ
number_of limit text = if is_plain text && nat_le (decimal_of text) limit then Some (decimal_of text) else None

-- the command of three numbers
abbrev pub command_with : (ℕ → ℕ → ℕ → Command) → Option ℕ → Option ℕ → Option ℕ → Option Command
command_with command (Some serial) (Some capabilities) (Some pieces) = Some (command serial capabilities pieces)
command_with command serial capabilities pieces = None

-- a command whose words are its name, a first serial, capabilities and a number of pieces
abbrev pub session_command : (ℕ → ℕ → ℕ → Command) → List ℕ → List ℕ → List ℕ → Option Command
session_command command serial capabilities pieces =
    command_with command (number_of 4294967295 serial) (number_of ALL_CAPABILITIES capabilities) (number_of 4294967295 pieces)

-- the command of a number of groups, at least one, and a start
abbrev pub demo_with : Option ℕ → Option ℕ → Option Command
demo_with (Some groups) (Some start) = if nat_lt 0 groups then Some (Demo groups start) else None
demo_with groups start = None

-- the command that the words are: `serve` or `trace` and three plain decimals, or `demo` and two
abbrev pub command_of : List (List ℕ) → Option Command
command_of (name ∷ serial ∷ capabilities ∷ pieces ∷ []) =
    if bytes_eq name (codes "serve") then session_command Serve serial capabilities pieces
    else (if bytes_eq name (codes "trace") then session_command Trace serial capabilities pieces else None)
command_of (name ∷ groups ∷ start ∷ []) = if bytes_eq name (codes "demo") then demo_with (number_of 100000 groups) (number_of 4294967295 start) else None
command_of words = None

-- the bits of a command's capabilities
abbrev pub capabilities_of : Command → ℕ
capabilities_of (Serve serial capabilities pieces) = capabilities
capabilities_of (Trace serial capabilities pieces) = capabilities
capabilities_of (Demo groups start) = 0
