-- What a call is given, and what may be wrong with it.
use Rattle.std.specs.Prelude.{◌≡◌, ℕ, List, length, Option, Some, None, ◌==◌, nat_lt, if◌then◌else◌}
use Rattle.std.specs.Str.{is_utf8}
use Rattle.ei_types.specs.Capability.{all_bits}
use Rattle.ei_types.specs.declared.capability.DeviceCapabilities.{DeviceCapabilities}
use Rattle.reis_c.specs.Numbers.{CAPABILITIES, INVALID}

-- the text of some bytes; there is none where there is no byte
abbrev pub named : List ℕ → Option (List ℕ)
named bytes = if length bytes == 0 then None else Some bytes

-- what is wrong with the bytes of a text
abbrev pub text_fault : List ℕ → Option ℕ
text_fault bytes = if is_utf8 bytes then None else Some INVALID

-- what is wrong with bits and with the bytes of a text: a bit is no capability's, or it is no text
abbrev pub bits_fault : ℕ → Option ℕ → Option ℕ
bits_fault bits fault = if nat_lt all_bits bits then Some CAPABILITIES else fault

-- the set of these bits
abbrev pub set_of : ℕ → DeviceCapabilities
set_of bits = record { 0 = bits }

-- what is wrong with what the call was given is its answer, and then all is as it was; where nothing is, it does what it is for
abbrev pub Unless : {A : Type 0} → Option ℕ → ℕ → A → A → Type 0 → Type 0
Unless (Some fault) answer old new Does = (answer ≡ fault) × (new ≡ old)
Unless None answer old new Does = Does
