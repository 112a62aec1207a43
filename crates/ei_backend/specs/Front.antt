-- The message at the front, as the code has it, and what more bytes make of it.
use Rattle.std.specs.Prelude.{◌≡◌, ◌+◌, ◌<◌, ◌≤◌, ℕ, Bool, false, nat_le, List, ◌++◌, length, drop}
use Rattle.ei_spec.specs.Message.{Front, Short, Unlawful, Whole, front}
use Rattle.ei_backend.specs.declared.front.FrontMessage.{FrontMessage}
use Rattle.ei_backend.specs.declared.front.FrontMessage.TheVariants as code
use Rattle.ei_spec.specs.declared.limits.TheConstants.{MOST_MESSAGE_BYTES}

-- the front of these bytes
abbrev pub front_view : List ℕ → FrontMessage → Front
front_view bytes (code.Short needed) = Short
front_view bytes (code.Unlawful len) = Unlawful len
front_view bytes (code.Whole id opcode body len) = Whole (record { id = id; opcode = opcode; body = body.now }) (drop len bytes)

-- so many bytes are needed: with fewer there is no whole message
pub record IsNeeded (bytes : List ℕ) (needed : ℕ) : Type 0 where
  pub missing : length bytes < needed
  pub short : (more : List ℕ) → length bytes + length more < needed → front (bytes ++ more) ≡ Short

-- a whole message stands in the bytes; where there is none, it is known how many bytes are needed
abbrev pub IsLawful : List ℕ → FrontMessage → Type 0
IsLawful bytes (code.Short needed) = IsNeeded bytes needed
IsLawful bytes (code.Unlawful len) = Unit {0}
IsLawful bytes (code.Whole id opcode body len) = len ≤ length bytes

-- a whole message is a header and its body, and no longer than a message may be
abbrev pub IsSound : FrontMessage → Type 0
IsSound (code.Short needed) = Unit {0}
IsSound (code.Unlawful len) = Unit {0}
IsSound (code.Whole id opcode body len) = (16 ≤ len) × (length body.now + 16 ≡ len) × (len ≤ MOST_MESSAGE_BYTES)

-- whether bytes that were short have what was needed among the first so many
abbrev pub ends_within : FrontMessage → ℕ → Bool
ends_within (code.Short needed) all = nat_le needed all
ends_within (code.Unlawful len) all = false
ends_within (code.Whole id opcode body len) all = false

-- so many bytes are a whole message
abbrev pub front_len : FrontMessage → ℕ
front_len (code.Short needed) = 0
front_len (code.Unlawful len) = 0
front_len (code.Whole id opcode body len) = len
