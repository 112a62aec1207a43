-- The header of a message, and its bytes.
use Rattle.std.specs.Prelude.{ℕ, List, take, drop}
use Rattle.ei_spec.specs.Message.{header, of_le4, of_le8}
use Rattle.ei_wire.specs.declared.header.Header.{Header}

-- the header that sixteen bytes spell
abbrev pub header_of : List ℕ → Header
header_of bytes = record { object_id = of_le8 (take 8 bytes); length = of_le4 (take 4 (drop 8 bytes)); opcode = of_le4 (take 4 (drop 12 bytes)) }

-- the sixteen bytes of a header
abbrev pub header_bytes : Header → List ℕ
header_bytes h = header h.object_id h.length h.opcode
