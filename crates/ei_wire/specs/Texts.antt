-- The texts of what is wrong with a message, and of why sending, reading and flushing stop.
use Rattle.std.specs.Prelude.{ℕ, List, ◌++◌, codes, decimal}
use Rattle.ei_wire.specs.declared.error.ParseError.{ParseError}
use Rattle.ei_wire.specs.declared.error.ParseError.TheVariants.{EndOfMessage, Utf8, InvalidId, NoFd, InvalidOpcode, InvalidVariant, InvalidInterface}
use Rattle.ei_wire.specs.declared.error.ParseError.TheVariants.{HeaderLength, MessageLength, InvalidNull, NoMemory}
use Rattle.ei_wire.specs.declared.error.SendError.{SendError}
use Rattle.ei_wire.specs.declared.error.SendError.TheVariants as send_error
use Rattle.ei_wire.specs.declared.error.ReadError.{ReadError}
use Rattle.ei_wire.specs.declared.error.ReadError.TheVariants as read_error
use Rattle.ei_wire.specs.declared.error.FlushError.{FlushError}
use Rattle.ei_wire.specs.declared.error.FlushError.TheVariants as flush_error

-- the text of an error, with numbers in decimal
abbrev pub parse_error_text : ParseError → List ℕ
parse_error_text EndOfMessage = codes "found end of message while parsing argument"
parse_error_text (Utf8 place) = codes "invalid UTF-8 string in message: at byte " ++ decimal place
parse_error_text (InvalidId id) = codes "new object id '" ++ decimal id ++ codes "' invalid"
parse_error_text NoFd = codes "expected fd"
parse_error_text (InvalidOpcode interface opcode) = codes "opcode '" ++ (decimal opcode ++ (codes "' invalid for interface '" ++ (interface.now ++ codes "'")))
parse_error_text (InvalidVariant type_name number) = codes "variant '" ++ (decimal number ++ (codes "' invalid for enum '" ++ (type_name.now ++ codes "'")))
parse_error_text (InvalidInterface name) = codes "unknown interface '" ++ name ++ codes "'"
parse_error_text (HeaderLength length) = codes "header length " ++ decimal length ++ codes " < 16"
parse_error_text (MessageLength found said) = codes "message length didn't match header (" ++ decimal found ++ codes " != " ++ decimal said ++ codes ")"
parse_error_text InvalidNull = codes "NULL value for non-nullable argument"
parse_error_text NoMemory = codes "out of memory"

-- the text of why a message isn't sent
abbrev pub send_error_text : SendError → List ℕ
send_error_text send_error.MessageTooLong = codes "message too long"
send_error_text send_error.IdsExhausted = codes "no object id is left"
send_error_text send_error.NoMemory = codes "out of memory"

-- the text of why no piece was read
abbrev pub read_error_text : ReadError → List ℕ
read_error_text read_error.UnexpectedEof = codes "IO error: unexpected EOF reading ei socket"
read_error_text read_error.ReadFault = codes "IO error: read fault"
read_error_text read_error.HandleLimit = codes "too many unread handles"
read_error_text read_error.NoMemory = codes "out of memory"

-- the text of why not all was written
abbrev pub flush_error_text : FlushError → List ℕ
flush_error_text flush_error.WriteFault = codes "IO error: write fault"
flush_error_text flush_error.NoMemory = codes "out of memory"
