-- The fields of a line, as the program takes them.
use Rattle.std.specs.Prelude.{ℕ, List, ◌++◌}
use Rattle.reis_report.specs.RequestLine.{seat_field, device_field, input_fields, number_field, signed_field, word_field, truth_field, state_field, bytes_field}
use Rattle.reis_report.specs.declared.fields.Field.{Field}
use Rattle.reis_report.specs.declared.fields.Field.TheVariants as field
use Rattle.reis_report.specs.declared.requests.Line.{Line}
use Rattle.reis_report.specs.declared.requests.Line.TheVariants as line

-- the text of a field
abbrev pub field_text : Field → List ℕ
field_text (field.Seat seat) = seat_field seat.now
field_text (field.Device device) = device_field device.now
field_text (field.Input device time) = input_fields device.now time
field_text (field.Number name n) = number_field name.now n
field_text (field.Signed name n) = signed_field name.now n
field_text (field.Word name word) = word_field name.now word
field_text (field.Truth name is) = truth_field name.now is
field_text (field.State state) = state_field state.now
field_text (field.Bytes name bytes) = bytes_field name.now bytes.now

-- the text of a name and the fields behind it
abbrev pub line_text : Line → List ℕ
line_text (line.Bare name) = name.now
line_text (line.One name a) = name.now ++ field_text a
line_text (line.Two name a b) = name.now ++ (field_text a ++ field_text b)
line_text (line.Three name a b c) = name.now ++ (field_text a ++ (field_text b ++ field_text c))
line_text (line.Four name a b c d) = name.now ++ (field_text a ++ (field_text b ++ (field_text c ++ field_text d)))
