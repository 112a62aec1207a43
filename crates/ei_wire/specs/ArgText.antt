-- The text of an argument.
use Rattle.std.specs.Prelude.{ℕ, ◌/◌, ◌%◌, Bool, false, List, [], ◌∷◌, ◌++◌, Some, None, codes, decimal, if◌then◌else◌, nat_le, ◌==◌, not, ◌&&◌}
use Rattle.std.specs.List.{flat_map}
use Rattle.std.specs.Int.{w32, to_be_bytes}
use Rattle.std.specs.Fmt.{digits, digit_glyph, signed_decimal}
use Rattle.ei_wire.specs.declared.arg.Arg.{Arg}
use Rattle.ei_wire.specs.declared.arg.Arg.TheVariants as arg

-- a byte as two lower-case hexadecimal digits
abbrev pub byte_hex : ℕ → List ℕ
byte_hex b = digit_glyph false (b / 16) ∷ digit_glyph false (b % 16) ∷ []

-- a word as eight lower-case hexadecimal digits
abbrev pub word_hex : ℕ → List ℕ
word_hex n = flat_map byte_hex (to_be_bytes w32 n)

-- a number in lower-case hexadecimal digits, as few as it needs
abbrev pub number_hex : ℕ → List ℕ
number_hex n = digits 16 false n

-- the byte may stand for itself: it is from the blank to the tilde, and neither quotation mark nor backslash
abbrev pub is_plain : ℕ → Bool
is_plain b = nat_le 32 b && nat_le b 126 && not (b == 34) && not (b == 92)

-- a byte of a text: itself, or `\x` and its two hexadecimal digits
abbrev pub escaped : ℕ → List ℕ
escaped b = if is_plain b then b ∷ [] else codes "\\x" ++ byte_hex b

-- a text, byte by byte
abbrev pub escapes : List ℕ → List ℕ
escapes t = flat_map escaped t

-- the text of an argument
abbrev pub arg_text : Arg → List ℕ
arg_text (arg.Uint32 n) = decimal n
arg_text (arg.Int32 z) = signed_decimal z
arg_text (arg.Uint64 n) = decimal n
arg_text (arg.Int64 z) = signed_decimal z
arg_text (arg.Float n) = word_hex n
arg_text (arg.Fd h) = codes "fd " ++ decimal h.0
arg_text (arg.String None) = codes "None"
arg_text (arg.String (Some t)) = codes "Some(\"" ++ (escapes t.now ++ codes "\")")
arg_text (arg.NewId n) = codes "new_id " ++ number_hex n
arg_text (arg.Id n) = codes "id " ++ number_hex n
