-- The pieces that a text spells, a line each.
use Rattle.std.specs.Prelude.{◌≡◌, ℕ, ◌+◌, ◌-◌, ◌^◌, min, ◌==◌, ◌||◌, nat_lt, Bool, false, if◌then◌else◌}
use Rattle.std.specs.Prelude.{List, [], ◌∷◌, ◌++◌, length, take, map, Option, Some, None, Result, Ok, Err}
use Rattle.std.specs.Option.{option_map}
use Rattle.hex.specs.Hex.{decode_of}
use Rattle.hex.specs.declared.error.FromHexError.{FromHexError}
use Rattle.ei_spec.specs.Piece.{Piece}
use Rattle.reis_lines.specs.declared.held.TheConstants.{LONGEST_LINE}

-- whether a newline stands in these bytes
abbrev pub has_newline : List ℕ → Bool
has_newline [] = false
has_newline (b ∷ bs) = (b == 10) || has_newline bs

-- the bytes in front of the first of some lines
abbrev pub onto : List ℕ → List (List ℕ) → List (List ℕ)
onto a [] = a ∷ []
onto a (l ∷ ls) = (a ++ l) ∷ ls

-- the lines of a text: what stands before, between and behind its newlines
abbrev pub split : List ℕ → List (List ℕ)
split [] = [] ∷ []
split (b ∷ bs) = if b == 10 then [] ∷ split bs else onto (b ∷ []) (split bs)

-- the bytes, if the digits spell any
abbrev pub decoded : Result (List ℕ) FromHexError → Option (List ℕ)
decoded (Ok bytes) = Some bytes
decoded (Err e) = None

-- the bytes that a line spells: it has hexadecimal digits, an even number, and no more than the longest line
abbrev pub line_bytes : List ℕ → Option (List ℕ)
line_bytes [] = None
line_bytes (b ∷ bs) = if nat_lt LONGEST_LINE (length (b ∷ bs)) then None else decoded (decode_of (b ∷ bs))

-- the piece of these bytes, if there are any, in front of the others; else none at all
abbrev pub piece_before : Option (List ℕ) → List Piece → List Piece
piece_before None others = []
piece_before (Some bytes) others = record { bytes = bytes; handles = [] } ∷ others

-- the pieces of the lines up to the first that is empty or bad
abbrev pub pieces_of_lines : List (List ℕ) → List Piece
pieces_of_lines [] = []
pieces_of_lines (l ∷ ls) = piece_before (line_bytes l) (pieces_of_lines ls)

-- the pieces that a text spells
unfoldable pub pieces_of : List ℕ → List Piece
pieces_of text = pieces_of_lines (split text)

-- the line after a line that spells something has the next number; a line that spells nothing is the first
abbrev pub number_behind : Option (List ℕ) → Option ℕ → Option ℕ
number_behind None others = Some 1
number_behind (Some bytes) others = option_map (λ n. n + 1) others

-- the same of a line that may be empty, where no line is bad
abbrev pub bad_line_before : List ℕ → Option ℕ → Option ℕ
bad_line_before [] others = None
bad_line_before (b ∷ bs) others = number_behind (line_bytes (b ∷ bs)) others

-- the number, from 1, of the first bad line, where no empty line comes before it
abbrev pub bad_line_of_lines : List (List ℕ) → Option ℕ
bad_line_of_lines [] = None
bad_line_of_lines (l ∷ ls) = bad_line_before l (bad_line_of_lines ls)

-- the number, from 1, of the first bad line of a text
unfoldable pub bad_line_of : List ℕ → Option ℕ
bad_line_of text = bad_line_of_lines (split text)

-- a line's number behind so many lines, up to the last value of the number
abbrev pub number_from : ℕ → Option ℕ → Option ℕ
number_from line o = option_map (λ n. min (line + n) (2 ^ 64 - 1)) o

-- ---- a text that was given in part

-- the bytes in front of the first newline
abbrev pub before_newline : List ℕ → List ℕ
before_newline [] = []
before_newline (b ∷ bs) = if b == 10 then [] else b ∷ before_newline bs

-- the piece that a line spells
abbrev pub piece_of_line : List ℕ → Option Piece
piece_of_line line = option_map (λ bytes. record { bytes = bytes; handles = [] }) (line_bytes line)

-- what these lines spell, one by one, are these pieces
abbrev pub Spell : List (List ℕ) → List Piece → Type 0
Spell lines pieces = map piece_of_line lines ≡ map (λ p. Some p) pieces

-- the lines that a newline ends: all but what stands behind the last one
abbrev pub whole_lines : List ℕ → List (List ℕ)
whole_lines text = take (length (split text) - 1) (split text)

-- Of a text these are the pieces of the lines given whole, each of which spells one. A line is whole once its newline was given:
-- bytes behind the last newline are none, also where they are the last of the text, since the input hasn't said that it ends there.
pub record AreGiven (text : List ℕ) (left : Option (List ℕ)) (pieces : List Piece) : Type 0 where
  pub rest : List ℕ
  pub left_is : left ≡ Some rest
  pub given : List ℕ
  pub text_is : text ≡ given ++ rest
  pub spelled : Spell (whole_lines given) pieces
