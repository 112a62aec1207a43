-- The text that the program writes.
use Rattle.std.specs.Prelude.{◌≡◌, ◌≤◌, ℕ, List, [], ◌∷◌, ◌++◌, length, take, codes, Option, Some, Result, Ok, Err}
use Rattle.hex.specs.Hex.{encode_lower}
use Rattle.ei_backend.specs.Outside.{Piece, with_more}
use Rattle.ei_backend.specs.declared.outside.PutError.{PutError}

-- a line and its newline
abbrev pub line_of : List ℕ → List ℕ
line_of text = text ++ 10 ∷ []

-- the line of the reply bytes, in lower-case hexadecimal
abbrev pub reply_line : List ℕ → List ℕ
reply_line reply = line_of (codes "reply " ++ encode_lower reply)

-- a sink that held this has it with the bytes behind it
abbrev pub Holds : Piece → List ℕ → Option Piece → Type 0
Holds held bytes now = now ≡ Some (with_more bytes [] held)

-- all of the text went to the sink, or a front of it
abbrev pub Writes : Piece → List ℕ → Result (Unit {0}) PutError → Option Piece → Type 0
Writes held text (Ok u) now = Holds held text now
Writes held text (Err e) now = (n : ℕ) × (n ≤ length text) × Holds held (take n text) now
