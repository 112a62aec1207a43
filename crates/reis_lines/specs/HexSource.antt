-- A source over the lines of an input.
use Rattle.std.specs.Prelude.{◌≡◌, ◌<◌, ◌≤◌, ◌⊎◌, ℕ, ◌+◌, ◌-◌, ◌^◌, min, length, List, [], ◌∷◌, ◌++◌, take, map, slice_get}
use Rattle.std.specs.Prelude.{Option, Some, None, IsSome, Result, Ok, Err, Bool, true, false}
use Rattle.std.specs.Option.{option_map}
use Rattle.std.specs.Borrow.{GName}
use Rattle.ei_spec.specs.Piece.{Piece}
use Rattle.ei_backend.specs.Outside.{SourceView, Rose, given_with, is_end}
use Rattle.reis_lines.specs.Input.{Fetched, InputView}
use Rattle.reis_lines.specs.Asking.{given_in, says_end, last_is, HasLine}
use Rattle.ei_backend.specs.declared.outside.Fault.{Fault}
use Rattle.ei_backend.specs.declared.outside.LastAnswer.{LastAnswer}
use Rattle.ei_backend.specs.declared.outside.LastAnswer.TheVariants as answers
use Rattle.reis_lines.specs.Text.{has_newline, before_newline, line_bytes, Spell, pieces_of}
use Rattle.reis_lines.specs.Held.{Moves}
use Rattle.reis_lines.specs.declared.held.TheConstants.{LONGEST_LINE, ROOM}
use Rattle.reis_lines.specs.declared.hex_source.HexSource.{HexSource}

-- How far a source has read its input: the bytes held, whether the input answered its end, how many lines went, the bad line that
-- it met, the faults for that line, and the pieces given so far.
pub record Reading (I : Type 0) : Type 0 where
  pub input : I
  pub held : List ℕ
  pub ended : Bool
  pub line : ℕ
  pub bad : Option ℕ
  pub bad_faults : ℕ
  pub pieces : List Piece

-- the reading of a source
abbrev pub text_reading : {I : Type 0} → HexSource I → Reading I
text_reading s = record {
  input = s.input.now;
  held = s.held;
  ended = s.ended;
  line = s.line;
  bad = s.bad;
  bad_faults = s.bad_faults;
  pieces = s.given.pieces;
}

-- what the source answered last
abbrev pub answer_of : {I : Type 0} → HexSource I → LastAnswer
answer_of s = s.last

-- the reading of an input that was not asked yet
abbrev pub fresh : {I : Type 0} → I → Reading I
fresh input = record { input = input; held = []; ended = false; line = 0; bad = None; bad_faults = 0; pieces = [] }

-- the name of the reference that a source holds
abbrev pub reference_of : {I : Type 0} → HexSource I → GName
reference_of s = s.input.ghost_name

-- the text told, of which nothing is left where the input answered its end
abbrev pub unless_ended : Bool → Option (List ℕ) → Option (List ℕ)
unless_ended true (Some t) = Some []
unless_ended ended told = told

-- the text left behind the bytes held, where the input tells it
abbrev pub unread : {I : Type 0} → (I → InputView) → Reading I → Option (List ℕ)
unread view r = unless_ended r.ended (view r.input).left

-- the pieces left, where the input tells its text
abbrev pub left_of : {I : Type 0} → (I → InputView) → Reading I → Option (List Piece)
left_of view r = option_map (λ t. pieces_of (r.held ++ t)) (unread view r)

-- the input's faults, and those for a bad line
abbrev pub faults_of : {I : Type 0} → (I → InputView) → Reading I → ℕ
faults_of view r = (view r.input).faults + r.bad_faults

-- what the source says of itself
abbrev pub source_of : {I : Type 0} → (I → InputView) → HexSource I → SourceView
source_of view s = record {
  left = left_of view (text_reading s);
  given = s.given.pieces;
  faults = faults_of view (text_reading s);
  asked = s.asked;
  last = s.last;
}

-- lines, one after another
abbrev pub joined_lines : List (List ℕ) → List ℕ
joined_lines [] = []
joined_lines (l ∷ ls) = l ++ joined_lines ls

-- Each line ends with its newline, and has no other; but a last one may have none where nothing follows and the input answered its end.
abbrev pub AreLines : List (List ℕ) → List ℕ → Bool → Type 0
AreLines [] rest ended = Unit {0}
AreLines (l ∷ ls) rest ended =
    ((l ≡ before_newline l ++ 10 ∷ []) × AreLines ls rest ended)
    ⊎ ((0 < length l) × (l ≡ before_newline l) × (ls ≡ []) × (rest ≡ []) × (ended ≡ true))

-- The bytes held, and then those given behind them, are these lines, handed out as these pieces, and the bytes held now. The lines'
-- number is counted, up to its last value.
pub record LaterLines (held given held_new : List ℕ) (line line_new : ℕ) (ended : Bool) : Type 0 where
  pub lines : List (List ℕ)
  pub pieces : List Piece
  pub same : held ++ given ≡ joined_lines lines ++ held_new
  pub are_lines : AreLines lines held_new ended
  pub spelled : Spell (map before_newline lines) pieces
  pub grown : min line_new (2 ^ 64 - 1) ≡ min (line + length lines) (2 ^ 64 - 1)

-- The first line held is bad, and has this number behind the lines that went. It isn't empty, and spells nothing; all of it is
-- held: its newline, or more bytes than a line has, or all that the input had.
pub record HoldsBadLine (held : List ℕ) (ended : Bool) (line n : ℕ) : Type 0 where
  pub number : n ≡ min (line + 1) (2 ^ 64 - 1)
  pub some : 0 < length (before_newline held)
  pub spells : line_bytes (before_newline held) ≡ None
  pub whole : (has_newline held ≡ true) ⊎ ((LONGEST_LINE < length held) ⊎ (ended ≡ true))

-- nothing was read and no line went
pub record Stands {I : Type 0} (x y : Reading I) : Type 0 where
  pub input : y.input ≡ x.input
  pub held : y.held ≡ x.held
  pub ended : y.ended ≡ x.ended
  pub line : y.line ≡ x.line
  pub bad : y.bad ≡ x.bad

-- nothing was asked, or the input's end is known exactly where it was its last answer
abbrev pub KnowsEnd : {I : Type 0} → (I → InputView) → Reading I → Reading I → Type 0
KnowsEnd view x y = ((y.input ≡ x.input) × (y.ended ≡ x.ended)) ⊎ (y.ended ≡ is_end (view y.input).last)

-- these bytes of the unread view were given, and the others are left
abbrev pub LeftBehind : Option (List ℕ) → List ℕ → Option (List ℕ) → Type 0
LeftBehind old bytes new = (t : List ℕ) → old ≡ Some t → (rest : List ℕ) × (new ≡ Some rest) × (t ≡ bytes ++ rest)

-- the input's end is known; or with these answers a line is there, or the last of them has no byte
abbrev pub EndsOrHasLine : Bool → List ℕ → List Fetched → Type 0
EndsOrHasLine ended held fetches = (ended ≡ true) ⊎ HasLine held fetches

-- the same, or a bad line was met
abbrev pub AsksNoMore : {I : Type 0} → Reading I → List Fetched → Type 0
AsksNoMore r fetches = IsSome r.bad ⊎ EndsOrHasLine r.ended r.held fetches

-- Of the bytes seen lines went, the first of these, and what is behind them holds no line.
pub record WantsLine (seen : List ℕ) (lines : List (List ℕ)) : Type 0 where
  pub went : List (List ℕ)
  pub others : List (List ℕ)
  pub first : lines ≡ went ++ others
  pub rest : List ℕ
  pub same : seen ≡ joined_lines went ++ rest
  pub quiet : has_newline rest ≡ false
  pub short : length rest ≤ LONGEST_LINE

-- The input gave these bytes in answers of which each was asked for where no line was there behind those that went, and no end was
-- answered before. An end that it answered last is known.
pub record LaterFetches (old new : List Fetched) (held bytes : List ℕ) (lines : List (List ℕ)) (ended : Bool) : Type 0 where
  pub fetches : List Fetched
  pub answered : new ≡ old ++ fetches
  pub given : bytes ≡ given_in fetches
  pub open_yet : (n : ℕ) → n < length fetches → last_is says_end (take n fetches) ≡ false
  pub needed : (n : ℕ) → n < length fetches → WantsLine (held ++ given_in (take n fetches)) lines
  pub ends : last_is says_end fetches ≡ true → ended ≡ true

-- A reading goes on. Whatever the input tells, the bytes that it gave are lines that went and the bytes held, and the pieces given
-- since are those that the lines spell; a text that it told is these bytes and then what is left. The input is asked only where no
-- line is there, and not behind its end, and no more bytes are held than a buffer has room for. A bad line that is met stands at the
-- front of the bytes held, and behind it nothing is read. The input's count of faults has not fallen, nor that of the faults for the
-- bad line.
pub record LaterReading
    {I : Type 0} (view : I → InputView) (later : I → I → Type 0) (x y : Reading I)
    : Type 0 where
  pub input : later x.input y.input
  pub count : (view x.input).faults ≤ (view y.input).faults
  pub bytes : List ℕ
  pub gave : (view y.input).given ≡ (view x.input).given ++ bytes
  pub lines : LaterLines x.held bytes y.held x.line y.line y.ended
  pub fetched : LaterFetches (view x.input).fetches (view y.input).fetches x.held bytes lines.lines y.ended
  pub pieces : y.pieces ≡ x.pieces ++ lines.pieces
  pub left : LeftBehind (unread view x) bytes (unread view y)
  pub told : (t : List ℕ) → unread view x ≡ Some t → (view x.input).left ≡ Some t → (view y.input).left ≡ unread view y
  pub asked : KnowsEnd view x y
  pub ended : x.ended ≡ true → (y.input ≡ x.input) × (y.ended ≡ true)
  pub kept : (n : ℕ) → x.bad ≡ Some n → Stands x y
  pub unmet : y.bad ≡ None → (x.bad ≡ None) × (x.bad_faults ≡ y.bad_faults)
  pub met : x.bad ≡ None → (n : ℕ) → y.bad ≡ Some n → Rose x.bad_faults y.bad_faults
  pub holds : x.bad ≡ None → (n : ℕ) → y.bad ≡ Some n → HoldsBadLine y.held y.ended y.line n
  pub bad_count : x.bad_faults ≤ y.bad_faults
  pub fits : length x.held ≤ ROOM → length y.held ≤ ROOM

-- no line comes next: the text is at its end, or an empty line comes
abbrev pub IsAtEnd : List ℕ → Type 0
IsAtEnd text = (text ≡ []) ⊎ (slice_get text 0 ≡ Some 10)

-- no line comes, whatever the input tells: it answered its end and no byte is held, or an empty line is
abbrev pub HoldsEnd : List ℕ → Bool → Type 0
HoldsEnd held ended = ((held ≡ []) × (ended ≡ true)) ⊎ (slice_get held 0 ≡ Some 10)

-- no whole line is held, and the input has not answered its end
abbrev pub HoldsNoLine : List ℕ → Bool → Type 0
HoldsNoLine held ended = (has_newline held ≡ false) × (ended ≡ false)

-- the input failed, while no whole line was held
abbrev pub FailsHere : {I : Type 0} → (I → InputView) → Reading I → Type 0
FailsHere view r = HoldsNoLine r.held r.ended × ((view r.input).last ≡ answers.Fault)

-- an end was answered only where no line comes, and a fault only where the input failed and no whole line is held, or at a bad line
pub record AnswersTruly {I : Type 0} (view : I → InputView) (r : Reading I) (answer : LastAnswer) : Type 0 where
  pub ends : answer ≡ answers.End → HoldsEnd r.held r.ended
  pub fails : answer ≡ answers.Fault → FailsHere view r ⊎ IsSome r.bad

-- where the input tells its text, the end was answered only where no line comes next
abbrev pub EndsTruly : {I : Type 0} → (I → InputView) → Reading I → LastAnswer → Type 0
EndsTruly view r last = last ≡ answers.End → (t : List ℕ) → unread view r ≡ Some t → IsAtEnd (r.held ++ t)

-- the same input is borrowed still, its reading went on, and the last answer stays true
pub record LaterSource
    {I : Type 0} (view : I → InputView) (later : I → I → Type 0) (x y : HexSource I)
    : Type 0 where
  pub same_reference : reference_of x ≡ reference_of y
  pub reading : LaterReading view later (text_reading x) (text_reading y)
  pub truly : AnswersTruly view (text_reading x) (answer_of x) → AnswersTruly view (text_reading y) (answer_of y)
  pub ends : (t : List ℕ) → unread view (text_reading x) ≡ Some t → EndsTruly view (text_reading x) (answer_of x) →
      EndsTruly view (text_reading y) (answer_of y)

-- the first line went, as this many bytes, or no line comes next
pub record HandsLine (held text held_new : List ℕ) (left : Option (List ℕ)) (n : ℕ) (bytes : List ℕ) : Type 0 where
  pub rest : List ℕ
  pub left_is : left ≡ Some rest
  pub ends : n ≡ 0 → (pieces_of (held ++ text) ≡ []) × (held ++ text ≡ held_new ++ rest) × IsAtEnd (held_new ++ rest)
  pub piece : 0 < n → pieces_of (held ++ text) ≡ record { bytes = take n bytes; handles = [] } ∷ pieces_of (held_new ++ rest)

-- what becomes of the unread view
abbrev pub NextPiece : List ℕ → List ℕ → Result ℕ Fault → List ℕ → Option (List ℕ) → List ℕ → Type 0
NextPiece held text (Ok n) held_new left bytes = HandsLine held text held_new left n bytes
NextPiece held text (Err e) held_new left bytes = Moves held text held_new left

-- told or not, the pieces given so far are those before, and then the first n bytes as a piece; no byte and a fault give none
abbrev pub GivesLine : List Piece → List Piece → Result ℕ Fault → List ℕ → Type 0
GivesLine old new (Ok n) bytes = new ≡ given_with old n (record { bytes = take n bytes; handles = [] })
GivesLine old new (Err e) bytes = new ≡ old
