-- The bytes of a text that were read and not yet handed out.
use Rattle.std.specs.Prelude.{◌≡◌, ◌<◌, ◌≤◌, ◌+◌, ◌-◌, ℕ, List, [], ◌∷◌, ◌++◌, length, take, drop, false, Option, Some, None, Ok}
use Rattle.reis_lines.specs.Input.{Fetched}
use Rattle.reis_lines.specs.Text.{has_newline}
use Rattle.reis_lines.specs.declared.held.TheConstants.{ROOM}

-- the bytes held lie from the start to the end in the room, and no newline stands in those scanned
pub record IsBuffer (bytes : List ℕ) (start end scanned : ℕ) : Type 0 where
  pub room : length bytes ≡ ROOM
  pub order : start ≤ end
  pub within : end ≤ ROOM
  pub looked_at : scanned ≤ end - start
  pub quiet : has_newline (take scanned (drop start (take end bytes))) ≡ false

-- the first newline of these bytes stands at this place
pub record IsNewlineAt (bytes : List ℕ) (n : ℕ) : Type 0 where
  pub before : has_newline (take n bytes) ≡ false
  pub here : drop n bytes ≡ 10 ∷ drop (n + 1) bytes
  pub within : n < length bytes

-- where the first newline stands, if there is one
abbrev pub FindsNewline : Option ℕ → List ℕ → Type 0
FindsNewline (Some n) bytes = IsNewlineAt bytes n
FindsNewline None bytes = has_newline bytes ≡ false

-- bytes went from the text to those held
pub record Moves (held_old text held_new : List ℕ) (left : Option (List ℕ)) : Type 0 where
  pub rest : List ℕ
  pub left_is : left ≡ Some rest
  pub same : held_old ++ text ≡ held_new ++ rest

-- so many bytes of the text were read behind those held
pub record ReadsBehind (held_old text held_new : List ℕ) (left : Option (List ℕ)) (n : ℕ) : Type 0 where
  pub left_is : left ≡ Some (drop n text)
  pub held : held_new ≡ held_old ++ take n text
  pub ends : n ≡ 0 → text ≡ []

-- one answer more was given, of so many bytes, and these went behind the bytes held
pub record AnswersBehind (old new : List Fetched) (held_old held_new : List ℕ) (n : ℕ) : Type 0 where
  pub bytes : List ℕ
  pub answered : new ≡ old ++ Ok bytes ∷ []
  pub size : length bytes ≡ n
  pub held : held_new ≡ held_old ++ bytes

-- how long the first line is
abbrev pub line_len : Option ℕ → List ℕ → ℕ
line_len (Some n) held = n
line_len None held = length held

-- how many bytes go with the first line
abbrev pub line_skip : Option ℕ → List ℕ → ℕ
line_skip (Some n) held = n + 1
line_skip None held = length held
