-- How often an input is asked: until its answers are enough, and no more.
use Rattle.std.specs.Prelude.{◌≡◌, ◌<◌, ◌⊎◌, ℕ, Bool, true, false, List, [], ◌∷◌, ◌++◌, length, take, drop, Ok, Err}
use Rattle.std.specs.List.{flat_map}
use Rattle.reis_lines.specs.Input.{Fetched, InputView}
use Rattle.reis_lines.specs.Text.{has_newline}
use Rattle.reis_lines.specs.declared.held.TheConstants.{LONGEST_LINE}

-- the bytes of an answer
abbrev pub bytes_in : Fetched → List ℕ
bytes_in (Ok bytes) = bytes
bytes_in (Err e) = []

-- the bytes of these answers, one after another
abbrev pub given_in : List Fetched → List ℕ
given_in fetches = flat_map bytes_in fetches

-- whether an answer is the end of the text
abbrev pub says_end : Fetched → Bool
says_end (Ok []) = true
says_end (Ok (b ∷ bs)) = false
says_end (Err e) = false

-- whether an answer has no byte: it is the end, or a fault
abbrev pub has_no_byte : Fetched → Bool
has_no_byte (Ok []) = true
has_no_byte (Ok (b ∷ bs)) = false
has_no_byte (Err e) = true

-- whether there is an answer, and the last is so
abbrev pub last_is : (Fetched → Bool) → List Fetched → Bool
last_is test [] = false
last_is test (f ∷ []) = test f
last_is test (f ∷ g ∷ fs) = last_is test (g ∷ fs)

-- the answers that an input gave from one state to another
abbrev pub fetches_since : {I : Type 0} → (I → InputView) → I → I → List Fetched
fetches_since view old new = drop (length (view old).fetches) (view new).fetches

-- These answers are enough, and no fewer of them are: each was needed.
pub record AreJustEnough (Enough : List Fetched → Type 0) (fetches : List Fetched) : Type 0 where
  pub enough : Enough fetches
  pub needed : (n : ℕ) → n < length fetches → Enough (take n fetches) → ⊥

-- An input was asked until its answers were enough, and no more.
pub record AskedUntil {I : Type 0} (Enough : List Fetched → Type 0) (view : I → InputView) (old new : I) : Type 0 where
  pub fetches : List Fetched
  pub answered : (view new).fetches ≡ (view old).fetches ++ fetches
  pub just : AreJustEnough Enough fetches

-- ---- for a line

-- these bytes have a whole line, or more than a line has
abbrev pub HoldsLine : List ℕ → Type 0
HoldsLine held = (has_newline held ≡ true) ⊎ (LONGEST_LINE < length held)

-- behind the bytes held these answers make a line; or the last of them has no byte
abbrev pub HasLine : List ℕ → List Fetched → Type 0
HasLine held fetches = HoldsLine (held ++ given_in fetches) ⊎ (last_is has_no_byte fetches ≡ true)

-- An input was asked until its answers were enough, and their bytes went behind those held. Where the last answer was its end this is
-- known.
pub record AskedBehind
    {I : Type 0} (Enough : List Fetched → Type 0) (view : I → InputView) (old new : I) (held_old held_new : List ℕ) (ended : Bool)
    : Type 0 where
  pub asked : AskedUntil Enough view old new
  pub held : held_new ≡ held_old ++ given_in asked.fetches
  pub ends : last_is says_end asked.fetches ≡ true → ended ≡ true
