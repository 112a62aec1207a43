-- What an input says of itself, and what a fetch does to that.
use Rattle.std.specs.Prelude.{◌≡◌, ◌≤◌, ℕ, List, [], ◌∷◌, ◌++◌, length, take, drop, Option, Some, Result, Ok, Err}
use Rattle.ei_backend.specs.Memory.{FailingView}
use Rattle.ei_backend.specs.Outside.{HasCause, CountsOne, answer_at}
use Rattle.ei_backend.specs.declared.outside.Fault.{Fault}
use Rattle.ei_backend.specs.declared.outside.LastAnswer.{LastAnswer}
use Rattle.ei_backend.specs.declared.outside.LastAnswer.TheVariants as answers

-- what a fetch answered: the bytes that it gave, none at the end, or its fault
abbrev pub Fetched : Type 0
Fetched = Result (List ℕ) Fault

-- an input: the text that it has left, where it tells it, and the bytes that it gave so far, one after another; what each fetch
-- answered, the newest last; how often it failed, and how often it was asked; and what it answered last
pub record InputView : Type 0 where
  pub left : Option (List ℕ)
  pub given : List ℕ
  pub fetches : List Fetched
  pub faults : ℕ
  pub asked : ℕ
  pub last : LastAnswer

-- ---- an input's fetch

-- the next bytes of a text
pub record ReadsOn (text : List ℕ) (new : Option (List ℕ)) (n : ℕ) (bytes : List ℕ) : Type 0 where
  pub left : new ≡ Some (drop n text)
  pub read : take n bytes ≡ take n text
  pub within : n ≤ length text
  pub ends : n ≡ 0 → text ≡ []

-- where an input told its text, it gave the next bytes; a fault leaves it
abbrev pub Fetches : Option (List ℕ) → Option (List ℕ) → Result ℕ Fault → List ℕ → Type 0
Fetches old new (Ok n) bytes = (text : List ℕ) → old ≡ Some text → ReadsOn text new n bytes
Fetches old new (Err e) bytes = (text : List ℕ) → old ≡ Some text → new ≡ Some text

-- told or not, an input has given what it gave before, and then the first n bytes; a fault gives none
abbrev pub Gives : List ℕ → List ℕ → Result ℕ Fault → List ℕ → Type 0
Gives old new (Ok n) bytes = new ≡ old ++ take n bytes
Gives old new (Err e) bytes = new ≡ old

-- a fetch's answer, with the bytes that it gave
abbrev pub answer_with : Result ℕ Fault → List ℕ → Fetched
answer_with (Ok n) bytes = Ok (take n bytes)
answer_with (Err e) bytes = Err e

-- the answer that an input keeps after a fetch
abbrev pub last_fetched : Result ℕ Fault → LastAnswer
last_fetched (Err e) = answers.Fault
last_fetched (Ok n) = answer_at n

-- what a fetch does to what the input says
pub record IsFetch (old new : InputView) (result : Result ℕ Fault) (bytes : List ℕ) : Type 0 where
  pub text : Fetches old.left new.left result bytes
  pub given : Gives old.given new.given result bytes
  pub fetches : new.fetches ≡ old.fetches ++ answer_with result bytes ∷ []
  pub cause : HasCause old.faults new.faults result
  pub asked : CountsOne old.asked new.asked
  pub last : new.last ≡ last_fetched result

-- ---- a text in memory

-- a text in memory: the text left, the bytes given, what each fetch answered, which calls fail, the last answer
pub record TextView : Type 0 where
  pub left : List ℕ
  pub given : List ℕ
  pub fetches : List Fetched
  pub failing : FailingView
  pub last : LastAnswer

-- a text in memory tells all of itself
abbrev pub input_of : TextView → InputView
input_of t = record { left = Some t.left; given = t.given; fetches = t.fetches; faults = t.failing.faults; asked = t.failing.calls; last = t.last }
