-- What a source, a sink and a clock in memory show, and how they count.
use Rattle.std.specs.Prelude.{◌≡◌, ◌<◌, ◌≤◌, ◌↔◌, ℕ, ◌+◌, ◌-◌, ◌^◌, min, List, [], ◌∷◌, ◌++◌, length, Contains, Result, Ok, Err, Some, refl}
use Rattle.std.proofs.Common.{◌∙◌}
use Rattle.ei_spec.specs.Piece.{Piece}
use Rattle.ei_backend.specs.declared.outside.PutError.{PutError}
use Rattle.ei_backend.specs.declared.outside.PutError.TheVariants as put_errors
use Rattle.ei_backend.specs.declared.outside.Taken.{Taken}
use Rattle.ei_backend.specs.declared.outside.LastAnswer.{LastAnswer}
use Rattle.ei_backend.specs.Outside.{SourceView, SinkView, ClockView}
use Rattle.ei_spec.specs.declared.limits.TheConstants.{MOST_PIECE_BYTES, MOST_PIECE_HANDLES}

-- the calls that fail, by their numbers, and the calls and faults so far
pub record FailingView : Type 0 where
  pub fails : List ℕ
  pub calls : ℕ
  pub faults : ℕ

-- a source: the pieces left, the pieces given, which calls fail, the last answer
pub record PiecesView : Type 0 where
  pub left : List Piece
  pub given : List Piece
  pub failing : FailingView
  pub last : LastAnswer

-- a sink: what it took, what was put at each call, which calls fail, the wants of memory so far
pub record TrayView : Type 0 where
  pub held : Piece
  pub puts : List Piece
  pub failing : FailingView
  pub wants : ℕ

-- a clock: the readings left
pub record ReadingsView : Type 0 where
  pub left : List ℕ

-- at least one byte, and at most the bytes and handles of a piece
pub record IsPiece (piece : Piece) : Type 0 where
  pub some : 0 < length piece.bytes
  pub bytes : length piece.bytes ≤ MOST_PIECE_BYTES
  pub handles : length piece.handles ≤ MOST_PIECE_HANDLES

-- one more, up to the last value of a count
abbrev pub counted : ℕ → ℕ
counted n = min (n + 1) (2 ^ 64 - 1)

-- no call fails, and there was none
abbrev pub never_failing : FailingView
never_failing = record { fails = []; calls = 0; faults = 0 }

-- the call of that number fails too
abbrev pub added : ℕ → FailingView → FailingView
added call failing = record failing { fails = failing.fails ++ call ∷ [] }

-- a call was counted: it failed exactly where its number was to fail, and only then a fault was counted
pub record CountsCall (failed : Type 0) (old new : FailingView) : Type 0 where
  pub fails : failed ↔ Contains old.fails (counted old.calls)
  pub calls : new.calls ≡ counted old.calls
  pub faults : failed → new.faults ≡ counted old.faults
  pub kept : ¬ failed → new.faults ≡ old.faults
  pub later : old.faults ≤ new.faults
  pub same_fails : new.fails ≡ old.fails

-- the sizes of the first piece, or none where there is no piece
abbrev pub first_sizes : List Piece → Taken
first_sizes [] = record { bytes = 0; handles = 0 }
first_sizes (p ∷ ps) = record { bytes = length p.bytes; handles = length p.handles }

-- the count of wants of memory after a put: a fault is none
abbrev pub wants_after_put : Result ℕ PutError → ℕ → ℕ
wants_after_put (Ok n) wants = wants
wants_after_put (Err put_errors.Fault) wants = wants
wants_after_put (Err put_errors.NoMemory) wants = counted wants

-- The calls that fail stay the same ones, and where there are none no fault is counted.
pub record KeepsFailing (old new : FailingView) : Type 0 where
  pub fails : new.fails ≡ old.fails
  pub faults : old.fails ≡ [] → new.faults ≡ old.faults

-- so it is with no call
abbrev pub keeps_failing : (f : FailingView) → KeepsFailing f f
keeps_failing f = record { fails = refl; faults = λ none. refl }

-- and with two
abbrev pub keeps_failing_twice : (f g h : FailingView) → KeepsFailing f g → KeepsFailing g h → KeepsFailing f h
keeps_failing_twice f g h first second = record { fails = second.fails ∙ first.fails; faults = λ none. second.faults (first.fails ∙ none) ∙ first.faults none }

-- ---- what they say of themselves

-- a source in memory tells all its pieces
abbrev pub source_of : PiecesView → SourceView
source_of p = record { left = Some p.left; given = p.given; faults = p.failing.faults; asked = p.failing.calls; last = p.last }

-- a sink in memory tells all that it took, and all that was put to it
abbrev pub sink_of : TrayView → SinkView
sink_of t = record { taken = Some t.held; puts = Some t.puts; faults = t.failing.faults; wants = t.wants }

-- a clock in memory tells all its readings, and never fails
abbrev pub clock_of : ReadingsView → ClockView
clock_of r = record { left = Some r.left; faults = 0 }
