-- What stands around a session: its source, the requests that it handed out, its sink and its clock.
use Rattle.std.specs.Prelude.{◌≡◌, ℕ, zero, suc, List, [], ◌∷◌, length, drop, Option, Some, None}
use Rattle.ei_backend.specs.Outside.{SourceView, SinkView}
use Rattle.ei_backend.specs.declared.outside.LastAnswer.TheVariants as answers
use Rattle.ei_request.specs.declared.event.EisRequest.{EisRequest}

-- What the source and the sink say of themselves; the readings that the clock has left, where it tells them; and the requests that
-- were handed out.
pub record Around : Type 0 where
  pub source : SourceView
  pub out : List EisRequest
  pub sink : SinkView
  pub readings : Option (List ℕ)

abbrev pub around : SourceView → List EisRequest → SinkView → Option (List ℕ) → Around
around source out sink readings = record { source = source; out = out; sink = sink; readings = readings }

-- the source, where a call has none
abbrev pub no_source : SourceView
no_source = record { left = None; given = []; faults = 0; asked = 0; last = answers.Nothing }

-- what stands around a call that has no source
abbrev pub beside : List EisRequest → SinkView → Option (List ℕ) → Around
beside out sink readings = around no_source out sink readings

-- the first n readings, with 0 past their end
abbrev pub first_readings : ℕ → List ℕ → List ℕ
first_readings zero told = []
first_readings (suc n) [] = 0 ∷ first_readings n []
first_readings (suc n) (t ∷ told) = t ∷ first_readings n told

-- a clock that told its readings gave these: the first, and 0 past their end
abbrev pub AreDrawn : List ℕ → Option (List ℕ) → Type 0
AreDrawn used before = (told : List ℕ) → before ≡ Some told → used ≡ first_readings (length used) told

-- and has the others left
abbrev pub LeavesReadings : List ℕ → Option (List ℕ) → Option (List ℕ) → Type 0
LeavesReadings used before after = (told : List ℕ) → before ≡ Some told → after ≡ Some (drop (length used) told)
