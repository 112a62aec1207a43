-- What a filter hands out of a record.
use Rattle.std.specs.Prelude.{◌≡◌, ℕ, Bool, List, [], ◌∷◌, ◌++◌, map, take, length}
use Rattle.std.specs.List.{filter, AllZip}
use Rattle.ei_spec.specs.Groups.{Timed, Framed, Plain as Given}
use Rattle.ei_session.specs.Requests.{Request}
use Rattle.ei_filter.specs.Sifted.{Test, passes, kept, sifted}

-- the tests of the rules that are asked
abbrev pub enabled : {R : Type 0} → (R → Test) → (R → Bool) → List R → List Test
enabled test asked rules = map test (filter asked rules)

-- the items that pass, at their own times
unfoldable pub passed_from : List Test → List Request → List Request → List Request
passed_from tests before [] = []
passed_from tests before (item ∷ later) =
    kept (passes tests before item later) item (passed_from tests (item ∷ before) later)

abbrev pub passed : List Test → List Request → List Request
passed tests items = passed_from tests [] items

-- the times of the frames
abbrev pub frame_times : List Request → List ℕ
frame_times [] = []
frame_times (Timed device input time ∷ items) = frame_times items
frame_times (Framed device serial time ∷ items) = time ∷ frame_times items
frame_times (Given y ∷ items) = frame_times items

module _ {R : Type 0} (see : R → Request) (may : ℕ → ℕ → Type 0) (tests : List Test) (items : List Request) where
  -- `out` has grown by what passes of the items; each frame that passes has a time that may stand for its own
  pub record Sifts (old new : List R) : Type 0 where
    pub grown : List R
    pub grew : new ≡ old ++ grown
    pub times : List ℕ
    pub given : AllZip may (frame_times (passed tests items)) times
    pub passing : map see grown ≡ sifted tests times items

  -- by a front of that: so with these times of the first frames that pass, whatever those of the others are
  pub record SiftsInPart (old new : List R) : Type 0 where
    pub grown : List R
    pub grew : new ≡ old ++ grown
    pub times : List ℕ
    pub given : AllZip may (take (length times) (frame_times (passed tests items))) times
    pub front : (more : List ℕ) → (rest : List Request) × (sifted tests (times ++ more) items ≡ map see grown ++ rest)
