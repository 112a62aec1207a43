-- What the next one of those that wait is.
use Rattle.std.specs.Prelude.{◌≡◌, List, [], ◌∷◌, Option, Some, None}

-- the first one was taken out, or there was none
abbrev pub IsNext : {A : Type 0} → Option A → List A → List A → Type 0
IsNext None old new = (old ≡ []) × (new ≡ [])
IsNext (Some x) old new = old ≡ x ∷ new
