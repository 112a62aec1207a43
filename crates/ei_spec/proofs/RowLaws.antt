-- What stands for each value of a row is read as these values.
use Rattle.std.proofs.Common.{◌≡◌, List, [], ◌∷◌, Ok, refl}
use Rattle.ei_spec.specs.Value.{Kind, Value}
use Rattle.ei_spec.specs.Spelling.{AllBegin}
use Rattle.ei_spec.specs.Reading.{Unread, all_at}
use Rattle.ei_spec.proofs.Again.{again}

pub all_again : (ks : List Kind) (vs : List Value) (s t : Unread) → AllBegin ks vs s t → all_at ks s ≡ Ok (vs, t)
all_again [] [] s t h = rw h refl
all_again [] (v ∷ vs) s t h = absurd h
all_again (k ∷ ks) [] s t h = absurd h
all_again (k ∷ ks) (v ∷ vs) s t h = rw (again k v s h.0 h.1, all_again ks vs h.0 t h.2) refl
