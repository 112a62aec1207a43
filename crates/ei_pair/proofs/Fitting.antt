-- The numbers and texts of the items of a device's description, as far as they were read.
use Rattle.std.proofs.Common.{ℕ, ◌+◌, ◌<◌, List, [], ◌∷◌, ◌++◌, length, get_or, take, sym, subst}
use Rattle.std.proofs.lemmas.List.{take_more}
use Rattle.ei_request.specs.declared.making.DeviceSetup.{DeviceSetup}
use Rattle.ei_acts.specs.Sendable.{IsLawful, AreLawful}

lawful_push : (items : List DeviceSetup) (item : DeviceSetup) → AreLawful items → IsLawful item → AreLawful (items ++ item ∷ [])
lawful_push [] item all one = (one, tt)
lawful_push (first ∷ items) item all one = (all.0, lawful_push items item all.1 one)

pub lawful_more : (items : List DeviceSetup) (i : ℕ) (other : DeviceSetup) → i < length items → AreLawful (take i items) → IsLawful (get_or items i other) → AreLawful (take (i + 1) items)
lawful_more items i other lt all one = subst AreLawful (sym (take_more items i other lt)) (lawful_push (take i items) (get_or items i other) all one)
