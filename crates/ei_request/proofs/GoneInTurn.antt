-- Objects that go, one after another.
use Rattle.std.proofs.Common.{◌≡◌, ℕ, List, [], ◌∷◌, ◌++◌, refl}
use Rattle.ei_backend.specs.Endpoint.{Endpoint}
use Rattle.ei_request.specs.Connection.{next_serial}
use Rattle.ei_request.specs.Sending.{destroys, destroys_all, serial_after}

pub destroys_last : (e : Endpoint) (s : ℕ) (ids : List ℕ) (id : ℕ) → destroys_all e s (ids ++ id ∷ []) ≡ destroys (destroys_all e s ids) id (next_serial (serial_after s ids))
destroys_last e s [] id = refl
destroys_last e s (x ∷ ids) id = destroys_last (destroys e x (next_serial s)) (next_serial s) ids id

pub serial_last : (s : ℕ) (ids : List ℕ) (id : ℕ) → serial_after s (ids ++ id ∷ []) ≡ next_serial (serial_after s ids)
serial_last s [] id = refl
serial_last s (x ∷ ids) id = serial_last (next_serial s) ids id
