-- A call spent a pair: what is said of a side, by the sides, and whether an endpoint is closed behind a read.
use Rattle.std.proofs.Common.{◌≡◌, ℕ, Bool, true, List, Option, Some, None, refl}
use Rattle.ei_spec.specs.Interface.{ObjectView}
use Rattle.ei_spec.specs.Message.{Raw, Front, Short, Unlawful, Whole, front}
use Rattle.ei_backend.specs.Backend.{BackendView, of_target, of_front, next}
use Rattle.ei_backend.specs.Table.{found}
use Rattle.ei_linked.specs.declared.side.Side.{Side}
use Rattle.ei_linked.specs.declared.side.Side.TheVariants as side
use Rattle.ei_promises.specs.Pair.{PairView, wanted}
use Rattle.ei_pair.specs.Spent.{StaysClosed}

-- ---- by the sides

pub both_want : {H : Type 0} (old new : PairView H) → new.client_wanted ≡ old.client_wanted → new.server_wanted ≡ old.server_wanted → (s : Side) → wanted s new ≡ wanted s old
both_want old new client server side.Client = client
both_want old new client server side.Server = server

pub both_closed : {H : Type 0} (old new : PairView H) → (old.ends.client.backend.closed ≡ true → new.ends.client.backend.closed ≡ true) → (old.ends.server.backend.closed ≡ true → new.ends.server.backend.closed ≡ true) →
    (s : Side) → StaysClosed s old new
both_closed old new client server side.Client = client
both_closed old new client server side.Server = server

-- ---- a read closes nothing

target_closed : (events : Bool) (b : BackendView) (target : Option ObjectView) (m : Raw) (rest : List ℕ) → (of_target events b target m rest).1.closed ≡ b.closed
target_closed events b None m rest = refl
target_closed events b (Some target) m rest = refl

front_closed : (events : Bool) (b : BackendView) (f : Front) → (of_front events b f).1.closed ≡ b.closed
front_closed events b Short = refl
front_closed events b (Unlawful n) = refl
front_closed events b (Whole m rest) = target_closed events b (found b.table m.id) m rest

pub next_closed : (events : Bool) (b : BackendView) → (next events b).1.closed ≡ b.closed
next_closed events b = front_closed events b (front b.unread)
