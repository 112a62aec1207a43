-- What is found in a table after a step of it, and which objects of the peer are accepted.
use Rattle.std.proofs.Common.{◌≡◌, ℕ, ◌+◌, ◌<◌, ◌≤◌, cond, eqb, Some, None, Ok, refl}
use Rattle.std.specs.FinMap.{insert}
use Rattle.std.proofs.lemmas.Bool.{le-ltb, lt-leb}
use Rattle.ei_spec.specs.Interface.{Interface, ObjectView}
use Rattle.ei_backend.specs.Table.{TableView, accept, found, own, peer_end, with_own, without}
use Rattle.ei_backend.proofs.Objects.{get_with, get_without}

pub found_own : (t : TableView) (i : Interface) (v id : ℕ) → found (with_own t i v) id ≡ cond (eqb id t.next_own) (Some (own t i v)) (found t id)
found_own t i v id = get_with t.objects t.next_own id (own t i v)

pub found_without : (t : TableView) (x id : ℕ) → found (without t x) id ≡ cond (eqb id x) None (found t id)
found_without t x id = get_without t.objects x id

-- an id that is next or later, in the peer's range, is accepted
pub accepts : (t : TableView) (id version : ℕ) (interface : Interface) → t.next_peer ≤ id → id < peer_end t → (u : TableView) × (o : ObjectView) × (accept t id interface version ≡ Ok (o, u))
accepts t id version interface low high =
    let o : ObjectView = record { id = id; interface = interface; version = version; client_side = t.client } in
    let u : TableView = record { objects = insert t.objects id o; next_own = t.next_own; next_peer = id + 1; client = t.client; room = t.room } in
    (u, o, rw (le-ltb id t.next_peer low, lt-leb (peer_end t) id high) refl)
