-- A handshake that begins.
use Rattle.std.proofs.Common.{◌≡◌, ℕ, Bool, false, [], ◌∷◌, Some, refl, ap, ◌∙◌}
use Rattle.std.specs.Prelude.{IsSome}
use Rattle.std.specs.Option.{ForSome}
use Rattle.std.specs.Cmp.{nat_cmp_total}
use Rattle.std.specs.FinMap.{empty, get-insert}
use Rattle.ei_backend.specs.Table.{found, new_table, first_object, first_server_id}
use Rattle.ei_backend.specs.Backend.{BackendView, new_backend}
use Rattle.ei_session.specs.Replies.{greeting_to}
use Rattle.ei_handshake.specs.Handshaker.{sends}

-- object 0 is in a new table
found_first : (client : Bool) (next_own : ℕ) → found (new_table client next_own) 0 ≡ Some (first_object client)
found_first client next_own = get-insert nat_cmp_total empty 0 (first_object client) 0

-- a new endpoint has the handshake
pub handshake_there : (b : BackendView) → b ≡ new_backend (new_table false first_server_id) → IsSome (found b.table 0)
handshake_there b e = rw (e, found_first false first_server_id) refl

-- and one that greets has the greeting to send
pub greets : (b new : BackendView) → b ≡ new_backend (new_table false first_server_id) → ForSome (found b.table 0) (λ handshake. new ≡ sends b (greeting_to handshake.id ∷ [])) →
    new ≡ sends (new_backend (new_table false first_server_id)) (greeting_to 0 ∷ [])
greets b new e h =
    h (first_object false) (ap (λ (x : BackendView). found x.table 0) e ∙ found_first false first_server_id) ∙ ap (λ (x : BackendView). sends x (greeting_to 0 ∷ [])) e
