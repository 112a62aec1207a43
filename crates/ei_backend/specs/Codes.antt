-- How objects and tables are told apart as values.
use Rattle.std.specs.Prelude.{◌≡◌, ℕ, Bool, List, ◌⊎◌, refl}
use Rattle.std.proofs.Common.{inl, inr}
use Rattle.std.specs.Ordering.{nat_cmp}
use Rattle.std.specs.FinMap as map
use Rattle.std.specs.Coded.{Coded, code_by, coded×, coded⊎, coded_ℕ, coded_bool, coded_list}
use Rattle.ei_spec.specs.declared.interface.KnownInterface.{KnownInterface}
use Rattle.ei_spec.specs.contracts.interface.KnownInterface as known
use Rattle.ei_spec.specs.declared.handle.Handle.{Handle}
use Rattle.ei_spec.specs.contracts.handle.Handle as handles
use Rattle.ei_spec.specs.Piece.{Piece}
use Rattle.ei_spec.specs.Interface.{Interface, Known, Other, ObjectView}
use Rattle.ei_backend.specs.Table.{TableView}
use Rattle.ei_backend.specs.Outgoing.{Room, Buffered}
use Rattle.ei_backend.specs.Incoming.{IncomingView}
use Rattle.ei_backend.specs.Backend.{BackendView}

abbrev pub known_or_name : Interface → KnownInterface ⊎ List ℕ
known_or_name (Known k) = inl k
known_or_name (Other n) = inr n

abbrev pub of_known_or_name : KnownInterface ⊎ List ℕ → Interface
of_known_or_name (inl k) = Known k
of_known_or_name (inr n) = Other n

abbrev pub same_interface : (i : Interface) → of_known_or_name (known_or_name i) ≡ i
same_interface (Known k) = refl
same_interface (Other n) = refl

abbrev pub interface_code : Coded Interface
interface_code = code_by (KnownInterface ⊎ List ℕ) (coded⊎ known.the_row.coded (coded_list coded_ℕ)) known_or_name of_known_or_name same_interface

abbrev pub object_code : Coded ObjectView
object_code = code_by (ℕ × (Interface × (ℕ × Bool))) (coded× coded_ℕ (coded× interface_code (coded× coded_ℕ coded_bool)))
    (λ o. (o.id, (o.interface, (o.version, o.client_side)))) (λ p. record { id = p.0; interface = p.1.0; version = p.1.1.0; client_side = p.1.1.1 }) (λ _. refl)

abbrev pub table_code : Coded TableView
table_code = code_by (map.FinMap nat_cmp ObjectView × (ℕ × (ℕ × (Bool × ℕ)))) (coded× (map.code coded_ℕ object_code) (coded× coded_ℕ (coded× coded_ℕ (coded× coded_bool coded_ℕ))))
    (λ t. (t.objects, (t.next_own, (t.next_peer, (t.client, t.room))))) (λ p. record { objects = p.0; next_own = p.1.0; next_peer = p.1.1.0; client = p.1.1.1.0; room = p.1.1.1.1 }) (λ _. refl)

abbrev pub piece_code : Coded Piece
piece_code = code_by (List ℕ × List Handle) (coded× (coded_list coded_ℕ) (coded_list handles.the_row.coded)) (λ p. (p.bytes, p.handles)) (λ p. record { bytes = p.0; handles = p.1 }) (λ _. refl)

abbrev pub incoming_code : Coded IncomingView
incoming_code = code_by (List ℕ × (List Handle × ℕ)) (coded× (coded_list coded_ℕ) (coded× (coded_list handles.the_row.coded) coded_ℕ))
    (λ i. (i.bytes, (i.handles, i.capacity))) (λ p. record { bytes = p.0; handles = p.1.0; capacity = p.1.1 }) (λ _. refl)

abbrev pub room_code : Coded Room
room_code = code_by (ℕ × ℕ) (coded× coded_ℕ coded_ℕ) (λ r. (r.bytes, r.handles)) (λ p. record { bytes = p.0; handles = p.1 }) (λ _. refl)

abbrev pub buffered_code : Coded Buffered
buffered_code = code_by (Piece × Room) (coded× piece_code room_code) (λ b. (b.waiting, b.room)) (λ p. record { waiting = p.0; room = p.1 }) (λ _. refl)

abbrev pub backend_code : Coded BackendView
backend_code = code_by (TableView × (Piece × (Piece × (Bool × (ℕ × Room))))) (coded× table_code (coded× piece_code (coded× piece_code (coded× coded_bool (coded× coded_ℕ room_code)))))
    (λ b. (b.table, (record { bytes = b.unread; handles = b.handles }, (record { bytes = b.unsent; handles = b.unsent_handles }, (b.closed, (b.capacity, b.room))))))
    (λ p. record { table = p.0; unread = p.1.0.bytes; handles = p.1.0.handles; unsent = p.1.1.0.bytes; unsent_handles = p.1.1.0.handles; closed = p.1.1.1.0; capacity = p.1.1.1.1.0; room = p.1.1.1.1.1 }) (λ _. refl)
