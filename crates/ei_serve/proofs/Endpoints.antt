-- An endpoint is what stands of it, and the memory that it has made ready.
use Rattle.std.proofs.Common.{◌≡◌, ℕ, List, refl, ap}
use Rattle.ei_spec.specs.declared.handle.Handle.{Handle}
use Rattle.ei_backend.specs.Table.{TableView}
use Rattle.ei_backend.specs.Outgoing.{Room}
use Rattle.ei_backend.specs.Endpoint.{Endpoint, endpoint_of}
use Rattle.ei_backend.specs.Backend.{BackendView}
use Rattle.ei_serve.specs.Standing.{quiet}

-- how many bytes the ring holds, and the room for what is sent and for new objects
pub record Memory : Type 0 where
  pub capacity : ℕ
  pub room : Room
  pub objects : ℕ

abbrev pub memory_of : BackendView → Memory
memory_of b = record { capacity = b.capacity; room = b.room; objects = b.table.room }

abbrev pub backend_of : Endpoint → Memory → BackendView
backend_of e memory = record {
  table = record { objects = e.objects; next_own = e.next_own; next_peer = e.next_peer; client = e.client; room = memory.objects };
  unread = e.unread;
  handles = e.handles;
  unsent = e.unsent;
  unsent_handles = e.unsent_handles;
  closed = e.closed;
  capacity = memory.capacity;
  room = memory.room;
}

-- an endpoint over these objects with nothing to send, with that memory
abbrev pub quiet_with : TableView → List ℕ → List Handle → Memory → BackendView
quiet_with table unread handles memory = backend_of (quiet table unread handles) memory

whole : (b : BackendView) → backend_of (endpoint_of b) (memory_of b) ≡ b
whole b = refl

-- an endpoint by what stands of it
pub backend_is : (b : BackendView) (e : Endpoint) → endpoint_of b ≡ e → b ≡ backend_of e (memory_of b)
backend_is b e same = ap (λ (x : Endpoint). backend_of x (memory_of b)) same
