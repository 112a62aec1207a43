-- An endpoint, whatever memory it has made ready.
use Rattle.std.specs.Prelude.{ℕ, Bool, List}
use Rattle.std.specs.Ordering.{nat_cmp}
use Rattle.std.specs.FinMap as map
use Rattle.ei_spec.specs.declared.handle.Handle.{Handle}
use Rattle.ei_spec.specs.Interface.{ObjectView}
use Rattle.ei_backend.specs.Backend.{BackendView}

-- the objects, the next ids, what came and isn't read, what waits to be sent, and whether it is closed
pub record Endpoint : Type 0 where
  pub objects : map.FinMap nat_cmp ObjectView
  pub next_own : ℕ
  pub next_peer : ℕ
  pub client : Bool
  pub unread : List ℕ
  pub handles : List Handle
  pub unsent : List ℕ
  pub unsent_handles : List Handle
  pub closed : Bool

-- an endpoint but for the capacity of its ring, and the room for what is sent and for new objects
abbrev pub endpoint_of : BackendView → Endpoint
endpoint_of b = record {
  objects = b.table.objects;
  next_own = b.table.next_own;
  next_peer = b.table.next_peer;
  client = b.table.client;
  unread = b.unread;
  handles = b.handles;
  unsent = b.unsent;
  unsent_handles = b.unsent_handles;
  closed = b.closed;
}
