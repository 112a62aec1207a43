-- The objects of a client that plays a record.
use Rattle.std.specs.Prelude.{◌≡◌, ℕ, ◌+◌, ◌<◌, ◌≤◌, true, List, [], length, Option, Some, None, slice_get}
use Rattle.std.specs.FinMap as map
use Rattle.ei_spec.specs.declared.interface.KnownInterface.{KnownInterface}
use Rattle.ei_spec.specs.declared.interface.KnownInterface.TheVariants as known
use Rattle.ei_spec.specs.Interface.{ObjectView, Known}
use Rattle.ei_spec.specs.Message.{Raw}
use Rattle.ei_backend.specs.Table.{found}
use Rattle.ei_backend.specs.Backend.{BackendView, unsent_of}
use Rattle.ei_session.specs.Devices.{next_id}
use Rattle.ei_session.specs.Objects.{Entry, object}

-- it is the object of that id, and of the interface
abbrev pub IsAt : KnownInterface → ℕ → Option ObjectView → Type 0
IsAt k id None = ⊥
IsAt k id (Some o) = (o.id ≡ id) × (o.interface ≡ Known k)

-- the endpoint with one more object that the peer announced
abbrev pub with_peer : BackendView → ℕ → KnownInterface → ℕ → BackendView
with_peer b id k version = record b {
  table = record {
    objects = map.insert b.table.objects id (record { id = id; interface = Known k; version = version; client_side = b.table.client });
    next_own = b.table.next_own;
    next_peer = id + 1;
    client = b.table.client;
    room = b.table.room;
  };
}

-- a client, which may be told of an object of this id and of the following ones up to this
pub record MayHear (id end : ℕ) (b : BackendView) : Type 0 where
  pub client : b.table.client ≡ true
  pub next : b.table.next_peer ≤ id
  pub last : end < 18446744073709551615

-- a device and its interfaces were announced, with the ids that follow it, and nothing else
pub record Announces (device : ℕ) (interfaces : List KnownInterface) (old new : BackendView) : Type 0 where
  pub device_is : IsAt known.Device device (found new.table device)
  pub interfaces_are : (k : ℕ) (i : KnownInterface) → slice_get interfaces k ≡ Some i → IsAt i (device + 1 + k) (found new.table (device + 1 + k))
  pub below : (id : ℕ) → id < device → found new.table id ≡ found old.table id
  pub next : new.table.next_peer ≡ device + 1 + length interfaces
  pub client : new.table.client ≡ old.table.client
  pub same : unsent_of new ≡ unsent_of old

-- what is there is of the interface
abbrev pub IsOf : KnownInterface → Option Entry → Type 0
IsOf k None = ⊥
IsOf k (Some e) = e.interface ≡ k

-- The client has each object that a server has behind these messages, and nothing to send; it may be told of the next one.
pub record Knows (past : List Raw) (b : BackendView) : Type 0 where
  pub client : b.table.client ≡ true
  pub objects : (id : ℕ) (i : KnownInterface) → IsOf i (object past id) → IsAt i id (found b.table id)
  pub next : b.table.next_peer ≤ next_id past
  pub unsent : unsent_of b ≡ record { bytes = []; handles = [] }
