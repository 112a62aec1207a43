-- The objects of one endpoint.
use Rattle.std.specs.Prelude.{◌≡◌, ℕ, ◌+◌, ◌^◌, ◌<◌, ◌≤◌, Bool, ◌||◌, List, [], ◌∷◌, ◌++◌}
use Rattle.std.specs.Prelude.{Option, Some, None, Result, Ok, Err, nat_lt, nat_le, min, max, if◌then◌else◌}
use Rattle.std.specs.Ordering.{nat_cmp}
use Rattle.std.specs.FinMap as map
use Rattle.ei_spec.specs.Reading.{Fault, InvalidId}
use Rattle.ei_spec.specs.Interface.{Interface, ObjectView, Known}
use Rattle.ei_spec.specs.declared.interface.KnownInterface.TheVariants as known
use Rattle.ei_spec.specs.declared.limits.TheConstants.{FIRST_SERVER_ID}

-- the objects by id, the next own id, the next id that the peer may give, whether this is a client, and the
-- id below which own objects are made without want of memory
pub record TableView : Type 0 where
  pub objects : map.FinMap nat_cmp ObjectView
  pub next_own : ℕ
  pub next_peer : ℕ
  pub client : Bool
  pub room : ℕ

-- the object of an id
abbrev pub found : TableView → ℕ → Option ObjectView
found t id = map.get t.objects id

-- the table with the object in it
abbrev pub with_object : TableView → ObjectView → TableView
with_object t o = record t { objects = map.insert t.objects o.id o }

-- the table without the object
abbrev pub without : TableView → ℕ → TableView
without t id = record t { objects = map.remove t.objects id }

-- the first id of the server
abbrev pub first_server_id : ℕ
first_server_id = FIRST_SERVER_ID

-- object 0, which is there from the first
abbrev pub first_object : Bool → ObjectView
first_object client = record { id = 0; interface = Known known.Handshake; version = 1; client_side = client }

-- object 0 is that of the handshake, wherever it is there, and no other object gets its id
pub record HasFirst (t : TableView) : Type 0 where
  pub first : (o : ObjectView) → found t 0 ≡ Some o → o ≡ first_object t.client
  pub own : 1 ≤ t.next_own
  pub peer : 1 ≤ t.next_peer

-- the own ids of an endpoint begin here
abbrev pub own_start : Bool → ℕ
own_start client = if client then 1 else first_server_id

-- and end here
abbrev pub own_limit : Bool → ℕ
own_limit client = if client then first_server_id else 18446744073709551615

-- the table of a new endpoint, whose own ids begin at this one
abbrev pub new_table : Bool → ℕ → TableView
new_table client next_own = record {
  objects = map.insert map.empty 0 (first_object client);
  next_own = next_own;
  next_peer = if client then first_server_id else 1;
  client = client;
  room = 0;
}

-- the ids of the peer end here
abbrev pub peer_end : TableView → ℕ
peer_end t = if t.client then 18446744073709551615 else first_server_id

-- the object that the peer announces, and the table with it
abbrev pub accept : TableView → ℕ → Interface → ℕ → Result (ObjectView × TableView) Fault
accept t id interface version =
    if nat_lt id t.next_peer || nat_le (peer_end t) id then Err (InvalidId id)
    else (let o : ObjectView = record { id = id; interface = interface; version = version; client_side = t.client }
    in Ok (o, record { objects = map.insert t.objects id o; next_own = t.next_own; next_peer = id + 1; client = t.client; room = t.room }))

-- The table after a message: with the object that it announces, exactly as the table before accepts it; or as before,
-- where it announces none.
abbrev pub Announced : Option ObjectView → TableView → TableView → Type 0
Announced None old new = new ≡ old
Announced (Some o) old new = accept old o.id o.interface o.version ≡ Ok (o, new)

-- the own ids end here
abbrev pub own_end : TableView → ℕ
own_end t = if t.client then first_server_id else 18446744073709551615

-- the next object of this end
abbrev pub own : TableView → Interface → ℕ → ObjectView
own t interface version = record { id = t.next_own; interface = interface; version = version; client_side = t.client }

-- the table with the next object of this end
abbrev pub with_own : TableView → Interface → ℕ → TableView
with_own t interface version = record { objects = map.insert t.objects t.next_own (own t interface version); next_own = t.next_own + 1; next_peer = t.next_peer; client = t.client; room = t.room }

-- the table in which so many more own objects are made without want of memory, as far as there are ids
abbrev pub with_places : ℕ → TableView → TableView
with_places objects t = record t { room = max t.room (min (t.next_own + objects) (own_end t)) }

-- the next own object is made without want of memory, if there is an id for it
abbrev pub HasIdRoom : TableView → Type 0
HasIdRoom t = t.next_own < own_end t → t.next_own < t.room

-- ---- how a table is kept

-- the objects by their ids
abbrev pub by_id : List ObjectView → map.FinMap nat_cmp ObjectView
by_id [] = map.empty
by_id (o ∷ objects) = map.insert (by_id objects) o.id o

-- the ids rise, from one number on and below another
abbrev pub RiseWithin : ℕ → ℕ → List ObjectView → Type 0
RiseWithin from end [] = from ≤ end
RiseWithin from end (o ∷ objects) = (from ≤ o.id) × RiseWithin (o.id + 1) end objects

-- the ids rise
abbrev pub Rise : List ObjectView → Type 0
Rise objects = RiseWithin 0 (2 ^ 64) objects

-- whether an id lies in the range of the own ones, in which a client has id 0 too
abbrev pub is_own : Bool → ℕ → Bool
is_own client id = if client then nat_lt id first_server_id else nat_le first_server_id id

-- a table of the objects whose ids lie in the range of the own ones, and of the others
abbrev pub table_of : List ObjectView → List ObjectView → ℕ → ℕ → Bool → ℕ → TableView
table_of own peer next_own next_peer client room = record { objects = by_id (own ++ peer); next_own = next_own; next_peer = next_peer; client = client; room = room }

-- so many more own objects have a place, as many as there are ids below the room's end
abbrev pub HasPlaces : TableView → ℕ → Type 0
HasPlaces t places = t.next_own < t.room → t.room ≤ places + t.next_own

-- the own objects and the others by rising ids: each rise within their range, and the first have so many places more
pub record StandsInOrder (t : TableView) (own peer : List ObjectView) (places : ℕ) : Type 0 where
  pub first : HasFirst t
  pub own_rises : RiseWithin (if t.client then 0 else first_server_id) t.next_own own
  pub peer_rises : RiseWithin (if t.client then first_server_id else 0) t.next_peer peer
  pub own_ends : t.next_own ≤ own_end t
  pub peer_ends : t.next_peer ≤ peer_end t
  pub room : HasPlaces t places

-- the objects behind their keys
abbrev pub objects_in : List (ℕ × ObjectView) → List ObjectView
objects_in [] = []
objects_in (x ∷ xs) = x.1 ∷ objects_in xs

-- each key is the id of its object
abbrev pub AreIds : List (ℕ × ObjectView) → Type 0
AreIds [] = Unit {0}
AreIds (x ∷ xs) = (x.0 ≡ x.1.id) × AreIds xs

-- what a table is kept in: its own objects and the others, by their ids
pub record IsKept (own peer : List (ℕ × ObjectView)) (t : TableView) (places : ℕ) : Type 0 where
  pub own_ids : AreIds own
  pub peer_ids : AreIds peer
  pub stands : StandsInOrder t (objects_in own) (objects_in peer) places
