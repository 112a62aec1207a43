-- Two ends that are joined, and what one of them may send.
use Rattle.std.specs.Prelude.{◌≡◌, ℕ, ◌≤◌, Bool, false, List, [], ◌∷◌, length, Option, Some, None}
use Rattle.ei_spec.specs.Interface.{ObjectView, Known}
use Rattle.ei_spec.specs.Piece.{Piece}
use Rattle.ei_spec.specs.Rows.{Row}
use Rattle.ei_backend.specs.Table.{new_table, own_start, own_limit}
use Rattle.ei_backend.specs.Backend.{new_backend}
use Rattle.ei_ends.specs.Sent.{other, Sent, Got, Took, Missed, New, new_of, destroys, handles_in, IsCall}
use Rattle.ei_ends.specs.Announced.{or_else, if_named, announced, first, next_own}
use Rattle.ei_ends.specs.Agree.{Agree, oldest}
use Rattle.ei_ends.specs.Way.{HasNextId, End, Cut, Tied}
use Rattle.ei_ends.specs.Steps.{HasId, after_call}

-- an end that has sent and taken nothing
abbrev pub new_end : Bool → End
new_end client = record { backend = new_backend (new_table client (own_start client)); sent = []; taken = [] }

-- Two ends and what lies between them, however far each message has come. The first sends the events where `events` is true.
pub record Joined (events : Bool) (x y : End) (to_y to_x : Piece) : Type 0 where
  pub there : Cut
  pub back : Cut
  pub tied : Tied events x y to_y to_x there back

-- what the second end took is, one by one, the oldest of what the first sent
abbrev pub AgreeSoFar : Bool → End → End → Type 0
AgreeSoFar events x y = (length y.taken ≤ length x.sent) × Agree events y.sent (oldest (length y.taken) x.sent) y.taken

-- all that the first end sent is unread at the second, which is open: nothing waits with the sender or lies between them
pub record AllDelivered (x y : End) (to_y : Piece) : Type 0 where
  pub opened : y.backend.closed ≡ false
  pub none : to_y.bytes ≡ []
  pub unsent : x.backend.unsent ≡ []

-- ---- what an end knows by its own lists

-- the object of that id that the messages which were taken announced: the first one
unfoldable pub heard : Bool → List Got → ℕ → Option New
heard events [] id = None
heard events (Took r after ∷ gots) id = or_else (heard events gots id) (if_named id (new_of events r))
heard events (Missed x after ∷ gots) id = heard events gots id

-- the object of that id that an end made or read which sent and took these, or object 0
abbrev pub acquainted : Bool → List Sent → List Got → ℕ → Option New
acquainted events sent taken id = or_else (first id) (or_else (announced events sent id) (heard (other events) taken id))

-- A message that the end may send: a lawful one of the row, to an object that it made or read, or to object 0, be it
-- alive or not. An announced object has its next own id, and there is one.
pub record IsCallOf (events : Bool) (x : End) (m : Sent) (r : Row) : Type 0 where
  pub call : IsCall events m r
  pub target : acquainted events x.sent x.taken m.target ≡ Some (record { id = m.target; interface = Known m.interface; version = m.version })
  pub next : HasNextId x.backend.table.next_own (new_of events m)
  pub left : HasId (new_of events m) x.backend.table

-- the same by the lists of what an end sent and took alone
pub record IsListedCall (events : Bool) (sent : List Sent) (taken : List Got) (m : Sent) (r : Row) : Type 0 where
  pub call : IsCall events m r
  pub target : acquainted events sent taken m.target ≡ Some (record { id = m.target; interface = Known m.interface; version = m.version })
  pub next : HasNextId (next_own events sent) (new_of events m)
  pub left : next_own events (m ∷ sent) ≤ own_limit (other events)

-- ---- several messages in turn

-- each is one that the end may send after those before it
abbrev pub AreCalls : Bool → List Sent → End → Type 0
AreCalls events [] x = Unit {0}
AreCalls events (m ∷ ms) x = (r : Row) × IsCallOf events x m r × AreCalls events ms (after_call events m x)

-- the same by the lists alone
abbrev pub AreListedCalls : Bool → List Sent → List Sent → List Got → Type 0
AreListedCalls events [] sent taken = Unit {0}
AreListedCalls events (m ∷ ms) sent taken = (r : Row) × IsListedCall events sent taken m r × AreListedCalls events ms (m ∷ sent) taken

-- messages without handles that announce and destroy nothing
abbrev pub ArePlain : Bool → List Sent → Type 0
ArePlain events [] = Unit {0}
ArePlain events (m ∷ ms) = (new_of events m ≡ None) × (destroys events m ≡ false) × (handles_in m ≡ []) × ArePlain events ms

-- ---- an object at both ends

-- they are the same object, each seen by its end
pub record IsSame (o p : ObjectView) : Type 0 where
  pub id : o.id ≡ p.id
  pub interface : o.interface ≡ p.interface
  pub version : o.version ≡ p.version
