-- What ties two ends, for each direction. Lists of what was sent and taken have the newest first.
use Rattle.std.specs.Prelude.{◌≡◌, ℕ, ◌+◌, ◌-◌, ◌≤◌, Bool, false, ◌||◌, List, [], ◌∷◌, ◌++◌, length, Option, Some, None, nat_le, if◌then◌else◌}
use Rattle.ei_spec.specs.Interface.{ObjectView, Known}
use Rattle.ei_spec.specs.Rows.{Row}
use Rattle.ei_spec.specs.Message.{size}
use Rattle.ei_spec.specs.Piece.{Piece}
use Rattle.ei_backend.specs.Table.{TableView, found, own_end}
use Rattle.ei_backend.specs.Backend.{BackendView, unsent_of}
use Rattle.ei_ends.specs.Sent.{other, Sent, Got, Took, Missed, New, new_of, spelled, handles_in, raw_of, IsCall}
use Rattle.ei_ends.specs.Announced.{is_named, known_by, destroyed, next_own}
use Rattle.ei_ends.specs.Agree.{Agree, AreTimes, handles_sent, handles_got}

-- these messages, the oldest first, sent after those, the newest first
abbrev pub onto : List Sent → List Sent → List Sent
onto [] past = past
onto (m ∷ ms) past = onto ms (m ∷ past)

-- ---- what an end may send

-- a new object has the next own id
abbrev pub HasNextId : ℕ → Option New → Type 0
HasNextId next None = Unit {0}
HasNextId next (Some n) = n.id ≡ next

-- a message that an end may send after those: a lawful one, to an object that it knows, and a new object has the next own id
pub record MaySend (events : Bool) (past theirs : List Sent) (m : Sent) : Type 0 where
  pub row : Row
  pub call : IsCall events m row
  pub knows : known_by events past theirs m.target ≡ Some (record { id = m.target; interface = Known m.interface; version = m.version })
  pub fresh : HasNextId (next_own events past) (new_of events m)

-- each message of an end was one that it might send, where it took those of its peer
unfoldable pub AllSent : Bool → List Sent → List Sent → Type 0
AllSent events [] theirs = Unit {0}
AllSent events (m ∷ past) theirs = MaySend events past theirs m × AllSent events past theirs

-- ---- bytes and handles

-- how many handles belong to the messages that are whole in the first n bytes
unfoldable pub needed : ℕ → List Sent → ℕ
needed n [] = 0
needed n (m ∷ ms) = if nat_le (size (raw_of m)) n then length (handles_in m) + needed (n - size (raw_of m)) ms else 0

-- What is sent and not taken (`flight`) lies in the unread bytes and behind them (`rest`). On an open end what is behind
-- them lies between the ends and with the sender; on a closed end what was between them may be lost.
pub record Flows (closed : Bool) (unread link unsent : Piece) (sent flight : List Sent) (taken : List Got) (rest : Piece) : Type 0 where
  pub bytes : unread.bytes ++ rest.bytes ≡ spelled flight
  pub handles : handles_got taken ++ (unread.handles ++ rest.handles) ≡ handles_sent sent
  pub open_bytes : closed ≡ false → rest.bytes ≡ link.bytes ++ unsent.bytes
  pub open_handles : closed ≡ false → rest.handles ≡ link.handles ++ unsent.handles
  -- no handle comes later than its message
  pub in_time : needed (length unread.bytes) flight ≤ length unread.handles
  pub in_time_waiting : closed ≡ false → needed (length unread.bytes + length link.bytes) flight ≤ length unread.handles + length link.handles

-- ---- the objects of the reader

-- whether one of these messages that was taken as dropped announced the object of that id
unfoldable pub gone : Bool → List Sent → List Got → ℕ → Bool
gone events (m ∷ past) (Missed x after ∷ gots) id = is_named id (new_of events m) || gone events past gots id
gone events (m ∷ past) (Took r after ∷ gots) id = gone events past gots id
gone events past gots id = false

-- an object as that end has it
abbrev pub seen_by : Bool → Option New → Option ObjectView
seen_by client None = None
seen_by client (Some n) = Some (record { id = n.id; interface = n.interface; version = n.version; client_side = client })

-- The object of an id that is alive at an end which sent `own` and took `gots` of `past`: one that it knows, unless it
-- destroyed it or never heard of it.
abbrev pub alive : Bool → List Sent → List Sent → List Got → ℕ → Option ObjectView
alive client own past gots id =
    if destroyed (other client) own id || gone client past gots id then None
    else seen_by client (known_by (other client) own past id)

-- a table has the objects that are alive, and its next ids are those of these lists
pub record HasObjects (client : Bool) (own past : List Sent) (gots : List Got) (t : TableView) : Type 0 where
  pub client_is : t.client ≡ client
  pub objects : (id : ℕ) → found t id ≡ alive client own past gots id
  pub next : t.next_own ≡ next_own (other client) own
  pub ends : t.next_own ≤ own_end t
  pub peer : t.next_peer ≤ next_own client past

-- ---- one direction

-- what an endpoint has not read
abbrev pub unread_of : BackendView → Piece
unread_of b = record { bytes = b.unread; handles = b.handles }

-- The messages of one direction: `past` were taken by the reader, which sent `own`, and `flight` are on their way. The
-- reader is the client where `events` is true.
pub record Way (events : Bool) (sent : List Sent) (unsent link : Piece) (own : List Sent) (reader : BackendView) (taken : List Got)
    (past flight : List Sent) (rest : Piece) : Type 0 where
  pub sent_is : sent ≡ onto flight past
  pub agree : Agree events own past taken
  pub times : AreTimes (length own) taken
  pub flows : Flows reader.closed (unread_of reader) link unsent sent flight taken rest
  pub objects : HasObjects events own past taken reader.table

-- ---- both

-- an end: its endpoint, what it sent and what it took, the newest first
pub record End : Type 0 where
  pub backend : BackendView
  pub sent : List Sent
  pub taken : List Got

-- one direction as it is cut: what the reader took, what is on its way, and what of that is behind the unread bytes
pub record Cut : Type 0 where
  pub past : List Sent
  pub flight : List Sent
  pub rest : Piece

-- Two ends, the first of which sends the events where `events` is true, and what lies between them on the way to the
-- second and to the first. What an end sends is judged by what it took, not by all that its peer sent.
pub record Tied (events : Bool) (x y : End) (to_y to_x : Piece) (cx cy : Cut) : Type 0 where
  pub there : Way events x.sent (unsent_of x.backend) to_y y.sent y.backend y.taken cx.past cx.flight cx.rest
  pub back : Way (other events) y.sent (unsent_of y.backend) to_x x.sent x.backend x.taken cy.past cy.flight cy.rest
  pub says : AllSent events x.sent cy.past
  pub answers : AllSent (other events) y.sent cx.past
