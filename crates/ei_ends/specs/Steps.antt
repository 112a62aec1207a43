-- What each step does to an end.
use Rattle.std.specs.Prelude.{◌≡◌, ℕ, zero, suc, ◌<◌, ◌≤◌, Bool, true, false, List, [], ◌∷◌, ◌++◌, length, take, drop, ◌⊎◌, Option, Some, None}
use Rattle.ei_spec.specs.declared.interface.KnownInterface.{KnownInterface}
use Rattle.ei_spec.specs.Value.{Value}
use Rattle.ei_spec.specs.Interface.{Interface, ObjectView, Known, Other}
use Rattle.ei_spec.specs.Piece.{Piece}
use Rattle.ei_backend.specs.Table.{TableView, own_end, with_own, without}
use Rattle.ei_backend.specs.Backend.{BackendView, FrontAnswer, Waits, Refused, Gone, Message, next, with_piece, with_room, closed_of}
use Rattle.ei_ends.specs.Sent.{Sent, Got, Took, Missed, New, new_of, destroys, bytes_in, handles_in}
use Rattle.ei_ends.specs.Way.{End}

-- one piece behind another
abbrev pub behind : Piece → Piece → Piece
behind p q = record { bytes = p.bytes ++ q.bytes; handles = p.handles ++ q.handles }

-- a message as it goes out
abbrev pub piece_in : Sent → Piece
piece_in m = record { bytes = bytes_in m; handles = handles_in m }

-- the end with another endpoint
abbrev pub with_backend : BackendView → End → End
with_backend b x = record { backend = b; sent = x.sent; taken = x.taken }

-- ---- a call

-- the end with one more message sent, which left that endpoint
abbrev pub with_sent : BackendView → Sent → End → End
with_sent b m x = record { backend = b; sent = m ∷ x.sent; taken = x.taken }

-- the table without the target of a destructor
unfoldable pub table_after : Bool → ℕ → TableView → TableView
table_after true target t = without t target
table_after false target t = t

-- the table with the object that is announced
unfoldable pub table_with : Option New → TableView → TableView
table_with None t = t
table_with (Some n) t = with_own t n.interface n.version

-- there is an own id where one is needed
unfoldable pub HasId : Option New → TableView → Type 0
HasId None t = Unit {0}
HasId (Some n) t = t.next_own < own_end t

-- the endpoint once a message was sent: its bytes and handles wait, what it announces is there, and a target that it destroys isn't
abbrev pub called : Bool → Sent → BackendView → BackendView
called events m b = record b {
  table = table_after (destroys events m) m.target (table_with (new_of events m) b.table);
  unsent = b.unsent ++ bytes_in m;
  unsent_handles = b.unsent_handles ++ handles_in m;
}

-- the end once it sent the message
abbrev pub after_call : Bool → Sent → End → End
after_call events m x = with_sent (called events m x.backend) m x

-- the end once it sent these messages in turn, the first first
abbrev pub after_calls : Bool → List Sent → End → End
after_calls events [] x = x
after_calls events (m ∷ ms) x = after_calls events ms (after_call events m x)

-- ---- a flush

-- no bytes and no handles
abbrev pub no_piece : Piece
no_piece = record { bytes = []; handles = [] }

-- the end once all that waited was sent
abbrev pub flushed : End → End
flushed x = with_backend (record x.backend { unsent = []; unsent_handles = [] }) x

-- ---- a delivery

-- a piece of what lies between the ends, and what is left: no longer than a delivery may be, with 64 handles or all
pub record IsPiece (p left link : Piece) : Type 0 where
  pub bytes : link.bytes ≡ p.bytes ++ left.bytes
  pub handles : link.handles ≡ p.handles ++ left.handles
  pub most : length p.bytes ≤ 1536
  pub enough : (length p.handles ≡ 64) ⊎ (left.handles ≡ [])

-- the piece that a delivery of so many bytes hands over: with the first 64 handles, or what there is
abbrev pub handed : ℕ → Piece → Piece
handed n link = record { bytes = take n link.bytes; handles = take 64 link.handles }

-- and what it leaves
abbrev pub left_over : ℕ → Piece → Piece
left_over n link = record { bytes = drop n link.bytes; handles = drop 64 link.handles }

-- the end with the piece behind what it has not read
abbrev pub delivered : Piece → End → End
delivered p y = with_backend (with_piece p y.backend) y

-- the end once it is closed
abbrev pub closed_end : End → End
closed_end y = with_backend (closed_of y.backend) y

-- ---- a message that is taken

-- the end with one more message taken, which left that endpoint
abbrev pub with_taken : BackendView → Got → End → End
with_taken b g y = record { backend = b; sent = y.sent; taken = g ∷ y.taken }

-- the message that an end reads, as it is stored
abbrev pub stored : ObjectView → KnownInterface → ℕ → List Value → Sent
stored target interface opcode values = record { target = target.id; interface = interface; version = target.version; opcode = opcode; values = values }

-- the end that read this message to an object of the interface
abbrev pub having_read : ObjectView → Interface → ℕ → List Value → BackendView → End → End
having_read target (Known k) opcode values b y = with_taken b (Took (stored target k opcode values) (length y.sent)) y
having_read target (Other name) opcode values b y = with_backend b y

-- the end that was answered so when it asked for the next message, with the endpoint after it
abbrev pub having_answered : FrontAnswer → BackendView → End → End
having_answered Waits b y = with_backend b y
having_answered (Refused f) b y = with_backend b y
having_answered (Gone id) b y = with_taken b (Missed id (length y.sent)) y
having_answered (Message target opcode values) b y = having_read target target.interface opcode values b y

-- the end once it took the next message, if there is one
unfoldable pub after_read : Bool → End → End
after_read events y = having_answered (next events y.backend).0 (next events y.backend).1 y

-- the end once it asked so many times
abbrev pub after_reads : ℕ → Bool → End → End
after_reads zero events y = y
after_reads (suc n) events y = after_reads n events (after_read events y)

-- ---- what two ends don't depend on

-- the end with another ring for what it has not read
abbrev pub ringed : ℕ → End → End
ringed capacity y = with_backend (record y.backend { capacity = capacity }) y

-- the end with room for so much more
abbrev pub roomy : ℕ → ℕ → ℕ → End → End
roomy bytes handles objects y = with_backend (with_room bytes handles objects y.backend) y
