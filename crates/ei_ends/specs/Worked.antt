-- Two conversations of a server and a client, worked by hand.
use Rattle.std.specs.Prelude.{ℕ, Bool, true, false, List, [], ◌∷◌, length, codes}
use Rattle.ei_spec.specs.declared.handle.Handle.{Handle}
use Rattle.ei_spec.specs.declared.interface.KnownInterface.TheVariants as known
use Rattle.ei_spec.specs.Value.{Word, Long, Letters, Fd}
use Rattle.ei_backend.specs.Backend.{unsent_of}
use Rattle.ei_ends.specs.Sent.{Sent}
use Rattle.ei_ends.specs.Way.{End}
use Rattle.ei_ends.specs.Steps.{after_calls, flushed, delivered, after_reads}
use Rattle.ei_ends.specs.Joined.{new_end}

-- ---- how they speak

-- a server and a client, with nothing between them
pub record Talk : Type 0 where
  pub server : End
  pub client : End

-- all that waits with the first end goes to the second in one piece, which then takes so many messages
abbrev pub having_heard : ℕ → Bool → End → End → End
having_heard n events x y = after_reads n events (delivered (unsent_of x.backend) y)

-- the server sends these messages, and the client takes them
unfoldable pub server_says : List Sent → Talk → Talk
server_says ms t = record {
  server = flushed (after_calls true ms t.server);
  client = having_heard (length ms) true (after_calls true ms t.server) t.client;
}

-- the client sends these messages, and the server takes them
unfoldable pub client_says : List Sent → Talk → Talk
client_says ms t = record {
  server = having_heard (length ms) false (after_calls false ms t.client) t.server;
  client = flushed (after_calls false ms t.client);
}

-- the client sends these messages, and they wait with it
unfoldable pub client_writes : List Sent → Talk → Talk
client_writes ms t = record { server = t.server; client = after_calls false ms t.client }

-- both are new
abbrev pub silence : Talk
silence = record { server = new_end false; client = new_end true }

-- ---- their messages

-- the server hands over the connection: its serial is 5, its id is the server's first one
abbrev pub connection : Sent
connection = record { target = 0; interface = known.Handshake; version = 1; opcode = 2; values = Word 5 ∷ Long 0xff00000000000000 ∷ Word 1 ∷ [] }

-- the client asks for an answer on its object 1
abbrev pub sync : Sent
sync = record { target = 0xff00000000000000; interface = known.Connection; version = 1; opcode = 0; values = Long 1 ∷ Word 1 ∷ [] }

-- the server answers there
abbrev pub done : Sent
done = record { target = 1; interface = known.Callback; version = 1; opcode = 0; values = Long 9 ∷ [] }

-- the client ends the connection
abbrev pub disconnect : Sent
disconnect = record { target = 0xff00000000000000; interface = known.Connection; version = 1; opcode = 1; values = [] }

-- the server announces a seat of that id
abbrev pub seat : ℕ → Sent
seat id = record { target = 0xff00000000000000; interface = known.Connection; version = 1; opcode = 1; values = Long id ∷ Word 2 ∷ [] }

-- and a device of a seat
abbrev pub device : ℕ → ℕ → Sent
device seat id = record { target = seat; interface = known.Seat; version = 2; opcode = 4; values = Long id ∷ Word 3 ∷ [] }

-- and a keyboard of a device
abbrev pub keyboard : ℕ → ℕ → Sent
keyboard device id = record {
  target = device;
  interface = known.Device;
  version = 3;
  opcode = 5;
  values = Long id ∷ Letters (codes "ei_keyboard") ∷ Word 1 ∷ [];
}

-- and a keymap of 64 bytes to a keyboard, with a handle
abbrev pub keymap : ℕ → Handle → Sent
keymap keyboard handle = record { target = keyboard; interface = known.Keyboard; version = 1; opcode = 1; values = Word 1 ∷ Word 64 ∷ Fd handle ∷ [] }

-- ---- a connection that the client ends

-- the server hands over the connection, and answers a sync
unfoldable pub talk_answered : Talk
talk_answered = server_says (done ∷ []) (client_says (sync ∷ []) (server_says (connection ∷ []) silence))

-- the client ends the connection, of which the server hasn't heard when it announces a seat and a device
unfoldable pub talk_ended : Talk
talk_ended = server_says (seat 0xff00000000000001 ∷ device 0xff00000000000001 0xff00000000000002 ∷ [])
    (client_writes (disconnect ∷ []) talk_answered)

-- ---- a handle that is dropped

-- a keyboard is announced
unfoldable pub talk_keyboard : Talk
talk_keyboard = server_says
    (connection ∷ seat 0xff00000000000001 ∷ device 0xff00000000000001 0xff00000000000002 ∷ keyboard 0xff00000000000002 0xff00000000000003 ∷ [])
    silence

-- The client ends the connection. The server hasn't heard of it when it announces a second seat, device and keyboard,
-- and sends a keymap to that keyboard.
unfoldable pub talk_keymap : Handle → Talk
talk_keymap handle = server_says
    (seat 0xff00000000000004 ∷ device 0xff00000000000004 0xff00000000000005 ∷ keyboard 0xff00000000000005 0xff00000000000006
    ∷ keymap 0xff00000000000006 handle ∷ [])
    (client_writes (disconnect ∷ []) talk_keyboard)

-- then it sends a keymap to the first keyboard
unfoldable pub talk_keymaps : Handle → Handle → Talk
talk_keymaps dropped next = server_says (keymap 0xff00000000000003 next ∷ []) (talk_keymap dropped)
