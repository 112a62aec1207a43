-- What a client has to send once an item was sent, and what it is once that is flushed.
use Rattle.std.proofs.Common.{◌≡◌, ℕ, false, List, [], ◌++◌, refl, sym, ap, ◌∙◌}
use Rattle.ei_spec.specs.Message.{Raw, bytes_of}
use Rattle.ei_spec.specs.Piece.{Piece}
use Rattle.ei_spec.specs.Groups.{Timed, Framed, Plain as Given}
use Rattle.ei_input.specs.declared.input_event.InputEvent.{InputEvent}
use Rattle.ei_input.specs.declared.input_event.InputEvent.TheVariants as input_event
use Rattle.ei_backend.specs.Table.{TableView, without}
use Rattle.ei_backend.specs.Outgoing.{nothing}
use Rattle.ei_backend.specs.Backend.{BackendView, with_unsent}
use Rattle.ei_session.specs.Requests.{Request, Bind, RequestDevice, Ready, DeviceClosed, DeviceStartEmulating, DeviceStopEmulating, Disconnect}
use Rattle.ei_record.specs.Replayable.{disconnects}
use Rattle.ei_playing.specs.Playing.{call_to, message_of}
use Rattle.ei_player.specs.Objects.{Knows}
use Rattle.ei_replay.specs.Sending.{after_call}

-- the end takes the connection away, and no other request an object
abbrev pub table_after : Request → ℕ → TableView → TableView
table_after (Given Disconnect) id t = without t id
table_after item id t = t

-- an endpoint over these objects that has more bytes to send
abbrev pub with_more_sent : TableView → List ℕ → BackendView → BackendView
with_more_sent t bytes b = record b { table = t; unsent = b.unsent ++ bytes; unsent_handles = b.unsent_handles ++ [] }

input_so : (id d t : ℕ) (x : InputEvent) (b : BackendView) → after_call (call_to id (Timed d x t)) b ≡ with_more_sent b.table (bytes_of (message_of (call_to id (Timed d x t)))) b
input_so id d t (input_event.PointerMotion dx dy) b = refl
input_so id d t (input_event.PointerMotionAbsolute dx dy) b = refl
input_so id d t (input_event.Button button state) b = refl
input_so id d t (input_event.ScrollDelta dx dy) b = refl
input_so id d t (input_event.ScrollStop x y) b = refl
input_so id d t (input_event.ScrollCancel x y) b = refl
input_so id d t (input_event.ScrollDiscrete dx dy) b = refl
input_so id d t (input_event.KeyboardKey key state) b = refl
input_so id d t (input_event.TouchDown touch x y) b = refl
input_so id d t (input_event.TouchMotion touch x y) b = refl
input_so id d t (input_event.TouchUp touch) b = refl
input_so id d t (input_event.TouchCancel touch) b = refl
input_so id d t (input_event.TextKeysym keysym state) b = refl
input_so id d t (input_event.TextUtf8 letters) b = refl
input_so id d t (input_event.GestureSwipe fingers dx dy) b = refl
input_so id d t (input_event.GesturePinch scale) b = refl

pub after_so : (id : ℕ) (item : Request) (b : BackendView) → after_call (call_to id item) b ≡ with_more_sent (table_after item id b.table) (bytes_of (message_of (call_to id item))) b
after_so id (Timed d x t) b = input_so id d t x b
after_so id (Framed d s t) b = refl
after_so id (Given (Bind seat mask)) b = refl
after_so id (Given (RequestDevice seat mask)) b = refl
after_so id (Given (Ready d)) b = refl
after_so id (Given (DeviceClosed d)) b = refl
after_so id (Given (DeviceStartEmulating d serial sequence)) b = refl
after_so id (Given (DeviceStopEmulating d serial)) b = refl
after_so id (Given Disconnect) b = refl

table_same : (item : Request) (id : ℕ) (t : TableView) → disconnects item ≡ false → table_after item id t ≡ t
table_same (Timed d x u) id t e = refl
table_same (Framed d s u) id t e = refl
table_same (Given (Bind seat mask)) id t e = refl
table_same (Given (RequestDevice seat mask)) id t e = refl
table_same (Given (Ready d)) id t e = refl
table_same (Given (DeviceClosed d)) id t e = refl
table_same (Given (DeviceStartEmulating d serial sequence)) id t e = refl
table_same (Given (DeviceStopEmulating d serial)) id t e = refl
table_same (Given Disconnect) id t e = absurd cc

-- which objects it may be told of stays
pub record SameEnd (old new : TableView) : Type 0 where
  pub client : new.client ≡ old.client
  pub next : new.next_peer ≡ old.next_peer

same_end : (item : Request) (id : ℕ) (t : TableView) → SameEnd t (table_after item id t)
same_end (Timed d x u) id t = record { client = refl; next = refl }
same_end (Framed d s u) id t = record { client = refl; next = refl }
same_end (Given (Bind seat mask)) id t = record { client = refl; next = refl }
same_end (Given (RequestDevice seat mask)) id t = record { client = refl; next = refl }
same_end (Given (Ready d)) id t = record { client = refl; next = refl }
same_end (Given (DeviceClosed d)) id t = record { client = refl; next = refl }
same_end (Given (DeviceStartEmulating d serial sequence)) id t = record { client = refl; next = refl }
same_end (Given (DeviceStopEmulating d serial)) id t = record { client = refl; next = refl }
same_end (Given Disconnect) id t = record { client = refl; next = refl }

-- ---- a client that has nothing to send

module _ (past : List Raw) (b : BackendView) (k : Knows past b) (id : ℕ) (item : Request) where
  pub unsent_so : (after_call (call_to id item) b).unsent ≡ bytes_of (message_of (call_to id item))
  unsent_so =
      ap (λ (x : BackendView). x.unsent) (after_so id item b)
      ∙ ap (λ (p : Piece). p.bytes ++ bytes_of (message_of (call_to id item))) k.unsent

  -- but for the connection, all is as before once that is flushed
  pub flushed_so : disconnects item ≡ false → with_unsent nothing (after_call (call_to id item) b) ≡ b
  flushed_so e =
      ap (λ (x : BackendView). with_unsent nothing x) (after_so id item b)
      ∙ ap (λ (t : TableView). with_unsent nothing (record b { table = t })) (table_same item id b.table e)
      ∙ ap (λ (p : Piece). with_unsent p b) (sym k.unsent)

  pub end_so : SameEnd b.table (with_unsent nothing (after_call (call_to id item) b)).table
  end_so =
      let same = ap (λ (x : BackendView). x.table) (after_so id item b) in
      let s = same_end item id b.table in
      record { client = ap (λ (t : TableView). t.client) same ∙ s.client; next = ap (λ (t : TableView). t.next_peer) same ∙ s.next }
