-- What waits to be sent, and how it goes out.
use Rattle.std.specs.Prelude.{◌≡◌, ℕ, zero, suc, ◌+◌, ◌≤◌, ◌<◌, max, List, [], ◌++◌, map, length, take, drop, vec_len, vec_capacity}
use Rattle.std.specs.Prelude.{Option, Some, Result, Ok, Err, IsOk, OnOk, OnErr, IsErrOf}
use Rattle.std.specs.Global.{Vec}
use Rattle.std.specs.List.{flat_map, All}
use Rattle.ei_spec.specs.declared.handle.Handle.{Handle}
use Rattle.ei_spec.specs.Piece.{Piece}
use Rattle.ei_spec.specs.Value.{Value, written, handles_of}
use Rattle.ei_spec.specs.Message.{message, bytes_of, size}
use Rattle.ei_wire.specs.declared.arg.Arg.{Arg}
use Rattle.ei_wire.specs.declared.error.FlushError.{FlushError}
use Rattle.ei_wire.specs.Gives.{value_of_arg}
use Rattle.ei_wire.specs.declared.error.FlushError.TheVariants as flush_error
use Rattle.ei_backend.specs.Outside.{SinkView, with_more}
use Rattle.ei_backend.specs.Lent.{LentSinkWants}

-- no bytes and no handles
abbrev pub nothing : Piece
nothing = record { bytes = []; handles = [] }

-- how many bytes and handles may wait without want of memory
pub record Room : Type 0 where
  pub bytes : ℕ
  pub handles : ℕ

abbrev pub no_room : Room
no_room = record { bytes = 0; handles = 0 }

-- what waits, and how much may wait without want of memory
pub record Buffered : Type 0 where
  pub waiting : Piece
  pub room : Room

-- the room, where so many more bytes and handles may wait than do
abbrev pub more_room : ℕ → ℕ → Piece → Room → Room
more_room bytes handles waiting room = record { bytes = max room.bytes (length waiting.bytes + bytes); handles = max room.handles (length waiting.handles + handles) }

-- so many more bytes and handles may wait without want of memory
pub record HasSpare (bytes handles : ℕ) (waiting : Piece) (room : Room) : Type 0 where
  pub spare_bytes : length waiting.bytes + bytes ≤ room.bytes
  pub spare_handles : length waiting.handles + handles ≤ room.handles

-- and so one more message may
abbrev pub HasRoomFor : ℕ → ℕ → List Value → Piece → Room → Type 0
HasRoomFor id opcode values waiting room = HasSpare (size (message id opcode values)) (length (flat_map handles_of values)) waiting room

-- handles wait only where bytes do
abbrev pub HasBytes : List ℕ → List Handle → Type 0
HasBytes bytes handles = length bytes ≡ 0 → handles ≡ []

-- the bytes of arguments
abbrev pub args_body : List Arg → List ℕ
args_body args = flat_map written (map value_of_arg args)

-- the handles of arguments
abbrev pub args_handles : List Arg → List Handle
args_handles args = flat_map handles_of (map value_of_arg args)

-- bytes are put behind others, or nothing is; a refusal comes only where room was missing, and no room is lost
pub record Appends {E : Type 0} (bytes : List ℕ) (old new : Vec ℕ) (result : Result (Unit {0}) E) : Type 0 where
  pub ok : OnOk result (new.items ≡ old.items ++ bytes)
  pub err : OnErr result (new.items ≡ old.items)
  pub succeeds : vec_len old + length bytes ≤ vec_capacity old → IsOk result
  pub capacity : vec_capacity old ≤ vec_capacity new

-- these bytes and handles wait, and so many of each may
abbrev pub buffered : List ℕ → List Handle → ℕ → ℕ → Buffered
buffered bytes handles most_bytes most_handles = record { waiting = record { bytes = bytes; handles = handles }; room = record { bytes = most_bytes; handles = most_handles } }

-- handles wait only where bytes do, and there are places for the bytes and the handles that may wait
pub record IsKept (b : Buffered) (places handle_places : ℕ) : Type 0 where
  pub has_bytes : HasBytes b.waiting.bytes b.waiting.handles
  pub room : b.room.bytes ≤ places
  pub handle_room : b.room.handles ≤ handle_places

-- what waits, with one more message behind it
abbrev pub with_message : ℕ → ℕ → List Value → Piece → Piece
with_message id opcode values waiting = with_more (bytes_of (message id opcode values)) (flat_map handles_of values) waiting

-- the handles that go out with the first n bytes: all with the first
abbrev pub beside : ℕ → List Handle → List Handle
beside zero handles = []
beside (suc n) handles = handles

-- the handles that stay behind them
abbrev pub kept_beside : ℕ → List Handle → List Handle
kept_beside zero handles = handles
kept_beside (suc n) handles = []

-- what waits after its first n bytes went out
abbrev pub unsent_after : ℕ → Piece → Piece
unsent_after n waiting = record { bytes = drop n waiting.bytes; handles = kept_beside n waiting.handles }

-- what a sink has that held this, after the first n bytes went out to it
abbrev pub sent_front : ℕ → Piece → Piece → Piece
sent_front n waiting held = with_more (take n waiting.bytes) (beside n waiting.handles) held

-- a refusal came after some of the bytes, but not after the last of them, and the rest waits
abbrev pub StopsAfter : Piece → Result (Unit {0}) FlushError → Piece → Type 0
StopsAfter old (Ok _) new = new ≡ nothing
StopsAfter old (Err e) new = (n : ℕ) × (n < length old.bytes) × (new ≡ unsent_after n old)

-- where a sink told what it held, it has all that waited behind that; after a refusal the front of it, without the last byte, and the rest waits
abbrev pub GoesOut : Piece → Piece → Result (Unit {0}) FlushError → Piece → Option Piece → Type 0
GoesOut held old (Ok _) new taken = taken ≡ Some (with_more old.bytes old.handles held)
GoesOut held old (Err e) new taken = (n : ℕ) × (n < length old.bytes) × (taken ≡ Some (sent_front n old held)) × (new ≡ unsent_after n old)

-- what is put is left of what waits, behind so many of its bytes: at least one byte
pub record IsLeftOf (waiting put : Piece) : Type 0 where
  pub n : ℕ
  pub some : n < length waiting.bytes
  pub is : put ≡ unsent_after n waiting

-- behind these puts come others, each of what was left of this
pub record PutsOf (waiting : Piece) (puts : List Piece) (after : Option (List Piece)) : Type 0 where
  pub more : List Piece
  pub grown : after ≡ Some (puts ++ more)
  pub each : All (IsLeftOf waiting) more

-- where a sink told what was put to it, it was put nothing but what was left of this at each call
abbrev pub IsPutOf : Piece → Option (List Piece) → Option (List Piece) → Type 0
IsPutOf waiting before after = (puts : List Piece) → before ≡ Some puts → PutsOf waiting puts after

-- What went to the sink of what waited: where it told what it held, all or a front of that is behind it; and at each call it was put
-- what was left.
pub record Went (old : Piece) (result : Result (Unit {0}) FlushError) (new : Piece) (before after : SinkView) : Type 0 where
  pub took : (held : Piece) → before.taken ≡ Some held → GoesOut held old result new after.taken
  pub puts : IsPutOf old before.puts after.puts

-- What flushing does with what waits. The sink is put nothing else, and where nothing waits it isn't called, and nothing changes.
pub record Flushes {K : Type 0} (view : K → SinkView) (later : K → K → Type 0) (result : Result (Unit {0}) FlushError) (old new : Piece) (before after : K) : Type 0 where
  pub stops : StopsAfter old result new
  pub went : Went old result new (view before) (view after)
  pub nothing : old.bytes ≡ [] → IsOk result × (new ≡ old) × (after ≡ before)
  pub lent : LentSinkWants view later (IsErrOf result flush_error.WriteFault) (IsErrOf result flush_error.NoMemory) before after
