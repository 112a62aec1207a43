-- Each event of a server reads as its row.
use Rattle.std.proofs.Common.{◌≡◌, ℕ, ◌<◌, ◌≤◌, ◌^◌, Bool, true, false, [], ◌∷◌, length, Some, refl, arith}
use Rattle.std.specs.Prelude.{codes}
use Rattle.ei_spec.specs.declared.interface.KnownInterface.{KnownInterface}
use Rattle.ei_spec.specs.declared.interface.KnownInterface.TheVariants as known
use Rattle.ei_spec.specs.Interface.{name_of}
use Rattle.ei_spec.specs.Value.{Word, Long, Letters, U32, U64, Text, New}
use Rattle.ei_spec.specs.Rows.{Row, row, announcing, handing_over, Nothing, Fixed, Named}
use Rattle.ei_spec.specs.Table.{handshake_version, interface_version, destroyed, device_type}
use Rattle.ei_session.specs.Replies.{greeting, settled_event, connection_event, seat_event, capability_event, done_event}
use Rattle.ei_session.specs.Events.{invalid_object_event, callback_event, device_event, device_type_event, interface_event, device_done_event, resumed_event}
use Rattle.ei_session.specs.Events.{destroyed_event}
use Rattle.ei_session.specs.Setup.{connection_id, seat_id}
use Rattle.ei_spec.specs.Arguments.{AreOf}
use Rattle.ei_session.specs.Told.{row_of, ReadsAs}
use Rattle.ei_spec.proofs.NameLaws.{name_text, name_short}
use Rattle.ei_session.proofs.ReadBack.{reads_back}

pub short_name : (i : KnownInterface) → length (name_of i) ≤ 4294967294
short_name i = omega (arith, name_short i)

pub reads_greeting : ReadsAs known.Handshake greeting handshake_version (Word 1 ∷ [])
reads_greeting = record { is_row = refl; reads = reads_back handshake_version 0 0 (Word 1 ∷ []) (omega arith, tt) (tt, tt); kinds = (omega arith, tt) }

pub reads_settled : (i : KnownInterface) (v : ℕ) → v < 2 ^ 32 → ReadsAs known.Handshake (settled_event 0 i v) interface_version (Letters (name_of i) ∷ Word v ∷ [])
reads_settled i v lt = record {
  is_row = refl;
  reads = reads_back interface_version 0 1 (Letters (name_of i) ∷ Word v ∷ []) (name_text i, (lt, tt)) (short_name i, (tt, tt));
  kinds = (name_text i, (lt, tt));
}

abbrev pub connection_row : Row
connection_row = handing_over (codes "connection") (U32 ∷ New ∷ U32 ∷ []) (Fixed known.Connection)

pub reads_connection : (serial : ℕ) → serial < 2 ^ 32 → ReadsAs known.Handshake (connection_event 0 serial connection_id) connection_row (Word serial ∷ Long connection_id ∷ Word 1 ∷ [])
reads_connection serial lt =
    let kinds : AreOf connection_row.kinds (Word serial ∷ Long connection_id ∷ Word 1 ∷ []) = (lt, (omega arith, (omega arith, tt))) in
    record { is_row = refl; reads = reads_back connection_row 0 2 (Word serial ∷ Long connection_id ∷ Word 1 ∷ []) kinds (tt, (tt, (tt, tt))); kinds = kinds }

abbrev pub seat_row : Row
seat_row = announcing (codes "seat") (New ∷ U32 ∷ []) (Fixed known.Seat)

pub reads_seat : (v : ℕ) → v < 2 ^ 32 → ReadsAs known.Connection (seat_event connection_id seat_id v) seat_row (Long seat_id ∷ Word v ∷ [])
reads_seat v lt =
    let kinds : AreOf seat_row.kinds (Long seat_id ∷ Word v ∷ []) = (omega arith, (lt, tt)) in
    record { is_row = refl; reads = reads_back seat_row connection_id 1 (Long seat_id ∷ Word v ∷ []) kinds (tt, (tt, tt)); kinds = kinds }

abbrev pub capability_row : Row
capability_row = row (codes "capability") (U64 ∷ Text ∷ [])

pub reads_capability : (c : ℕ × KnownInterface) → c.0 < 2 ^ 64 → ReadsAs known.Seat (capability_event seat_id c) capability_row (Long c.0 ∷ Letters (name_of c.1) ∷ [])
reads_capability c lt =
    let kinds : AreOf capability_row.kinds (Long c.0 ∷ Letters (name_of c.1) ∷ []) = (lt, (name_text c.1, tt)) in
    record { is_row = refl; reads = reads_back capability_row seat_id 2 (Long c.0 ∷ Letters (name_of c.1) ∷ []) kinds (tt, (short_name c.1, tt)); kinds = kinds }

abbrev pub done_row : Row
done_row = row (codes "done") []

pub reads_done : ReadsAs known.Seat (done_event seat_id) done_row []
reads_done = record { is_row = refl; reads = reads_back done_row seat_id 3 [] tt tt; kinds = tt }

abbrev pub invalid_row : Row
invalid_row = row (codes "invalid_object") (U32 ∷ U64 ∷ [])

pub reads_invalid : (serial id : ℕ) → serial < 2 ^ 32 → id < 2 ^ 64 → ReadsAs known.Connection (invalid_object_event serial id) invalid_row (Word serial ∷ Long id ∷ [])
reads_invalid serial id s lt =
    let kinds : AreOf invalid_row.kinds (Word serial ∷ Long id ∷ []) = (s, (lt, tt)) in
    record { is_row = refl; reads = reads_back invalid_row connection_id 2 (Word serial ∷ Long id ∷ []) kinds (tt, (tt, tt)); kinds = kinds }

abbrev pub called_row : Row
called_row = record { name = codes "done"; kinds = U64 ∷ []; announces = Nothing; destroys = true }

pub reads_callback : (c : ℕ) → ReadsAs known.Callback (callback_event c) called_row (Long 0 ∷ [])
reads_callback c =
    let kinds : AreOf called_row.kinds (Long 0 ∷ []) = (omega arith, tt) in
    record { is_row = refl; reads = reads_back called_row c 0 (Long 0 ∷ []) kinds (tt, tt); kinds = kinds }

abbrev pub device_row : Row
device_row = announcing (codes "device") (New ∷ U32 ∷ []) (Fixed known.Device)

pub reads_device : (d v : ℕ) → d < 2 ^ 64 → v < 2 ^ 32 → ReadsAs known.Seat (device_event d v) device_row (Long d ∷ Word v ∷ [])
reads_device d v lt vt =
    let kinds : AreOf device_row.kinds (Long d ∷ Word v ∷ []) = (lt, (vt, tt)) in
    record { is_row = refl; reads = reads_back device_row seat_id 4 (Long d ∷ Word v ∷ []) kinds (tt, (tt, tt)); kinds = kinds }

abbrev pub type_row : Row
type_row = row (codes "device_type") (device_type ∷ [])

pub reads_type : (d : ℕ) → ReadsAs known.Device (device_type_event d) type_row (Word 1 ∷ [])
reads_type d =
    let kinds : AreOf type_row.kinds (Word 1 ∷ []) = ((omega arith, refl), tt) in
    record { is_row = refl; reads = reads_back type_row d 2 (Word 1 ∷ []) kinds (tt, tt); kinds = kinds }

abbrev pub interface_row : Row
interface_row = announcing (codes "interface") (New ∷ Text ∷ U32 ∷ []) Named

pub reads_interface : (d id : ℕ) (i : KnownInterface) (v : ℕ) → id < 2 ^ 64 → v < 2 ^ 32 → ReadsAs known.Device (interface_event d id i v) interface_row (Long id ∷ Letters (name_of i) ∷ Word v ∷ [])
reads_interface d id i v lt vt =
    let kinds : AreOf interface_row.kinds (Long id ∷ Letters (name_of i) ∷ Word v ∷ []) = (lt, (name_text i, (vt, tt))) in
    record { is_row = refl; reads = reads_back interface_row d 5 (Long id ∷ Letters (name_of i) ∷ Word v ∷ []) kinds (tt, (short_name i, (tt, tt))); kinds = kinds }

abbrev pub described_row : Row
described_row = row (codes "done") []

pub reads_described : (d : ℕ) → ReadsAs known.Device (device_done_event d) described_row []
reads_described d = record { is_row = refl; reads = reads_back described_row d 6 [] tt tt; kinds = tt }

abbrev pub resumed_row : Row
resumed_row = row (codes "resumed") (U32 ∷ [])

pub reads_resumed : (d serial : ℕ) → serial < 2 ^ 32 → ReadsAs known.Device (resumed_event d serial) resumed_row (Word serial ∷ [])
reads_resumed d serial lt = record { is_row = refl; reads = reads_back resumed_row d 7 (Word serial ∷ []) (lt, tt) (tt, tt); kinds = (lt, tt) }

-- whether objects of the interface go by a `destroyed`
abbrev pub is_mortal : KnownInterface → Bool
is_mortal known.Handshake = false
is_mortal known.Connection = false
is_mortal known.Callback = false
is_mortal known.Pingpong = false
is_mortal interface = true

pub reads_destroyed : (k : KnownInterface) (id serial : ℕ) → is_mortal k ≡ true → serial < 2 ^ 32 → ReadsAs k (destroyed_event id serial) destroyed (Word serial ∷ [])
reads_destroyed k id serial m lt = record { is_row = by k m; reads = reads_back destroyed id 0 (Word serial ∷ []) (lt, tt) (tt, tt); kinds = (lt, tt) }
  where
    by : (k : KnownInterface) → is_mortal k ≡ true → row_of k (destroyed_event id serial) ≡ Some destroyed
    by known.Handshake m = absurd cc
    by known.Connection m = absurd cc
    by known.Callback m = absurd cc
    by known.Pingpong m = absurd cc
    by k m = refl
