-- Each request that reads asks something, and that is what its row in the table asks.
use Rattle.std.proofs.Common.{◌≡◌, ℕ, true, false, List, [], ◌∷◌, Option, Some, None, refl, sym, ap, ◌∙◌, inl, inr, subst}
use Rattle.std.specs.Prelude.{is_some, codes}
use Rattle.ei_spec.specs.declared.interface.KnownInterface.{KnownInterface}
use Rattle.ei_spec.specs.declared.interface.KnownInterface.TheVariants as known
use Rattle.ei_spec.specs.Value.{U32, U64, Text, New, Value, Word, Long, Letters}
use Rattle.ei_spec.specs.Rows.{Row, row_at}
use Rattle.ei_spec.specs.Table.{context_type, table}
use Rattle.ei_spec.specs.Message.{Raw}
use Rattle.ei_session.specs.Arguments.{request_args}
use Rattle.ei_session.specs.Inputs.{is_of_device}
use Rattle.ei_session.specs.Meaning.{Meaning, Releases, Inputs, Asks, Greeting, Finish, ContextType, Name, InterfaceVersion, Sync, Disconnect, Pong, SeatRelease}
use Rattle.ei_session.specs.Meaning.{Bind, RequestDevice, DeviceRelease, Start, Stop, Frame, Ready, Release, Input, meaning, to_interface}
use Rattle.ei_session.proofs.Choices.{none_some, some_is}
use Rattle.ei_session.proofs.AskedRows.{At, row_is_at, are_held_as, reads_as, unread_asked}
use Rattle.ei_session.proofs.DeviceInterfaces.{AsksSo, OfRelease, OfInput, asks_one, input_unread}
use Rattle.ei_session.proofs.RowsMean.{asks_means}

-- what the request asks, by its row
pub record Meant (k : KnownInterface) (n : ℕ) (values : List Value) : Type 0 where
  pub asked : Meaning
  pub asks : Asks k n values asked

meant : (k : KnownInterface) (n j : ℕ) (values : List Value) (x : Meaning) → Asks k j values x → n ≡ j → Meant k n values
meant k n j values x a o = record { asked = x; asks = rw o a }

held : (r s : Row) (vs : List Value) → r ≡ s → are_held_as r.kinds vs ≡ true → are_held_as s.kinds vs ≡ true
held r s vs e h = subst (λ (x : Row). are_held_as x.kinds vs ≡ true) e h

-- ---- a row each

of_greeting : (n : ℕ) (vs : List Value) → n ≡ 0 → are_held_as (U32 ∷ []) vs ≡ true → Meant known.Handshake n vs
of_greeting n (Word version ∷ []) o h = meant known.Handshake n 0 _ _ (Greeting version) o
of_greeting n vs o h = absurd cc

of_finish : (n : ℕ) (vs : List Value) → n ≡ 1 → are_held_as [] vs ≡ true → Meant known.Handshake n vs
of_finish n [] o h = meant known.Handshake n 1 _ _ Finish o
of_finish n vs o h = absurd cc

of_context_type : (n : ℕ) (vs : List Value) → n ≡ 2 → are_held_as (context_type ∷ []) vs ≡ true → Meant known.Handshake n vs
of_context_type n (Word context ∷ []) o h = meant known.Handshake n 2 _ _ (ContextType context) o
of_context_type n vs o h = absurd cc

of_name : (n : ℕ) (vs : List Value) → n ≡ 3 → are_held_as (Text ∷ []) vs ≡ true → Meant known.Handshake n vs
of_name n (Letters name ∷ []) o h = meant known.Handshake n 3 _ _ (Name name) o
of_name n vs o h = absurd cc

of_interface_version : (n : ℕ) (vs : List Value) → n ≡ 4 → are_held_as (Text ∷ U32 ∷ []) vs ≡ true → Meant known.Handshake n vs
of_interface_version n (Letters name ∷ Word version ∷ []) o h = meant known.Handshake n 4 _ _ (InterfaceVersion name version) o
of_interface_version n vs o h = absurd cc

of_sync : (n : ℕ) (vs : List Value) → n ≡ 0 → are_held_as (New ∷ U32 ∷ []) vs ≡ true → Meant known.Connection n vs
of_sync n (Long callback ∷ Word version ∷ []) o h = meant known.Connection n 0 _ _ (Sync callback version) o
of_sync n vs o h = absurd cc

of_disconnect : (n : ℕ) (vs : List Value) → n ≡ 1 → are_held_as [] vs ≡ true → Meant known.Connection n vs
of_disconnect n [] o h = meant known.Connection n 1 _ _ Disconnect o
of_disconnect n vs o h = absurd cc

of_pong : (n : ℕ) (vs : List Value) → n ≡ 0 → are_held_as (U64 ∷ []) vs ≡ true → Meant known.Pingpong n vs
of_pong n (Long callback_data ∷ []) o h = meant known.Pingpong n 0 _ _ (Pong callback_data) o
of_pong n vs o h = absurd cc

of_seat_release : (n : ℕ) (vs : List Value) → n ≡ 0 → are_held_as [] vs ≡ true → Meant known.Seat n vs
of_seat_release n [] o h = meant known.Seat n 0 _ _ SeatRelease o
of_seat_release n vs o h = absurd cc

of_bind : (n : ℕ) (vs : List Value) → n ≡ 1 → are_held_as (U64 ∷ []) vs ≡ true → Meant known.Seat n vs
of_bind n (Long mask ∷ []) o h = meant known.Seat n 1 _ _ (Bind mask) o
of_bind n vs o h = absurd cc

of_request_device : (n : ℕ) (vs : List Value) → n ≡ 2 → are_held_as (U64 ∷ []) vs ≡ true → Meant known.Seat n vs
of_request_device n (Long mask ∷ []) o h = meant known.Seat n 2 _ _ (RequestDevice mask) o
of_request_device n vs o h = absurd cc

of_device_release : (n : ℕ) (vs : List Value) → n ≡ 0 → are_held_as [] vs ≡ true → Meant known.Device n vs
of_device_release n [] o h = meant known.Device n 0 _ _ DeviceRelease o
of_device_release n vs o h = absurd cc

of_start : (n : ℕ) (vs : List Value) → n ≡ 1 → are_held_as (U32 ∷ U32 ∷ []) vs ≡ true → Meant known.Device n vs
of_start n (Word last_serial ∷ Word sequence ∷ []) o h = meant known.Device n 1 _ _ (Start last_serial sequence) o
of_start n vs o h = absurd cc

of_stop : (n : ℕ) (vs : List Value) → n ≡ 2 → are_held_as (U32 ∷ []) vs ≡ true → Meant known.Device n vs
of_stop n (Word last_serial ∷ []) o h = meant known.Device n 2 _ _ (Stop last_serial) o
of_stop n vs o h = absurd cc

of_frame : (n : ℕ) (vs : List Value) → n ≡ 3 → are_held_as (U32 ∷ U64 ∷ []) vs ≡ true → Meant known.Device n vs
of_frame n (Word last_serial ∷ Long time ∷ []) o h = meant known.Device n 3 _ _ (Frame last_serial time) o
of_frame n vs o h = absurd cc

of_ready : (n : ℕ) (vs : List Value) → n ≡ 4 → are_held_as [] vs ≡ true → Meant known.Device n vs
of_ready n [] o h = meant known.Device n 4 _ _ Ready o
of_ready n vs o h = absurd cc

-- ---- an interface each

in_handshake : (n : ℕ) (r : Row) (vs : List Value) → At n r (table false known.Handshake) → are_held_as r.kinds vs ≡ true → Meant known.Handshake n vs
in_handshake n r vs (inl a) h = of_greeting n vs a.0 (held r _ vs a.1 h)
in_handshake n r vs (inr (inl a)) h = of_finish n vs a.0 (held r _ vs a.1 h)
in_handshake n r vs (inr (inr (inl a))) h = of_context_type n vs a.0 (held r _ vs a.1 h)
in_handshake n r vs (inr (inr (inr (inl a)))) h = of_name n vs a.0 (held r _ vs a.1 h)
in_handshake n r vs (inr (inr (inr (inr (inl a))))) h = of_interface_version n vs a.0 (held r _ vs a.1 h)
in_handshake n r vs (inr (inr (inr (inr (inr a))))) h = absurd a

in_connection : (n : ℕ) (r : Row) (vs : List Value) → At n r (table false known.Connection) → are_held_as r.kinds vs ≡ true → Meant known.Connection n vs
in_connection n r vs (inl a) h = of_sync n vs a.0 (held r _ vs a.1 h)
in_connection n r vs (inr (inl a)) h = of_disconnect n vs a.0 (held r _ vs a.1 h)
in_connection n r vs (inr (inr a)) h = absurd a

in_pingpong : (n : ℕ) (r : Row) (vs : List Value) → At n r (table false known.Pingpong) → are_held_as r.kinds vs ≡ true → Meant known.Pingpong n vs
in_pingpong n r vs (inl a) h = of_pong n vs a.0 (held r _ vs a.1 h)
in_pingpong n r vs (inr a) h = absurd a

in_seat : (n : ℕ) (r : Row) (vs : List Value) → At n r (table false known.Seat) → are_held_as r.kinds vs ≡ true → Meant known.Seat n vs
in_seat n r vs (inl a) h = of_seat_release n vs a.0 (held r _ vs a.1 h)
in_seat n r vs (inr (inl a)) h = of_bind n vs a.0 (held r _ vs a.1 h)
in_seat n r vs (inr (inr (inl a))) h = of_request_device n vs a.0 (held r _ vs a.1 h)
in_seat n r vs (inr (inr (inr a))) h = absurd a

in_device : (n : ℕ) (r : Row) (vs : List Value) → At n r (table false known.Device) → are_held_as r.kinds vs ≡ true → Meant known.Device n vs
in_device n r vs (inl a) h = of_device_release n vs a.0 (held r _ vs a.1 h)
in_device n r vs (inr (inl a)) h = of_start n vs a.0 (held r _ vs a.1 h)
in_device n r vs (inr (inr (inl a))) h = of_stop n vs a.0 (held r _ vs a.1 h)
in_device n r vs (inr (inr (inr (inl a)))) h = of_frame n vs a.0 (held r _ vs a.1 h)
in_device n r vs (inr (inr (inr (inr (inl a))))) h = of_ready n vs a.0 (held r _ vs a.1 h)
in_device n r vs (inr (inr (inr (inr (inr a))))) h = absurd a

in_interface : (k : KnownInterface) (n : ℕ) (vs : List Value) → is_of_device k ≡ true → AsksSo k n vs → Meant k n vs
in_interface k n vs d (OfRelease o e) = record { asked = Releases; asks = rw (o, e) (Release k d) }
in_interface k n vs d (OfInput i h) = record { asked = Inputs i; asks = Input k n vs i h }

by_row : (k : KnownInterface) (n : ℕ) (r : Row) (vs : List Value) → row_at n (table false k) ≡ Some r → At n r (table false k) → are_held_as r.kinds vs ≡ true → Meant k n vs
by_row known.Handshake n r vs is at h = in_handshake n r vs at h
by_row known.Connection n r vs is at h = in_connection n r vs at h
by_row known.Callback n r vs is at h = absurd at
by_row known.Pingpong n r vs is at h = in_pingpong n r vs at h
by_row known.Seat n r vs is at h = in_seat n r vs at h
by_row known.Device n r vs is at h = in_device n r vs at h
by_row k n r vs is at h = in_interface k n vs refl (asks_one k n r vs refl is h)

pub reads_mean : (k : KnownInterface) (m : Raw) (values : List Value) → request_args k m ≡ Some values → Meant k m.opcode values
reads_mean k m values a = let r = reads_as k m values a in by_row k m.opcode r.row values r.is_row (row_is_at m.opcode (table false k) r.row r.is_row) r.held

-- ---- where nothing reads

unread_interface : (k : KnownInterface) (m : Raw) → request_args k m ≡ None → to_interface k m ≡ None
unread_interface k m n = rw (unread_asked k (codes "release") m n, input_unread k m n) refl

pub unread_means : (k : KnownInterface) (m : Raw) → request_args k m ≡ None → meaning k m ≡ None
unfolding meaning
unread_means known.Handshake m n = rw (unread_asked known.Handshake (codes "handshake_version") m n, unread_asked known.Handshake (codes "finish") m n, unread_asked known.Handshake (codes "context_type") m n, unread_asked known.Handshake (codes "name") m n, unread_asked known.Handshake (codes "interface_version") m n) refl
unread_means known.Connection m n = rw (unread_asked known.Connection (codes "sync") m n, unread_asked known.Connection (codes "disconnect") m n) refl
unread_means known.Callback m n = refl
unread_means known.Pingpong m n = rw (unread_asked known.Pingpong (codes "done") m n) refl
unread_means known.Seat m n = rw (unread_asked known.Seat (codes "release") m n, unread_asked known.Seat (codes "bind") m n, unread_asked known.Seat (codes "request_device") m n) refl
unread_means known.Device m n = rw (unread_asked known.Device (codes "release") m n, unread_asked known.Device (codes "start_emulating") m n, unread_asked known.Device (codes "stop_emulating") m n, unread_asked known.Device (codes "frame") m n, unread_asked known.Device (codes "ready") m n) refl
unread_means k m n = unread_interface k m n

-- ---- both ways

pub meaning_by : (k : KnownInterface) (m : Raw) (x : Meaning) (o : Option (List Value)) → request_args k m ≡ o → meaning k m ≡ Some x → (values : List Value) × ((request_args k m ≡ Some values) × Asks k m.opcode values x)
meaning_by k m x None a h = absurd (none_some x (sym (unread_means k m a) ∙ h))
meaning_by k m x (Some values) a h =
    let r = reads_mean k m values a in
    let same : r.asked ≡ x = some_is r.asked x (sym (asks_means m k m.opcode values r.asked r.asks refl a) ∙ h) in
    (values, (a, subst (Asks k m.opcode values) same r.asks))

-- what is asked stands in a row of the table
pub means_row : (k : KnownInterface) (m : Raw) (x : Meaning) → meaning k m ≡ Some x → (values : List Value) × ((request_args k m ≡ Some values) × Asks k m.opcode values x)
means_row k m x h = meaning_by k m x (request_args k m) refl h

something_by : (k : KnownInterface) (m : Raw) (o : Option (List Value)) → request_args k m ≡ o → is_some (meaning k m) ≡ is_some o
something_by k m None a = ap is_some (unread_means k m a)
something_by k m (Some values) a = let r = reads_mean k m values a in ap is_some (asks_means m k m.opcode values r.asked r.asks refl a)

-- a request asks something exactly where it reads
pub means_something : (k : KnownInterface) (m : Raw) → is_some (meaning k m) ≡ is_some (request_args k m)
means_something k m = something_by k m (request_args k m) refl
