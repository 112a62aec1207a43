-- What a request asks is what its row in the table asks.
use Rattle.std.proofs.Common.{◌≡◌, ℕ, false, List, [], Some, refl, sym, ap, ◌∙◌}
use Rattle.ei_spec.specs.declared.interface.KnownInterface.{KnownInterface}
use Rattle.ei_spec.specs.declared.interface.KnownInterface.TheVariants as known
use Rattle.ei_spec.specs.Value.{Value}
use Rattle.ei_spec.specs.Rows.{row_at}
use Rattle.ei_spec.specs.Table.{table}
use Rattle.ei_spec.specs.Message.{Raw}
use Rattle.ei_session.specs.Arguments.{row_args, request_args}
use Rattle.ei_session.specs.Asked.{asked}
use Rattle.ei_session.specs.Meaning.{Meaning, Asks, Greeting, Finish, ContextType, Name, InterfaceVersion, Sync, Disconnect, Pong, SeatRelease, Bind}
use Rattle.ei_session.specs.Meaning.{RequestDevice, DeviceRelease, Start, Stop, Frame, Ready, Release, Input, meaning}
use Rattle.ei_session.proofs.DeviceInterfaces.{means_to_interface, asked_release, no_release, input_at, input_of_device, later_input}

-- by the opcode n, the row of the table is this one
pub at_row : (k : KnownInterface) (m : Raw) (n : ℕ) (values : List Value) → m.opcode ≡ n → request_args k m ≡ Some values → row_args (row_at n (table false k)) m ≡ Some values
unfolding request_args
at_row k m n values o a = ap (λ (x : ℕ). row_args (row_at x (table false k)) m) (sym o) ∙ a

pub asks_means : (m : Raw) (k : KnownInterface) (n : ℕ) (values : List Value) (x : Meaning) → Asks k n values x → m.opcode ≡ n → request_args k m ≡ Some values → meaning k m ≡ Some x
unfolding meaning asked row_args
asks_means m k n values w (Greeting version) o a = rw (o, at_row known.Handshake m 0 _ o a) refl
asks_means m k n values w Finish o a = rw (o, at_row known.Handshake m 1 _ o a) refl
asks_means m k n values w (ContextType context) o a = rw (o, at_row known.Handshake m 2 _ o a) refl
asks_means m k n values w (Name name) o a = rw (o, at_row known.Handshake m 3 _ o a) refl
asks_means m k n values w (InterfaceVersion name version) o a = rw (o, at_row known.Handshake m 4 _ o a) refl
asks_means m k n values w (Sync callback version) o a = rw (o, at_row known.Connection m 0 _ o a) refl
asks_means m k n values w Disconnect o a = rw (o, at_row known.Connection m 1 _ o a) refl
asks_means m k n values w (Pong callback_data) o a = rw (o, at_row known.Pingpong m 0 _ o a) refl
asks_means m k n values w SeatRelease o a = rw (o, at_row known.Seat m 0 _ o a) refl
asks_means m k n values w (Bind mask) o a = rw (o, at_row known.Seat m 1 _ o a) refl
asks_means m k n values w (RequestDevice mask) o a = rw (o, at_row known.Seat m 2 _ o a) refl
asks_means m k n values w DeviceRelease o a = rw (o, at_row known.Device m 0 _ o a) refl
asks_means m k n values w (Start last_serial sequence) o a = rw (o, at_row known.Device m 1 _ o a) refl
asks_means m k n values w (Stop last_serial) o a = rw (o, at_row known.Device m 2 _ o a) refl
asks_means m k n values w (Frame last_serial time) o a = rw (o, at_row known.Device m 3 _ o a) refl
asks_means m k n values w Ready o a = rw (o, at_row known.Device m 4 _ o a) refl
asks_means m k n values w (Release j d) o a = means_to_interface j m d ∙ rw (asked_release j m [] d o a) refl
asks_means m k n values w (Input j i vs x h) o a =
    let d = input_of_device j i vs x h in
    means_to_interface j m d ∙ rw (no_release j m i o (later_input j i vs x h), input_at j m i vs o a ∙ h) refl
