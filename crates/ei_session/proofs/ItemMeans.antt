-- What a request gives, by what it asks.
use Rattle.std.proofs.Common.{◌≡◌, ℕ, true, List, Option, Some, None, refl, ap, ◌∙◌}
use Rattle.std.specs.Prelude.{codes}
use Rattle.ei_spec.specs.declared.interface.KnownInterface.{KnownInterface}
use Rattle.ei_spec.specs.declared.interface.KnownInterface.TheVariants as known
use Rattle.ei_spec.specs.Value.{Value}
use Rattle.ei_spec.specs.Message.{Raw}
use Rattle.ei_session.specs.Arguments.{row_args, request_args}
use Rattle.ei_session.specs.Asked.{asked}
use Rattle.ei_input.specs.declared.input_event.InputEvent.{InputEvent}
use Rattle.ei_session.specs.Inputs.{is_of_device}
use Rattle.ei_session.specs.Meaning.{Meaning, Inputs, Asks, Greeting, Finish, ContextType, Name, InterfaceVersion, Sync, Disconnect, Pong, SeatRelease, Bind}
use Rattle.ei_session.specs.Meaning.{RequestDevice, DeviceRelease, Start, Stop, Frame, Ready, Release, Input, meaning}
use Rattle.ei_session.specs.Objects.{Entry, object}
use Rattle.ei_session.specs.Touches.{of_device, input}
use Rattle.ei_session.specs.Requests.{input_item, item_to, item}
use Rattle.ei_session.specs.ByMeaning.{input_in, item_for}
use Rattle.ei_session.proofs.AskedRows.{unread_asked}
use Rattle.ei_session.proofs.DeviceInterfaces.{input_of_device}
use Rattle.ei_session.proofs.RowsMean.{at_row, asks_means}
use Rattle.ei_session.proofs.ReadsMean.{unread_means}
use Rattle.ei_session.proofs.AskedMeans.{by_asked, input_asked}

-- the input that a message is, by what it asks
pub input_by : (before : List Raw) (m : Raw) (e : Entry) → object before m.id ≡ Some e → input before m ≡ of_device e.device (input_in (meaning e.interface m))
unfolding input
input_by before m e there = rw (there, input) (ap (of_device e.device) (input_asked e.interface m))

pub bare : (device : Option ℕ) → of_device device None ≡ None
bare None = refl
bare (Some d) = refl

waits : (before : List Raw) (id : ℕ) (device : Option ℕ) (i : InputEvent) → input_item before (of_device device (Some i)) ≡ item_for before id device (Some (Inputs i))
waits before id None i = refl
waits before id (Some d) i = refl

-- a request to an interface of a device gives its input
item_to_interface : (before : List Raw) (m : Raw) (k : KnownInterface) (device : Option ℕ) → is_of_device k ≡ true → item_to before m k device ≡ input_item before (input before m)
item_to_interface before m known.Connection device d = absurd cc
item_to_interface before m known.Seat device d = absurd cc
item_to_interface before m known.Device device d = absurd cc
item_to_interface before m k device d = refl

item_row : (before : List Raw) (m : Raw) (device : Option ℕ) (k : KnownInterface) (n : ℕ) (values : List Value) (x : Meaning) → Asks k n values x → m.opcode ≡ n → request_args k m ≡ Some values →
    input before m ≡ of_device device (input_in (Some x)) → item_to before m k device ≡ item_for before m.id device (Some x)
unfolding asked row_args
item_row before m dv k n values w (Greeting version) o a i = ap (input_item before) (i ∙ bare dv)
item_row before m dv k n values w Finish o a i = ap (input_item before) (i ∙ bare dv)
item_row before m dv k n values w (ContextType context) o a i = ap (input_item before) (i ∙ bare dv)
item_row before m dv k n values w (Name name) o a i = ap (input_item before) (i ∙ bare dv)
item_row before m dv k n values w (InterfaceVersion name version) o a i = ap (input_item before) (i ∙ bare dv)
item_row before m dv k n values w (Sync callback version) o a i = rw o refl
item_row before m dv k n values w Disconnect o a i = rw (o, at_row known.Connection m 1 _ o a) refl
item_row before m dv k n values w (Pong callback_data) o a i = ap (input_item before) (i ∙ bare dv)
item_row before m dv k n values w SeatRelease o a i = rw o refl
item_row before m dv k n values w (Bind mask) o a i = rw (o, at_row known.Seat m 1 _ o a) refl
item_row before m dv k n values w (RequestDevice mask) o a i = rw (o, at_row known.Seat m 2 _ o a) refl
item_row before m None k n values w DeviceRelease o a i = rw i refl
item_row before m (Some d) k n values w DeviceRelease o a i = rw (o, at_row known.Device m 0 _ o a) refl
item_row before m None k n values w (Start last_serial sequence) o a i = rw i refl
item_row before m (Some d) k n values w (Start last_serial sequence) o a i = rw (o, at_row known.Device m 1 _ o a) refl
item_row before m None k n values w (Stop last_serial) o a i = rw i refl
item_row before m (Some d) k n values w (Stop last_serial) o a i = rw (o, at_row known.Device m 2 _ o a) refl
item_row before m None k n values w (Frame last_serial time) o a i = rw i refl
item_row before m (Some d) k n values w (Frame last_serial time) o a i = rw (o, at_row known.Device m 3 _ o a) refl
item_row before m None k n values w Ready o a i = rw i refl
item_row before m (Some d) k n values w Ready o a i = rw (o, at_row known.Device m 4 _ o a) refl
item_row before m dv k n values w (Release j d) o a i = item_to_interface before m j dv d ∙ ap (input_item before) (i ∙ bare dv)
item_row before m dv k n values w (Input j l vs x h) o a i = item_to_interface before m j dv (input_of_device j l vs x h) ∙ ap (input_item before) i ∙ waits before m.id dv x

-- nothing that doesn't read gives an item
unread_item : (before : List Raw) (m : Raw) (device : Option ℕ) (k : KnownInterface) → request_args k m ≡ None → input before m ≡ of_device device None → item_to before m k device ≡ None
unread_item before m dv known.Connection u i = rw (unread_asked known.Connection (codes "disconnect") m u) refl
unread_item before m dv known.Seat u i = rw (unread_asked known.Seat (codes "bind") m u, unread_asked known.Seat (codes "request_device") m u) refl
unread_item before m (Some d) known.Device u i =
    rw (
      unread_asked known.Device (codes "release") m u,
      unread_asked known.Device (codes "start_emulating") m u,
      unread_asked known.Device (codes "stop_emulating") m u,
      unread_asked known.Device (codes "frame") m u,
      unread_asked known.Device (codes "ready") m u,
    ) refl
unread_item before m dv k u i = ap (input_item before) (i ∙ bare dv)

item_by : (before : List Raw) (m : Raw) (device : Option ℕ) (k : KnownInterface) → input before m ≡ of_device device (input_in (meaning k m)) → item_to before m k device ≡ item_for before m.id device (meaning k m)
item_by before m device k i =
    by_asked k m (item_for before m.id device) (item_to before m k device) (request_args k m) refl
    (λ u. unread_item before m device k u (i ∙ ap (λ (x : Option Meaning). of_device device (input_in x)) (unread_means k m u)))
    (λ values x a h. item_row before m device k m.opcode values x a refl h (i ∙ ap (λ (y : Option Meaning). of_device device (input_in y)) (asks_means m k m.opcode values x a refl h)))

pub item_asked : (before : List Raw) (m : Raw) (e : Entry) → object before m.id ≡ Some e → item before m ≡ item_for before m.id e.device (meaning e.interface m)
unfolding item
item_asked before m e there = rw (there, item) (item_by before m e.device e.interface (input_by before m e there))
