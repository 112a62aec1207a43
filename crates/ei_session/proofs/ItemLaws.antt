-- What a message of each kind gives.
use Rattle.std.proofs.Common.{◌≡◌, ℕ, Bool, true, false, cond, eqb, List, [], ◌∷◌, Option, Some, None, refl, ap, ◌∙◌}
use Rattle.std.specs.Prelude.{codes}
use Rattle.std.proofs.lemmas.Bool.{eqb-true}
use Rattle.ei_spec.specs.declared.interface.KnownInterface.{KnownInterface}
use Rattle.ei_spec.specs.declared.interface.KnownInterface.TheVariants as known
use Rattle.ei_spec.specs.Value.{Value, Word, Long}
use Rattle.ei_spec.specs.Rows.{Row}
use Rattle.ei_spec.specs.Message.{Raw}
use Rattle.ei_spec.specs.Groups.{Input as Waiting, Frame, Other, Free}
use Rattle.ei_session.specs.Arguments.{row_args}
use Rattle.ei_session.specs.Asked.{args_by, asked, asks, none}
use Rattle.ei_session.specs.Inputs.{DeviceInput, input_to}
use Rattle.ei_session.specs.Objects.{Entry, is_device, object}
use Rattle.ei_session.specs.Touches.{of_device, input_of, input}
use Rattle.ei_session.specs.Requests.{Bind, RequestDevice, Ready, DeviceClosed, DeviceStartEmulating, DeviceStopEmulating, Disconnect, device_item, seat_item}
use Rattle.ei_session.specs.Requests.{is_heard, input_item, item_to, item}
use Rattle.ei_session.proofs.Choices.{none_some}
use Rattle.ei_session.proofs.Opcodes.{release_opcode}
use Rattle.ei_session.proofs.DeviceInterfaces.{no_input}

-- the opcode and the arguments of a message of this row
pub args_are : (n : ℕ) (r : Row) (m : Raw) (args : List Value) → args_by (Some (n, r)) m ≡ Some args → (m.opcode ≡ n) × (row_args (Some r) m ≡ Some args)
args_are n r m args h = by (eqb m.opcode n) refl h
  where
    by : (b : Bool) → eqb m.opcode n ≡ b → cond b (row_args (Some r) m) None ≡ Some args → (m.opcode ≡ n) × (row_args (Some r) m ≡ Some args)
    by true e h = (eqb-true m.opcode n e, h)
    by false e h = absurd (none_some args h)

-- a message of another opcode isn't of this row
pub no_args : (n j : ℕ) (r : Row) (m : Raw) → m.opcode ≡ j → eqb j n ≡ false → args_by (Some (n, r)) m ≡ None
no_args n j r m o f = let e : eqb m.opcode n ≡ false = ap (λ (x : ℕ). eqb x n) o ∙ f in rw e refl

-- ---- what isn't there

pub item_unknown : (before : List Raw) (m : Raw) → object before m.id ≡ None → item before m ≡ None
unfolding item
item_unknown before m n = rw (n, item) refl

-- ---- requests to a device

module _ (m : Raw) (j : ℕ) (o : m.opcode ≡ j) where
  no_release : eqb j 0 ≡ false → asked known.Device (codes "release") m ≡ None
  unfolding asked
  no_release f = no_args 0 j _ m o f

  no_start : eqb j 1 ≡ false → asked known.Device (codes "start_emulating") m ≡ None
  unfolding asked
  no_start f = no_args 1 j _ m o f

  no_stop : eqb j 2 ≡ false → asked known.Device (codes "stop_emulating") m ≡ None
  unfolding asked
  no_stop f = no_args 2 j _ m o f

  no_frame : eqb j 3 ≡ false → asked known.Device (codes "frame") m ≡ None
  unfolding asked
  no_frame f = no_args 3 j _ m o f

  no_bind : eqb j 1 ≡ false → asked known.Seat (codes "bind") m ≡ None
  unfolding asked
  no_bind f = no_args 1 j _ m o f

  no_request : eqb j 2 ≡ false → asked known.Seat (codes "request_device") m ≡ None
  unfolding asked
  no_request f = no_args 2 j _ m o f

  no_disconnect : eqb j 1 ≡ false → asked known.Connection (codes "disconnect") m ≡ None
  unfolding asked
  no_disconnect f = no_args 1 j _ m o f

  no_sync : eqb j 0 ≡ false → asked known.Connection (codes "sync") m ≡ None
  unfolding asked
  no_sync f = no_args 0 j _ m o f

module _ (m : Raw) (args : List Value) where
  start_opcode : asked known.Device (codes "start_emulating") m ≡ Some args → m.opcode ≡ 1
  unfolding asked
  start_opcode h = (args_are 1 _ m args h).0

  stop_opcode : asked known.Device (codes "stop_emulating") m ≡ Some args → m.opcode ≡ 2
  unfolding asked
  stop_opcode h = (args_are 2 _ m args h).0

  frame_opcode : asked known.Device (codes "frame") m ≡ Some args → m.opcode ≡ 3
  unfolding asked
  frame_opcode h = (args_are 3 _ m args h).0

  ready_opcode : asked known.Device (codes "ready") m ≡ Some args → m.opcode ≡ 4
  unfolding asked
  ready_opcode h = (args_are 4 _ m args h).0

  request_opcode : asked known.Seat (codes "request_device") m ≡ Some args → m.opcode ≡ 2
  unfolding asked
  request_opcode h = (args_are 2 _ m args h).0

  seat_release_opcode : asked known.Seat (codes "release") m ≡ Some args → m.opcode ≡ 0
  unfolding asked
  seat_release_opcode h = (args_are 0 _ m args h).0

  pub sync_opcode : asked known.Connection (codes "sync") m ≡ Some args → m.opcode ≡ 0
  unfolding asked
  sync_opcode h = (args_are 0 _ m args h).0

  pub disconnect_opcode : asked known.Connection (codes "disconnect") m ≡ Some args → m.opcode ≡ 1
  unfolding asked
  disconnect_opcode h = (args_are 1 _ m args h).0

module _ (before : List Raw) (m : Raw) (e : Entry) (d : ℕ) (there : object before m.id ≡ Some e) (kind : e.interface ≡ known.Device) (own : e.device ≡ Some d) where
  device_case : item before m ≡ device_item d m
  unfolding item
  device_case = rw (there, item, kind, own) refl

  pub item_closed : asked known.Device (codes "release") m ≡ Some [] → item before m ≡ Some (Other d (DeviceClosed d))
  item_closed h = device_case ∙ rw h refl

  pub item_start : (serial sequence : ℕ) → asked known.Device (codes "start_emulating") m ≡ Some (Word serial ∷ Word sequence ∷ []) → item before m ≡ Some (Other d (DeviceStartEmulating d serial sequence))
  item_start serial sequence h = let o = start_opcode m _ h in device_case ∙ rw (no_release m 1 o refl, h) refl

  pub item_stop : (serial : ℕ) → asked known.Device (codes "stop_emulating") m ≡ Some (Word serial ∷ []) → item before m ≡ Some (Other d (DeviceStopEmulating d serial))
  item_stop serial h = let o = stop_opcode m _ h in device_case ∙ rw (no_release m 2 o refl, no_start m 2 o refl, h) refl

  pub item_frame : (serial time : ℕ) → asked known.Device (codes "frame") m ≡ Some (Word serial ∷ Long time ∷ []) → item before m ≡ Some (Frame d serial time)
  item_frame serial time h = let o = frame_opcode m _ h in device_case ∙ rw (no_release m 3 o refl, no_start m 3 o refl, no_stop m 3 o refl, h) refl

  pub item_ready : asked known.Device (codes "ready") m ≡ Some [] → item before m ≡ Some (Other d (Ready d))
  item_ready h = let o = ready_opcode m _ h in device_case ∙ rw (no_release m 4 o refl, no_start m 4 o refl, no_stop m 4 o refl, no_frame m 4 o refl, h) refl

-- ---- requests to a seat, and to the connection

module _ (before : List Raw) (m : Raw) (e : Entry) (there : object before m.id ≡ Some e) where
  seat_case : e.interface ≡ known.Seat → item before m ≡ seat_item m.id m
  unfolding item
  seat_case kind = rw (there, item, kind) refl

  pub item_bind : (mask : ℕ) → e.interface ≡ known.Seat → asked known.Seat (codes "bind") m ≡ Some (Long mask ∷ []) → item before m ≡ Some (Free (Bind m.id mask))
  item_bind mask kind h = seat_case kind ∙ rw h refl

  pub item_request_device : (mask : ℕ) → e.interface ≡ known.Seat → asked known.Seat (codes "request_device") m ≡ Some (Long mask ∷ []) → item before m ≡ Some (Free (RequestDevice m.id mask))
  item_request_device mask kind h = let o = request_opcode m _ h in seat_case kind ∙ rw (no_bind m 2 o refl, h) refl

  pub item_seat_release : e.interface ≡ known.Seat → asked known.Seat (codes "release") m ≡ Some [] → item before m ≡ None
  item_seat_release kind h = let o = seat_release_opcode m _ h in seat_case kind ∙ rw (no_bind m 0 o refl, no_request m 0 o refl) refl

  connection_case : e.interface ≡ known.Connection → (args : Option (List Value)) → asked known.Connection (codes "disconnect") m ≡ args → item before m ≡ none (Free Disconnect) args
  unfolding item
  connection_case kind args h = rw (there, item, kind, h) refl

  pub item_disconnect : e.interface ≡ known.Connection → asked known.Connection (codes "disconnect") m ≡ Some [] → item before m ≡ Some (Free Disconnect)
  item_disconnect kind h = connection_case kind (Some []) h

  pub item_sync : (callback version : ℕ) → e.interface ≡ known.Connection → asked known.Connection (codes "sync") m ≡ Some (Long callback ∷ Word version ∷ []) → item before m ≡ None
  item_sync callback version kind h = connection_case kind None (no_disconnect m 0 (sync_opcode m _ h) refl)

-- ---- inputs

input_case : (before : List Raw) (m : Raw) (k : KnownInterface) (device : Option ℕ) (i : DeviceInput) → of_device device (input_to k m) ≡ Some i → item_to before m k device ≡ input_item before (input before m)
input_case before m known.Handshake (Some d) i h = absurd (none_some i h)
input_case before m known.Handshake None i h = absurd (none_some i h)
input_case before m known.Connection (Some d) i h = absurd (none_some i h)
input_case before m known.Connection None i h = absurd (none_some i h)
input_case before m known.Seat (Some d) i h = absurd (none_some i h)
input_case before m known.Seat None i h = absurd (none_some i h)
input_case before m known.Device (Some d) i h = absurd (none_some i h)
input_case before m known.Device None i h = absurd (none_some i h)
input_case before m k device i h = refl

input_at : (before : List Raw) (m : Raw) (i : DeviceInput) (o : Option Entry) → object before m.id ≡ o → input_of m o ≡ Some i → item before m ≡ input_item before (input before m)
unfolding item
input_at before m i None k h = absurd (none_some i h)
input_at before m i (Some e) k h = rw (k, item) (input_case before m e.interface e.device i h)

-- an input of any kind waits, but for one of a touch that isn't down
pub item_input : (before : List Raw) (m : Raw) (i : DeviceInput) → input before m ≡ Some i → item before m ≡ cond (is_heard before i.device i.input) (Some (Waiting i.device i.input)) None
unfolding input
item_input before m i h = input_at before m i (object before m.id) refl h ∙ ap (input_item before) h

-- ---- the release of an interface

released_case : (before : List Raw) (m : Raw) (k : KnownInterface) (d : ℕ) → is_device k ≡ false → asks k (codes "release") m ≡ true → input before m ≡ None → m.opcode ≡ 0 → item_to before m k (Some d) ≡ None
released_case before m known.Handshake d n r i o = ap (input_item before) i
released_case before m known.Connection d n r i o = rw (no_disconnect m 0 o refl) refl
released_case before m known.Callback d n r i o = ap (input_item before) i
released_case before m known.Pingpong d n r i o = ap (input_item before) i
released_case before m known.Seat d n r i o = rw (no_bind m 0 o refl, no_request m 0 o refl) refl
released_case before m known.Device d n r i o = absurd cc
released_case before m k d n r i o = ap (input_item before) i

no_device_input : (device : Option ℕ) → of_device device None ≡ None
no_device_input None = refl
no_device_input (Some d) = refl

input_none : (before : List Raw) (m : Raw) (o : Option Entry) → object before m.id ≡ o → m.opcode ≡ 0 → input before m ≡ None
unfolding input
input_none before m None k op = rw (k, input) refl
input_none before m (Some e) k op = rw (k, input, no_input m op e.interface) (no_device_input e.device)

-- the release of an interface gives nothing
pub item_release : (before : List Raw) (m : Raw) (e : Entry) (d : ℕ) → object before m.id ≡ Some e → e.device ≡ Some d → is_device e.interface ≡ false → asks e.interface (codes "release") m ≡ true → item before m ≡ None
unfolding item
item_release before m e d k p n r =
    let op = release_opcode e.interface m r in
    rw (k, item, p) (released_case before m e.interface d n r (input_none before m (object before m.id) refl op) op)
