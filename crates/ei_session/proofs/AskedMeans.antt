-- What the definitions say of a request, by what it asks.
use Rattle.std.proofs.Common.{◌≡◌, ℕ, List, [], Option, Some, None, refl, sym, ap, ◌∙◌}
use Rattle.std.specs.Prelude.{codes, is_some}
use Rattle.ei_spec.specs.declared.interface.KnownInterface.{KnownInterface}
use Rattle.ei_spec.specs.declared.interface.KnownInterface.TheVariants as known
use Rattle.ei_spec.specs.Value.{Value}
use Rattle.ei_spec.specs.Message.{Raw}
use Rattle.ei_session.specs.Arguments.{row_args, request_args}
use Rattle.ei_session.specs.Asked.{asked, asks}
use Rattle.ei_session.specs.Inputs.{input_to}
use Rattle.ei_session.specs.Meaning.{Meaning, Asks, Greeting, Finish, ContextType, Name, InterfaceVersion, Sync, Disconnect, Pong, SeatRelease, Bind}
use Rattle.ei_session.specs.Meaning.{RequestDevice, DeviceRelease, Release, Input, meaning}
use Rattle.ei_session.specs.Devices.{asked_mask}
use Rattle.ei_session.specs.Refusals.{callback_of}
use Rattle.ei_session.specs.ByMeaning.{releases, input_in, mask_in, callback_in, disconnects, finishes, tells_context, tells_name}
use Rattle.ei_session.proofs.DeviceInterfaces.{asked_release, no_release, later_input, no_input, input_at, input_unread}
use Rattle.ei_session.proofs.Choices.{none_some}
use Rattle.ei_session.proofs.AskedRows.{unread_asked}
use Rattle.ei_session.proofs.RowsMean.{at_row, asks_means}
use Rattle.ei_session.proofs.ReadsMean.{unread_means, reads_mean}

-- a word by rows is one by what is asked, where it is nothing for what doesn't read
pub by_asked : {A : Type 0} (k : KnownInterface) (m : Raw) (word : Option Meaning → A) (is : A) (o : Option (List Value)) → request_args k m ≡ o → (request_args k m ≡ None → is ≡ word None) →
    ((values : List Value) (x : Meaning) → Asks k m.opcode values x → request_args k m ≡ Some values → is ≡ word (Some x)) → is ≡ word (meaning k m)
by_asked k m word is None a unread row = unread a ∙ sym (ap word (unread_means k m a))
by_asked k m word is (Some values) a unread row = let r = reads_mean k m values a in row values r.asked r.asks a ∙ sym (ap word (asks_means m k m.opcode values r.asked r.asks refl a))

-- ---- releases

release_row : (m : Raw) (k : KnownInterface) (n : ℕ) (values : List Value) (x : Meaning) → Asks k n values x → m.opcode ≡ n → request_args k m ≡ Some values → asks k (codes "release") m ≡ releases (Some x)
unfolding asks asked row_args
release_row m k n values w SeatRelease o a = rw (o, at_row known.Seat m 0 _ o a) refl
release_row m k n values w DeviceRelease o a = rw (o, at_row known.Device m 0 _ o a) refl
release_row m k n values w (Release j d) o a = rw (asked_release j m [] d o a) refl
release_row m k n values w (Input j i vs x h) o a = rw (no_release j m i o (later_input j i vs x h)) refl
release_row m k n values w (Greeting version) o a = refl
release_row m k n values w Finish o a = refl
release_row m k n values w (ContextType context) o a = refl
release_row m k n values w (Name name) o a = refl
release_row m k n values w (InterfaceVersion name version) o a = refl
release_row m k n values w (Sync callback version) o a = refl
release_row m k n values w Disconnect o a = refl
release_row m k n values w (Pong callback_data) o a = refl
release_row m k n values w x o a = rw o refl

pub release_asked : (k : KnownInterface) (m : Raw) → asks k (codes "release") m ≡ releases (meaning k m)
unfolding asks
release_asked k m = by_asked k m releases (asks k (codes "release") m) (request_args k m) refl (λ u. ap is_some (unread_asked k (codes "release") m u)) (λ values x a h. release_row m k m.opcode values x a refl h)

-- ---- inputs

input_row : (m : Raw) (k : KnownInterface) (n : ℕ) (values : List Value) (x : Meaning) → Asks k n values x → m.opcode ≡ n → request_args k m ≡ Some values → input_to k m ≡ input_in (Some x)
unfolding asked row_args
input_row m k n values w (Release j d) o a = no_input m o j
input_row m k n values w (Input j i vs x h) o a = input_at j m i vs o a ∙ h
input_row m k n values w x o a = refl

pub input_asked : (k : KnownInterface) (m : Raw) → input_to k m ≡ input_in (meaning k m)
input_asked k m = by_asked k m input_in (input_to k m) (request_args k m) refl (λ u. input_unread k m u) (λ values x a h. input_row m k m.opcode values x a refl h)

-- ---- masks and callbacks

mask_row : (m : Raw) (n : ℕ) (values : List Value) (x : Meaning) → Asks known.Seat n values x → m.opcode ≡ n → request_args known.Seat m ≡ Some values → asked_mask m ≡ mask_in (Some x)
unfolding asked_mask asked row_args
mask_row m n values w SeatRelease o a = rw o refl
mask_row m n values w (Bind mask) o a = rw (o, at_row known.Seat m 1 _ o a) refl
mask_row m n values w (RequestDevice mask) o a = rw (o, at_row known.Seat m 2 _ o a) refl
mask_row m n values w (Release k d) o a = absurd cc
mask_row m n values w (Input k j vs x h) o a = absurd (none_some x h)

pub mask_asked : (m : Raw) → asked_mask m ≡ mask_in (meaning known.Seat m)
unfolding asked_mask
mask_asked m = by_asked known.Seat m mask_in (asked_mask m) (request_args known.Seat m) refl (λ u. rw (unread_asked known.Seat (codes "bind") m u, unread_asked known.Seat (codes "request_device") m u) refl) (λ values x a h. mask_row m m.opcode values x a refl h)

callback_row : (m : Raw) (n : ℕ) (values : List Value) (x : Meaning) → Asks known.Connection n values x → m.opcode ≡ n → request_args known.Connection m ≡ Some values → callback_of (asked known.Connection (codes "sync") m) ≡ callback_in (Some x)
unfolding asked row_args
callback_row m n values w (Sync callback version) o a = rw (o, at_row known.Connection m 0 _ o a) refl
callback_row m n values w Disconnect o a = rw o refl
callback_row m n values w (Release k d) o a = absurd cc
callback_row m n values w (Input k j vs x h) o a = absurd (none_some x h)

pub callback_asked : (m : Raw) → callback_of (asked known.Connection (codes "sync") m) ≡ callback_in (meaning known.Connection m)
callback_asked m = by_asked known.Connection m callback_in (callback_of (asked known.Connection (codes "sync") m)) (request_args known.Connection m) refl (λ u. rw (unread_asked known.Connection (codes "sync") m u) refl) (λ values x a h. callback_row m m.opcode values x a refl h)

-- ---- the end of the connection

disconnect_row : (m : Raw) (n : ℕ) (values : List Value) (x : Meaning) → Asks known.Connection n values x → m.opcode ≡ n → request_args known.Connection m ≡ Some values → asks known.Connection (codes "disconnect") m ≡ disconnects (Some x)
unfolding asks asked row_args
disconnect_row m n values w (Sync callback version) o a = rw o refl
disconnect_row m n values w Disconnect o a = rw (o, at_row known.Connection m 1 _ o a) refl
disconnect_row m n values w (Release k d) o a = absurd cc
disconnect_row m n values w (Input k j vs x h) o a = absurd (none_some x h)

pub disconnect_asked : (m : Raw) → asks known.Connection (codes "disconnect") m ≡ disconnects (meaning known.Connection m)
unfolding asks
disconnect_asked m = by_asked known.Connection m disconnects (asks known.Connection (codes "disconnect") m) (request_args known.Connection m) refl (λ u. ap is_some (unread_asked known.Connection (codes "disconnect") m u)) (λ values x a h. disconnect_row m m.opcode values x a refl h)

-- ---- the handshake

module _ (m : Raw) where
  finish_row : (n : ℕ) (values : List Value) (x : Meaning) → Asks known.Handshake n values x → m.opcode ≡ n → request_args known.Handshake m ≡ Some values → asks known.Handshake (codes "finish") m ≡ finishes (Some x)
  unfolding asks asked row_args
  finish_row n values w (Greeting version) o a = rw o refl
  finish_row n values w Finish o a = rw (o, at_row known.Handshake m 1 _ o a) refl
  finish_row n values w (ContextType context) o a = rw o refl
  finish_row n values w (Name name) o a = rw o refl
  finish_row n values w (InterfaceVersion name version) o a = rw o refl
  finish_row n values w (Release k d) o a = absurd cc
  finish_row n values w (Input k j vs x h) o a = absurd (none_some x h)

  pub finish_asked : asks known.Handshake (codes "finish") m ≡ finishes (meaning known.Handshake m)
  unfolding asks
  finish_asked = by_asked known.Handshake m finishes (asks known.Handshake (codes "finish") m) (request_args known.Handshake m) refl (λ u. ap is_some (unread_asked known.Handshake (codes "finish") m u)) (λ values x a h. finish_row m.opcode values x a refl h)

  context_row : (n : ℕ) (values : List Value) (x : Meaning) → Asks known.Handshake n values x → m.opcode ≡ n → request_args known.Handshake m ≡ Some values → asks known.Handshake (codes "context_type") m ≡ tells_context (Some x)
  unfolding asks asked row_args
  context_row n values w (Greeting version) o a = rw o refl
  context_row n values w Finish o a = rw o refl
  context_row n values w (ContextType context) o a = rw (o, at_row known.Handshake m 2 _ o a) refl
  context_row n values w (Name name) o a = rw o refl
  context_row n values w (InterfaceVersion name version) o a = rw o refl
  context_row n values w (Release k d) o a = absurd cc
  context_row n values w (Input k j vs x h) o a = absurd (none_some x h)

  pub context_asked : asks known.Handshake (codes "context_type") m ≡ tells_context (meaning known.Handshake m)
  unfolding asks
  context_asked = by_asked known.Handshake m tells_context (asks known.Handshake (codes "context_type") m) (request_args known.Handshake m) refl (λ u. ap is_some (unread_asked known.Handshake (codes "context_type") m u)) (λ values x a h. context_row m.opcode values x a refl h)

  name_row : (n : ℕ) (values : List Value) (x : Meaning) → Asks known.Handshake n values x → m.opcode ≡ n → request_args known.Handshake m ≡ Some values → asks known.Handshake (codes "name") m ≡ tells_name (Some x)
  unfolding asks asked row_args
  name_row n values w (Greeting version) o a = rw o refl
  name_row n values w Finish o a = rw o refl
  name_row n values w (ContextType context) o a = rw o refl
  name_row n values w (Name name) o a = rw (o, at_row known.Handshake m 3 _ o a) refl
  name_row n values w (InterfaceVersion name version) o a = rw o refl
  name_row n values w (Release k d) o a = absurd cc
  name_row n values w (Input k j vs x h) o a = absurd (none_some x h)

  pub name_asked : asks known.Handshake (codes "name") m ≡ tells_name (meaning known.Handshake m)
  unfolding asks
  name_asked = by_asked known.Handshake m tells_name (asks known.Handshake (codes "name") m) (request_args known.Handshake m) refl (λ u. ap is_some (unread_asked known.Handshake (codes "name") m u)) (λ values x a h. name_row m.opcode values x a refl h)
