-- What a message gives that isn't refused: whom it names, and what it asks for.
use Rattle.std.proofs.Common.{◌≡◌, ℕ, Bool, true, false, cond, not, ◌&&◌, eqb, List, Option, Some, None, refl, ap, sym, subst, ◌∙◌, arith}
use Rattle.std.proofs.lemmas.Bool.Decides.{nat_tests}
use Rattle.ei_spec.specs.declared.interface.KnownInterface.{KnownInterface}
use Rattle.ei_spec.specs.declared.interface.KnownInterface.TheVariants as known
use Rattle.ei_spec.specs.Value.{Value}
use Rattle.ei_spec.specs.Message.{Raw}
use Rattle.ei_spec.specs.Groups.{Input as Waiting, Frame, Other, Free, Plain as Given}
use Rattle.ei_input.specs.declared.input_event.InputEvent.{InputEvent}
use Rattle.ei_session.specs.Setup.{Setup, seat_id}
use Rattle.ei_session.specs.Meaning.{Meaning, meaning, Asks, Bind as AsksBind, RequestDevice as AsksDevice}
use Rattle.ei_session.specs.Meaning.{Shakes, Syncs, Disconnects, Pongs, ReleasesSeat, Binds, RequestsDevice, Closes, Starts, Stops, Frames, Readies, Releases, Inputs}
use Rattle.ei_session.specs.ByMeaning.{item_for, refusal_for}
use Rattle.ei_session.specs.Kept.{home}
use Rattle.ei_session.specs.Objects.{Entry, object}
use Rattle.ei_session.specs.Refusals.{refusal}
use Rattle.ei_session.specs.Requests.{Asking, item, is_heard}
use Rattle.ei_session.proofs.Choices.{some_is}
use Rattle.ei_session.proofs.ItemLaws.{item_unknown}
use Rattle.ei_session.proofs.ItemMeans.{item_asked}
use Rattle.ei_session.proofs.Placed.{object_placed}
use Rattle.ei_session.proofs.ReadsMean.{means_row}
use Rattle.ei_session.proofs.RefusedMeans.{refusal_asked}
use Rattle.ei_record.specs.Replayable.{device_of, asks_badly, is_within}

-- the target of the message is the device, or an interface of it
pub record IsTo (past : List Raw) (m : Raw) (d : ℕ) : Type 0 where
  pub entry : Entry
  pub there : object past m.id ≡ Some entry
  pub own : entry.device ≡ Some d

-- an item of a device is given by a message to it; another asks for nothing that there isn't, and names no device
abbrev pub Comes : Setup → List Raw → Raw → Option Asking → Type 0
Comes setup past m None = Unit {0}
Comes setup past m (Some (Waiting d x)) = Unit {0}
Comes setup past m (Some (Frame d s t)) = IsTo past m d
Comes setup past m (Some (Other d y)) = IsTo past m d × (device_of (Given y) ≡ Some d) × (asks_badly setup (Given y) ≡ false)
Comes setup past m (Some (Free y)) = (device_of (Given y) ≡ None) × (asks_badly setup (Given y) ≡ false)

-- ---- the seat

seat_row : (k : KnownInterface) (n : ℕ) (values : List Value) (x : Meaning) (mask : ℕ) → Asks k n values x → x ≡ Binds mask → k ≡ known.Seat
seat_row k n values x mask (AsksBind other) e = refl
seat_row k n values x mask a e = absurd cc

requests_row : (k : KnownInterface) (n : ℕ) (values : List Value) (x : Meaning) (mask : ℕ) → Asks k n values x → x ≡ RequestsDevice mask → k ≡ known.Seat
requests_row k n values x mask (AsksDevice other) e = refl
requests_row k n values x mask a e = absurd cc

at_seat : (past : List Raw) (id : ℕ) (e : Entry) → object past id ≡ Some e → e.interface ≡ known.Seat → id ≡ seat_id
at_seat past id e there kind =
    let placed = object_placed past id e there in
    let h : home known.Seat ≡ Some id = ap home (sym kind) ∙ placed.at_home (rw kind refl) in sym (some_is seat_id id h)

within : {E : Type 0} (b : Bool) (x : E) → cond b None (Some x) ≡ None → b ≡ true
within true x h = refl
within false x h = absurd cc

fine : (setup : Setup) (id mask : ℕ) → id ≡ seat_id → is_within mask setup.capabilities ≡ true → not (eqb id seat_id && is_within mask setup.capabilities) ≡ false
fine setup id mask e w = let here : eqb id seat_id ≡ true = grind (arith, nat_tests, e) in rw (here, w) refl

-- ---- by what is asked

heard_case : (setup : Setup) (past : List Raw) (m : Raw) (d : ℕ) (x : InputEvent) (b : Bool) → Comes setup past m (cond b (Some (Waiting d x)) None)
heard_case setup past m d x true = tt
heard_case setup past m d x false = tt

module _ (setup : Setup) (past : List Raw) (m : Raw) (e : Entry) (there : object past m.id ≡ Some e) where
  to : (d : ℕ) → e.device ≡ Some d → IsTo past m d
  to d own = record { entry = e; there = there; own = own }

  by : (device : Option ℕ) (x : Meaning) → e.device ≡ device → meaning e.interface m ≡ Some x → refusal_for setup past e x ≡ None → Comes setup past m (item_for past m.id device (Some x))
  by device (Binds mask) own means r =
      let w = means_row e.interface m (Binds mask) means in
      let kind = seat_row e.interface m.opcode w.0 (Binds mask) mask w.1.1 refl in
      (refl, fine setup m.id mask (at_seat past m.id e there kind) (within (is_within mask setup.capabilities) _ r))
  by device (RequestsDevice mask) own means r =
      let w = means_row e.interface m (RequestsDevice mask) means in
      let kind = requests_row e.interface m.opcode w.0 (RequestsDevice mask) mask w.1.1 refl in
      (refl, fine setup m.id mask (at_seat past m.id e there kind) (within (is_within mask setup.capabilities) _ r))
  by device Disconnects own means r = (refl, refl)
  by (Some d) Closes own means r = (to d own, refl, refl)
  by (Some d) (Starts x y) own means r = (to d own, refl, refl)
  by (Some d) (Stops x) own means r = (to d own, refl, refl)
  by (Some d) (Frames x y) own means r = to d own
  by (Some d) Readies own means r = (to d own, refl, refl)
  by (Some d) (Inputs x) own means r = heard_case setup past m d x (is_heard past d x)
  by device (Shakes x) own means r = tt
  by device (Syncs x y) own means r = tt
  by device (Pongs x) own means r = tt
  by device ReleasesSeat own means r = tt
  by device Releases own means r = tt
  by None Closes own means r = tt
  by None (Starts x y) own means r = tt
  by None (Stops x) own means r = tt
  by None (Frames x y) own means r = tt
  by None Readies own means r = tt
  by None (Inputs x) own means r = tt

  by_means : (o : Option Meaning) → meaning e.interface m ≡ o → refusal setup past m ≡ None → Comes setup past m (item_for past m.id e.device o)
  by_means None means r = tt
  by_means (Some x) means r = by e.device x refl means (sym (refusal_asked setup past m e x there means) ∙ r)

by_object : (setup : Setup) (past : List Raw) (m : Raw) (o : Option Entry) → object past m.id ≡ o → refusal setup past m ≡ None → Comes setup past m (item past m)
by_object setup past m None gone r = subst (Comes setup past m) (sym (item_unknown past m gone)) tt
by_object setup past m (Some e) there r =
    subst (Comes setup past m) (sym (item_asked past m e there)) (by_means setup past m e there (meaning e.interface m) refl r)

pub comes : (setup : Setup) (past : List Raw) (m : Raw) → refusal setup past m ≡ None → Comes setup past m (item past m)
comes setup past m r = by_object setup past m (object past m.id) refl r
