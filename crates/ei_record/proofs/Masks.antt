-- The devices that items make are those that messages make.
use Rattle.std.proofs.Common.{◌≡◌, ℕ, Bool, true, false, cond, eqb, List, Option, Some, None, refl, ap, sym, ◌∙◌}
use Rattle.std.specs.Prelude.{◌&&◌}
use Rattle.ei_spec.specs.Message.{Raw}
use Rattle.ei_spec.specs.Groups.{Input as Waiting, Frame, Other, Free, Plain as Given}
use Rattle.ei_input.specs.declared.input_event.InputEvent.{InputEvent}
use Rattle.ei_session.specs.Setup.{seat_id}
use Rattle.ei_session.specs.Handshake.{connected}
use Rattle.ei_session.specs.Meaning.{Meaning, meaning, Shakes, Syncs, Disconnects, Pongs, ReleasesSeat, Binds, RequestsDevice, Closes, Starts, Stops, Frames, Readies, Releases, Inputs}
use Rattle.ei_session.specs.ByMeaning.{item_for, mask_in}
use Rattle.ei_session.specs.Devices.{made, seat_is_open, not_empty}
use Rattle.ei_session.specs.Objects.{Entry, object}
use Rattle.ei_session.specs.Requests.{Asking, item, input_item, is_heard}
use Rattle.ei_session.proofs.AnsweredMeans.{made_asked}
use Rattle.ei_session.proofs.ItemMeans.{item_asked}
use Rattle.ei_session.proofs.ObjectLaws.{made_is}
use Rattle.ei_record.specs.Replayable.{mask_of}

-- the mask that an item asks for
abbrev pub item_mask : Option Asking → Option ℕ
item_mask (Some (Free y)) = mask_of (Given y)
item_mask (Some (Waiting d x)) = None
item_mask (Some (Frame d s t)) = None
item_mask (Some (Other d y)) = None
item_mask None = None

second : (a b : Bool) → (a && b) ≡ true → b ≡ true
second true b h = h
second false b h = absurd cc

here : (past : List Raw) (m : Raw) (mask : ℕ) → made past m ≡ Some mask → eqb m.id seat_id ≡ true
here past m mask h = second (seat_is_open past) (eqb m.id seat_id) (made_is past m mask h).0

-- the item of a `bind` or `request_device` of the seat
seat_case : (past : List Raw) (m : Raw) (mask : ℕ) (b c : Bool) → eqb m.id seat_id ≡ b → eqb mask 0 ≡ c → made past m ≡ cond c None (Some mask) → cond b (cond c None (Some mask)) None ≡ made past m
seat_case past m mask true c e f h = sym h
seat_case past m mask false true e f h = sym h
seat_case past m mask false false e f h = let g : true ≡ false = sym (here past m mask h) ∙ e in absurd cc

not_empty_at : (mask : ℕ) → not_empty (Some mask) ≡ cond (eqb mask 0) None (Some mask)
not_empty_at mask = refl

choose : (b : Bool) (mask : ℕ) → not_empty (cond b (Some mask) None) ≡ cond b (cond (eqb mask 0) None (Some mask)) None
choose true mask = refl
choose false mask = refl

heard_case : (past : List Raw) (d : ℕ) (x : InputEvent) (b : Bool) → item_mask (cond b (Some (Waiting d x)) None) ≡ None
heard_case past d x true = refl
heard_case past d x false = refl

module _ (past : List Raw) (m : Raw) where
  by_meaning : (device : Option ℕ) (x : Option Meaning) → made past m ≡ not_empty (mask_in x) → not_empty (item_mask (item_for past m.id device x)) ≡ made past m
  by_meaning device None h = sym h
  by_meaning device (Some (Binds mask)) h = choose (eqb m.id seat_id) mask ∙ seat_case past m mask (eqb m.id seat_id) (eqb mask 0) refl refl h
  by_meaning device (Some (RequestsDevice mask)) h = choose (eqb m.id seat_id) mask ∙ seat_case past m mask (eqb m.id seat_id) (eqb mask 0) refl refl h
  by_meaning device (Some (Shakes x)) h = sym h
  by_meaning device (Some (Syncs x y)) h = sym h
  by_meaning device (Some Disconnects) h = sym h
  by_meaning device (Some (Pongs x)) h = sym h
  by_meaning device (Some ReleasesSeat) h = sym h
  by_meaning None (Some Closes) h = sym h
  by_meaning (Some d) (Some Closes) h = sym h
  by_meaning None (Some (Starts x y)) h = sym h
  by_meaning (Some d) (Some (Starts x y)) h = sym h
  by_meaning None (Some (Stops x)) h = sym h
  by_meaning (Some d) (Some (Stops x)) h = sym h
  by_meaning None (Some (Frames x y)) h = sym h
  by_meaning (Some d) (Some (Frames x y)) h = sym h
  by_meaning None (Some Readies) h = sym h
  by_meaning (Some d) (Some Readies) h = sym h
  by_meaning device (Some Releases) h = sym h
  by_meaning None (Some (Inputs x)) h = sym h
  by_meaning (Some d) (Some (Inputs x)) h = ap not_empty (inputs_mask d x) ∙ sym h
    where
      inputs_mask : (d : ℕ) (x : InputEvent) → item_mask (input_item past (Some (record { device = d; input = x }))) ≡ None
      inputs_mask d x = heard_case past d x (is_heard past d x)

  -- a message makes the device that its item asks for
  pub mask_made : (e : Entry) → connected past ≡ true → object past m.id ≡ Some e → not_empty (item_mask (item past m)) ≡ made past m
  mask_made e on there = ap (λ (i : Option Asking). not_empty (item_mask i)) (item_asked past m e there) ∙ by_meaning e.device (meaning e.interface m) (made_asked past m e on there)
