-- A server takes the message of an item that isn't wrong, and then follows that item, too.
use Rattle.std.proofs.Common.{◌≡◌, ℕ, ◌+◌, ◌-◌, ◌*◌, ◌≤◌, ◌<◌, Bool, true, false, not, eqb, ltb, List, [], ◌∷◌, length, Option, Some, None, refl, sym, ap, ◌∙◌, arith, inl, inr}
use Rattle.std.specs.Prelude.{◌||◌, slice_get, nat_eq, codes}
use Rattle.std.specs.Option.{option_or}
use Rattle.std.specs.List.{filter}
use Rattle.std.specs.Set.{unique_keys}
use Rattle.std.proofs.lemmas.Bool.{leb-true}
use Rattle.std.proofs.lemmas.Bool.Decides.{nat_tests}
use Rattle.ei_spec.specs.declared.interface.KnownInterface.{KnownInterface}
use Rattle.ei_spec.specs.declared.interface.KnownInterface.TheVariants as known
use Rattle.ei_spec.specs.Message.{Raw}
use Rattle.ei_spec.specs.History.{joined}
use Rattle.ei_spec.specs.Groups.{Timed, Framed, Plain as Given, Input as Waiting, Frame, Other, Free}
use Rattle.ei_spec.proofs.HistoryLaws.{joined_more}
use Rattle.ei_input.specs.declared.input_event.InputEvent.{InputEvent}
use Rattle.ei_input.specs.declared.input_event.InputEvent.TheVariants as input_event
use Rattle.ei_session.specs.Setup.{Setup, seat_id}
use Rattle.ei_session.specs.Asked.{asks}
use Rattle.ei_session.specs.Handshake.{version}
use Rattle.ei_session.specs.Inputs.{DeviceInput}
use Rattle.ei_session.specs.Meaning.{Meaning}
use Rattle.ei_session.specs.ByMeaning.{input_in, mask_in, releases, disconnects, item_for, refusal_for}
use Rattle.ei_session.specs.Devices.{interfaces_of, not_empty, made, ids_of, ids_given, next_id, is_past, exhausts}
use Rattle.ei_session.specs.Objects.{Entry, object, new_device, is_release, is_of}
use Rattle.ei_session.specs.Touches.{of_device, input, said_of, touches, is_down, put_of, puts, touches_down}
use Rattle.ei_session.specs.Refusals.{verdict, judge}
use Rattle.ei_session.specs.Requests.{Request, Asking, Bind, RequestDevice, Ready, DeviceClosed, DeviceStartEmulating, DeviceStopEmulating, Disconnect, is_heard, item}
use Rattle.ei_session.proofs.Choices.{not_true, or_none}
use Rattle.ei_session.proofs.AnsweredMeans.{made_asked}
use Rattle.ei_session.proofs.AskedMeans.{release_asked}
use Rattle.ei_session.proofs.ItemMeans.{input_by, item_asked}
use Rattle.ei_session.proofs.JudgedMeans.{judge_asked}
use Rattle.ei_session.proofs.KeptByRequests.{fixed_versions, stays_connected, plainly_known}
use Rattle.ei_session.proofs.ObjectLaws.{next_above, object_new, object_device_left}
use Rattle.ei_session.proofs.ObjectShape.{next_id_more, object_below}
use Rattle.ei_session.proofs.ReplyBytes.{few_interfaces}
use Rattle.ei_session.proofs.SerialLaws.{down_more}
use Rattle.ei_record.specs.Replayable.{mask_of, next_device, closes_device, says_touch, touch_is_down, puts_touch, touches_before, touches_badly}
use Rattle.ei_record.proofs.TouchesBefore.{down_one}
use Rattle.ei_playing.specs.Playing.{interface_for, played, shaken}
use Rattle.ei_playing.proofs.Asking.{asked_by}
use Rattle.ei_playing.proofs.Early.{shaken_version}
use Rattle.ei_playing.proofs.ItemLaws.{There, IsNew, there_back, next_more, ids_low}
use Rattle.ei_playing.proofs.Wants.{the_seat, the_device, the_interface, Follows, IsRight, InputStands, input_stands, seat_stands, target_of, Meets}

-- ---- touches

filter_same : (p q : ℕ → Bool) → ((t : ℕ) → p t ≡ q t) → (xs : List ℕ) → filter p xs ≡ filter q xs
filter_same p q h [] = refl
filter_same p q h (x ∷ xs) = by (q x) refl (filter_same p q h xs)
  where
    by : (b : Bool) → q x ≡ b → filter p xs ≡ filter q xs → filter p (x ∷ xs) ≡ filter q (x ∷ xs)
    by true e next = rw (h x, e) (ap (λ (l : List ℕ). x ∷ l) next)
    by false e next = rw (h x, e) next

same_downs : (before : List Request) (past : List Raw) → Follows before past → (d : ℕ) → touches_down past d ≡ touches_before before d
unfolding touches_down touches_before
same_downs before past f d =
    filter_same (is_down past d) (touch_is_down before d) (f.down d) (unique_keys nat_eq (joined (puts d) past))
    ∙ ap (λ (l : List ℕ). filter (touch_is_down before d) (unique_keys nat_eq l)) (f.put d)

not_no : (b : Bool) → not b ≡ false → b ≡ true
not_no true e = refl
not_no false e = absurd cc

heard : (before : List Request) (past : List Raw) → Follows before past → (d : ℕ) (x : InputEvent) → touches_badly before d x ≡ false → is_heard past d x ≡ true
heard before past f d (input_event.TouchMotion touch x y) h = f.down d touch ∙ not_no _ h
heard before past f d (input_event.TouchUp touch) h = f.down d touch ∙ not_no _ h
heard before past f d (input_event.TouchCancel touch) h = f.down d touch ∙ not_no _ h
heard before past f d (input_event.PointerMotion dx dy) h = refl
heard before past f d (input_event.PointerMotionAbsolute dx dy) h = refl
heard before past f d (input_event.Button button state) h = refl
heard before past f d (input_event.ScrollDelta dx dy) h = refl
heard before past f d (input_event.ScrollStop x y) h = refl
heard before past f d (input_event.ScrollCancel x y) h = refl
heard before past f d (input_event.ScrollDiscrete dx dy) h = refl
heard before past f d (input_event.KeyboardKey key state) h = refl
heard before past f d (input_event.TouchDown touch x y) h = refl
heard before past f d (input_event.TextKeysym keysym state) h = refl
heard before past f d (input_event.TextUtf8 letters) h = refl
heard before past f d (input_event.GestureSwipe fingers dx dy) h = refl
heard before past f d (input_event.GesturePinch scale) h = refl

-- ---- what the message is

-- the input that an item is
abbrev pub input_of_item : Request → Option DeviceInput
input_of_item (Timed d x t) = Some (record { device = d; input = x })
input_of_item (Framed d s t) = None
input_of_item (Given y) = None

-- what an item waits as, or is given as
abbrev pub asking_of : Request → Asking
asking_of (Timed d x t) = Waiting d x
asking_of (Framed d s t) = Frame d s t
asking_of (Given (Bind seat mask)) = Free (Bind seat mask)
asking_of (Given (RequestDevice seat mask)) = Free (RequestDevice seat mask)
asking_of (Given (Ready d)) = Other d (Ready d)
asking_of (Given (DeviceClosed d)) = Other d (DeviceClosed d)
asking_of (Given (DeviceStartEmulating d serial sequence)) = Other d (DeviceStartEmulating d serial sequence)
asking_of (Given (DeviceStopEmulating d serial)) = Other d (DeviceStopEmulating d serial)
asking_of (Given Disconnect) = Free Disconnect

same_masks : (setup : Setup) (before : List Request) (i : Request) (next : Option Request) → IsRight setup before i next → mask_in (Some (asked_by i)) ≡ mask_of i
same_masks setup before (Timed d x t) next r = refl
same_masks setup before (Framed d s t) next r = refl
same_masks setup before (Given (Bind seat mask)) next r = rw ((seat_stands setup seat mask r.asks).is) refl
same_masks setup before (Given (RequestDevice seat mask)) next r = rw ((seat_stands setup seat mask r.asks).is) refl
same_masks setup before (Given (Ready d)) next r = refl
same_masks setup before (Given (DeviceClosed d)) next r = refl
same_masks setup before (Given (DeviceStartEmulating d serial sequence)) next r = refl
same_masks setup before (Given (DeviceStopEmulating d serial)) next r = refl
same_masks setup before (Given Disconnect) next r = refl

same_inputs : (i : Request) → of_device (target_of i).device (input_in (Some (asked_by i))) ≡ input_of_item i
same_inputs (Timed d x t) = refl
same_inputs (Framed d s t) = refl
same_inputs (Given (Bind seat mask)) = refl
same_inputs (Given (RequestDevice seat mask)) = refl
same_inputs (Given (Ready d)) = refl
same_inputs (Given (DeviceClosed d)) = refl
same_inputs (Given (DeviceStartEmulating d serial sequence)) = refl
same_inputs (Given (DeviceStopEmulating d serial)) = refl
same_inputs (Given Disconnect) = refl

module _ (setup : Setup) (before : List Request) (i : Request) (next : Option Request) (past : List Raw) (f : Follows before past) (r : IsRight setup before i next) (w : Meets before i past) where
  pub made_so : made past (played before i) ≡ not_empty (mask_of i)
  made_so =
      made_asked past (played before i) (target_of i) f.on w.there
      ∙ ap (λ (o : Option Meaning). not_empty (mask_in o)) w.asks
      ∙ ap not_empty (same_masks setup before i next r)

  pub input_so : input past (played before i) ≡ input_of_item i
  input_so = input_by past (played before i) (target_of i) w.there ∙ ap (λ (o : Option Meaning). of_device (target_of i).device (input_in o)) w.asks ∙ same_inputs i

  pub item_by_meaning : item past (played before i) ≡ item_for past (played before i).id (target_of i).device (Some (asked_by i))
  item_by_meaning = item_asked past (played before i) (target_of i) w.there ∙ ap (item_for past (played before i).id (target_of i).device) w.asks

  pub release_so : asks (target_of i).interface (codes "release") (played before i) ≡ releases (Some (asked_by i))
  release_so = release_asked (target_of i).interface (played before i) ∙ ap releases w.asks

-- what the message gives is what the item asks
asking_so : (setup : Setup) (before : List Request) (i : Request) (next : Option Request) (past : List Raw) → Follows before past → IsRight setup before i next →
    item_for past (played before i).id (target_of i).device (Some (asked_by i)) ≡ Some (asking_of i)
unfolding played
asking_so setup before (Timed d x t) next past f r = let h = heard before past f d x (input_stands before d x t next r.stands).touches in rw h refl
asking_so setup before (Framed d s t) next past f r = refl
asking_so setup before (Given (Bind seat mask)) next past f r = refl
asking_so setup before (Given (RequestDevice seat mask)) next past f r = refl
asking_so setup before (Given (Ready d)) next past f r = refl
asking_so setup before (Given (DeviceClosed d)) next past f r = refl
asking_so setup before (Given (DeviceStartEmulating d serial sequence)) next past f r = refl
asking_so setup before (Given (DeviceStopEmulating d serial)) next past f r = refl
asking_so setup before (Given Disconnect) next past f r = refl

pub item_so : (setup : Setup) (before : List Request) (i : Request) (next : Option Request) (past : List Raw) → Follows before past → IsRight setup before i next → Meets before i past → item past (played before i) ≡ Some (asking_of i)
item_so setup before i next past f r w = item_by_meaning setup before i next past f r w ∙ asking_so setup before i next past f r

-- ---- it isn't refused

module _ (setup : Setup) (before : List Request) (past : List Raw) (f : Follows before past) where
  input_lets : (d t : ℕ) (x : InputEvent) (next : Option Request) → InputStands before d x t next → refusal_for setup past (the_interface d (interface_for x)) (asked_by (Timed d x t)) ≡ None
  input_lets d t (input_event.TouchDown touch x y) next s =
      let both = or_none _ (touch_is_down before d touch) s.touches in
      let count = same_downs before past f d in
      let up = f.down d touch in
      rw (count, up, both.0, both.1) refl
  input_lets d t (input_event.TouchCancel touch) next s = rw shaken_version refl
  input_lets d t (input_event.TextUtf8 letters) next s = rw (s.writes) refl
  input_lets d t (input_event.PointerMotion dx dy) next s = refl
  input_lets d t (input_event.PointerMotionAbsolute dx dy) next s = refl
  input_lets d t (input_event.Button button state) next s = refl
  input_lets d t (input_event.ScrollDelta dx dy) next s = refl
  input_lets d t (input_event.ScrollStop x y) next s = refl
  input_lets d t (input_event.ScrollCancel x y) next s = refl
  input_lets d t (input_event.ScrollDiscrete dx dy) next s = refl
  input_lets d t (input_event.KeyboardKey key state) next s = refl
  input_lets d t (input_event.TouchMotion touch x y) next s = refl
  input_lets d t (input_event.TouchUp touch) next s = refl
  input_lets d t (input_event.TextKeysym keysym state) next s = refl
  input_lets d t (input_event.GestureSwipe fingers dx dy) next s = refl
  input_lets d t (input_event.GesturePinch scale) next s = refl

  lets : (i : Request) (next : Option Request) → IsRight setup before i next → refusal_for setup past (target_of i) (asked_by i) ≡ None
  lets (Timed d x t) next r = input_lets d t x next (input_stands before d x t next r.stands)
  lets (Framed d s t) next r = refl
  lets (Given (Bind seat mask)) next r = rw ((seat_stands setup seat mask r.asks).within) refl
  lets (Given (RequestDevice seat mask)) next r = rw ((seat_stands setup seat mask r.asks).within) refl
  lets (Given (Ready d)) next r = refl
  lets (Given (DeviceClosed d)) next r = refl
  lets (Given (DeviceStartEmulating d serial sequence)) next r = refl
  lets (Given (DeviceStopEmulating d serial)) next r = refl
  lets (Given Disconnect) next r = refl

ids_last : (next : ℕ) (o : Option ℕ) → next ≤ seat_id + 1 + 9 * 4294967000 → is_past next o ≡ false
ids_last next None le = refl
ids_last next (Some mask) le = not_true _ (λ h. let few = few_interfaces mask in let past = leb-true 0xffffffffffffffff (next + length (interfaces_of mask)) h in omega (arith, few, past, le))

module _ (setup : Setup) (before : List Request) (i : Request) (next : Option Request) (past : List Raw) (f : Follows before past) (r : IsRight setup before i next) (w : Meets before i past) (few : length before ≤ 4294967000) where
  pub ids_suffice : exhausts past (played before i) ≡ false
  unfolding exhausts
  ids_suffice =
      let at : next_id past ≤ seat_id + 1 + 9 * 4294967000 = let bound = ids_low before in let same = f.next in omega (arith, few, bound, same) in
      ids_last (next_id past) (made past (played before i)) at

  pub judged : judge setup past (played before i) ≡ verdict None (disconnects (Some (asked_by i)) || false)
  judged =
      judge_asked setup past (played before i) (target_of i) (asked_by i) f.on w.there w.asks
      ∙ rw (lets setup before past f i next r, ids_suffice) refl

-- ---- objects

new_none : (past : List Raw) (is : List KnownInterface) (id : ℕ) → id < next_id past → new_device past (next_id past) is id ≡ None
unfolding new_device
new_none past is id low =
    let other : eqb id (next_id past) ≡ false = grind (arith, nat_tests, low) in
    let below : ltb (next_id past) id ≡ false = grind (arith, nat_tests, low) in
    rw (other, below) refl

or_left : (o : Option Entry) → option_or None o ≡ o
or_left o = refl

-- whether an item closes the device of an object
abbrev closes_of : Request → Option Entry → Bool
closes_of (Given (DeviceClosed d)) o = is_of d o
closes_of i o = false

module _ (setup : Setup) (before : List Request) (i : Request) (next : Option Request) (past : List Raw) (f : Follows before past) (r : IsRight setup before i next) (w : Meets before i past) (id : ℕ) (low : id < next_id past) where
  making_keeps : (mask : ℕ) → not_empty (mask_of i) ≡ Some mask → object (played before i ∷ past) id ≡ object past id
  making_keeps mask e =
      object_new past (played before i) mask id (made_so setup before i next past f r w ∙ e)
      ∙ ap (λ (o : Option Entry). option_or o (object past id)) (new_none past (interfaces_of mask) id low)

  quiet_keeps : not_empty (mask_of i) ≡ None → releases (Some (asked_by i)) ≡ false → object (played before i ∷ past) id ≡ object past id
  quiet_keeps e q = (plainly_known setup past (played before i) (target_of i) f.on w.there (made_so setup before i next past f r w ∙ e) (release_so setup before i next past f r w ∙ q)).keeps.same_objects id

  asking_keeps : (o : Option ℕ) → not_empty (mask_of i) ≡ o → releases (Some (asked_by i)) ≡ false → object (played before i ∷ past) id ≡ object past id
  asking_keeps None e q = quiet_keeps e q
  asking_keeps (Some mask) e q = making_keeps mask e

closing_keeps : (setup : Setup) (before : List Request) (d : ℕ) (next : Option Request) (past : List Raw) (f : Follows before past) (r : IsRight setup before (Given (DeviceClosed d)) next) (w : Meets before (Given (DeviceClosed d)) past) (id : ℕ) →
    is_of d (object past id) ≡ false → object (played before (Given (DeviceClosed d)) ∷ past) id ≡ object past id
unfolding played is_release
closing_keeps setup before d next past f r w id h = object_device_left past (played before (Given (DeviceClosed d))) (the_device d) id w.there refl refl (release_so setup before (Given (DeviceClosed d)) next past f r w) h

-- what is there stays, but for a device that is closed
keeps : (setup : Setup) (before : List Request) (i : Request) (next : Option Request) (past : List Raw) → Follows before past → IsRight setup before i next → Meets before i past → (id : ℕ) → id < next_id past →
    closes_of i (object past id) ≡ false → object (played before i ∷ past) id ≡ object past id
keeps setup before (Timed d x t) next past f r w id low h = quiet_keeps setup before (Timed d x t) next past f r w id low refl refl
keeps setup before (Framed d s t) next past f r w id low h = quiet_keeps setup before (Framed d s t) next past f r w id low refl refl
keeps setup before (Given (Bind seat mask)) next past f r w id low h = asking_keeps setup before (Given (Bind seat mask)) next past f r w id low _ refl refl
keeps setup before (Given (RequestDevice seat mask)) next past f r w id low h = asking_keeps setup before (Given (RequestDevice seat mask)) next past f r w id low _ refl refl
keeps setup before (Given (Ready d)) next past f r w id low h = quiet_keeps setup before (Given (Ready d)) next past f r w id low refl refl
keeps setup before (Given (DeviceClosed d)) next past f r w id low h = closing_keeps setup before d next past f r w id h
keeps setup before (Given (DeviceStartEmulating d serial sequence)) next past f r w id low h = quiet_keeps setup before (Given (DeviceStartEmulating d serial sequence)) next past f r w id low refl refl
keeps setup before (Given (DeviceStopEmulating d serial)) next past f r w id low h = quiet_keeps setup before (Given (DeviceStopEmulating d serial)) next past f r w id low refl refl
keeps setup before (Given Disconnect) next past f r w id low h = quiet_keeps setup before (Given Disconnect) next past f r w id low refl refl

-- an object of a device that the item doesn't close
other_device : (before : List Request) (i : Request) (d : ℕ) (e : Entry) → closes_device d before i ≡ false → e.device ≡ Some d → closes_of i (Some e) ≡ false
unfolding closes_device is_of
other_device before (Timed d x t) device e h own = refl
other_device before (Framed d s t) device e h own = refl
other_device before (Given (Bind seat mask)) device e h own = refl
other_device before (Given (RequestDevice seat mask)) device e h own = refl
other_device before (Given (Ready d)) device e h own = refl
other_device before (Given (DeviceClosed d)) device e h own = rw own (let other : eqb device d ≡ false = grind (arith, nat_tests, h) in other)
other_device before (Given (DeviceStartEmulating d serial sequence)) device e h own = refl
other_device before (Given (DeviceStopEmulating d serial)) device e h own = refl
other_device before (Given Disconnect) device e h own = refl

no_device : (i : Request) → closes_of i (Some the_seat) ≡ false
unfolding is_of
no_device (Timed d x t) = refl
no_device (Framed d s t) = refl
no_device (Given (Bind seat mask)) = refl
no_device (Given (RequestDevice seat mask)) = refl
no_device (Given (Ready d)) = refl
no_device (Given (DeviceClosed d)) = refl
no_device (Given (DeviceStartEmulating d serial sequence)) = refl
no_device (Given (DeviceStopEmulating d serial)) = refl
no_device (Given Disconnect) = refl

-- ---- touches

said_so : (before : List Request) (i : Request) (d t : ℕ) → said_of d t (input_of_item i) ≡ says_touch d t before i
unfolding says_touch
said_so before (Timed device x time) d t = refl
said_so before (Framed device s time) d t = refl
said_so before (Given y) d t = refl

put_so : (before : List Request) (i : Request) (d : ℕ) → put_of d (input_of_item i) ≡ puts_touch d before i
unfolding puts_touch
put_so before (Timed device x time) d = refl
put_so before (Framed device s time) d = refl
put_so before (Given y) d = refl

-- ---- the item is followed

module _ (setup : Setup) (before : List Request) (i : Request) (next : Option Request) (past : List Raw) (f : Follows before past) (r : IsRight setup before i next) (w : Meets before i past) where
  same_version : (k : KnownInterface) → version (played before i ∷ past) k ≡ version shaken k
  same_version k = (fixed_versions past (played before i) f.on).same_version k ∙ f.versions k

  next_so : next_id (played before i ∷ past) ≡ next_device (i ∷ before)
  unfolding ids_given
  next_so =
      next_id_more past (played before i)
      ∙ ap (λ (o : Option ℕ). next_id past + ids_of o) (made_so setup before i next past f r w)
      ∙ ap (λ (n : ℕ). n + ids_of (not_empty (mask_of i))) f.next
      ∙ sym (next_more before i)

  seat_so : object (played before i ∷ past) seat_id ≡ Some the_seat
  seat_so = keeps setup before i next past f r w seat_id (next_above past) (ap (closes_of i) f.seat ∙ no_device i) ∙ f.seat

  -- what is there of a device that stays
  stays_so : (d id : ℕ) (e : Entry) → closes_device d before i ≡ false → e.device ≡ Some d → object past id ≡ Some e → object (played before i ∷ past) id ≡ Some e
  stays_so d id e kept own there = keeps setup before i next past f r w id (object_below past id e d there own) (ap (closes_of i) there ∙ other_device before i d e kept own) ∙ there

  -- what is there of a new one
  new_so : (d mask id : ℕ) → IsNew before i d mask → object (played before i ∷ past) id ≡ option_or (new_device past d (interfaces_of mask) id) (object past id)
  new_so d mask id n =
      object_new past (played before i) mask id (made_so setup before i next past f r w ∙ n.mask_is)
      ∙ ap (λ (x : ℕ). option_or (new_device past x (interfaces_of mask) id) (object past id)) (f.next ∙ n.is)

  device_so : (d mask : ℕ) → There (i ∷ before) d mask → object (played before i ∷ past) d ≡ Some (the_device d)
  unfolding new_device
  device_so d mask t = elim (there_back before i d mask t) [
    | inl n ↦ (let here : eqb d d ≡ true = grind arith in new_so d mask d n ∙ rw (here, f.versions known.Device) refl)
    | inr s ↦ stays_so d d (the_device d) s.kept refl (f.devices d mask s.there)
  ]

  interface_so : (d mask k : ℕ) (one : KnownInterface) → There (i ∷ before) d mask → slice_get (interfaces_of mask) k ≡ Some one → object (played before i ∷ past) (d + 1 + k) ≡ Some (the_interface d one)
  unfolding new_device
  interface_so d mask k one t at = elim (there_back before i d mask t) [
    | inl n ↦ (
        let far : eqb (d + 1 + k) d ≡ false = grind (arith, nat_tests) in
        let above : ltb d (d + 1 + k) ≡ true = grind (arith, nat_tests) in
        let place : d + 1 + k - d - 1 ≡ k = omega arith in
        new_so d mask (d + 1 + k) n ∙ rw (far, above, place, at, f.versions one) refl)
    | inr s ↦ stays_so d (d + 1 + k) (the_interface d one) s.kept refl (f.interfaces d mask k one s.there at)
  ]

  down_so : (d t : ℕ) → is_down (played before i ∷ past) d t ≡ touch_is_down (i ∷ before) d t
  unfolding touches
  down_so d t =
      let said = ap (said_of d t) (input_so setup before i next past f r w) ∙ said_so before i d t in
      down_more past (played before i) d t ∙ rw (said, f.down d t) refl ∙ sym (down_one before i d t)

  put_next : (d : ℕ) → joined (puts d) (played before i ∷ past) ≡ joined (puts_touch d) (i ∷ before)
  unfolding puts
  put_next d =
      let put = ap (put_of d) (input_so setup before i next past f r w) ∙ put_so before i d in
      joined_more (puts d) past (played before i) ∙ rw (put, f.put d) refl ∙ sym (joined_more (puts_touch d) before i)

  pub follows_on : Follows (i ∷ before) (played before i ∷ past)
  follows_on = record {
    on = stays_connected past (played before i) f.on;
    versions = same_version;
    next = next_so;
    seat = seat_so;
    devices = device_so;
    interfaces = interface_so;
    down = down_so;
    put = put_next;
  }
