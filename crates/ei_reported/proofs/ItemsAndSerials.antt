-- What each kind of event gives, and the serial after it.
use Rattle.std.proofs.Common.{◌≡◌, ℕ, Bool, true, false, ◌&&◌, ◌||◌, cond, List, [], ◌∷◌, Option, Some, None, refl, ap, ◌∙◌}
use Rattle.std.specs.Prelude.{is_some, unwrap_or}
use Rattle.ei_spec.specs.History.{last_said}
use Rattle.ei_spec.specs.declared.interface.KnownInterface.{KnownInterface}
use Rattle.ei_spec.specs.Groups.{Other, Free}
use Rattle.ei_types.specs.declared.error.EventError.{EventError}
use Rattle.ei_types.specs.declared.error.EventError.TheVariants as error
use Rattle.ei_types.specs.declared.enums.DisconnectReason.{DisconnectReason}
use Rattle.ei_input.specs.declared.input_event.InputEvent.{InputEvent}
use Rattle.ei_spec.specs.FromValues.{first}
use Rattle.ei_reported.specs.Said.{Told, Said, Disconnects, SeatDone, SeatGoes, DeviceDone, DeviceTells, DeviceGoes}
use Rattle.ei_reported.specs.Said.{Inputs, Modifies, Goes}
use Rattle.ei_reported.specs.Standing.{seat_pending, seat_added, device_pending, device_typed, device_added, holder}
use Rattle.ei_reported.specs.Reported.{device_of, Disconnected, SeatAdded, SeatRemoved, DeviceAdded, DeviceRemoved, Giving}
use Rattle.ei_reported.specs.Reported.{unless, goes_freely, refusal, telling, waiting, modifying, giving, item, keeps, serial}
use Rattle.ei_reported.specs.Changes.{has_serial, may_give}
use Rattle.ei_reported.proofs.ReportedLaws.{serial_more}

-- ---- items

-- what is given, where a refusal gives nothing
abbrev by_refusal : Option EventError → Option Giving → Option Giving
by_refusal (Some e) g = None
by_refusal None g = g

item_by : (before : List Said) (m : Said) (r : Option EventError) → refusal before m ≡ r → item before m ≡ by_refusal r (giving before m)
unfolding item
item_by before m (Some e) h = rw (h, item) refl
item_by before m None h = rw (h, item) refl

item_is : (before : List Said) (m : Said) → item before m ≡ by_refusal (refusal before m) (giving before m)
item_is before m = item_by before m (refusal before m) refl

given_if : (b : Bool) (e : EventError) (g : Option Giving) → by_refusal (unless b e) g ≡ cond b g None
given_if true e g = refl
given_if false e g = refl

given_if_both : (a b : Bool) (x y : EventError) (g : Option Giving) → by_refusal (first (unless a x ∷ unless b y ∷ [])) g ≡ cond (a && b) g None
given_if_both true true x y g = refl
given_if_both true false x y g = refl
given_if_both false b x y g = refl

pub item_disconnects : (before : List Said) (last_serial : ℕ) (why : DisconnectReason) (text : Option (List ℕ)) → item before (Disconnects last_serial why text) ≡ Some (Free (Disconnected last_serial why text))
item_disconnects before last_serial why text = item_is before (Disconnects last_serial why text)

pub item_seat_done : (before : List Said) (seat : ℕ) → item before (SeatDone seat) ≡ cond (seat_pending before seat) (Some (Free (SeatAdded seat))) None
item_seat_done before seat = item_is before (SeatDone seat) ∙ given_if (seat_pending before seat) error.SeatSetupEventAfterDone (giving before (SeatDone seat))

pub item_seat_goes : (before : List Said) (seat n : ℕ) → item before (SeatGoes seat n) ≡ cond (seat_added before seat) (Some (Free (SeatRemoved seat))) None
item_seat_goes before seat n = item_is before (SeatGoes seat n)

pub item_device_done : (before : List Said) (device : ℕ) → item before (DeviceDone device) ≡ cond (device_pending before device && device_typed before device) (Some (Other device (DeviceAdded (device_of before device)))) None
item_device_done before device =
    item_is before (DeviceDone device)
    ∙ given_if_both (device_pending before device) (device_typed before device) error.DeviceSetupEventAfterDone error.NoDeviceType (giving before (DeviceDone device))

pub item_device_tells : (before : List Said) (device n : ℕ) (told : Told) → item before (DeviceTells device n told) ≡ cond (device_added before device) (Some (telling (device_of before device) n told)) None
item_device_tells before device n told = item_is before (DeviceTells device n told) ∙ given_if (device_added before device) error.DeviceEventBeforeDone (giving before (DeviceTells device n told))

pub item_device_goes : (before : List Said) (device n : ℕ) → item before (DeviceGoes device n) ≡ cond (device_added before device) (Some (Other device (DeviceRemoved (device_of before device)))) None
item_device_goes before device n = item_is before (DeviceGoes device n)

heard : (input : InputEvent) (o : Option ℕ) → by_refusal (unless (is_some o) error.DeviceEventBeforeDone) (waiting input o) ≡ waiting input o
heard input None = refl
heard input (Some d) = refl

pub item_input : (before : List Said) (id : ℕ) (input : InputEvent) → item before (Inputs id input) ≡ waiting input (holder before id)
item_input before id input = item_is before (Inputs id input) ∙ heard input (holder before id)

heard_modifiers : (before : List Said) (n p l q g : ℕ) (o : Option ℕ) → by_refusal (unless (is_some o) error.DeviceEventBeforeDone) (modifying before n p l q g o) ≡ modifying before n p l q g o
heard_modifiers before n p l q g None = refl
heard_modifiers before n p l q g (Some d) = refl

pub item_modifiers : (before : List Said) (id n depressed locked latched layout : ℕ) → item before (Modifies id n depressed locked latched layout) ≡ modifying before n depressed locked latched layout (holder before id)
item_modifiers before id n p l q g = item_is before (Modifies id n p l q g) ∙ heard_modifiers before n p l q g (holder before id)

none_given : (r : Option EventError) (g : Option Giving) → g ≡ None → by_refusal r g ≡ None
none_given (Some e) g h = refl
none_given None g h = h

may_not : (before : List Said) (m : Said) → may_give m ≡ false → giving before m ≡ None
may_not before (Disconnects s w t) h = absurd cc
may_not before (SeatDone s) h = absurd cc
may_not before (SeatGoes s n) h = absurd cc
may_not before (DeviceDone d) h = absurd cc
may_not before (DeviceTells d n t) h = absurd cc
may_not before (DeviceGoes d n) h = absurd cc
may_not before (Inputs i x) h = absurd cc
may_not before (Modifies i s p l q g) h = absurd cc
may_not before m h = refl

pub item_other : (before : List Said) (m : Said) → may_give m ≡ false → item before m ≡ None
item_other before m h = item_is before m ∙ none_given (refusal before m) (giving before m) (may_not before m h)

-- ---- serials

pub serial_seat_goes : (start : ℕ) (before : List Said) (seat s : ℕ) → serial start (SeatGoes seat s ∷ before) ≡ s
serial_seat_goes start before seat s = serial_more start before (SeatGoes seat s)

pub serial_device_tells : (start : ℕ) (before : List Said) (device s : ℕ) (told : Told) → serial start (DeviceTells device s told ∷ before) ≡ s
serial_device_tells start before device s told = serial_more start before (DeviceTells device s told)

pub serial_device_goes : (start : ℕ) (before : List Said) (device s : ℕ) → serial start (DeviceGoes device s ∷ before) ≡ s
serial_device_goes start before device s = serial_more start before (DeviceGoes device s)

pub serial_modifiers : (start : ℕ) (before : List Said) (id s depressed locked latched layout : ℕ) → serial start (Modifies id s depressed locked latched layout ∷ before) ≡ s
serial_modifiers start before id s p l q g = serial_more start before (Modifies id s p l q g)

kept_if : (b : Bool) (s old : ℕ) → unwrap_or (cond b (Some s) None) old ≡ cond b s old
kept_if true s old = refl
kept_if false s old = refl

pub serial_goes : (start : ℕ) (before : List Said) (interface : KnownInterface) (id s : ℕ) → serial start (Goes interface id s ∷ before) ≡ cond (goes_freely interface || is_some (holder before id)) s (serial start before)
serial_goes start before interface id s = serial_more start before (Goes interface id s) ∙ kept_if (goes_freely interface || is_some (holder before id)) s (serial start before)

keeps_not : (before : List Said) (m : Said) → has_serial m ≡ false → keeps before m ≡ None
keeps_not before (SeatGoes s n) h = absurd cc
keeps_not before (DeviceTells d n t) h = absurd cc
keeps_not before (DeviceGoes d n) h = absurd cc
keeps_not before (Modifies i s p l q g) h = absurd cc
keeps_not before (Goes k i n) h = absurd cc
keeps_not before m h = refl

pub serial_other : (start : ℕ) (before : List Said) (m : Said) → has_serial m ≡ false → serial start (m ∷ before) ≡ serial start before
serial_other start before m h = serial_more start before m ∙ ap (λ (x : Option ℕ). unwrap_or x (serial start before)) (keeps_not before m h)

pub serial_first : (start : ℕ) → serial start [] ≡ start
unfolding serial last_said
serial_first start = refl
