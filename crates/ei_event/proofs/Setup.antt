-- What an arm leaves, by what it found.
use Rattle.std.proofs.Common.{◌≡◌, ℕ, Bool, true, false, cond, List, Option, Some, None, refl, sym, ap, ◌∙◌, subst}
use Rattle.std.specs.Prelude.{is_some, Result, Err}
use Rattle.std.specs.Option.{option_map}
use Rattle.std.specs.FinMap.{get, insert}
use Rattle.ei_types.specs.declared.error.EventError.{EventError}
use Rattle.ei_types.specs.declared.error.EventError.TheVariants as event
use Rattle.ei_types.specs.declared.error.Error.{Error}
use Rattle.ei_types.specs.declared.error.Error.TheVariants as error
use Rattle.ei_input.specs.declared.input_event.InputEvent.{InputEvent}
use Rattle.ei_reported.specs.Said.{Said}
use Rattle.ei_reported.specs.Reported.{unless}
use Rattle.ei_following.specs.Core as core
use Rattle.ei_following.specs.Core.{refused}
use Rattle.ei_event.specs.declared.event.EiEvent.{EiEvent}
use Rattle.ei_event.specs.Handles.{Ends, Does}
use Rattle.ei_event.specs.Kept.{SeatView, DeviceView, InterfaceView, KeptView, with_seat, with_device, pending_seat, pending_device, added_device, owner, owner_of, with_input}
use Rattle.ei_event.specs.Core.{seat_core, device_core, offer_of, core_of}
use Rattle.ei_event.specs.Handling.{describes_seat, describes, hears, hears_at}
use Rattle.ei_event.proofs.Refusing.{pending_seat_is, pending_device_is, added_device_is}
use Rattle.ei_event.proofs.Unwritten.{unwritten}

-- ---- seats

pub seat_unset : (c : KeptView) (id : ℕ) (change : SeatView → SeatView) → pending_seat (get c.seats id) ≡ None →
    (unless (core.pending_seat (option_map seat_core (get c.seats id))) event.SeatSetupEventAfterDone ≡ Some event.SeatSetupEventAfterDone)
    × (c ≡ describes_seat c id change (pending_seat (get c.seats id)))
seat_unset c id change none = (
  ap (λ (b : Bool). unless b event.SeatSetupEventAfterDone) (pending_seat_is (get c.seats id) ∙ ap is_some none),
  ap (describes_seat c id change) (sym none),
)

pub seat_set : (c : KeptView) (id : ℕ) (change : SeatView → SeatView) (s new : SeatView) → pending_seat (get c.seats id) ≡ Some s → new ≡ change s →
    (unless (core.pending_seat (option_map seat_core (get c.seats id))) event.SeatSetupEventAfterDone ≡ None)
    × (with_seat c id new ≡ describes_seat c id change (pending_seat (get c.seats id)))
seat_set c id change s new some is = (
  ap (λ (b : Bool). unless b event.SeatSetupEventAfterDone) (pending_seat_is (get c.seats id) ∙ ap is_some some),
  ap (with_seat c id) is ∙ ap (describes_seat c id change) (sym some),
)

-- ---- devices

pub pending_found : (o : Option DeviceView) (d : DeviceView) → pending_device o ≡ Some d → o ≡ Some d
pending_found None d e = absurd cc
pending_found (Some x) d e = at x.added e
  where
    at : (a : Bool) → cond a None (Some x) ≡ Some d → ◌≡◌ {A = Option DeviceView} (Some x) (Some d)
    at true e = absurd cc
    at false e = e

pub added_found : (o : Option DeviceView) (d : DeviceView) → added_device o ≡ Some d → o ≡ Some d
added_found None d e = absurd cc
added_found (Some x) d e = at x.added e
  where
    at : (a : Bool) → cond a (Some x) None ≡ Some d → ◌≡◌ {A = Option DeviceView} (Some x) (Some d)
    at true e = e
    at false e = absurd cc

pub device_unset : (c : KeptView) (id : ℕ) (change : DeviceView → DeviceView) → pending_device (get c.devices id) ≡ None →
    (unless (core.pending_device (option_map device_core (get c.devices id))) event.DeviceSetupEventAfterDone ≡ Some event.DeviceSetupEventAfterDone)
    × (c ≡ describes c id change (pending_device (get c.devices id)))
device_unset c id change none = (
  ap (λ (b : Bool). unless b event.DeviceSetupEventAfterDone) (pending_device_is (get c.devices id) ∙ ap is_some none),
  ap (describes c id change) (sym none),
)

pub device_set : (c : KeptView) (id : ℕ) (change : DeviceView → DeviceView) (d new : DeviceView) → pending_device (get c.devices id) ≡ Some d → new ≡ change d →
    (unless (core.pending_device (option_map device_core (get c.devices id))) event.DeviceSetupEventAfterDone ≡ None)
    × (with_device c id new ≡ describes c id change (pending_device (get c.devices id)))
device_set c id change d new some is = (
  ap (λ (b : Bool). unless b event.DeviceSetupEventAfterDone) (pending_device_is (get c.devices id) ∙ ap is_some some),
  ap (with_device c id) is ∙ ap (describes c id change) (sym some),
)

-- for want of memory it stays
pub device_stays : (c : KeptView) (id : ℕ) (d new : DeviceView) → pending_device (get c.devices id) ≡ Some d → new ≡ d →
    (unless (core.pending_device (option_map device_core (get c.devices id))) event.DeviceSetupEventAfterDone ≡ None) × (with_device c id new ≡ c)
device_stays c id d new some is = (
  ap (λ (b : Bool). unless b event.DeviceSetupEventAfterDone) (pending_device_is (get c.devices id) ∙ ap is_some some),
  ap (with_device c id) is ∙ ap (λ (m : _). record c { devices = m }) (unwritten c.devices id d (pending_found (get c.devices id) d some)),
)

-- ---- the device that has an interface

owned : (c : KeptView) (id device : ℕ) (b : Bool) → owner c id ≡ Some device → is_some (added_device (get c.devices device)) ≡ b → core.holder_in (core_of c) id ≡ cond b (Some device) None
owned c id device b = by (get c.interfaces id)
  where
    by : (o : Option InterfaceView) → owner_of o ≡ Some device → is_some (added_device (get c.devices device)) ≡ b → core.holder_of (core_of c) (option_map offer_of o) ≡ cond b (Some device) None
    by None e added = absurd cc
    by (Some i) e added =
        let same : i.device ≡ device = cc in
        ap (λ (n : ℕ). cond (core.added_device (option_map device_core (get c.devices n))) (Some n) None) same
        ∙ ap (λ (x : Bool). cond x (Some device) None) (added_device_is (get c.devices device) ∙ added)

pub held : (c : KeptView) (id device : ℕ) (d : DeviceView) → owner c id ≡ Some device → added_device (get c.devices device) ≡ Some d → core.holder_in (core_of c) id ≡ Some device
held c id device d e added = owned c id device true e (ap is_some added)

pub unheld : (c : KeptView) (id device : ℕ) → owner c id ≡ Some device → added_device (get c.devices device) ≡ None → core.holder_in (core_of c) id ≡ None
unheld c id device e none = owned c id device false e (ap is_some none)

pub unowned : (c : KeptView) (id : ℕ) → owner c id ≡ None → core.holder_in (core_of c) id ≡ None
unowned c id = by (get c.interfaces id)
  where
    by : (o : Option InterfaceView) → owner_of o ≡ None → core.holder_of (core_of c) (option_map offer_of o) ≡ None
    by None e = refl
    by (Some i) e = absurd cc

pub refused_before : (c : KeptView) (id : ℕ) → core.holder_in (core_of c) id ≡ None → unless (is_some (core.holder_in (core_of c) id)) event.DeviceEventBeforeDone ≡ Some event.DeviceEventBeforeDone
refused_before c id e = ap (λ (o : Option ℕ). unless (is_some o) event.DeviceEventBeforeDone) e

pub heard : (c : KeptView) (id device : ℕ) (i : InputEvent) (d new : DeviceView) → owner c id ≡ Some device → added_device (get c.devices device) ≡ Some d → new ≡ with_input i d →
    (unless (is_some (core.holder_in (core_of c) id)) event.DeviceEventBeforeDone ≡ None) × (with_device c device new ≡ hears_at c i (owner c id))
heard c id device i d new e some is = (
  ap (λ (o : Option ℕ). unless (is_some o) event.DeviceEventBeforeDone) (held c id device d e some),
  ap (with_device c device) is ∙ ap (hears c device i) (sym some) ∙ ap (hears_at c i) (sym e),
)

pub unheard_memory : (c : KeptView) (id device : ℕ) (d new : DeviceView) → owner c id ≡ Some device → added_device (get c.devices device) ≡ Some d → new ≡ d →
    (unless (is_some (core.holder_in (core_of c) id)) event.DeviceEventBeforeDone ≡ None) × (with_device c device new ≡ c)
unheard_memory c id device d new e some is = (
  ap (λ (o : Option ℕ). unless (is_some o) event.DeviceEventBeforeDone) (held c id device d e some),
  ap (with_device c device) is ∙ ap (λ (m : _). record c { devices = m }) (unwritten c.devices device d (added_found (get c.devices device) d some)),
)

pub unheard_device : (c : KeptView) (id device : ℕ) (i : InputEvent) → owner c id ≡ Some device → added_device (get c.devices device) ≡ None →
    (unless (is_some (core.holder_in (core_of c) id)) event.DeviceEventBeforeDone ≡ Some event.DeviceEventBeforeDone) × (c ≡ hears_at c i (owner c id))
unheard_device c id device i e none = (refused_before c id (unheld c id device e none), ap (hears c device i) (sym none) ∙ ap (hears_at c i) (sym e))

pub unheard_interface : (c : KeptView) (id : ℕ) (i : InputEvent) → owner c id ≡ None →
    (unless (is_some (core.holder_in (core_of c) id)) event.DeviceEventBeforeDone ≡ Some event.DeviceEventBeforeDone) × (c ≡ hears_at c i (owner c id))
unheard_interface c id i e = (refused_before c id (unowned c id e), ap (hears_at c i) (sym e))

-- ---- what was looked at, and is put back as it was

pub not_added : (o : Option DeviceView) (d : DeviceView) → o ≡ Some d → d.added ≡ false → ◌≡◌ {A = Option DeviceView} None (added_device o)
not_added o d e f = sym (ap added_device e ∙ ap (λ (b : Bool). cond b (Some d) None) f)

pub unframed : (c : KeptView) (id : ℕ) (d : DeviceView) (q : List EiEvent) → added_device (get c.devices id) ≡ Some d → q ≡ c.queue →
    (unless (core.added_device (option_map device_core (get c.devices id))) event.DeviceEventBeforeDone ≡ None)
    × (◌≡◌ {A = KeptView} (record c { devices = insert c.devices id d; queue = q }) c)
unframed c id d q some is = (
  ap (λ (b : Bool). unless b event.DeviceEventBeforeDone) (added_device_is (get c.devices id) ∙ ap is_some some),
  ap (λ (x : List EiEvent). record c { devices = insert c.devices id d; queue = x }) is
      ∙ ap (λ (m : _). record c { devices = m }) (unwritten c.devices id d (added_found (get c.devices id) d some)),
)

-- ---- want of memory

pub no_memory_ends : {reason : Option EventError} {old new : KeptView} (left : KeptView) (r : Result (Unit {0}) Error) → r ≡ Err error.NoMemory → (reason ≡ None) × (new ≡ old) → Ends reason old left r new
no_memory_ends {reason} {old} {new} left r e both = subst (λ (x : Result (Unit {0}) Error). Ends reason old left x new) (sym e) both

pub no_memory_does : (old new : KeptView) (said : Said) (left : ℕ → KeptView) (before now : Option (List ℕ)) (r : Result (Unit {0}) Error) → r ≡ Err error.NoMemory →
    refused (core_of old) said ≡ None → new ≡ old → now ≡ before → Does old said left before now r new
no_memory_does old new said left before now r e reason same unread =
    subst (λ (x : Result (Unit {0}) Error). Does old said left before now x new) (sym e) (record { time = 0; ends = (reason, same); clock = unread })

pub added_reason : (c : KeptView) (id : ℕ) → is_some (added_device (get c.devices id)) ≡ true → unless (core.added_device (option_map device_core (get c.devices id))) event.DeviceEventBeforeDone ≡ None
added_reason c id added = ap (λ (b : Bool). unless b event.DeviceEventBeforeDone) (added_device_is (get c.devices id) ∙ added)

pub held_reason : (c : KeptView) (id device : ℕ) → owner c id ≡ Some device → is_some (added_device (get c.devices device)) ≡ true →
    unless (is_some (core.holder_in (core_of c) id)) event.DeviceEventBeforeDone ≡ None
held_reason c id device e added = ap (λ (o : Option ℕ). unless (is_some o) event.DeviceEventBeforeDone) (owned c id device true e added)
