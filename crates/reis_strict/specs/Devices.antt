-- What is kept of the devices, and what becomes of it.
use Rattle.std.specs.Prelude.{◌≡◌, ℕ, Bool, true, false, Option, Some, None, IfSome}
use Rattle.std.specs.Ordering.{nat_cmp}
use Rattle.std.specs.FinSet as set
use Rattle.std.specs.FinMap as finite
use Rattle.std.specs.Coded.{Coded, coded_ℕ}
use Rattle.ei_types.specs.declared.enums.ContextType.{ContextType}
use Rattle.ei_request.specs.declared.event.EisRequest.{EisRequest}
use Rattle.reis_strict.specs.declared.act.Act.{Act}
use Rattle.reis_strict.specs.declared.act.Deed.{Deed}
use Rattle.reis_strict.specs.declared.act.Deed.TheVariants as deed
use Rattle.reis_strict.specs.declared.act.Kind.{Kind}
use Rattle.reis_strict.specs.declared.act.Kind.TheVariants as kind
use Rattle.reis_strict.specs.declared.device.State.{State}
use Rattle.reis_strict.specs.declared.device.State.TheVariants as state
use Rattle.reis_strict.specs.declared.device.KnownDevice.{KnownDevice}
use Rattle.reis_strict.specs.contracts.device.KnownDevice as known
use Rattle.reis_strict.specs.declared.verdict.Verdict.{Verdict}
use Rattle.reis_strict.specs.declared.verdict.Verdict.TheVariants as verdict
use Rattle.reis_strict.specs.Acts.{act_of}
use Rattle.reis_strict.specs.Policy.{judged}

-- the devices that were resumed and not removed, by their ids
abbrev pub Devices : Type 0
Devices = finite.FinMap nat_cmp KnownDevice

abbrev pub devices_code : Coded Devices
devices_code = finite.code coded_ℕ known.the_row.coded

-- each bears its own id
abbrev pub AreNamed : Devices → Type 0
AreNamed devices = (id : ℕ) → IfSome (finite.get devices id) (λ device. device.id ≡ id)

-- ---- one device

-- of that id and in that state, nothing is down
abbrev pub at_rest : ℕ → State → KnownDevice
at_rest id s = record { id = id; state = s; keys = set.empty; buttons = set.empty }

-- whether a key or a button is down
abbrev pub is_down_on : KnownDevice → Kind → ℕ → Bool
is_down_on device kind.Key code = set.contains device.keys code
is_down_on device kind.Button code = set.contains device.buttons code

abbrev pub with_code : ℕ → Bool → set.FinSet nat_cmp → set.FinSet nat_cmp
with_code code true codes = set.insert codes code
with_code code false codes = set.remove codes code

-- a key or a button goes down, or up
abbrev pub turned : Kind → ℕ → Bool → KnownDevice → KnownDevice
turned kind.Key code down device = record device { keys = with_code code down device.keys }
turned kind.Button code down device = record device { buttons = with_code code down device.buttons }

-- a deed is done
abbrev pub after_deed : Deed → KnownDevice → KnownDevice
after_deed deed.Start device = record device { state = state.Emulating }
after_deed deed.Stop device = at_rest device.id state.Resumed
after_deed deed.Input device = device
after_deed (deed.Turn s) device = turned s.kind s.code s.down device

-- a deed is done where it passes
abbrev pub behind : Verdict → Deed → KnownDevice → KnownDevice
behind verdict.Pass act device = after_deed act device
behind verdict.Drop act device = device
behind (verdict.End why) act device = device

-- whether a key or a button goes down by it
abbrev pub goes_down : Deed → Bool
goes_down (deed.Turn s) = s.down
goes_down act = false

-- ---- all of them

-- the state of a device: one that isn't kept is paused
abbrev pub state_at : Option KnownDevice → State
state_at None = state.Paused
state_at (Some device) = device.state

abbrev pub down_at : Option KnownDevice → Kind → ℕ → Bool
down_at None kind code = false
down_at (Some device) kind code = is_down_on device kind code

abbrev pub state_in : Devices → ℕ → State
state_in devices id = state_at (finite.get devices id)

abbrev pub is_down_in : Devices → ℕ → Kind → ℕ → Bool
is_down_in devices id = down_at (finite.get devices id)

-- a deed is done on a device, if it is kept
abbrev pub done_at : Act → Option KnownDevice → Devices → Devices
done_at act None devices = devices
done_at act (Some device) devices = finite.insert devices act.device (after_deed act.deed device)

abbrev pub with_act : Option Act → Devices → Devices
with_act None devices = devices
with_act (Some act) devices = done_at act (finite.get devices act.device) devices

-- what becomes of a request, by what is kept
abbrev pub verdict_in : ContextType → EisRequest → Devices → Verdict
verdict_in role request devices = judged role (act_of request) (state_in devices) (is_down_in devices)

-- what a request does is done where it passes
abbrev pub with_judged : Verdict → Option Act → Devices → Devices
with_judged verdict.Pass act devices = with_act act devices
with_judged verdict.Drop act devices = devices
with_judged (verdict.End why) act devices = devices

-- whether a key or a button goes down by what a request does
abbrev pub presses : Option Act → Bool
presses None = false
presses (Some act) = goes_down act.deed

-- a device is resumed, whatever it was
abbrev pub with_resumed : ℕ → Devices → Devices
with_resumed id devices = finite.insert devices id (at_rest id state.Resumed)

-- a device is paused: one that isn't kept is it already
abbrev pub paused_at : ℕ → Option KnownDevice → Devices → Devices
paused_at id None devices = devices
paused_at id (Some device) devices = finite.insert devices id (at_rest id state.Paused)

abbrev pub with_paused : ℕ → Devices → Devices
with_paused id devices = paused_at id (finite.get devices id) devices

-- there is room for a device: one that isn't kept is kept as a paused one
abbrev pub reserved_at : ℕ → Option KnownDevice → Devices → Devices
reserved_at id None devices = finite.insert devices id (at_rest id state.Paused)
reserved_at id (Some device) devices = devices

abbrev pub with_reserved : ℕ → Devices → Devices
with_reserved id devices = reserved_at id (finite.get devices id) devices
