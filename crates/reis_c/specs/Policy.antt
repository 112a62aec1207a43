-- The policy beside a connection that was started with the flag.
use Rattle.std.specs.Prelude.{◌≡◌, ℕ, ◌==◌, Option, Some, None, IsSome, Result, Ok, Err, if◌then◌else◌}
use Rattle.std.specs.FinMap as finite
use Rattle.ei_wire.specs.declared.error.NoMemory.{NoMemory}
use Rattle.ei_input.specs.Queue.{first_of, rest_of}
use Rattle.ei_request.specs.declared.event.EisRequest.{EisRequest}
use Rattle.reis_eis.specs.declared.call_error.CallError.{CallError}
use Rattle.reis_eis.specs.View.{EisView}
use Rattle.reis_eis.specs.Words.{queue_in}
use Rattle.reis_eis.specs.Acting.{IsKept}
use Rattle.reis_strict.specs.View.{StrictView, with_devices}
use Rattle.reis_strict.specs.Devices.{Devices, with_paused, with_reserved}
use Rattle.reis_strict.specs.Held.{held_of}
use Rattle.reis_strict.specs.Sifting.{waiting, with_requests, sifting, passing, behind, undropped, devices_behind, Tells}
use Rattle.reis_c.specs.Numbers.{STRICT}

-- what the flags of a start ask for: a policy to which nothing was told, or none
abbrev pub policy_for : ℕ → Option StrictView
policy_for flags = if flags == STRICT then Some (record { devices = finite.empty; held = None }) else None

-- ---- what is kept of the devices

-- this becomes of it, where there is a policy
abbrev pub knowing : (Devices → Devices) → Option StrictView → Option StrictView
knowing told None = None
knowing told (Some s) = Some (with_devices s (told s.devices))

-- a device was paused, or removed; and of those that the connection doesn't hold any more nothing is kept
abbrev pub pausing : ℕ → EisView → Devices → Devices
pausing device c = with_paused device

abbrev pub removing : ℕ → EisView → Devices → Devices
removing device c devices = finite.remove devices device

abbrev pub forgetting : EisView → Devices → Devices
forgetting c = held_of c.phase

-- room is made for a device whose resume isn't refused
abbrev pub reserving : Option CallError → ℕ → Option StrictView → Option StrictView
reserving None device policy = knowing (with_reserved device) policy
reserving (Some e) device policy = policy

-- there is room for a device
abbrev pub HasRoom : ℕ → Option StrictView → Type 0
HasRoom device None = Unit {0}
HasRoom device (Some s) = IsSome (finite.get s.devices device)

-- ---- what waits

-- What is dropped is gone, and so is what passes or ends the client, who is told so then; what is behind it waits.
pub record Sifts (s : StrictView) (c : EisView) (t : StrictView) (d : EisView) : Type 0 where
  pub waits : waiting t d ≡ behind (sifting s c)
  pub devices : t.devices ≡ devices_behind (sifting s c) s.devices
  pub tells : Tells (sifting s c) c d

-- Memory ran out: what is dropped is gone, and all else waits still.
pub record HoldsBack (s : StrictView) (c : EisView) (t : StrictView) (d : EisView) : Type 0 where
  pub waits : waiting t d ≡ undropped (sifting s c)
  pub devices : t.devices ≡ s.devices
  pub kept : IsKept (with_requests c (queue_in d.phase)) d

-- what is taken off the connection: the first request that passes by the policy, unless memory runs out; without one the first that waits
abbrev pub TakesNext : Option StrictView → EisView → Result (Option EisRequest) NoMemory → Option StrictView → EisView → Type 0
TakesNext (Some s) c (Ok request) (Some t) d = (request ≡ passing (sifting s c)) × Sifts s c t d
TakesNext (Some s) c (Err e) (Some t) d = HoldsBack s c t d
TakesNext (Some s) c r None d = ⊥
TakesNext None c (Ok request) t d = (t ≡ None) × (request ≡ first_of (queue_in c.phase)) × (d ≡ with_requests c (rest_of (queue_in c.phase)))
TakesNext None c (Err e) t d = ⊥
