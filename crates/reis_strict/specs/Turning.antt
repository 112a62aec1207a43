-- What one of the requests that wait comes to. No public clause cites this module.
use Rattle.std.specs.Prelude.{◌≡◌, ◌<◌, length, [], Some, None}
use Rattle.std.specs.FinMap as finite
use Rattle.ei_request.specs.declared.event.EisRequest.{EisRequest}
use Rattle.reis_eis.specs.View.{EisView}
use Rattle.reis_eis.specs.Words.{queue_in}
use Rattle.reis_eis.specs.Acting.{IsKept}
use Rattle.reis_strict.specs.declared.fault.Fault.{Fault}
use Rattle.reis_strict.specs.declared.sifting.Turn.{Turn}
use Rattle.reis_strict.specs.declared.sifting.Turn.TheVariants as turn
use Rattle.reis_strict.specs.Acts.{act_of}
use Rattle.reis_strict.specs.Devices.{with_act}
use Rattle.reis_strict.specs.View.{StrictView, with_devices}
use Rattle.reis_strict.specs.Sifting.{NonePasses, Passes, EndsBy, waiting, with_requests, ChangesRequests, sifting, undropped, EndsClient, told_before, WantsMemory}

-- nothing waits any more
pub record NoneWaits (s : StrictView) (c : EisView) (t : StrictView) (d : EisView) : Type 0 where
  pub sifts : sifting s c ≡ NonePasses
  pub waits : waiting t d ≡ []
  pub devices : t.devices ≡ s.devices
  pub requests : ChangesRequests c d

-- the first is dropped
pub record IsDropped (s : StrictView) (c : EisView) (t : StrictView) (d : EisView) : Type 0 where
  pub sifts : sifting s c ≡ sifting t d
  pub devices : t.devices ≡ s.devices
  pub requests : ChangesRequests c d
  pub fewer : length (waiting t d) < length (waiting s c)

-- the first passes
pub record IsPassed (request : EisRequest) (s : StrictView) (c : EisView) (t : StrictView) (d : EisView) : Type 0 where
  pub sifts : sifting s c ≡ Passes request (waiting t d)
  pub devices : t.devices ≡ with_act (act_of request) s.devices
  pub requests : ChangesRequests c d

-- the first ends the client
pub record IsEnded (s : StrictView) (c : EisView) (t : StrictView) (d : EisView) : Type 0 where
  pub request : EisRequest
  pub why : Fault
  pub sifts : sifting s c ≡ EndsBy request why (waiting t d)
  pub devices : t.devices ≡ finite.empty
  pub ends : EndsClient why (with_requests c (queue_in d.phase)) d

-- memory ran out, and the first waits still
pub record IsHeld (s : StrictView) (c : EisView) (t : StrictView) (d : EisView) : Type 0 where
  pub waits : waiting t d ≡ undropped (sifting s c)
  pub devices : t.devices ≡ s.devices
  pub kept : IsKept (with_requests c (queue_in d.phase)) d
  pub wants : WantsMemory (sifting s c) c

abbrev pub Turns : Turn → StrictView → EisView → StrictView → EisView → Type 0
Turns turn.NoneWaits s c t d = NoneWaits s c t d
Turns turn.Dropped s c t d = IsDropped s c t d
Turns (turn.Passed request) s c t d = IsPassed request s c t d
Turns turn.Ended s c t d = IsEnded s c t d
Turns turn.Held s c t d = IsHeld s c t d

-- A request that stood first, and is one to end the client for a fault, ends it, or waits still where memory ran out.
pub record EndsFor (why : Fault) (s : StrictView) (c : EisView) (t : StrictView) (d : EisView) : Type 0 where
  pub strict : t ≡ with_devices s finite.empty
  pub ends : EndsClient why c d

pub record HoldsBack (request : EisRequest) (why : Fault) (s : StrictView) (c : EisView) (t : StrictView) (d : EisView) : Type 0 where
  pub strict : t ≡ record s { held = Some request }
  pub kept : IsKept c d
  pub untold : told_before why c ≡ None

abbrev pub EndsOne : Turn → EisRequest → Fault → StrictView → EisView → StrictView → EisView → Type 0
EndsOne turn.Ended request why s c t d = EndsFor why s c t d
EndsOne turn.Held request why s c t d = HoldsBack request why s c t d
EndsOne other request why s c t d = ⊥
