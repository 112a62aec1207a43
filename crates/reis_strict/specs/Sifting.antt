-- Which of the requests that wait is handed out next.
use Rattle.std.specs.Prelude.{◌≡◌, Bool, false, not, if◌then◌else◌, List, [], ◌∷◌, Option, Some, None, IsTrue}
use Rattle.std.specs.FinMap as finite
use Rattle.ei_types.specs.Enums.{disconnect_reason_number}
use Rattle.ei_types.specs.declared.enums.DisconnectReason.TheVariants as reason
use Rattle.ei_request.specs.Keys.{DeviceKey}
use Rattle.ei_request.specs.Event.{device_in}
use Rattle.ei_request.specs.Connection.{ConnectionView, holds_device}
use Rattle.ei_request.specs.declared.event.EisRequest.{EisRequest}
use Rattle.reis_eis.specs.declared.call_error.CallError.{CallError}
use Rattle.reis_eis.specs.View.{EisView}
use Rattle.reis_eis.specs.Words.{handle_in, queue_in, with_queue}
use Rattle.reis_eis.specs.Refusals.{disconnecting}
use Rattle.reis_eis.specs.Acting.{TellsEnd, IsKept, Ends, refusal_in}
use Rattle.reis_strict.specs.declared.fault.Fault.{Fault}
use Rattle.reis_strict.specs.declared.verdict.Verdict.{Verdict}
use Rattle.reis_strict.specs.declared.verdict.Verdict.TheVariants as verdict
use Rattle.reis_strict.specs.Acts.{act_of}
use Rattle.reis_strict.specs.Devices.{Devices, verdict_in, with_act, presses}
use Rattle.reis_strict.specs.Faults.{fault_text}
use Rattle.reis_strict.specs.View.{StrictView}

-- ---- what waits

-- the request that is held back stands before those of the connection
abbrev pub before : Option EisRequest → List EisRequest → List EisRequest
before None queue = queue
before (Some request) queue = request ∷ queue

abbrev pub waiting : StrictView → EisView → List EisRequest
waiting s c = before s.held (queue_in c.phase)

-- the connection in which these wait
abbrev pub with_requests : EisView → List EisRequest → EisView
with_requests c queue = record c { phase = with_queue c.phase queue }

-- nothing of the connection changed but which requests wait
abbrev pub ChangesRequests : EisView → EisView → Type 0
ChangesRequests old new = new ≡ with_requests old (queue_in new.phase)

-- ---- a request

-- whether it is about a device that the connection doesn't hold
abbrev pub is_gone : ConnectionView → Option DeviceKey → Bool
is_gone c None = false
is_gone c (Some device) = not (holds_device c device)

-- what becomes of it where it stands first: one of a device that is gone is dropped
abbrev pub verdict_at : Option ConnectionView → EisRequest → Devices → Verdict
verdict_at None request devices = verdict.Drop
verdict_at (Some c) request devices =
    if is_gone c (device_in request) then verdict.Drop else verdict_in c.context_type request devices

-- ---- all that wait

-- what they come to: none passes; or the first that isn't dropped passes, or ends the client, and those behind it wait
pub data Sifted : Type 0 where
  NonePasses : Sifted
  Passes : (request : EisRequest) (rest : List EisRequest) → Sifted
  EndsBy : (request : EisRequest) (why : Fault) (rest : List EisRequest) → Sifted

abbrev pub by_verdict : Verdict → EisRequest → List EisRequest → Sifted → Sifted
by_verdict verdict.Pass request rest later = Passes request rest
by_verdict verdict.Drop request rest later = later
by_verdict (verdict.End why) request rest later = EndsBy request why rest

abbrev pub sifted : Option ConnectionView → Devices → List EisRequest → Sifted
sifted c devices [] = NonePasses
sifted c devices (request ∷ rest) = by_verdict (verdict_at c request devices) request rest (sifted c devices rest)

abbrev pub sifting : StrictView → EisView → Sifted
sifting s c = sifted (handle_in c.phase) s.devices (waiting s c)

-- ---- what is left behind

-- the request that is handed out
abbrev pub passing : Sifted → Option EisRequest
passing NonePasses = None
passing (Passes request rest) = Some request
passing (EndsBy request why rest) = None

-- the requests that wait
abbrev pub behind : Sifted → List EisRequest
behind NonePasses = []
behind (Passes request rest) = rest
behind (EndsBy request why rest) = rest

-- the same with the one that isn't dropped
abbrev pub undropped : Sifted → List EisRequest
undropped NonePasses = []
undropped (Passes request rest) = request ∷ rest
undropped (EndsBy request why rest) = request ∷ rest

-- what is kept of the devices: none, once the client is ended
abbrev pub devices_behind : Sifted → Devices → Devices
devices_behind NonePasses devices = devices
devices_behind (Passes request rest) devices = with_act (act_of request) devices
devices_behind (EndsBy request why rest) devices = finite.empty

-- why the client can't be told that the connection ends for a fault: it was told before
abbrev pub told_before : Fault → EisView → Option CallError
told_before why c = refusal_in (disconnecting (disconnect_reason_number reason.Protocol) (Some (fault_text why))) c.phase

-- the client is told that the connection ends, and why; one that was told before is told nothing, and nothing changes
abbrev pub EndsUnless : Option CallError → Fault → EisView → EisView → Type 0
EndsUnless None why old new = TellsEnd (Ends (disconnect_reason_number reason.Protocol) (Some (fault_text why))) old new
EndsUnless (Some refused) why old new = IsKept old new

abbrev pub EndsClient : Fault → EisView → EisView → Type 0
EndsClient why old new = EndsUnless (told_before why old) why old new

-- what memory is taken for: a key or a button that goes down, or that a client is told of its end
abbrev pub WantsMemory : Sifted → EisView → Type 0
WantsMemory NonePasses c = ⊥
WantsMemory (Passes request rest) c = IsTrue (presses (act_of request))
WantsMemory (EndsBy request why rest) c = told_before why c ≡ None

-- what becomes of the connection, but for which requests wait
abbrev pub Tells : Sifted → EisView → EisView → Type 0
Tells NonePasses old new = ChangesRequests old new
Tells (Passes request rest) old new = ChangesRequests old new
Tells (EndsBy request why rest) old new = EndsClient why (with_requests old (queue_in new.phase)) new
