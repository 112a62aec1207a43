-- What a session does behind a request, and what that makes of the connection.
use Rattle.std.specs.Prelude.{◌≡◌, ◌<◌, ◌+◌, ◌==◌, List, [], ◌∷◌, length, Option, Some, None, find, if◌then◌else◌}
use Rattle.ei_spec.specs.Interface.{ObjectView}
use Rattle.ei_spec.specs.declared.interface.KnownInterface.{KnownInterface}
use Rattle.ei_backend.specs.Table.{own_end}
use Rattle.ei_types.specs.Capability.{bits_of}
use Rattle.ei_types.specs.declared.capability.DeviceCapabilities.{DeviceCapabilities}
use Rattle.ei_types.specs.declared.enums.DeviceType.TheVariants.{Virtual}
use Rattle.ei_session.specs.Events.{resumed_event}
use Rattle.ei_request.specs.declared.event.EisRequest.{EisRequest}
use Rattle.ei_request.specs.declared.event.EisRequest.TheVariants as asked
use Rattle.ei_request.specs.Held.{SeatView, is_seat}
use Rattle.ei_request.specs.Connection.{ConnectionView}
use Rattle.ei_request.specs.Sending.{tells}
use Rattle.ei_request.specs.Making.{AddsDevice, granted_by}
use Rattle.ei_request.specs.Removing.{RemovesDevice}
use Rattle.ei_serve.specs.declared.policy.Policy.{Policy}
use Rattle.ei_serve.specs.declared.policy.Policy.TheVariants as policy

-- a device for the seat, where some capability is wanted
abbrev pub device_if : ObjectView → DeviceCapabilities → Policy
device_if seat wanted = if bits_of wanted == 0 then policy.Nothing else policy.AddDevice seat wanted

-- what is done behind a request
abbrev pub policy_of : EisRequest → Policy
policy_of (asked.Bind r) = device_if r.seat r.capabilities
policy_of (asked.RequestDevice r) = device_if r.seat r.capabilities
policy_of (asked.DeviceClosed r) = policy.RemoveDevice r.device
policy_of asked.Disconnect = policy.End
policy_of other = policy.Nothing

-- behind some requests: that of the last
abbrev pub policy_behind : List EisRequest → Policy
policy_behind [] = policy.Nothing
policy_behind (r ∷ []) = policy_of r
policy_behind (r ∷ s ∷ rs) = policy_behind (s ∷ rs)

-- a device of the seat was announced, without a name, and takes input from now on
pub record AddsResumed (old : ConnectionView) (seat : ObjectView) (wanted : DeviceCapabilities) (new : ConnectionView) : Type 0 where
  pub mid : ConnectionView
  pub adds : AddsDevice old seat None Virtual (granted_by (find (is_seat seat.id) old.seats) wanted) [] mid
  pub resumes : new ≡ tells mid (resumed_event old.ctx.table.next_own)

-- where the seat is held, and else nothing
abbrev pub AddsIfHeld : Option SeatView → ConnectionView → ObjectView → DeviceCapabilities → ConnectionView → Type 0
AddsIfHeld None old seat wanted new = new ≡ old
AddsIfHeld (Some s) old seat wanted new = AddsResumed old seat wanted new

-- what it makes of the connection
abbrev pub Follows : Policy → ConnectionView → ConnectionView → Type 0
Follows (policy.AddDevice seat wanted) old new = AddsIfHeld (find (is_seat seat.id) old.seats) old seat wanted new
Follows (policy.RemoveDevice device) old new = RemovesDevice old device new
Follows p old new = new ≡ old

-- the own ids run out with a device of so many interfaces
abbrev pub RunOut : ConnectionView → List KnownInterface → Type 0
RunOut c interfaces = own_end c.ctx.table < c.ctx.table.next_own + (length interfaces + 1)

abbrev pub RunOutIfHeld : Option SeatView → ConnectionView → DeviceCapabilities → Type 0
RunOutIfHeld None c wanted = ⊥
RunOutIfHeld (Some s) c wanted = RunOut c (granted_by (Some s) wanted)

-- a device is to be announced for a seat that is held, and the own ids run out with it
abbrev pub LacksIds : Policy → ConnectionView → Type 0
LacksIds (policy.AddDevice seat wanted) c = RunOutIfHeld (find (is_seat seat.id) c.seats) c wanted
LacksIds p c = ⊥
