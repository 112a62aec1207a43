-- What is done behind the requests that are handed out.
use Rattle.std.proofs.Common.{◌≡◌, ◌<◌, ◌-◌, suc, true, List, [], ◌∷◌, ◌++◌, length, Option, Some, None, Result, Ok, Err, is_some, refl, sym, ap, ◌∙◌, arith}
use Rattle.std.specs.Prelude.{find, slice_get, OnOk}
use Rattle.ei_spec.specs.Interface.{ObjectView}
use Rattle.ei_backend.specs.Endpoint.{endpoint_of}
use Rattle.ei_wire.specs.declared.error.SendError.{SendError}
use Rattle.ei_types.specs.declared.capability.DeviceCapabilities.{DeviceCapabilities}
use Rattle.ei_types.specs.declared.enums.DeviceType.TheVariants.{Virtual}
use Rattle.ei_session.specs.Events.{resumed_event}
use Rattle.ei_request.specs.declared.event.EisRequest.{EisRequest}
use Rattle.ei_request.specs.Keys.{DeviceKey}
use Rattle.ei_request.specs.Held.{SeatView, is_seat}
use Rattle.ei_request.specs.Connection.{ConnectionView}
use Rattle.ei_request.specs.Sending.{tells}
use Rattle.ei_request.specs.Making.{AddsDevice, granted_by, new_device}
use Rattle.ei_serve.specs.declared.policy.Policy.TheVariants as policy
use Rattle.ei_serve.specs.Policy.{policy_of, policy_behind, AddsResumed, AddsIfHeld}

-- ---- the last request

-- behind all
pub behind_last : (xs : List EisRequest) (r : EisRequest) → policy_behind (xs ++ r ∷ []) ≡ policy_of r
behind_last [] r = refl
behind_last (x ∷ []) r = refl
behind_last (x ∷ y ∷ xs) r = behind_last (y ∷ xs) r

-- of the one in the last place
pub behind_place : (rs : List EisRequest) (r : EisRequest) → slice_get rs (length rs - 1) ≡ Some r → policy_of r ≡ policy_behind rs
behind_place [] r e = absurd cc
behind_place (s ∷ []) r e =
    let same : s ≡ r = cc in
    ap policy_of (sym same)
behind_place (s ∷ t ∷ rs) r e =
    let shift : length (s ∷ t ∷ rs) - 1 ≡ suc (length (t ∷ rs) - 1) = omega arith in
    behind_place (t ∷ rs) r (sym (ap (slice_get (s ∷ t ∷ rs)) shift) ∙ e)

-- none is in it where there are none
pub none_behind : (rs : List EisRequest) → slice_get rs (length rs - 1) ≡ None → policy.Nothing ≡ policy_behind rs
none_behind [] e = refl
none_behind (s ∷ []) e = absurd cc
none_behind (s ∷ t ∷ rs) e =
    let shift : length (s ∷ t ∷ rs) - 1 ≡ suc (length (t ∷ rs) - 1) = omega arith in
    none_behind (t ∷ rs) (sym (ap (slice_get (s ∷ t ∷ rs)) shift) ∙ e)

-- behind some and others behind them: that of the others
pub behind_others : (rs qs : List EisRequest) → 0 < length qs → policy_behind (rs ++ qs) ≡ policy_behind qs
behind_others [] qs h = refl
behind_others (r ∷ []) [] h = absurd (omega (arith, h))
behind_others (r ∷ []) (q ∷ qs) h = refl
behind_others (r ∷ s ∷ rs) qs h = behind_others (s ∷ rs) qs h

-- ---- a device that is added

if_held : (o : Option SeatView) (old : ConnectionView) (seat : ObjectView) (wanted : DeviceCapabilities) (new : ConnectionView) → is_some o ≡ true → AddsResumed old seat wanted new → AddsIfHeld o old seat wanted new
if_held None old seat wanted new h a = absurd cc
if_held (Some s) old seat wanted new h a = a

pub adds_resumed : (r : Result Unit SendError) (old mid new : ConnectionView) (seat : ObjectView) (wanted : DeviceCapabilities) (d : DeviceKey) → is_some (find (is_seat seat.id) old.seats) ≡ true →
    AddsDevice old seat None Virtual (granted_by (find (is_seat seat.id) old.seats) wanted) [] mid →
    d ≡ (new_device (endpoint_of old.ctx) old.negotiated seat None (granted_by (find (is_seat seat.id) old.seats) wanted)).device → OnOk r (new ≡ tells mid (resumed_event d.proxy.id)) →
    OnOk r (AddsIfHeld (find (is_seat seat.id) old.seats) old seat wanted new)
adds_resumed (Ok x) old mid new seat wanted d h a d_is t =
    if_held (find (is_seat seat.id) old.seats) old seat wanted new h (record { mid = mid; adds = a; resumes = t ∙ ap (λ (k : DeviceKey). tells mid (resumed_event k.proxy.id)) d_is })
adds_resumed (Err e) old mid new seat wanted d h a d_is t = tt
