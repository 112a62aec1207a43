-- Requests that close an open group.
use Rattle.std.proofs.Common.{◌≡◌, ℕ, Bool, true, List, [], ◌∷◌, ◌++◌, length, Option, Some, None, refl, sym, ap}
use Rattle.std.proofs.Common.{◌∙◌, subst}
use Rattle.std.specs.Prelude.{nat_lt}
use Rattle.ei_server.specs.declared.device.Request.{Request}
use Rattle.ei_server.specs.declared.device.Request.TheVariants as request
use Rattle.ei_request.specs.Typed.{device_meaning}
use Rattle.ei_request.specs.Keys.{DeviceKey}
use Rattle.ei_request.specs.declared.event.EisRequest.{EisRequest}
use Rattle.ei_request.specs.Held.{DeviceView, group_of, waiting_of}
use Rattle.ei_request.specs.Connection.{ConnectionView}
use Rattle.ei_request.specs.Converter.{ConverterView}
use Rattle.ei_request.specs.Handling.{Times, is_some_waiting, device_in, emptied_at, closes, closes_group, TakesRequest}
use Rattle.ei_request.specs.Handling.{queued_of, closed_of, start_of, stop_of, ready_of}

-- ---- when the clock is asked

some_waiting : (o : Option DeviceView) → is_some_waiting o ≡ nat_lt 0 (length (waiting_of o))
some_waiting None = refl
some_waiting (Some d) = refl

pub times_of_clock : (o : Option DeviceView) (waiting time : ℕ) (before after : Option (List ℕ)) → waiting ≡ length (waiting_of o) →
    Times true (nat_lt 0 waiting) time before after → Times true (is_some_waiting o) time before after
times_of_clock o waiting time before after count times =
    subst (λ (b : Bool). Times true b time before after) (ap (nat_lt 0) count ∙ sym (some_waiting o)) times

-- ---- what is done

-- the open group of a device that is held is handed out, and behind it the request that is made of the device's key
does_at : (old : ConverterView) (id time : ℕ) (make : DeviceKey → EisRequest) (o : Option DeviceView) (d : DeviceView) (handle : ConnectionView) (queue : List EisRequest) → o ≡ Some d →
    handle ≡ emptied_at old.handle id → queue ≡ (old.queue ++ group_of o old.handle.last_serial time) ++ make d.device ∷ [] →
    let new : ConverterView = record { handle = handle; queue = queue } in new ≡ closes old id time make o
does_at old id time make None d handle queue found h q = absurd cc
does_at old id time make (Some x) d handle queue found h q =
    let same : x ≡ d = cc in
    rw (h, q, same) refl

-- ---- any request that closes a group

-- any request to a device that is held but a frame
pub closes_device : (old : ConverterView) (id version time : ℕ) (asked : Request) (d : DeviceView) (before after : Option (List ℕ)) (handle : ConnectionView) (queue : List EisRequest) →
    closes_group (device_meaning asked) ≡ true → device_in old id ≡ Some d → Times true (is_some_waiting (device_in old id)) time before after →
    handle ≡ emptied_at old.handle id → queue ≡ (old.queue ++ group_of (device_in old id) old.handle.last_serial time) ++ queued_of asked d.device ∷ [] →
    TakesRequest old id version (device_meaning asked) before after (record { handle = handle; queue = queue })
closes_device old id version time request.Release d before after handle queue group found times h q = record {
  time = time;
  accepted = refl;
  clock = times;
  does = does_at old id time closed_of (device_in old id) d handle queue found h q;
}
closes_device old id version time (request.StartEmulating serial sequence) d before after handle queue group found times h q = record {
  time = time;
  accepted = refl;
  clock = times;
  does = does_at old id time (start_of serial sequence) (device_in old id) d handle queue found h q;
}
closes_device old id version time (request.StopEmulating serial) d before after handle queue group found times h q = record {
  time = time;
  accepted = refl;
  clock = times;
  does = does_at old id time (stop_of serial) (device_in old id) d handle queue found h q;
}
closes_device old id version time request.Ready d before after handle queue group found times h q = record {
  time = time;
  accepted = refl;
  clock = times;
  does = does_at old id time ready_of (device_in old id) d handle queue found h q;
}
closes_device old id version time (request.Frame serial sent) d before after handle queue group found times h q = absurd cc
