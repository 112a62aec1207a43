use Rattle.std.proofs.Common.{◌≡◌, ℕ, List, ◌++◌, Option, Some, None, refl, ap, ◌∙◌}
use Rattle.std.proofs.lemmas.List.{append-nil}
use Rattle.ei_request.specs.declared.event.EisRequest.{EisRequest}
use Rattle.ei_request.specs.Held.{DeviceView, is_device, emptied, group_of}
use Rattle.ei_request.specs.Connection.{ConnectionView}
use Rattle.ei_request.specs.Converter.{ConverterView}
use Rattle.ei_request.specs.Handling.{device_in, emptied_at, hands_out}
use Rattle.ei_request.proofs.FirstOnes.{changed_none}
use Rattle.ei_request.proofs.converter.EisRequestConverter.frame.Goals as goal

-- what waits is handed out where the device is held, and else nothing changes
handed_out : (old : ConverterView) (id serial time : ℕ) (o : Option DeviceView) (handle : ConnectionView) (queue : List EisRequest) → device_in old id ≡ o →
    handle ≡ emptied_at old.handle id → queue ≡ old.queue ++ group_of o serial time → ◌≡◌ {A = ConverterView} (record { handle = handle; queue = queue }) (hands_out old id serial time o)
handed_out old id serial time None handle queue none h q =
    let same : emptied_at old.handle id ≡ old.handle = ap (λ (ds : List DeviceView). record old.handle { devices = ds }) (changed_none (is_device id) emptied old.handle.devices none) in
    rw (h ∙ same, q ∙ append-nil old.queue) refl
handed_out old id serial time (Some d) handle queue found h q = rw (h, q) refl

pub returns-clause-ok : goal.returns-clause-ok
returns-clause-ok c =
    let view : ConverterView = record { handle = c.self.inside.handle; queue = c.self.inside.queue.items } in
    rw (← c.self.view_is) (handed_out view c.args.id c.args.serial c.args.time (device_in view c.args.id) c.frame.new.self c.frame.new.queue.items refl c.in_ok-frame.ensures.ok c.in_ok-frame.ensures.queue)
