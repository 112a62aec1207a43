use Rattle.std.proofs.Common.{◌≡◌, ℕ, true, List, [], ◌∷◌, ◌++◌, Option, Some, sym, ap, ◌∙◌, subst}
use Rattle.std.specs.Option.{option_copied}
use Rattle.ei_request.specs.declared.event.EisRequest.{EisRequest}
use Rattle.ei_request.specs.Typed.{device_meaning}
use Rattle.ei_request.specs.Held.{group_of}
use Rattle.ei_request.specs.Converter.{ConverterView}
use Rattle.ei_request.specs.Handling.{Times, TakesRequest, device_in, is_some_waiting, queued_of}
use Rattle.ei_request.proofs.Closing.{times_of_clock, closes_device}
use Rattle.ei_request.proofs.converter.EisRequestConverter.handle_closing.Goals as goal

pub returns-clause-handles : goal.returns-clause-handles
returns-clause-handles g c =
    let view : ConverterView = record { handle = c.self.inside.handle; queue = c.self.inside.queue.items } in
    let before : Option (List ℕ) = (g.C.Clock.view c.args.clock.now).left in
    let after : Option (List ℕ) = (g.C.Clock.view c.made_time-time.new.clock).left in
    let request : EisRequest = queued_of c.args.request c.in-Some.held.now.device in
    let found : device_in view c.args.id ≡ Some c.in-Some.held.now = sym c.find_device.ensures ∙ ap option_copied c.in-Some.is in
    let times : Times true (is_some_waiting (device_in view c.args.id)) c.made_time-time.result before after =
    times_of_clock (device_in view c.args.id) c.waiting-waiting.result c.made_time-time.result before after c.waiting-waiting.ensures c.made_time-time.ensures.time in
    let made : c.queued_of.result ≡ request = c.queued_of.ensures ∙ ap (queued_of c.args.request) (c.copy-device.ensures ∙ c.device.ensures) in
    let queue : c.push_reserved.new.self.items ≡ (view.queue ++ group_of (device_in view c.args.id) view.handle.last_serial c.made_time-time.result) ++ request ∷ [] =
    c.push_reserved.ensures.items ∙ ap (λ (r : EisRequest). c.hand_out.new.queue.items ++ r ∷ []) made ∙ ap (λ (q : List EisRequest). q ++ request ∷ [])
    (c.hand_out.ensures.queue ∙ ap (λ (q : List EisRequest). q ++ group_of (device_in view c.args.id) c.last_serial-serial.result c.made_time-time.result) c.reserve_group.ensures.items
    ∙ ap (λ (n : ℕ). view.queue ++ group_of (device_in view c.args.id) n c.made_time-time.result) c.last_serial-serial.ensures) in
    λ version. subst (λ (old : ConverterView). TakesRequest old c.args.id version (device_meaning c.args.request) before after (record { handle = c.hand_out.new.self; queue = c.push_reserved.new.self.items })) c.self.view_is
    (closes_device view c.args.id version c.made_time-time.result c.args.request c.in-Some.held.now before after c.hand_out.new.self c.push_reserved.new.self.items c.requires found times c.hand_out.ensures.ok queue)
