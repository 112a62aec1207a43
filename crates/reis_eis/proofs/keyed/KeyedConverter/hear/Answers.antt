use Rattle.std.proofs.Common.{ℕ, List, Option, Some}
use Rattle.reis_eis.specs.Lent.{readings_left}
use Rattle.reis_eis.proofs.Obeying.{taken, accepted, refused, stays, keys_stay}
use Rattle.reis_eis.proofs.keyed.KeyedConverter.hear.Goals as goal

pub invariant_of-self : goal.invariant_of-self
invariant_of-self c =
    let before : Option (List ℕ) = Some (readings_left c.at-clock.result.is_read c.at-clock.result.time) in
    let after : Option (List ℕ) = Some (readings_left c.handle_request.new.clock.is_read c.handle_request.new.clock.time) in
    keys_stay c.self.inside.converter c.handle_request.new.self c.args.request c.handle_request.result before after c.self.inside.seats.items c.self.inside.devices.items c.handle_request.ensures.handles c.self.invariant

pub returns : goal.returns
returns c =
    let before : Option (List ℕ) = Some (readings_left c.at-clock.result.is_read c.at-clock.result.time) in
    let after : Option (List ℕ) = Some (readings_left c.handle_request.new.clock.is_read c.handle_request.new.clock.time) in
    rw (← c.self.view_is) (record {
      accepted = accepted c.self.inside.converter c.handle_request.new.self c.args.request c.handle_request.result before after c.handle_request.ensures.handles;
      does = taken c.self.inside.converter c.handle_request.new.self c.args.request c.handle_request.result c.at-clock.result.is_read c.at-clock.result.time c.args.time after
          c.at-clock.ensures.unread c.at-clock.ensures.time c.handle_request.ensures.handles;
      err = refused c.self.inside.converter c.handle_request.new.self c.args.request c.handle_request.result before after c.handle_request.ensures.handles;
      kept = (stays c.self.inside.converter c.handle_request.new.self c.args.request c.handle_request.result before after c.handle_request.ensures.handles).unread;
    })
