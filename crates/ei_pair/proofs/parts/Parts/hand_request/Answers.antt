-- The parts once both ends handled the request, by their fields.
use Rattle.std.proofs.Common.{sym, ap, ◌∙◌}
use Rattle.ei_pair.specs.Parts.{PartsView}
use Rattle.ei_pair.proofs.Laws.{server_laws}
use Rattle.ei_pair.proofs.Handed.{hands_parts}
use Rattle.ei_pair.proofs.parts.Parts.hand_request.Goals as goal

pub hand-requires : goal.hand-requires
hand-requires g c = record { serial = ap (λ (p : PartsView g.row.H.Denot). p.serial) c.self.view_is ∙ c.requires.serial ∙ sym (ap (λ (p : PartsView g.row.H.Denot). p.tells.serial) c.self.view_is) }

pub returns-clause-hands : goal.returns-clause-hands
returns-clause-hands g c =
    let v : PartsView g.row.H.Denot = record {
      ends = c.self.inside.ends;
      asks = c.self.inside.asks;
      tells = c.self.inside.tells;
      converter = c.self.inside.converter;
      serial = c.self.inside.initial_serial;
      steady = c.self.inside.steady;
      client_wanted = c.self.inside.client_wanted;
      server_wanted = c.self.inside.server_wanted;
    } in
    hands_parts (server_laws c.server_sends.ensures.shakes c.server_sends.ensures.serves) v c.args.self.now c.self.view_is c.args.request _ _ c.hand.result c.hand.new.tells c.hand.new.ends c.hand.ensures.hands c.requires.took
    (ap (λ (p : PartsView g.row.H.Denot). p.serial) c.self.view_is ∙ c.requires.serial ∙ sym (ap (λ (p : PartsView g.row.H.Denot). p.tells.serial) c.self.view_is))

pub returns-clause-clock : goal.returns-clause-clock
returns-clause-clock g c = c.hand.ensures.clock
