-- A request is handed out, or there is none.
use Rattle.ei_pair.specs.Parts.{PartsView}
use Rattle.ei_pair.proofs.MovedOn.{request_first, request_rest, request_sound}
use Rattle.ei_pair.proofs.parts.Parts.next_request.Goals as goal

pub returns-clause-first : goal.returns-clause-first
returns-clause-first g c =
    let i = c.self.inside in
    let v : PartsView g.row.H.Denot = record { ends = i.ends; asks = i.asks; tells = i.tells; converter = i.converter; serial = i.initial_serial; steady = i.steady; client_wanted = i.client_wanted; server_wanted = i.server_wanted } in
    request_first v c.args.self.now c.self.view_is c.next_at.new.ends c.next_at.ensures.rest c.next_at.result c.next_at.ensures.first

pub returns-clause-rest : goal.returns-clause-rest
returns-clause-rest g c =
    let i = c.self.inside in
    let v : PartsView g.row.H.Denot = record { ends = i.ends; asks = i.asks; tells = i.tells; converter = i.converter; serial = i.initial_serial; steady = i.steady; client_wanted = i.client_wanted; server_wanted = i.server_wanted } in
    request_rest v c.args.self.now c.self.view_is c.next_at.new.ends c.next_at.ensures.rest

pub returns-clause-sound : goal.returns-clause-sound
returns-clause-sound g c =
    let i = c.self.inside in
    let v : PartsView g.row.H.Denot = record { ends = i.ends; asks = i.asks; tells = i.tells; converter = i.converter; serial = i.initial_serial; steady = i.steady; client_wanted = i.client_wanted; server_wanted = i.server_wanted } in
    request_sound v c.args.self.now c.self.view_is c.next_at.new.ends c.next_at.ensures.rest c.resting.ensures.server_queue c.requires.sound
