-- An event is handed out, or there is none.
use Rattle.ei_pair.specs.Parts.{PartsView}
use Rattle.ei_pair.proofs.MovedOn.{none_first, none_rest, event_first, event_rest, event_sound}
use Rattle.ei_pair.proofs.parts.Parts.next_event.Goals as goal

pub returns-in_default-clause-first : goal.returns-in_default-clause-first
returns-in_default-clause-first g c =
    let i = c.self.inside in
    let v : PartsView g.row.H.Denot = record { ends = i.ends; asks = i.asks; tells = i.tells; converter = i.converter; serial = i.initial_serial; steady = i.steady; client_wanted = i.client_wanted; server_wanted = i.server_wanted } in
    none_first v c.args.self.now c.self.view_is c.in_default.is

pub returns-in_default-clause-rest : goal.returns-in_default-clause-rest
returns-in_default-clause-rest g c =
    let i = c.self.inside in
    let v : PartsView g.row.H.Denot = record { ends = i.ends; asks = i.asks; tells = i.tells; converter = i.converter; serial = i.initial_serial; steady = i.steady; client_wanted = i.client_wanted; server_wanted = i.server_wanted } in
    none_rest v c.args.self.now c.self.view_is c.in_default.is

pub returns-clause-first : goal.returns-clause-first
returns-clause-first g c =
    let i = c.self.inside in
    let v : PartsView g.row.H.Denot = record { ends = i.ends; asks = i.asks; tells = i.tells; converter = i.converter; serial = i.initial_serial; steady = i.steady; client_wanted = i.client_wanted; server_wanted = i.server_wanted } in
    event_first v c.args.self.now c.self.view_is c.in-Some.converter c.next_event.new.self c.in-Some.is c.next_event.result c.next_event.ensures.first

pub returns-clause-rest : goal.returns-clause-rest
returns-clause-rest g c =
    let i = c.self.inside in
    let v : PartsView g.row.H.Denot = record { ends = i.ends; asks = i.asks; tells = i.tells; converter = i.converter; serial = i.initial_serial; steady = i.steady; client_wanted = i.client_wanted; server_wanted = i.server_wanted } in
    event_rest v c.args.self.now c.self.view_is c.in-Some.converter c.next_event.new.self c.in-Some.is c.next_event.ensures.rest

pub returns-clause-sound : goal.returns-clause-sound
returns-clause-sound g c =
    let i = c.self.inside in
    let v : PartsView g.row.H.Denot = record { ends = i.ends; asks = i.asks; tells = i.tells; converter = i.converter; serial = i.initial_serial; steady = i.steady; client_wanted = i.client_wanted; server_wanted = i.server_wanted } in
    event_sound v c.args.self.now c.self.view_is c.in-Some.converter c.next_event.new.self c.in-Some.is c.resting.ensures.client_queue c.requires.sound c.next_event.ensures.rest
