-- A step of the client is over: what it comes to, and what holds then.
use Rattle.ei_pair.specs.Parts.{PartsView}
use Rattle.ei_pair.proofs.Marked.{marked_steps, marked_spent, marked_sound, marked_freely, marked_refuses, marked_all, spent_was}
use Rattle.ei_pair.proofs.parts.Parts.step_client.Goals as goal

pub returns-clause-steps : goal.returns-clause-steps
returns-clause-steps g c =
    let i = c.self.inside in
    let v : PartsView g.row.H.Denot = record { ends = i.ends; asks = i.asks; tells = i.tells; converter = i.converter; serial = i.initial_serial; steady = i.steady; client_wanted = i.client_wanted; server_wanted = i.server_wanted } in
    let t = c.take_event-stepped.ensures in
    marked_steps g.H.Call.may_answer c.args.self.now c.take_event-stepped.new.self v c.self.view_is c.is_wanted-self-inside.result c.take_event-stepped.result c.is_wanted-self-inside.ensures (g.C.Clock.view c.args.clock.now).left (g.C.Clock.view c.take_event-stepped.new.clock).left t.steps

pub returns-clause-memory : goal.returns-clause-memory
returns-clause-memory g c =
    let i = c.self.inside in
    let v : PartsView g.row.H.Denot = record { ends = i.ends; asks = i.asks; tells = i.tells; converter = i.converter; serial = i.initial_serial; steady = i.steady; client_wanted = i.client_wanted; server_wanted = i.server_wanted } in
    let t = c.take_event-stepped.ensures in
    λ spent. t.memory (spent_was g.H.Call.may_answer c.args.self.now c.take_event-stepped.new.self v c.self.view_is c.is_wanted-self-inside.result c.take_event-stepped.result c.is_wanted-self-inside.ensures (g.C.Clock.view c.args.clock.now).left (g.C.Clock.view c.take_event-stepped.new.clock).left spent)

pub returns-clause-spent : goal.returns-clause-spent
returns-clause-spent g c =
    let i = c.self.inside in
    let v : PartsView g.row.H.Denot = record { ends = i.ends; asks = i.asks; tells = i.tells; converter = i.converter; serial = i.initial_serial; steady = i.steady; client_wanted = i.client_wanted; server_wanted = i.server_wanted } in
    let t = c.take_event-stepped.ensures in
    marked_spent g.H.Call.may_answer c.args.self.now c.take_event-stepped.new.self v c.self.view_is c.is_wanted-self-inside.result c.take_event-stepped.result c.is_wanted-self-inside.ensures (g.C.Clock.view c.args.clock.now).left (g.C.Clock.view c.take_event-stepped.new.clock).left t.spent t.memory

pub returns-clause-sound : goal.returns-clause-sound
returns-clause-sound g c =
    let i = c.self.inside in
    let v : PartsView g.row.H.Denot = record { ends = i.ends; asks = i.asks; tells = i.tells; converter = i.converter; serial = i.initial_serial; steady = i.steady; client_wanted = i.client_wanted; server_wanted = i.server_wanted } in
    let t = c.take_event-stepped.ensures in
    marked_sound g.H.Call.may_answer c.args.self.now c.take_event-stepped.new.self v c.self.view_is c.is_wanted-self-inside.result c.take_event-stepped.result c.is_wanted-self-inside.ensures (g.C.Clock.view c.args.clock.now).left (g.C.Clock.view c.take_event-stepped.new.clock).left c.stepping.ensures.client c.resting.ensures.spent c.requires.sound c.requires.whole t.steps t.spent t.memory t.world t.serial

pub returns-clause-freely : goal.returns-clause-freely
returns-clause-freely g c =
    let i = c.self.inside in
    let v : PartsView g.row.H.Denot = record { ends = i.ends; asks = i.asks; tells = i.tells; converter = i.converter; serial = i.initial_serial; steady = i.steady; client_wanted = i.client_wanted; server_wanted = i.server_wanted } in
    let t = c.take_event-stepped.ensures in
    marked_freely g.H.Call.may_answer c.args.self.now c.take_event-stepped.new.self v c.self.view_is c.is_wanted-self-inside.result c.take_event-stepped.result c.is_wanted-self-inside.ensures (g.C.Clock.view c.args.clock.now).left (g.C.Clock.view c.take_event-stepped.new.clock).left c.stepping.ensures.client c.resting.ensures.spent c.requires.sound c.requires.whole t.steps t.spent t.memory

pub returns-clause-refuses_none : goal.returns-clause-refuses_none
returns-clause-refuses_none g c =
    let i = c.self.inside in
    let v : PartsView g.row.H.Denot = record { ends = i.ends; asks = i.asks; tells = i.tells; converter = i.converter; serial = i.initial_serial; steady = i.steady; client_wanted = i.client_wanted; server_wanted = i.server_wanted } in
    let t = c.take_event-stepped.ensures in
    marked_refuses g.H.Call.may_answer c.args.self.now c.take_event-stepped.new.self v c.self.view_is c.is_wanted-self-inside.result c.take_event-stepped.result c.is_wanted-self-inside.ensures (g.C.Clock.view c.args.clock.now).left (g.C.Clock.view c.take_event-stepped.new.clock).left c.stepping.ensures.client c.resting.ensures.spent c.requires.sound c.requires.whole t.steps t.spent t.memory

pub returns-clause-all : goal.returns-clause-all
returns-clause-all g c =
    let i = c.self.inside in
    let v : PartsView g.row.H.Denot = record { ends = i.ends; asks = i.asks; tells = i.tells; converter = i.converter; serial = i.initial_serial; steady = i.steady; client_wanted = i.client_wanted; server_wanted = i.server_wanted } in
    let t = c.take_event-stepped.ensures in
    marked_all g.H.Call.may_answer c.args.self.now c.take_event-stepped.new.self v c.self.view_is c.is_wanted-self-inside.result c.take_event-stepped.result c.is_wanted-self-inside.ensures (g.C.Clock.view c.args.clock.now).left (g.C.Clock.view c.take_event-stepped.new.clock).left c.waiting.ensures.client c.requires.sound c.requires.whole t.steps t.memory
