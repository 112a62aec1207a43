-- A step of the server: all that is said of it, once it is kept whether it wanted memory.
use Rattle.ei_pair.specs.Parts.{PartsView}
use Rattle.ei_pair.proofs.SteppingServer.{steps_now, memory_now, spent_now, sound_now, freely_now, all_now}
use Rattle.ei_pair.proofs.parts.Parts.step_server.Goals as goal

pub returns-clause-steps : goal.returns-clause-steps
returns-clause-steps g c =
    let w : PartsView g.row.H.Denot = record {
      ends = c.self.inside.ends;
      asks = c.self.inside.asks;
      tells = c.self.inside.tells;
      converter = c.self.inside.converter;
      serial = c.self.inside.initial_serial;
      steady = c.self.inside.steady;
      client_wanted = c.self.inside.client_wanted;
      server_wanted = c.self.inside.server_wanted;
    } in
    steps_now c.args.self.now w c.take_request-stepped.new.self c.self.view_is _ _ c.take_request-stepped.result c.take_request-stepped.ensures.takes c.is_wanted-self-inside.result c.is_wanted-self-inside.ensures

pub returns-clause-memory : goal.returns-clause-memory
returns-clause-memory g c =
    let w : PartsView g.row.H.Denot = record {
      ends = c.self.inside.ends;
      asks = c.self.inside.asks;
      tells = c.self.inside.tells;
      converter = c.self.inside.converter;
      serial = c.self.inside.initial_serial;
      steady = c.self.inside.steady;
      client_wanted = c.self.inside.client_wanted;
      server_wanted = c.self.inside.server_wanted;
    } in
    memory_now c.args.self.now w c.take_request-stepped.new.self c.self.view_is _ _ c.take_request-stepped.result c.take_request-stepped.ensures.takes c.is_wanted-self-inside.result c.is_wanted-self-inside.ensures

pub returns-clause-spent : goal.returns-clause-spent
returns-clause-spent g c =
    let w : PartsView g.row.H.Denot = record {
      ends = c.self.inside.ends;
      asks = c.self.inside.asks;
      tells = c.self.inside.tells;
      converter = c.self.inside.converter;
      serial = c.self.inside.initial_serial;
      steady = c.self.inside.steady;
      client_wanted = c.self.inside.client_wanted;
      server_wanted = c.self.inside.server_wanted;
    } in
    spent_now c.args.self.now w c.take_request-stepped.new.self c.self.view_is _ _ c.take_request-stepped.result c.take_request-stepped.ensures.takes c.is_wanted-self-inside.result c.is_wanted-self-inside.ensures

pub returns-clause-sound : goal.returns-clause-sound
returns-clause-sound g c =
    let w : PartsView g.row.H.Denot = record {
      ends = c.self.inside.ends;
      asks = c.self.inside.asks;
      tells = c.self.inside.tells;
      converter = c.self.inside.converter;
      serial = c.self.inside.initial_serial;
      steady = c.self.inside.steady;
      client_wanted = c.self.inside.client_wanted;
      server_wanted = c.self.inside.server_wanted;
    } in
    sound_now c.args.self.now w c.take_request-stepped.new.self c.self.view_is _ _ c.take_request-stepped.result c.take_request-stepped.ensures.takes c.is_wanted-self-inside.result c.is_wanted-self-inside.ensures c.requires.sound c.requires.whole c.stepping.ensures.server c.resting.ensures.spent

pub returns-clause-freely : goal.returns-clause-freely
returns-clause-freely g c =
    let w : PartsView g.row.H.Denot = record {
      ends = c.self.inside.ends;
      asks = c.self.inside.asks;
      tells = c.self.inside.tells;
      converter = c.self.inside.converter;
      serial = c.self.inside.initial_serial;
      steady = c.self.inside.steady;
      client_wanted = c.self.inside.client_wanted;
      server_wanted = c.self.inside.server_wanted;
    } in
    freely_now c.args.self.now w c.take_request-stepped.new.self c.self.view_is _ _ c.take_request-stepped.result c.take_request-stepped.ensures.takes c.is_wanted-self-inside.result c.is_wanted-self-inside.ensures c.requires.sound c.requires.whole c.stepping.ensures.server

pub returns-clause-all : goal.returns-clause-all
returns-clause-all g c =
    let w : PartsView g.row.H.Denot = record {
      ends = c.self.inside.ends;
      asks = c.self.inside.asks;
      tells = c.self.inside.tells;
      converter = c.self.inside.converter;
      serial = c.self.inside.initial_serial;
      steady = c.self.inside.steady;
      client_wanted = c.self.inside.client_wanted;
      server_wanted = c.self.inside.server_wanted;
    } in
    all_now c.args.self.now w c.take_request-stepped.new.self c.self.view_is _ _ c.take_request-stepped.result c.take_request-stepped.ensures.takes c.is_wanted-self-inside.result c.is_wanted-self-inside.ensures c.requires.sound c.requires.whole c.waiting.ensures.server

pub take_request-stepped-requires-clause-sound : goal.take_request-stepped-requires-clause-sound
take_request-stepped-requires-clause-sound g c = c.requires.sound

pub take_request-stepped-requires-clause-whole : goal.take_request-stepped-requires-clause-whole
take_request-stepped-requires-clause-whole g c = c.requires.whole

pub returns-clause-clock : goal.returns-clause-clock
returns-clause-clock g c = c.take_request-stepped.ensures.clock
