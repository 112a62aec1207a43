-- The exits of the server's next message: memory was wanted, none is there, it was handed on, or it has no target.
use Rattle.std.proofs.Common.{Bool, true, Option, Some, Result, Ok, Err, sym, ap, subst, ◌∙◌}
use Rattle.std.specs.Prelude.{not}
use Rattle.std.proofs.lemmas.Result.{err_from_is_err_and}
use Rattle.ei_types.specs.declared.error.Error.{Error}
use Rattle.ei_backend.specs.declared.message.PendingRequestResult.{PendingRequestResult}
use Rattle.ei_server.specs.declared.request.Request.{Request}
use Rattle.ei_linked.specs.Ends.{world_in}
use Rattle.ei_linked.specs.TwoEnds.{IsWorld}
use Rattle.ei_promises.specs.Stepping.{as_step}
use Rattle.ei_pair.specs.ServerEnd.{endpoint_in}
use Rattle.ei_pair.specs.Parts.{PartsView}
use Rattle.ei_pair.proofs.TakingServer.{has_connection, takes_wants, takes_none, takes_gone_shaking, takes_gone_serving, takes_took, takes_handed, never_refused}
use Rattle.ei_pair.proofs.parts.Parts.take_request.Goals as goal

pub read_server-requires-clause-world : goal.read_server-requires-clause-world
read_server-requires-clause-world g c = subst (λ (p : PartsView g.row.H.Denot). IsWorld (world_in endpoint_in p.ends)) (sym c.self.view_is) c.requires.sound.kept.pair.world

pub read_server-requires-clause-whole : goal.read_server-requires-clause-whole
read_server-requires-clause-whole g c = ap (λ (p : PartsView g.row.H.Denot). p.ends.spent) c.self.view_is ∙ c.requires.whole

pub returns-in_err-pending-clause-takes : goal.returns-in_err-pending-clause-takes
returns-in_err-pending-clause-takes g c =
    let v : PartsView g.row.H.Denot = record {
      ends = c.self.inside.ends;
      asks = c.self.inside.asks;
      tells = c.self.inside.tells;
      converter = c.self.inside.converter;
      serial = c.self.inside.initial_serial;
      steady = c.self.inside.steady;
      client_wanted = c.self.inside.client_wanted;
      server_wanted = c.self.inside.server_wanted;
    } in
    let p = err_from_is_err_and c.from_residual.result c.from_residual.ensures.1 in
    takes_wants v c.args.self.now c.self.view_is c.read_server.new.self (g.C.Clock.view c.args.clock.now).left c.read_server.ensures.keeps c.requires.sound c.requires.whole c.read_server.ensures.world c.from_residual.result
    (p.1 ∙ ap (λ (e : Error). let r : Result Bool Error = Err e in r) p.2) c.in_err-pending.ensures.err

pub returns-in_default-clause-takes : goal.returns-in_default-clause-takes
returns-in_default-clause-takes g c =
    let v : PartsView g.row.H.Denot = record {
      ends = c.self.inside.ends;
      asks = c.self.inside.asks;
      tells = c.self.inside.tells;
      converter = c.self.inside.converter;
      serial = c.self.inside.initial_serial;
      steady = c.self.inside.steady;
      client_wanted = c.self.inside.client_wanted;
      server_wanted = c.self.inside.server_wanted;
    } in
    takes_none v c.args.self.now c.self.view_is c.read_server.new.self (g.C.Clock.view c.args.clock.now).left c.read_server.ensures.keeps c.requires.sound c.requires.whole c.read_server.ensures.world c.in_ok-pending.ensures.stores c.in_ok-pending.field-0 c.in_ok-pending.ensures.ok c.in_default.is

pub hand_request-requires : goal.hand_request-requires
hand_request-requires g c =
    let v : PartsView g.row.H.Denot = record {
      ends = c.self.inside.ends;
      asks = c.self.inside.asks;
      tells = c.self.inside.tells;
      converter = c.self.inside.converter;
      serial = c.self.inside.initial_serial;
      steady = c.self.inside.steady;
      client_wanted = c.self.inside.client_wanted;
      server_wanted = c.self.inside.server_wanted;
    } in
    record {
      took = takes_took v c.args.self.now c.self.view_is c.read_server.new.self (g.C.Clock.view c.args.clock.now).left c.read_server.ensures.keeps c.requires.sound c.requires.whole c.read_server.ensures.world c.in_ok-pending.ensures.stores c.in_ok-pending.field-0 c.in_ok-pending.ensures.ok c.in-Request.request (c.in-Some.is ∙ ap (λ (x : PendingRequestResult Request). let o : Option (PendingRequestResult Request) = Some x in o) c.in-Request.is);
      serial = ap (λ (p : PartsView g.row.H.Denot). p.serial) c.self.view_is ∙ c.requires.sound.serial ∙ sym (ap (λ (p : PartsView g.row.H.Denot). p.tells.serial) c.self.view_is);
    }

pub returns-in_err-hand_request-in-Request-clause-takes : goal.returns-in_err-hand_request-in-Request-clause-takes
returns-in_err-hand_request-in-Request-clause-takes g c =
    let v : PartsView g.row.H.Denot = record {
      ends = c.self.inside.ends;
      asks = c.self.inside.asks;
      tells = c.self.inside.tells;
      converter = c.self.inside.converter;
      serial = c.self.inside.initial_serial;
      steady = c.self.inside.steady;
      client_wanted = c.self.inside.client_wanted;
      server_wanted = c.self.inside.server_wanted;
    } in
    let p = err_from_is_err_and c.from_residual-in_err-hand_request-in-Request.result c.from_residual-in_err-hand_request-in-Request.ensures.1 in
    takes_handed v c.args.self.now c.self.view_is c.read_server.new.self (g.C.Clock.view c.args.clock.now).left c.read_server.ensures.keeps c.requires.sound c.requires.whole c.read_server.ensures.world c.in_ok-pending.ensures.stores c.in_ok-pending.field-0 c.in_ok-pending.ensures.ok c.in-Request.request (c.in-Some.is ∙ ap (λ (x : PendingRequestResult Request). let o : Option (PendingRequestResult Request) = Some x in o) c.in-Request.is)
    (g.C.Clock.view c.hand_request.new.clock).left c.hand_request.result c.hand_request.new.self c.hand_request.ensures.hands c.from_residual-in_err-hand_request-in-Request.result
    (ap (λ (r : Result (Unit {0}) Error). as_step r) c.in_err-hand_request-in-Request.was ∙ sym (p.1 ∙ ap (λ (e : Error). let r : Result Bool Error = Err e in r) p.2))

pub returns-in_ok-hand_request-in-Request-clause-takes : goal.returns-in_ok-hand_request-in-Request-clause-takes
returns-in_ok-hand_request-in-Request-clause-takes g c =
    let v : PartsView g.row.H.Denot = record {
      ends = c.self.inside.ends;
      asks = c.self.inside.asks;
      tells = c.self.inside.tells;
      converter = c.self.inside.converter;
      serial = c.self.inside.initial_serial;
      steady = c.self.inside.steady;
      client_wanted = c.self.inside.client_wanted;
      server_wanted = c.self.inside.server_wanted;
    } in
    takes_handed v c.args.self.now c.self.view_is c.read_server.new.self (g.C.Clock.view c.args.clock.now).left c.read_server.ensures.keeps c.requires.sound c.requires.whole c.read_server.ensures.world c.in_ok-pending.ensures.stores c.in_ok-pending.field-0 c.in_ok-pending.ensures.ok c.in-Request.request (c.in-Some.is ∙ ap (λ (x : PendingRequestResult Request). let o : Option (PendingRequestResult Request) = Some x in o) c.in-Request.is)
    (g.C.Clock.view c.hand_request.new.clock).left c.hand_request.result c.hand_request.new.self c.hand_request.ensures.hands (Ok true)
    (ap (λ (r : Result (Unit {0}) Error). as_step r) c.in_ok-hand_request-in-Request.was)

pub returns-then-is_none-clause-takes : goal.returns-then-is_none-clause-takes
returns-then-is_none-clause-takes g c =
    let v : PartsView g.row.H.Denot = record {
      ends = c.self.inside.ends;
      asks = c.self.inside.asks;
      tells = c.self.inside.tells;
      converter = c.self.inside.converter;
      serial = c.self.inside.initial_serial;
      steady = c.self.inside.steady;
      client_wanted = c.self.inside.client_wanted;
      server_wanted = c.self.inside.server_wanted;
    } in
    takes_gone_shaking v c.args.self.now c.self.view_is c.read_server.new.self (g.C.Clock.view c.args.clock.now).left c.read_server.ensures.keeps c.requires.sound c.requires.whole c.read_server.ensures.world c.in_ok-pending.ensures.stores c.in_ok-pending.field-0 c.in_ok-pending.ensures.ok c.in-InvalidObject.id (c.in-Some.is ∙ ap (λ (x : PendingRequestResult Request). let o : Option (PendingRequestResult Request) = Some x in o) c.in-InvalidObject.is)
    (has_connection c.handle.result _ c.is_none.result c.handle.ensures c.is_none.ensures ∙ ap not c.if-is_none.true)

pub returns-else-is_none-clause-takes : goal.returns-else-is_none-clause-takes
returns-else-is_none-clause-takes g c =
    let v : PartsView g.row.H.Denot = record {
      ends = c.self.inside.ends;
      asks = c.self.inside.asks;
      tells = c.self.inside.tells;
      converter = c.self.inside.converter;
      serial = c.self.inside.initial_serial;
      steady = c.self.inside.steady;
      client_wanted = c.self.inside.client_wanted;
      server_wanted = c.self.inside.server_wanted;
    } in
    takes_gone_serving v c.args.self.now c.self.view_is c.read_server.new.self (g.C.Clock.view c.args.clock.now).left c.read_server.ensures.keeps c.requires.sound c.requires.whole c.read_server.ensures.world c.in_ok-pending.ensures.stores c.in_ok-pending.field-0 c.in_ok-pending.ensures.ok c.in-InvalidObject.id (c.in-Some.is ∙ ap (λ (x : PendingRequestResult Request). let o : Option (PendingRequestResult Request) = Some x in o) c.in-InvalidObject.is)
    (has_connection c.handle.result _ c.is_none.result c.handle.ensures c.is_none.ensures ∙ ap not c.if-is_none.false)

pub returns-in-ParseError-clause-takes : goal.returns-in-ParseError-clause-takes
returns-in-ParseError-clause-takes g c =
    never_refused c.in_ok-pending.field-0 c.in-ParseError.error c.in_ok-pending.ensures.never_refused (c.in-Some.is ∙ ap (λ (x : PendingRequestResult Request). let o : Option (PendingRequestResult Request) = Some x in o) c.in-ParseError.is)

pub returns-in_err-pending-clause-clock : goal.returns-in_err-pending-clause-clock
returns-in_err-pending-clause-clock g c = record { later_clock = g.met.C.Clock.later_refl _ }

pub returns-in_default-clause-clock : goal.returns-in_default-clause-clock
returns-in_default-clause-clock g c = record { later_clock = g.met.C.Clock.later_refl _ }

pub returns-then-is_none-clause-clock : goal.returns-then-is_none-clause-clock
returns-then-is_none-clause-clock g c = record { later_clock = g.met.C.Clock.later_refl _ }

pub returns-in-ParseError-clause-clock : goal.returns-in-ParseError-clause-clock
returns-in-ParseError-clause-clock g c = record { later_clock = g.met.C.Clock.later_refl _ }

pub returns-else-is_none-clause-clock : goal.returns-else-is_none-clause-clock
returns-else-is_none-clause-clock g c = record { later_clock = g.met.C.Clock.later_refl _ }

pub returns-in_err-hand_request-in-Request-clause-clock : goal.returns-in_err-hand_request-in-Request-clause-clock
returns-in_err-hand_request-in-Request-clause-clock g c = c.hand_request.ensures.clock

pub returns-in_ok-hand_request-in-Request-clause-clock : goal.returns-in_ok-hand_request-in-Request-clause-clock
returns-in_ok-hand_request-in-Request-clause-clock g c = c.hand_request.ensures.clock
