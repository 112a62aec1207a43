-- The converter or the handshaker handled the request.
use Rattle.std.proofs.Common.{refl, sym, ap, ◌∙◌}
use Rattle.ei_pair.specs.ServerEnd.{endpoint_in}
use Rattle.ei_pair.specs.declared.server_end.ServerEnd.TheVariants as end
use Rattle.ei_pair.proofs.Finishing.{obeys_talking, obeys_shaking}
use Rattle.ei_pair.proofs.shaking.obey.Goals as goal

pub returns-in-Talking-clause-obeys : goal.returns-in-Talking-clause-obeys
returns-in-Talking-clause-obeys g c =
    obeys_talking c.args.server.now c.in-Talking.converter c.handle_request.new.self c.args.tells.now c.args.tells.now c.args.request _ _ c.handle_request.result (end.Talking c.handle_request.new.self)
    c.in-Talking.is c.handle_request.ensures.handles refl refl

pub shake-requires-clause-shakes : goal.shake-requires-clause-shakes
shake-requires-clause-shakes g c = c.in-Shaking.is ∙ sym (ap (λ x. end.Shaking (endpoint_in x)) c.in-Shaking.is)

pub returns-in-Shaking-clause-obeys : goal.returns-in-Shaking-clause-obeys
returns-in-Shaking-clause-obeys g c =
    obeys_shaking c.args.server.now (endpoint_in c.args.server.now) c.args.tells.now c.shake.new.tells c.args.request _ _ c.shake.result c.shake.new.server
    (c.in-Shaking.is ∙ sym (ap (λ x. end.Shaking (endpoint_in x)) c.in-Shaking.is)) c.shake.ensures refl

pub shake-requires-clause-serial : goal.shake-requires-clause-serial
shake-requires-clause-serial g c = c.requires.serial

pub returns-in-Talking-clause-clock : goal.returns-in-Talking-clause-clock
returns-in-Talking-clause-clock g c = c.handle_request.ensures.clock

pub returns-in-Shaking-clause-clock : goal.returns-in-Shaking-clause-clock
returns-in-Shaking-clause-clock g c = record { later_clock = g.met.C.Clock.later_refl _ }
