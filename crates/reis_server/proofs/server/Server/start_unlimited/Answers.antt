use Rattle.std.proofs.Common.{[]}
use Rattle.ei_serve.specs.Standing.{unlimited}
use Rattle.reis_server.specs.Serving.{nothing}
use Rattle.reis_server.proofs.Starting.{starts_queued}
use Rattle.reis_server.proofs.server.Server.start_unlimited.Goals as goal

pub invariant_of-result : goal.invariant_of-result
invariant_of-result c = record {
  setup = unlimited c.args.initial_serial c.args.capabilities;
  fed = [];
  sent = nothing;
  given = [];
  serving = starts_queued (unlimited c.args.initial_serial c.args.capabilities) c.in_ok-session.session _ _ _ c.new-replies.ensures c.new.ensures c.in_ok-session.ensures.stands c.in_ok-session.ensures.greeted;
}

pub returns-clause-serves : goal.returns-clause-serves
returns-clause-serves c =
    starts_queued (unlimited c.args.initial_serial c.args.capabilities) c.in_ok-session.session _ _ _ c.new-replies.ensures c.new.ensures c.in_ok-session.ensures.stands c.in_ok-session.ensures.greeted
