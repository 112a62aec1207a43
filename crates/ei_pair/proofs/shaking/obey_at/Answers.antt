-- The same of an end by its fields.
use Rattle.std.proofs.Common.{ap, subst}
use Rattle.ei_linked.specs.Held.{Held}
use Rattle.ei_pair.specs.declared.server_end.ServerEnd.{ServerEnd}
use Rattle.ei_pair.specs.Stages.{ObeysEnd}
use Rattle.ei_pair.proofs.shaking.obey_at.Goals as goal

pub returns-clause-obeys : goal.returns-clause-obeys
returns-clause-obeys g c =
    subst (λ (h : Held ServerEnd). ObeysEnd h.context c.args.tells.now c.args.request (g.C.Clock.view c.args.clock.now).left (g.C.Clock.view c.obey.new.clock).left c.obey.result c.obey.new.tells c.obey.new.server)
    c.server.view_is c.obey.ensures.obeys

pub returns-clause-rest : goal.returns-clause-rest
returns-clause-rest g c = ap (λ (h : Held ServerEnd). let n : Held ServerEnd = record h { context = c.obey.new.server } in n) c.server.view_is

pub obey-requires : goal.obey-requires
obey-requires g c = record { serial = c.requires.serial }

pub returns-clause-clock : goal.returns-clause-clock
returns-clause-clock g c = c.obey.ensures.clock
